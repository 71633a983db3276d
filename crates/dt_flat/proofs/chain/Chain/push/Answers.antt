use Rattle.std.proofs.Common.{◌≡◌, ◌+◌, ◌++◌, ◌∷◌, [], ◌∙◌, cond, eqb, sym, ap, ℕ, List, length, arith}
use Rattle.dt_flat.specs.declared.chain.Link.{Link}
use Rattle.dt_flat.specs.declared.chain.Ends.{Ends}
use Rattle.dt_flat.specs.Chain.{owners_kept, ends_at, ends_with, mark}
use Rattle.dt_flat.proofs.ChainLemmas.{alike, last-high, length-owners, owners-push, IsLinked-push, IsLinked-same}
use Rattle.dt_flat.proofs.chain.Chain.push.Goals as goal

pub note-requires-clause-last : goal.note-requires-clause-last
note-requires-clause-last c =
    let o = c.args.owner in
    let old = c.self.inside.links.items in
    omega (arith, ap (λ (e : Ends). e.last) (c.in_ok-make_ends.ensures.same o), c.self.invariant.last o, last-high 0 (owners_kept old) o, length-owners old, ap (λ (ls : List Link). length ls) c.reserve.ensures.items)

pub note-requires-clause-alike : goal.note-requires-clause-alike
note-requires-clause-alike c =
    let o = c.args.owner in
    let same = c.in_ok-make_ends.ensures.same o in
    let first = ap (λ (e : Ends). e.first) same ∙ c.self.invariant.first o in
    let last = ap (λ (e : Ends). e.last) same ∙ c.self.invariant.last o in
    let either = alike 0 (owners_kept c.self.inside.links.items) o in
    ((λ e. last ∙ either.0 (sym first ∙ e)), (λ e. first ∙ either.1 (sym last ∙ e)))

pub push_reserved-requires : goal.push_reserved-requires
push_reserved-requires c = omega (arith, c.note.ensures.count, c.note.ensures.room, c.in_ok-reserve.ensures.ok, c.reserve.ensures.len)

pub invariant_of-self : goal.invariant_of-self
invariant_of-self c = IsLinked-same c.self.inside.links.items c.reserve.new.self.items c.self.inside.ends.items c.self.inside.ends.items c.reserve.ensures.items (λ p i. ends_at c.self.inside.ends.items p) c.self.invariant

pub invariant_of-self-2 : goal.invariant_of-self-2
invariant_of-self-2 c =
    let ls = c.self.inside.links.items in
    let es = c.self.inside.ends.items in
    let o = c.args.owner in
    let r = c.len-rank.result + 1 in
    let same = c.in_ok-make_ends.ensures.same in
    let rank : r ≡ length ls + 1 = omega (arith, c.len-rank.ensures, ap (λ (ms : List Link). length ms) c.reserve.ensures.items) in
    let links : c.push_reserved.new.self.items ≡ mark 1 ls (ends_at es o).last (length ls + 1) ++ record { owner = o; next = 0 } ∷ [] =
    c.push_reserved.ensures.items ∙ ap (λ (ms : List Link). ms ++ record { owner = o; next = 0 } ∷ []) (c.note.ensures.links ∙ (λ i. mark 1 (c.reserve.ensures.items i) (same o i).last (rank i))) in
    IsLinked-push ls c.push_reserved.new.self.items es c.note.new.ends.items o c.self.invariant links
    (λ q. c.note.ensures.ends q ∙ (λ i. cond (eqb o q) (ends_with (same q i) (rank i)) (same q i)))

pub returns-clause-ok : goal.returns-clause-ok
returns-clause-ok c =
    let o = c.args.owner in
    ap owners_kept (c.push_reserved.ensures.items ∙ ap (λ (ms : List Link). ms ++ record { owner = o; next = 0 } ∷ []) c.note.ensures.links)
    ∙ owners-push (ends_at c.make_ends.new.ends.items o).last (c.len-rank.result + 1) o c.reserve.new.self.items
    ∙ ap (λ (ls : List Link). owners_kept ls ++ o ∷ []) c.reserve.ensures.items
    ∙ ap (λ (os : List ℕ). os ++ o ∷ []) c.self.view_is
