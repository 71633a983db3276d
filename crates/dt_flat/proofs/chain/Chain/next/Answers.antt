use Rattle.std.proofs.Common.{◌≡◌, ◌<◌, ◌+◌, ◌-◌, ◌∙◌, ap, ℕ, suc, List, length, drop, slice_index, get_or, arith}
use Rattle.dt_flat.specs.declared.chain.Link.{Link}
use Rattle.dt_flat.specs.Chain.{owners_kept, first_rank}
use Rattle.dt_flat.proofs.ChainLemmas.{length-owners, next-linked}
use Rattle.dt_flat.proofs.chain.Chain.next.Goals as goal

pub index-requires : goal.index-requires
index-requires c = omega (arith, c.requires.0, c.requires.1, ap (λ (xs : List ℕ). length xs) c.self.view_is, length-owners c.self.inside.links.items)

pub returns : goal.returns
returns c =
    let links = c.self.inside.links.items in
    let d = c.index.result.now in
    let k = c.args.rank - 1 in
    let at : suc k ≡ c.args.rank = omega (arith, c.requires.0) in
    let lt : k < length (owners_kept links) = omega (arith, c.requires.0, c.requires.1, ap (λ (xs : List ℕ). length xs) c.self.view_is) in
    let next : 1 + suc k ≡ c.args.rank + 1 = omega (arith, at) in
    ap (λ (l : Link). l.next) (c.index.ensures ∙ ap (λ (ls : List Link). get_or ls k d) c.self.invariant.links) ∙ next-linked 1 (owners_kept links) k d lt
    ∙ (λ i. first_rank (next i) (drop (at i) (c.self.view_is i)) (slice_index (c.self.view_is i) k))
