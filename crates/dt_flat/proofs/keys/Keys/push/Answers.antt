use Rattle.std.proofs.Common.{◌≡◌, ◌++◌, ◌∷◌, [], ◌∙◌, sym, ap, subst, ℕ, cond, Bool, List, None, length, arith}
use Rattle.dt_flat.specs.Rows.{Row, nodes_of, place_of, entry, PutsRow}
use Rattle.dt_flat.proofs.RowLemmas.{nodes-push}
use Rattle.dt_flat.proofs.IndexLemmas.{row-flip, index-push, index-undone}
use Rattle.dt_flat.proofs.keys.Keys.push.Goals as goal

pub invariant_of-self-in-Err : goal.invariant_of-self-in-Err
invariant_of-self-in-Err c =
    let p = c.args.node in
    let k = c.args.name in
    let rs = c.self.inside.rows.items in
    let mid = c.note.new.index.entries in
    let none : place_of p k rs ≡ None = ap (place_of p k) c.self.view_is ∙ c.requires in (
      c.in-Err.ensures.err ∙ c.self.invariant.0 ∙ ap nodes_of (sym c.reserve.ensures.items),
      λ is q j.
          index-undone rs p k c.self.inside.index.entries mid c.remove.new.self.entries c.len.result none (c.self.invariant.1 is) (c.in_ok-note.ensures.ok is)
          (λ x y. c.remove.ensures.updates.0 (x, y) ∙ ap (λ (b : Bool). cond b None (entry mid x y)) (row-flip x y (p, k))) q j
          ∙ ap (place_of q j) (sym c.reserve.ensures.items),
    )

pub invariant_of-self-2 : goal.invariant_of-self-2
invariant_of-self-2 c =
    let p = c.args.node in
    let k = c.args.name in
    let rs = c.self.inside.rows.items in
    let old = c.self.inside.index.entries in
    let new = c.note.new.index.entries in
    let none : place_of p k rs ≡ None = ap (place_of p k) c.self.view_is ∙ c.requires in
    let items : c.push_reserved.new.self.items ≡ rs ++ (p, k) ∷ [] = c.push_reserved.ensures.items ∙ ap (λ (xs : List Row). xs ++ (p, k) ∷ []) c.reserve.ensures.items in
    let place : c.len.result ≡ length rs = omega (arith, c.len.ensures, ap (λ (xs : List Row). length xs) c.reserve.ensures.items) in (
      c.in_default.ensures.ok ∙ ap (λ (ps : List ℕ). ps ++ p ∷ []) c.self.invariant.0 ∙ sym (ap nodes_of items ∙ nodes-push rs (p, k)),
      λ is q j. index-push rs p k old new none (c.self.invariant.1 is) (subst (PutsRow old new (p, k)) place (c.in_ok-note.ensures.ok is)) q j ∙ ap (place_of q j) (sym items),
    )
