use Rattle.std.proofs.Common.{◌≡◌, ◌+◌, ◌++◌, ◌∷◌, [], ◌∙◌, refl, sym, ap, ℕ, List, Option, Some, None, option_map, true}
use Rattle.std.specs.Prelude.{is_some}
use Rattle.dt_flat.specs.declared.nodes.Branch.{Branch}
use Rattle.dt_flat.specs.Rows.{child_from, place_of, branches}
use Rattle.dt_flat.proofs.PlaceLemmas.{on_err}
use Rattle.dt_flat.proofs.RowLemmas.{entered-last, entered-before}
use Rattle.dt_flat.proofs.TableLemmas.{child-place, branches-push}
use Rattle.dt_flat.proofs.nodes.NodeTable.add.Goals as goal

some-mapped : (o : Option ℕ) → is_some o ≡ true → is_some (option_map (λ j. j + 1) o) ≡ true
some-mapped None e = e
some-mapped (Some j) e = refl

pub returns-in_err-enter-clause-absent : goal.returns-in_err-enter-clause-absent
returns-in_err-enter-clause-absent c =
    let p = c.args.branch.parent in
    let k = c.args.branch.name in
    on_err c.from_residual.result _
    (ap (λ (bs : List Branch). child_from 1 p k bs) (sym c.self.view_is) ∙ child-place 1 p k c.self.inside.rows c.self.inside.depths.items c.self.invariant ∙ ap (λ (o : Option ℕ). option_map (λ j. j + 1) o) c.in_err-enter.ensures.absent)

pub returns-then-is_some-clause-added : goal.returns-then-is_some-clause-added
returns-then-is_some-clause-added c =
    let p = c.args.branch.parent in
    let k = c.args.branch.name in
    let row = entered-before p k c.self.inside.rows c.enter.new.self c.in_ok-enter.field-0 c.if-is_some.ensures c.in_ok-enter.ensures.entered in (
      ap (λ (bs : List Branch). is_some (child_from 1 p k bs)) (sym c.self.view_is) ∙ ap is_some (child-place 1 p k c.self.inside.rows c.self.inside.depths.items c.self.invariant) ∙ some-mapped (place_of p k c.self.inside.rows) row.0,
      (λ i. branches (row.1 i) (c.reserve.ensures.items i)) ∙ c.self.view_is,
    )

pub returns-clause-added : goal.returns-clause-added
returns-clause-added c =
    let b = c.args.branch in
    let row = entered-last b.parent b.name c.self.inside.rows c.enter.new.self c.in_ok-enter.field-0 c.if-is_some.ensures c.in_ok-enter.ensures.entered in (
      ap (λ (bs : List Branch). child_from 1 b.parent b.name bs) (sym c.self.view_is) ∙ child-place 1 b.parent b.name c.self.inside.rows c.self.inside.depths.items c.self.invariant ∙ ap (λ (o : Option ℕ). option_map (λ j. j + 1) o) row.0,
      (λ i. branches (row.1 i) ((c.push_reserved.ensures.items ∙ ap (λ (ds : List ℕ). ds ++ b.depth ∷ []) c.reserve.ensures.items) i))
          ∙ branches-push c.self.inside.rows c.self.inside.depths.items b.parent b.name b.depth c.self.invariant
          ∙ ap (λ (bs : List Branch). bs ++ b ∷ []) c.self.view_is,
    )
