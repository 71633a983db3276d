use Rattle.std.proofs.Common.{◌≡◌, ◌+◌, ◌++◌, ◌∷◌, [], ◌∙◌, refl, sym, ap, ℕ, List, Option, Some, None, option_map}
use Rattle.dt_flat.specs.declared.nodes.Branch.{Branch}
use Rattle.dt_flat.specs.Rows.{child_from, branches, place_of}
use Rattle.dt_flat.proofs.TableLemmas.{child-place, branches-push}
use Rattle.dt_flat.proofs.nodes.NodeTable.plant.Goals as goal

none-mapped : (o : Option ℕ) → option_map (λ j. j + 1) o ≡ None → o ≡ None
none-mapped None e = refl
none-mapped (Some j) e = cc

pub push-requires : goal.push-requires
push-requires c =
    let b = c.args.branch in
    none-mapped (place_of b.parent b.name c.self.inside.rows)
    (sym (child-place 1 b.parent b.name c.self.inside.rows c.self.inside.depths.items c.self.invariant) ∙ ap (λ (bs : List Branch). child_from 1 b.parent b.name bs) c.self.view_is ∙ c.requires)

pub returns-clause-ok : goal.returns-clause-ok
returns-clause-ok c =
    let b = c.args.branch in
    (λ i. branches (c.in_ok-push.ensures.ok i) ((c.push_reserved.ensures.items ∙ ap (λ (ds : List ℕ). ds ++ b.depth ∷ []) c.reserve.ensures.items) i))
    ∙ branches-push c.self.inside.rows c.self.inside.depths.items b.parent b.name b.depth c.self.invariant
    ∙ ap (λ (bs : List Branch). bs ++ b ∷ []) c.self.view_is
