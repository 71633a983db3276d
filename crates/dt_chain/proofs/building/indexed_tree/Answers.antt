use Rattle.std.proofs.Common.{inr, sym, subst}
use Rattle.std.proofs.lemmas.Result.{err_from_is_err_and}
use Rattle.dt_flat.specs.Arena.{Arena, reading}
use Rattle.dt_model.specs.Source.{base}
use Rattle.dt_chain_promises.specs.Compile.{TextHasTree}
use Rattle.dt_chain.proofs.building.indexed_tree.Goals as goal

pub returns-in_err-tree-clause-refused : goal.returns-in_err-tree-clause-refused
returns-in_err-tree-clause-refused c =
    let e = err_from_is_err_and c.from_residual.result c.from_residual.ensures.1 in
    rw (e.1, e.2) (inr c.in_err-tree.ensures.refused)

pub returns-in-Ok-clause-tree : goal.returns-in-Ok-clause-tree
returns-in-Ok-clause-tree c text parsed = record {
  of_text = subst (λ (a : Arena). TextHasTree base text (reading a)) (sym c.in-Ok.ensures.same) (c.in_ok-tree.ensures.tree text parsed);
  valid = c.validity.ensures.valid;
  within = c.validity.ensures.within;
}
