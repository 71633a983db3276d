use Rattle.std.proofs.Common.{◌≡◌, ◌⊎◌, inl, inr, sym, subst}
use Rattle.std.proofs.lemmas.Result.{err_from_is_err_and}
use Rattle.dt_flat.specs.Arena.{reading}
use Rattle.dt_grammar.specs.Parsed.{IsParsed}
use Rattle.dt_model.specs.Source.{base}
use Rattle.dt_names.specs.Fault.{placeless}
use Rattle.dt_names.specs.declared.fault.Fault.{Fault}
use Rattle.dt_names.specs.declared.fault.FaultKind.TheVariants.{NoMemory}
use Rattle.dt_chain_promises.specs.Build.{HasBaseTree}
use Rattle.dt_chain_promises.specs.Compile.{WhyNoTree, unparsed}
use Rattle.dt_chain.specs.Steps.{OfEachText}
use Rattle.dt_chain.proofs.Stages.{if_ok, if_err}
use Rattle.dt_chain.proofs.building.SourcesInputs.base_tree.Goals as goal

pub returns-in_err-source-clause-refused : goal.returns-in_err-source-clause-refused
returns-in_err-source-clause-refused c =
    let e = err_from_is_err_and c.from_residual.result c.from_residual.ensures.1 in
    rw (e.1, e.2) (inr (unparsed c.in_err-source.field-0.0 c.in_err-source.ensures.err))

pub returns-clause-tree : goal.returns-clause-tree
returns-clause-tree c =
    let text = c.args.base.now in
    let s = c.add_seed.new.self in
    let parsed = subst (IsParsed text) (sym c.add_seed.ensures) c.in_ok-source.ensures.ok in
    if_ok (λ t. OfEachText s (λ text. HasBaseTree text (reading t))) (λ t. HasBaseTree text (reading t)) (λ t h. h text parsed)
    c.indexed_tree-tree.result c.indexed_tree-tree.ensures.tree

pub returns-clause-refused : goal.returns-clause-refused
returns-clause-refused c =
    let text = c.args.base.now in
    let s = c.add_seed.new.self in
    let parsed = subst (IsParsed text) (sym c.add_seed.ensures) c.in_ok-source.ensures.ok in
    if_err (λ (e : Fault). (e ≡ placeless NoMemory) ⊎ OfEachText s (λ text. WhyNoTree base text e)) (λ e. (e ≡ placeless NoMemory) ⊎ WhyNoTree base text e)
    (λ e. elim [ inl none ↦ inl none | inr why ↦ inr (why text parsed) ])
    c.indexed_tree-tree.result c.indexed_tree-tree.ensures.refused
