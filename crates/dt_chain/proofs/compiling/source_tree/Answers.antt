use Rattle.std.proofs.Common.{◌≡◌, None}
use Rattle.std.proofs.lemmas.Result.{err_from_is_err_and}
use Rattle.dt_names.specs.declared.fault.Fault.{Fault}
use Rattle.dt_names.specs.declared.fault.FaultKind.TheVariants.{NoMemory}
use Rattle.dt_flat.specs.Arena.{reading}
use Rattle.dt_model.specs.Named.{tree_of}
use Rattle.dt_model.specs.Source.{base, raw}
use Rattle.dt_source_bodies.specs.Refusals.{mode_said}
use Rattle.dt_chain_promises.specs.Compile.{WhyNoTree}
use Rattle.dt_chain.specs.Steps.{OfEachText, IsNumbered, WhyNotLabelled}
use Rattle.dt_chain.proofs.Stages.{HasTree, base_has_room, tree_of_text, not_named, not_labelled, not_numbered, if_ok, if_err}
use Rattle.dt_chain.proofs.compiling.source_tree.Goals as goal

pub labelled-requires : goal.labelled-requires
labelled-requires c =
    base_has_room c.source_is_a_meaning.ensures.plain c.args.source.now (tree_of c.in_ok-named.named) (rw c.in-Base.is at c.in_ok-named.ensures.named)

pub returns-in_err-named-clause-refused : goal.returns-in_err-named-clause-refused
returns-in_err-named-clause-refused c =
    let e = err_from_is_err_and c.from_residual.result c.from_residual.ensures.1 in
    rw (e.1, e.2) (not_named (mode_said c.args.mode) c.args.source.now c.in_err-named.field-0.0 c.in_err-named.ensures.refused)

pub returns-in-Base-clause-tree : goal.returns-in-Base-clause-tree
returns-in-Base-clause-tree c =
    let s = c.args.source.now in
    let t = tree_of c.in_ok-named.named in
    rw c.in-Base.is (if_ok (λ a. IsNumbered base t (reading a)) (λ a. HasTree base s (reading a))
    (λ a n. tree_of_text c.tree_is_meant.ensures base s t (reading a) (rw c.in-Base.is at c.in_ok-named.ensures.named) n)
    c.labelled.result c.labelled.ensures.tree)

pub returns-in-Base-clause-refused : goal.returns-in-Base-clause-refused
returns-in-Base-clause-refused c =
    let s = c.args.source.now in
    let t = tree_of c.in_ok-named.named in
    rw c.in-Base.is (if_err (λ (fault : Fault). WhyNotLabelled fault.kind t × (fault.at ≡ None)) (λ fault. OfEachText s (λ text. WhyNoTree base text fault))
    (λ fault why. not_labelled c.tree_is_meant.ensures s t fault (rw c.in-Base.is at c.in_ok-named.ensures.named) why)
    c.labelled.result c.labelled.ensures.refused)

pub returns-clause-tree : goal.returns-clause-tree
returns-clause-tree c =
    let s = c.args.source.now in
    let t = tree_of c.in_ok-named.named in
    rw c.in-Raw.is (if_ok (λ a. IsNumbered raw t (reading a)) (λ a. HasTree raw s (reading a))
    (λ a n. tree_of_text c.tree_is_meant.ensures raw s t (reading a) (rw c.in-Raw.is at c.in_ok-named.ensures.named) n)
    c.numbered.result c.numbered.ensures.tree)

pub returns-clause-refused : goal.returns-clause-refused
returns-clause-refused c =
    let s = c.args.source.now in
    rw c.in-Raw.is (if_err (λ (fault : Fault). (fault.kind ≡ NoMemory) × (fault.at ≡ None)) (λ fault. OfEachText s (λ text. WhyNoTree raw text fault))
    (λ fault why. not_numbered raw s fault why)
    c.numbered.result c.numbered.ensures.refused)
