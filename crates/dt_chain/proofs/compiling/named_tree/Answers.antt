use Rattle.dt_model.specs.Named.{tree_of}
use Rattle.dt_source.specs.Meant.{HasTree}
use Rattle.dt_source_bodies.specs.Refusals.{mode_said}
use Rattle.dt_chain.specs.Steps.{HasNamed}
use Rattle.dt_chain.proofs.Stages.{if_ok}
use Rattle.dt_chain.proofs.compiling.named_tree.Goals as goal

pub returns-clause-named : goal.returns-clause-named
returns-clause-named c =
    let s = c.args.source.now in
    if_ok (λ t. HasTree (mode_said c.args.mode) s (tree_of t)) (λ t. HasNamed (mode_said c.args.mode) s (tree_of t))
    (λ t tree. record {
      tree = tree;
      places = c.spelled.ensures.places;
      some = c.spelled.ensures.some;
      reservations = c.spelled.ensures.reservations;
    })
    c.build_base.result c.build_base.ensures.tree
