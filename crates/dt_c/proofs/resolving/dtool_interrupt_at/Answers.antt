use Rattle.std.proofs.Common.{◌≡◌, sym, ap, subst, ◌∙◌}
use Rattle.dt_irq.specs.Seen.{route_in}
use Rattle.dt_irq.specs.declared.reached.Route.{Route}
use Rattle.dt_trees.specs.Placed.{PlacedTree, path_at}
use Rattle.dt_resolve_model.specs.Answers.{answer, refused}
use Rattle.dt_resolve_model.specs.Interrupts.{interrupt_at}
use Rattle.dt_view.specs.Worlds.{world_of}
use Rattle.dt_c.specs.Crossing.{route_of}
use Rattle.dt_c.proofs.resolving.dtool_interrupt_at.Goals as goal

pub returns-in-Ok-clause-is : goal.returns-in-Ok-clause-is
returns-in-Ok-clause-is c =
    subst (λ (t : PlacedTree). interrupt_at (world_of t) (path_at t c.args.node) c.args.at ≡ answer (route_in t (route_of c.put_route.new.out))) c.blob_of-blob.ensures
    (sym c.in-Ok.ensures.is ∙ ap (λ (r : Route). answer (route_in c.blob_of-blob.result r)) (sym c.put_route.ensures))

pub returns-in-Err-clause-refused : goal.returns-in-Err-clause-refused
returns-in-Err-clause-refused c =
    (c.in-Err.why, subst (λ (t : PlacedTree). interrupt_at (world_of t) (path_at t c.args.node) c.args.at ≡ refused c.in-Err.why) c.blob_of-blob.ensures (sym c.in-Err.ensures.is), c.put_fault.ensures)
