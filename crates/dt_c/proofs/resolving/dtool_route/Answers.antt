use Rattle.std.proofs.Common.{sym, subst}
use Rattle.dt_irq.specs.Seen.{route_in}
use Rattle.dt_irq.specs.declared.reached.Route.{Route}
use Rattle.dt_trees.specs.Placed.{PlacedTree, path_at}
use Rattle.dt_resolve_model.specs.Answers.{answer, refused}
use Rattle.dt_resolve_model.specs.Interrupts.{IsRoute}
use Rattle.dt_view.specs.Worlds.{world_of}
use Rattle.dt_c.specs.Crossing.{route_of}
use Rattle.dt_c.proofs.resolving.dtool_route.Goals as goal

pub returns-in-Ok-clause-is : goal.returns-in-Ok-clause-is
returns-in-Ok-clause-is c =
    subst (λ (t : PlacedTree). IsRoute (world_of t) (path_at t c.args.node) c.args.index (answer (route_in t (route_of c.put_route.new.out)))) c.blob_of-blob.ensures
    (subst (λ (r : Route). IsRoute (world_of c.blob_of-blob.result) (path_at c.blob_of-blob.result c.args.node) c.args.index (answer (route_in c.blob_of-blob.result r))) (sym c.put_route.ensures) c.in-Ok.ensures.is)

pub returns-in-Err-clause-refused : goal.returns-in-Err-clause-refused
returns-in-Err-clause-refused c =
    (c.in-Err.why, subst (λ (t : PlacedTree). IsRoute (world_of t) (path_at t c.args.node) c.args.index (refused c.in-Err.why)) c.blob_of-blob.ensures c.in-Err.ensures.is, c.put_fault.ensures)
