use Rattle.std.proofs.Common.{◌≡◌, sym, ap, subst, ◌∙◌}
use Rattle.dt_trees.specs.Placed.{PlacedTree, path_at}
use Rattle.dt_resolve_model.specs.Answers.{answer, refused}
use Rattle.dt_resolve_model.specs.Regions.{region}
use Rattle.dt_view.specs.Worlds.{world_of}
use Rattle.dt_c.specs.Crossing.{region_of}
use Rattle.dt_c.proofs.resolving.dtool_region.Goals as goal

pub returns-in-Ok-clause-is : goal.returns-in-Ok-clause-is
returns-in-Ok-clause-is c =
    subst (λ (t : PlacedTree). region (world_of t) (path_at t c.args.node) c.args.index ≡ answer (region_of c.put_region.new.out)) c.blob_of-blob.ensures
    (sym c.in-Ok.ensures ∙ ap answer (sym c.put_region.ensures))

pub returns-in-Err-clause-refused : goal.returns-in-Err-clause-refused
returns-in-Err-clause-refused c =
    (c.in-Err.why, subst (λ (t : PlacedTree). region (world_of t) (path_at t c.args.node) c.args.index ≡ refused c.in-Err.why) c.blob_of-blob.ensures (sym c.in-Err.ensures), c.put_fault.ensures)
