use Rattle.std.proofs.Common.{◌≡◌, sym, ap, subst, ◌∙◌}
use Rattle.dt_trees.specs.Placed.{PlacedTree, path_at}
use Rattle.dt_resolve_model.specs.Answers.{answer, refused}
use Rattle.dt_resolve_model.specs.Regions.{dma_region}
use Rattle.dt_view.specs.Worlds.{world_of}
use Rattle.dt_c.specs.Crossing.{region_of, wide}
use Rattle.dt_c.proofs.resolving.dtool_dma_region.Goals as goal

pub returns-in-Ok-clause-is : goal.returns-in-Ok-clause-is
returns-in-Ok-clause-is c =
    let called = ap (λ n. dma_region (world_of c.blob_of-blob.result) (path_at c.blob_of-blob.result c.args.node) n c.joined-size.result) c.joined-address.ensures
    ∙ ap (dma_region (world_of c.blob_of-blob.result) (path_at c.blob_of-blob.result c.args.node) (wide c.args.address_low c.args.address_high)) c.joined-size.ensures in
    subst (λ (t : PlacedTree). dma_region (world_of t) (path_at t c.args.node) (wide c.args.address_low c.args.address_high) (wide c.args.size_low c.args.size_high) ≡ answer (region_of c.put_region.new.out)) c.blob_of-blob.ensures
    (sym called ∙ sym c.in-Ok.ensures ∙ ap answer (sym c.put_region.ensures))

pub returns-in-Err-clause-refused : goal.returns-in-Err-clause-refused
returns-in-Err-clause-refused c =
    let called = ap (λ n. dma_region (world_of c.blob_of-blob.result) (path_at c.blob_of-blob.result c.args.node) n c.joined-size.result) c.joined-address.ensures
    ∙ ap (dma_region (world_of c.blob_of-blob.result) (path_at c.blob_of-blob.result c.args.node) (wide c.args.address_low c.args.address_high)) c.joined-size.ensures in (
      c.in-Err.why,
      subst (λ (t : PlacedTree). dma_region (world_of t) (path_at t c.args.node) (wide c.args.address_low c.args.address_high) (wide c.args.size_low c.args.size_high) ≡ refused c.in-Err.why) c.blob_of-blob.ensures
          (sym called ∙ sym c.in-Err.ensures),
      c.put_fault.ensures,
    )
