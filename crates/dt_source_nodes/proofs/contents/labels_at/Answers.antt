use Rattle.std.proofs.Common.{get_or}
use Rattle.dt_source_nodes.proofs.ContentSteps.{in_read}
use Rattle.dt_source_nodes.proofs.contents.labels_at.Goals as goal

pub label_there-requires : goal.label_there-requires
label_there-requires c =
    let indices = c.args.indices.now in
    let i = c.loop-index.index-index in
    c.requires (get_or indices i 0) (in_read indices i 0 c.loop-index-test.true)
