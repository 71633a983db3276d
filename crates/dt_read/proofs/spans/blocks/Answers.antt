use Rattle.dt_read.proofs.spans.blocks.Goals as goal

pub unreachable-requires : goal.unreachable-requires
unreachable-requires c =
    let f = c.in-Err.ensures.fault in
    c.blob_has_no_fault.ensures c.args.bytes.now _ f.0 _ c.requires.1 c.requires.2 f.2
