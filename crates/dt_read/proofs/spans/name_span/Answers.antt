use Rattle.std.proofs.Common.{sym, subst}
use Rattle.dt_read.specs.Lying.{Lies}
use Rattle.dt_read.proofs.Lying.{lies_in_blob}
use Rattle.dt_read.proofs.spans.name_span.Goals as goal

pub returns : goal.returns
returns c =
    let f = c.node_from.ensures in
    subst (Lies c.args.bytes.now c.name_from.result) (sym f.name)
    (lies_in_blob c.args.bytes.now c.args.node c.node_from.result.1.now c.name_from.result f.parts.name f.inside f.front (c.name_from.ensures f.parts f.begins))
