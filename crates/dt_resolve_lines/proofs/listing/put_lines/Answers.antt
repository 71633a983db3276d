use Rattle.std.proofs.Common.{ap, rules}
use Rattle.dt_model.specs.Tree.{nodes_of}
use Rattle.dt_trees.specs.Placed.{reading_of}
use Rattle.dt_text_writer.proofs.Writing.{text_written, text_refused, text_cut}
use Rattle.dt_resolve_model.proofs.Told.{if_fault}
use Rattle.dt_resolve_lines.specs.Listed.{AreAll, AreOwn, AreOwnBegun, AreAllBegun}
use Rattle.dt_resolve_lines.proofs.Nodes.{all_are_begun, lines_written, lines_refused}
use Rattle.dt_resolve_lines.proofs.listing.put_lines.Goals as goal

pub returns-clause-written : goal.returns-clause-written
returns-clause-written g c =
    let all = c.in_ok-put_nodes.ensures.written in
    lines_written (AreAll c.args.listing (reading_of c.args.index.now)) _ _ all.lines all.are _
    (text_written _ _ _ _ _ c.new-writer.ensures (λ e. ap g.S.Sink.taken (search rules)) all.written c.flush.ensures.written c.flush.ensures.empty)

pub returns-in_err-put_nodes-clause-refused : goal.returns-in_err-put_nodes-clause-refused
returns-in_err-put_nodes-clause-refused g c =
    let some = c.in_err-put_nodes.ensures.refused in
    if_fault _ _ _ c.from_residual.ensures.1 (some.lines, some.are, text_cut _ _ _ c.new-writer.ensures (λ e. ap g.S.Sink.taken (search rules)) some.cut)

pub returns-clause-refused : goal.returns-clause-refused
returns-clause-refused g c =
    let t = reading_of c.args.index.now in
    let all = c.in_ok-put_nodes.ensures.written in
    let begun = all_are_begun (AreOwn c.args.listing t) (AreOwnBegun c.args.listing t) (nodes_of t) all.lines all.are in
    lines_refused (AreAllBegun c.args.listing t) _ _ all.lines begun _
    (text_refused _ _ _ _ _ c.new-writer.ensures (λ e. ap g.S.Sink.taken (search rules)) all.written c.flush.ensures.refused)
