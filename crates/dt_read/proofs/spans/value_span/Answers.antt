use Rattle.std.proofs.Common.{◌≡◌, List, Some, sym, ap, ◌∙◌}
use Rattle.dt_model.specs.Tree.{Property, value_of, value_in}
use Rattle.dt_read.specs.Parsing.{left_by}
use Rattle.dt_read.specs.Checked.{placed_of}
use Rattle.dt_trees.specs.Placed.{path_at, reading_of}
use Rattle.dt_read.specs.TreeTokens.{marks_in}
use Rattle.dt_read.specs.View.{view}
use Rattle.dt_read.proofs.Lying.{behind_later, found_in_blob}
use Rattle.dt_read.proofs.Walks.{next_of_node, properties_of_parts}
use Rattle.dt_read.proofs.spans.value_span.Goals as goal

pub returns-in-Some : goal.returns-in-Some
returns-in-Some c =
    let f = c.node_from.ensures in
    let strings = c.node_from.result.0.now in
    let rest = c.node_from.result.1.now in
    let head = c.in-Some.head in
    let marks = marks_in strings head.behind head.rest.now in
    let own = next_of_node c.args.node f.parts (marks_in strings c.args.node rest) marks (Some (head.at, head.token)) f.begins c.in-Some.ensures.next in
    let properties : (left_by marks).properties ≡ f.parts.properties = properties_of_parts f.parts f.begins.more marks own in
    let same : value_of (left_by marks).properties c.args.name.now ≡ value_in (reading_of (placed_of c.args.bytes.now)) (path_at (placed_of c.args.bytes.now) c.args.node) c.args.name.now =
    ap (λ (ps : List Property). value_of ps c.args.name.now) properties ∙ sym (f.value c.args.name.now) in
    found_in_blob c.args.bytes.now c.args.node rest head.behind head.rest.now (value_of (left_by marks).properties c.args.name.now)
    (value_in (reading_of (placed_of c.args.bytes.now)) (path_at (placed_of c.args.bytes.now) c.args.node) c.args.name.now) c.value_from.result same
    (behind_later strings c.args.node rest head.at (view head.token) head.behind head.rest.now c.in-Some.ensures.lies) f.inside f.front c.value_from.ensures
