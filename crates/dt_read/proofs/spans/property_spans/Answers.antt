use Rattle.std.proofs.Common.{◌≡◌, ◌+◌, ℕ, List, Some, sym, ap, subst, ◌∙◌}
use Rattle.std.specs.List.{slice_get}
use Rattle.dt_model.specs.Checks.{number}
use Rattle.dt_model.specs.Tree.{Property}
use Rattle.dt_read.specs.Checked.{placed_of}
use Rattle.dt_read.specs.Lying.{Lies}
use Rattle.dt_read.specs.Parsing.{left_by}
use Rattle.dt_trees.specs.Placed.{path_at, properties_at}
use Rattle.dt_read.specs.TreeTokens.{marks_in}
use Rattle.dt_read.specs.View.{view}
use Rattle.dt_read.proofs.Lying.{behind_later, lies_later, lies_in_blob, lies_in_strings}
use Rattle.dt_read.proofs.Walks.{next_of_node, properties_of_parts}
use Rattle.dt_read.proofs.spans.property_spans.Goals as goal

pub returns-in-Some-property_from : goal.returns-in-Some-property_from
returns-in-Some-property_from c =
    let bytes = c.args.bytes.now in
    let f = c.node_from.ensures in
    let strings = c.node_from.result.0.now in
    let rest = c.node_from.result.1.now in
    let head = c.in-Some.head in
    let marks = marks_in strings head.behind head.rest.now in
    let own = next_of_node c.args.node f.parts (marks_in strings c.args.node rest) marks (Some (head.at, head.token)) f.begins c.in-Some.ensures.next in
    let all : (left_by marks).properties ≡ properties_at (placed_of bytes) (path_at (placed_of bytes) c.args.node) = properties_of_parts f.parts f.begins.more marks own ∙ sym f.properties in
    let found = c.in-Some-property_from.ensures in
    let later = behind_later strings c.args.node rest head.at (view head.token) head.behind head.rest.now c.in-Some.ensures.lies in
    let named : Lies bytes (record { at = number bytes 12 + c.in-Some-property_from.name.at; len = c.in-Some-property_from.name.len }) found.0.name =
    lies_in_strings bytes (number bytes 12) (number bytes 32) c.in-Some-property_from.name found.0.name f.names_inside (subst (λ (s : List ℕ). Lies s c.in-Some-property_from.name found.0.name) f.names found.2) in (
      found.0,
      ap (λ (ps : List Property). slice_get ps c.args.index) (sym all) ∙ found.1,
      subst (λ (n : ℕ). Lies bytes (record { at = n + c.in-Some-property_from.name.at; len = c.in-Some-property_from.name.len }) found.0.name) (sym c.number.ensures.value) named,
      lies_in_blob bytes c.args.node rest c.in-Some-property_from.value found.0.value f.inside f.front (lies_later c.args.node rest head.behind head.rest.now c.in-Some-property_from.value found.0.value later found.3),
    )

pub returns-in-None-property_from : goal.returns-in-None-property_from
returns-in-None-property_from c =
    let bytes = c.args.bytes.now in
    let f = c.node_from.ensures in
    let strings = c.node_from.result.0.now in
    let rest = c.node_from.result.1.now in
    let head = c.in-Some.head in
    let marks = marks_in strings head.behind head.rest.now in
    let own = next_of_node c.args.node f.parts (marks_in strings c.args.node rest) marks (Some (head.at, head.token)) f.begins c.in-Some.ensures.next in
    let all : (left_by marks).properties ≡ properties_at (placed_of bytes) (path_at (placed_of bytes) c.args.node) = properties_of_parts f.parts f.begins.more marks own ∙ sym f.properties in
    ap (λ (ps : List Property). slice_get ps c.args.index) (sym all) ∙ c.in-None-property_from.ensures
