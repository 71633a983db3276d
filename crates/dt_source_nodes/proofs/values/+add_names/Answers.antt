use Rattle.std.proofs.Common.{◌≡◌, ◌<◌, ℕ, List, ◌++◌, ◌∷◌, Some, slice_get, ap, ◌∙◌, arith}
use Rattle.dt_source_nodes.proofs.Texts.{read_node, no_names, names_past, names_more}
use Rattle.dt_source_nodes.proofs.values.+add_names.Goals as goal

pub returns-then-node-eq0 : goal.returns-then-node-eq0
returns-then-node-eq0 t c = no_names c.args.nodes.now c.args.text.now.items c.args.node c.if-node-eq0.true

pub add_names-requires : goal.add_names-requires
add_names-requires t c =
    let nodes = c.args.nodes.now in
    let found = c.in-Some.found.now in
    let lookup = c.in-Some.ensures.lookup in
    let there : slice_get nodes c.args.node ≡ Some found = read_node nodes c.args.node found lookup.3.0 lookup.3.1 in
    let below : 0 < c.args.node = omega arith in
    let above : found.parent < c.args.node = c.requires c.args.node found below there in
    let least = c.decreases in
    (omega arith, c.requires)

pub returns-in_ok-add_name : goal.returns-in_ok-add_name
returns-in_ok-add_name t c =
    let nodes = c.args.nodes.now in
    let found = c.in-Some.found.now in
    let lookup = c.in-Some.ensures.lookup in
    let there : slice_get nodes c.args.node ≡ Some found = read_node nodes c.args.node found lookup.3.0 lookup.3.1 in
    let below : 0 < c.args.node = omega arith in
    names_more nodes c.args.text.now.items c.add_names.new.text.items c.add_name.new.text.items c.args.node found below there c.in_ok-add_names.ensures
    (c.in_ok-add_name.ensures ∙ ap (λ (x : List ℕ). c.add_names.new.text.items ++ 47 ∷ x) c.bytes.ensures)

pub returns-in_default : goal.returns-in_default
returns-in_default t c = names_past c.args.nodes.now c.args.text.now.items c.args.node c.in_default.ensures.lookup.3
