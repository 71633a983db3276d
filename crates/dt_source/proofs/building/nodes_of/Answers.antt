use Rattle.std.proofs.Common.{map}
use Rattle.std.proofs.lemmas.Result.{err_from_is_err_and}
use Rattle.dt_source_growing.specs.declared.referring.Unnamed.TheVariants.{Refused}
use Rattle.dt_source.specs.Building.{AreNodesOf}
use Rattle.dt_source_nodes.specs.Nodes.{AreListed, IsUnlisted}
use Rattle.dt_source_bodies.specs.Refusals.{mode_said}
use Rattle.dt_source.specs.Refusals.{WhyNotRead}
use Rattle.dt_source_named_tree.specs.Said.{node_said}
use Rattle.dt_source.proofs.BuiltTrees.{grown_refused, late_refused, either}
use Rattle.dt_source.proofs.building.nodes_of.Goals as goal

pub returns-in_err-growing : goal.returns-in_err-growing
returns-in_err-growing c =
    let e = err_from_is_err_and c.from_residual.result c.from_residual.ensures.1 in
    rw (e.1, e.2) (grown_refused (mode_said c.args.mode) c.args.items.now.places c.in_err-growing.field-0.0 c.in_err-growing.ensures)

pub returns : goal.returns
returns c =
    let mode = mode_said c.args.mode in
    let places = c.args.items.now.places in
    let g = c.in_ok-growing.growing in
    let grown = c.in_ok-growing.ensures in
    let root = c.root_stands.ensures mode places grown.0 c.requires grown.1 in
    either (λ nodes. AreListed Refused g (map node_said nodes.items)) (IsUnlisted Refused g) (λ nodes. AreNodesOf mode places (map node_said nodes.items)) (WhyNotRead mode places)
    (λ nodes are. record { so_far = grown.0; all_read = grown.1; after = are grown.0.events grown.2 root })
    (λ fault why. late_refused mode places grown.0 fault grown.1 why.0 (why.1 grown.0.events grown.2 root))
    c.named_nodes.result c.named_nodes.ensures
