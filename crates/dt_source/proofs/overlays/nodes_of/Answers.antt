use Rattle.std.proofs.Common.{inl, inr, map}
use Rattle.std.proofs.lemmas.Result.{err_from_is_err_and}
use Rattle.dt_source_growing.specs.declared.referring.Unnamed.TheVariants.{Kept}
use Rattle.dt_source.specs.Fragments.{AreOverlayNodes}
use Rattle.dt_source_nodes.specs.Nodes.{AreListed, IsUnlisted}
use Rattle.dt_source.specs.Refusals.{WhyNoOverlayRead}
use Rattle.dt_source_named_tree.specs.Said.{node_said}
use Rattle.dt_source.proofs.BuiltOverlays.{are_labelled, none_unread, nodes_after, overlay_grown_refused}
use Rattle.dt_source.proofs.BuiltTrees.{either}
use Rattle.dt_source.proofs.overlays.nodes_of.Goals as goal

pub returns-in_err-growing : goal.returns-in_err-growing
returns-in_err-growing c =
    let e = err_from_is_err_and c.from_residual-in_err-growing.result c.from_residual-in_err-growing.ensures.1 in
    rw (e.1, e.2) (overlay_grown_refused c.args.items.now.places c.in_err-growing.field-0.0 c.in_err-growing.ensures)

pub returns : goal.returns
returns c =
    let places = c.args.items.now.places in
    let g = c.in_ok-growing.growing in
    let grown = c.in_ok-growing.ensures in
    let es = grown.0.source.events in
    let root = c.overlay_nodes_are_shallow.ensures.rooted places grown.0 grown.1 in
    let plain = c.overlay_values_are_plain.ensures places grown.0 c.requires grown.1 in
    either (λ nodes. AreListed Kept g (map node_said nodes.items)) (IsUnlisted Kept g) (λ nodes. AreOverlayNodes places (map node_said nodes.items)) (WhyNoOverlayRead places)
    (λ nodes are. record { so_far = grown.0; all_read = grown.1; after = nodes_after es plain (map node_said nodes.items) (are es grown.2 root (are_labelled es plain)) })
    (λ fault why. (why.0, elim (why.1 es grown.2 root) [ inl e ↦ inl e | inr u ↦ absurd (none_unread es plain u) ]))
    c.named_nodes.result c.named_nodes.ensures
