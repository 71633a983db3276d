use Rattle.std.proofs.Common.{[], ◌∷◌, ◌++◌}
use Rattle.dt_model.specs.Tree.{preorder}
use Rattle.dt_overlay_model.specs.Walk.{with_places}
use Rattle.dt_trees.specs.Placed.{path_at, below_in}
use Rattle.dt_overlay_base.specs.NodeNumbers.{paths_below}
use Rattle.dt_overlay_base.specs.Known.{content_at, placed}
use Rattle.dt_overlay_base.proofs.LooksLanded.{room_first}
use Rattle.dt_overlay_base.proofs.NodesNumbered.{notes_behind}
use Rattle.dt_overlay_base.proofs.Results.{on_ok}
use Rattle.dt_overlay_base.proofs.looks.note_content.Goals as goal

pub note_node-requires-clause-room : goal.note_node-requires-clause-room
note_node-requires-clause-room g c =
    room_first (g.T.Target.reading c.args.target.now) [] (content_at (g.V.TreeView.tree c.args.object.now) c.args.content c.args.path.now) c.args.places.now c.requires.room

pub returns-clause-numbered : goal.returns-clause-numbered
returns-clause-numbered g c given landed known =
    let base = g.T.Target.reading c.args.target.now in
    let t = g.V.TreeView.tree c.args.object.now in
    let k = c.args.content in
    let q = c.args.path.now in
    let own = placed t k q ∷ [] in
    let below = preorder q (below_in t k) in
    on_ok c.note_children.result
    (notes_behind base t own below k q (path_at t k ∷ []) (paths_below t k) given c.args.places.now c.note_node.new.places c.note_children.new.places (c.in_ok-note_node.ensures.numbered given landed known))
    (c.note_children.ensures.numbered (with_places base own given) (landed ++ q ∷ []) (c.in_ok-note_node.ensures.known given landed known))
