use Rattle.std.proofs.Common.{◌≡◌, ◌∷◌, [], ◌++◌, false, sym, ap, ◌∙◌}
use Rattle.dt_model.specs.Path.{is_bookkeeping_name}
use Rattle.dt_model.specs.Names.{Name}
use Rattle.dt_trees.specs.Placed.{last_name, path_at, place_of}
use Rattle.dt_overlay_read.proofs.FragmentsListed.{content_there}
use Rattle.dt_overlay_read.proofs.fragments.content_of.Goals as goal

pub returns : goal.returns
returns g c =
    let t = g.V.TreeView.tree c.args.object.now in
    let other : is_bookkeeping_name (last_name (path_at t c.args.node)) ≡ false = ap is_bookkeeping_name (sym c.name.ensures) ∙ sym c.if-is_bookkeeping_name.ensures in
    let is = c.child.ensures.is ∙ ap (λ (x : Name). place_of t (path_at t c.args.node ++ x ∷ [])) c.as_slice.ensures in
    content_there t c.args.node (last_name (path_at t c.args.node)) c.child.result other is
