-- What is listed for the properties that are left completes what is listed for all.
use Rattle.std.proofs.Common.{ℕ, List, drop}
use Rattle.dt_model.specs.Lists.{IsIn}
use Rattle.dt_model.specs.Path.{Path}
use Rattle.dt_model.specs.Tree.{Property}
use Rattle.dt_overlay_object.specs.Plans.{AreBroughtBy}
use Rattle.dt_overlay_read.specs.LocalFixups.{Left, ListsProperties}
use Rattle.dt_trees.specs.Placed.{path_at}
use Rattle.dt_trees.specs.Views.{props_said}
use Rattle.dt_overlay_read.proofs.local_fixups.list_properties.Given as goal

abbrev pub invariant-loop-listed : goal.invariant-loop-listed
invariant-loop-listed g l =
    let t = g.V.TreeView.tree l.object in
    let behind = drop l.listed-index (props_said l.listed-items) in
    record {
      left : (numbers : List (Path × ℕ)) → AreBroughtBy t numbers l.brought
          → Left (ListsProperties t numbers (path_at t l.node)) (props_said l.listed-items) behind l.initial.out.items l.out.items;
      within : (x : Property) → IsIn x behind → IsIn x (props_said l.listed-items);
    }
