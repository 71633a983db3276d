-- A path on which no node is.
use Rattle.std.proofs.Common.{◌≡◌, Option, Some, None, [], refl, sym, ap, ◌∙◌, true≢false}
use Rattle.std.specs.Prelude.{is_some, option_and_then}
use Rattle.dt_model.specs.Names.{Name}
use Rattle.dt_model.specs.Object.{properties_of}
use Rattle.dt_model.specs.Path.{Path}
use Rattle.dt_model.specs.Tree.{Node, node_at, value_in, value_of}
use Rattle.dt_trees.specs.Placed.{PlacedTree, reading_of, place_of}
use Rattle.dt_trees.proofs.NodePlaces.{stands_place}

pub unplaced : (t : PlacedTree) (p : Path) → place_of t p ≡ None → node_at (reading_of t) p ≡ None
unplaced t p e = step (node_at (reading_of t) p) refl
  where
    step : (o : Option Node) → node_at (reading_of t) p ≡ o → o ≡ None
    step None f = refl
    step (Some n) f = absurd (true≢false (sym (ap is_some f) ∙ sym (stands_place t p) ∙ ap is_some e))

-- it has no properties
pub unplaced_properties : (t : PlacedTree) (p : Path) → place_of t p ≡ None → properties_of (node_at (reading_of t) p) ≡ []
unplaced_properties t p e = ap properties_of (unplaced t p e)

pub no_value_at : (t : PlacedTree) (p : Path) (name : Name) → place_of t p ≡ None → value_in (reading_of t) p name ≡ None
no_value_at t p name e = ap (option_and_then (λ (n : Node). value_of n.properties name)) (unplaced t p e)
