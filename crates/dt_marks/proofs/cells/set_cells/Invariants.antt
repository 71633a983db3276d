-- The properties that are left give the node all.
use Rattle.std.proofs.Common.{◌≡◌, ◌<◌, length, map, drop}
use Rattle.std.specs.List.{AllByRecursion}
use Rattle.dt_source_named_tree.specs.Said.{property_said}
use Rattle.dt_flat.specs.Planted.{with_properties}
use Rattle.dt_marks.specs.Cells.{cells_of}
use Rattle.dt_marks.specs.Mirrored.{IsNoPhandle}
use Rattle.dt_marks.proofs.cells.set_cells.Given as goal

abbrev pub invariant-loop-property : goal.invariant-loop-property
invariant-loop-property l = record {
  there : l.node < length l.tree.slots;
  plain : AllByRecursion IsNoPhandle (cells_of (map property_said (drop l.property-index l.properties)));
  same : record l.tree { slots = with_properties l.tree.slots l.node (cells_of (map property_said (drop l.property-index l.properties))) }
      ≡ record l.fn.tree { slots = with_properties l.fn.tree.slots l.node (cells_of (map property_said l.properties)) };
}
