-- The properties that are left give the node all.
use Rattle.std.proofs.Common.{◌≡◌, map, drop}
use Rattle.dt_model.specs.Instance.{numbered}
use Rattle.dt_source_named_tree.specs.Said.{property_said}
use Rattle.dt_flat.specs.Planted.{with_properties}
use Rattle.dt_phandle.specs.Growth.{MayHave}
use Rattle.dt_phandle.proofs.numbered.set_properties.Given as goal

abbrev pub invariant-loop-property : goal.invariant-loop-property
invariant-loop-property l = record {
  may : MayHave l.tree.slots l.id (map (numbered l.numbering) (map property_said (drop l.property-index l.properties)));
  same : record l.tree { slots = with_properties l.tree.slots l.id (map (numbered l.numbering) (map property_said (drop l.property-index l.properties))) }
      ≡ record l.fn.tree { slots = with_properties l.fn.tree.slots l.id (map (numbered l.numbering) (map property_said l.properties)) };
}
