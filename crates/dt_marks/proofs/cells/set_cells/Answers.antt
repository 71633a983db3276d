use Rattle.std.proofs.Common.{◌≡◌, ◌+◌, ◌++◌, ℕ, List, map, drop, sym, ap, ◌∙◌, subst, arith}
use Rattle.std.specs.List.{AllByRecursion}
use Rattle.dt_model.specs.Fixups.{offsets_as}
use Rattle.dt_source_named_tree.specs.Said.{property_said}
use Rattle.dt_source_named_tree.specs.declared.named.NamedProperty.{NamedProperty}
use Rattle.dt_flat.proofs.Distinctness.{all-back}
use Rattle.dt_marks.specs.Cells.{cells_of}
use Rattle.dt_marks.specs.Mirrored.{IsNoPhandle}
use Rattle.dt_marks.proofs.Setting.{still_there, both_set}
use Rattle.dt_marks.proofs.Listing.{next_property}
use Rattle.dt_marks.proofs.cells.set_cells.Goals as goal

pub loop-property-preserved : goal.loop-property-preserved
loop-property-preserved c =
    let properties = c.args.properties.now in
    let i = c.loop-property.property-index in
    let p = c.property-item.result in
    let own = offsets_as p.name.now c.deref.result.now in
    let rest = cells_of (map property_said (drop (i + 1) properties)) in
    let next = next_property properties i p (omega arith) c.property-item.is in
    let parts : cells_of (map property_said (drop i properties)) ≡ own ++ rest =
    ap (λ (ps : List NamedProperty). cells_of (map property_said ps)) next
    ∙ ap (λ (bytes : List ℕ). offsets_as p.name.now bytes ++ rest) (sym (c.deref.ensures.value ∙ c.in_ok-put_offsets.ensures)) in
    record {
      there = still_there c.loop-property.tree c.set_offsets.new.tree c.args.node own c.loop-property.invariant.there c.in_ok-set_offsets.ensures.tree;
      plain = all-back IsNoPhandle own rest (subst (AllByRecursion IsNoPhandle) parts c.loop-property.invariant.plain);
      same = both_set c.loop-property.tree c.set_offsets.new.tree c.args.node own rest (cells_of (map property_said (drop i properties))) parts c.in_ok-set_offsets.ensures.tree
          ∙ c.loop-property.invariant.same;
    }
