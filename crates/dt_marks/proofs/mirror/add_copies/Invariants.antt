-- The nodes that are left give the tree all.
use Rattle.std.proofs.Common.{◌≡◌, ◌+◌, map, drop}
use Rattle.dt_source_named_tree.specs.Said.{node_said}
use Rattle.dt_marks.specs.Mirrored.{marked_at, mirrored, MayMirror}
use Rattle.dt_marks.proofs.mirror.add_copies.Given as goal

abbrev pub invariant-loop-i : goal.invariant-loop-i
invariant-loop-i l = record {
  may : MayMirror (marked_at l.needed) (1 + l.i) l.tree.slots l.copies.items (map node_said (drop l.i l.others));
  same : record l.tree { slots = mirrored (marked_at l.needed) (1 + l.i) l.tree.slots l.copies.items (map node_said (drop l.i l.others)) }
      ≡ record l.fn.tree { slots = mirrored (marked_at l.needed) 1 l.fn.tree.slots l.fn.copies.items (map node_said l.others) };
}
