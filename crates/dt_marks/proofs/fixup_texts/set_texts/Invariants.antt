-- The texts that are left give the node all.
use Rattle.std.proofs.Common.{◌≡◌, ◌<◌, length, drop}
use Rattle.std.specs.List.{AllByRecursion}
use Rattle.dt_model.specs.Names.{IsLabel}
use Rattle.dt_flat.specs.Planted.{with_properties}
use Rattle.dt_marks.proofs.fixup_texts.set_texts.Given as goal

abbrev pub invariant-loop-place : goal.invariant-loop-place
invariant-loop-place l = record {
  there : l.node < length l.tree.slots;
  labels : AllByRecursion (λ p. IsLabel p.name) (drop l.place l.table);
  same : record l.tree { slots = with_properties l.tree.slots l.node (drop l.place l.table) }
      ≡ record l.fn.tree { slots = with_properties l.fn.tree.slots l.node l.table };
}
