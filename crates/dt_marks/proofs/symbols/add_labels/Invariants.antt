-- The labels that are left give the node all.
use Rattle.std.proofs.Common.{◌≡◌, ◌<◌, length, map, drop}
use Rattle.std.specs.List.{AllByRecursion}
use Rattle.dt_model.specs.Names.{IsLabel}
use Rattle.dt_flat.specs.Planted.{with_properties, MaySetAll}
use Rattle.dt_marks.specs.Paths.{label_property}
use Rattle.dt_marks.proofs.symbols.add_labels.Given as goal

abbrev pub invariant-loop-label : goal.invariant-loop-label
invariant-loop-label l = record {
  there : l.symbols < length l.tree.slots;
  labels : AllByRecursion IsLabel (map (λ b. b.now) (drop l.label-index l.labels));
  new : MaySetAll l.tree.slots l.symbols (map (label_property l.path) (map (λ b. b.now) (drop l.label-index l.labels)));
  same : record l.tree { slots = with_properties l.tree.slots l.symbols (map (label_property l.path) (map (λ b. b.now) (drop l.label-index l.labels))) }
      ≡ record l.fn.tree { slots = with_properties l.fn.tree.slots l.symbols (map (label_property l.path) (map (λ b. b.now) l.labels)) };
}
