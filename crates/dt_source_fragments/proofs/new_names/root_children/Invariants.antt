-- The names so far, and those that what is left gives.
use Rattle.std.proofs.Common.{◌≡◌, ◌≤◌, ◌++◌, None, drop}
use Rattle.std.specs.Option.{IfSome}
use Rattle.dt_model.specs.OverlaySource.{root_children}
use Rattle.dt_source_fragments.specs.FragmentNames.{borrowed}
use Rattle.dt_source_fragments.proofs.new_names.root_children.Given as goal

abbrev pub invariant-loop-index : goal.invariant-loop-index
invariant-loop-index l = record {
  shallow : IfSome l.depth (λ d. d ≤ l.index);
  found : borrowed l.names.items ++ root_children l.depth (drop l.index l.items.places) ≡ root_children None l.items.places;
}
