use Rattle.std.proofs.Common.{◌≤◌, ◌+◌, None, subst, sym}
use Rattle.std.specs.Option.{IfSome}
use Rattle.dt_model.specs.OverlaySource.{root_children}
use Rattle.dt_source_items.specs.Said.{place_said}
use Rattle.dt_source_fragments.specs.FragmentNames.{borrowed}
use Rattle.dt_source_fragments.proofs.NamesMade.{one_found, shallow_behind}
use Rattle.dt_source_fragments.proofs.new_names.root_children.Goals as goal

pub loop-index-preserved : goal.loop-index-preserved
loop-index-preserved c =
    let x = place_said c.get-item.result in
    let i = c.loop-index.index in
    let places = c.args.items.now.places in
    let old = c.loop-index.depth in
    record {
      shallow = subst (λ o. IfSome o (λ d. d ≤ i + 1)) (sym c.depth_behind-depth.ensures) (shallow_behind x old i c.loop-index.invariant.shallow);
      found = one_found (root_children None places) (borrowed c.loop-index.names.items) (borrowed c.add_root_child.new.names.items) old c.depth_behind-depth.result places i x
          c.get-item.ensures c.loop-index.invariant.found c.in_ok-add_root_child.ensures c.depth_behind-depth.ensures;
    }
