use Rattle.std.proofs.Common.{◌≡◌, ℕ, List}
use Rattle.std.specs.List.{AllByRecursion}
use Rattle.std.specs.Slice.Iter.{chunks_exact_rest, chunks_exact_size}
use Rattle.dt_model.specs.Object.{words_of}
use Rattle.dt_model.specs.Path.{Path}
use Rattle.dt_overlay_laws.specs.Objects.{IsLocalCell}
use Rattle.dt_overlay_read.specs.LocalFixups.{Left, ListsOffsets}
use Rattle.dt_overlay_object.specs.Plans.{AreBroughtBy}
use Rattle.dt_trees.specs.Placed.{path_at, reading_of}
use Rattle.dt_overlay_read.proofs.local_fixups.list_offsets.Given as goal

abbrev pub invariant-loop-bytes : goal.invariant-loop-bytes
invariant-loop-bytes g l =
    let t = g.V.TreeView.tree l.object in
    let p = path_at t l.node in
    record {
      size : chunks_exact_size l.bytes-iterator ≡ 4;
      left : (numbers : List (Path × ℕ)) → AreBroughtBy t numbers l.brought
          → Left (ListsOffsets t numbers p l.listed.name.now l.value) (words_of l.listed.value.now) (words_of (chunks_exact_rest l.bytes-iterator)) l.initial.out.items l.out.items;
      within : AllByRecursion (IsLocalCell (reading_of t) p l.value) (words_of l.listed.value.now)
          → AllByRecursion (IsLocalCell (reading_of t) p l.value) (words_of (chunks_exact_rest l.bytes-iterator));
    }
