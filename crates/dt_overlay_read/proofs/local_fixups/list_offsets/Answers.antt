use Rattle.std.proofs.Common.{◌≡◌, ◌<◌, ◌∙◌, ◌∷◌, ℕ, List, inr, refl, sym, ap, subst, length, arith}
use Rattle.std.specs.List.{AllByRecursion}
use Rattle.std.specs.Slice.Iter.{chunks_exact_rest}
use Rattle.dt_model.specs.Object.{words_of}
use Rattle.dt_overlay_laws.specs.Objects.{IsLocalCell}
use Rattle.dt_overlay_object.specs.declared.kept.Write.{Write as KeptWrite}
use Rattle.dt_overlay_read.specs.LocalFixups.{ListsOffsets}
use Rattle.dt_overlay_read.proofs.LocalFixupsWords.{words-none, words-more}
use Rattle.dt_overlay_read.proofs.LocalFixupsLists.{left-step, offsets-none, offsets-more, offset_listed, property_listed, no_value, no_cells}
use Rattle.dt_trees.specs.Placed.{path_at, reading_of}
use Rattle.dt_trees.specs.Views.{prop_said}
use Rattle.dt_overlay_read.proofs.local_fixups.list_offsets.Goals as goal

pub returns-in_default-clause-refused : goal.returns-in_default-clause-refused
returns-in_default-clause-refused g c =
    let t = g.V.TreeView.tree c.args.object.now in
    (c.of.ensures.at, inr (c.of.ensures.kind, no_value (reading_of t) (path_at t c.args.node) (prop_said c.args.listed.now) (sym c.in_default.ensures)))

pub returns-in_default-local_number-clause-refused : goal.returns-in_default-local_number-clause-refused
returns-in_default-local_number-clause-refused g c =
    let t = g.V.TreeView.tree c.args.object.now in
    let p = path_at t c.args.node in
    let left = chunks_exact_rest c.loop-bytes.bytes-iterator in
    let rest = chunks_exact_rest c.next.new.self in
    let value = c.in-Some.value.now in
    let steps = c.in-Some-bytes.ensures.steps in
    let words : words_of left ≡ c.cell_number-offset.result ∷ words_of rest = ap words_of steps.1.0 ∙ words-more c.in-Some-bytes.bytes.now rest (steps.1.1 ∙ c.loop-bytes.invariant.size) ∙ ap (λ (k : ℕ). k ∷ words_of rest) (sym c.cell_number-offset.ensures) in (
      c.of-in_default-local_number.ensures.at,
      inr (
        c.of-in_default-local_number.ensures.kind,
        no_cells (reading_of t) p (prop_said c.args.listed.now) value (sym c.in-Some.ensures)
            (λ all. c.in_default-local_number.ensures c.requires.brought.0 c.requires.brought.1 (subst (AllByRecursion (IsLocalCell (reading_of t) p value)) words (c.loop-bytes.invariant.within all)).0),
      ),
    )

pub loop-bytes-preserved : goal.loop-bytes-preserved
loop-bytes-preserved g c =
    let t = g.V.TreeView.tree c.args.object.now in
    let p = path_at t c.args.node in
    let name = c.args.listed.now.name.now in
    let value = c.in-Some.value.now in
    let offset = c.cell_number-offset.result in
    let left = chunks_exact_rest c.loop-bytes.bytes-iterator in
    let rest = chunks_exact_rest c.next.new.self in
    let steps = c.in-Some-bytes.ensures.steps in
    let words : words_of left ≡ offset ∷ words_of rest = ap words_of steps.1.0 ∙ words-more c.in-Some-bytes.bytes.now rest (steps.1.1 ∙ c.loop-bytes.invariant.size) ∙ ap (λ (k : ℕ). k ∷ words_of rest) (sym c.cell_number-offset.ensures) in
    let w : KeptWrite = record { node = c.args.node; property = c.args.listed.now.name; offset = offset; number = c.in-Some-local_number.number } in
    record {
      size = steps.0 ∙ c.loop-bytes.invariant.size;
      left = λ numbers brought.
          left-step (ListsOffsets t numbers p name value) (words_of c.args.listed.now.value.now) (words_of left) (words_of rest) c.args.out.now.items c.loop-bytes.out.items c.push.new.self.items
          (λ new others. subst (λ (ws : List ℕ). ListsOffsets t numbers p name value ws c.loop-bytes.out.items new) (sym words)
          (offsets-more t numbers p name value offset (words_of rest) c.loop-bytes.out.items c.push.new.self.items new
          (offset_listed t numbers p name value offset c.in-Some-local_number.number w c.loop-bytes.out.items c.push.new.self.items c.requires.node (sym c.in-Some.ensures)
          (c.in-Some-local_number.ensures numbers brought) refl refl refl c.in_ok-push.ensures.items) others))
          (c.loop-bytes.invariant.left numbers brought);
      within = λ all. (subst (AllByRecursion (IsLocalCell (reading_of t) p value)) words (c.loop-bytes.invariant.within all)).1;
    }

pub returns-clause-listed : goal.returns-clause-listed
returns-clause-listed g c numbers brought =
    let t = g.V.TreeView.tree c.args.object.now in
    let p = path_at t c.args.node in
    let name = c.args.listed.now.name.now in
    let value = c.in-Some.value.now in
    let left = chunks_exact_rest c.loop-bytes.bytes-iterator in
    let short : length left < 4 = omega (arith, c.in-None.ensures.steps.1.0, c.loop-bytes.invariant.size) in
    property_listed t numbers p (prop_said c.args.listed.now) value c.args.out.now.items c.loop-bytes.out.items (sym c.in-Some.ensures) c.if-listed-ne0.false
    (c.loop-bytes.invariant.left numbers brought c.loop-bytes.out.items
    (subst (λ (ws : List ℕ). ListsOffsets t numbers p name value ws c.loop-bytes.out.items c.loop-bytes.out.items) (sym (words-none left short)) (offsets-none t numbers p name value c.loop-bytes.out.items)))
