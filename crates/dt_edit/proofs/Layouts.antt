-- The layout of a blob that can be edited.
use Rattle.std.proofs.Common.{◌≡◌, ℕ, ◌+◌, ◌≤◌, List, length, sym, ◌∙◌, arith}
use Rattle.dt_model.specs.Checks.{number, strings_of}
use Rattle.dt_model.specs.Format.{part}
use Rattle.dt_edit.specs.declared.layout.Layout.{Layout}
use Rattle.dt_edit.specs.Editable.{IsEditable}
use Rattle.dt_edit.specs.Plans.{IsLayout}
use Rattle.dt_edit.proofs.Assembling.{edits_of}

-- the layout is what the header says
pub layout_is : (bytes : List ℕ) (l : Layout) → IsEditable bytes → l.boot_cpu ≡ number bytes 28 → l.structure_at ≡ number bytes 8 → l.structure ≡ number bytes 36 → l.strings ≡ number bytes 32 → IsLayout bytes l
layout_is bytes l e cpu at structure strings =
    let b = (edits_of bytes e).blocks in
    let total = b.total in
    let place = b.structure_at in
    let first = b.structure_size in
    let second = b.strings_size in
    record {
      boot_cpu = cpu;
      structure_at = at ∙ place;
      structure = structure ∙ first;
      strings = strings ∙ second;
      total = omega arith;
    }

-- where the strings lie
pub strings_lie : (bytes : List ℕ) (l : Layout) → IsEditable bytes → IsLayout bytes l → (l.structure_at + l.structure + l.strings ≤ length bytes) × (part (l.structure_at + l.structure) l.strings bytes ≡ strings_of bytes)
strings_lie bytes l e i =
    let edits = edits_of bytes e in
    let total = i.total in
    let inside = edits.inside in
    let at : l.structure_at + l.structure ≡ number bytes 12 = let place = i.structure_at in let size = i.structure in let here = edits.blocks.strings_at in omega arith in
    let size : l.strings ≡ number bytes 32 = i.strings ∙ sym edits.blocks.strings_size in
    (omega arith, λ j. part (at j) (size j) bytes)
