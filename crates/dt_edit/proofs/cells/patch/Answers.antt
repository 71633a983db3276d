use Rattle.std.proofs.Common.{◌≡◌, ◌+◌, ◌∙◌, ℕ, length, ap, sym, arith}
use Rattle.dt_model.specs.Checks.{number}
use Rattle.dt_model.specs.Format.{word}
use Rattle.dt_model.specs.Lexing.{padded}
use Rattle.dt_read.specs.Cuts.{property_size}
use Rattle.dt_edit.specs.Moving.{put}
use Rattle.dt_edit.proofs.Assembling.{edits_of}
use Rattle.dt_edit.proofs.cells.patch.Goals as goal

pub returns : goal.returns
returns c =
    let old = c.args.bytes.now in
    let edits = edits_of old c.requires.editable in
    let cut = c.property_cut-cut.result in
    let is = c.property_cut-cut.ensures in
    let has = c.requires.cell in
    let offset = c.args.offset in
    let layout = c.layout_of-layout.ensures.structure_at in
    let place = edits.blocks.structure_at in
    let here : c.layout_of-layout.result.structure_at ≡ number old 8 = layout ∙ sym place in
    let taken : cut.size ≡ padded (12 + length has.0) = is.taken ∙ ap property_size has.1 in
    let fits = has.2 in
    let inside = is.behind.inside in
    let total = edits.blocks.total in
    let within = edits.inside in
    record {
      at = cut.at;
      size = cut.size;
      cut = is;
      inside = omega arith;
      is = c.put_word.ensures ∙ ap (λ (k : ℕ). put (k + cut.at + 12 + offset) (word c.args.number) old) here;
    }
