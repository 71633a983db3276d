use Rattle.std.proofs.Common.{◌∙◌, sym, ap, ℕ}
use Rattle.std.specs.Global.{Vec}
use Rattle.std.specs.Str.{bytes_eq}
use Rattle.std.proofs.lemmas.Result.{on_ok_weaker}
use Rattle.indexmap.proofs.MapLemmas.{Found-position, Missing-position}
use Rattle.dt_marks.specs.Waiting.{properties_kept}
use Rattle.dt_marks.proofs.TextTables.{text_behind_others, text_of_new, where_ok}
use Rattle.dt_marks.proofs.waiting.append.Goals as goal

pub returns-in-Some : goal.returns-in-Some
returns-in-Some c =
    let es = c.args.texts.now.entries in
    let label = c.args.label.now in
    let found = Found-position (λ (x : Vec ℕ). bytes_eq label x.items) es c.in-Some.place (sym c.in-Some.ensures.index) in
    on_ok_weaker c.extend_from_slice.result
    (λ is. text_behind_others es c.in-Some.place _ _ c.extend_from_slice.new.self label c.args.text.now found.or_len c.pair_mut-value.ensures.value is)
    (where_ok c.extend_from_slice.result _ _ _ c.extend_from_slice.ensures.items)

pub returns : goal.returns
returns c =
    let es = c.args.texts.now.entries in
    let label = c.args.label.now in
    let missing = Missing-position (λ (x : Vec ℕ). bytes_eq label x.items) es (sym c.in_default.ensures.index) in
    ap properties_kept c.in_ok-insert.ensures.entries
    ∙ text_of_new es c.in_ok-key.key c.in_ok-value.value label c.args.text.now missing.value c.in_ok-key.ensures.items c.in_ok-value.ensures.items
