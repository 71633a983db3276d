use Rattle.std.proofs.Common.{◌≡◌, ◌∙◌, true, false, Bor, List, ap, sym, map, codes, refl, []}
use Rattle.clap.specs.Words.{Text, found_of, rows_of}
use Rattle.dt_run_words.specs.Words.{takes_overlays}
use Rattle.dt_run_words.proofs.WordLemmas.{all_overlays, are_files, first_by, others_by}
use Rattle.dt_run_words.proofs.words.files_of.Goals as goal

pub returns-then-takes_overlays : goal.returns-then-takes_overlays
returns-then-takes_overlays c =
    let f = found_of c.args.found.now in
    let takes : takes_overlays c.args.job ≡ true = sym c.takes_overlays.ensures ∙ c.if-takes_overlays.true in
    let overlays = ap (λ (values : Bor (List (Bor Text))). map (λ x. x.now) values.now) c.unwrap_or-overlays.ensures ∙ all_overlays f c.get_strs.result _ refl c.get_strs.ensures in
    are_files c.args.job f (codes "BASE") (first_by c.args.job true takes) c.get_str.result c.get_str.ensures
    c.in_order.result c.unwrap_or-overlays.result.now (overlays ∙ sym (others_by c.args.job (rows_of f) true takes)) c.in_order.ensures

pub returns-else-takes_overlays : goal.returns-else-takes_overlays
returns-else-takes_overlays c =
    let f = found_of c.args.found.now in
    let takes : takes_overlays c.args.job ≡ false = sym c.takes_overlays.ensures ∙ c.if-takes_overlays.false in
    are_files c.args.job f (codes "FILE") (first_by c.args.job false takes) c.get_str-else-takes_overlays.result c.get_str-else-takes_overlays.ensures
    c.in_order-else-takes_overlays.result [] (sym (others_by c.args.job (rows_of f) false takes)) c.in_order-else-takes_overlays.ensures
