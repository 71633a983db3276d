use Rattle.std.proofs.Common.{◌<◌, [], ◌∷◌, length, None, Some, refl, arith}
use Rattle.dt_lex.specs.declared.byte.Class.TheVariants as class
use Rattle.dt_lex.specs.declared.token.Mode.TheVariants as mode
use Rattle.dt_lex.specs.declared.rule.Rule.TheVariants as rule
use Rattle.dt_lex.specs.Bytes.{is_in}
use Rattle.dt_lex.specs.Words.{Each, Word}
use Rattle.dt_lex.proofs.Decided.{decided_of, cut_behind, not_here, other_rules, none_starting, runs_on, begins_more, label_not_blank, label_in_name}
use Rattle.dt_lex.proofs.WordLemmas.{all_some, runs_shorter, starting, then_run, stops_word, starts_label}
use Rattle.dt_lex.proofs.piece.label_or_name.Goals as goal

pub returns-in-Some-clause-exact : goal.returns-in-Some-clause-exact
returns-in-Some-clause-exact c =
    let s = c.args.text.now in
    let b = c.begins.ensures.0 c.if-not-begins.false in
    let label = is_in class.Label in
    let start = is_in class.LabelStart in
    let word = then_run label start starts_label (Word (58 ∷ [])) (stops_word label (58 ∷ []) refl) s c.after_all-run.result.now b c.after_all-run.ensures.exact (Some c.in-Some.rest) c.in-Some.ensures.exact in
    decided_of mode.Name s rule.Label word.0 c.in-Some.rest.now _ c.piece_of.result
    (λ fresh.
    cut_behind mode.Name fresh s (rule.Blanks ∷ []) rule.Label _ (other_rules start refl s b) (not_here mode.Name fresh s rule.Blanks (none_starting start (is_in class.Blank) (Each (is_in class.Blank)) label_not_blank s b), tt) refl word.0
    c.in-Some.rest.now word.1 (omega (arith, c.in-Some.ensures.shorter, c.after_all-run.ensures.shorter)))
    refl c.piece_of.ensures.kind c.piece_of.ensures.rest c.piece_of.ensures.word

pub returns-clause-exact : goal.returns-clause-exact
returns-clause-exact c =
    let s = c.args.text.now in
    let b = c.begins.ensures.0 c.if-not-begins.false in
    let label = is_in class.Label in
    let name = is_in class.Name in
    let start = is_in class.LabelStart in
    let blank = none_starting start (is_in class.Blank) (Each (is_in class.Blank)) label_not_blank s b in
    let no_label = then_run label start starts_label (Word (58 ∷ [])) (stops_word label (58 ∷ []) refl) s c.after_all-run.result.now b c.after_all-run.ensures.exact None c.in_default.ensures.exact in
    let runs = runs_on label name label_in_name s c.after_all-run.result.now c.after_all.result.now c.after_all-run.ensures.exact c.after_all.ensures.exact in
    let begins = begins_more label name label_in_name s (begins_more start label starts_label s b) in
    let short = runs_shorter label start starts_label s c.after_all-run.result.now b c.after_all-run.ensures.exact in
    let less : length c.after_all.result.now < length s = omega (arith, short, c.after_all.ensures.shorter) in
    let word = starting name (Each name) s begins (Some c.after_all.result) less (all_some name s c.after_all.result runs) in
    decided_of mode.Name s rule.Name word.0 c.after_all.result.now _ c.piece_of-2.result
    (λ fresh.
    cut_behind mode.Name fresh s (rule.Blanks ∷ rule.Label ∷ []) rule.Name _ (other_rules start refl s b) (not_here mode.Name fresh s rule.Blanks blank, (not_here mode.Name fresh s rule.Label no_label, tt)) refl word.0
    c.after_all.result.now word.1 less)
    refl c.piece_of-2.ensures.kind c.piece_of-2.ensures.rest c.piece_of-2.ensures.word
