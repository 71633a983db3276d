use Rattle.std.proofs.Common.{◌≡◌, ◌<◌, Some, ◌++◌, ◌+◌, ◌-◌, ◌∙◌, [], ◌∷◌, length, sym, ap, subst, ℕ, List, refl, arith, length-append}
use Rattle.dt_lex.specs.declared.byte.Class.TheVariants as class
use Rattle.dt_lex.specs.declared.rule.Rule.TheVariants as rule
use Rattle.dt_lex.specs.Bytes.{is_in}
use Rattle.dt_lex.specs.Vocabulary.{Run}
use Rattle.dt_lex.specs.Words.{Each, RunsTo, Skips}
use Rattle.std.specs.Borrow.{Bor}
use Rattle.dt_lex.specs.Labels.{IsUnlabelled}
use Rattle.dt_lex.specs.Lexing.{skipped}
use Rattle.dt_lex.proofs.Decided.{cut_behind, other_rules}
use Rattle.dt_lex.proofs.LabelLemmas.{unlabelled_behind}
use Rattle.dt_lex.proofs.Lexed.{later}
use Rattle.dt_lex.proofs.WordLemmas.{all_some, begins_of, run_begins, starting}
use Rattle.dt_lex.proofs.lexer.behind_blanks.Goals as goal

-- blanks, where a text became shorter
blanks : (s : List ℕ) (rest : Bor (List ℕ)) → RunsTo (is_in class.Blank) s rest.now → length rest.now < length s → Skips (Run class.Blank) s (Some rest)
blanks s rest run shorter =
    let p = is_in class.Blank in
    starting p (Each p) s (run_begins p s rest.now run shorter) (Some rest) shorter (all_some p s rest run)

pub returns-clause-goes_on : goal.returns-clause-goes_on
returns-clause-goes_on c = λ m a at to places lexes.
    let s = c.args.text.now in
    let rest = c.after_all-rest.result.now in
    let blank = is_in class.Blank in
    let shorter : length rest < length s = omega (arith, c.after_all-rest.ensures.shorter, c.if-rest-text.false) in
    let word = blanks s c.after_all-rest.result c.after_all-rest.ensures.exact shorter in
    let cut = cut_behind m c.args.fresh s [] rule.Blanks (rule.Label ∷ rule.Name ∷ rule.Byte ∷ rule.Decimal ∷ []) (other_rules blank refl s (begins_of blank s word.0 rest word.1.split word.1.fits.0)) tt refl word.0 rest word.1 shorter in
    let same = c.piece_of-blanks.ensures.word word.0 word.1.split in
    let left = c.piece_of-blanks.ensures.rest in
    let size : to ≡ at + length word.0 = omega (arith, places, ap length left, ap length word.1.split, length-append word.0 rest) in
    skipped rule.Blanks word.0 rest cut refl (later refl (sym same.1) size left lexes)

pub returns-clause-labels : goal.returns-clause-labels
returns-clause-labels c = λ unknown free.
    let s = c.args.text.now in
    let shorter : length c.after_all-rest.result.now < length s = omega (arith, c.after_all-rest.ensures.shorter, c.if-rest-text.false) in
    let word = blanks s c.after_all-rest.result c.after_all-rest.ensures.exact shorter in
    let left = c.piece_of-blanks.ensures.rest in
    let size : length s - unknown - length word.0 ≡ length c.piece_of-blanks.result.rest.now - unknown = omega (arith, ap length left, ap length word.1.split, length-append word.0 c.after_all-rest.result.now) in
    subst (λ (n : ℕ). IsUnlabelled n c.piece_of-blanks.result.rest.now) size (unlabelled_behind (length s - unknown) s word.0 c.piece_of-blanks.result.rest.now (length word.0) (word.1.split ∙ ap (λ (x : List ℕ). word.0 ++ x) (sym left)) refl free)
