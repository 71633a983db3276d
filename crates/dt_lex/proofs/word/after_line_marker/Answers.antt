use Rattle.std.proofs.Common.{ℕ, List, Some, None}
use Rattle.dt_lex.specs.declared.byte.Class.TheVariants as class
use Rattle.dt_lex.specs.Bytes.{is_in}
use Rattle.dt_lex.specs.Words.{Each, Starting, Then}
use Rattle.dt_lex.specs.Vocabulary.{Run}
use Rattle.dt_lex.proofs.WordLemmas.{word_then, digit_in_line, blanks_stop, starting, not_starting, no_first, then_run, all_some, runs_shorter}
use Rattle.dt_lex.proofs.word.after_line_marker.Goals as goal

abbrev numbered : List ℕ → Type 0
numbered = Starting (is_in class.Digit) (Each (is_in class.Line))

abbrev marked : List ℕ → Type 0
marked = Then (Run class.LineBlank) numbered

pub returns-then-not-begins-clause-exact : goal.returns-then-not-begins-clause-exact
returns-then-not-begins-clause-exact c =
    let t = c.in_ok-blanks.blanks.now in
    word_then marked c.args.opening.now c.args.text.now t c.in_ok-blanks.ensures.exact None
    (no_first t (not_starting (is_in class.LineBlank) (Each (is_in class.LineBlank)) t (λ b. let q = c.begins.ensures.1 b in let r = c.if-not-begins.true in cc)))

pub returns-then-not-begins-2-clause-exact : goal.returns-then-not-begins-2-clause-exact
returns-then-not-begins-2-clause-exact c =
    let t = c.in_ok-blanks.blanks.now in
    let number = c.after_all-number.result.now in
    let b = c.begins.ensures.0 c.if-not-begins.false in
    let blank = is_in class.LineBlank in
    word_then marked c.args.opening.now c.args.text.now t c.in_ok-blanks.ensures.exact None
    (then_run blank blank (λ x h. h) numbered blanks_stop t number b c.after_all-number.ensures.exact None
    (not_starting (is_in class.Digit) (Each (is_in class.Line)) number (λ b. let q = c.begins-2.ensures.1 b in let r = c.if-not-begins-2.true in cc)))

pub returns-clause-exact : goal.returns-clause-exact
returns-clause-exact c =
    let t = c.in_ok-blanks.blanks.now in
    let number = c.after_all-number.result.now in
    let rest = c.after_line.result in
    let b = c.begins.ensures.0 c.if-not-begins.false in
    let d = c.begins-2.ensures.0 c.if-not-begins-2.false in
    let blank = is_in class.LineBlank in
    let short = runs_shorter (is_in class.Line) (is_in class.Digit) digit_in_line number rest.now d c.after_line.ensures.exact in
    word_then marked c.args.opening.now c.args.text.now t c.in_ok-blanks.ensures.exact (Some rest)
    (then_run blank blank (λ x h. h) numbered blanks_stop t number b c.after_all-number.ensures.exact (Some rest)
    (starting (is_in class.Digit) (Each (is_in class.Line)) number d (Some rest) short (all_some (is_in class.Line) number rest c.after_line.ensures.exact)))
