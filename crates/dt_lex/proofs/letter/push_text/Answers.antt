use Rattle.std.proofs.Common.{◌≡◌, ◌++◌, ℕ, List, Ok, Err, Result, sym, ◌∙◌, ap}
use Rattle.std.specs.Prelude.{OnOk, is_ok, if◌then◌else◌}
use Rattle.dt_lex.specs.Texts.{plain, unescaped, text_bytes}
use Rattle.dt_lex.proofs.LetterLemmas.{plain_letters}
use Rattle.dt_lex.proofs.letter.push_text.Goals as goal

on_ok : {A E : Type 0} (r : Result A E) (new done same : List ℕ) → new ≡ (if is_ok r then done else same) → OnOk r (new ≡ done)
on_ok (Ok u) new done same e = e
on_ok (Err x) new done same e = tt

pub returns-in-None-clause-ok : goal.returns-in-None-clause-ok
returns-in-None-clause-ok c =
    let letters = c.inner-letters.result.now in
    let plainly : letters ≡ text_bytes c.args.token.now = sym (plain_letters letters c.in-None.ensures) ∙ ap (unescaped plain) c.inner-letters.ensures in
    on_ok c.extend_from_slice.result c.extend_from_slice.new.self.items (c.args.out.now.items ++ text_bytes c.args.token.now) c.args.out.now.items (rw plainly at c.extend_from_slice.ensures.items)
