use Rattle.std.proofs.Common.{◌≡◌, ℕ, List, [], ◌∷◌, true, sym, ◌∙◌, ap}
use Rattle.dt_lex.specs.declared.byte.Class.TheVariants as class
use Rattle.dt_lex.specs.Bytes.{is_in}
use Rattle.dt_lex.proofs.WordLemmas.{two_some}
use Rattle.dt_lex.proofs.word.after_byte.Goals as goal

pub returns-then-is_in-2-clause-exact : goal.returns-then-is_in-2-clause-exact
returns-then-is_in-2-clause-exact c =
    let a = c.in_ok-first.first in
    let b = c.in_ok-second.second in
    let first_hex : is_in class.Hex a ≡ true = sym c.is_in.ensures ∙ c.if-is_in.true in
    let second_hex : is_in class.Hex b ≡ true = sym c.is_in-then-is_in.ensures ∙ c.if-is_in-2.true in
    (a ∷ b ∷ [], two_some (is_in class.Hex) c.args.text.now a b c.in_ok-second.rest.now (c.in_ok-first.ensures.some ∙ ap (λ (x : List ℕ). a ∷ x) c.in_ok-second.ensures.some) first_hex second_hex)
