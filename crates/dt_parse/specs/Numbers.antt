-- Numbers that are read, with how many tokens they are.
use Rattle.std.specs.Prelude.{◌≡◌, ℕ, ◌≤◌, true, List, length, drop, Option, Some}
use Rattle.dt_model.specs.Limits.{most_tokens}
use Rattle.dt_lex.specs.declared.token.TokenKind.{TokenKind}
use Rattle.dt_expr.specs.declared.step.Step.{Step}
use Rattle.dt_expr.specs.Expression.{Expression, number, steps, value}
use Rattle.dt_grammar.specs.Words.{Words}
use Rattle.dt_grammar.specs.Wanted.{made_expression, Prim, give}
use Rattle.dt_grammar.specs.Moves.{at_prim}
use Rattle.dt_grammar.specs.Descent.{found, Descends}

-- the token is a number by itself
abbrev pub IsLiteral : Option TokenKind → ℕ → Type 0
IsLiteral next n = at_prim next ≡ give true (made_expression 1 (number n))

-- the first tokens, at most 1,024, are an expression with these steps
pub record IsMeasured (ws : Words) (ss : List Step) (used : ℕ) : Type 0 where
  pub expression : Expression
  pub steps_are : ss ≡ steps expression
  pub read : Descends Prim ws (found (made_expression used expression) (drop used ws))
  pub inside : used ≤ length ws
  pub few : used ≤ most_tokens
  pub short : length ss ≤ used

-- the first tokens, at most 1,024, are an expression of this value
pub record IsValued (ws : Words) (n used : ℕ) : Type 0 where
  pub expression : Expression
  pub is : value expression ≡ Some n
  pub read : Descends Prim ws (found (made_expression used expression) (drop used ws))
  pub inside : used ≤ length ws
  pub few : used ≤ most_tokens
