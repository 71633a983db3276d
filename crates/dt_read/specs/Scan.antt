-- One pass over a structure block.
use Rattle.std.specs.Prelude.{◌≡◌, ℕ, List, ◌++◌, length, Some, None}
use Rattle.dt_model.specs.Format.{Token, SpellsAll}
use Rattle.dt_model.specs.Lexing.{token_in}
use Rattle.dt_model.specs.Checks.{Position, front, lead, lead_all}
use Rattle.dt_read.specs.Marks.{Takes}

-- no token that is allowed there is at the front of the bytes
abbrev pub IsStuck : List ℕ → Position → List ℕ → Type 0
IsStuck strings p rest = (token : Token) (n : ℕ) → token_in strings rest ≡ Some (token, n) → lead token p ≡ None

-- a token of so many bytes may stand there, and leads to another position
pub record MovesTo (strings : List ℕ) (p : Position) (rest : List ℕ) (q : Position) (n : ℕ) : Type 0 where
  pub token : Token
  pub takes : Takes strings rest token n
  pub led : lead token p ≡ Some q

-- tokens lead from the front of the block to the rest of it
pub record Reaches (strings block : List ℕ) (here : ℕ) (rest : List ℕ) (p : Position) : Type 0 where
  pub tokens : List Token
  pub before : List ℕ
  pub whole : block ≡ before ++ rest
  pub place : here ≡ length before
  pub spelled : SpellsAll strings tokens before
  pub led : lead_all tokens front ≡ Some p
