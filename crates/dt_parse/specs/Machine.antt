-- Expressions with two stacks: what is pending, and what a complete operand or a complete expression leads to there.
use Rattle.std.specs.Prelude.{◌≡◌, ℕ, zero, suc, ◌-◌, ◌+◌, List, [], ◌∷◌}
use Rattle.dt_expr.specs.declared.step.Unary.{Unary}
use Rattle.dt_expr.specs.declared.step.Binary.{Binary}
use Rattle.dt_grammar.specs.Words.{Words, level_of}
use Rattle.dt_grammar.specs.Wanted.{Made, made_expression, size_in, expression_in, Wanted, AfterCondition, AfterThis, AfterLeft, Prim, Closing, Move}
use Rattle.dt_grammar.specs.Moves.{with_one, with_two, with_three}
use Rattle.dt_grammar.specs.Descent.{move_at, first, Outcome, found, stuck, Does}

-- in parentheses
abbrev pub grouped : Made → Made
grouped x = made_expression (suc (size_in x + 1)) (expression_in x)

-- something that is pending, with the operands that it has
pub data Frame : Type 0 where
  unary_frame : Unary → Frame
  binary_frame : Binary → Made → Frame
  open_frame : Frame
  question_frame : Made → Frame
  colon_frame : Made → Made → Frame

-- what something that is made leads to, with the tokens that are left
abbrev pub Cont : Type 1
Cont = Made → Words → Outcome → Type 0

-- a move, and what is made by it leads to the outcome
pub data Through (K : Made → Words → Outcome → Type 0) (m : Move) (s : Words) : Outcome → Type 0 where
  goes : (x : Made) (r : Words) (o : Outcome) → Does m s (found x r) → K x r o → Through K m s o
  stops : (l : Words) → Does m s (stuck l) → Through K m s (stuck l)

abbrev pub LeadsOn : Cont → Wanted → Words → Outcome → Type 0
LeadsOn K g s o = Through K (move_at g (first s)) s o

-- so many levels of binary operators, from one on
abbrev pub climb : ℕ → ℕ → Cont → Cont
climb k zero K = K
climb k (suc c) K = λ x r o. LeadsOn (climb (suc k) c K) (AfterLeft k x) r o

abbrev pub bound : List Frame → ℕ
bound (binary_frame op x ∷ fs) = level_of op - 1
bound _ = 10

-- a whole expression is complete; one whose operators are all tighter than the pending one is; an operand is
pub record Conts : Type 1 where
  pub whole : Cont
  pub joined : Cont
  pub operand : Cont

abbrev pub conts_with : Cont → Cont → ℕ → Conts
conts_with whole joined levels = record { whole = whole; joined = joined; operand = climb 0 levels joined }

abbrev pub condition_then : Cont → Cont
condition_then whole = λ x r o. LeadsOn whole (AfterCondition x) r o

abbrev pub conts_of : List Frame → Conts
conts_of [] = record { whole = λ x r o. o ≡ found x r; joined = λ x r o. o ≡ found x r; operand = λ x r o. o ≡ found x r }
conts_of (unary_frame op ∷ fs) = record { whole = λ x r o. ⊥; joined = λ x r o. ⊥; operand = λ x r o. (conts_of fs).operand (with_one op x) r o }
conts_of (binary_frame op x ∷ fs) =
    let n = level_of op - 1 in
    conts_with (λ y r o. ⊥) (λ y r o. climb n (bound fs - n) (conts_of fs).joined (with_two op x y) r o) n
conts_of (open_frame ∷ fs) = let whole : Cont = λ x r o. LeadsOn (conts_of fs).operand (Closing x) r o in conts_with whole (condition_then whole) 10
conts_of (question_frame c ∷ fs) = let whole : Cont = λ x r o. LeadsOn (conts_of fs).whole (AfterThis c x) r o in conts_with whole (condition_then whole) 10
conts_of (colon_frame c x ∷ fs) = let whole : Cont = λ y r o. (conts_of fs).whole (with_three c x y) r o in conts_with whole (condition_then whole) 10

-- an operator, a parenthesis or `? :` is pending, and no prefix
abbrev pub IsLevelled : List Frame → Type 0
IsLevelled [] = ⊥
IsLevelled (unary_frame op ∷ fs) = ⊥
IsLevelled _ = Unit {0}

-- and no operator
abbrev pub HasNoOperator : List Frame → Type 0
HasNoOperator [] = ⊥
HasNoOperator (unary_frame op ∷ fs) = ⊥
HasNoOperator (binary_frame op x ∷ fs) = ⊥
HasNoOperator _ = Unit {0}
