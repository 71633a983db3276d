-- What the two stacks and the tokens that are left say of an expression, and what each turn makes of it.
use Rattle.std.specs.Prelude.{◌≡◌, ℕ, ◌<◌, ◌≤◌, List, [], ◌∷◌, ◌++◌, length, drop, Option, Some, None, Result, Ok, Err}
use Rattle.std.specs.Borrow.{Bor}
use Rattle.dt_lex.specs.declared.token.Token.{Token}
use Rattle.dt_expr.specs.declared.step.Step.{Step}
use Rattle.dt_expr.specs.declared.step.Step.TheVariants as step
use Rattle.dt_expr.specs.Expression.{steps}
use Rattle.dt_parse.specs.declared.expression.Pending.{Pending}
use Rattle.dt_parse.specs.declared.expression.Pending.TheVariants as pending
use Rattle.dt_parse.specs.declared.expression.Stage.{Stage}
use Rattle.dt_parse.specs.declared.expression.Stage.TheVariants as stage
use Rattle.dt_parse.specs.declared.expression.Turn.{Turn}
use Rattle.dt_parse.specs.declared.expression.Turn.TheVariants as turn_kind
use Rattle.dt_parse.specs.declared.expression.Refusal.{Refusal}
use Rattle.dt_parse.specs.declared.expression.Refusal.TheVariants as refusal
use Rattle.dt_grammar.specs.Words.{Words, words_of, level_of}
use Rattle.dt_grammar.specs.Wanted.{Made, expression_in, Wanted, Prefix, Prim}
use Rattle.dt_grammar.specs.Descent.{Outcome, found, stuck, Descends}
use Rattle.dt_parse.specs.Machine.{Frame, unary_frame, binary_frame, open_frame, question_frame, colon_frame, LeadsOn, bound, conts_of, IsLevelled, HasNoOperator}

abbrev pub pending_of : Frame → Pending
pending_of (unary_frame op) = pending.Unary op
pending_of (binary_frame op x) = pending.Binary op
pending_of open_frame = pending.Open
pending_of (question_frame c) = pending.Question
pending_of (colon_frame c x) = pending.Colon

abbrev pub top_of : List Frame → Option Pending
top_of [] = None
top_of (f ∷ fs) = Some (pending_of f)

-- the last is the innermost
abbrev pub stacked : List Frame → List Pending
stacked [] = []
stacked (f ∷ fs) = stacked fs ++ pending_of f ∷ []

abbrev pub steps_in : Frame → List Step
steps_in (unary_frame op) = []
steps_in (binary_frame op x) = steps (expression_in x)
steps_in open_frame = []
steps_in (question_frame c) = steps (expression_in c)
steps_in (colon_frame c x) = steps (expression_in c) ++ steps (expression_in x)

abbrev pub steps_written : List Frame → List Step
steps_written [] = []
steps_written (f ∷ fs) = steps_written fs ++ steps_in f

abbrev pub IsSome : List Frame → Type 0
IsSome [] = ⊥
IsSome (f ∷ fs) = Unit {0}

abbrev pub AreFrames : List Frame → Type 0
AreFrames [] = Unit {0}
AreFrames (unary_frame op ∷ fs) = IsSome fs × AreFrames fs
AreFrames (binary_frame op x ∷ fs) = IsLevelled fs × (level_of op ≤ bound fs) × AreFrames fs
AreFrames (open_frame ∷ fs) = AreFrames fs
AreFrames (question_frame c ∷ fs) = HasNoOperator fs × AreFrames fs
AreFrames (colon_frame c x ∷ fs) = HasNoOperator fs × AreFrames fs

abbrev pub begin : List Frame → Wanted
begin [] = Prim
begin (f ∷ fs) = Prefix

-- what leads to an outcome from here leads there from the start
abbrev pub LeadsFrom : List Token → List Token → (Words → Outcome → Type 0) → Type 0
LeadsFrom tokens rest P = (text : List ℕ) (o : Outcome) → P (words_of text rest) o → Descends Prim (words_of text tokens) o

pub record IsWanted (tokens : List Token) (fs : List Frame) (out : List Step) (rest : List Token) : Type 0 where
  pub steps_are : out ≡ steps_written fs
  pub follows : LeadsFrom tokens rest (λ s o. LeadsOn (conts_of fs).operand (begin fs) s o)

pub record IsOperand (tokens : List Token) (fs : List Frame) (out : List Step) (rest : List Token) : Type 0 where
  pub made : Made
  pub steps_are : out ≡ steps_written fs ++ steps (expression_in made)
  pub inside : IsSome fs
  pub follows : LeadsFrom tokens rest (λ s o. (conts_of fs).operand made s o)

pub record IsWhole (tokens : List Token) (fs : List Frame) (out : List Step) (rest : List Token) : Type 0 where
  pub made : Made
  pub steps_are : out ≡ steps_written fs ++ steps (expression_in made)
  pub inside : HasNoOperator fs
  pub follows : LeadsFrom tokens rest (λ s o. (conts_of fs).whole made s o)

-- the expression is complete
pub record IsDone (tokens : List Token) (out : List Step) (rest : List Token) : Type 0 where
  pub made : Made
  pub steps_are : out ≡ steps (expression_in made)
  pub read : (text : List ℕ) → Descends Prim (words_of text tokens) (found made (words_of text rest))

abbrev pub Stands : Stage → List Token → List Frame → List Step → List Token → Type 0
Stands stage.Wanted tokens fs out rest = IsWanted tokens fs out rest
Stands stage.Operand tokens fs out rest = IsOperand tokens fs out rest
Stands stage.Whole tokens fs out rest = IsWhole tokens fs out rest

-- behind an operand it is complete, or the operand is one of what is pending
abbrev pub Behind : List Token → List Frame → List Step → List Token → Type 0
Behind tokens [] out rest = IsDone tokens out rest
Behind tokens (f ∷ fs) out rest = IsOperand tokens (f ∷ fs) out rest

pub record Pushed (tokens : List Token) (fs : List Frame) (out : List Step) (rest : List Token) (p : Pending) : Type 0 where
  pub frame : Frame
  pub is : pending_of frame ≡ p
  pub frames : AreFrames (frame ∷ fs)
  pub stands : IsWanted tokens (frame ∷ fs) out rest

pub record Popped (fs : List Frame) (P : List Frame → Type 0) : Type 0 where
  pub frame : Frame
  pub others : List Frame
  pub split : fs ≡ frame ∷ others
  pub stands : P others

abbrev pub After : Stage → List Token → List Frame → List Step → List Token → Turn → Type 0
After at tokens fs out rest (turn_kind.Number n) = Behind tokens fs (out ++ step.Number n ∷ []) (drop 1 rest) × (length (drop 1 rest) < length rest)
After at tokens fs out rest (turn_kind.Push p) = Pushed tokens fs out (drop 1 rest) p × (length (drop 1 rest) < length rest)
After at tokens fs out rest (turn_kind.Emit s) = Popped fs (λ gs. Stands at tokens gs (out ++ s ∷ []) rest)
After at tokens fs out rest turn_kind.Else = Popped fs (λ gs. Pushed tokens gs out (drop 1 rest) pending.Colon) × (length (drop 1 rest) < length rest)
After at tokens fs out rest turn_kind.Close = Popped fs (λ gs. Behind tokens gs out (drop 1 rest)) × (length (drop 1 rest) < length rest)
After at tokens fs out rest turn_kind.Whole = IsWhole tokens fs out rest × (at ≡ stage.Operand)
After at tokens fs out rest turn_kind.Refuse = (text : List ℕ) → Descends Prim (words_of text tokens) (stuck (words_of text rest))

abbrev pub weight : Stage → ℕ
weight stage.Wanted = 0
weight stage.Whole = 1
weight stage.Operand = 2

-- the two stacks in front of the tokens that are left
pub record Turning (tokens : List Token) (at : Stage) (waiting : List Pending) (out : List Step) (rest : List Token) : Type 0 where
  pub fs : List Frame
  pub stack : waiting ≡ stacked fs
  pub frames : AreFrames fs
  pub stands : Stands at tokens fs out rest

abbrev pub Refused : List Token → Refusal → Type 0
Refused tokens refusal.Memory = Unit {0}
Refused tokens (refusal.Syntax n) = (left : List Token) × (length left ≡ n) × ((text : List ℕ) → Descends Prim (words_of text tokens) (stuck (words_of text left)))

abbrev pub Answers : List Token → List Step → Result (Bor (List Token)) Refusal → Type 0
Answers tokens out (Ok rest) = IsDone tokens out rest.now
Answers tokens out (Err e) = Refused tokens e
