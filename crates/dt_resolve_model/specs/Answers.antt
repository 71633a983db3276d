-- Answers of the rules: a value, a fault, or none that a tree determines.
use Rattle.std.specs.Prelude.{◌≡◌, None, Result, Ok, Err}
use Rattle.dt_names.specs.declared.fault.Fault.{Fault}
use Rattle.dt_names.specs.declared.fault.FaultKind.{FaultKind}

pub data Answer (A : Type 0) : Type 0 where
  undetermined : Answer A
  refused : Fault → Answer A
  answer : A → Answer A

-- a fault of this kind, without a place
abbrev pub refuse : {A : Type 0} → FaultKind → Answer A
refuse kind = refused (record { kind = kind; at = None })

-- what a rule does with an answer
infixl 10 ◌>>=◌
abbrev pub ◌>>=◌ : {A B : Type 0} → Answer A → (A → Answer B) → Answer B
undetermined >>= f = undetermined
(refused fault) >>= f = refused fault
(answer a) >>= f = f a

-- where the first is determined, the second is the same, values by R
abbrev pub Agrees : {A B : Type 0} → (A → B → Type 0) → Answer A → Answer B → Type 0
Agrees R undetermined y = Unit {0}
Agrees R (refused fault) y = y ≡ refused fault
Agrees {A} {B} R (answer a) y = (b : B) × (y ≡ answer b) × R a b

-- a call's result as an answer, its value seen so
abbrev pub told_as : {A B : Type 0} → (A → B) → Result A Fault → Answer B
told_as f (Ok a) = answer (f a)
told_as f (Err fault) = refused fault

-- its value as it is
abbrev pub told : {A : Type 0} → Result A Fault → Answer A
told r = told_as (λ a. a) r
