-- What is told of a result that is a fault.
use Rattle.std.proofs.Common.{◌≡◌, Result, Ok, Err, None, sym, ap, subst}
use Rattle.std.specs.Prelude.{IfErr}
use Rattle.std.specs.Result.{IsErrAnd}
use Rattle.dt_names.specs.declared.fault.Fault.{Fault}
use Rattle.dt_names.specs.declared.fault.FaultKind.{FaultKind}
use Rattle.dt_resolve_model.specs.Answers.{Answer, refused, refuse, told_as}

-- a fault of a kind, without a place, is the refusal of the kind
pub refuses : {A : Type 0} (fault : Fault) (kind : FaultKind) → fault.kind ≡ kind → fault.at ≡ None → (let r : Answer A = refused fault in r) ≡ refuse kind
refuses fault kind is none = λ i. refused (record { kind = is i; at = none i })

module _ {A : Type 0} (r : Result A Fault) (e : Fault) where
  -- a result that is this fault is told as it
  pub told_fault : {B : Type 0} (f : A → B) → IsErrAnd r (λ x. x ≡ e) → told_as f r ≡ refused e
  told_fault f is = told_of r is where
    told_of : (r : Result A Fault) → IsErrAnd r (λ x. x ≡ e) → told_as f r ≡ refused e
    told_of (Ok a) is = absurd is
    told_of (Err x) is = ap refused is

  -- and has what the fault has
  pub if_fault : (P : Fault → Type 0) → IsErrAnd r (λ x. x ≡ e) → P e → IfErr r P
  if_fault P is p = if_of r is where
    if_of : (r : Result A Fault) → IsErrAnd r (λ x. x ≡ e) → IfErr r P
    if_of (Ok a) is = absurd is
    if_of (Err x) is = subst P (sym is) p
