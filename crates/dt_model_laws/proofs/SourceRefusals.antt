-- A source is refused for one reason, and one that means something for none but the number of its nodes.
use Rattle.std.proofs.Common.{◌≡◌, refl, sym, ap, subst, ◌∙◌, Option, Some, None, Result, Ok, Err, IsSome}
use Rattle.dt_model.specs.Source.{Events, Refusal, SoFar, LateRefusal, unresolved, bad_phandle, duplicate_phandle, IsLateRefusal, IsResolved}
use Rattle.dt_model.specs.Refused.{at_place, at_end, too_many}
use Rattle.dt_model_laws.specs.CompiledTrees.{RefusalIsOne, MeantIsNotRefused}

-- ---- after the last place

none_is_none : {A : Type 0} (o : Option A) → IsSome o → o ≡ None → ⊥
none_is_none None h e = cc
none_is_none (Some x) h e = cc

resolved_is_fine : (es : Events) (r : LateRefusal) → IsResolved es → IsLateRefusal es r → ⊥
resolved_is_fine es unresolved h k = none_is_none _ (h.bound_to k.0 k.1 k.2 k.3) k.4
resolved_is_fine es bad_phandle h k = none_is_none _ (h.numbered k.1.0 k.1.1 k.1.2) k.1.3
resolved_is_fine es duplicate_phandle h k = k.2.3 (h.own k.2.0 k.2.1 k.2.2 k.2.4 k.2.5)

one_late : (es : Events) (r q : LateRefusal) → IsLateRefusal es r → IsLateRefusal es q → r ≡ q
one_late es unresolved unresolved h k = refl
one_late es unresolved bad_phandle h k = absurd (k.0 h)
one_late es unresolved duplicate_phandle h k = absurd (k.0 h)
one_late es bad_phandle unresolved h k = absurd (h.0 k)
one_late es bad_phandle bad_phandle h k = refl
one_late es bad_phandle duplicate_phandle h k = absurd (k.1 h.1)
one_late es duplicate_phandle unresolved h k = absurd (h.0 k)
one_late es duplicate_phandle bad_phandle h k = absurd (h.1 k.1)
one_late es duplicate_phandle duplicate_phandle h k = refl

-- ---- the places

not_both : {o : Result SoFar Refusal} (s : SoFar) (r : Refusal) → o ≡ Ok s → o ≡ Err r → ⊥
not_both s r h k = let z : ◌≡◌ {A = Result SoFar Refusal} (Ok s) (Err r) = sym h ∙ k in cc

pub one_end : {o : Result SoFar Refusal} (s t : SoFar) → o ≡ Ok s → o ≡ Ok t → s ≡ t
one_end s t h k = let z : ◌≡◌ {A = Result SoFar Refusal} (Ok s) (Ok t) = sym h ∙ k in cc

pub one_refusal : RefusalIsOne
one_refusal mode places (at_place r) (at_place q) h k = let z : ◌≡◌ {A = Result SoFar Refusal} (Err r) (Err q) = sym h ∙ k in let e : r ≡ q = cc in ap at_place e
one_refusal mode places (at_place r) (at_end q) h k = absurd (not_both k.0 r k.1 h)
one_refusal mode places (at_place r) too_many h k = absurd (not_both k.0 r k.1 h)
one_refusal mode places (at_end r) (at_place q) h k = absurd (not_both h.0 q h.1 k)
one_refusal mode places (at_end r) (at_end q) h k =
    ap at_end (one_late (k.0).events r q (subst (λ (s : SoFar). IsLateRefusal s.events r) (one_end h.0 k.0 h.1 k.1) h.2) k.2)
one_refusal mode places (at_end r) too_many h k =
    absurd (resolved_is_fine (k.0).events r k.2 (subst (λ (s : SoFar). IsLateRefusal s.events r) (one_end h.0 k.0 h.1 k.1) h.2))
one_refusal mode places too_many (at_place q) h k = absurd (not_both h.0 q h.1 k)
one_refusal mode places too_many (at_end q) h k =
    absurd (resolved_is_fine (h.0).events q h.2 (subst (λ (s : SoFar). IsLateRefusal s.events q) (one_end k.0 h.0 k.1 h.1) k.2))
one_refusal mode places too_many too_many h k = refl

pub meant_not_refused : MeantIsNotRefused
meant_not_refused mode reservations places m (at_place r) w h = absurd (not_both w.so_far r w.all_read h)
meant_not_refused mode reservations places m (at_end r) w h =
    absurd (resolved_is_fine w.so_far.events r w.resolved (subst (λ (s : SoFar). IsLateRefusal s.events r) (one_end h.0 w.so_far h.1 w.all_read) h.2))
meant_not_refused mode reservations places m too_many w h = refl
