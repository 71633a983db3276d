-- Applying objects one after another is merging what they mean, one after another.
use Rattle.std.proofs.Common.{◌≡◌, ℕ, List, [], ◌∷◌, refl, sym, ap, subst, ◌∙◌, Option, Some, None}
use Rattle.std.specs.Prelude.{MatchOption, codes}
use Rattle.std.specs.List.{list_any}
use Rattle.dt_model.specs.Path.{Path}
use Rattle.dt_model.specs.Meaning.{Meaning, Extends}
use Rattle.dt_model.specs.Overlay.{Overlay}
use Rattle.dt_model.specs.Merged.{Site, sources, merged, IsDefined, IsFold}
use Rattle.dt_model.specs.Object.{properties_of}
use Rattle.dt_model.specs.Tree.{Reading, node_at}
use Rattle.dt_model.specs.Valid.{IsWithinLimits}
use Rattle.dt_model.proofs.Tests.{or_right}
use Rattle.dt_model_laws.specs.Applying.{AreOf, IsObject}
use Rattle.dt_model.specs.Represents.{IsOf}
use Rattle.dt_model_laws.proofs.CellTexts.{one_fixups}
use Rattle.dt_model_laws.proofs.MergedMeaning.{merged_is_a_meaning}
use Rattle.dt_overlay_model.specs.Walk.{applied}
use Rattle.dt_overlay_model.specs.Joining.{IsResult}
use Rattle.dt_overlay_model.specs.InTurn.{IsApplied, AppliedIsOne, InTurnIsFold, FoldIsInTurn}
use Rattle.dt_overlay_model.proofs.Exactly.{applying_is_merging}
use Rattle.dt_overlay_model.proofs.OneSites.{sites_are_one}

pub applied_is_one : AppliedIsOne
applied_is_one base object t u h k =
    let same = one_fixups (properties_of (node_at object (codes "__fixups__" ∷ []))) h.fixups k.fixups h.listed k.listed in
    let z : Some t ≡ Some u = sym h.is ∙ ap (applied base object) same ∙ k.is in
    cc

-- a tree is of the meaning with an overlay merged into it at these sites, by numbers that extend these
record IsNext (m : Meaning) (o : Overlay) (number : Path → ℕ) (sites : List Site) (next : Reading) : Type 0 where
  defined : IsDefined m o sites
  number' : Path → ℕ
  is : IsOf next (merged m o sites) number'
  extends : Extends m number number'

module _ (base object : Reading) (m : Meaning) (o : Overlay) (number : Path → ℕ) (is : IsOf base m number) (of : IsObject object o) (few : IsWithinLimits base) where
  are_of : AreOf base object m o number of.local
  are_of = record {
    represented = is.represents;
    encoded = of.encodes;
    meaning = is.meaning;
    plain = is.plain;
    overlay = of.overlay;
    valid_base = is.valid;
    valid_object = of.valid;
    few_in_base = few;
    few_in_object = of.few;
  }

  abbrev Outcome : Option Reading → Type 0
  Outcome x = MatchOption x ((sites : List Site) → IsDefined m o sites → ⊥) (λ t. (sites : List Site) × IsResult base m o number t sites)

  -- what an application gives
  is_next : (next : Reading) → IsApplied base object next → (sites : List Site) × IsNext m o number sites next
  is_next next a =
      let r : Outcome (Some next) = subst Outcome a.is (applying_is_merging base object m o number of.local a.fixups are_of a.listed) in
      let w = merged_is_a_meaning m o r.0 is.meaning is.plain of.overlay r.1.defined in (
        r.0,
        record {
          defined = r.1.defined;
          number' = r.1.number';
          is = record { represents = r.1.represents; meaning = w.0; plain = w.1; valid = r.1.valid };
          extends = r.1.extends;
        },
      )

  -- there is one where the overlay can be merged
  some_next : (sites : List Site) → IsDefined m o sites → (next : Reading) × IsApplied base object next
  some_next sites h =
      step (applied base object of.encodes.fixups) refl (applying_is_merging base object m o number of.local of.encodes.fixups are_of of.encodes.fixups_listed)
    where
      step : (y : Option Reading) → applied base object of.encodes.fixups ≡ y → Outcome y → (next : Reading) × IsApplied base object next
      step None e k = absurd (k sites h)
      step (Some next) e k = (next, record { fixups = of.encodes.fixups; listed = of.encodes.fixups_listed; is = e })

-- numbers that are kept twice are kept
extends_twice : (m : Meaning) (o : Overlay) (sites : List Site) (number number' number'' : Path → ℕ) → Extends m number number' → Extends (merged m o sites) number' number'' → Extends m number number''
extends_twice m o sites number number' number'' first second = record {
  kept = λ p h. second.kept p (or_right (list_any o.keyed (sources sites p)) (m.keyed p) h) ∙ first.kept p h;
}

pub in_turn_is_fold : InTurnIsFold
in_turn_is_fold base [] m [] number t is are done = (m, number, refl, subst (λ x. IsOf x m number) (sym done) is, record { kept = λ p h. refl })
in_turn_is_fold base [] m (o ∷ overlays) number t is are done = absurd are
in_turn_is_fold base (x ∷ objects) m [] number t is are done = absurd are
in_turn_is_fold base (x ∷ objects) m (o ∷ overlays) number t is are done =
    let n = is_next base x m o number is are.0 done.0 done.1.0 done.1.1 in
    let w = in_turn_is_fold done.1.0 objects (merged m o n.0) overlays n.1.number' t n.1.is are.1 done.1.2 in
    (w.0, w.1, (n.0, n.1.defined, w.2), w.3, extends_twice m o n.0 number n.1.number' w.1 n.1.extends w.4)

pub fold_is_in_turn : FoldIsInTurn
fold_is_in_turn base [] m [] number result is are fold few = (base, refl)
fold_is_in_turn base [] m (o ∷ overlays) number result is are fold few = absurd are
fold_is_in_turn base (x ∷ objects) m [] number result is are fold few = absurd are
fold_is_in_turn base (x ∷ objects) m (o ∷ overlays) number result is are fold few =
    let here : IsWithinLimits base = few [] objects x base refl refl in
    let next = some_next base x m o number is are.0 here fold.0 fold.1 in
    let n = is_next base x m o number is are.0 here next.0 next.1 in
    let same = sites_are_one m o fold.0 n.0 fold.1 n.1.defined in
    let w = fold_is_in_turn next.0 objects (merged m o n.0) overlays n.1.number' result n.1.is are.1
    (subst (λ sites. IsFold (merged m o sites) overlays result) same fold.2)
    (λ front back y t e h. few (x ∷ front) back y t (ap (λ z. x ∷ z) e) (here, (next.0, next.1, h))) in
    (w.0, (here, (next.0, next.1, w.1)))
