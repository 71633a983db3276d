-- How faults of what is read are told of the object.
use Rattle.std.proofs.Common.{◌≡◌, List, [], ◌∷◌, true, sym, ap, subst, ◌∙◌, inl, inr, ◌⊎◌, Some, None, codes, ℕ}
use Rattle.std.specs.List.{AllByRecursion}
use Rattle.dt_model.specs.Lists.{IsIn}
use Rattle.dt_model.specs.Names.{Name}
use Rattle.dt_model.specs.Path.{Path}
use Rattle.dt_model.specs.Tree.{Property, Reading, stands_in}
use Rattle.dt_names.specs.declared.fault.Fault.{Fault}
use Rattle.dt_names.specs.declared.fault.FaultKind.{FaultKind}
use Rattle.dt_names.specs.declared.fault.FaultKind.TheVariants.{NoMemory, NoSymbol, BadSymbol, BadFixup, BadLocalFixup}
use Rattle.dt_trees.specs.Placed.{PlacedTree, reading_of}
use Rattle.dt_overlay_laws.specs.Objects.{HasTarget, HaveTargets, AreFixedUp, IsMirror, AreMirrors, IsSymbol, symbols_in}
use Rattle.dt_overlay_laws.specs.Refusals.{HasNoFixup, WhyNotApplied}
use Rattle.dt_overlay_object.specs.declared.kept.ObjectFragment.{ObjectFragment}
use Rattle.dt_overlay_object.specs.declared.kept.ObjectTarget.{ObjectTarget}
use Rattle.dt_overlay_object.specs.declared.kept.ObjectTarget.TheVariants.{Number, Path as TargetPath}
use Rattle.dt_overlay_object.specs.Plans.{IsTargetOf, AreFragmentsOf}

-- ---- targets

-- a fragment that is kept has a target
held : (object : Reading) (f : Name) (t : ObjectTarget) → IsTargetOf object f t → HasTarget object f
held object f Number is = inl is
held object f (TargetPath value) is = inr (is.0, (is.2.0, is.1 ∙ ap (λ (bytes : List ℕ). Some bytes) is.2.1.text, is.2.1.named))

pub all_held : (t : PlacedTree) (xs : List ObjectFragment) (fs : List Name) → AreFragmentsOf t xs fs → AllByRecursion (HasTarget (reading_of t)) fs
all_held t [] [] h = tt
all_held t [] (f ∷ fs) h = absurd h
all_held t (x ∷ xs) [] h = absurd h
all_held t (x ∷ xs) (f ∷ fs) h = (held (reading_of t) f x.target h.0.target, all_held t xs fs h.1)

-- ---- faults

-- the first fault of a cell that waits for a label is one of the object's
pub label_told : (full : Reading → Reading → Type 0) (base object : Reading) (e : Fault) → HaveTargets object → (e.at ≡ None) × ((e.kind ≡ NoMemory) ⊎ HasNoFixup e.kind base object) → (e.at ≡ None) × WhyNotApplied full e.kind base object
label_told full base object e targets (at, inl k) = (at, subst (λ kind. WhyNotApplied full kind base object) (sym k) tt)
label_told full base object e targets (at, inr first) = (at, step e.kind first)
  where
    step : (kind : FaultKind) → HasNoFixup kind base object → WhyNotApplied full kind base object
    step BadFixup h = (targets, h)
    step NoSymbol h = (targets, h)
    step BadSymbol h = (targets, inl h)
    step _ h = absurd h.why

-- so is that of a cell of the object's own nodes, where there is none of those
pub local_told : (full : Reading → Reading → Type 0) (base object : Reading) (e : Fault) → HaveTargets object → AreFixedUp base object → (e.at ≡ None) × ((e.kind ≡ NoMemory) ⊎ ((e.kind ≡ BadLocalFixup)
    × ((p : Path) × (stands_in object (codes "__local_fixups__" ∷ p) ≡ true) × ((IsMirror object p) → ⊥)))) → (e.at ≡ None) × WhyNotApplied full e.kind base object
local_told full base object e targets fixups (at, inl k) = (at, subst (λ kind. WhyNotApplied full kind base object) (sym k) tt)
local_told full base object e targets fixups (at, inr (k, why)) = (at, subst (λ kind. WhyNotApplied full kind base object) (sym k) (targets, fixups, why))

-- and that of a label, where there is none of both
pub symbol_told : (full : Reading → Reading → Type 0) (base object : Reading) (e : Fault) → HaveTargets object → AreFixedUp base object → AreMirrors object → (e.at ≡ None) × ((e.kind ≡ NoMemory) ⊎ ((e.kind ≡ BadSymbol)
    × ((x : Property) × IsIn x (symbols_in object) × ((IsSymbol object x.value) → ⊥)))) → (e.at ≡ None) × WhyNotApplied full e.kind base object
symbol_told full base object e targets fixups mirrors (at, inl k) = (at, subst (λ kind. WhyNotApplied full kind base object) (sym k) tt)
symbol_told full base object e targets fixups mirrors (at, inr (k, why)) = (at, subst (λ kind. WhyNotApplied full kind base object) (sym k) (targets, inr (fixups, mirrors, why)))
