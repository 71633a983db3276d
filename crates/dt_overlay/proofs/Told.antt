-- How faults on the way are told of the object.
use Rattle.std.proofs.Common.{◌≡◌, List, [], ◌∷◌, refl, sym, subst, inl, inr, ◌⊎◌, None}
use Rattle.dt_model.specs.Names.{Name}
use Rattle.dt_model.specs.Tree.{Reading, Placed}
use Rattle.dt_model.specs.Object.{Cell, fragment_names}
use Rattle.dt_names.specs.declared.fault.Fault.{Fault}
use Rattle.dt_names.specs.declared.fault.FaultKind.{FaultKind}
use Rattle.dt_names.specs.declared.fault.FaultKind.TheVariants.{NoMemory, Limit, NoTarget, ReservedPlace}
use Rattle.dt_overlay_model.specs.Walk.{Walked, nothing_walked, site, landings, landed_on}
use Rattle.dt_overlay_laws.specs.Landings.{WhyNotLands, IsStuck, HasNoSite}
use Rattle.dt_overlay_laws.specs.Refusals.{HasNoSites, IsCrowded, WhyNotApplied}
use Rattle.dt_overlay.specs.Applying.{IsLeftBy}
use Rattle.dt_overlay_object.specs.Stages.{IsReadFor}
use Rattle.dt_overlay_object.specs.declared.object.Object.{Object}
use Rattle.dt_overlay_base.specs.Targets.{IsWant}
use Rattle.dt_trees.specs.Placed.{PlacedTree}

-- ---- sites

-- a fragment has no site for one of three reasons
abbrev IsOfSites : FaultKind → Type 0
IsOfSites k = (k ≡ NoTarget) ⊎ (k ≡ ReservedPlace) ⊎ (k ≡ Limit)

stuck_kind : (k : FaultKind) (nodes : List Placed) → IsStuck k nodes → IsOfSites k
stuck_kind k [] h = absurd h
stuck_kind k (n ∷ nodes) (inl why) = by k why
  where
    by : (k : FaultKind) → WhyNotLands k n → IsOfSites k
    by ReservedPlace h = inr (inl refl)
    by Limit h = inr (inr refl)
    by _ h = absurd h
stuck_kind k (n ∷ nodes) (inr h) = stuck_kind k nodes h.1

none_kind : (k : FaultKind) (base object : Reading) (fixups : List (Name × Cell)) (w : Walked) (fs : List Name) → HasNoSite k base object fixups w fs → IsOfSites k
none_kind k base object fixups w [] h = absurd h
none_kind k base object fixups w (f ∷ fs) (inl (inl why)) = inl why.0
none_kind k base object fixups w (f ∷ fs) (inl (inr why)) = stuck_kind k (landings object (site f why.0)) why.2
none_kind k base object fixups w (f ∷ fs) (inr h) = none_kind k base object fixups (landed_on base object w f h.0) fs h.3

sites_told : (full : Reading → Reading → Type 0) (base object : Reading) (k : FaultKind) → HasNoSites k base object → IsOfSites k → WhyNotApplied full k base object
sites_told full base object k h (inl is) = subst (λ k. HasNoSites k base object → WhyNotApplied full k base object) (sym is) (λ h. h) h
sites_told full base object k h (inr (inl is)) = subst (λ k. HasNoSites k base object → WhyNotApplied full k base object) (sym is) (λ h. h) h
sites_told full base object k h (inr (inr is)) = subst (λ k. HasNoSites k base object → WhyNotApplied full k base object) (sym is) (λ h. inl h) h

-- a fault of the look is one of the object
pub site_told : (full : Reading → Reading → Type 0) {V : Type 0} (tree : V → PlacedTree) (base object : Reading) (o : Object V) (r : IsReadFor tree base object o) (e : Fault)
    → (e.at ≡ None) × ((e.kind ≡ NoMemory) ⊎ HasNoSite e.kind base object r.fixups nothing_walked (fragment_names object.children))
    → (e.at ≡ None) × WhyNotApplied full e.kind base object
site_told full tree base object o r e (at, inl k) = (at, subst (λ kind. WhyNotApplied full kind base object) (sym k) tt)
site_told full tree base object o r e (at, inr why) = (
  at,
  sites_told full base object e.kind (record { well = r.well; fixups = r.fixups; listed = r.listed; why = why })
      (none_kind e.kind base object r.fixups nothing_walked (fragment_names object.children) why),
)

-- ---- the end

pub landing_told : (full : Reading → Reading → Type 0) (base object : Reading) (e : Fault) → IsWant (IsCrowded full base object) e → (e.at ≡ None) × WhyNotApplied full e.kind base object
landing_told full base object e (at, inl k) = (at, subst (λ kind. WhyNotApplied full kind base object) (sym k) tt)
landing_told full base object e (at, inr (k, over)) = (at, subst (λ kind. WhyNotApplied full kind base object) (sym k) (inr over))

pub landing_left : (full : Reading → Reading → Type 0) (base object new : Reading) (e : Fault) → IsWant (IsCrowded full base object) e → IsLeftBy full e.kind base object new
landing_left full base object new e (at, inl k) = inl k
landing_left full base object new e (at, inr (k, over)) = inr (inl (k, over))

-- want of memory is told as it is
pub memory_told : (full : Reading → Reading → Type 0) (base object : Reading) (e : Fault) → (e.kind ≡ NoMemory) × (e.at ≡ None) → (e.at ≡ None) × WhyNotApplied full e.kind base object
memory_told full base object e (k, at) = (at, subst (λ kind. WhyNotApplied full kind base object) (sym k) tt)
