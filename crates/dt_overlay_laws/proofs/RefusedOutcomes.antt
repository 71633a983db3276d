-- An object is refused only where the overlay can't be merged, none is applied and refused, and each is refused for one reason.
use Rattle.std.proofs.Common.{◌≡◌, ◌<◌, Bool, true, false, List, [], ◌∷◌, ◌++◌, length, codes, refl, sym, ap, subst, ◌∙◌, inl, inr, Option, Some, None}
use Rattle.std.specs.Prelude.{MatchOption, is_some, option_and_then, if◌then◌else◌}
use Rattle.std.specs.List.{list_all}
use Rattle.dt_model.specs.Limits.{most_names}
use Rattle.dt_model.specs.Names.{Name}
use Rattle.dt_model.specs.Path.{Path, is_bookkeeping}
use Rattle.dt_model.specs.Lists.{IsIn}
use Rattle.dt_model.specs.Overlay.{content}
use Rattle.dt_model.specs.Merged.{Site, landing, IsDefined}
use Rattle.dt_model.specs.Object.{Cell, HasFixups, fragment_names, properties_of}
use Rattle.dt_model.specs.Tree.{Reading, Placed, node_at, nodes_of, stands_in}
use Rattle.dt_model.specs.Valid.{AreDistinct, IsValid}
use Rattle.dt_model.specs.Applied.{symbol, is_plain, applied_at}
use Rattle.dt_model.proofs.Tests.{and_right, not_true, all_at}
use Rattle.dt_model.proofs.Listed.{stands_listed}
use Rattle.dt_names.specs.declared.fault.FaultKind.{FaultKind}
use Rattle.dt_names.specs.declared.fault.FaultKind.TheVariants.{Limit}
use Rattle.dt_model_laws.proofs.CellTexts.{one_fixups}
use Rattle.dt_model_laws.proofs.Placed.{site_names}
use Rattle.dt_overlay_model.specs.InTurn.{IsApplied}
use Rattle.dt_overlay_model.specs.Joining.{IsResult, ApplyingIsMerging}
use Rattle.dt_overlay_model.specs.Walk.{Walked, nothing_walked, landings, walk, new_numbers, may_land, applied_by, applied}
use Rattle.dt_overlay_model.proofs.Brought.{fragments_distinct, lands_below}
use Rattle.dt_overlay_model.proofs.Walks.{IsWalked, walked}
use Rattle.dt_overlay_laws.specs.Outcomes.{RefusedIsUndefined, AppliedIsNotRefused, OneRefusal}
use Rattle.dt_overlay_laws.specs.Refusals.{HasNoSites, IsCrowded, has_many}
use Rattle.dt_overlay_laws.proofs.Landed.{landing_stands}
use Rattle.dt_overlay_laws.proofs.RefusalStages.{AtTargets, stage_of, stops_at_sites, one_at_targets}
use Rattle.dt_overlay_laws.proofs.RefusedObjects.{well_formed}
use Rattle.dt_overlay_laws.proofs.Sited.{none_deep}

-- an object that is applied is so with these fixups
pub applied_with : (base object t : Reading) (fixups : List (Name × Cell)) → IsApplied base object t → HasFixups object fixups → applied base object fixups ≡ Some t
applied_with base object t fixups is listed =
    let f : fixups ≡ is.fixups = one_fixups (properties_of (node_at object (codes "__fixups__" ∷ []))) fixups is.fixups listed is.listed in
    ap (applied base object) f ∙ is.is

-- what comes of an application comes of a walk
pub record ComesOf (base object : Reading) (fixups : List (Name × Cell)) (t : Reading) : Type 0 where
  pub end : Walked
  pub ended : walk base object fixups nothing_walked (fragment_names object.children) ≡ Some end
  pub may : may_land base object fixups end.sites ≡ true
  pub is : t ≡ applied_at base object fixups (new_numbers base object end) end.sites

pub comes_of : (base object : Reading) (fixups : List (Name × Cell)) (t : Reading) → applied base object fixups ≡ Some t → ComesOf base object fixups t
comes_of base object fixups t h = step (walk base object fixups nothing_walked (fragment_names object.children)) refl h
  where
    step : (y : Option Walked) → walk base object fixups nothing_walked (fragment_names object.children) ≡ y → option_and_then (applied_by base object fixups) y ≡ Some t → ComesOf base object fixups t
    step None e k = absurd (let z : ◌≡◌ {A = Option Reading} None (Some t) = k in cc)
    step (Some end) e k = inner (may_land base object fixups end.sites) refl k
      where
        inner : (b : Bool) → may_land base object fixups end.sites ≡ b → (if b then Some (applied_at base object fixups (new_numbers base object end) end.sites) else None) ≡ Some t → ComesOf base object fixups t
        inner false j l = absurd (let z : ◌≡◌ {A = Option Reading} None (Some t) = l in cc)
        inner true j l = record { end = end; ended = e; may = j; is = let z : Some (applied_at base object fixups (new_numbers base object end) end.sites) ≡ Some t = l in cc }

module _ (base object : Reading) (fixups : List (Name × Cell)) (valid : IsValid object) (t : Reading) (of : ComesOf base object fixups t) where
  all : IsWalked base object (fragment_names object.children) of.end
  all = walked base object fixups valid of.end of.ended

  distinct : AreDistinct (site_names of.end.sites)
  distinct = subst AreDistinct (sym all.named) (fragments_distinct object.children valid.siblings)

  -- a node of a fragment lands where its site is
  pub lands_there : (x : Site) (n : Placed) → IsIn x of.end.sites → IsIn n (landings object x) → (p : Path) × (stands_in object p ≡ true) × (landing of.end.sites p ≡ Some n.path)
  lands_there x n i j =
      let w = landing_stands object valid x.fragment x.at n j in
      (content x.fragment ++ w.0, w.2, lands_below of.end.sites x w.0 distinct i ∙ ap Some (sym w.1))

  plain_at : (x : Site) (n : Placed) → IsIn x of.end.sites → IsIn n (landings object x) → is_bookkeeping n.path ≡ false
  plain_at x n i j =
      let w = lands_there x n i j in
      let s = stands_listed object w.0 w.1 in
      not_true (is_bookkeeping n.path)
      (sym (ap is_plain (ap (landing of.end.sites) s.2 ∙ w.2))
      ∙ all_at (λ (m : Placed). is_plain (landing of.end.sites m.path)) (nodes_of object) s.0
      (and_right (list_all (λ (y : Name × Cell). is_some (symbol base y.0)) fixups) (list_all (λ (m : Placed). is_plain (landing of.end.sites m.path)) (nodes_of object)) of.may) s.1)

-- what is applied and yet has a fragment without a site brings what is too deep
pub record LandsTooDeep (base object : Reading) (fixups : List (Name × Cell)) (t : Reading) (k : FaultKind) : Type 0 where
  pub limit : k ≡ Limit
  pub of : ComesOf base object fixups t
  pub from : Path
  pub to : Path
  pub stands : stands_in object from ≡ true
  pub lands : landing of.end.sites from ≡ Some to
  pub deep : most_names < length to

pub applied_deep : (base object t : Reading) (k : FaultKind) → IsValid object → (none : HasNoSites k base object) → applied base object none.fixups ≡ Some t → LandsTooDeep base object none.fixups t k
applied_deep base object t k valid none is =
    let of = comes_of base object none.fixups t is in
    let deep = none_deep base object none.fixups valid k (fragment_names object.children) nothing_walked of.end none.why of.ended (plain_at base object none.fixups valid t of) in
    let l = lands_there base object none.fixups valid t of deep.site deep.node deep.sited deep.there in
    record { limit = deep.limit; of = of; from = l.0; to = deep.node.path; stands = l.1; lands = l.2; deep = deep.deep }

pub refused_is_undefined : ApplyingIsMerging → RefusedIsUndefined
refused_is_undefined merging base object m o number local kind sites are why memory limit defined =
    at_sites (elim (stage_of base object has_many kind why memory) [ inl over ↦ absurd (limit over.0) | inr stage ↦ stage ])
  where
    at_sites : AtTargets base object kind → ⊥
    at_sites stage = sited (stops_at_sites base object kind stage (well_formed base object m o number local sites are defined))
      where
        sited : HasNoSites kind base object → ⊥
        sited none = step (applied base object none.fixups) refl (merging base object m o number local none.fixups are none.listed)
          where
            step : (y : Option Reading) → applied base object none.fixups ≡ y → MatchOption y ((sites : List Site) → IsDefined m o sites → ⊥) (λ t. (sites : List Site) × IsResult base m o number t sites) → ⊥
            step None e h = h sites defined
            step (Some t) e h = limit (applied_deep base object t kind are.valid_object none e).limit

pub applied_is_not_refused : AppliedIsNotRefused
applied_is_not_refused base object t kind valid is well why memory limit =
    sited (stops_at_sites base object kind (elim (stage_of base object has_many kind why memory) [ inl over ↦ absurd (limit over.0) | inr stage ↦ stage ]) well)
  where
    sited : HasNoSites kind base object → ⊥
    sited none = limit (applied_deep base object t kind valid none (applied_with base object t none.fixups is none.listed)).limit

-- an object for which there is no room has sites, but for what is too deep
crowded_limit : (full : Reading → Reading → Type 0) (base object : Reading) (kind : FaultKind) → IsValid object → IsCrowded full base object → AtTargets base object kind → kind ≡ Limit
crowded_limit full base object kind valid over stage = sited (stops_at_sites base object kind stage over.well)
  where
    sited : HasNoSites kind base object → kind ≡ Limit
    sited none = (applied_deep base object over.result kind valid none (applied_with base object over.result none.fixups over.applied none.listed)).limit

pub one_refusal : OneRefusal
one_refusal base object kind other valid why why' memory memory' = elim (stage_of base object has_many kind why memory) [
  | inl over ↦ elim (stage_of base object has_many other why' memory') [
    | inl over' ↦ over.0 ∙ sym over'.0
    | inr stage' ↦ over.0 ∙ sym (crowded_limit has_many base object other valid over.1 stage')
  ]
  | inr stage ↦ elim (stage_of base object has_many other why' memory') [
    | inl over' ↦ crowded_limit has_many base object kind valid over'.1 stage ∙ sym over'.0
    | inr stage' ↦ one_at_targets base object kind other stage stage'
  ]
]
