-- Where the nodes that an object's fragments bring land, in their order, and the first of them that may not (dtc's notes on overlay
-- objects).
use Rattle.std.specs.Prelude.{◌≡◌, ◌⊎◌, ◌<◌, ◌≤◌, true, false, List, [], ◌∷◌, length, Option, Some, None, codes}
use Rattle.std.specs.List.{AllByRecursion}
use Rattle.dt_model.specs.Limits.{most_names}
use Rattle.dt_model.specs.Names.{Name}
use Rattle.dt_model.specs.Path.{Path, is_bookkeeping}
use Rattle.dt_model.specs.Tree.{Reading, Placed, value_in}
use Rattle.dt_model.specs.Object.{Cell}
use Rattle.dt_overlay_model.specs.Walk.{Walked, target_of, site, landings, landed_on}
use Rattle.dt_names.specs.declared.fault.FaultKind.{FaultKind}
use Rattle.dt_names.specs.declared.fault.FaultKind.TheVariants.{Limit, NoTarget, ReservedPlace}

-- ---- nodes that land

-- a node on the path on which it lands may do so: not in a bookkeeping node, and on a path of at most 64 names
pub record MayLand (n : Placed) : Type 0 where
  pub plain : is_bookkeeping n.path ≡ false
  pub shallow : length n.path ≤ most_names

-- the first of these that doesn't hold
abbrev pub WhyNotLands : FaultKind → Placed → Type 0
WhyNotLands ReservedPlace n = is_bookkeeping n.path ≡ true
WhyNotLands Limit n = (is_bookkeeping n.path ≡ false) × (most_names < length n.path)
WhyNotLands _ n = ⊥

abbrev pub MayAllLand : List Placed → Type 0
MayAllLand nodes = AllByRecursion MayLand nodes

-- the first of some nodes that may not
abbrev pub IsStuck : FaultKind → List Placed → Type 0
IsStuck kind [] = ⊥
IsStuck kind (n ∷ nodes) = WhyNotLands kind n ⊎ (MayLand n × IsStuck kind nodes)

-- ---- fragments

-- the node that a fragment's target names, of the base or of what the fragments before it bring to their sites
abbrev pub target_in : Reading → Reading → List (Name × Cell) → Walked → Name → Option Path
target_in base object fixups w f = target_of base object fixups w f (value_in object (f ∷ []) (codes "target"))

-- the fragments land, one after another, behind others: each has a target, and what it brings may land there
abbrev pub AreSited : Reading → Reading → List (Name × Cell) → Walked → List Name → Walked → Type 0
AreSited base object fixups w [] end = end ≡ w
AreSited base object fixups w (f ∷ fs) end =
    (q : Path) × (target_in base object fixups w f ≡ Some q) × MayAllLand (landings object (site f q))
    × AreSited base object fixups (landed_on base object w f q) fs end

-- a fragment doesn't: its target names no node, or one of the nodes that it brings may not land
abbrev pub WhyNoSite : FaultKind → Reading → Reading → List (Name × Cell) → Walked → Name → Type 0
WhyNoSite kind base object fixups w f =
    ((kind ≡ NoTarget) × (target_in base object fixups w f ≡ None))
    ⊎ ((q : Path) × (target_in base object fixups w f ≡ Some q) × IsStuck kind (landings object (site f q)))

-- the first of the fragments that doesn't
abbrev pub HasNoSite : FaultKind → Reading → Reading → List (Name × Cell) → Walked → List Name → Type 0
HasNoSite kind base object fixups w [] = ⊥
HasNoSite kind base object fixups w (f ∷ fs) =
    WhyNoSite kind base object fixups w f
    ⊎ ((q : Path) × (target_in base object fixups w f ≡ Some q) × MayAllLand (landings object (site f q))
    × HasNoSite kind base object fixups (landed_on base object w f q) fs)
