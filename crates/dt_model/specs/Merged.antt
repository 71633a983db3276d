-- What a tree means once an overlay is applied to it (dtc's notes on overlay objects). Nothing has a number here.
use Rattle.std.specs.Prelude.{◌≡◌, true, false, ◌||◌, List, [], ◌∷◌, ◌++◌, Option, Some, None, map, IsSome, unwrap_or, option_map, option_and_then}
use Rattle.std.specs.List.{list_any}
use Rattle.std.specs.Option.{option_or}
use Rattle.dt_model.specs.Names.{Name}
use Rattle.dt_model.specs.Path.{Path, below, is_bookkeeping}
use Rattle.dt_model.specs.Meaning.{Item, EachReference, item_renamed, Meaning}
use Rattle.dt_model.specs.Lists.{last_of}
use Rattle.dt_model.specs.Overlay.{OverlayReference, inside, outside, Target, at_reference, at_path, Fragment, Overlay, content}

-- a fragment's site: the node of the tree that its target turns out to be
pub record Site : Type 0 where
  pub fragment : Name
  pub at : Path

-- the path that is below `to` as p is below `from`
abbrev pub moved : Path → Path → Path → Option Path
moved from to p = option_map (λ rest. to ++ rest) (below from p)

-- where a node of the overlay lands, if a fragment brings it
abbrev pub landing : List Site → Path → Option Path
landing [] p = None
landing (x ∷ sites) p = option_or (moved (content x.fragment) x.at p) (landing sites p)

-- the path before the others, if there is one
abbrev pub with_first : Option Path → List Path → List Path
with_first None ps = ps
with_first (Some p) ps = p ∷ ps

-- the paths of the overlay that land on q, in the order of the fragments
abbrev pub sources : List Site → Path → List Path
sources [] q = []
sources (x ∷ sites) q = with_first (moved x.at (content x.fragment) q) (sources sites q)

-- the path in the tree that a reference of the overlay means
abbrev pub meant : Meaning → List Site → OverlayReference → Path
meant m sites (inside p) = unwrap_or (landing sites p) []
meant m sites (outside l) = unwrap_or (m.label l) []

-- The meaning with the overlay applied, its fragments at these sites. Nodes and keyed nodes are those of the tree and those
-- that land; the last fragment that lands a property decides its value; the overlay's labels override the tree's.
abbrev pub merged : Meaning → Overlay → List Site → Meaning
merged m o sites = record {
  reservations = m.reservations;
  stands = λ q. list_any o.stands (sources sites q) || m.stands q;
  value = λ q name. option_or (option_map (map (item_renamed (meant m sites))) (last_of (λ p. o.value p name) (sources sites q))) (m.value q name);
  number = m.number;
  label = λ l. option_or (option_and_then (landing sites) (o.label l)) (m.label l);
  keyed = λ q. list_any o.keyed (sources sites q) || m.keyed q;
}

-- the target names this path, where the fragments before it have these sites
abbrev pub Names : Meaning → List Site → Target → Path → Type 0
Names m earlier (at_reference (inside p)) q = landing earlier p ≡ Some q
Names m earlier (at_reference (outside l)) q = m.label l ≡ Some q
Names m earlier (at_path p) q = p ≡ q

-- a fragment's site is a node of the tree, or one that an earlier fragment brings, and no bookkeeping node
pub record IsSite (m : Meaning) (o : Overlay) (earlier : List Site) (f : Fragment) (x : Site) : Type 0 where
  pub of : x.fragment ≡ f.name
  pub named : Names m earlier f.target x.at
  pub there : list_any o.stands (sources earlier x.at) || m.stands x.at ≡ true
  pub plain : is_bookkeeping x.at ≡ false

-- the sites of the fragments, one after the other
abbrev pub AreSites : Meaning → Overlay → List Site → List Fragment → List Site → Type 0
AreSites m o earlier [] [] = Unit {0}
AreSites m o earlier [] (x ∷ sites) = ⊥
AreSites m o earlier (f ∷ fragments) [] = ⊥
AreSites m o earlier (f ∷ fragments) (x ∷ sites) = IsSite m o earlier f x × AreSites m o (earlier ++ x ∷ []) fragments sites

-- the label of a reference by a label is one of the tree's
abbrev pub IsGiven : Meaning → OverlayReference → Type 0
IsGiven m (inside p) = Unit {0}
IsGiven m (outside l) = IsSome (m.label l)

-- the overlay's labels are there, its fragments have these sites, and nothing lands among the bookkeeping nodes
pub record IsDefined (m : Meaning) (o : Overlay) (sites : List Site) : Type 0 where
  pub given : (p : Path) (name : Name) (items : List (Item OverlayReference)) → o.value p name ≡ Some items → EachReference (IsGiven m) items
  pub placed : AreSites m o [] o.fragments sites
  pub plain : (p q : Path) → o.stands p ≡ true → landing sites p ≡ Some q → is_bookkeeping q ≡ false

-- the meaning of a tree into which overlays are merged one after the other, where each can be
abbrev pub IsFold : Meaning → List Overlay → Meaning → Type 0
IsFold m [] result = result ≡ m
IsFold m (o ∷ overlays) result = (sites : List Site) × IsDefined m o sites × IsFold (merged m o sites) overlays result
