-- What is known when a fragment's turn comes.
use Rattle.std.specs.Prelude.{◌≡◌, ◌<◌, ◌≤◌, ℕ, true, false, List, [], ◌++◌, ◌∷◌, length, take, map, Option, Some, None}
use Rattle.dt_model.specs.Limits.{most_names}
use Rattle.dt_model.specs.Lists.{IsIn}
use Rattle.std.specs.List.{AllByRecursion, list_any}
use Rattle.dt_model.specs.Names.{Name, IsNodeName}
use Rattle.dt_model.specs.Numbers.{number_in, is_brought}
use Rattle.dt_model.specs.Path.{Path}
use Rattle.dt_model.specs.Tree.{Reading, stands_in}
use Rattle.dt_model.specs.Merged.{Site}
use Rattle.dt_model.specs.Merged as merged
use Rattle.dt_model.specs.Object.{Cell, fragment_names, local_cells}
use Rattle.dt_model.specs.Valid.{IsValid}
use Rattle.dt_names.specs.declared.fault.FaultKind.{FaultKind}
use Rattle.dt_names.specs.declared.fault.FaultKind.TheVariants.{Limit}
use Rattle.dt_overlay_model.specs.Walk.{Walked, nothing_walked, site, landings, landed_on, named_node, number_there, new_numbers, target_label, is_target}
use Rattle.dt_overlay_laws.specs.Landings.{target_in, MayAllLand, AreSited, HasNoSite, WhyNoSite}
use Rattle.dt_overlay_object.specs.declared.kept.ObjectFragment.{ObjectFragment}
use Rattle.dt_overlay_landing.specs.declared.marks.TargetMark.{TargetMark}
use Rattle.dt_overlay_object.specs.declared.brought.Brought.{Brought}
use Rattle.dt_overlay_object.specs.declared.landing.Landing.{Landing}
use Rattle.dt_overlay_object.specs.declared.object.Object.{Object}
use Rattle.dt_overlay_base.specs.Known.{Known, IsKnown, landed_paths}
use Rattle.dt_overlay_landing.specs.Marks.{AreMarked, IsMark}
use Rattle.dt_overlay_base.specs.NodeNumbers.{IsNumbered, AreNumbers, NumbersMore, has_phandle_at, paths_in}
use Rattle.dt_overlay_object.specs.Plans.{AreBroughtBy, AreContents, IsFragmentOf}
use Rattle.dt_overlay_object.specs.Stages.{IsReadFor}
use Rattle.dt_trees.specs.Placed.{PlacedTree, reading_of}

-- ---- numbers

-- These numbers of nodes fit those of the places so far: a node with a `phandle` that has landed has the number of its place, if that has one; a node
-- without has none.
pub record FitSoFar (base : Reading) (t : PlacedTree) (w : Walked) (numbers : List (Path × ℕ)) : Type 0 where
  pub keyed : (p q : Path) (n : ℕ) → has_phandle_at t p ≡ true → merged.landing w.sites p ≡ Some q → number_there base w.given q ≡ Some n → number_in numbers p ≡ Some n
  pub bare : (p : Path) → has_phandle_at t p ≡ false → number_in numbers p ≡ None

-- the nodes of the object that these fragments bring have their numbers in a table, and none has another one
pub record AreNumberedBy (t : PlacedTree) (done : List Name) (entries : List (ℕ × ℕ)) (numbers : List (Path × ℕ)) : Type 0 where
  pub sound : AreNumbers t numbers entries
  pub own : (p : Path) → stands_in (reading_of t) p ≡ true → is_brought done p ≡ true → IsNumbered t numbers entries p

-- so it is whatever numbers of nodes fit
abbrev pub AreNumberedSoFar : Reading → PlacedTree → Walked → List Name → List (ℕ × ℕ) → Type 0
AreNumberedSoFar base t w done entries = (numbers : List (Path × ℕ)) → FitSoFar base t w numbers → AreNumberedBy t done entries numbers

-- a fragment has landed on q: its nodes have their numbers besides
abbrev pub NumbersFragment : Reading → PlacedTree → Walked → Name → Path → ℕ → Known → Known → Type 0
NumbersFragment base t w f q k old new = (numbers : List (Path × ℕ)) → FitSoFar base t (landed_on base (reading_of t) w f q) numbers → AreNumbers t numbers old.nodes
    → NumbersMore t numbers (paths_in t k) old.nodes new.nodes

-- ---- turns

-- a turn: the cells that wait for labels, the names of the fragments that have sites and of those behind them, and what they have brought
pub record Turn : Type 0 where
  pub fixups : List (Name × Cell)
  pub walked : Walked
  pub done : List Name
  pub later : List Name

-- these fragments of the object have sites, and what is known is what they bring
pub record IsTurnIn (base : Reading) (o : PlacedTree) (b : Brought) (marks : List (ℕ × TargetMark)) (landing : Landing) (t : Turn) : Type 0 where
  pub brought : AreBroughtBy o [] b
  pub marked : AreMarked base t.fixups o marks
  pub names : fragment_names (reading_of o).children ≡ t.done ++ t.later
  pub sited : AreSited base (reading_of o) t.fixups nothing_walked t.done t.walked
  pub sites : landing.sites.items ≡ map (λ (x : Site). x.at) t.walked.sites
  pub good : AllByRecursion (λ q. AllByRecursion IsNodeName q) landing.sites.items
  pub known : IsKnown base t.walked.given (landed_paths (reading_of o) t.walked.sites) landing.places
  pub numbered : AreNumberedSoFar base o t.walked t.done landing.places.nodes

abbrev pub IsTurn : {V : Type 0} → (V → PlacedTree) → Reading → Object V → List (ℕ × TargetMark) → Landing → Turn → Type 0
IsTurn tree base object marks landing t = IsTurnIn base (tree object.tree.now) object.brought marks landing t

-- the fragment x is the next one
pub record IsTurnOf {V : Type 0} (tree : V → PlacedTree) (base : Reading) (object : Object V) (marks : List (ℕ × TargetMark)) (landing : Landing) (x : ObjectFragment)
    (t : Turn) : Type 0 where
  pub turn : IsTurn tree base object marks landing t
  pub name : Name
  pub behind : List Name
  pub next : t.later ≡ name ∷ behind
  pub fragment : IsFragmentOf (tree object.tree.now) x name

-- one of the nodes that land at these sites lands too deep
abbrev pub LandsTooDeep : Reading → List Site → Type 0
LandsTooDeep object sites = (p q : Path) × (stands_in object p ≡ true) × (merged.landing sites p ≡ Some q) × (most_names < length q)

-- each node of the object that lands at these sites is one that they bring, and the other way round
pub record AreLandings (object : Reading) (sites : List Site) : Type 0 where
  pub good : (q : Path) → IsIn q (landed_paths object sites) → AllByRecursion IsNodeName q × (length q ≤ most_names)
  pub sound : (q : Path) → IsIn q (landed_paths object sites) → (p : Path) × (stands_in object p ≡ true) × (merged.landing sites p ≡ Some q)
  pub complete : (p q : Path) → stands_in object p ≡ true → merged.landing sites p ≡ Some q → IsIn q (landed_paths object sites)

-- the fragment lands on this path, and what is known then is what it brings besides
pub record IsSitedOn (base : Reading) (fixups : List (Name × Cell)) (object : Reading) (w : Walked) (f : Name) (q : Path) (a : Known) : Type 0 where
  pub named : target_in base object fixups w f ≡ Some q
  pub may : MayAllLand (landings object (site f q))
  pub known : IsKnown base (landed_on base object w f q).given (landed_paths object (landed_on base object w f q).sites) a

-- all fragments have sites, and each node that they bring has its number
pub record HasAllSites (base : Reading) (fixups : List (Name × Cell)) (t : PlacedTree) (landing : Landing) : Type 0 where
  pub end : Walked
  pub sited : AreSited base (reading_of t) fixups nothing_walked (fragment_names (reading_of t).children) end
  pub sites : landing.sites.items ≡ map (λ (x : Site). x.at) end.sites
  pub numbered : (p : Path) → IsNumbered t (new_numbers base (reading_of t) end) landing.places.nodes p

-- ---- premises that clauses share

-- what holds at a turn
abbrev pub WhereTurn : {V : Type 0} → (V → PlacedTree) → Reading → Object V → Landing → (Turn → Type 0) → Type 0
WhereTurn tree base object landing P = (marks : List (ℕ × TargetMark)) (turn : Turn) → IsTurn tree base object marks landing turn → P turn

-- what holds at a turn of the name of a fragment whose target is marked so
abbrev pub WhereMarked : {V : Type 0} → (V → PlacedTree) → Reading → Object V → Landing → Option TargetMark → (Turn → Name → Type 0) → Type 0
WhereMarked tree base object landing mark P = (marks : List (ℕ × TargetMark)) (turn : Turn) → IsTurn tree base object marks landing turn
    → (f : Name) → IsMark base (reading_of (tree object.tree.now)) turn.fixups f mark → P turn f

-- what holds at the turn of a fragment, which has this name
abbrev pub WhereTurnOf : {V : Type 0} → (V → PlacedTree) → Reading → Object V → List (ℕ × TargetMark) → Landing → ObjectFragment → (Turn → Name → Type 0) → Type 0
WhereTurnOf tree base object marks landing x P = (turn : Turn) (is : IsTurnOf tree base object marks landing x turn) → P turn is.name

-- one of the object's fragments has no site
abbrev pub LacksSite : Reading → Reading → List (Name × Cell) → FaultKind → Type 0
LacksSite base object fixups kind = HasNoSite kind base object fixups nothing_walked (fragment_names object.children)

-- what holds where these fragments of the object, the first of all, have these sites
abbrev pub WhereBrought : PlacedTree → Brought → List Path → (List Site → Type 0) → Type 0
WhereBrought t b paths P = (found : List Site) → AreContents t (fragment_names (reading_of t).children) b.contents.entries
    → map (λ (x : Site). x.fragment) found ≡ take (length found) (fragment_names (reading_of t).children) → paths ≡ map (λ (x : Site). x.at) found → P found

-- what holds of an object that was read, and whose fragments have sites
abbrev pub WhereReadSited : {V : Type 0} → (V → PlacedTree) → Reading → Object V → Landing → (Reading → List (Name × Cell) → Type 0) → Type 0
WhereReadSited tree base object landing P =
    (read : Reading) (is : IsReadFor tree base read object) → HasAllSites base is.fixups (tree object.tree.now) landing → P read is.fixups

-- what holds where it is known what has landed of an object on some sites
abbrev pub WhereNoted : Reading → Known → (Reading → List Site → Type 0) → Type 0
WhereNoted base a P = (object : Reading) (sites : List Site) (given : List (Path × ℕ)) → IsValid object
    → IsKnown base given (landed_paths object sites) a → AreLandings object sites → P object sites

-- the node that a fragment names, at a turn
abbrev pub target_at : {V : Type 0} → (V → PlacedTree) → Reading → Object V → Turn → Name → Option Path
target_at tree base object turn f = target_in base (reading_of (tree object.tree.now)) turn.fixups turn.walked f

-- the fragment lands on this path, and these places are known then
abbrev pub IsSitedAt : {V : Type 0} → (V → PlacedTree) → Reading → Object V → Turn → Name → Path → Known → Type 0
IsSitedAt tree base object turn f q a = IsSitedOn base turn.fixups (reading_of (tree object.tree.now)) turn.walked f q a

-- and the nodes that it brings have their numbers besides
abbrev pub IsNumberedAt : {V : Type 0} → (V → PlacedTree) → Reading → Object V → Turn → ObjectFragment → Name → Path → Landing → Landing → Type 0
IsNumberedAt tree base object turn x f q old new = NumbersFragment base (tree object.tree.now) turn.walked f q x.content old.places new.places

-- the fragment has no site, for this reason
abbrev pub LacksSiteAt : {V : Type 0} → (V → PlacedTree) → Reading → Object V → Turn → Name → FaultKind → Type 0
LacksSiteAt tree base object turn f kind = WhyNoSite kind base (reading_of (tree object.tree.now)) turn.fixups turn.walked f

-- a node lands too deep
abbrev pub IsTooDeep : FaultKind → Reading → List Site → Type 0
IsTooDeep kind object found = (kind ≡ Limit) × LandsTooDeep object found

-- the node that the number in a fragment's target names, according to the object's lists
abbrev pub node_marked : Reading → Reading → Turn → Name → ℕ → Option Path
node_marked base object t f number = named_node base object t.walked (target_label f t.fixups) (list_any (is_target f) (local_cells object)) number
