-- What is known when a fragment's turn comes.
use Rattle.std.proofs.Common.{◌≡◌, ℕ, ◌<◌, ◌≤◌, false, List, [], ◌∷◌, ◌++◌, length, map, take, Option, Some, None, true, refl, sym, ap, subst, ◌∙◌, inl, inr, append_assoc, append-nil, arith}
use Rattle.std.specs.Prelude.{is_some}
use Rattle.std.specs.List.{AllByRecursion}
use Rattle.std.proofs.lemmas.List.{length-map, map-append}
use Rattle.std.proofs.lemmas.List.Concat.{flat_map-append}
use Rattle.dt_model.specs.Limits.{most_names}
use Rattle.dt_model.specs.Lists.{IsIn}
use Rattle.dt_model.specs.Names.{Name, IsNodeName}
use Rattle.dt_model.specs.Path.{Path, is_bookkeeping}
use Rattle.dt_model.specs.Overlay.{content}
use Rattle.dt_model.specs.Merged.{Site}
use Rattle.dt_model.specs.Object.{Cell, fragment_names, nodes_from}
use Rattle.dt_model.specs.Tree.{Forest, no_nodes, branch, Reading, Placed, Node, node_at, preorder}
use Rattle.dt_model.specs.Valid.{IsValid, IsWithinLimits, AreDistinct}
use Rattle.dt_model.proofs.Tests.{each_in, in_right, in_map, in_map_from}
use Rattle.dt_model.proofs.Distinct.{distinct_left, in_flat}
use Rattle.dt_model.proofs.Flat.{from_flat}
use Rattle.dt_model_laws.proofs.Placed.{site_names}
use Rattle.dt_overlay_model.specs.Walk.{Walked, nothing_walked, site, landing_at, landings, landed_on, with_places}
use Rattle.dt_overlay_model.proofs.Brought.{fragments_distinct, lands_below}
use Rattle.dt_overlay_model.proofs.NewNumbers.{few_walked}
use Rattle.dt_overlay_model.proofs.Standing.{content_stands}
use Rattle.dt_overlay_model.proofs.Walks.{IsWalked, nothing_is_walked, walked_more}
use Rattle.dt_overlay_laws.specs.Landings.{target_in, MayLand, MayAllLand, AreSited}
use Rattle.dt_overlay_laws.proofs.Landed.{lands_listed, landing_stands, plain_site}
use Rattle.dt_overlay_laws.proofs.Sited.{sited_walks}
use Rattle.dt_overlay_landing.specs.declared.marks.TargetMark.{TargetMark}
use Rattle.dt_overlay_object.specs.declared.landing.Landing.{Landing}
use Rattle.dt_overlay_object.specs.declared.brought.Brought.{Brought}
use Rattle.dt_overlay_base.specs.Known.{Known, IsKnown, HasRoom, content_at, landed_paths, paths_of}
use Rattle.dt_trees.specs.Placed.{PlacedTree, reading_of, forest_under, properties_found, IsAt, HasPlacesApart}
use Rattle.dt_trees.proofs.NodePlaces.{path_is, stands_place}
use Rattle.dt_overlay_landing.specs.Turns.{Turn, IsTurnIn, AreLandings, LandsTooDeep}
use Rattle.dt_overlay_base.proofs.LooksNames.{stands_named}

-- ---- one list of fragments behind another

module _ (base object : Reading) (fixups : List (Name × Cell)) where
  pub sited_behind : (fs gs : List Name) (w mid end : Walked) → AreSited base object fixups w fs mid → AreSited base object fixups mid gs end → AreSited base object fixups w (fs ++ gs) end
  sited_behind [] gs w mid end h k = subst (λ (v : Walked). AreSited base object fixups v gs end) h k
  sited_behind (f ∷ fs) gs w mid end h k = (h.0, h.1, h.2, sited_behind fs gs (landed_on base object w f h.0) mid end h.3 k)

  -- the first without a site is one of those behind
  pub none_behind : (P : Walked → List Name → Type 0) → ((w : Walked) (f : Name) (fs : List Name) (q : Path) → target_in base object fixups w f ≡ Some q → MayAllLand (landings object (site f q))
      → P (landed_on base object w f q) fs → P w (f ∷ fs)) → (fs gs : List Name) (w mid : Walked) → AreSited base object fixups w fs mid → P mid gs → P w (fs ++ gs)
  none_behind P step [] gs w mid h k = subst (λ (v : Walked). P v gs) h k
  none_behind P step (f ∷ fs) gs w mid h k = step w f (fs ++ gs) h.0 h.1 h.2 (none_behind P step fs gs (landed_on base object w f h.0) mid h.3 k)

  module _ (valid : IsValid object) where
    -- fragments that have sites are walked
    walked_on : (fs done later : List Name) (w end : Walked) → IsWalked base object done w → done ++ (fs ++ later) ≡ fragment_names object.children → AreSited base object fixups w fs end → IsWalked base object (done ++ fs) end
    walked_on [] done later w end h all k = subst (λ (v : Walked). IsWalked base object (done ++ []) v) (sym k) (subst (λ (ns : List Name). IsWalked base object ns w) (sym (append-nil done)) h)
    walked_on (f ∷ fs) done later w end h all k =
        let here : IsIn f (fragment_names object.children) = subst (IsIn f) all (in_right f done (f ∷ (fs ++ later)) (inl refl)) in
        let plain = plain_site object f k.0 (content_stands object f valid here) k.2 in
        let next = walked_more base object fixups valid done (fs ++ later) w f k.0 h all plain in
        subst (λ (ns : List Name). IsWalked base object ns end) (append_assoc done (f ∷ []) fs)
        (walked_on fs (done ++ f ∷ []) later (landed_on base object w f k.0) end next (append_assoc done (f ∷ []) (fs ++ later) ∙ all) k.3)

    pub front_walked : (done later : List Name) (w : Walked) → done ++ later ≡ fragment_names object.children → AreSited base object fixups nothing_walked done w → IsWalked base object done w
    front_walked done later w all k = walked_on done [] later nothing_walked w (nothing_is_walked base object) all k

-- ---- what lands

named_behind : (p r : Path) → AllByRecursion IsNodeName (p ++ r) → AllByRecursion IsNodeName r
named_behind [] r h = h
named_behind (x ∷ p) r h = named_behind p r h.1

module _ (object : Reading) (valid : IsValid object) (sites : List Site) (done later : List Name) (named : site_names sites ≡ done) (all : done ++ later ≡ fragment_names object.children) where
  pub apart : AreDistinct (site_names sites)
  apart = subst AreDistinct (sym named) (distinct_left done later (subst AreDistinct (sym all) (fragments_distinct object.children valid.siblings)))

  pub in_front : map (λ (x : Site). x.fragment) sites ≡ take (length sites) (fragment_names object.children)
  in_front =
      let count : length sites ≡ length done = sym (length-map sites (λ (x : Site). x.fragment)) ∙ ap length named in
      named ∙ sym (front_of done later) ∙ (λ i. take (sym count i) (all i))
    where
      front_of : (xs ys : List Name) → take (length xs) (xs ++ ys) ≡ xs
      front_of [] ys = none ys
        where
          none : (ys : List Name) → take 0 ys ≡ []
          none [] = refl
          none (y ∷ ys) = refl
      front_of (x ∷ xs) ys = ap (λ (zs : List Name). x ∷ zs) (front_of xs ys)

  -- a path on which something lands
  record IsLanded (q : Path) : Type 0 where
    site' : Site
    node : Placed
    sited : IsIn site' sites
    lands : IsIn node (landings object site')
    at : node.path ≡ q

  landed_from : (q : Path) → IsIn q (landed_paths object sites) → IsLanded q
  landed_from q i =
      let w = from_flat (λ (x : Site). paths_of (landings object x)) sites q i in
      let v = in_map_from (λ (n : Placed). n.path) (landings object w.0) q w.2 in
      record { site' = w.0; node = v.0; sited = w.1; lands = v.1; at = sym v.2 }

  pub are_landings : ((x : Site) → IsIn x sites → MayAllLand (landings object x)) → ((x : Site) → IsIn x sites → AllByRecursion IsNodeName x.at) → AreLandings object sites
  are_landings may good = record {
    good = λ q i.
        let w = landed_from q i in
        let from = landing_stands object valid w.site'.fragment w.site'.at w.node w.lands in
        let own : AllByRecursion IsNodeName from.0 = named_behind (content w.site'.fragment) from.0 (stands_named object (content w.site'.fragment ++ from.0) valid from.2) in
        let there = each_in MayLand (landings object w.site') w.node (may w.site' w.sited) w.lands in (
          subst (AllByRecursion IsNodeName) (sym from.1 ∙ w.at) (both_named w.site'.at from.0 (good w.site' w.sited) own),
          subst (λ (p : Path). length p ≤ most_names) w.at there.shallow,
        );
    sound = λ q i.
        let w = landed_from q i in
        let from = landing_stands object valid w.site'.fragment w.site'.at w.node w.lands in
        (content w.site'.fragment ++ from.0, from.2, lands_below sites w.site' from.0 apart w.sited ∙ ap (λ (p : Path). Some p) (sym from.1 ∙ w.at));
    complete = λ p q h l.
        let w = lands_listed object sites p q h l in
        in_flat (λ (x : Site). paths_of (landings object x)) sites w.0 q w.2 (subst (λ (r : Path). IsIn r (paths_of (landings object w.0))) w.4 (in_map (λ (n : Placed). n.path) (landings object w.0) w.1 w.3));
  }
    where
      both_named : (p r : Path) → AllByRecursion IsNodeName p → AllByRecursion IsNodeName r → AllByRecursion IsNodeName (p ++ r)
      both_named [] r h k = k
      both_named (x ∷ p) r h k = (h.0, both_named p r h.1 k)

-- the paths of sites, one by one
pub each_good : (sites : List Site) (paths : List Path) → paths ≡ map (λ (x : Site). x.at) sites → AllByRecursion (λ (q : Path). AllByRecursion IsNodeName q) paths → (x : Site) → IsIn x sites → AllByRecursion IsNodeName x.at
each_good sites paths e h x i =
    each_in (λ (q : Path). AllByRecursion IsNodeName q) (map (λ (x : Site). x.at) sites) x.at (subst (AllByRecursion (λ (q : Path). AllByRecursion IsNodeName q)) e h) (in_map (λ (x : Site). x.at) sites x i)

-- ---- at a turn

module _ (base : Reading) (o : PlacedTree) (brought : Brought) (valid : IsValid (reading_of o)) (marks : List (ℕ × TargetMark)) (landing : Landing) (turn : Turn) (t : IsTurnIn base o brought marks landing turn) where
  pub turn_walked : IsWalked base (reading_of o) turn.done turn.walked
  turn_walked = front_walked base (reading_of o) turn.fixups valid turn.done turn.later turn.walked (sym t.names) t.sited

  pub turn_front : map (λ (x : Site). x.fragment) turn.walked.sites ≡ take (length turn.walked.sites) (fragment_names (reading_of o).children)
  turn_front = in_front (reading_of o) valid turn.walked.sites turn.done turn.later turn_walked.named (sym t.names)

  may : (x : Site) → IsIn x turn.walked.sites → MayAllLand (landings (reading_of o) x)
  may = (sited_walks base (reading_of o) turn.fixups valid turn.done nothing_walked turn.walked (λ f i. subst (IsIn f) (sym t.names) (in_left' f turn.done turn.later i)) t.sited (λ x i. absurd i)).1
    where
      in_left' : (f : Name) (xs ys : List Name) → IsIn f xs → IsIn f (xs ++ ys)
      in_left' f [] ys i = absurd i
      in_left' f (x ∷ xs) ys (inl same) = inl same
      in_left' f (x ∷ xs) ys (inr i) = inr (in_left' f xs ys i)

  pub turn_landings : AreLandings (reading_of o) turn.walked.sites
  turn_landings = are_landings (reading_of o) valid turn.walked.sites turn.done turn.later turn_walked.named (sym t.names) may (each_good turn.walked.sites landing.sites.items t.sites t.good)

  -- nothing that landed so far is too deep
  pub not_too_deep : LandsTooDeep (reading_of o) turn.walked.sites → ⊥
  not_too_deep h =
      let few = (turn_landings.good h.1 (turn_landings.complete h.0 h.1 h.2 h.3)).1 in
      let deep : most_names < length h.1 = h.4 in
      omega (arith, few, deep)

-- ---- what a fragment brings

moved_preorder : (q p : Path) (f : Forest) → preorder (q ++ p) f ≡ map (landing_at q) (preorder p f)
moved_preorder q p no_nodes = refl
moved_preorder q p (branch name ps children siblings) =
    let path : (q ++ p) ++ name ∷ [] ≡ q ++ (p ++ name ∷ []) = append_assoc q p (name ∷ []) in
    let inside = ap (λ (r : Path). preorder r children) path ∙ moved_preorder q (p ++ name ∷ []) children in
    let beside = moved_preorder q p siblings in
    (λ i. record { path = path i; properties = ps } ∷ (inside i ++ beside i))
    ∙ ap (λ (ns : List Placed). record { path = q ++ (p ++ name ∷ []); properties = ps } ∷ ns) (sym (map-append (landing_at q) (preorder (p ++ name ∷ []) children) (preorder p siblings)))

pub content_is : (t : PlacedTree) (f : Name) (q : Path) (k : ℕ) → HasPlacesApart t → IsAt t (content f) k → landings (reading_of t) (site f q) ≡ content_at t k q
content_is t f q k apart at = step (node_at (reading_of t) (content f)) (sym (stands_place t (content f)) ∙ ap is_some at) ∙ ap (λ (p : Path). content_of (node_at (reading_of t) p)) (sym (path_is t apart (content f) k at))
  where
    content_of : Option Node → List Placed
    content_of o = record { path = q; properties = properties_found o } ∷ preorder q (forest_under o)

    step : (o : Option Node) → is_some o ≡ true → map (landing_at q) (nodes_from o) ≡ content_of o
    step None none = absurd cc
    step (Some n) some = λ i. record { path = append-nil q i; properties = n.properties } ∷ sym (ap (λ (p : Path). preorder p n.children) (sym (append-nil q)) ∙ moved_preorder q [] n.children) i

-- where it lands on a node that is no bookkeeping node there is room for its numbers
pub room_for : (base : Reading) (fixups : List (Name × Cell)) (object : Reading) (valid : IsValid object) (few : IsWithinLimits object) (a : Known) (w : Walked) (done later : List Name) (f : Name) (q : Path)
    → IsWalked base object done w → done ++ f ∷ later ≡ fragment_names object.children → is_bookkeeping q ≡ false → IsKnown base w.given (landed_paths object w.sites) a → HasRoom base (landings object (site f q)) a
room_for base fixups object valid few a w done later f q h all plain known = record {
  given = w.given;
  landed = landed_paths object w.sites;
  known = known;
  few =
      let next = walked_more base object fixups valid done later w f q h all plain in
      let le = few_walked base object (done ++ f ∷ []) (landed_on base object w f q) few next in
      let same = length-map (landed_on base object w f q).given (λ (x : Path × ℕ). x.0) in
      omega (arith, le, same);
}

-- then no two fragments that have sites have one name
pub sites_apart : (base : Reading) (fixups : List (Name × Cell)) (object : Reading) (valid : IsValid object) (w : Walked) (done later : List Name) (f : Name) (q : Path)
    → IsWalked base object done w → done ++ f ∷ later ≡ fragment_names object.children → is_bookkeeping q ≡ false → AreDistinct (site_names (w.sites ++ site f q ∷ []))
sites_apart base fixups object valid w done later f q h all plain =
    let next = walked_more base object fixups valid done later w f q h all plain in
    apart object valid (landed_on base object w f q).sites (done ++ f ∷ []) later next.named (append_assoc done (f ∷ []) later ∙ all)

-- what is known behind it
pub known_behind : (base object : Reading) (w : Walked) (f : Name) (q : Path) (a : Known) → IsKnown base (with_places base (landings object (site f q)) w.given) (landed_paths object w.sites ++ paths_of (landings object (site f q))) a
    → IsKnown base (landed_on base object w f q).given (landed_paths object (landed_on base object w f q).sites) a
known_behind base object w f q a h =
    let paths = λ (x : Site). paths_of (landings object x) in
    subst (λ (ps : List Path). IsKnown base (landed_on base object w f q).given ps a)
    (ap (λ (ps : List Path). landed_paths object w.sites ++ ps) (sym (append-nil (paths (site f q)))) ∙ sym (flat_map-append paths w.sites (site f q ∷ []))) h
