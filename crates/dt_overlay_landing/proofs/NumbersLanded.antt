-- The numbers of nodes that land.
use Rattle.std.proofs.Common.{◌≡◌, ℕ, zero, suc, ◌<◌, Bool, true, false, ◌&&◌, ◌||◌, List, [], ◌∷◌, ◌++◌, length, get_or, map, take, drop, codes, Option, Some, None, refl, sym, ap, subst, ◌∙◌, ◌⊎◌, inl, inr, append-nil, true≢false, arith}
use Rattle.std.specs.Prelude.{slice_set, is_some}
use Rattle.std.specs.List.{filter}
use Rattle.std.specs.Option.{option_or}
use Rattle.std.proofs.lemmas.List.Folds.{list_any-append}
use Rattle.dt_model.specs.Lists.{IsIn}
use Rattle.dt_model.specs.Names.{Name}
use Rattle.dt_model.specs.Overlay.{content}
use Rattle.dt_model.specs.Path.{Path, below}
use Rattle.dt_model.specs.Merged.{Site, landing}
use Rattle.dt_model.specs.Numbers.{number_in, is_brought, needs_number}
use Rattle.dt_model.specs.Object.{Cell, fragment_names}
use Rattle.dt_model.specs.Tree.{Reading, Placed, nodes_of, preorder, stands_in, value_in, value_of}
use Rattle.dt_model.specs.Valid.{AreDistinct, IsValid, IsWithinLimits}
use Rattle.dt_model.proofs.Tests.{in_filter, in_map, in_map_from, in_right}
use Rattle.dt_model_laws.proofs.Lands.{append-below, moved-append}
use Rattle.dt_model_laws.proofs.Placed.{site_names}
use Rattle.dt_overlay_model.specs.Walk.{Walked, nothing_walked, number_there, new_numbers, site, landed_on, landings, with_places}
use Rattle.dt_overlay_model.proofs.Brought.{landing_more, lands_below, new_has, source_is_new}
use Rattle.dt_overlay_model.proofs.NewNumbers.{number_given, number_new}
use Rattle.dt_overlay_model.proofs.Places.{places_kept}
use Rattle.dt_overlay_model.proofs.Walks.{IsWalked}
use Rattle.dt_overlay_laws.specs.Landings.{AreSited}
use Rattle.dt_overlay_laws.proofs.Landed.{lands_listed}
use Rattle.dt_overlay_base.specs.Known.{content_at, paths_of}
use Rattle.dt_overlay_base.specs.NodeNumbers.{at_node, IsNumbered, FitBelow, paths_in}
use Rattle.dt_overlay_base.proofs.NodesNumbered.{numbered_none}
use Rattle.dt_overlay_landing.specs.Turns.{AreNumberedBy, FitSoFar}
use Rattle.dt_overlay_landing.proofs.SitesTurns.{front_walked, content_is}
use Rattle.dt_trees.specs.Placed.{PlacedTree, reading_of, path_at, below_at, HasPlacesApart, IsAt}
use Rattle.dt_trees.proofs.NodePlaces.{path_is, stands_place}

-- ---- a list that is changed one by one

-- an element is the same whatever stands for none
pub get_or_same : {X : Type 0} (xs : List X) (i : ℕ) (x y : X) → i < length xs → get_or xs i x ≡ get_or xs i y
get_or_same [] i x y lt = absurd (omega arith)
get_or_same (z ∷ xs) zero x y lt = refl
get_or_same (z ∷ xs) (suc i) x y lt = get_or_same xs i x y (omega arith)

pub set_next : {X : Type 0} (f : X → X) (xs ys : List X) (i : ℕ) (x y : X) → ys ≡ map f (take i xs) ++ drop i xs → i < length xs → x ≡ get_or ys i x → y ≡ f x → slice_set ys i y ≡ map f (take (suc i) xs) ++ drop (suc i) xs
set_next {X} f xs ys i x y e lt at is = ap (λ zs. slice_set zs i y) e ∙ step xs i lt (at ∙ ap (λ zs. get_or zs i x) e)
  where
    step : (xs : List X) (i : ℕ) → i < length xs → x ≡ get_or (map f (take i xs) ++ drop i xs) i x → slice_set (map f (take i xs) ++ drop i xs) i y ≡ map f (take (suc i) xs) ++ drop (suc i) xs
    step [] i lt at = absurd (omega arith)
    step (z ∷ xs) zero lt at = ap (λ w. w ∷ xs) (is ∙ ap f at)
    step (z ∷ xs) (suc i) lt at = ap (λ zs. f z ∷ zs) (step xs i (omega arith) at)

pub length_set : {X : Type 0} (f : X → X) (xs ys : List X) (i : ℕ) → ys ≡ map f (take i xs) ++ drop i xs → length ys ≡ length xs
length_set {X} f xs ys i e = ap (λ zs. length zs) e ∙ step xs i
  where
    step : (xs : List X) (i : ℕ) → length (map f (take i xs) ++ drop i xs) ≡ length xs
    step [] zero = refl
    step [] (suc i) = refl
    step (x ∷ xs) zero = refl
    step (x ∷ xs) (suc i) = ap suc (step xs i)

-- ---- the numbers of an object's nodes, where all its fragments have sites

module _ (base : Reading) (t : PlacedTree) (valid : IsValid (reading_of t)) (few_base : IsWithinLimits base) (few : IsWithinLimits (reading_of t)) (fixups : List (Name × Cell)) (end : Walked)
    (sited : AreSited base (reading_of t) fixups nothing_walked (fragment_names (reading_of t).children) end) where
  abbrev names : List Name
  names = fragment_names (reading_of t).children

  abbrev pub numbers : List (Path × ℕ)
  numbers = new_numbers base (reading_of t) end

  all_walked : IsWalked base (reading_of t) names end
  all_walked = front_walked base (reading_of t) fixups valid names [] end (append-nil names) sited

  -- a node with a phandle that lands
  number_landed : (p q : Path) → is_some (value_in (reading_of t) p (codes "phandle")) ≡ true → landing end.sites p ≡ Some q → number_there base end.given q ≡ number_in numbers p
  number_landed p q has l = step (value_in (reading_of t) p (codes "phandle")) refl has
    where
      step : (o : Option (List ℕ)) → value_in (reading_of t) p (codes "phandle") ≡ o → is_some (value_in (reading_of t) p (codes "phandle")) ≡ true → number_there base end.given q ≡ number_in numbers p
      step None e some = absurd (true≢false (sym some ∙ ap is_some e))
      step (Some v) e some =
          let i = source_is_new (reading_of t) valid end.sites p q v (λ f j. subst (IsIn f) all_walked.named j) e l in
          let w = number_given base (reading_of t) valid few_base few end all_walked p q i l in
          w.1 ∙ sym w.2

  -- one without
  number_bare : (p : Path) → is_some (value_in (reading_of t) p (codes "phandle")) ≡ false → number_in numbers p ≡ None
  number_bare p none = step (number_in numbers p) refl
    where
      step : (o : Option ℕ) → number_in numbers p ≡ o → number_in numbers p ≡ None
      step None e = e
      step (Some n) e = absurd (true≢false (sym (new_has (reading_of t) valid p (number_new base (reading_of t) valid few_base few end all_walked p n e)) ∙ none))

  -- a node with a number is one that a fragment brings
  number_brought : (p : Path) (n : ℕ) → number_in numbers p ≡ Some n → is_brought names p ≡ true
  number_brought p n e =
      let i = number_new base (reading_of t) valid few_base few end all_walked p n e in
      let w = in_map_from (λ (x : Placed). x.path) (filter (needs_number names) (nodes_of (reading_of t))) p i in
      ap (is_brought names) w.2 ∙ first (is_brought names w.0.path) (is_some (value_of w.0.properties (codes "phandle"))) (in_filter (needs_number names) (nodes_of (reading_of t)) w.0 w.1).1
    where
      first : (x y : Bool) → (x && y) ≡ true → x ≡ true
      first true y h = refl
      first false y h = h

  -- they fit the numbers of the places
  pub all_fit : FitSoFar base t end numbers
  all_fit = record { keyed = λ p q n has lands there. sym (number_landed p q has lands) ∙ there; bare = number_bare }

  -- so each node has its number, where those that fragments bring have theirs
  pub all_numbered : (entries : List (ℕ × ℕ)) → AreNumberedBy t names entries numbers → (p : Path) → IsNumbered t numbers entries p
  all_numbered entries are p k at = step (number_in numbers p) refl
    where
      step : (o : Option ℕ) → number_in numbers p ≡ o → at_node entries k ≡ number_in numbers p
      step None e = numbered_none t numbers entries p are.sound e k at
      step (Some n) e = are.own p (sym (stands_place t p) ∙ ap is_some at) (number_brought p n e) k at

-- ---- nodes that are brought

-- a node that a fragment brings is among those of its content
pub content_has : (t : PlacedTree) → HasPlacesApart t → (f : Name) (k : ℕ) (p : Path) → IsAt t (content f) k → stands_in (reading_of t) p ≡ true → is_some (below (content f) p) ≡ true → IsIn p (paths_in t k)
content_has t apart f k p at there inside = by (below (content f) p) refl inside
  where
    by : (o : Option Path) → below (content f) p ≡ o → is_some o ≡ true → IsIn p (paths_in t k)
    by None e some = absurd (true≢false (sym some))
    by (Some r) e some =
        let whole : p ≡ content f ++ r = append-below (content f) p r e in
        let own = site f (content f) in
        let lands : landing (own ∷ []) p ≡ Some p = ap (λ (q : Path). landing (own ∷ []) q) whole ∙ ap (λ (o : Option Path). option_or o None) (moved-append (content f) (content f) r) ∙ ap (λ (q : Path). Some q) (sym whole) in
        let w = lands_listed (reading_of t) (own ∷ []) p p there lands in
        let one : w.0 ≡ own = only w.0 own w.2 in
        let listed : IsIn w.1 (landings (reading_of t) own) = subst (λ (x : Site). IsIn w.1 (landings (reading_of t) x)) one w.3 in
        let among = in_map (λ (n : Placed). n.path) (landings (reading_of t) own) w.1 listed in
        let same : paths_of (landings (reading_of t) own) ≡ paths_in t k =
        ap paths_of (content_is t f (content f) k apart at) ∙ (λ i. sym (path_is t apart (content f) k at) i ∷ paths_of (preorder (sym (path_is t apart (content f) k at) i) (below_at t (path_at t k)))) in
        subst (λ (q : Path). IsIn q (paths_in t k)) w.4 (subst (IsIn w.1.path) same among)
      where
        only : (x y : Site) → IsIn x (y ∷ []) → x ≡ y
        only x y (inl same) = same
        only x y (inr none) = absurd none

-- a node that fragments bring is of the last of them, or of those before it
pub brought_last : (p : Path) (done : List Name) (f : Name) → is_brought (done ++ f ∷ []) p ≡ true → (is_brought done p ≡ true) ⊎ (is_some (below (content f) p) ≡ true)
brought_last p done f e = by (is_brought done p) refl (is_some (below (content f) p)) refl (sym (list_any-append (λ (g : Name). is_some (below (content g) p)) done (f ∷ [])) ∙ e)
  where
    by : (x : Bool) → is_brought done p ≡ x → (y : Bool) → is_some (below (content f) p) ≡ y → (x || (y || false)) ≡ true → (is_brought done p ≡ true) ⊎ (is_some (below (content f) p) ≡ true)
    by true earlier y last h = inl earlier
    by false earlier true last h = inr last
    by false earlier false last h = absurd (true≢false (sym h))

-- ---- numbers that fit

module _ (base : Reading) (t : PlacedTree) (w : Walked) (f : Name) (q : Path) (numbers : List (Path × ℕ)) (fit : FitSoFar base t (landed_on base (reading_of t) w f q) numbers) where
  abbrev object : Reading
  object = reading_of t

  -- they fitted before the last fragment landed
  pub fit_before : FitSoFar base t w numbers
  fit_before = record {
    keyed = λ p r n has lands there. fit.keyed p r n has (landing_more w.sites (site f q ∷ []) p r lands) (places_kept base (landings object (site f q)) w.given r n there);
    bare = fit.bare;
  }

  -- and they fit what it brings
  pub fit_content : (k : ℕ) → HasPlacesApart t → IsAt t (content f) k → AreDistinct (site_names (w.sites ++ site f q ∷ [])) → FitBelow base t (with_places base (content_at t k q) w.given) k q numbers
  fit_content k apart at distinct = record {
    keyed = λ r n has there.
        let own = site f q in
        let lands : landing (w.sites ++ own ∷ []) (path_at t k ++ r) ≡ Some (q ++ r) =
        ap (λ (p : Path). landing (w.sites ++ own ∷ []) (p ++ r)) (path_is t apart (content f) k at) ∙ lands_below (w.sites ++ own ∷ []) own r distinct (in_right own w.sites (own ∷ []) (inl refl)) in
        fit.keyed (path_at t k ++ r) (q ++ r) n has lands (ap (λ (ns : List Placed). number_there base (with_places base ns w.given) (q ++ r)) (content_is t f q k apart at) ∙ there);
    bare = fit.bare;
  }
