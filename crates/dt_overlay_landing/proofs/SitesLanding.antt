-- Where a node of the object lands, by its place.
use Rattle.std.proofs.Common.{◌≡◌, ◌≢◌, ℕ, zero, suc, ◌≤◌, ◌⊎◌, Bool, true, false, List, [], ◌∷◌, ◌++◌, length, take, drop, map, Option, Some, None, refl, sym, ap, subst, ◌∙◌, inl, inr, append-nil, append_assoc, arith}
use Rattle.std.specs.Prelude.{is_some, slice_get, option_map, if◌then◌else◌}
use Rattle.std.specs.Option.{option_or}
use Rattle.std.specs.Str.{bytes_eq}
use Rattle.std.proofs.lemmas.List.{take-append-drop, length-append}
use Rattle.std.proofs.lemmas.Option.{slice_get-map}
use Rattle.dt_model.specs.Limits.{most_names}
use Rattle.dt_model.specs.Names.{Name}
use Rattle.dt_model.specs.Path.{Path, below}
use Rattle.dt_model.specs.Lists.{IsIn}
use Rattle.dt_model.specs.Overlay.{content}
use Rattle.dt_model.specs.Merged.{Site, landing, moved}
use Rattle.dt_model.specs.Valid.{AreDistinct}
use Rattle.dt_model.proofs.Distinct.{distinct_left}
use Rattle.dt_model.proofs.Tests.{bytes_eq_true}
use Rattle.dt_model_laws.proofs.Placed.{site_names, landing_from}
use Rattle.dt_overlay_model.proofs.Brought.{lands_below}
use Rattle.dt_names.specs.Paths.{WhyNotPushed}
use Rattle.dt_names.specs.declared.fault.FaultKind.{FaultKind}
use Rattle.dt_names.specs.declared.fault.FaultKind.TheVariants.{NoMemory, Limit}
use Rattle.dt_overlay_landing.specs.Turns.{LandsTooDeep}
use Rattle.dt_overlay_base.specs.NodeNumbers.{at_node}
use Rattle.dt_overlay_object.specs.Plans.{AreContents}
use Rattle.dt_overlay_object.proofs.Contents.{content_is, no_content, path_above}
use Rattle.dt_overlay_object.proofs.Elements.{get_in, in_get, one_index}
use Rattle.dt_trees.specs.Placed.{PlacedTree, reading_of, path_at, last_name, HasPlacesApart, IsNode}
use Rattle.dt_trees.specs.Views.{IsAbove}
use Rattle.dt_trees.proofs.NodePlaces.{stands_place}

-- ---- elements by their indices

get_take : {X : Type 0} (n : ℕ) (xs : List X) (i : ℕ) (x : X) → slice_get (take n xs) i ≡ Some x → slice_get xs i ≡ Some x
get_take zero xs i x e = absurd cc
get_take (suc n) [] i x e = absurd cc
get_take (suc n) (y ∷ xs) zero x e = e
get_take (suc n) (y ∷ xs) (suc i) x e = get_take n xs i x e

-- ---- the sites of a front of the fragments

module _ (names : List Name) (distinct : AreDistinct names) (sites : List Site) (front : map (λ (x : Site). x.fragment) sites ≡ take (length sites) names) where
  -- no two are those of one fragment
  pub sites_distinct : AreDistinct (site_names sites)
  sites_distinct =
      subst AreDistinct (sym front)
      (distinct_left (take (length sites) names) (drop (length sites) names) (subst AreDistinct (sym (take-append-drop (length sites) names)) distinct))

  -- the name of a site's fragment is in its place among the fragments
  name_at : (i : ℕ) (x : Site) → slice_get sites i ≡ Some x → slice_get names i ≡ Some x.fragment
  name_at i x e =
      get_take (length sites) names i x.fragment (ap (λ ns. slice_get ns i) (sym front) ∙ slice_get-map (λ (y : Site). y.fragment) sites i ∙ ap (option_map (λ (y : Site). y.fragment)) e)

-- ---- one name more

-- what is below a path, or not
moved_more : (c b p : Path) (x : Name) → c ≢ p ++ x ∷ [] → moved c b (p ++ x ∷ []) ≡ option_map (λ q. q ++ x ∷ []) (moved c b p)
moved_more c b p x other = ap (option_map (λ (r : Path). b ++ r)) (below_more c p other) ∙ by (below c p)
  where
    below_more : (c p : Path) → c ≢ p ++ x ∷ [] → below c (p ++ x ∷ []) ≡ option_map (λ r. r ++ x ∷ []) (below c p)
    below_more [] p ne = refl
    below_more (y ∷ []) [] ne = step (bytes_eq y x) refl
      where
        step : (d : Bool) → bytes_eq y x ≡ d → (if d then below [] [] else None) ≡ None
        step true e = absurd (ne (ap (λ (n : Name). n ∷ []) (bytes_eq_true y x e)))
        step false e = refl
    below_more (y ∷ z ∷ c) [] ne = step (bytes_eq y x)
      where
        step : (d : Bool) → (if d then below (z ∷ c) [] else None) ≡ None
        step true = refl
        step false = refl
    below_more (y ∷ c) (z ∷ p) ne = step (bytes_eq y z) refl (below_more c p)
      where
        step : (d : Bool) → bytes_eq y z ≡ d → (c ≢ p ++ x ∷ [] → below c (p ++ x ∷ []) ≡ option_map (λ r. r ++ x ∷ []) (below c p))
            → (if d then below c (p ++ x ∷ []) else None) ≡ option_map (λ r. r ++ x ∷ []) (if d then below c p else None)
        step true e more = more (λ same. ne (λ i. bytes_eq_true y z e i ∷ same i))
        step false e more = refl

    by : (o : Option Path) → option_map (λ (r : Path). b ++ r) (option_map (λ r. r ++ x ∷ []) o) ≡ option_map (λ q. q ++ x ∷ []) (option_map (λ (r : Path). b ++ r) o)
    by None = refl
    by (Some r) = ap (λ (q : Path). Some q) (sym (append_assoc b r (x ∷ [])))

landing_more : (sites : List Site) (p : Path) (x : Name) → ((y : Site) → IsIn y sites → content y.fragment ≢ p ++ x ∷ []) → landing sites (p ++ x ∷ []) ≡ option_map (λ q. q ++ x ∷ []) (landing sites p)
landing_more [] p x other = refl
landing_more (y ∷ sites) p x other =
    (λ i. option_or (moved_more (content y.fragment) y.at p x (other y (inl refl)) i) (landing_more sites p x (λ z j. other z (inr j)) i)) ∙ by (moved (content y.fragment) y.at p)
  where
    by : (o : Option Path) → option_or (option_map (λ q. q ++ x ∷ []) o) (option_map (λ q. q ++ x ∷ []) (landing sites p)) ≡ option_map (λ q. q ++ x ∷ []) (option_or o (landing sites p))
    by None = refl
    by (Some q) = refl

-- ---- as the code finds it

site_here : (sites : List Site) (i : ℕ) (y : Path) → slice_get (map (λ (x : Site). x.at) sites) i ≡ Some y → (x : Site) × (slice_get sites i ≡ Some x) × (x.at ≡ y)
site_here [] i y e = absurd cc
site_here (x ∷ sites) zero y e = (x, refl, (let z : Some x.at ≡ Some y = e in cc))
site_here (x ∷ sites) (suc i) y e = site_here sites i y e

none_here : (sites : List Site) (i : ℕ) (x : Site) → slice_get (map (λ (y : Site). y.at) sites) i ≡ None → slice_get sites i ≡ Some x → ⊥
none_here [] i x e f = absurd cc
none_here (y ∷ sites) zero x e f = absurd cc
none_here (y ∷ sites) (suc i) x e f = none_here sites i x e f

module _ (t : PlacedTree) (apart : HasPlacesApart t) (names : List Name) (distinct : AreDistinct names) (entries : List (ℕ × ℕ)) (contents : AreContents t names entries) (sites : List Site)
    (front : map (λ (x : Site). x.fragment) sites ≡ take (length sites) names) (paths : List Path) (same : paths ≡ map (λ (x : Site). x.at) sites) (k : ℕ) (is : IsNode t k) where
  -- the content of a fragment with a site lands on it
  pub landing_here : (i : ℕ) (y : Path) → at_node entries k ≡ Some i → slice_get paths i ≡ Some y → landing sites (path_at t k) ≡ Some y
  landing_here i y e at =
      let f = content_is t apart names entries contents k is i e in
      let here = site_here sites i y (ap (λ ps. slice_get ps i) (sym same) ∙ at) in
      let both : Some f.0 ≡ Some here.0.fragment = sym f.1 ∙ name_at names distinct sites front i here.0 here.1 in
      let name : f.0 ≡ here.0.fragment = cc in
      let path : path_at t k ≡ content here.0.fragment ++ [] = f.2 ∙ ap content name ∙ sym (append-nil (content here.0.fragment)) in
      ap (landing sites) path ∙ lands_below sites here.0 [] (sites_distinct names distinct sites front) (get_in sites i here.0 here.1) ∙ ap (λ (q : Path). Some q) (append-nil here.0.at ∙ here.2)

  -- that of another doesn't land so far
  pub landing_later : (i : ℕ) → at_node entries k ≡ Some i → slice_get paths i ≡ None → landing sites (path_at t k) ≡ None
  landing_later i e past = step (landing sites (path_at t k)) refl
    where
      step : (o : Option Path) → landing sites (path_at t k) ≡ o → landing sites (path_at t k) ≡ None
      step None l = l
      step (Some q) l =
          let f = content_is t apart names entries contents k is i e in
          let w = landing_from sites (path_at t k) q l in
          let j = in_get sites w.0 w.2 in
          let whole : content f.0 ≡ content w.0.fragment ++ w.1 = sym f.2 ∙ w.3 in
          let name : f.0 ≡ w.0.fragment = cc in
          let index : i ≡ j.0 = one_index names i j.0 f.0 distinct f.1 (name_at names distinct sites front j.0 w.0 j.1 ∙ ap (λ (n : Name). Some n) (sym name)) in
          absurd (none_here sites i w.0 (ap (λ ps. slice_get ps i) (sym same) ∙ past) (ap (slice_get sites) index ∙ j.1))

  -- any other lands where the node above it does
  pub landing_above : (above : ℕ) → is_some (at_node entries k) ≡ false → IsAbove t k (Some above) → landing sites (path_at t k) ≡ option_map (λ q. q ++ last_name (path_at t k) ∷ []) (landing sites (path_at t above))
  landing_above above none up =
      let whole = path_above t k above up in
      ap (landing sites) whole
      ∙ landing_more sites (path_at t above) (last_name (path_at t k))
      (λ y i own. let j = in_get sites y i in no_content t apart names entries contents k is none y.fragment j.0 (name_at names distinct sites front j.0 y j.1) (own ∙ sym whole))

  -- too deep
  pub too_deep : (above : ℕ) (q : Path) → is_some (at_node entries k) ≡ false → IsAbove t k (Some above) → landing sites (path_at t above) ≡ Some q → most_names ≤ length q → LandsTooDeep (reading_of t) sites
  too_deep above q none up lands deep =
      let x = last_name (path_at t k) in
      let landed : landing sites (path_at t k) ≡ Some (q ++ x ∷ []) = landing_above above none up ∙ ap (option_map (λ r. r ++ x ∷ [])) lands in
      let long = length-append q (x ∷ []) in
      (path_at t k, q ++ x ∷ [], sym (stands_place t (path_at t k)) ∙ ap is_some is, landed, omega (arith, deep, long))

-- nothing lands by the root
pub root_nowhere : (sites : List Site) → landing sites [] ≡ None
root_nowhere [] = refl
root_nowhere (x ∷ sites) = root_nowhere sites

-- a name that is refused is one too many
pub pushed_deep : {Deep : Type 0} (kind : FaultKind) (p : Path) → WhyNotPushed kind p → (most_names ≤ length p → Deep) → (kind ≡ NoMemory) ⊎ ((kind ≡ Limit) × Deep)
pushed_deep NoMemory p why deep = inl refl
pushed_deep Limit p why deep = inr (refl, deep (omega (arith, why)))
pushed_deep _ p why deep = absurd why
