-- What the sites of an overlay's fragments give.
use Rattle.std.proofs.Common.{◌≡◌, true, ◌||◌, List, [], ◌∷◌, ◌++◌, map, refl, sym, ap, ◌∙◌, inl, inr, subst, Option, Some, None}
use Rattle.std.specs.Option.{option_or}
use Rattle.std.specs.List.{AllByRecursion, list_any}
use Rattle.dt_model.specs.Names.{Name, IsNodeName}
use Rattle.dt_model.specs.Path.{Path}
use Rattle.dt_model.specs.Lists.{IsIn}
use Rattle.dt_model.specs.Meaning.{Meaning, IsMeaning}
use Rattle.dt_model.specs.Overlay.{Overlay, IsOverlay, Fragment, content, IsBrought}
use Rattle.dt_model.specs.Merged.{Site, AreSites, moved, landing, sources}
use Rattle.dt_model.specs.Valid.{AreDistinct}
use Rattle.dt_model.proofs.Tests.{each_append, in_left, in_map, in_map_from, or_cases, any_from}
use Rattle.dt_model.proofs.Distinct.{distinct_left}
use Rattle.dt_model_laws.proofs.Lands.{moved_is, moved-append, landing_of}

abbrev pub site_names : List Site → List Name
site_names sites = map (λ (x : Site). x.fragment) sites

abbrev pub fragment_list : List Fragment → List Name
fragment_list fs = map (λ (f : Fragment). f.name) fs

module _ (m : Meaning) (o : Overlay) where
  -- the sites are the fragments', in order
  pub same_fragments : (earlier : List Site) (fs : List Fragment) (sites : List Site) → AreSites m o earlier fs sites → site_names sites ≡ fragment_list fs
  same_fragments earlier [] [] h = refl
  same_fragments earlier [] (x ∷ sites) h = absurd h
  same_fragments earlier (f ∷ fs) [] h = absurd h
  same_fragments earlier (f ∷ fs) (x ∷ sites) h = ap (λ z. z ∷ site_names sites) h.0.of ∙ ap (λ z. f.name ∷ z) (same_fragments (earlier ++ x ∷ []) fs sites h.1)

  pub lands_at : (earlier : List Site) (fs : List Fragment) (sites : List Site) (f : Fragment) (rest : Path) → AreSites m o earlier fs sites → IsIn f fs → (q : Path) × (landing sites (content f.name ++ rest) ≡ Some q)
  lands_at earlier [] sites f rest h i = absurd i
  lands_at earlier (g ∷ fs) [] f rest h i = absurd h
  lands_at earlier (g ∷ fs) (x ∷ sites) f rest h (inl same) =
      let is : content f.name ++ rest ≡ content x.fragment ++ rest = ap (λ name. content name ++ rest) (ap (λ y. y.name) same ∙ sym h.0.of) in
      (x.at ++ rest, ap (λ y. option_or y (landing sites (content f.name ++ rest))) (ap (moved (content x.fragment) x.at) is ∙ moved-append (content x.fragment) x.at rest))
  lands_at earlier (g ∷ fs) (x ∷ sites) f rest h (inr i) =
      let w = lands_at (earlier ++ x ∷ []) fs sites f rest h.1 i in
      first (moved (content x.fragment) x.at (content f.name ++ rest)) w
    where
      first : (y : Option Path) → (q : Path) × (landing sites (content f.name ++ rest) ≡ Some q) → (q : Path) × (option_or y (landing sites (content f.name ++ rest)) ≡ Some q)
      first None w = w
      first (Some q) w = (q, refl)

-- what lands is below the node of one of the sites' fragments
pub landing_from : (sites : List Site) (p q : Path) → landing sites p ≡ Some q → (x : Site) × (rest : Path) × IsIn x sites × (p ≡ content x.fragment ++ rest) × (q ≡ x.at ++ rest)
landing_from [] p q e = absurd (let z : None ≡ Some q = e in cc)
landing_from (x ∷ sites) p q e = step (λ k. landing_from sites p q k) (moved (content x.fragment) x.at p) refl
  where
    step : (landing sites p ≡ Some q → (y : Site) × (rest : Path) × IsIn y sites × (p ≡ content y.fragment ++ rest) × (q ≡ y.at ++ rest)) → (z : Option Path) → moved (content x.fragment) x.at p ≡ z
        → (y : Site) × (rest : Path) × IsIn y (x ∷ sites) × (p ≡ content y.fragment ++ rest) × (q ≡ y.at ++ rest)
    step more None k = let w = more (rw k at e) in (w.0, w.1, inr w.2, w.3, w.4)
    step more (Some r) k =
        let same : Some r ≡ Some q = rw k at e in
        let w = moved_is (content x.fragment) x.at p r k in
        let is : r ≡ q = cc in
        (x, w.0, inl refl, w.1, sym is ∙ w.2)

-- sites of some fragments of the overlay, on paths with names
pub record AreEarlier (o : Overlay) (earlier : List Site) : Type 0 where
  pub later : List Name
  pub fragments : site_names earlier ++ later ≡ fragment_list o.fragments
  pub named : (x : Site) → IsIn x earlier → AllByRecursion IsNodeName x.at

module _ (o : Overlay) (overlay : IsOverlay o) (earlier : List Site) (e : AreEarlier o earlier) where
  pub earlier_distinct : AreDistinct (site_names earlier)
  earlier_distinct = distinct_left (site_names earlier) e.later (subst AreDistinct (sym e.fragments) overlay.distinct)

  -- what lands is brought by a fragment
  pub lands_brought : (p q : Path) → landing earlier p ≡ Some q → IsBrought o p
  lands_brought p q l =
      let w = landing_from earlier p q l in
      let i : IsIn w.0.fragment (fragment_list o.fragments) = subst (λ z. IsIn w.0.fragment z) e.fragments (in_left w.0.fragment (site_names earlier) e.later (in_map (λ (x : Site). x.fragment) earlier w.0 w.2)) in
      let g = in_map_from (λ (f : Fragment). f.name) o.fragments w.0.fragment i in
      (g.0, w.1, g.1, w.3 ∙ ap (λ name. content name ++ w.1) g.2)

  -- where a node lands, the path's names are names
  pub lands_named : (p q : Path) → o.stands p ≡ true → landing earlier p ≡ Some q → AllByRecursion IsNodeName q
  lands_named p q h l =
      let w = landing_from earlier p q l in
      let names : AllByRecursion IsNodeName (content w.0.fragment ++ w.1) = subst (AllByRecursion IsNodeName) w.3 (overlay.named p h) in
      subst (AllByRecursion IsNodeName) (sym w.4) (each_append IsNodeName w.0.at w.1 (e.named w.0 w.2) names.1.1)

  -- a node of the tree so far has names
  pub so_far_named : (m : Meaning) → IsMeaning m → (q : Path) → list_any o.stands (sources earlier q) || m.stands q ≡ true → AllByRecursion IsNodeName q
  so_far_named m meaning q h = elim (or_cases (list_any o.stands (sources earlier q)) (m.stands q) h) [
    | inl any ↦ let w = any_from o.stands (sources earlier q) any in lands_named w.0 q w.2 (landing_of earlier w.0 q earlier_distinct w.1)
    | inr k ↦ meaning.named q k
  ]

-- what lands at all fragments' sites is brought by a fragment
pub brought_at : (o : Overlay) (sites : List Site) (p q : Path) → site_names sites ≡ fragment_list o.fragments → landing sites p ≡ Some q → IsBrought o p
brought_at o sites p q same l =
    let w = landing_from sites p q l in
    let i : IsIn w.0.fragment (fragment_list o.fragments) = subst (λ z. IsIn w.0.fragment z) same (in_map (λ (x : Site). x.fragment) sites w.0 w.2) in
    let g = in_map_from (λ (f : Fragment). f.name) o.fragments w.0.fragment i in
    (g.0, w.1, g.1, w.3 ∙ ap (λ name. content name ++ w.1) g.2)
