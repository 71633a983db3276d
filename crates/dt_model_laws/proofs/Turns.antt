-- The sites of an overlay that applies are nodes of the tree, each when its turn comes.
use Rattle.std.proofs.Common.{◌≡◌, ℕ, true, false, ◌||◌, List, [], ◌∷◌, ◌++◌, refl, sym, ap, ◌∙◌, ◌⊎◌, inl, inr, subst, Option, Some, None}
use Rattle.std.specs.List.{list_any}
use Rattle.dt_model.specs.Path.{Path, is_bookkeeping}
use Rattle.dt_model.specs.Lists.{IsIn}
use Rattle.dt_model.specs.Meaning.{Meaning}
use Rattle.dt_model.specs.Overlay.{Overlay, Fragment, content}
use Rattle.dt_model.specs.Merged.{Site, moved, sources, AreSites}
use Rattle.dt_model.specs.Tree.{Reading, stands_in}
use Rattle.dt_model.specs.Applied.{Write}
use Rattle.dt_model_laws.specs.Applying.{AreOf}
use Rattle.dt_model.proofs.Tests.{any_same, in_map, in_map_from}
use Rattle.dt_model_laws.proofs.Lands.{moved_is}
use Rattle.dt_model_laws.proofs.Landing.{StandInTurn, AreThere, there_from}
use Rattle.dt_model.proofs.Inside.{plain_fragment}
use Rattle.dt_model_laws.proofs.Placed.{fragment_list}

-- a source is below the node of one of the sites' fragments
pub source_from : (sites : List Site) (p q : Path) → IsIn p (sources sites q) → (x : Site) × (rest : Path) × IsIn x sites × (p ≡ content x.fragment ++ rest)
source_from [] p q i = absurd i
source_from (x ∷ sites) p q i = step (λ k. source_from sites p q k) (moved x.at (content x.fragment) q) refl
  where
    later : ((y : Site) × (rest : Path) × IsIn y sites × (p ≡ content y.fragment ++ rest)) → (y : Site) × (rest : Path) × IsIn y (x ∷ sites) × (p ≡ content y.fragment ++ rest)
    later w = (w.0, w.1, inr w.2, w.3)

    step : (IsIn p (sources sites q) → (y : Site) × (rest : Path) × IsIn y sites × (p ≡ content y.fragment ++ rest)) → (z : Option Path) → moved x.at (content x.fragment) q ≡ z
        → (y : Site) × (rest : Path) × IsIn y (x ∷ sites) × (p ≡ content y.fragment ++ rest)
    step more None e = later (more (rw e at i))
    step more (Some r) e =
        let cases : (p ≡ r) ⊎ IsIn p (sources sites q) = rw e at i in
        elim cases [
          | inl same ↦ let w = moved_is x.at (content x.fragment) q r e in (x, w.0, inl refl, same ∙ w.2)
          | inr k ↦ later (more k)
        ]

module _ (base object : Reading) (m : Meaning) (o : Overlay) (number local : Path → ℕ) (are : AreOf base object m o number local) (ws : List Write) (numbers : List (Path × ℕ)) where
  -- these sites are of fragments of the overlay
  abbrev AreOfFragments : List Site → Type 0
  AreOfFragments sites = (x : Site) → IsIn x sites → IsIn x.fragment (fragment_list o.fragments)

  pub plain_source : (sites : List Site) (p q : Path) → ((x : Site) → IsIn x sites → IsIn x.fragment (fragment_list o.fragments)) → IsIn p (sources sites q) → is_bookkeeping p ≡ false
  plain_source sites p q of i =
      let w = source_from sites p q i in
      let g = in_map_from (λ (f : Fragment). f.name) o.fragments w.0.fragment (of w.0 w.2) in
      ap is_bookkeeping w.3 ∙ ap (λ name. is_bookkeeping (name ∷ [])) g.2 ∙ plain_fragment o are.overlay g.0 [] g.1

  same_so_far : (earlier : List Site) (q : Path) → AreOfFragments earlier → is_bookkeeping q ≡ false → list_any (stands_in object) (sources earlier q) || stands_in base q ≡ list_any o.stands (sources earlier q) || m.stands q
  same_so_far earlier q of plain =
      ap (λ b. b || stands_in base q) (any_same (stands_in object) o.stands (sources earlier q) (λ p i. are.encoded.nodes p (plain_source earlier p q of i)))
      ∙ ap (λ b. list_any o.stands (sources earlier q) || b) (are.represented.nodes q plain)

  content_stands : (f : Fragment) → IsIn f o.fragments → stands_in object (content f.name) ≡ true
  content_stands f i = are.encoded.nodes (content f.name) (plain_fragment o are.overlay f (content f.name) i) ∙ (are.overlay.fragments f.name).1 (f.target, i)

  one_more : (earlier : List Site) (x : Site) → AreOfFragments earlier → IsIn x.fragment (fragment_list o.fragments) → AreOfFragments (earlier ++ x ∷ [])
  one_more [] x of i y (inl same) = subst (λ (z : Site). IsIn z.fragment (fragment_list o.fragments)) (sym same) i
  one_more [] x of i y (inr j) = absurd j
  one_more (z ∷ earlier) x of i y (inl same) = of y (inl same)
  one_more (z ∷ earlier) x of i y (inr j) = one_more earlier x (λ w k. of w (inr k)) i y j

  in_turn : (earlier : List Site) (fs : List Fragment) (sites : List Site) → AreOfFragments earlier → ((f : Fragment) → IsIn f fs → IsIn f o.fragments) → AreSites m o earlier fs sites → StandInTurn object ws numbers are.valid_object base earlier sites
  in_turn earlier [] [] of sub h = tt
  in_turn earlier [] (x ∷ sites) of sub h = absurd h
  in_turn earlier (f ∷ fs) [] of sub h = absurd h
  in_turn earlier (f ∷ fs) (x ∷ sites) of sub h = (
    same_so_far earlier x.at of h.0.plain ∙ h.0.there,
    ap (λ name. stands_in object (content name)) h.0.of ∙ content_stands f (sub f (inl refl)),
    in_turn (earlier ++ x ∷ []) fs sites (one_more earlier x of (subst (λ name. IsIn name (fragment_list o.fragments)) (sym h.0.of) (in_map (λ (g : Fragment). g.name) o.fragments f (sub f (inl refl))))) (λ g i. sub g (inr i)) h.1,
  )

  pub there : (sites : List Site) → AreSites m o [] o.fragments sites → AreThere object ws numbers are.valid_object base sites
  there sites h = there_from object ws numbers are.valid_object sites [] base base (λ q. refl) (in_turn [] o.fragments sites (λ x i. absurd i) (λ f i. i) h)
