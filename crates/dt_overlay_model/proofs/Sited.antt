-- The walk comes to an end exactly where the overlay's fragments have sites, and with these.
use Rattle.std.proofs.Common.{◌≡◌, ℕ, List, [], ◌∷◌, ◌++◌, refl, sym, ap, ◌∙◌, inl, inr, subst, Option, Some, None, append_assoc}
use Rattle.std.specs.Prelude.{option_and_then}
use Rattle.std.specs.List.{AllByRecursion}
use Rattle.dt_model.specs.Names.{Name, IsNodeName}
use Rattle.dt_model.specs.Path.{Path}
use Rattle.dt_model.specs.Lists.{IsIn}
use Rattle.dt_model.specs.Meaning.{Meaning}
use Rattle.dt_model.specs.Overlay.{Fragment, Overlay}
use Rattle.dt_model.specs.Merged.{Site, IsSite, AreSites}
use Rattle.dt_model.specs.Object.{Cell, HasFixups}
use Rattle.dt_model.specs.Tree.{Reading}
use Rattle.dt_model_laws.specs.Applying.{AreOf}
use Rattle.dt_model_laws.proofs.Placed.{site_names, fragment_list, AreEarlier, so_far_named}
use Rattle.dt_overlay_model.specs.Walk.{Walked, nothing_walked, site, landed_on, walk_one, walk}
use Rattle.dt_overlay_model.proofs.Walks.{step_from, step_to, names_last}
use Rattle.dt_overlay_model.proofs.Targets.{target_from, target_to}

in_last : (earlier : List Site) (x y : Site) (P : Site → Type 0) → ((z : Site) → IsIn z earlier → P z) → P x → IsIn y (earlier ++ x ∷ []) → P y
in_last [] x y P all h (inl same) = subst P (sym same) h
in_last [] x y P all h (inr i) = absurd i
in_last (z ∷ earlier) x y P all h (inl same) = all y (inl same)
in_last (z ∷ earlier) x y P all h (inr i) = in_last earlier x y P (λ w j. all w (inr j)) h i

module _ (base object : Reading) (m : Meaning) (o : Overlay) (number local : Path → ℕ) (fixups : List (Name × Cell))
    (are : AreOf base object m o number local) (has : HasFixups object fixups) where
  -- one step of the walk
  site_from : (w next : Walked) → AreEarlier o w.sites → (f : Fragment) → IsIn f o.fragments → walk_one base object fixups w f.name ≡ Some next
      → (x : Site) × IsSite m o w.sites f x × (next.sites ≡ w.sites ++ x ∷ [])
  site_from w next e f i h =
      let s = step_from base object fixups w f.name next h in
      let n = target_from base object m o number local fixups are has w e f s.at i s.plain s.named in
      (site f.name s.at, record { of = refl; named = n.0; there = n.1; plain = s.plain }, ap (λ (z : Walked). z.sites) s.is)

  same_site : (f : Fragment) (x : Site) → x.fragment ≡ f.name → site f.name x.at ≡ x
  same_site f x of = ap (λ n. site n x.at) (sym of)

  site_to : (w : Walked) → AreEarlier o w.sites → (f : Fragment) (x : Site) → IsIn f o.fragments → IsSite m o w.sites f x
      → (next : Walked) × (walk_one base object fixups w f.name ≡ Some next) × (next.sites ≡ w.sites ++ x ∷ [])
  site_to w e f x i h = (
    landed_on base object w f.name x.at,
    step_to base object fixups w f.name x.at (target_to base object m o number local fixups are has w e f x.at i h.plain h.named h.there) h.plain,
    ap (λ z. w.sites ++ z ∷ []) (same_site f x h.of),
  )

  -- one site more
  earlier_more : (earlier : List Site) (e : AreEarlier o earlier) (f : Fragment) (fs : List Fragment) (x : Site) → e.later ≡ fragment_list (f ∷ fs) → IsSite m o earlier f x → AreEarlier o (earlier ++ x ∷ [])
  earlier_more earlier e f fs x same h = record {
    later = fragment_list fs;
    fragments =
        ap (λ z. z ++ fragment_list fs) (names_last earlier x) ∙ append_assoc (site_names earlier) (x.fragment ∷ []) (fragment_list fs)
        ∙ ap (λ z. site_names earlier ++ z ∷ fragment_list fs) h.of ∙ ap (λ z. site_names earlier ++ z) (sym same) ∙ e.fragments;
    named = λ y i. in_last earlier x y (λ z. AllByRecursion IsNodeName z.at) e.named (so_far_named o are.overlay earlier e m are.meaning x.at h.there) i;
  }

  abbrev walks : Walked → List Fragment → Option Walked
  walks w fs = walk base object fixups w (fragment_list fs)

  nothing_behind : (xs : List Site) → xs ≡ xs ++ []
  nothing_behind [] = refl
  nothing_behind (x ∷ xs) = ap (λ z. x ∷ z) (nothing_behind xs)

  -- a walk that goes on from some sites ends with sites of the fragments that are left
  sites_from : (fs : List Fragment) (w end : Walked) (here : List Site) (e : AreEarlier o here) → w.sites ≡ here → e.later ≡ fragment_list fs → ((f : Fragment) → IsIn f fs → IsIn f o.fragments)
      → walks w fs ≡ Some end → (sites : List Site) × AreSites m o here fs sites × (end.sites ≡ here ++ sites)
  unfolding earlier_more
  sites_from [] w end here e at same sub h =
      let is : w ≡ end = let z : ◌≡◌ {A = Option Walked} (Some w) (Some end) = h in cc in
      ([], tt, ap (λ (z : Walked). z.sites) (sym is) ∙ at ∙ nothing_behind here)
  sites_from (f ∷ fs) w end here e at same sub h = step (λ next x e' at' s k. sites_from fs next end (here ++ x ∷ []) e' at' s (λ g i. sub g (inr i)) k) (walk_one base object fixups w f.name) refl h
    where
      step : ((next : Walked) (x : Site) (e' : AreEarlier o (here ++ x ∷ [])) → next.sites ≡ here ++ x ∷ [] → e'.later ≡ fragment_list fs → walks next fs ≡ Some end
          → (sites : List Site) × AreSites m o (here ++ x ∷ []) fs sites × (end.sites ≡ (here ++ x ∷ []) ++ sites))
          → (y : Option Walked) → walk_one base object fixups w f.name ≡ y → option_and_then (λ next. walks next fs) y ≡ Some end
          → (sites : List Site) × AreSites m o here (f ∷ fs) sites × (end.sites ≡ here ++ sites)
      step more None k j = absurd (let z : ◌≡◌ {A = Option Walked} None (Some end) = j in cc)
      step more (Some next) k j =
          let one = site_from w next (subst (AreEarlier o) (sym at) e) f (sub f (inl refl)) k in
          let is : IsSite m o here f one.0 = subst (λ z. IsSite m o z f one.0) at one.1 in
          let rest = more next one.0 (earlier_more here e f fs one.0 same is) (one.2 ∙ ap (λ z. z ++ one.0 ∷ []) at) refl j in
          (one.0 ∷ rest.0, (is, rest.1), rest.2 ∙ append_assoc here (one.0 ∷ []) rest.0)

  -- and where these have sites it goes on to an end with them
  sites_to : (fs : List Fragment) (w : Walked) (here sites : List Site) (e : AreEarlier o here) → w.sites ≡ here → e.later ≡ fragment_list fs → ((f : Fragment) → IsIn f fs → IsIn f o.fragments)
      → AreSites m o here fs sites → (end : Walked) × (walks w fs ≡ Some end) × (end.sites ≡ here ++ sites)
  unfolding earlier_more
  sites_to [] w here [] e at same sub h = (w, refl, at ∙ nothing_behind here)
  sites_to [] w here (x ∷ sites) e at same sub h = absurd h
  sites_to (f ∷ fs) w here [] e at same sub h = absurd h
  sites_to (f ∷ fs) w here (x ∷ sites) e at same sub h =
      let one = site_to w (subst (AreEarlier o) (sym at) e) f x (sub f (inl refl)) (subst (λ z. IsSite m o z f x) (sym at) h.0) in
      let rest = sites_to fs one.0 (here ++ x ∷ []) sites (earlier_more here e f fs x same h.0) (one.2 ∙ ap (λ z. z ++ x ∷ []) at) refl (λ g i. sub g (inr i)) h.1 in
      (rest.0, ap (option_and_then (λ next. walks next fs)) one.1 ∙ rest.1, rest.2 ∙ append_assoc here (x ∷ []) sites)

  none_earlier : AreEarlier o []
  none_earlier = record { later = fragment_list o.fragments; fragments = refl; named = λ x i. absurd i }

  -- a walk's sites are the overlay's
  pub walked_sites : (end : Walked) → walk base object fixups nothing_walked (fragment_list o.fragments) ≡ Some end → AreSites m o [] o.fragments end.sites
  unfolding none_earlier
  walked_sites end h =
      let v = sites_from o.fragments nothing_walked end [] none_earlier refl refl (λ f i. i) h in
      subst (AreSites m o [] o.fragments) (sym v.2) v.1

  -- and wherever there are any, the walk comes to an end with these
  pub sites_walked : (sites : List Site) → AreSites m o [] o.fragments sites → (end : Walked) × (walk base object fixups nothing_walked (fragment_list o.fragments) ≡ Some end) × (end.sites ≡ sites)
  unfolding none_earlier
  sites_walked sites h = sites_to o.fragments nothing_walked [] sites none_earlier refl refl (λ f i. i) h
