-- Fragments that have sites, and the first that has none.
use Rattle.std.proofs.Common.{◌≡◌, ◌<◌, true, false, List, [], ◌∷◌, ◌++◌, length, refl, sym, ap, subst, ◌∙◌, ◌⊎◌, inl, inr, Option, Some, None, true≢false, append_assoc, arith}
use Rattle.std.specs.Prelude.{option_and_then}
use Rattle.dt_model.specs.Limits.{most_names}
use Rattle.dt_model.specs.Names.{Name}
use Rattle.dt_model.specs.Path.{Path, is_bookkeeping}
use Rattle.dt_model.specs.Lists.{IsIn}
use Rattle.dt_model.specs.Merged.{Site}
use Rattle.dt_model.specs.Object.{Cell, fragment_names}
use Rattle.dt_model.specs.Tree.{Reading, Placed}
use Rattle.dt_model.specs.Valid.{IsValid}
use Rattle.dt_names.specs.declared.fault.FaultKind.{FaultKind}
use Rattle.dt_names.specs.declared.fault.FaultKind.TheVariants.{Limit, ReservedPlace}
use Rattle.dt_model.proofs.Tests.{in_left, in_right}
use Rattle.dt_overlay_model.specs.Walk.{Walked, site, landings, landed_on, walk_one, walk}
use Rattle.dt_overlay_model.proofs.Standing.{content_stands}
use Rattle.dt_overlay_model.proofs.Walks.{step_from, step_to}
use Rattle.dt_overlay_laws.specs.Landings.{MayLand, WhyNotLands, MayAllLand, IsStuck, target_in, AreSited, WhyNoSite, HasNoSite}
use Rattle.dt_overlay_laws.proofs.Landed.{plain_site}

-- ---- nodes

lands_cases : (k : FaultKind) (n : Placed) → WhyNotLands k n → ((k ≡ ReservedPlace) × (is_bookkeeping n.path ≡ true)) ⊎ ((k ≡ Limit) × (is_bookkeeping n.path ≡ false) × (most_names < length n.path))
lands_cases ReservedPlace n h = inl (refl, h)
lands_cases Limit n h = inr (refl, h.0, h.1)
lands_cases _ n h = absurd h

lands_not : (k : FaultKind) (n : Placed) → WhyNotLands k n → MayLand n → ⊥
lands_not k n h may = elim (lands_cases k n h) [
  | inl r ↦ true≢false (sym r.1 ∙ may.plain)
  | inr d ↦ let low = may.shallow in let deep = d.2 in omega (arith, low, deep)
]

lands_one : (k k' : FaultKind) (n : Placed) → WhyNotLands k n → WhyNotLands k' n → k ≡ k'
lands_one k k' n h h' = elim (lands_cases k n h) [
  | inl r ↦ elim (lands_cases k' n h') [ inl r' ↦ r.0 ∙ sym r'.0 | inr d' ↦ absurd (true≢false (sym r.1 ∙ d'.1)) ]
  | inr d ↦ elim (lands_cases k' n h') [ inl r' ↦ absurd (true≢false (sym r'.1 ∙ d.1)) | inr d' ↦ d.0 ∙ sym d'.0 ]
]

stuck_not : (k : FaultKind) (ns : List Placed) → IsStuck k ns → MayAllLand ns → ⊥
stuck_not k [] h all = h
stuck_not k (n ∷ ns) (inl why) all = lands_not k n why all.0
stuck_not k (n ∷ ns) (inr h) all = stuck_not k ns h.1 all.1

stuck_one : (k k' : FaultKind) (ns : List Placed) → IsStuck k ns → IsStuck k' ns → k ≡ k'
stuck_one k k' [] h h' = absurd h
stuck_one k k' (n ∷ ns) (inl why) (inl why') = lands_one k k' n why why'
stuck_one k k' (n ∷ ns) (inl why) (inr h') = absurd (lands_not k n why h'.0)
stuck_one k k' (n ∷ ns) (inr h) (inl why') = absurd (lands_not k' n why' h.0)
stuck_one k k' (n ∷ ns) (inr h) (inr h') = stuck_one k k' ns h.1 h'.1

-- of nodes that land on no bookkeeping node the first that may not is too deep
pub record IsDeep (k : FaultKind) (ns : List Placed) : Type 0 where
  pub limit : k ≡ Limit
  pub node : Placed
  pub there : IsIn node ns
  pub deep : most_names < length node.path

pub stuck_deep : (k : FaultKind) (ns : List Placed) → IsStuck k ns → ((n : Placed) → IsIn n ns → is_bookkeeping n.path ≡ false) → IsDeep k ns
stuck_deep k [] h plain = absurd h
stuck_deep k (n ∷ ns) (inl why) plain = elim (lands_cases k n why) [
  | inl r ↦ absurd (true≢false (sym r.1 ∙ plain n (inl refl)))
  | inr d ↦ record { limit = d.0; node = n; there = inl refl; deep = d.2 }
]
stuck_deep k (n ∷ ns) (inr h) plain =
    let w = stuck_deep k ns h.1 (λ x i. plain x (inr i)) in
    record { limit = w.limit; node = w.node; there = inr w.there; deep = w.deep }

-- ---- fragments

module _ (base object : Reading) (fixups : List (Name × Cell)) where
  one_target : (w : Walked) (f : Name) (q q' : Path) → target_in base object fixups w f ≡ Some q → target_in base object fixups w f ≡ Some q' → q ≡ q'
  one_target w f q q' e e' = let z : Some q ≡ Some q' = sym e ∙ e' in cc

  some_target : (w : Walked) (f : Name) (q : Path) → target_in base object fixups w f ≡ None → target_in base object fixups w f ≡ Some q → ⊥
  some_target w f q e e' = let z : None ≡ Some q = sym e ∙ e' in cc

  site_not : (k : FaultKind) (w : Walked) (f : Name) (q : Path) → WhyNoSite k base object fixups w f → target_in base object fixups w f ≡ Some q → MayAllLand (landings object (site f q)) → ⊥
  site_not k w f q (inl n) e all = some_target w f q n.1 e
  site_not k w f q (inr s) e all = stuck_not k (landings object (site f q)) (subst (λ z. IsStuck k (landings object (site f z))) (one_target w f s.0 q s.1 e) s.2) all

  site_one : (k k' : FaultKind) (w : Walked) (f : Name) → WhyNoSite k base object fixups w f → WhyNoSite k' base object fixups w f → k ≡ k'
  site_one k k' w f (inl n) (inl n') = n.0 ∙ sym n'.0
  site_one k k' w f (inl n) (inr s') = absurd (some_target w f s'.0 n.1 s'.1)
  site_one k k' w f (inr s) (inl n') = absurd (some_target w f s.0 n'.1 s.1)
  site_one k k' w f (inr s) (inr s') =
      stuck_one k k' (landings object (site f s'.0)) (subst (λ z. IsStuck k (landings object (site f z))) (one_target w f s.0 s'.0 s.1 s'.1) s.2) s'.2

  -- no fragments have sites and one of them none
  pub none_not : (k : FaultKind) (fs : List Name) (w end : Walked) → HasNoSite k base object fixups w fs → AreSited base object fixups w fs end → ⊥
  none_not k [] w end h all = h
  none_not k (f ∷ fs) w end (inl why) all = site_not k w f all.0 why all.1 all.2
  none_not k (f ∷ fs) w end (inr h) all =
      none_not k fs (landed_on base object w f all.0) end (subst (λ q. HasNoSite k base object fixups (landed_on base object w f q) fs) (one_target w f h.0 all.0 h.1 all.1) h.3) all.3

  -- the first that has none has none for one reason
  pub none_one : (k k' : FaultKind) (fs : List Name) (w : Walked) → HasNoSite k base object fixups w fs → HasNoSite k' base object fixups w fs → k ≡ k'
  none_one k k' [] w h h' = absurd h
  none_one k k' (f ∷ fs) w (inl why) (inl why') = site_one k k' w f why why'
  none_one k k' (f ∷ fs) w (inl why) (inr h') = absurd (site_not k w f h'.0 why h'.1 h'.2)
  none_one k k' (f ∷ fs) w (inr h) (inl why') = absurd (site_not k' w f h.0 why' h.1 h.2)
  none_one k k' (f ∷ fs) w (inr h) (inr h') =
      none_one k k' fs (landed_on base object w f h'.0) (subst (λ q. HasNoSite k base object fixups (landed_on base object w f q) fs) (one_target w f h.0 h'.0 h.1 h'.1) h.3) h'.3

  -- ---- beside the walk

  -- sites stay where they are
  pub walk_keeps : (fs : List Name) (w end : Walked) → walk base object fixups w fs ≡ Some end → (more : List Site) × (end.sites ≡ w.sites ++ more)
  walk_keeps [] w end h = ([], (let z : ◌≡◌ {A = Option Walked} (Some w) (Some end) = h in let is : w ≡ end = cc in ap (λ (v : Walked). v.sites) (sym is)) ∙ nothing_behind w.sites)
    where
      nothing_behind : (xs : List Site) → xs ≡ xs ++ []
      nothing_behind [] = refl
      nothing_behind (x ∷ xs) = ap (λ z. x ∷ z) (nothing_behind xs)
  walk_keeps (f ∷ fs) w end h = step (λ next k. walk_keeps fs next end k) (walk_one base object fixups w f) refl h
    where
      step : ((next : Walked) → walk base object fixups next fs ≡ Some end → (more : List Site) × (end.sites ≡ next.sites ++ more))
          → (y : Option Walked) → walk_one base object fixups w f ≡ y → option_and_then (λ next. walk base object fixups next fs) y ≡ Some end → (more : List Site) × (end.sites ≡ w.sites ++ more)
      step rec None e k = absurd (let z : ◌≡◌ {A = Option Walked} None (Some end) = k in cc)
      step rec (Some next) e k =
          let one = step_from base object fixups w f next e in
          let rest = rec next k in
          (site f one.at ∷ rest.0, rest.1 ∙ ap (λ (z : Walked). z.sites ++ rest.0) one.is ∙ append_assoc w.sites (site f one.at ∷ []) rest.0)

  module _ (valid : IsValid object) where
    -- fragments that have sites are walked, and all that they bring may land
    pub sited_walks : (fs : List Name) (w end : Walked) → ((f : Name) → IsIn f fs → IsIn f (fragment_names object.children)) → AreSited base object fixups w fs end
        → ((x : Site) → IsIn x w.sites → MayAllLand (landings object x)) → (walk base object fixups w fs ≡ Some end) × ((x : Site) → IsIn x end.sites → MayAllLand (landings object x))
    sited_walks [] w end of h all = (ap Some (sym h), λ x i. all x (subst (λ (z : Walked). IsIn x z.sites) h i))
    sited_walks (f ∷ fs) w end of h all =
        let plain = plain_site object f h.0 (content_stands object f valid (of f (inl refl))) h.2 in
        let rest = sited_walks fs (landed_on base object w f h.0) end (λ g i. of g (inr i)) h.3 (λ x i. more x (last_in x i)) in
        (ap (option_and_then (λ next. walk base object fixups next fs)) (step_to base object fixups w f h.0 h.1 plain) ∙ rest.0, rest.1)
      where
        last_in : (x : Site) → IsIn x (w.sites ++ site f h.0 ∷ []) → IsIn x w.sites ⊎ (x ≡ site f h.0)
        last_in x i = from w.sites i
          where
            from : (xs : List Site) → IsIn x (xs ++ site f h.0 ∷ []) → IsIn x xs ⊎ (x ≡ site f h.0)
            from [] (inl same) = inr same
            from [] (inr i) = absurd i
            from (y ∷ xs) (inl same) = inl (inl same)
            from (y ∷ xs) (inr i) = elim (from xs i) [ inl j ↦ inl (inr j) | inr e ↦ inr e ]

        more : (x : Site) → IsIn x w.sites ⊎ (x ≡ site f h.0) → MayAllLand (landings object x)
        more x (inl i) = all x i
        more x (inr same) = subst (λ z. MayAllLand (landings object z)) (sym same) h.2

    -- where the walk comes to an end and nothing lands on a bookkeeping node, the first fragment without a site brings what is too deep
    pub record IsTooDeep (k : FaultKind) (end : Walked) : Type 0 where
      pub limit : k ≡ Limit
      pub site : Site
      pub node : Placed
      pub sited : IsIn site end.sites
      pub there : IsIn node (landings object site)
      pub deep : most_names < length node.path

    pub none_deep : (k : FaultKind) (fs : List Name) (w end : Walked) → HasNoSite k base object fixups w fs → walk base object fixups w fs ≡ Some end
        → ((x : Site) (n : Placed) → IsIn x end.sites → IsIn n (landings object x) → is_bookkeeping n.path ≡ false) → IsTooDeep k end
    none_deep k [] w end h e plain = absurd h
    none_deep k (f ∷ fs) w end h e plain = step (λ next k' j. none_deep k fs next end k' j plain) (walk_one base object fixups w f) refl e h
      where
        step : ((next : Walked) → HasNoSite k base object fixups next fs → walk base object fixups next fs ≡ Some end → IsTooDeep k end)
            → (y : Option Walked) → walk_one base object fixups w f ≡ y → option_and_then (λ next. walk base object fixups next fs) y ≡ Some end → HasNoSite k base object fixups w (f ∷ fs) → IsTooDeep k end
        step rec None a j h = absurd (let z : ◌≡◌ {A = Option Walked} None (Some end) = j in cc)
        step rec (Some next) a j h = by h
          where
            at : Path
            at = (step_from base object fixups w f next a).at

            here : target_in base object fixups w f ≡ Some (step_from base object fixups w f next a).at
            here = (step_from base object fixups w f next a).named

            in_end : IsIn (site f (step_from base object fixups w f next a).at) end.sites
            in_end =
                let one = step_from base object fixups w f next a in
                let kept = walk_keeps fs next end j in
                subst (IsIn (site f one.at)) (sym (kept.1 ∙ ap (λ (z : Walked). z.sites ++ kept.0) one.is))
                (in_left (site f one.at) (w.sites ++ site f one.at ∷ []) kept.0 (in_right (site f one.at) w.sites (site f one.at ∷ []) (inl refl)))

            by : HasNoSite k base object fixups w (f ∷ fs) → IsTooDeep k end
            by (inl (inl n)) = absurd (some_target w f (step_from base object fixups w f next a).at n.1 here)
            by (inl (inr s)) =
                let one = step_from base object fixups w f next a in
                let stuck : IsStuck k (landings object (site f one.at)) = subst (λ z. IsStuck k (landings object (site f z))) (one_target w f s.0 one.at s.1 here) s.2 in
                let deep = stuck_deep k (landings object (site f one.at)) stuck (λ n i. plain (site f one.at) n in_end i) in
                record { limit = deep.limit; site = site f one.at; node = deep.node; sited = in_end; there = deep.there; deep = deep.deep }
            by (inr s) =
                let one = step_from base object fixups w f next a in
                let same : landed_on base object w f s.0 ≡ next = ap (landed_on base object w f) (one_target w f s.0 one.at s.1 here) ∙ sym one.is in
                rec next (subst (λ z. HasNoSite k base object fixups z fs) same s.3) j
