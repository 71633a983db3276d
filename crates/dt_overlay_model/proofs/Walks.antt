-- What a walk over an object's fragments tells.
use Rattle.std.proofs.Common.{◌≡◌, Bool, true, false, List, [], ◌∷◌, ◌++◌, codes, refl, sym, ap, subst, ◌∙◌, ◌⊎◌, inl, inr, Option, Some, None, append_assoc}
use Rattle.std.specs.Prelude.{is_some, option_and_then, if◌then◌else◌}
use Rattle.dt_model.specs.Names.{Name}
use Rattle.dt_model.specs.Path.{Path, is_bookkeeping}
use Rattle.dt_model.specs.Lists.{IsIn}
use Rattle.dt_model.specs.Overlay.{content}
use Rattle.dt_model.specs.Merged.{Site, landing}
use Rattle.dt_model.specs.Object.{Cell, fragment_names}
use Rattle.dt_model.specs.Numbers.{new_paths}
use Rattle.dt_model.specs.Tree.{Reading, Placed, value_in}
use Rattle.dt_model.specs.Valid.{AreDistinct, IsValid}
use Rattle.dt_model.proofs.Tests.{in_right}
use Rattle.dt_model.proofs.Distinct.{distinct_left}
use Rattle.dt_model_laws.proofs.Placed.{site_names}
use Rattle.dt_overlay_model.specs.Walk.{Walked, nothing_walked, number_there, has_phandle, target_of, site, landings, landed_on, if_plain, walk_one, walk}
use Rattle.dt_overlay_model.proofs.Places.{AreGiven, places, all_placed, places_kept, still_some}
use Rattle.dt_overlay_model.proofs.Brought.{fragments_distinct, lands_below, landing_more, landing_is_new}

-- a fragment's target is a node of the tree so far, and what it brings has landed there
pub record IsStep (base object : Reading) (fixups : List (Name × Cell)) (w : Walked) (f : Name) (next : Walked) : Type 0 where
  pub at : Path
  pub named : target_of base object fixups w f (value_in object (f ∷ []) (codes "target")) ≡ Some at
  pub plain : is_bookkeeping at ≡ false
  pub is : next ≡ landed_on base object w f at

pub step_from : (base object : Reading) (fixups : List (Name × Cell)) (w : Walked) (f : Name) (next : Walked) → walk_one base object fixups w f ≡ Some next → IsStep base object fixups w f next
step_from base object fixups w f next h = step (target_of base object fixups w f (value_in object (f ∷ []) (codes "target"))) refl h
  where
    step : (y : Option Path) → target_of base object fixups w f (value_in object (f ∷ []) (codes "target")) ≡ y → option_and_then (if_plain base object w f) y ≡ Some next → IsStep base object fixups w f next
    step None e k = absurd (let z : None ≡ Some next = k in cc)
    step (Some q) e k = inner (is_bookkeeping q) refl k
      where
        inner : (b : Bool) → is_bookkeeping q ≡ b → (if b then None else Some (landed_on base object w f q)) ≡ Some next → IsStep base object fixups w f next
        inner true book j = absurd (let z : ◌≡◌ {A = Option Walked} None (Some next) = j in cc)
        inner false plain j = record { at = q; named = e; plain = plain; is = let z : ◌≡◌ {A = Option Walked} (Some (landed_on base object w f q)) (Some next) = j in cc }

pub step_to : (base object : Reading) (fixups : List (Name × Cell)) (w : Walked) (f : Name) (q : Path) → target_of base object fixups w f (value_in object (f ∷ []) (codes "target")) ≡ Some q → is_bookkeeping q ≡ false
    → walk_one base object fixups w f ≡ Some (landed_on base object w f q)
step_to base object fixups w f q named plain =
    ap (option_and_then (if_plain base object w f)) named ∙ ap (λ b. if b then None else Some (landed_on base object w f q)) plain

-- ---- what holds behind some fragments

pub record IsWalked (base object : Reading) (done : List Name) (w : Walked) : Type 0 where
  pub given : AreGiven base w.given
  pub named : site_names w.sites ≡ done
  pub plain : (x : Site) → IsIn x w.sites → is_bookkeeping x.at ≡ false
  pub of : (q : Path) → IsIn q (places w.given) → (p : Path) × IsIn p (new_paths object) × (landing w.sites p ≡ Some q)
  pub numbered : (x : Site) (n : Placed) → IsIn x w.sites → IsIn n (landings object x) → has_phandle n ≡ true → is_some (number_there base w.given n.path) ≡ true

pub nothing_is_walked : (base object : Reading) → IsWalked base object [] nothing_walked
nothing_is_walked base object = record {
  given = record { numbered = tt; distinct = tt; bare = λ q i. absurd i };
  named = refl;
  plain = λ x i. absurd i;
  of = λ q i. absurd i;
  numbered = λ x n i. absurd i;
}

pub names_last : (sites : List Site) (x : Site) → site_names (sites ++ x ∷ []) ≡ site_names sites ++ x.fragment ∷ []
names_last [] x = refl
names_last (y ∷ sites) x = ap (λ z. y.fragment ∷ z) (names_last sites x)

last_in : {X : Type 0} (x y : X) (xs : List X) → IsIn x (xs ++ y ∷ []) → IsIn x xs ⊎ (x ≡ y)
last_in x y [] (inl same) = inr same
last_in x y [] (inr i) = absurd i
last_in x y (z ∷ xs) (inl same) = inl (inl same)
last_in x y (z ∷ xs) (inr i) = elim (last_in x y xs i) [ inl j ↦ inl (inr j) | inr e ↦ inr e ]

module _ (base object : Reading) (fixups : List (Name × Cell)) (valid : IsValid object) where
  -- one fragment more
  pub walked_more : (done later : List Name) (w : Walked) (f : Name) (q : Path) → IsWalked base object done w → done ++ f ∷ later ≡ fragment_names object.children → is_bookkeeping q ≡ false
      → IsWalked base object (done ++ f ∷ []) (landed_on base object w f q)
  walked_more done later w f q h all plain =
      let here = all_placed base (landings object (site f q)) w.given h.given in
      record {
        given = here.are;
        named = names_last w.sites (site f q) ∙ ap (λ z. z ++ f ∷ []) h.named;
        plain = λ x i. elim (last_in x (site f q) w.sites i) [ inl j ↦ h.plain x j | inr same ↦ ap (λ (z : Site). is_bookkeeping z.at) same ∙ plain ];
        of = λ r i. elim (here.only r i) [
          | inl j ↦ let v = h.of r j in (v.0, v.1, landing_more w.sites (site f q ∷ []) v.0 r v.2)
          | inr v ↦ new v.0 v.1 v.2 r v.3
        ];
        numbered = λ x n i k has. elim (last_in x (site f q) w.sites i) [
          | inl j ↦ still_some base w.given (landed_on base object w f q).given n.path (places_kept base (landings object (site f q)) w.given) (h.numbered x n j k has)
          | inr same ↦ here.now n (subst (λ z. IsIn n (landings object z)) same k) has
        ];
      }
    where
      in_all : IsIn f (fragment_names object.children)
      in_all = subst (IsIn f) all (in_right f done (f ∷ later) (inl refl))

      apart : AreDistinct (site_names (w.sites ++ site f q ∷ []))
      apart =
          let d : AreDistinct (done ++ f ∷ later) = subst AreDistinct (sym all) (fragments_distinct object.children valid.siblings) in
          let e : AreDistinct ((done ++ f ∷ []) ++ later) = subst AreDistinct (sym (append_assoc done (f ∷ []) later)) d in
          subst AreDistinct (sym (names_last w.sites (site f q) ∙ ap (λ z. z ++ f ∷ []) h.named)) (distinct_left (done ++ f ∷ []) later e)

      new : (n : Placed) → IsIn n (landings object (site f q)) → has_phandle n ≡ true → (r : Path) → n.path ≡ r
          → (p : Path) × IsIn p (new_paths object) × (landing (w.sites ++ site f q ∷ []) p ≡ Some r)
      new n i has r same =
          let v = landing_is_new object valid f q n in_all i has in
          (content f ++ v.0, v.2, lands_below (w.sites ++ site f q ∷ []) (site f q) v.0 apart (in_right (site f q) w.sites (site f q ∷ []) (inl refl)) ∙ ap Some (sym v.1 ∙ same))

  walked_from : (fs done : List Name) (w end : Walked) → IsWalked base object done w → done ++ fs ≡ fragment_names object.children → walk base object fixups w fs ≡ Some end
      → IsWalked base object (done ++ fs) end
  walked_from [] done w end h all k =
      let same : w ≡ end = let z : ◌≡◌ {A = Option Walked} (Some w) (Some end) = k in cc in
      subst (IsWalked base object (done ++ [])) same (subst (λ z. IsWalked base object z w) (nothing_behind done) h)
    where
      nothing_behind : (xs : List Name) → xs ≡ xs ++ []
      nothing_behind [] = refl
      nothing_behind (x ∷ xs) = ap (λ z. x ∷ z) (nothing_behind xs)
  walked_from (f ∷ fs) done w end h all k = step (λ next a b c. walked_from fs (done ++ f ∷ []) next end a b c) (walk_one base object fixups w f) refl k
    where
      step : ((next : Walked) → IsWalked base object (done ++ f ∷ []) next → (done ++ f ∷ []) ++ fs ≡ fragment_names object.children → walk base object fixups next fs ≡ Some end
          → IsWalked base object ((done ++ f ∷ []) ++ fs) end)
          → (y : Option Walked) → walk_one base object fixups w f ≡ y → option_and_then (λ next. walk base object fixups next fs) y ≡ Some end → IsWalked base object (done ++ f ∷ fs) end
      step more None e k = absurd (let z : ◌≡◌ {A = Option Walked} None (Some end) = k in cc)
      step more (Some next) e k =
          let one = step_from base object fixups w f next e in
          let here : IsWalked base object (done ++ f ∷ []) next = subst (IsWalked base object (done ++ f ∷ [])) (sym one.is) (walked_more done fs w f one.at h all one.plain) in
          subst (λ z. IsWalked base object z end) (append_assoc done (f ∷ []) fs)
          (more next here (append_assoc done (f ∷ []) fs ∙ all) k)

  -- behind all fragments
  pub walked : (end : Walked) → walk base object fixups nothing_walked (fragment_names object.children) ≡ Some end → IsWalked base object (fragment_names object.children) end
  walked end k = walked_from (fragment_names object.children) [] nothing_walked end (nothing_is_walked base object) refl k
