-- The contents of fragments, and the nodes that these bring.
use Rattle.std.proofs.Common.{◌≡◌, ◌≢◌, ℕ, zero, suc, ◌+◌, ◌<◌, Bool, true, false, cond, List, [], ◌∷◌, ◌++◌, length, Option, Some, None, ◌⊎◌, inl, inr, refl, sym, ap, subst, ◌∙◌, true≢false, append-nil, arith}
use Rattle.std.specs.Prelude.{is_some, nat_eq, slice_get, if◌then◌else◌}
use Rattle.std.specs.Str.{bytes_eq}
use Rattle.std.proofs.lemmas.Bool.{cases_lt, eqb-true, eq-eqb}
use Rattle.dt_model.specs.Names.{Name}
use Rattle.dt_model.specs.Numbers.{is_brought}
use Rattle.dt_model.specs.Overlay.{content}
use Rattle.dt_model.specs.Path.{Path, below}
use Rattle.dt_model.specs.Valid.{AreDistinct}
use Rattle.dt_model.proofs.Tests.{any_from, any_here, bytes_eq_true}
use Rattle.dt_model_laws.proofs.Lands.{below-append}
use Rattle.dt_resolve_model.specs.Above.{front}
use Rattle.dt_overlay_object.specs.declared.kept.ObjectFragment.{ObjectFragment}
use Rattle.dt_overlay_base.specs.NodeNumbers.{at_node, PutsAt}
use Rattle.dt_overlay_object.specs.Plans.{AreContents, AreFragmentsOf, IsFragmentOf}
use Rattle.dt_overlay_object.proofs.Elements.{get_in, in_get, one_index}
use Rattle.dt_trees.specs.Placed.{PlacedTree, place_of, path_at, last_name, HasPlacesApart, IsNode}
use Rattle.dt_trees.specs.Views.{IsAbove}
use Rattle.dt_trees.proofs.NodePlaces.{path_is}

-- ---- below a path

-- what is below a path has below it what it is above
below_further : (c p : Path) (x : Name) → is_some (below c p) ≡ true → is_some (below c (p ++ x ∷ [])) ≡ true
below_further [] p x h = refl
below_further (y ∷ c) [] x h = absurd (true≢false (sym h))
below_further (y ∷ c) (z ∷ p) x h = step (bytes_eq y z) (below_further c p x) h
  where
    step : (b : Bool) → (is_some (below c p) ≡ true → is_some (below c (p ++ x ∷ [])) ≡ true) → is_some (if b then below c p else None) ≡ true → is_some (if b then below c (p ++ x ∷ []) else None) ≡ true
    step true more k = more k
    step false more k = absurd (true≢false (sym k))

-- what is below a path is the path, or the node above it is below that
below_front : (c p : Path) (x : Name) → is_some (below c (p ++ x ∷ [])) ≡ true → (c ≡ p ++ x ∷ []) ⊎ (is_some (below c p) ≡ true)
below_front [] p x h = inr refl
below_front (y ∷ []) [] x h = step (bytes_eq y x) refl h
  where
    step : (b : Bool) → bytes_eq y x ≡ b → is_some (if b then below [] [] else None) ≡ true → (y ∷ [] ≡ x ∷ []) ⊎ (false ≡ true)
    step true e k = inl (ap (λ (n : Name). n ∷ []) (bytes_eq_true y x e))
    step false e k = absurd (true≢false (sym k))
below_front (y ∷ z ∷ c) [] x h = step (bytes_eq y x) h
  where
    step : (b : Bool) → is_some (if b then below (z ∷ c) [] else None) ≡ true → (y ∷ z ∷ c ≡ x ∷ []) ⊎ (false ≡ true)
    step true k = absurd (true≢false (sym k))
    step false k = absurd (true≢false (sym k))
below_front (y ∷ c) (z ∷ p) x h = step (bytes_eq y z) refl (below_front c p x) h
  where
    step : (b : Bool) → bytes_eq y z ≡ b → (is_some (below c (p ++ x ∷ [])) ≡ true → (c ≡ p ++ x ∷ []) ⊎ (is_some (below c p) ≡ true)) → is_some (if b then below c (p ++ x ∷ []) else None) ≡ true
        → (y ∷ c ≡ z ∷ (p ++ x ∷ [])) ⊎ (is_some (if b then below c p else None) ≡ true)
    step true e more k = elim (more k) [
      | inl same ↦ inl (λ i. bytes_eq_true y z e i ∷ same i)
      | inr inside ↦ inr inside
    ]
    step false e more k = absurd (true≢false (sym k))

-- a path that has a last name
pub one_more : (p : Path) → p ≢ [] → p ≡ front p ++ last_name p ∷ []
one_more [] some = absurd (some refl)
one_more (x ∷ []) some = refl
one_more (x ∷ y ∷ p) some = ap (λ (q : Path). x ∷ q) (one_more (y ∷ p) (λ e. absurd cc))

-- the path of a node is that of the one above it, and its name
pub path_above : (t : PlacedTree) (k above : ℕ) → IsAbove t k (Some above) → path_at t k ≡ path_at t above ++ last_name (path_at t k) ∷ []
path_above t k above up = one_more (path_at t k) up.2 ∙ ap (λ (q : Path). q ++ last_name (path_at t k) ∷ []) (sym up.1)

-- ---- which fragment brings a node

module _ (t : PlacedTree) (apart : HasPlacesApart t) (names : List Name) (entries : List (ℕ × ℕ)) (contents : AreContents t names entries) (k : ℕ) (is : IsNode t k) where
  -- the one whose content it is
  pub content_is : (i : ℕ) → at_node entries k ≡ Some i → (f : Name) × (slice_get names i ≡ Some f) × (path_at t k ≡ content f)
  content_is i e = let w = contents.has k i e in (w.0, w.1, path_is t apart (content w.0) k w.2)

  pub brought_here : is_some (at_node entries k) ≡ true → is_brought names (path_at t k) ≡ true
  brought_here some = by (at_node entries k) refl some
    where
      by : (o : Option ℕ) → at_node entries k ≡ o → is_some o ≡ true → is_brought names (path_at t k) ≡ true
      by None e h = absurd (true≢false (sym h))
      by (Some i) e h =
          let w = content_is i e in
          let inside : is_some (below (content w.0) (path_at t k)) ≡ true =
          ap is_some (ap (below (content w.0)) (w.2 ∙ sym (append-nil (content w.0))) ∙ below-append (content w.0) []) in
          any_here (λ f. is_some (below (content f) (path_at t k))) names w.0 (get_in names i w.0 w.1) inside

  -- no other's content is the node
  pub no_content : is_some (at_node entries k) ≡ false → (f : Name) (i : ℕ) → slice_get names i ≡ Some f → content f ≢ path_at t k
  no_content none f i named same =
      let found = contents.found f k i named (ap (place_of t) same ∙ is) in
      true≢false (sym (ap is_some found) ∙ none)

  -- the one that brings the node above it
  pub brought_above : (above : ℕ) → is_some (at_node entries k) ≡ false → IsAbove t k (Some above) → is_brought names (path_at t above) ≡ is_brought names (path_at t k)
  brought_above above none up = same_test (is_brought names (path_at t above)) (is_brought names (path_at t k)) down back
    where
      whole : path_at t k ≡ path_at t above ++ last_name (path_at t k) ∷ []
      whole = path_above t k above up

      same_test : (a b : Bool) → (a ≡ true → b ≡ true) → (b ≡ true → a ≡ true) → a ≡ b
      same_test true b f g = sym (f refl)
      same_test false true f g = g refl
      same_test false false f g = refl

      down : is_brought names (path_at t above) ≡ true → is_brought names (path_at t k) ≡ true
      down h =
          let w = any_from (λ f. is_some (below (content f) (path_at t above))) names h in
          any_here (λ f. is_some (below (content f) (path_at t k))) names w.0 w.1
          (ap (λ (q : Path). is_some (below (content w.0) q)) whole ∙ below_further (content w.0) (path_at t above) (last_name (path_at t k)) w.2)

      back : is_brought names (path_at t k) ≡ true → is_brought names (path_at t above) ≡ true
      back h =
          let w = any_from (λ f. is_some (below (content f) (path_at t k))) names h in
          let i = in_get names w.0 w.1 in
          elim (below_front (content w.0) (path_at t above) (last_name (path_at t k)) (ap (λ (q : Path). is_some (below (content w.0) q)) (sym whole) ∙ w.2)) [
            | inl own ↦ absurd (no_content none w.0 i.0 i.1 (own ∙ sym whole))
            | inr inside ↦ any_here (λ f. is_some (below (content f) (path_at t above))) names w.0 w.1 inside
          ]

-- none brings the root
pub root_not_brought : (names : List Name) → is_brought names [] ≡ false
root_not_brought [] = refl
root_not_brought (f ∷ names) = root_not_brought names

-- ---- what is kept of fragments

pub fragment_at : (t : PlacedTree) (xs : List ObjectFragment) (fs : List Name) (i : ℕ) (x : ObjectFragment) → AreFragmentsOf t xs fs → slice_get xs i ≡ Some x → (f : Name) × (slice_get fs i ≡ Some f) × IsFragmentOf t x f
fragment_at t [] fs i x h e = absurd cc
fragment_at t (y ∷ xs) [] i x h e = absurd h
fragment_at t (y ∷ xs) (f ∷ fs) zero x h e = let same : y ≡ x = cc in (f, refl, subst (λ (z : ObjectFragment). IsFragmentOf t z f) same h.0)
fragment_at t (y ∷ xs) (f ∷ fs) (suc i) x h e = fragment_at t xs fs i x h.1 e

pub name_at : (t : PlacedTree) (xs : List ObjectFragment) (fs : List Name) (i : ℕ) (f : Name) → AreFragmentsOf t xs fs → slice_get fs i ≡ Some f → (x : ObjectFragment) × (slice_get xs i ≡ Some x) × IsFragmentOf t x f
name_at t xs [] i f h e = absurd cc
name_at t [] (g ∷ fs) i f h e = absurd h
name_at t (y ∷ xs) (g ∷ fs) zero f h e = let same : g ≡ f = cc in (y, refl, subst (IsFragmentOf t y) same h.0)
name_at t (y ∷ xs) (g ∷ fs) (suc i) f h e = name_at t xs fs i f h.1 e

-- the contents up to an index are in the table
pub record AreSoFar (xs : List ObjectFragment) (i : ℕ) (entries : List (ℕ × ℕ)) : Type 0 where
  pub has : (k j : ℕ) → at_node entries k ≡ Some j → (x : ObjectFragment) × (slice_get xs j ≡ Some x) × (x.content ≡ k)
  pub found : (j : ℕ) (x : ObjectFragment) → j < i → slice_get xs j ≡ Some x → at_node entries x.content ≡ Some j

pub so_far_begun : (xs : List ObjectFragment) (entries : List (ℕ × ℕ)) → entries ≡ [] → AreSoFar xs 0 entries
so_far_begun xs entries none = record {
  has = λ k j e. absurd (let z : None ≡ Some j = ap (λ (es : List (ℕ × ℕ)). at_node es k) (sym none) ∙ e in cc);
  found = λ j x lt e. absurd (omega (arith, lt));
}

module _ (t : PlacedTree) (apart : HasPlacesApart t) (xs : List ObjectFragment) (names : List Name) (listed : AreFragmentsOf t xs names) (distinct : AreDistinct names) where
  -- two contents are of one fragment
  one_content : (i j : ℕ) (x y : ObjectFragment) → slice_get xs i ≡ Some x → slice_get xs j ≡ Some y → x.content ≡ y.content → i ≡ j
  one_content i j x y e f same =
      let a = fragment_at t xs names i x listed e in
      let b = fragment_at t xs names j y listed f in
      let path : content a.0 ≡ content b.0 = apart (content a.0) (content b.0) x.content a.2.content (b.2.content ∙ ap (λ (n : ℕ). Some n) (sym same)) in
      let name : a.0 ≡ b.0 = cc in
      one_index names i j a.0 distinct a.1 (b.1 ∙ ap (λ (n : Name). Some n) (sym name))

  pub so_far_more : (i : ℕ) (x : ObjectFragment) (old new : List (ℕ × ℕ)) → slice_get xs i ≡ Some x → PutsAt old new x.content i → AreSoFar xs i old → AreSoFar xs (i + 1) new
  so_far_more i x old new here puts so_far = record { has = has; found = found }
    where
      has : (k j : ℕ) → at_node new k ≡ Some j → (y : ObjectFragment) × (slice_get xs j ≡ Some y) × (y.content ≡ k)
      has k j e = by (nat_eq x.content k) refl (sym (puts k) ∙ e)
        where
          by : (b : Bool) → nat_eq x.content k ≡ b → cond b (Some i) (at_node old k) ≡ Some j → (y : ObjectFragment) × (slice_get xs j ≡ Some y) × (y.content ≡ k)
          by true same f = let index : i ≡ j = cc in (x, subst (λ (n : ℕ). slice_get xs n ≡ Some x) index here, eqb-true x.content k same)
          by false other f = so_far.has k j f

      found : (j : ℕ) (y : ObjectFragment) → j < i + 1 → slice_get xs j ≡ Some y → at_node new y.content ≡ Some j
      found j y lt e = puts y.content ∙ elim (cases_lt j i) [
        | inl before ↦ other before (nat_eq x.content y.content) refl
        | inr past ↦
            let index : j ≡ i = omega (arith, lt, past) in
            let both : Some y ≡ Some x = sym e ∙ ap (slice_get xs) index ∙ here in
            let same : y ≡ x = cc in
            ap (λ (b : Bool). cond b (Some i) (at_node old y.content)) (eq-eqb x.content y.content (ap (λ (z : ObjectFragment). z.content) (sym same))) ∙ ap (λ (n : ℕ). Some n) (sym index)
      ]
        where
          other : j < i → (b : Bool) → nat_eq x.content y.content ≡ b → cond b (Some i) (at_node old y.content) ≡ Some j
          other before true same = let index = one_content i j x y here e (eqb-true x.content y.content same) in absurd (omega (arith, before, index))
          other before false differ = so_far.found j y before e

  pub all_contents : (entries : List (ℕ × ℕ)) (i : ℕ) → length xs ≡ i → AreSoFar xs i entries → AreContents t names entries
  all_contents entries i all so_far = record {
    has = λ k j e.
        let w = so_far.has k j e in
        let f = fragment_at t xs names j w.0 listed w.1 in
        (f.0, f.1, f.2.content ∙ ap (λ (n : ℕ). Some n) w.2);
    found = λ f k j named at.
        let w = name_at t xs names j f listed named in
        let one : Some w.0.content ≡ Some k = sym w.2.content ∙ at in
        let same : w.0.content ≡ k = cc in
        ap (at_node entries) (sym same) ∙ so_far.found j w.0 (subst (λ (n : ℕ). j < n) all (get_within xs j w.0 w.1)) w.1;
  }
    where
      get_within : (ys : List ObjectFragment) (j : ℕ) (y : ObjectFragment) → slice_get ys j ≡ Some y → j < length ys
      get_within [] j y e = absurd cc
      get_within (z ∷ ys) zero y e = omega arith
      get_within (z ∷ ys) (suc j) y e = let lt = get_within ys j y e in omega (arith, lt)
