-- The numbers that a walk gives: one for all nodes that land on one path, the base's where it has one there, else one that nobody has.
use Rattle.std.proofs.Common.{◌≡◌, ℕ, ◌≤◌, Bool, true, false, List, [], ◌∷◌, map, length, codes, refl, sym, ap, subst, ◌∙◌, ◌⊎◌, inl, inr, Option, Some, None, true≢false, arith}
use Rattle.std.specs.Prelude.{is_some, option_map, option_and_then, unwrap_or, if◌then◌else◌}
use Rattle.std.specs.Option.{option_or}
use Rattle.std.specs.Int.{w32, from_be_bytes}
use Rattle.std.proofs.lemmas.Nat.{from_be_bytes-to_be_bytes_4}
use Rattle.dt_model.specs.Names.{Name}
use Rattle.dt_model.specs.Path.{Path, path_eq, is_bookkeeping}
use Rattle.dt_model.specs.Lists.{IsIn}
use Rattle.dt_model.specs.Meaning.{cell, Meaning}
use Rattle.dt_model.specs.Overlay.{inside, Overlay, IsBrought}
use Rattle.dt_model.specs.Merged.{landing, IsDefined}
use Rattle.dt_model_laws.proofs.Joined.{IsJoined}
use Rattle.dt_model.specs.Object.{fragment_names}
use Rattle.dt_model.specs.Numbers.{numbers_of, new_paths, number_in}
use Rattle.dt_model.specs.Tree.{Reading, value_in}
use Rattle.dt_model.specs.Valid.{IsValid, IsWithinLimits}
use Rattle.dt_model.proofs.Tests.{path_eq_refl, path_eq_true}
use Rattle.dt_model_laws.specs.Applying.{AreOf}
use Rattle.dt_model_laws.proofs.Fresh.{number_is_free, own_number, number_low}
use Rattle.dt_model_laws.proofs.Numbered.{new_inside, inside_new, small_number, taken_all, few_taken, few_new}
use Rattle.dt_model_laws.proofs.Given.{base_phandle, phandle_of}
use Rattle.dt_model.proofs.Inside.{IsInside}
use Rattle.dt_model_laws.proofs.Placed.{lands_at}
use Rattle.dt_overlay_model.specs.Walk.{Walked, number_there, new_number, new_numbers}
use Rattle.dt_overlay_model.proofs.Counting.{no_more}
use Rattle.dt_overlay_model.proofs.Places.{places}
use Rattle.dt_overlay_model.proofs.Brought.{new_is_landing}
use Rattle.dt_overlay_model.proofs.Walks.{IsWalked}

-- ---- a list of paths with what each has

number_listed : (g : Path → ℕ) (paths : List Path) (p : Path) → IsIn p paths → number_in (map (λ (q : Path). (q, g q)) paths) p ≡ Some (g p)
number_listed g [] p i = absurd i
number_listed g (q ∷ paths) p i = step (path_eq q p) refl i (number_listed g paths p)
  where
    step : (b : Bool) → path_eq q p ≡ b → IsIn p (q ∷ paths) → (IsIn p paths → number_in (map (λ (q : Path). (q, g q)) paths) p ≡ Some (g p))
        → (if b then Some (g q) else number_in (map (λ (q : Path). (q, g q)) paths) p) ≡ Some (g p)
    step true e i more = ap (λ z. Some (g z)) (path_eq_true q p e)
    step false e (inl same) more = absurd (true≢false (sym (ap (path_eq q) same ∙ path_eq_refl q) ∙ e))
    step false e (inr j) more = more j

listed_number : (g : Path → ℕ) (paths : List Path) (p : Path) (n : ℕ) → number_in (map (λ (q : Path). (q, g q)) paths) p ≡ Some n → IsIn p paths × (n ≡ g p)
listed_number g [] p n h = absurd (let z : None ≡ Some n = h in cc)
listed_number g (q ∷ paths) p n h = step (path_eq q p) refl h (listed_number g paths p n)
  where
    step : (b : Bool) → path_eq q p ≡ b → (if b then Some (g q) else number_in (map (λ (q : Path). (q, g q)) paths) p) ≡ Some n
        → (number_in (map (λ (q : Path). (q, g q)) paths) p ≡ Some n → IsIn p paths × (n ≡ g p)) → IsIn p (q ∷ paths) × (n ≡ g p)
    step true e h more =
        let same : q ≡ p = path_eq_true q p e in
        let z : Some (g q) ≡ Some n = h in
        let is : n ≡ g q = cc in
        (inl (sym same), is ∙ ap g same)
    step false e h more = let v = more h in (inr v.0, v.1)

-- ---- where a place has a number

-- it is the base's, or it was given
pub there_cases : (base : Reading) (given : List (Path × ℕ)) (q : Path) (n : ℕ) → number_there base given q ≡ Some n
    → ((v : List ℕ) × (value_in base q (codes "phandle") ≡ Some v) × (n ≡ from_be_bytes w32 v)) ⊎ ((value_in base q (codes "phandle") ≡ None) × (number_in given q ≡ Some n))
there_cases base given q n h = step (value_in base q (codes "phandle")) h
  where
    step : (y : Option (List ℕ)) → option_or (option_map (from_be_bytes w32) y) (number_in given q) ≡ Some n
        → ((v : List ℕ) × (y ≡ Some v) × (n ≡ from_be_bytes w32 v)) ⊎ ((y ≡ None) × (number_in given q ≡ Some n))
    step None e = inr (refl, e)
    step (Some v) e = inl (v, refl, (let z : Some (from_be_bytes w32 v) ≡ Some n = e in cc))

some_number : (y : Option ℕ) → is_some y ≡ true → (n : ℕ) × (y ≡ Some n)
some_number None h = absurd (true≢false (sym h))
some_number (Some n) h = (n, refl)

-- behind a front of the fragments, no more places have a number than the object has nodes
pub few_walked : (base object : Reading) (done : List Name) (w : Walked) → IsWithinLimits object → IsWalked base object done w → length (places w.given) ≤ 65536
few_walked base object done w few h =
    let a = no_more (landing w.sites) (places w.given) (new_paths object) h.given.distinct h.of in
    let b = few_new object few in
    omega (arith, a, b)

module _ (base object : Reading) (valid : IsValid object) (few_base : IsWithinLimits base) (few_object : IsWithinLimits object) (w : Walked)
    (all : IsWalked base object (fragment_names object.children) w) where
  -- ---- what was given

  few_given : length (places w.given) ≤ 65536
  few_given = few_walked base object (fragment_names object.children) w few_object all

  pub given_range : (q : Path) (n : ℕ) → number_in w.given q ≡ Some n → (1 ≤ n) × (n ≤ 0xfffffffe)
  given_range q n e =
      let l = number_low (numbers_of base) (places w.given) w.given q n all.given.numbered e in
      let high = l.1 in
      let a = few_taken base few_base in
      let b = few_given in
      (l.0, omega (arith, high, a, b))

  -- no node of the base has it
  pub given_unused : (q r : Path) (n : ℕ) → number_in w.given q ≡ Some n → value_in base r (codes "phandle") ≡ Some (cell n) → ⊥
  given_unused q r n e v =
      true≢false (sym (taken_all base r n (given_range q n e).1 v) ∙ number_is_free (numbers_of base) (places w.given) w.given q n all.given.numbered e)

  pub given_own : (q r : Path) (n : ℕ) → number_in w.given q ≡ Some n → number_in w.given r ≡ Some n → q ≡ r
  given_own q r n e f = own_number (numbers_of base) (places w.given) w.given q r n all.given.numbered e f

  -- ---- a node's number is that of the place on which it lands

  number_of : Path → ℕ
  number_of p = unwrap_or (new_number base w p) 0

  -- the place has one
  placed_number : (p q : Path) → IsIn p (new_paths object) → landing w.sites p ≡ Some q → (n : ℕ) × (number_there base w.given q ≡ Some n)
  placed_number p q i l =
      let v = new_is_landing object valid w.sites p q i l in
      some_number (number_there base w.given q) (ap (λ r. is_some (number_there base w.given r)) (sym v.5) ∙ all.numbered v.0 v.1 v.2 v.3 v.4)

  its_number : (p q : Path) (n : ℕ) → landing w.sites p ≡ Some q → number_there base w.given q ≡ Some n → unwrap_or (new_number base w p) 0 ≡ n
  its_number p q n l e = ap (λ y. unwrap_or (option_and_then (number_there base w.given) y) 0) l ∙ ap (λ y. unwrap_or y 0) e

  pub number_given : (p q : Path) → IsIn p (new_paths object) → landing w.sites p ≡ Some q → (n : ℕ) × (number_there base w.given q ≡ Some n) × (number_in (new_numbers base object w) p ≡ Some n)
  number_given p q i l =
      let v = placed_number p q i l in
      (v.0, v.1, number_listed (λ r. unwrap_or (new_number base w r) 0) (new_paths object) p i ∙ ap Some (its_number p q v.0 l v.1))

  pub number_new : (p : Path) (n : ℕ) → number_in (new_numbers base object w) p ≡ Some n → IsIn p (new_paths object)
  number_new p n e = (listed_number (λ r. unwrap_or (new_number base w r) 0) (new_paths object) p n e).0

  pub number_is_there : (p q : Path) (n : ℕ) → number_in (new_numbers base object w) p ≡ Some n → landing w.sites p ≡ Some q → number_there base w.given q ≡ Some n
  number_is_there p q n e l =
      let v = listed_number (λ r. unwrap_or (new_number base w r) 0) (new_paths object) p n e in
      let k = placed_number p q v.0 l in
      k.1 ∙ ap Some (sym (its_number p q k.0 l k.1) ∙ sym v.1)

  -- ---- for an overlay that can be merged

  module _ (m : Meaning) (o : Overlay) (number local : Path → ℕ) (are : AreOf base object m o number local) (defined : IsDefined m o w.sites) where
    lands : (p : Path) → IsBrought o p → (q : Path) × (landing w.sites p ≡ Some q)
    lands p b = let v = lands_at m o [] o.fragments w.sites b.0 b.1 defined.placed b.2 in (v.0, ap (landing w.sites) b.3 ∙ v.1)

    inside_of : (p : Path) (n : ℕ) → number_in (new_numbers base object w) p ≡ Some n → IsInside o (inside p)
    inside_of p n e = new_inside object o local are.encoded are.overlay are.valid_object p (number_new p n e)

    plain_at : (p q : Path) → o.keyed p ≡ true → landing w.sites p ≡ Some q → is_bookkeeping q ≡ false
    plain_at p q k l = defined.plain p q (are.overlay.keyed_stand p k) l

    -- the node at a place is a keyed one of the base, or got its number
    data Got : Path → ℕ → Type 0 where
      kept : {q : Path} {n : ℕ} → m.keyed q ≡ true → n ≡ number q → Got q n
      given : {q : Path} {n : ℕ} → m.keyed q ≡ false → number_in w.given q ≡ Some n → Got q n

    base_number : (q : Path) → m.keyed q ≡ true → from_be_bytes w32 (cell (number q)) ≡ number q
    base_number q k = from_be_bytes-to_be_bytes_4 (number q) (small_number (number q) (are.represented.naming.high q k))

    got : (q : Path) (n : ℕ) → is_bookkeeping q ≡ false → number_there base w.given q ≡ Some n → Got q n
    got q n plain h = step (m.keyed q) refl (there_cases base w.given q n h)
      where
        step : (b : Bool) → m.keyed q ≡ b
            → ((v : List ℕ) × (value_in base q (codes "phandle") ≡ Some v) × (n ≡ from_be_bytes w32 v)) ⊎ ((value_in base q (codes "phandle") ≡ None) × (number_in w.given q ≡ Some n)) → Got q n
        step true k (inl v) =
            let z : Some v.0 ≡ Some (cell (number q)) = sym v.1 ∙ phandle_of base m number are.represented are.meaning are.plain q k in
            let is : v.0 ≡ cell (number q) = cc in
            kept k (v.2 ∙ ap (from_be_bytes w32) is ∙ base_number q k)
        step true k (inr v) = absurd (let z : None ≡ Some (cell (number q)) = sym v.0 ∙ phandle_of base m number are.represented are.meaning are.plain q k in cc)
        step false k (inl v) =
            absurd (let z : Some v.0 ≡ None = sym v.1 ∙ base_phandle base m number are.represented are.meaning are.plain q plain ∙ ap (λ b. if b then Some (cell (number q)) else None) k in cc)
        step false k (inr v) = given k v.1

    got_at : (p q : Path) (n : ℕ) → number_in (new_numbers base object w) p ≡ Some n → landing w.sites p ≡ Some q → Got q n
    got_at p q n e l = got q n (plain_at p q (inside_of p n e).0 l) (number_is_there p q n e l)

    taken : (q : Path) (n : ℕ) → m.keyed q ≡ true → n ≡ number q → value_in base q (codes "phandle") ≡ Some (cell n)
    taken q n k same = phandle_of base m number are.represented are.meaning are.plain q k ∙ ap (λ i. Some (cell i)) (sym same)

    in_range : (q : Path) (n : ℕ) → Got q n → (1 ≤ n) × (n ≤ 0xfffffffe)
    in_range q n (kept k same) = (subst (λ i. 1 ≤ i) (sym same) (are.represented.naming.low q k), subst (λ i. i ≤ 0xfffffffe) (sym same) (are.represented.naming.high q k))
    in_range q n (given k e) = given_range q n e

    own_place : (q r : Path) (n : ℕ) → Got q n → Got r n → q ≡ r
    own_place q r n (kept k same) (kept k' same') = are.represented.naming.own q r k k' (sym same ∙ same')
    own_place q r n (kept k same) (given k' e) = absurd (given_unused r q n e (taken q n k same))
    own_place q r n (given k e) (kept k' same) = absurd (given_unused q r n e (taken r n k' same))
    own_place q r n (given k e) (given k' e') = given_own q r n e e'

    range_of : (p : Path) (n : ℕ) → number_in (new_numbers base object w) p ≡ Some n → (1 ≤ n) × (n ≤ 0xfffffffe)
    range_of p n e = let l = lands p (inside_of p n e).1 in in_range l.0 n (got_at p l.0 n e l.1)

    base_number_at : (q : Path) (n : ℕ) → m.keyed q ≡ true → Got q n → n ≡ number q
    base_number_at q n k (kept k' same) = same
    base_number_at q n k (given k' e) = absurd (true≢false (sym k ∙ k'))

    nobody_has : (q r : Path) (n : ℕ) → m.keyed q ≡ false → Got q n → m.keyed r ≡ true → number r ≡ n → ⊥
    nobody_has q r n k (kept k' same) k'' e = true≢false (sym k' ∙ k)
    nobody_has q r n k (given k' e') k'' e = given_unused q r n e' (taken r n k'' (sym e))

    pub joined_numbers : IsJoined m o w.sites number (number_in (new_numbers base object w))
    joined_numbers = record {
      some = λ p b h.
          let i = inside_new object o local are.encoded are.overlay are.valid_object p (h, b) in
          let l = lands p b in
          let v = number_given p l.0 i l.1 in
          (v.0, v.2);
      none = λ p n e. (inside_of p n e).0;
      low = λ p n e. (range_of p n e).0;
      high = λ p n e. (range_of p n e).1;
      tree = λ p q n e l k. base_number_at q n k (got_at p q n e l);
      one = λ p p' q n n' e e' l l'. let z : Some n ≡ Some n' = sym (number_is_there p q n e l) ∙ number_is_there p' q n' e' l' in cc;
      own = λ p p' q q' n e e' l l'. own_place q q' n (got_at p q n e l) (got_at p' q' n e' l');
      free = λ p q q' n e l k k' same. nobody_has q q' n k (got_at p q n e l) k' same;
    }
