-- The places that get numbers: each its own, least where it was given, and none that has one in the base.
use Rattle.std.proofs.Common.{◌≡◌, ℕ, Bool, true, false, ◌||◌, List, [], ◌∷◌, ◌++◌, map, codes, refl, sym, ap, subst, ◌∙◌, ◌⊎◌, inl, inr, Option, Some, None, true≢false}
use Rattle.std.specs.Prelude.{is_some, option_map, if◌then◌else◌, nat_eq}
use Rattle.std.specs.Option.{option_or}
use Rattle.std.specs.List.{list_any}
use Rattle.std.specs.Int.{w32, from_be_bytes}
use Rattle.dt_model.specs.Path.{Path, path_eq}
use Rattle.dt_model.specs.Lists.{IsIn}
use Rattle.dt_model.specs.Numbers.{IsLeastFree, AreNumbers, numbers_of, number_in}
use Rattle.dt_model.specs.Tree.{Reading, Placed, value_in}
use Rattle.dt_model.specs.Valid.{AreDistinct}
use Rattle.dt_model.proofs.Tests.{path_eq_refl, path_eq_true}
use Rattle.dt_model.proofs.Distinct.{distinct_append}
use Rattle.dt_overlay_model.specs.Walk.{least_free, number_there, with_place, has_phandle, with_places}
use Rattle.dt_overlay_model.proofs.Least.{least_is_free}

abbrev pub places : List (Path × ℕ) → List Path
places given = map (λ (x : Path × ℕ). x.0) given

abbrev pub numbers : List (Path × ℕ) → List ℕ
numbers given = map (λ (x : Path × ℕ). x.1) given

-- the places that got a number
pub record AreGiven (base : Reading) (given : List (Path × ℕ)) : Type 0 where
  pub numbered : AreNumbers (numbers_of base) (places given) given
  pub distinct : AreDistinct (places given)
  pub bare : (q : Path) → IsIn q (places given) → value_in base q (codes "phandle") ≡ None

-- ---- one place more

or_swapped : (a b c : Bool) → a || (b || c) ≡ b || (a || c)
or_swapped true true c = refl
or_swapped true false c = refl
or_swapped false true c = refl
or_swapped false false c = refl

any_middle : (test : ℕ → Bool) (k : ℕ) (xs ys : List ℕ) → test k || list_any test (xs ++ ys) ≡ list_any test (xs ++ k ∷ ys)
any_middle test k [] ys = refl
any_middle test k (x ∷ xs) ys = or_swapped (test k) (test x) (list_any test (xs ++ ys)) ∙ ap (λ b. test x || b) (any_middle test k xs ys)

-- which number is the least free one hangs on what is taken, and not on its order
same_least : (xs ys : List ℕ) (n : ℕ) → ((k : ℕ) → list_any (nat_eq k) xs ≡ list_any (nat_eq k) ys) → IsLeastFree xs n → IsLeastFree ys n
same_least xs ys n same h = record { low = h.low; free = sym (same n) ∙ h.free; least = λ k one less. sym (same k) ∙ h.least k one less }

numbers_more : (taken : List ℕ) (given : List (Path × ℕ)) (q : Path) (n : ℕ) → AreNumbers taken (places given) given → IsLeastFree (numbers given ++ taken) n
    → AreNumbers taken (places (given ++ (q, n) ∷ [])) (given ++ (q, n) ∷ [])
numbers_more taken [] q n h least = (refl, least, tt)
numbers_more taken ((p, k) ∷ given) q n h least = (
  refl,
  h.1,
  numbers_more (k ∷ taken) given q n h.2 (same_least (k ∷ (numbers given ++ taken)) (numbers given ++ k ∷ taken) n (λ i. any_middle (nat_eq i) k (numbers given) taken) least),
)

places_last : (given : List (Path × ℕ)) (q : Path) (n : ℕ) → places (given ++ (q, n) ∷ []) ≡ places given ++ q ∷ []
places_last [] q n = refl
places_last (x ∷ given) q n = ap (λ z. x.0 ∷ z) (places_last given q n)

pub number_in-last : (given : List (Path × ℕ)) (q p : Path) (n : ℕ) → number_in (given ++ (q, n) ∷ []) p ≡ option_or (number_in given p) (if path_eq q p then Some n else None)
number_in-last [] q p n = refl
number_in-last ((r, k) ∷ given) q p n = step (path_eq r p) (number_in-last given q p n)
  where
    step : (b : Bool) → number_in (given ++ (q, n) ∷ []) p ≡ option_or (number_in given p) (if path_eq q p then Some n else None)
        → (if b then Some k else number_in (given ++ (q, n) ∷ []) p) ≡ option_or (if b then Some k else number_in given p) (if path_eq q p then Some n else None)
    step true more = refl
    step false more = more

-- a place that got a number is found
pub place_found : (given : List (Path × ℕ)) (q : Path) → IsIn q (places given) → is_some (number_in given q) ≡ true
place_found [] q i = absurd i
place_found ((r, k) ∷ given) q (inl same) = ap (λ b. is_some (if b then Some k else number_in given q)) (ap (path_eq r) same ∙ path_eq_refl r)
place_found ((r, k) ∷ given) q (inr i) = step (path_eq r q) (place_found given q i)
  where
    step : (b : Bool) → is_some (number_in given q) ≡ true → is_some (if b then Some k else number_in given q) ≡ true
    step true more = refl
    step false more = more

pub found_place : (given : List (Path × ℕ)) (q : Path) (n : ℕ) → number_in given q ≡ Some n → IsIn q (places given)
found_place [] q n h = absurd (let z : None ≡ Some n = h in cc)
found_place ((r, k) ∷ given) q n h = step (path_eq r q) refl h (found_place given q n)
  where
    step : (b : Bool) → path_eq r q ≡ b → (if b then Some k else number_in given q) ≡ Some n → (number_in given q ≡ Some n → IsIn q (places given)) → IsIn q (r ∷ places given)
    step true e h more = inl (sym (path_eq_true r q e))
    step false e h more = inr (more h)

-- ---- where there is no number

pub none_there : (base : Reading) (given : List (Path × ℕ)) (q : Path) → is_some (number_there base given q) ≡ false → (value_in base q (codes "phandle") ≡ None) × (number_in given q ≡ None)
none_there base given q h = step (value_in base q (codes "phandle")) (number_in given q) h
  where
    step : (y : Option (List ℕ)) (m : Option ℕ) → is_some (option_or (option_map (from_be_bytes w32) y) m) ≡ false → (y ≡ None) × (m ≡ None)
    step None None e = (refl, refl)
    step None (Some n) e = absurd (true≢false e)
    step (Some v) m e = absurd (true≢false e)

-- a place that gets one has it
pub given_there : (base : Reading) (given : List (Path × ℕ)) (q : Path) (n : ℕ) → is_some (number_there base given q) ≡ false → number_there base (given ++ (q, n) ∷ []) q ≡ Some n
given_there base given q n none =
    let bare = none_there base given q none in
    ap (λ (o : Option (List ℕ)). option_or (option_map (from_be_bytes w32) o) (number_in (given ++ (q, n) ∷ []) q)) bare.0
    ∙ number_in-last given q q n ∙ ap (λ (o : Option ℕ). option_or o (if path_eq q q then Some n else None)) bare.1 ∙ ap (λ (b : Bool). if b then Some n else None) (path_eq_refl q)

in_single : (x q : Path) → IsIn x (q ∷ []) → x ≡ q
in_single x q (inl same) = same
in_single x q (inr i) = absurd i

pub in_last : {X : Type 0} (x y : X) (xs : List X) → IsIn x (xs ++ y ∷ []) → IsIn x xs ⊎ (x ≡ y)
in_last x y [] (inl same) = inr same
in_last x y [] (inr i) = absurd i
in_last x y (z ∷ xs) (inl same) = inl (inl same)
in_last x y (z ∷ xs) (inr i) = elim (in_last x y xs i) [ inl j ↦ inl (inr j) | inr e ↦ inr e ]

more_given : (base : Reading) (given : List (Path × ℕ)) (q : Path) (n : ℕ) → AreGiven base given → is_some (number_there base given q) ≡ false → IsLeastFree (numbers given ++ numbers_of base) n
    → AreGiven base (given ++ (q, n) ∷ [])
more_given base given q n are none least = record {
  numbered = numbers_more (numbers_of base) given q n are.numbered least;
  distinct =
      subst AreDistinct (sym (places_last given q n))
      (distinct_append (places given) (q ∷ []) are.distinct (tt, tt)
      (λ x i j. true≢false (sym (place_found given x i) ∙ ap is_some (ap (number_in given) (in_single x q j) ∙ (none_there base given q none).1))));
  bare = λ x i. elim (in_last x q (places given) (subst (IsIn x) (places_last given q n) i)) [
    | inl j ↦ are.bare x j
    | inr same ↦ ap (λ p. value_in base p (codes "phandle")) same ∙ (none_there base given q none).0
  ];
}

-- ---- a number of a place stays

pub place_kept : (base : Reading) (q : Path) (given : List (Path × ℕ)) (p : Path) (n : ℕ) → number_there base given p ≡ Some n → number_there base (with_place base q given) p ≡ Some n
place_kept base q given p n there = step (is_some (number_there base given q))
  where
    own : Option ℕ
    own = option_map (from_be_bytes w32) (value_in base p (codes "phandle"))

    behind : (mine first later : Option ℕ) → option_or mine first ≡ Some n → option_or mine (option_or first later) ≡ Some n
    behind None first later e = rw e refl
    behind (Some m) first later e = e

    step : (b : Bool) → number_there base (if b then given else given ++ (q, least_free (numbers given ++ numbers_of base)) ∷ []) p ≡ Some n
    step true = there
    step false =
        let k : ℕ = least_free (numbers given ++ numbers_of base) in
        ap (option_or own) (number_in-last given q p k) ∙ behind own (number_in given p) (if path_eq q p then Some k else None) there

pub places_kept : (base : Reading) (nodes : List Placed) (given : List (Path × ℕ)) (p : Path) (n : ℕ) → number_there base given p ≡ Some n → number_there base (with_places base nodes given) p ≡ Some n
places_kept base [] given p n there = there
places_kept base (x ∷ nodes) given p n there = places_kept base nodes (if has_phandle x then with_place base x.path given else given) p n (step (has_phandle x))
  where
    step : (b : Bool) → number_there base (if b then with_place base x.path given else given) p ≡ Some n
    step true = place_kept base x.path given p n there
    step false = there

-- ---- one node lands

-- What a landing on q leaves: q has a number.
pub record IsPlaced (base : Reading) (q : Path) (given new : List (Path × ℕ)) : Type 0 where
  pub are : AreGiven base new
  pub now : is_some (number_there base new q) ≡ true
  pub only : (p : Path) → IsIn p (places new) → IsIn p (places given) ⊎ (p ≡ q)

pub placed : (base : Reading) (q : Path) (given : List (Path × ℕ)) → AreGiven base given → IsPlaced base q given (with_place base q given)
placed base q given are = step (is_some (number_there base given q)) refl
  where
    step : (b : Bool) → is_some (number_there base given q) ≡ b → IsPlaced base q given (if b then given else given ++ (q, least_free (numbers given ++ numbers_of base)) ∷ [])
    step true e = record { are = are; now = e; only = λ p i. inl i }
    step false e =
        let k : ℕ = least_free (numbers given ++ numbers_of base) in
        record {
          are = more_given base given q k are e (least_is_free (numbers given ++ numbers_of base));
          now = ap is_some (given_there base given q k e);
          only = λ p i. in_last p q (places given) (subst (IsIn p) (places_last given q k) i);
        }

-- ---- nodes land, one after another

pub record ArePlaced (base : Reading) (nodes : List Placed) (given new : List (Path × ℕ)) : Type 0 where
  pub are : AreGiven base new
  pub now : (n : Placed) → IsIn n nodes → has_phandle n ≡ true → is_some (number_there base new n.path) ≡ true
  pub only : (p : Path) → IsIn p (places new) → IsIn p (places given) ⊎ ((n : Placed) × IsIn n nodes × (has_phandle n ≡ true) × (n.path ≡ p))

pub still_some : (base : Reading) (given new : List (Path × ℕ)) (q : Path) → ((p : Path) (n : ℕ) → number_there base given p ≡ Some n → number_there base new p ≡ Some n)
    → is_some (number_there base given q) ≡ true → is_some (number_there base new q) ≡ true
still_some base given new q kept h = step (number_there base given q) refl h
  where
    step : (y : Option ℕ) → number_there base given q ≡ y → is_some y ≡ true → is_some (number_there base new q) ≡ true
    step None e k = absurd (true≢false (sym k))
    step (Some n) e k = ap is_some (kept q n e)

pub all_placed : (base : Reading) (nodes : List Placed) (given : List (Path × ℕ)) → AreGiven base given → ArePlaced base nodes given (with_places base nodes given)
all_placed base [] given are = record { are = are; now = λ n i. absurd i; only = λ p i. inl i }
all_placed base (n ∷ nodes) given are = step (all_placed base nodes) (has_phandle n) refl
  where
    step : ((g : List (Path × ℕ)) → AreGiven base g → ArePlaced base nodes g (with_places base nodes g)) → (b : Bool) → has_phandle n ≡ b → ArePlaced base (n ∷ nodes) given (with_places base nodes (if b then with_place base n.path given else given))
    step more true e =
        let here = placed base n.path given are in
        let rest = more (with_place base n.path given) here.are in
        record {
          are = rest.are;
          now = λ x i has. elim i [
            | inl same ↦ still_some base (with_place base n.path given) (with_places base nodes (with_place base n.path given)) x.path (places_kept base nodes (with_place base n.path given))
                (ap (λ (y : Placed). is_some (number_there base (with_place base n.path given) y.path)) same ∙ here.now)
            | inr j ↦ rest.now x j has
          ];
          only = λ p i. elim (rest.only p i) [
            | inl j ↦ elim (here.only p j) [ inl k ↦ inl k | inr same ↦ inr (n, inl refl, e, sym same) ]
            | inr w ↦ inr (w.0, inr w.1, w.2, w.3)
          ];
        }
    step more false e =
        let rest = more given are in
        record {
          are = rest.are;
          now = λ x i has. elim i [
            | inl same ↦ absurd (true≢false (sym has ∙ ap has_phandle same ∙ e))
            | inr j ↦ rest.now x j has
          ];
          only = λ p i. elim (rest.only p i) [ inl j ↦ inl j | inr w ↦ inr (w.0, inr w.1, w.2, w.3) ];
        }
