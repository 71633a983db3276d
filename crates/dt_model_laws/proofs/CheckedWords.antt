-- What tests that compute decide: that two answers agree, that a list has an element, that no two elements are the same.
use Rattle.std.proofs.Common.{◌≡◌, ◌≢◌, ℕ, Bool, true, false, not, ◌&&◌, List, [], ◌∷◌, inl, inr, Option, Some, None, refl, sym, ap, ◌∙◌}
use Rattle.std.specs.Prelude.{nat_eq}
use Rattle.std.specs.List.{AllByRecursion, list_all, list_any}
use Rattle.std.specs.Str.{bytes_eq}
use Rattle.std.proofs.lemmas.Bool.Decides.{nat_tests}
use Rattle.std.proofs.Common.{arith}
use Rattle.dt_model.specs.Names.{Name}
use Rattle.dt_model.specs.Path.{Path, path_eq}
use Rattle.dt_model.specs.Lists.{IsIn}
use Rattle.dt_model.specs.Valid.{AreDistinct}
use Rattle.dt_model.proofs.Tests.{and_left, and_right, not_true, any_from, all_at, each_from, bytes_eq_refl, bytes_eq_true, path_eq_refl, path_eq_true}

-- ---- answers

abbrev pub agree : Bool → Bool → Bool
agree true b = b
agree false b = not b

abbrev pub implies : Bool → Bool → Bool
implies true b = b
implies false b = true

abbrev pub agree_bytes : Option (List ℕ) → Option (List ℕ) → Bool
agree_bytes None None = true
agree_bytes None (Some y) = false
agree_bytes (Some x) None = false
agree_bytes (Some x) (Some y) = bytes_eq x y

pub implied : (a b : Bool) → implies a b ≡ true → a ≡ true → b ≡ true
implied true b h k = h
implied false b h k = cc

-- answers that agree wherever one of them is yes
pub same_answer : (X : Type 0) (a b : Bool) → (a ≡ true → X) → (b ≡ true → X) → (X → agree a b ≡ true) → a ≡ b
same_answer X true b f g h = sym (h (f refl))
same_answer X false true f g h = h (g refl)
same_answer X false false f g h = refl

-- values that agree wherever one of them is there
pub same_bytes : (X : Type 0) (a b : Option (List ℕ)) → ((v : List ℕ) → a ≡ Some v → X) → ((v : List ℕ) → b ≡ Some v → X) → (X → agree_bytes a b ≡ true) → a ≡ b
same_bytes X None None f g h = refl
same_bytes X None (Some y) f g h = let z : false ≡ true = h (g y refl) in cc
same_bytes X (Some x) None f g h = let z : false ≡ true = h (f x refl) in cc
same_bytes X (Some x) (Some y) f g h = ap Some (bytes_eq_true x y (h (f x refl)))

-- ---- elements

-- the test decides whether two are the same
pub record IsEquality {X : Type 0} (eq : X → X → Bool) : Type 0 where
  pub same : (x y : X) → eq x y ≡ true → x ≡ y
  pub itself : (x : X) → eq x x ≡ true

abbrev pub has : {X : Type 0} → (X → X → Bool) → List X → X → Bool
has eq xs x = list_any (eq x) xs

abbrev pub are_distinct : {X : Type 0} → (X → X → Bool) → List X → Bool
are_distinct eq [] = true
are_distinct eq (x ∷ xs) = list_all (λ y. not (eq y x)) xs && are_distinct eq xs

pub in_same : {X : Type 0} (x y : X) (xs : List X) → x ≡ y → IsIn y xs → IsIn x xs
in_same x y [] e h = h
in_same x y (z ∷ xs) e (inl h) = inl (e ∙ h)
in_same x y (z ∷ xs) e (inr h) = inr (in_same x y xs e h)

pub has_in : {X : Type 0} (eq : X → X → Bool) → IsEquality eq → (xs : List X) (x : X) → has eq xs x ≡ true → IsIn x xs
has_in eq e xs x h = let w = any_from (eq x) xs h in in_same x w.0 xs (e.same x w.0 w.2) w.1

pub distinct_by : {X : Type 0} (eq : X → X → Bool) → IsEquality eq → (xs : List X) → are_distinct eq xs ≡ true → AreDistinct xs
distinct_by eq e [] h = tt
distinct_by eq e (x ∷ xs) h = (
  each_from (λ y. y ≢ x) xs (λ y i same.
      let no : eq y x ≡ false = not_true (eq y x) (all_at (λ y. not (eq y x)) xs y (and_left (list_all (λ y. not (eq y x)) xs) (are_distinct eq xs) h) i) in
      let yes : eq y x ≡ true = ap (eq y) (sym same) ∙ e.itself y in
      cc),
  distinct_by eq e xs (and_right (list_all (λ y. not (eq y x)) xs) (are_distinct eq xs) h),
)

pub same_names : IsEquality {X = Name} bytes_eq
same_names = record { same = bytes_eq_true; itself = bytes_eq_refl }

pub same_paths : IsEquality {X = Path} path_eq
same_paths = record { same = path_eq_true; itself = path_eq_refl }

pub number_same : (m n : ℕ) → nat_eq m n ≡ true → m ≡ n
number_same m n h = grind (arith, nat_tests)

number_itself : (n : ℕ) → nat_eq n n ≡ true
number_itself n = grind (arith, nat_tests)

pub same_numbers : IsEquality {X = ℕ} nat_eq
same_numbers = record { same = number_same; itself = number_itself }

-- P by a test of each
pub each_by : {X : Type 0} (test : X → Bool) (P : X → Type 0) → ((x : X) → test x ≡ true → P x) → (xs : List X) → list_all test xs ≡ true → AllByRecursion P xs
each_by test P f xs h = each_from P xs (λ x i. f x (all_at test xs x h i))
