-- The children, the properties and the labels of a node stand in order: what tests that compute decide.
use Rattle.std.proofs.Common.{◌≡◌, ℕ, Bool, true, false, ◌&&◌, ◌||◌, List, [], ◌∷◌, inl, inr, refl, arith, ◌<◌}
use Rattle.std.specs.Prelude.{nat_lt, is_some}
use Rattle.std.specs.List.{AllByRecursion, list_all, list_any}
use Rattle.std.specs.Str.{bytes_eq}
use Rattle.std.proofs.lemmas.Bool.Decides.{nat_tests}
use Rattle.dt_model.specs.Names.{Name}
use Rattle.dt_model.specs.Path.{path_eq}
use Rattle.dt_model.specs.Lists.{IsIn, FallBy, AreInOrder}
use Rattle.dt_model.specs.Event.{Stack, Event, opening, giving, definition, undefinition, deletion, stands, value_at, names, age, property_age, label_age, opens, takes, gives, defines, drops}
use Rattle.dt_model.specs.Source.{Events, Part}
use Rattle.dt_model.proofs.Tests.{and_left, and_right, all_at, each_from, bytes_eq_true, path_eq_refl}
use Rattle.dt_model.proofs.Cases.{some_there}
use Rattle.dt_model_laws.proofs.CheckedWords.{implies, implied}
use Rattle.dt_model.proofs.Lasts.{stands_by, names_by, value_by, last_each}

-- ---- what has a name among some

among_in : (x : Name) (xs : List Name) → list_any (bytes_eq x) xs ≡ true → IsIn x xs
among_in x [] h = cc
among_in x (y ∷ ys) h = step (λ k. among_in x ys k) (bytes_eq x y) refl
  where
    step : (list_any (bytes_eq x) ys ≡ true → IsIn x ys) → (b : Bool) → bytes_eq x y ≡ b → IsIn x (y ∷ ys)
    step rest true e = inl (bytes_eq_true x y e)
    step rest false e = inr (rest (rw e at h))

-- a child of the node that the event opens is among these
abbrev pub opens_among : Stack → List Name → Event (List Part) → Bool
opens_among q xs (opening []) = true
opens_among q xs (opening (x ∷ p)) = implies (path_eq p q) (list_any (bytes_eq x) xs)
opens_among q xs (giving l p) = true
opens_among q xs (definition p n v) = true
opens_among q xs (undefinition p n) = true
opens_among q xs (deletion p) = true

-- a property of the node that the event defines is among these
abbrev pub defines_among : Stack → List Name → Event (List Part) → Bool
defines_among q xs (opening p) = true
defines_among q xs (giving l p) = true
defines_among q xs (definition p n v) = implies (path_eq p q) (list_any (bytes_eq n) xs)
defines_among q xs (undefinition p n) = true
defines_among q xs (deletion p) = true

-- a label that the event gives to the node is among these
abbrev pub gives_among : Stack → List Name → Event (List Part) → Bool
gives_among q ls (opening p) = true
gives_among q ls (giving l p) = implies (path_eq p q) (list_any (bytes_eq l) ls)
gives_among q ls (definition p n v) = true
gives_among q ls (undefinition p n) = true
gives_among q ls (deletion p) = true

-- ---- the order

abbrev pub falls : (Name → ℕ) → List Name → Bool
falls age [] = true
falls age (x ∷ xs) = list_all (λ y. nat_lt (age y) (age x)) xs && falls age xs

lt_from : (a b : ℕ) → nat_lt a b ≡ true → a < b
lt_from a b h = grind (arith, nat_tests)

all_below : (age : Name → ℕ) (x : Name) (xs : List Name) → list_all (λ y. nat_lt (age y) (age x)) xs ≡ true → AllByRecursion (λ y. age y < age x) xs
all_below age x [] h = tt
all_below age x (y ∷ ys) h = (
  lt_from (age y) (age x) (and_left (nat_lt (age y) (age x)) (list_all (λ y. nat_lt (age y) (age x)) ys) h),
  all_below age x ys (and_right (nat_lt (age y) (age x)) (list_all (λ y. nat_lt (age y) (age x)) ys) h),
)

pub falls_from : (age : Name → ℕ) (xs : List Name) → falls age xs ≡ true → FallBy age xs
falls_from age [] h = tt
falls_from age (x ∷ xs) h =
    let first : Bool = list_all (λ y. nat_lt (age y) (age x)) xs in
    (all_below age x xs (and_left first (falls age xs) h), falls_from age xs (and_right first (falls age xs) h))

passes : {X : Type 0} (test : X → Bool) (xs : List X) → list_all test xs ≡ true → AllByRecursion (λ x. test x ≡ true) xs
passes test xs h = each_from (λ x. test x ≡ true) xs (λ x i. all_at test xs x h i)

-- ---- both

pub children_in_order : (es : Events) (q : Stack) (xs : List Name) → list_all (opens_among q xs) es ≡ true → list_all (λ x. stands es (x ∷ q)) xs ≡ true
    → falls (λ x. age es (x ∷ q)) xs ≡ true → AreInOrder (λ x. age es (x ∷ q)) (λ x. stands es (x ∷ q)) xs
children_in_order es q xs listed there sorted = record {
  sound = passes (λ x. stands es (x ∷ q)) xs there;
  complete = λ x h.
      let here : opens_among q xs (opening (x ∷ q)) ≡ true =
      last_each (λ e. opens_among q xs e ≡ true) (λ e. opens (x ∷ q) e || takes (x ∷ q) e) es (opening (x ∷ q)) (passes (opens_among q xs) es listed) (stands_by es (x ∷ q) h) in
      among_in x xs (implied (path_eq q q) (list_any (bytes_eq x) xs) here (path_eq_refl q));
  sorted = falls_from (λ x. age es (x ∷ q)) xs sorted;
}

pub properties_in_order : (es : Events) (q : Stack) (xs : List Name) → list_all (defines_among q xs) es ≡ true → list_all (λ x. is_some (value_at es q x)) xs ≡ true
    → falls (λ x. property_age es q x) xs ≡ true → AreInOrder (λ x. property_age es q x) (λ x. is_some (value_at es q x)) xs
properties_in_order es q xs listed there sorted = record {
  sound = passes (λ x. is_some (value_at es q x)) xs there;
  complete = λ x h.
      let v = some_there (value_at es q x) h in
      let here : defines_among q xs (definition q x v.0) ≡ true =
      last_each (λ e. defines_among q xs e ≡ true) (λ e. defines q x e || drops q x e) es (definition q x v.0) (passes (defines_among q xs) es listed) (value_by es q x v.0 v.1) in
      among_in x xs (implied (path_eq q q) (list_any (bytes_eq x) xs) here (path_eq_refl q));
  sorted = falls_from (λ x. property_age es q x) xs sorted;
}

pub labels_in_order : (es : Events) (q : Stack) (ls : List Name) → list_all (gives_among q ls) es ≡ true → list_all (λ l. names es l q) ls ≡ true
    → falls (λ l. label_age es l q) ls ≡ true → AreInOrder (λ l. label_age es l q) (λ l. names es l q) ls
labels_in_order es q ls listed there sorted = record {
  sound = passes (λ l. names es l q) ls there;
  complete = λ l h.
      let here : gives_among q ls (giving l q) ≡ true =
      last_each (λ e. gives_among q ls e ≡ true) (λ e. gives l q e || takes q e) es (giving l q) (passes (gives_among q ls) es listed) (names_by es l q h) in
      among_in l ls (implied (path_eq q q) (list_any (bytes_eq l) ls) here (path_eq_refl q));
  sorted = falls_from (λ l. label_age es l q) ls sorted;
}
