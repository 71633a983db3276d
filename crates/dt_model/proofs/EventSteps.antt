-- What stands after one more event.
use Rattle.std.proofs.Common.{◌≡◌, ℕ, Bool, true, false, List, [], ◌∷◌, ◌++◌, Option, Some, None, ◌||◌, ◌&&◌, cond, nat_lt, length, ◌+◌, ◌<◌, length-append, refl, sym, ◌∙◌, ap, arith}
use Rattle.std.specs.Option.{option_or}
use Rattle.std.specs.List.{list_any}
use Rattle.std.specs.Str.{bytes_eq}
use Rattle.std.proofs.lemmas.Bool.Decides.{nat_tests}
use Rattle.std.proofs.lemmas.Slice.Eq.{bytes_eq-Decides}
use Rattle.dt_model.specs.Names.{Name}
use Rattle.dt_model.specs.Path.{path_eq}
use Rattle.dt_model.specs.Event.{Stack, Event, takes, opens, gives, defines, drops, last_where, is_opening, is_giving, defined, stands, value_at, names, since, from_first, age_by, age, property_age}

-- ---- equal paths

and-true : (a b : Bool) → (a && b) ≡ true → (a ≡ true) × (b ≡ true)
and-true true b h = (refl, h)
and-true false b h = cc

pub bytes_eq-refl : (x : Name) → bytes_eq x x ≡ true
bytes_eq-refl x = (bytes_eq-Decides x x).1 refl

pub bytes_eq-is : (x y : Name) → bytes_eq x y ≡ true → x ≡ y
bytes_eq-is x y h = (bytes_eq-Decides x y).0 h

pub path_eq-refl : (p : Stack) → path_eq p p ≡ true
path_eq-refl [] = refl
path_eq-refl (x ∷ p) = ap (λ b. b && path_eq p p) (bytes_eq-refl x) ∙ path_eq-refl p

pub path_eq-is : (p q : Stack) → path_eq p q ≡ true → p ≡ q
path_eq-is [] [] h = refl
path_eq-is [] (y ∷ q) h = cc
path_eq-is (x ∷ p) [] h = cc
path_eq-is (x ∷ p) (y ∷ q) h =
    let both = and-true (bytes_eq x y) (path_eq p q) h in
    ap (λ (z : Name). z ∷ p) (bytes_eq-is x y both.0) ∙ ap (λ (r : Stack). y ∷ r) (path_eq-is p q both.1)

-- ---- one more event

or_false : (b : Bool) → (b || false) ≡ b
or_false true = refl
or_false false = refl

or_assoc : (a b c : Bool) → (a || (b || c)) ≡ ((a || b) || c)
or_assoc true b c = refl
or_assoc false b c = refl

lt-true : (n : ℕ) → 0 < n → nat_lt 0 n ≡ true
lt-true n h = grind (arith, nat_tests)

-- the age after one more event, which starts it or not
abbrev pub older : Bool → ℕ → ℕ
older started n = cond (nat_lt 0 n) (n + 1) (cond started 1 0)

pub older-live : (b : Bool) (n : ℕ) → 0 < n → older b n ≡ n + 1
older-live b n h = ap (λ t. cond t (n + 1) (cond b 1 0)) (lt-true n h)

pub older-new : (b : Bool) (n : ℕ) → n ≡ 0 → older b n ≡ cond b 1 0
older-new b n h = rw h refl

module _ {V : Type 0} where
  since-cases : (any last here : Bool) (rest xs : List (Event V)) (x e : Event V)
      → cond (any || last) (cond last [] (rest ++ e ∷ [])) (cond here (xs ++ e ∷ []) (x ∷ (xs ++ e ∷ []))) ≡ cond last [] (cond any rest (cond here xs (x ∷ xs)) ++ e ∷ [])
  since-cases true true here rest xs x e = refl
  since-cases true false here rest xs x e = refl
  since-cases false true here rest xs x e = refl
  since-cases false false true rest xs x e = refl
  since-cases false false false rest xs x e = refl

  from_first-last : (b : Bool) (e : Event V) → length (cond b (e ∷ []) []) ≡ older b (length {A = Event V} [])
  from_first-last true e = refl
  from_first-last false e = refl

  older-longer : (last : Bool) (x : Event V) (xs : List (Event V)) (e : Event V) → length (x ∷ (xs ++ e ∷ [])) ≡ older last (length (x ∷ xs))
  older-longer last x xs e = let l : length (xs ++ e ∷ []) ≡ length xs + 1 = length-append xs (e ∷ []) in let z : length (x ∷ (xs ++ e ∷ [])) ≡ length (x ∷ xs) + 1 = omega arith in z ∙ sym (older-live last (length (x ∷ xs)) (omega arith))

  from_first-cases : (here last : Bool) (x : Event V) (xs : List (Event V)) (e : Event V) (new old : List (Event V)) → length new ≡ older last (length old)
      → length (cond here (x ∷ (xs ++ e ∷ [])) new) ≡ older last (length (cond here (x ∷ xs) old))
  from_first-cases true last x xs e new old h = older-longer last x xs e
  from_first-cases false last x xs e new old h = h

  age-cases : (taken : Bool) (test : Event V → Bool) (xs : List (Event V)) (e : Event V) → length (from_first test (xs ++ e ∷ [])) ≡ older (test e) (length (from_first test xs))
      → length (from_first test (cond taken [] (xs ++ e ∷ []))) ≡ cond taken 0 (older (test e) (length (from_first test xs)))
  age-cases true test xs e h = refl
  age-cases false test xs e h = h

  pub last_where-push : (test : Event V → Bool) (es : List (Event V)) (e : Event V) → last_where test (es ++ e ∷ []) ≡ cond (test e) (Some e) (last_where test es)
  last_where-push test [] e = refl
  last_where-push test (d ∷ es) e =
      rw (last_where-push test es e)
      (elim (test e) as (λ b. option_or (cond b (Some e) (last_where test es)) (cond (test d) (Some d) None) ≡ cond b (Some e) (option_or (last_where test es) (cond (test d) (Some d) None)))
      [ true ↦ refl | false ↦ refl ])

  -- a function of a choice
  through : {A : Type 0} (f : Option (Event V) → A) (b : Bool) (x y : Option (Event V)) → f (cond b x y) ≡ cond b (f x) (f y)
  through f true x y = refl
  through f false x y = refl

  pub stands-push : (es : List (Event V)) (e : Event V) (p : Stack) → stands (es ++ e ∷ []) p ≡ cond (opens p e || takes p e) (is_opening (Some e)) (stands es p)
  stands-push es e p = ap is_opening (last_where-push (λ e. opens p e || takes p e) es e) ∙ through is_opening _ _ _

  pub value_at-push : (es : List (Event V)) (e : Event V) (p : Stack) (n : Name) → value_at (es ++ e ∷ []) p n ≡ cond (defines p n e || drops p n e) (defined (Some e)) (value_at es p n)
  value_at-push es e p n = ap defined (last_where-push (λ e. defines p n e || drops p n e) es e) ∙ through defined _ _ _

  pub names-push : (es : List (Event V)) (e : Event V) (l : Name) (p : Stack) → names (es ++ e ∷ []) l p ≡ cond (gives l p e || takes p e) (is_giving (Some e)) (names es l p)
  names-push es e l p = ap is_giving (last_where-push (λ e. gives l p e || takes p e) es e) ∙ through is_giving _ _ _

  list_any-push : (test : Event V → Bool) (xs : List (Event V)) (e : Event V) → list_any test (xs ++ e ∷ []) ≡ (list_any test xs || test e)
  list_any-push test [] e = or_false (test e)
  list_any-push test (x ∷ xs) e = ap (λ b. test x || b) (list_any-push test xs e) ∙ or_assoc (test x) (list_any test xs) (test e)

  since-push : (test : Event V → Bool) (xs : List (Event V)) (e : Event V) → since test (xs ++ e ∷ []) ≡ cond (test e) [] (since test xs ++ e ∷ [])
  since-push test [] e = refl
  since-push test (x ∷ xs) e =
      ap (λ b. cond b (since test (xs ++ e ∷ [])) (cond (test x) (xs ++ e ∷ []) (x ∷ (xs ++ e ∷ [])))) (list_any-push test xs e)
      ∙ ap (λ ys. cond (list_any test xs || test e) ys (cond (test x) (xs ++ e ∷ []) (x ∷ (xs ++ e ∷ [])))) (since-push test xs e)
      ∙ since-cases (list_any test xs) (test e) (test x) (since test xs) xs x e

  from_first-push : (test : Event V → Bool) (xs : List (Event V)) (e : Event V) → length (from_first test (xs ++ e ∷ [])) ≡ older (test e) (length (from_first test xs))
  from_first-push test [] e = from_first-last (test e) e
  from_first-push test (x ∷ xs) e = from_first-cases (test x) (test e) x xs e (from_first test (xs ++ e ∷ [])) (from_first test xs) (from_first-push test xs e)

  pub age_by-push : (starts resets : Event V → Bool) (es : List (Event V)) (e : Event V) → age_by starts resets (es ++ e ∷ []) ≡ cond (resets e) 0 (older (starts e) (age_by starts resets es))
  unfolding age_by
  age_by-push starts resets es e =
      ap (λ xs. length (from_first starts xs)) (since-push resets es e)
      ∙ age-cases (resets e) starts (since resets es) e (from_first-push starts (since resets es) e)

  pub age-push : (es : List (Event V)) (e : Event V) (p : Stack) → age (es ++ e ∷ []) p ≡ cond (takes p e) 0 (older (opens p e) (age es p))
  age-push es e p = age_by-push (opens p) (takes p) es e

  pub property_age-push : (es : List (Event V)) (e : Event V) (p : Stack) (n : Name) → property_age (es ++ e ∷ []) p n ≡ cond (drops p n e) 0 (older (defines p n e) (property_age es p n))
  property_age-push es e p n = age_by-push (defines p n) (drops p n) es e
