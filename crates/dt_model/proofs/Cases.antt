-- Cases on tests, options and results, and words for lists.
use Rattle.std.proofs.Common.{◌≡◌, Bool, true, false, ◌||◌, cond, List, [], ◌∷◌, ◌⊎◌, inl, inr, Option, Some, None, is_some, Result, Ok, Err, refl}
use Rattle.std.specs.List.{AllByRecursion, list_all}
use Rattle.std.proofs.lemmas.Bool.{and_parts}
use Rattle.std.specs.Option.{option_map, option_map_or, option_and_then}

-- ---- tests

pub bool_cases : (b : Bool) (P : Type 0) → (b ≡ true → P) → (b ≡ false → P) → P
bool_cases true P f g = f refl
bool_cases false P f g = g refl

pub cond_true : (b x : Bool) → cond b true x ≡ true → (b ≡ true) ⊎ (x ≡ true)
cond_true true x h = inl refl
cond_true false x h = inr h

pub cond_false : (b x : Bool) → cond b false x ≡ true → (b ≡ false) × (x ≡ true)
cond_false true x h = cc
cond_false false x h = (refl, h)

pub either_false : (b : Bool) → (b || false) ≡ true → b ≡ true
either_false true h = refl
either_false false h = cc

pub either_left : (a b : Bool) → a ≡ true → (a || b) ≡ true
either_left true b h = refl
either_left false b h = cc

pub either_right : (a b : Bool) → b ≡ true → (a || b) ≡ true
either_right true b h = refl
either_right false b h = h

pub neither : (a b : Bool) → (a || b) ≡ false → (a ≡ false) × (b ≡ false)
neither true b h = cc
neither false b h = (refl, h)

pub cond_none : {A : Type 0} (b : Bool) (o : Option A) (v : A) → cond b None o ≡ Some v → (b ≡ false) × (o ≡ Some v)
cond_none true o v h = cc
cond_none false o v h = (refl, h)

pub cond_some_or : {A : Type 0} (b : Bool) (o : Option A) (w v : A) → cond b (Some w) o ≡ Some v → ((b ≡ true) × (w ≡ v)) ⊎ (o ≡ Some v)
cond_some_or true o w v h = inl (refl, cc)
cond_some_or false o w v h = inr h

-- ---- options and results

pub map_some : {A B : Type 0} (f : A → B) (o : Option A) (y : B) → option_map f o ≡ Some y → (x : A) × (o ≡ Some x) × (f x ≡ y)
map_some f None y h = cc
map_some f (Some x) y h = (x, refl, cc)

pub then_some : {A B : Type 0} (f : A → Option B) (o : Option A) (y : B) → option_and_then f o ≡ Some y → (x : A) × (o ≡ Some x) × (f x ≡ Some y)
then_some f None y h = cc
then_some f (Some x) y h = (x, refl, h)

pub some_there : {A : Type 0} (o : Option A) → is_some o ≡ true → (x : A) × (o ≡ Some x)
some_there None h = cc
some_there (Some x) h = (x, refl)

pub map_or_true : {A : Type 0} (f : A → Bool) (o : Option A) → option_map_or f o false ≡ true → (x : A) × (o ≡ Some x) × (f x ≡ true)
map_or_true f None h = cc
map_or_true f (Some x) h = (x, refl, h)

pub map_or_ok : {A T E : Type 0} (f : A → Result T E) (o : Option A) (e : E) (t : T) → option_map_or f o (Err e) ≡ Ok t → (x : A) × (o ≡ Some x) × (f x ≡ Ok t)
map_or_ok f None e t h = cc
map_or_ok f (Some x) e t h = (x, refl, h)

-- a refusal that wasn't met
pub not_refused : {T E : Type 0} (b : Bool) (e : E) (r : Result T E) (t : T) → cond b (Err e) r ≡ Ok t → (b ≡ false) × (r ≡ Ok t)
not_refused true e r t h = cc
not_refused false e r t h = (refl, h)

pub is_granted : {T E : Type 0} (b : Bool) (e : E) (r : Result T E) (t : T) → cond b r (Err e) ≡ Ok t → (b ≡ true) × (r ≡ Ok t)
is_granted true e r t h = (refl, h)
is_granted false e r t h = cc

-- ---- lists

pub all_from : {X : Type 0} (P : X → Type 0) → ((x : X) → P x) → (xs : List X) → AllByRecursion P xs
all_from P f [] = tt
all_from P f (x ∷ xs) = (f x, all_from P f xs)

pub all_map : {X : Type 0} (P Q : X → Type 0) → ((x : X) → P x → Q x) → (xs : List X) → AllByRecursion P xs → AllByRecursion Q xs
all_map P Q f [] h = tt
all_map P Q f (x ∷ xs) h = (f x h.0, all_map P Q f xs h.1)

-- a test that computes
pub all_pass : {X : Type 0} (test : X → Bool) (xs : List X) → list_all test xs ≡ true → AllByRecursion (λ x. test x ≡ true) xs
all_pass test [] h = tt
all_pass test (x ∷ xs) h = let both = and_parts (test x) (list_all test xs) h in (both.0, all_pass test xs both.1)
