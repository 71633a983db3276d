-- One more event, and the indices of what stands.
use Rattle.std.proofs.Common.{◌≡◌, ℕ, ◌+◌, ◌<◌, Bool, true, false, List, [], ◌∷◌, ◌++◌, Option, Some, None, ◌&&◌, ◌||◌, ◌⊎◌, inl, inr, cond, is_some, refl, sym, ◌∙◌, ap, arith}
use Rattle.dt_model.specs.Names.{Name}
use Rattle.dt_model.specs.Path.{path_eq}
use Rattle.dt_model.specs.Event.{Stack, Event, opening, giving, definition, undefinition, deletion, opens, takes, gives, is_opening, is_giving, is_within, stands, names, label_age}
use Rattle.dt_model.proofs.EventSteps.{older, older-live, older-new, stands-push, names-push, age_by-push}
use Rattle.std.specs.Str.{bytes_eq}
use Rattle.dt_source_growing.specs.Shape.{begun, index_after, AreAged}

pub begun-keeps : (b : Bool) (next i : ℕ) (o : Option ℕ) → o ≡ Some i → begun b next o ≡ Some i
begun-keeps b next i o h = ap (begun b next) h

pub begun-none : (b : Bool) (next : ℕ) (o : Option ℕ) → o ≡ None → begun b next o ≡ cond b (Some next) None
begun-none b next o h = ap (begun b next) h

pub begun-not : (next : ℕ) (o : Option ℕ) → begun false next o ≡ o
begun-not next None = refl
begun-not next (Some i) = refl

-- what has an index after an event had it, or begins and has the next
pub index_cases : (r b : Bool) (next i : ℕ) (o : Option ℕ) → index_after r b next o ≡ Some i → (r ≡ false) × ((o ≡ Some i) ⊎ ((o ≡ None) × (b ≡ true) × (i ≡ next)))
index_cases true b next i o h = cc
index_cases false b next i (Some j) h = (refl, inl h)
index_cases false true next i None h = (refl, inr (refl, refl, cc))
index_cases false false next i None h = cc

-- what has none after an event was taken, or had none and doesn't begin
pub none_cases : (r b : Bool) (next : ℕ) (o : Option ℕ) → index_after r b next o ≡ None → (r ≡ true) ⊎ ((r ≡ false) × (o ≡ None) × (b ≡ false))
none_cases true b next o h = inl refl
none_cases false b next (Some j) h = cc
none_cases false true next None h = cc
none_cases false false next None h = inr (refl, refl, refl)

stays_old : (r b : Bool) (n m : ℕ) → r ≡ false → 0 < n → m ≡ cond r 0 (older b n) → m ≡ n + 1
stays_old r b n m e some h = h ∙ ap (λ t. cond t 0 (older b n)) e ∙ older-live b n some

is_born : (r b : Bool) (n m : ℕ) → r ≡ false → b ≡ true → n ≡ 0 → m ≡ cond r 0 (older b n) → m ≡ 1
is_born r b n m e starts none h = h ∙ ap (λ t. cond t 0 (older b n)) e ∙ older-new b n none ∙ ap (λ t. cond t 1 0) starts

stays_unborn : (r b : Bool) (n m : ℕ) → r ≡ false → b ≡ false → n ≡ 0 → m ≡ cond r 0 (older b n) → m ≡ 0
stays_unborn r b n m e still none h = h ∙ ap (λ t. cond t 0 (older b n)) e ∙ older-new b n none ∙ ap (λ t. cond t 1 0) still

module _ {X : Type 0} (index index' : X → Option ℕ) (age age' : X → ℕ) (next : ℕ) (resets starts : X → Bool) where
  -- indices go on to follow the order
  pub aged-after : AreAged index age → ((x : X) (i : ℕ) → index x ≡ Some i → i < next)
      → ((x : X) → index' x ≡ index_after (resets x) (starts x) next (index x)) → ((x : X) → age' x ≡ cond (resets x) 0 (older (starts x) (age x))) → AreAged index' age'
  aged-after h below now aged = record {
    old = λ x i at. let c = index_cases (resets x) (starts x) next i (index x) (sym (now x) ∙ at) in
        (elim c.1 [
          | inl was ↦ (let e : age' x ≡ age x + 1 = stays_old (resets x) (starts x) (age x) (age' x) c.0 (h.old x i was) (aged x) in omega arith)
          | inr new ↦ (let e : age' x ≡ 1 = is_born (resets x) (starts x) (age x) (age' x) c.0 new.1 (h.unborn x new.0) (aged x) in omega arith)
        ]);
    unborn = λ x none.
        (elim (none_cases (resets x) (starts x) next (index x) (sym (now x) ∙ none)) [
          | inl taken ↦ (aged x ∙ ap (λ t. cond t 0 (older (starts x) (age x))) taken)
          | inr still ↦ stays_unborn (resets x) (starts x) (age x) (age' x) still.0 still.2 (h.unborn x still.1) (aged x)
        ]);
    order = λ x y i j at at' less.
        let c = index_cases (resets x) (starts x) next i (index x) (sym (now x) ∙ at) in
        let d = index_cases (resets y) (starts y) next j (index y) (sym (now y) ∙ at') in
        (elim c.1 [
          | inl was ↦ (elim d.1 [
            | inl was' ↦ (let e : age' x ≡ age x + 1 = stays_old (resets x) (starts x) (age x) (age' x) c.0 (h.old x i was) (aged x) in
                let e' : age' y ≡ age y + 1 = stays_old (resets y) (starts y) (age y) (age' y) d.0 (h.old y j was') (aged y) in
                omega (arith, h.order x y i j was was' less))
            | inr new' ↦ (let e : age' x ≡ age x + 1 = stays_old (resets x) (starts x) (age x) (age' x) c.0 (h.old x i was) (aged x) in
                let e' : age' y ≡ 1 = is_born (resets y) (starts y) (age y) (age' y) d.0 new'.1 (h.unborn y new'.0) (aged y) in
                omega (arith, h.old x i was))
          ])
          | inr new ↦ (elim d.1 [
            | inl was' ↦ absurd (omega (arith, new.2, below y j was', less))
            | inr new' ↦ absurd (omega (arith, new.2, new'.2, less))
          ])
        ]);
  }

-- what stands follows from indices
pub some_after : (r b : Bool) (next : ℕ) (o : Option ℕ) (stood : Bool) → is_some o ≡ stood → is_some (index_after r b next o) ≡ cond r false (b || stood)
some_after true b next o stood h = refl
some_after false true next None stood h = refl
some_after false true next (Some i) stood h = refl
some_after false false next None stood h = h
some_after false false next (Some i) stood h = h

began : (b : Bool) (stood : Bool) → cond (b || false) true stood ≡ (b || stood)
began true stood = refl
began false stood = refl

ended : (b : Bool) (stood : Bool) → cond (false || b) false stood ≡ cond b false (false || stood)
ended true stood = refl
ended false stood = refl

module _ {V : Type 0} where
  opened_or_taken : (p : Stack) (e : Event V) (stood : Bool) → cond (opens p e || takes p e) (is_opening (Some e)) stood ≡ cond (takes p e) false (opens p e || stood)
  opened_or_taken p (opening q) stood = began (path_eq q p) stood
  opened_or_taken p (giving l q) stood = refl
  opened_or_taken p (definition q n v) stood = refl
  opened_or_taken p (undefinition q n) stood = refl
  opened_or_taken p (deletion q) stood = ended (is_within q p) stood

  given_or_taken : (l : Name) (p : Stack) (e : Event V) (stood : Bool) → cond (gives l p e || takes p e) (is_giving (Some e)) stood ≡ cond (takes p e) false (gives l p e || stood)
  given_or_taken l p (opening q) stood = refl
  given_or_taken l p (giving k q) stood = began (bytes_eq k l && path_eq q p) stood
  given_or_taken l p (definition q n v) stood = refl
  given_or_taken l p (undefinition q n) stood = refl
  given_or_taken l p (deletion q) stood = ended (is_within q p) stood

  pub stands-after : (es : List (Event V)) (e : Event V) (p : Stack) → stands (es ++ e ∷ []) p ≡ cond (takes p e) false (opens p e || stands es p)
  stands-after es e p = stands-push es e p ∙ opened_or_taken p e (stands es p)

  pub names-after : (es : List (Event V)) (e : Event V) (l : Name) (p : Stack) → names (es ++ e ∷ []) l p ≡ cond (takes p e) false (gives l p e || names es l p)
  names-after es e l p = names-push es e l p ∙ given_or_taken l p e (names es l p)

  pub label_age-push : (es : List (Event V)) (e : Event V) (l : Name) (p : Stack) → label_age (es ++ e ∷ []) l p ≡ cond (takes p e) 0 (older (gives l p e) (label_age es l p))
  label_age-push es e l p = age_by-push (gives l p) (takes p) es e
