-- What stands, and what labels and properties are left, after one more event.
use Rattle.std.proofs.Common.{◌≡◌, ◌≤◌, Bool, true, false, ◌||◌, ◌&&◌, cond, List, [], ◌∷◌, ◌++◌, length, ◌⊎◌, inl, inr, Some, refl, sym, ap, ◌∙◌, arith}
use Rattle.std.specs.Str.{bytes_eq}
use Rattle.std.proofs.lemmas.Bool.{and_parts, or_cases, cases_Bool}
use Rattle.dt_model.specs.Names.{Name}
use Rattle.dt_model.specs.Path.{path_eq}
use Rattle.dt_model.specs.Event.{Stack, Event, opening, giving, definition, undefinition, deletion, is_within, stands, value_at, names}
use Rattle.dt_model.proofs.EventSteps.{bytes_eq-is, path_eq-is, path_eq-refl, stands-push, value_at-push, names-push}
use Rattle.dt_model.proofs.Cases.{cond_true, cond_false, cond_none, cond_some_or, either_false, neither}

-- ---- nodes within nodes

within_longer : (q p : Stack) → is_within q p ≡ true → length q ≤ length p
within_longer q [] h = let e : q ≡ [] = path_eq-is q [] h in let l : length q ≡ 0 = ap length e in omega arith
within_longer q (x ∷ p) h =
    elim (or_cases (path_eq q (x ∷ p)) (is_within q p) h) [
      | inl t ↦ let l : length q ≡ length (x ∷ p) = ap length (path_eq-is q (x ∷ p) t) in omega arith
      | inr t ↦ let l = within_longer q p t in omega arith
    ]

pub child_not_within : (n : Name) (p : Stack) → is_within (n ∷ p) p ≡ false
child_not_within n p =
    elim (cases_Bool (is_within (n ∷ p) p)) [
      | inl t ↦ let l = within_longer (n ∷ p) p t in absurd (omega arith)
      | inr f ↦ f
    ]

pub not_within_parent : (q : Stack) (x : Name) (p : Stack) → is_within q (x ∷ p) ≡ false → is_within q p ≡ false
not_within_parent q x p h = (neither (path_eq q (x ∷ p)) (is_within q p) h).1

-- ---- one more event

still_stands : (b : Bool) → cond b true true ≡ true
still_stands true = refl
still_stands false = refl

module _ {V : Type 0} where
  pub opened : (es : List (Event V)) (q p : Stack) → stands (es ++ opening q ∷ []) p ≡ true → (q ≡ p) ⊎ (stands es p ≡ true)
  opened es q p h =
      elim (cond_true (path_eq q p || false) (stands es p) (sym (stands-push es (opening q) p) ∙ h)) [
        | inl t ↦ inl (path_eq-is q p (either_false (path_eq q p) t))
        | inr t ↦ inr t
      ]

  pub opened_itself : (es : List (Event V)) (q : Stack) → stands (es ++ opening q ∷ []) q ≡ true
  opened_itself es q = stands-push es (opening q) q ∙ ap (λ b. cond (b || false) true (stands es q)) (path_eq-refl q)

  pub opened_before : (es : List (Event V)) (q p : Stack) → stands es p ≡ true → stands (es ++ opening q ∷ []) p ≡ true
  opened_before es q p h = stands-push es (opening q) p ∙ ap (λ b. cond (path_eq q p || false) true b) h ∙ still_stands (path_eq q p || false)

  pub deleted : (es : List (Event V)) (q p : Stack) → stands (es ++ deletion q ∷ []) p ≡ true → (is_within q p ≡ false) × (stands es p ≡ true)
  deleted es q p h = cond_false (is_within q p) (stands es p) (sym (stands-push es (deletion q) p) ∙ h)

  pub not_deleted : (es : List (Event V)) (q p : Stack) → is_within q p ≡ false → stands es p ≡ true → stands (es ++ deletion q ∷ []) p ≡ true
  not_deleted es q p out h = stands-push es (deletion q) p ∙ ap (λ b. cond b false (stands es p)) out ∙ h

  pub given : (es : List (Event V)) (k l : Name) (q p : Stack) → names (es ++ giving k q ∷ []) l p ≡ true → ((k ≡ l) × (q ≡ p)) ⊎ (names es l p ≡ true)
  given es k l q p h =
      elim (cond_true ((bytes_eq k l && path_eq q p) || false) (names es l p) (sym (names-push es (giving k q) l p) ∙ h)) [
        | inl t ↦
            let both = and_parts (bytes_eq k l) (path_eq q p) (either_false (bytes_eq k l && path_eq q p) t) in
            inl (bytes_eq-is k l both.0, path_eq-is q p both.1)
        | inr t ↦ inr t
      ]

  pub name_kept : (es : List (Event V)) (q : Stack) (l : Name) (p : Stack) → names (es ++ deletion q ∷ []) l p ≡ true → (is_within q p ≡ false) × (names es l p ≡ true)
  name_kept es q l p h = cond_false (is_within q p) (names es l p) (sym (names-push es (deletion q) l p) ∙ h)

  pub put : (es : List (Event V)) (q p : Stack) (m n : Name) (w v : V) → value_at (es ++ definition q m w ∷ []) p n ≡ Some v → (q ≡ p) ⊎ (value_at es p n ≡ Some v)
  put es q p m n w v h =
      elim (cond_some_or ((path_eq q p && bytes_eq m n) || false) (value_at es p n) w v (sym (value_at-push es (definition q m w) p n) ∙ h)) [
        | inl t ↦ inl (path_eq-is q p (and_parts (path_eq q p) (bytes_eq m n) (either_false (path_eq q p && bytes_eq m n) t.0)).0)
        | inr t ↦ inr t
      ]

  pub value_left : (es : List (Event V)) (q p : Stack) (m n : Name) (v : V) → value_at (es ++ undefinition q m ∷ []) p n ≡ Some v → value_at es p n ≡ Some v
  value_left es q p m n v h = (cond_none (path_eq q p && bytes_eq m n) (value_at es p n) v (sym (value_at-push es (undefinition q m) p n) ∙ h)).1

  pub value_kept : (es : List (Event V)) (q p : Stack) (n : Name) (v : V) → value_at (es ++ deletion q ∷ []) p n ≡ Some v → (is_within q p ≡ false) × (value_at es p n ≡ Some v)
  value_kept es q p n v h = cond_none (is_within q p) (value_at es p n) v (sym (value_at-push es (deletion q) p n) ∙ h)
