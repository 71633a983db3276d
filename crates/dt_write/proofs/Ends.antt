-- Names that end others, and where a name stands in strings that share ends.
use Rattle.std.proofs.Common.{◌≡◌, ℕ, suc, ◌+◌, ◌<◌, Bool, true, false, cond, ◌&&◌, ◌||◌, List, [], ◌∷◌, ◌++◌, length, reverse, Option, Some, None, refl, sym, ap, subst, ◌∙◌, append_assoc, arith}
use Rattle.std.specs.Prelude.{if◌then◌else◌, ◌==◌}
use Rattle.std.specs.Option.{option_map, option_or}
use Rattle.std.specs.List.{flat_map, AllByRecursion}
use Rattle.std.specs.Str.{bytes_eq}
use Rattle.std.proofs.lemmas.Bool.{ne_eqb}
use Rattle.std.proofs.lemmas.List.{length-append, reverse-append, reverse-reverse}
use Rattle.dt_model.specs.Format.{IsText}
use Rattle.dt_model.specs.Names.{Name}
use Rattle.dt_model.proofs.Tests.{bytes_eq_refl, bytes_eq_true, bytes_eq_other}
use Rattle.dt_model_format.specs.Strings.{terminated, begins, place_in}
use Rattle.dt_write.specs.Written.{is_end}
use Rattle.dt_write.specs.Sharing.{ends}
use Rattle.dt_write.proofs.Places.{begun, begins_own}

pub or_true : (p q : Bool) → q ≡ true → (p || q) ≡ true
or_true true q e = refl
or_true false q e = e

pub or_left : (p q : Bool) → (p || q) ≡ false → p ≡ false
or_left true q e = e
or_left false q e = refl

pub or_right : (p q : Bool) → (p || q) ≡ false → q ≡ false
or_right true q e = absurd cc
or_right false q e = e

pub record Ends (n m : Name) : Type 0 where
  pub front : List ℕ
  pub is : m ≡ front ++ n

pub ended : (n m : Name) → is_end n m ≡ true → Ends n m × (length n < length m)
ended n [] e = absurd cc
ended n (b ∷ m) e = step (bytes_eq n m) refl e (ended n m)
  where
    step : (t : Bool) → bytes_eq n m ≡ t → (t || is_end n m) ≡ true → (is_end n m ≡ true → Ends n m × (length n < length m)) → Ends n (b ∷ m) × (length n < length (b ∷ m))
    step true same e more = let s : n ≡ m = bytes_eq_true n m same in (record { front = b ∷ []; is = ap (λ (x : Name). b ∷ x) (sym s) }, omega (arith, ap length s))
    step false same e more = let h = more e in (record { front = b ∷ h.0.front; is = ap (λ (x : Name). b ∷ x) h.0.is }, omega (arith, h.1))

pub ends_of : (n m : Name) → ends n m ≡ true → Ends n m
ends_of n m e = step (bytes_eq n m) refl e
  where
    step : (t : Bool) → bytes_eq n m ≡ t → (t || is_end n m) ≡ true → Ends n m
    step true same e = record { front = []; is = sym (bytes_eq_true n m same) }
    step false same e = (ended n m e).0

pub ends_own : (front : List ℕ) (n : Name) → ends n (front ++ n) ≡ true
ends_own [] n = rw (bytes_eq_refl n) refl
ends_own (b ∷ front) n = or_true (bytes_eq n (b ∷ (front ++ n))) (ends n (front ++ n)) (ends_own front n)

pub transitive_ends : (n m o : Name) → ends n m ≡ true → ends m o ≡ true → ends n o ≡ true
transitive_ends n m o a b =
    let x = ends_of n m a in
    let y = ends_of m o b in
    let is : o ≡ (y.front ++ x.front) ++ n = y.is ∙ ap (λ (z : Name). y.front ++ z) x.is ∙ sym (append_assoc y.front x.front n) in
    subst (λ (z : Name). ends n z ≡ true) (sym is) (ends_own (y.front ++ x.front) n)

-- ---- by the bytes from the end

pub ends_begins : (n m : Name) → ends n m ≡ true → begins (reverse n) (reverse m) ≡ true
ends_begins n m e =
    let h = ends_of n m e in
    let turned : reverse m ≡ reverse n ++ reverse h.front = ap reverse h.is ∙ reverse-append h.front n in
    subst (λ (x : List ℕ). begins (reverse n) x ≡ true) (sym turned) (begins_own (reverse n) (reverse h.front))

pub begins_ends : (n m : Name) → begins (reverse n) (reverse m) ≡ true → ends n m ≡ true
begins_ends n m e =
    let h = begun (reverse n) (reverse m) e in
    let turned : m ≡ reverse h.rest ++ n = sym (reverse-reverse m) ∙ ap reverse h.is ∙ reverse-append (reverse n) h.rest ∙ ap (λ (x : List ℕ). reverse h.rest ++ x) (reverse-reverse n) in
    subst (λ (x : Name). ends n x ≡ true) (sym turned) (ends_own (reverse h.rest) n)

-- ---- where a name stands at the end of another

abbrev pub place_at_end : Name → Name → Option ℕ
place_at_end n [] = if bytes_eq n [] then Some 0 else None
place_at_end n (b ∷ m) = if bytes_eq n (b ∷ m) then Some 0 else option_map (λ k. suc k) (place_at_end n m)

longer_differs : (b : ℕ) (front : List ℕ) (n : Name) → bytes_eq n (b ∷ (front ++ n)) ≡ false
longer_differs b front n = bytes_eq_other n (b ∷ (front ++ n)) (λ same. omega (arith, ap length same, length-append front n))

pub place_ended : (front : List ℕ) (n : Name) → place_at_end n (front ++ n) ≡ Some (length front)
place_ended [] n = whole n (bytes_eq_refl n)
  where
    whole : (m : Name) → bytes_eq n m ≡ true → place_at_end n m ≡ Some 0
    whole [] e = ap (λ (b : Bool). cond b (Some 0) None) e
    whole (x ∷ m) e = ap (λ (b : Bool). cond b (Some 0) (option_map (λ k. suc k) (place_at_end n m))) e
place_ended (b ∷ front) n = rw (longer_differs b front n, place_ended front n) refl

pub no_place : (n m : Name) → ends n m ≡ false → place_at_end n m ≡ None
no_place n [] e = rw (or_left (bytes_eq n []) false e) refl
no_place n (b ∷ m) e = rw (or_left (bytes_eq n (b ∷ m)) (ends n m) e, no_place n m (or_right (bytes_eq n (b ∷ m)) (ends n m) e)) refl

-- a text and a NUL begin another text and a NUL only where they are one
begins_text : (n m : Name) (rest : List ℕ) → IsText n → IsText m → begins (terminated n) (terminated m ++ rest) ≡ bytes_eq n m
begins_text [] [] rest s t = refl
begins_text [] (y ∷ m) rest s t = rw (ne_eqb 0 y (λ e. t.0 (sym e))) refl
begins_text (x ∷ n) [] rest s t = rw (ne_eqb x 0 s.0) refl
begins_text (x ∷ n) (y ∷ m) rest s t = ap (λ (b : Bool). (x == y) && b) (begins_text n m rest s.1 t.1)

-- a name stands first in the first stored name that ends so
pub first_is_first : (n m : Name) (rest : List ℕ) → IsText n → IsText m → place_in (terminated m ++ rest) n ≡ option_or (place_at_end n m) (option_map (λ k. k + suc (length m)) (place_in rest n))
first_is_first n [] rest s t = ap (λ (b : Bool). cond b (Some 0) (option_map (λ k. suc k) (place_in rest n))) (begins_text n [] rest s t) ∙ step (bytes_eq n []) (place_in rest n)
  where
    step : (b : Bool) (p : Option ℕ) → cond b (Some 0) (option_map (λ k. suc k) p) ≡ option_or (cond b (Some 0) None) (option_map (λ k. k + suc 0) p)
    step true p = refl
    step false None = refl
    step false (Some k) = ap (λ (j : ℕ). Some j) (omega arith)
first_is_first n (b ∷ m) rest s t =
    ap (λ (c : Bool). cond c (Some 0) (option_map (λ k. suc k) (place_in (terminated m ++ rest) n))) (begins_text n (b ∷ m) rest s t)
    ∙ step (bytes_eq n (b ∷ m)) (place_in (terminated m ++ rest) n) (place_at_end n m) (place_in rest n) (first_is_first n m rest s t.1)
  where
    step : (c : Bool) (o e p : Option ℕ) → o ≡ option_or e (option_map (λ k. k + suc (length m)) p)
        → cond c (Some 0) (option_map (λ k. suc k) o) ≡ option_or (cond c (Some 0) (option_map (λ k. suc k) e)) (option_map (λ k. k + suc (length (b ∷ m))) p)
    step true o e p h = refl
    step false o (Some k) p h = ap (option_map (λ k. suc k)) h
    step false o None None h = ap (option_map (λ k. suc k)) h
    step false o None (Some k) h = ap (option_map (λ k. suc k)) h ∙ ap (λ (j : ℕ). Some j) (omega arith)

-- in names one after the other, a name stands first in the first of them that ends with it
pub first_place : (before : List Name) (holder : Name) (behind : List Name) (front : List ℕ) (n : Name) → IsText n → AllByRecursion IsText (before ++ holder ∷ behind) → AllByRecursion (λ m. ends n m ≡ false) before
    → holder ≡ front ++ n → place_in (flat_map terminated (before ++ holder ∷ behind)) n ≡ Some (length (flat_map terminated before) + length front)
first_place [] holder behind front n text texts none is =
    first_is_first n holder (flat_map terminated behind) text texts.0
    ∙ ap (λ (o : Option ℕ). option_or o (option_map (λ k. k + suc (length holder)) (place_in (flat_map terminated behind) n))) (ap (place_at_end n) is ∙ place_ended front n) ∙ ap (λ (j : ℕ). Some j) (omega arith)
first_place (m ∷ before) holder behind front n text texts none is =
    let rest = flat_map terminated (before ++ holder ∷ behind) in
    let more = first_place before holder behind front n text texts.1 none.1 is in
    let counted : length (flat_map terminated before) + length front + suc (length m) ≡ length (flat_map terminated (m ∷ before)) + length front =
    omega (arith, length-append (terminated m) (flat_map terminated before), length-append m (0 ∷ [])) in
    first_is_first n m rest text texts.0
    ∙ ap (λ (o : Option ℕ). option_or o (option_map (λ k. k + suc (length m)) (place_in rest n))) (no_place n m none.0)
    ∙ ap (option_map (λ k. k + suc (length m))) more ∙ ap (λ (j : ℕ). Some j) counted
