-- No strings that hold all names are shorter than those that share ends.
use Rattle.std.proofs.Common.{◌≡◌, ◌≢◌, ℕ, zero, suc, ◌+◌, ◌≤◌, Bool, true, false, cond, List, [], ◌∷◌, ◌++◌, length, Option, Some, None, is_some, ◌⊎◌, inl, inr, refl, sym, ap, subst, ◌∙◌, arith}
use Rattle.std.specs.Option.{option_map, option_or}
use Rattle.std.specs.List.{flat_map, list_any, AllByRecursion}
use Rattle.std.proofs.lemmas.List.{length-append}
use Rattle.dt_model.specs.Format.{IsText}
use Rattle.dt_model.specs.Lists.{IsIn}
use Rattle.dt_model.specs.Names.{Name}
use Rattle.dt_model.specs.Valid.{AreDistinct}
use Rattle.dt_model.proofs.Tests.{bytes_eq_other, each_from}
use Rattle.dt_model_format.specs.Strings.{terminated, begins, place_in}
use Rattle.dt_write.specs.Written.{is_end, kept_of, strings_block}
use Rattle.dt_write.proofs.Places.{begun}
use Rattle.dt_write.proofs.Ends.{place_at_end, first_is_first, no_place, or_left, or_right}
use Rattle.dt_write.proofs.Kept.{kept_all}

-- none of the names is the end of another, or another itself
abbrev AreApart : List Name → Type 0
AreApart [] = Unit {0}
AreApart (k ∷ ks) = AllByRecursion (λ j. (place_at_end j k ≡ None) × (place_at_end k j ≡ None)) ks × AreApart ks

abbrev AreTexts : List Name → Type 0
AreTexts ks = AllByRecursion IsText ks

abbrev AreIn : List ℕ → List Name → Type 0
AreIn s ks = AllByRecursion (λ k. is_some (place_in s k) ≡ true) ks

-- one of the names that isn't in the strings, if one isn't
record Missing (s : List ℕ) (ks : List Name) : Type 0 where
  before : List Name
  name : Name
  behind : List Name
  are : ks ≡ before ++ name ∷ behind
  none : place_in s name ≡ None

missing : (s : List ℕ) (ks : List Name) → AreIn s ks ⊎ Missing s ks
missing s [] = inl tt
missing s (k ∷ ks) = step (place_in s k) refl (missing s ks)
  where
    step : (o : Option ℕ) → place_in s k ≡ o → AreIn s ks ⊎ Missing s ks → AreIn s (k ∷ ks) ⊎ Missing s (k ∷ ks)
    step None e more = inr (record { before = []; name = k; behind = ks; are = refl; none = e })
    step (Some x) e (inl more) = inl (ap is_some e, more)
    step (Some x) e (inr m) = inr (record { before = k ∷ m.before; name = m.name; behind = m.behind; are = ap (λ (l : List Name). k ∷ l) m.are; none = m.none })

-- ---- a name taken out

taken_out : (P : Name → Type 0) (before : List Name) (k : Name) (behind : List Name) → AllByRecursion P (before ++ k ∷ behind) → AllByRecursion P (before ++ behind) × P k
taken_out P [] k behind h = (h.1, h.0)
taken_out P (b ∷ before) k behind h = let m = taken_out P before k behind h.1 in ((h.0, m.0), m.1)

apart_out : (before : List Name) (k : Name) (behind : List Name) → AreApart (before ++ k ∷ behind) → AreApart (before ++ behind) × AllByRecursion (λ j. place_at_end j k ≡ None) (before ++ behind)
apart_out [] k behind h = (h.1, firsts behind h.0)
  where
    firsts : (js : List Name) → AllByRecursion (λ j. (place_at_end j k ≡ None) × (place_at_end k j ≡ None)) js → AllByRecursion (λ j. place_at_end j k ≡ None) js
    firsts [] h = tt
    firsts (j ∷ js) h = (h.0.0, firsts js h.1)
apart_out (b ∷ before) k behind h =
    let m = apart_out before k behind h.1 in
    let own = taken_out (λ j. (place_at_end j b ≡ None) × (place_at_end b j ≡ None)) before k behind h.0 in
    ((own.0, m.0), (own.1.1, m.1))

total_out : (before : List Name) (k : Name) (behind : List Name) → length (flat_map terminated (before ++ k ∷ behind)) ≡ length (flat_map terminated (before ++ behind)) + suc (length k)
total_out [] k behind = omega (arith, length-append (terminated k) (flat_map terminated behind), length-append k (0 ∷ []))
total_out (b ∷ before) k behind =
    omega (arith, length-append (terminated b) (flat_map terminated (before ++ k ∷ behind)), length-append (terminated b) (flat_map terminated (before ++ behind)), total_out before k behind)

-- ---- each piece of the strings has one of them at most

in_rest : (k : Name) (rest : List ℕ) (js : List Name) → IsText k → AreTexts js → AllByRecursion (λ j. place_at_end j k ≡ None) js → AreIn (terminated k ++ rest) js → AreIn rest js
in_rest k rest [] t ts e h = tt
in_rest k rest (j ∷ js) t ts e h =
    (step (place_at_end j k) (place_in rest j) e.0 (subst (λ (o : Option ℕ). is_some o ≡ true) (first_is_first j k rest ts.0 t) h.0), in_rest k rest js t ts.1 e.1 h.1)
  where
    step : (o p : Option ℕ) → o ≡ None → is_some (option_or o (option_map (λ i. i + suc (length k)) p)) ≡ true → is_some p ≡ true
    step (Some x) p f g = absurd cc
    step None None f g = absurd cc
    step None (Some x) f g = refl

at_front : (b : ℕ) (s : List ℕ) (k : Name) → place_in s k ≡ None → is_some (place_in (b ∷ s) k) ≡ true → begins (terminated k) (b ∷ s) ≡ true
at_front b s k none some = step (begins (terminated k) (b ∷ s)) refl some
  where
    step : (t : Bool) → begins (terminated k) (b ∷ s) ≡ t → is_some (cond t (Some 0) (option_map (λ i. suc i) (place_in s k))) ≡ true → begins (terminated k) (b ∷ s) ≡ true
    step true e h = e
    step false e h = absurd (let g : is_some (option_map (λ i. suc i) (place_in s k)) ≡ false = ap (λ (o : Option ℕ). is_some (option_map (λ i. suc i) o)) none in cc)

short : (fuel : ℕ) (s : List ℕ) (ks : List Name) → length s ≤ fuel → AreTexts ks → AreApart ks → AreIn s ks → length (flat_map terminated ks) ≤ length s
short fuel [] [] le ts a h = omega arith
short fuel [] (k ∷ ks) le ts a h = absurd cc
short zero (b ∷ s) ks le ts a h = absurd (omega (arith, le))
short (suc fuel) (b ∷ s) ks le ts a h = step (short fuel) (missing s ks)
  where
    step : ((s : List ℕ) (ks : List Name) → length s ≤ fuel → AreTexts ks → AreApart ks → AreIn s ks → length (flat_map terminated ks) ≤ length s) → AreIn s ks ⊎ Missing s ks → length (flat_map terminated ks) ≤ length (b ∷ s)
    step more (inl all) = omega (arith, more s ks (omega (arith, le)) ts a all)
    step more (inr m) =
        let texts = taken_out IsText m.before m.name m.behind (subst AreTexts m.are ts) in
        let apart = apart_out m.before m.name m.behind (subst AreApart m.are a) in
        let there = taken_out (λ k. is_some (place_in (b ∷ s) k) ≡ true) m.before m.name m.behind (subst (AreIn (b ∷ s)) m.are h) in
        let g = begun (terminated m.name) (b ∷ s) (at_front b s m.name m.none there.1) in
        let len : length (b ∷ s) ≡ suc (length m.name) + length g.rest = ap length g.is ∙ omega (arith, length-append (terminated m.name) g.rest, length-append m.name (0 ∷ [])) in
        let others = in_rest m.name g.rest (m.before ++ m.behind) texts.1 texts.0 apart.1 (subst (λ (x : List ℕ). AreIn x (m.before ++ m.behind)) g.is there.0) in
        let less = more g.rest (m.before ++ m.behind) (omega (arith, le, len)) texts.0 apart.0 others in
        let sum : length (flat_map terminated ks) ≡ length (flat_map terminated (m.before ++ m.behind)) + suc (length m.name) = ap (λ (l : List Name). length (flat_map terminated l)) m.are ∙ total_out m.before m.name m.behind in
        omega (arith, less, len, sum)

-- ---- the names that are kept are apart

apart_from : (n m : Name) → n ≢ m → is_end n m ≡ false → place_at_end n m ≡ None
apart_from n m differs e = no_place n m (rw (bytes_eq_other n m differs) e)

pub not_end : (n m : Name) (all : List Name) → IsIn m all → list_any (is_end n) all ≡ false → is_end n m ≡ false
not_end n m [] h e = absurd h
not_end n m (x ∷ all) (inl same) e = subst (λ (y : Name). is_end n y ≡ false) (sym same) (or_left (is_end n x) (list_any (is_end n) all) e)
not_end n m (x ∷ all) (inr h) e = not_end n m all h (or_right (is_end n x) (list_any (is_end n) all) e)

kept_apart : (all names : List Name) → ((n : Name) → IsIn n names → IsIn n all) → AreDistinct names → AreApart (kept_of all names)
kept_apart all [] sub d = tt
kept_apart all (n ∷ names) sub d = step (list_any (is_end n) all) refl (kept_apart all names (λ m h. sub m (inr h)) d.1)
  where
    others : IsIn n all → list_any (is_end n) all ≡ false → (ms : List Name) → ((m : Name) → IsIn m ms → IsIn m all) → AllByRecursion (λ y. y ≢ n) ms
        → AllByRecursion (λ j. (place_at_end j n ≡ None) × (place_at_end n j ≡ None)) (kept_of all ms)
    others i e [] sub d = tt
    others i e (m ∷ ms) sub d = pick (list_any (is_end m) all) refl (others i e ms (λ k h. sub k (inr h)) d.1)
      where
        pick : (t : Bool) → list_any (is_end m) all ≡ t → AllByRecursion (λ j. (place_at_end j n ≡ None) × (place_at_end n j ≡ None)) (kept_of all ms)
            → AllByRecursion (λ j. (place_at_end j n ≡ None) × (place_at_end n j ≡ None)) (cond t (kept_of all ms) (m ∷ kept_of all ms))
        pick true f more = more
        pick false f more = ((apart_from m n d.0 (not_end m n all i f), apart_from n m (λ s. d.0 (sym s)) (not_end n m all (sub m (inl refl)) e)), more)

    step : (t : Bool) → list_any (is_end n) all ≡ t → AreApart (kept_of all names) → AreApart (cond t (kept_of all names) (n ∷ kept_of all names))
    step true e more = more
    step false e more = (others (sub n (inl refl)) e names (λ m h. sub m (inr h)) d.0, more)

pub shortest : (names : List Name) (strings : List ℕ) → AreDistinct names → AllByRecursion IsText names → ((n : Name) → IsIn n names → is_some (place_in strings n) ≡ true) → length (strings_block names) ≤ length strings
shortest names s d ts h =
    short (length s) s (kept_of names names) (omega arith) (kept_all IsText names names ts) (kept_apart names names (λ n i. i) d)
    (kept_all (λ k. is_some (place_in s k) ≡ true) names names (each_from (λ k. is_some (place_in s k) ≡ true) names h))

-- nor is the block longer than all names whole
pub no_longer : (all names : List Name) → length (flat_map terminated (kept_of all names)) ≤ length (flat_map terminated names)
no_longer all [] = omega arith
no_longer all (n ∷ names) = step (list_any (is_end n) all) (no_longer all names)
  where
    step : (t : Bool) → length (flat_map terminated (kept_of all names)) ≤ length (flat_map terminated names)
        → length (flat_map terminated (cond t (kept_of all names) (n ∷ kept_of all names))) ≤ length (flat_map terminated (n ∷ names))
    step true h = omega (arith, h, length-append (terminated n) (flat_map terminated names))
    step false h = omega (arith, h, length-append (terminated n) (flat_map terminated names), length-append (terminated n) (flat_map terminated (kept_of all names)))
