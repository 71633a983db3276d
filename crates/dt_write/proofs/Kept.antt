-- Each name is the end of one that is kept, and is found there.
use Rattle.std.proofs.Common.{◌≡◌, ℕ, zero, suc, ◌+◌, ◌≤◌, Bool, true, false, cond, ◌||◌, List, [], ◌∷◌, ◌++◌, length, Some, inl, inr, refl, sym, ap, subst, ◌∙◌, append_assoc, arith}
use Rattle.std.specs.List.{flat_map, list_any, AllByRecursion}
use Rattle.std.specs.Option.{unwrap_or}
use Rattle.std.proofs.lemmas.List.{length-append}
use Rattle.dt_model.specs.Format.{HoldsName, IsText}
use Rattle.dt_model.specs.Lists.{IsIn}
use Rattle.dt_model.specs.Names.{Name}
use Rattle.dt_model_format.specs.Strings.{terminated, place_in}
use Rattle.dt_write.specs.Written.{is_end, kept_of, strings_block, offset_of}
use Rattle.dt_write.specs.Sharing.{ends, IsInFirst}
use Rattle.dt_write.proofs.Places.{sound}
use Rattle.dt_write.proofs.Ends.{Ends, ended, ends_of, ends_own, first_place}

pub record Longer (n : Name) (names : List Name) : Type 0 where
  pub name : Name
  pub there : IsIn name names
  pub longer : is_end n name ≡ true

pub longer_in : (n : Name) (names : List Name) → list_any (is_end n) names ≡ true → Longer n names
longer_in n [] e = absurd cc
longer_in n (m ∷ names) e = step (is_end n m) refl e (longer_in n names)
  where
    step : (t : Bool) → is_end n m ≡ t → (t || list_any (is_end n) names) ≡ true → (list_any (is_end n) names ≡ true → Longer n names) → Longer n (m ∷ names)
    step true is e more = record { name = m; there = inl refl; longer = is }
    step false is e more = let h = more e in record { name = h.name; there = inr h.there; longer = h.longer }

pub kept_there : (all names : List Name) (n : Name) → IsIn n names → list_any (is_end n) all ≡ false → IsIn n (kept_of all names)
kept_there all [] n h e = absurd h
kept_there all (m ∷ names) n (inl same) e = rw (subst (λ (x : Name). list_any (is_end x) all ≡ false) same e) (inl same)
kept_there all (m ∷ names) n (inr h) e = step (list_any (is_end m) all) (kept_there all names n h e)
  where
    step : (t : Bool) → IsIn n (kept_of all names) → IsIn n (cond t (kept_of all names) (m ∷ kept_of all names))
    step true h = h
    step false h = inr h

-- what holds of all names holds of those that are kept
pub kept_all : (P : Name → Type 0) (all names : List Name) → AllByRecursion P names → AllByRecursion P (kept_of all names)
kept_all P all [] h = tt
kept_all P all (n ∷ names) h = step (list_any (is_end n) all) (kept_all P all names h.1)
  where
    step : (t : Bool) → AllByRecursion P (kept_of all names) → AllByRecursion P (cond t (kept_of all names) (n ∷ kept_of all names))
    step true more = more
    step false more = (h.0, more)

bound : (names : List Name) (n : Name) → IsIn n names → length n ≤ length (flat_map terminated names)
bound [] n h = absurd h
bound (m ∷ names) n (inl same) = omega (arith, ap length same, length-append m (0 ∷ []), length-append (terminated m) (flat_map terminated names))
bound (m ∷ names) n (inr h) = omega (arith, bound names n h, length-append (terminated m) (flat_map terminated names))

record Heir (names : List Name) (n : Name) : Type 0 where
  pub name : Name
  pub there : IsIn name (kept_of names names)
  pub ended : Ends n name

own_heir : (names : List Name) (n : Name) → IsIn n names → list_any (is_end n) names ≡ false → Heir names n
own_heir names n h e = record { name = n; there = kept_there names names n h e; ended = record { front = []; is = refl } }

heir : (k : ℕ) (names : List Name) (n : Name) → IsIn n names → length (flat_map terminated names) ≤ length n + k → Heir names n
heir zero names n h most = step (list_any (is_end n) names) refl
  where
    step : (t : Bool) → list_any (is_end n) names ≡ t → Heir names n
    step false e = own_heir names n h e
    step true e = let l = longer_in n names e in absurd (omega (arith, most, (ended n l.name l.longer).1, bound names l.name l.there))
heir (suc k) names n h most = step (λ m. heir k names m) (list_any (is_end n) names) refl
  where
    step : ((m : Name) → IsIn m names → length (flat_map terminated names) ≤ length m + k → Heir names m) → (t : Bool) → list_any (is_end n) names ≡ t → Heir names n
    step more false e = own_heir names n h e
    step more true e =
        let l = longer_in n names e in
        let x = ended n l.name l.longer in
        let m = more l.name l.there (omega (arith, most, x.1)) in
        record {
          name = m.name;
          there = m.there;
          ended = record { front = m.ended.front ++ x.0.front; is = m.ended.is ∙ ap (λ (y : Name). m.ended.front ++ y) x.0.is ∙ sym (append_assoc m.ended.front x.0.front n) };
        }

-- ---- the first that ends so

record First (n : Name) (names : List Name) : Type 0 where
  pub before : List Name
  pub holder : Name
  pub behind : List Name
  pub is : names ≡ before ++ holder ∷ behind
  pub ended : ends n holder ≡ true
  pub none : AllByRecursion (λ m. ends n m ≡ false) before

first_in : (n m : Name) (names : List Name) → IsIn m names → ends n m ≡ true → First n names
first_in n m [] h e = absurd h
first_in n m (x ∷ names) h e = step (ends n x) refl h (λ i. first_in n m names i e)
  where
    step : (t : Bool) → ends n x ≡ t → IsIn m (x ∷ names) → (IsIn m names → First n names) → First n (x ∷ names)
    step true is h more = record { before = []; holder = x; behind = names; is = refl; ended = is; none = tt }
    step false is (inl same) more = absurd (let f : ends n x ≡ true = subst (λ (y : Name). ends n y ≡ true) same e in let g : true ≡ false = sym f ∙ is in cc)
    step false is (inr i) more =
        let f = more i in
        record { before = x ∷ f.before; holder = f.holder; behind = f.behind; is = ap (λ (l : List Name). x ∷ l) f.is; ended = f.ended; none = (is, f.none) }

-- where the first stored name that ends so has it, the strings block has the name first
pub in_first_is : (names : List Name) (n : Name) (offset : ℕ) → IsText n → AllByRecursion IsText names → IsInFirst names n offset → place_in (strings_block names) n ≡ Some offset
in_first_is names n offset text texts h =
    let kept : AllByRecursion IsText (h.before ++ h.holder ∷ h.behind) = subst (AllByRecursion IsText) h.stored (kept_all IsText names names texts) in
    ap (λ (l : List Name). place_in (flat_map terminated l) n) h.stored ∙ first_place h.before h.holder h.behind h.front n text kept h.first h.ended ∙ ap (λ (k : ℕ). Some k) (sym h.is)

pub offset_in_first : (names : List Name) (n : Name) (offset : ℕ) → IsText n → AllByRecursion IsText names → IsInFirst names n offset → offset ≡ offset_of names n
offset_in_first names n offset text texts h = sym (ap (λ o. unwrap_or o 0) (in_first_is names n offset text texts h))

first_found : (names : List Name) (n : Name) → IsText n → AllByRecursion IsText names → (f : First n (kept_of names names)) → Ends n f.holder → IsInFirst names n (offset_of names n)
first_found names n text texts f e =
    record { before = f.before; holder = f.holder; behind = f.behind; front = e.front; stored = f.is; ended = e.is; first = f.none; is = sym (offset_in_first names n (length (flat_map terminated f.before) + length e.front) text texts there) }
  where
    there : IsInFirst names n (length (flat_map terminated f.before) + length e.front)
    there = record { before = f.before; holder = f.holder; behind = f.behind; front = e.front; stored = f.is; ended = e.is; first = f.none; is = refl }

pub in_first : (names : List Name) (n : Name) → IsText n → AllByRecursion IsText names → IsIn n names → IsInFirst names n (offset_of names n)
in_first names n text texts i =
    let own = heir (length (flat_map terminated names)) names n i (omega arith) in
    let f = first_in n own.name (kept_of names names) own.there (subst (λ (m : Name). ends n m ≡ true) (sym own.ended.is) (ends_own own.ended.front n)) in
    first_found names n text texts f (ends_of n f.holder f.ended)

-- the strings block holds each name
pub held : (names : List Name) (n : Name) → IsText n → AllByRecursion IsText names → IsIn n names → HoldsName (strings_block names) (offset_of names n) n
held names n text texts i =
    let place = in_first_is names n (offset_of names n) text texts (in_first names n text texts i) in
    sound (strings_block names) n (offset_of names n) text place
