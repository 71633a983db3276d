-- Names in falling order of their bytes from the end, of which those stay open that no later one ends.
use Rattle.std.proofs.Common.{◌≡◌, ℕ, suc, ◌≤◌, ◌<◌, ◌-◌, Bool, true, false, cond, List, [], ◌∷◌, ◌++◌, length, reverse, take, drop, Option, Some, None, ◌⊎◌, inl, inr, refl, sym, ap, subst, ◌∙◌, arith}
use Rattle.std.specs.Prelude.{nat_lt}
use Rattle.std.specs.List.{AllByRecursion, slice_get}
use Rattle.std.specs.Str.{bytes_eq}
use Rattle.std.specs.Option.{unwrap_or}
use Rattle.std.proofs.lemmas.List.{length-append, reverse-append, take-append-drop, drop_at}
use Rattle.dt_model.specs.Lists.{IsIn}
use Rattle.dt_model.specs.Names.{Name}
use Rattle.dt_model.proofs.Tests.{bytes_eq_refl, bytes_eq_true, each_in, each_from}
use Rattle.dt_write.specs.declared.sharing.Row.{Row}
use Rattle.dt_write.specs.Sharing.{ends}
use Rattle.dt_write.specs.Rows.{lesser, gathered, left}
use Rattle.dt_write.proofs.Ends.{ends_of, ends_own, transitive_ends}
use Rattle.dt_write.proofs.Runs.{IsUpto, between, ends_upto, one_name}

-- ---- what one name takes off

lesser_is : (o : Option ℕ) (n : ℕ) → (o ≡ Some (lesser o n)) ⊎ (n ≡ lesser o n)
lesser_is None n = inr refl
lesser_is (Some a) n = step (nat_lt a n)
  where
    step : (b : Bool) → (Some a ≡ Some (cond b a n)) ⊎ (n ≡ cond b a n)
    step true = inl refl
    step false = inr refl

lesser_own : (o : Option ℕ) (n : ℕ) → lesser o n ≤ n
lesser_own None n = omega arith
lesser_own (Some a) n = step (nat_lt a n) refl
  where
    step : (b : Bool) → nat_lt a n ≡ b → cond b a n ≤ n
    step true e = grind (arith, e)
    step false e = omega arith

lesser_other : (a n : ℕ) → lesser (Some a) n ≤ a
lesser_other a n = step (nat_lt a n) refl
  where
    step : (b : Bool) → nat_lt a n ≡ b → cond b a n ≤ a
    step true e = omega arith
    step false e = grind (arith, e)

-- an open row that the name ends, with this number
record Taken (x : Name) (stack : List Row) (f : ℕ) : Type 0 where
  pub row : Row
  pub there : IsIn row stack
  pub ended : ends x row.name.now ≡ true
  pub is : row.number ≡ f

taken : (x : Name) (acc : Option ℕ) (stack : List Row) (f : ℕ) → gathered x acc stack ≡ Some f → (acc ≡ Some f) ⊎ Taken x stack f
taken x acc [] f e = inl e
taken x acc (s ∷ stack) f e = step (ends x s.name.now) refl e (taken x (Some (lesser acc s.number)) stack f)
  where
    later : (lesser acc s.number ≡ f) → ends x s.name.now ≡ true → (acc ≡ Some (lesser acc s.number)) ⊎ (s.number ≡ lesser acc s.number) → (acc ≡ Some f) ⊎ Taken x (s ∷ stack) f
    later is t (inl k) = inl (k ∙ ap (λ (n : ℕ). Some n) is)
    later is t (inr k) = inr (record { row = s; there = inl refl; ended = t; is = k ∙ is })

    step : (b : Bool) → ends x s.name.now ≡ b → cond b (gathered x (Some (lesser acc s.number)) stack) acc ≡ Some f
        → (gathered x (Some (lesser acc s.number)) stack ≡ Some f → (Some (lesser acc s.number) ≡ Some f) ⊎ Taken x stack f) → (acc ≡ Some f) ⊎ Taken x (s ∷ stack) f
    step false t e more = inl e
    step true t e more = elim (more e) [
      | inl k ↦ later (let is : lesser acc s.number ≡ f = cc in is) t (lesser_is acc s.number)
      | inr k ↦ inr (record { row = k.row; there = inr k.there; ended = k.ended; is = k.is })
    ]

gathered_some : (x : Name) (a : ℕ) (stack : List Row) → gathered x (Some a) stack ≡ None → ⊥
gathered_some x a [] e = cc
gathered_some x a (s ∷ stack) e = step (ends x s.name.now) e (gathered_some x (lesser (Some a) s.number) stack)
  where
    step : (b : Bool) → cond b (gathered x (Some (lesser (Some a) s.number)) stack) (Some a) ≡ None → (gathered x (Some (lesser (Some a) s.number)) stack ≡ None → ⊥) → ⊥
    step true e more = more e
    step false e more = cc

gathered_upto : (x : Name) (a : ℕ) (stack : List Row) (f : ℕ) → gathered x (Some a) stack ≡ Some f → f ≤ a
gathered_upto x a [] f e = let is : a ≡ f = cc in omega (arith, is)
gathered_upto x a (s ∷ stack) f e = step (ends x s.name.now) e (gathered_upto x (lesser (Some a) s.number) stack f)
  where
    step : (b : Bool) → cond b (gathered x (Some (lesser (Some a) s.number)) stack) (Some a) ≡ Some f → (gathered x (Some (lesser (Some a) s.number)) stack ≡ Some f → f ≤ lesser (Some a) s.number) → f ≤ a
    step true e more = omega (arith, more e, lesser_other a s.number)
    step false e more = let is : a ≡ f = cc in omega (arith, is)

-- each open row stands no later than those below it
abbrev pub Rise : List Row → Type 0
Rise [] = Unit {0}
Rise (s ∷ stack) = AllByRecursion (λ t. IsUpto s.name.now t.name.now) stack × Rise stack

abbrev pub IsAbove : Name → List Row → Type 0
IsAbove x stack = AllByRecursion (λ t. IsUpto x t.name.now) stack

-- a row that the name ends isn't behind one that it doesn't end
not_behind : (x : Name) (s : Row) (stack : List Row) (t : Row) → IsUpto x s.name.now → AllByRecursion (λ u. IsUpto s.name.now u.name.now) stack → IsIn t stack → ends x t.name.now ≡ true → ends x s.name.now ≡ true
not_behind x s stack t low rise i e = between x s.name.now t.name.now low (each_in (λ u. IsUpto s.name.now u.name.now) stack t rise i) e

none_taken : (x : Name) (stack : List Row) → Rise stack → IsAbove x stack → gathered x None stack ≡ None → (t : Row) → IsIn t stack → ends x t.name.now ≡ true → ⊥
none_taken x [] rise low e t i is = i
none_taken x (s ∷ stack) rise low e t i is = step (ends x s.name.now) refl e i
  where
    at : (b : Bool) → ends x s.name.now ≡ b → b ≡ false → ends x s.name.now ≡ true → ⊥
    at true k f g = cc
    at false k f g = let h : true ≡ false = sym g ∙ k in cc

    step : (b : Bool) → ends x s.name.now ≡ b → cond b (gathered x (Some (lesser None s.number)) stack) None ≡ None → IsIn t (s ∷ stack) → ⊥
    step true k e i = gathered_some x (lesser None s.number) stack e
    step false k e (inl same) = at false k refl (subst (λ (r : Row). ends x r.name.now ≡ true) same is)
    step false k e (inr j) = at false k refl (not_behind x s stack t low.0 rise.0 j is)

least_taken : (x : Name) (acc : Option ℕ) (stack : List Row) (f : ℕ) → Rise stack → IsAbove x stack → gathered x acc stack ≡ Some f → (t : Row) → IsIn t stack → ends x t.name.now ≡ true → f ≤ t.number
least_taken x acc [] f rise low e t i is = absurd i
least_taken x acc (s ∷ stack) f rise low e t i is = step (ends x s.name.now) refl e i (λ e' j. least_taken x (Some (lesser acc s.number)) stack f rise.1 low.1 e' t j is)
  where
    step : (b : Bool) → ends x s.name.now ≡ b → cond b (gathered x (Some (lesser acc s.number)) stack) acc ≡ Some f → IsIn t (s ∷ stack)
        → (gathered x (Some (lesser acc s.number)) stack ≡ Some f → IsIn t stack → f ≤ t.number) → f ≤ t.number
    step true k e (inl same) more = omega (arith, gathered_upto x (lesser acc s.number) stack f e, lesser_own acc s.number, ap (λ (r : Row). r.number) same)
    step true k e (inr j) more = more e j
    step false k e (inl same) more = absurd (let g : ends x s.name.now ≡ true = subst (λ (r : Row). ends x r.name.now ≡ true) same is in let h : true ≡ false = sym g ∙ k in cc)
    step false k e (inr j) more = absurd (let g = not_behind x s stack t low.0 rise.0 j is in let h : true ≡ false = sym g ∙ k in cc)

-- ---- what is left

left_or : (x : Name) (stack : List Row) (t : Row) → IsIn t stack → (ends x t.name.now ≡ true) ⊎ IsIn t (left x stack)
left_or x [] t i = absurd i
left_or x (s ∷ stack) t i = step (ends x s.name.now) refl i (left_or x stack t)
  where
    step : (b : Bool) → ends x s.name.now ≡ b → IsIn t (s ∷ stack) → (IsIn t stack → (ends x t.name.now ≡ true) ⊎ IsIn t (left x stack)) → (ends x t.name.now ≡ true) ⊎ IsIn t (cond b (left x stack) (s ∷ stack))
    step true k (inl same) more = inl (subst (λ (r : Row). ends x r.name.now ≡ true) (sym same) k)
    step true k (inr j) more = more j
    step false k i more = inr i

left_all : (P : Row → Type 0) (x : Name) (stack : List Row) → AllByRecursion P stack → AllByRecursion P (left x stack)
left_all P x [] h = tt
left_all P x (s ∷ stack) h = step (ends x s.name.now) (left_all P x stack h.1)
  where
    step : (b : Bool) → AllByRecursion P (left x stack) → AllByRecursion P (cond b (left x stack) (s ∷ stack))
    step true more = more
    step false more = h

left_rise : (x : Name) (stack : List Row) → Rise stack → Rise (left x stack)
left_rise x [] h = tt
left_rise x (s ∷ stack) h = step (ends x s.name.now) (left_rise x stack h.1)
  where
    step : (b : Bool) → Rise (left x stack) → Rise (cond b (left x stack) (s ∷ stack))
    step true more = more
    step false more = h

-- ---- as the code takes them off, the last first

pub record Last {X : Type 0} (xs : List X) (x : X) : Type 0 where
  pub front : List X
  pub is : xs ≡ front ++ x ∷ []

shorter : {X : Type 0} (y z : X) (zs : List X) → slice_get (z ∷ zs) (length (z ∷ zs) - 1) ≡ slice_get (y ∷ z ∷ zs) (length (y ∷ z ∷ zs) - 1)
shorter {X} y z zs =
    let one : length (z ∷ zs) - 1 ≡ length zs = omega arith in
    let two : length (y ∷ z ∷ zs) - 1 ≡ suc (length zs) = omega arith in
    ap (slice_get (z ∷ zs)) one ∙ sym (ap (slice_get (y ∷ z ∷ zs)) two)

pub last_is : {X : Type 0} (xs : List X) (x : X) → slice_get xs (length xs - 1) ≡ Some x → Last xs x
last_is [] x e = absurd cc
last_is (y ∷ []) x e = let same : y ≡ x = cc in record { front = []; is = ap (λ z. z ∷ []) same }
last_is (y ∷ z ∷ zs) x e = let more = last_is (z ∷ zs) x (shorter y z zs ∙ e) in record { front = y ∷ more.front; is = ap (λ l. y ∷ l) more.is }

pub none_last : {X : Type 0} (xs : List X) → slice_get xs (length xs - 1) ≡ None → xs ≡ []
none_last [] e = refl
none_last (y ∷ []) e = absurd cc
none_last (y ∷ z ∷ zs) e = absurd (let h = none_last (z ∷ zs) (shorter y z zs ∙ e) in cc)

-- the name that the code finds to end another, or not
pub end_is : (n m : Name) → length n ≤ length m → ends n m ≡ bytes_eq (drop (length m - length n) m) n
end_is n m le = by (bytes_eq (drop (length m - length n) m) n) refl
  where
    by : (b : Bool) → bytes_eq (drop (length m - length n) m) n ≡ b → ends n m ≡ b
    by true e =
        let same : drop (length m - length n) m ≡ n = bytes_eq_true (drop (length m - length n) m) n e in
        let whole : m ≡ take (length m - length n) m ++ n = sym (take-append-drop (length m - length n) m) ∙ ap (λ (x : Name). take (length m - length n) m ++ x) same in
        subst (λ (x : Name). ends n x ≡ true) (sym whole) (ends_own (take (length m - length n) m) n)
    by false e = other (ends n m) refl
      where
        other : (t : Bool) → ends n m ≡ t → t ≡ false
        other false k = refl
        other true k =
            let h = ends_of n m k in
            let size : length h.front ≡ length m - length n = omega (arith, ap length h.is, length-append h.front n) in
            let rest : drop (length m - length n) m ≡ n = ap (drop (length m - length n)) h.is ∙ drop_at h.front n (length m - length n) size in
            absurd (let f : true ≡ false = sym (ap (λ (x : Name). bytes_eq x n) rest ∙ bytes_eq_refl n) ∙ e in cc)

pub no_end : (n m : Name) → length m < length n → ends n m ≡ false
no_end n m lt = other (ends n m) refl
  where
    other : (t : Bool) → ends n m ≡ t → t ≡ false
    other false k = refl
    other true k = let h = ends_of n m k in absurd (omega (arith, lt, ap length h.is, length-append h.front n))

pub taken_step : (x : Name) (acc : Option ℕ) (stack new : List Row) (last : Row) → stack ≡ new ++ last ∷ [] → ends x last.name.now ≡ true
    → (gathered x (Some (lesser acc last.number)) (reverse new) ≡ gathered x acc (reverse stack)) × (left x (reverse new) ≡ left x (reverse stack))
taken_step x acc stack new last e is =
    let turned : reverse stack ≡ last ∷ reverse new = ap reverse e ∙ reverse-append new (last ∷ []) in (
      sym (ap (gathered x acc) turned ∙ ap (λ (b : Bool). cond b (gathered x (Some (lesser acc last.number)) (reverse new)) acc) is),
      sym (ap (left x) turned ∙ ap (λ (b : Bool). cond b (left x (reverse new)) (last ∷ reverse new)) is),
    )

pub taken_stop : (x : Name) (acc : Option ℕ) (stack : List Row) (last : Row) → slice_get stack (length stack - 1) ≡ Some last → ends x last.name.now ≡ false
    → (acc ≡ gathered x acc (reverse stack)) × (reverse stack ≡ left x (reverse stack))
taken_stop x acc stack last e is =
    let l = last_is stack last e in
    let turned : reverse stack ≡ last ∷ reverse l.front = ap reverse l.is ∙ reverse-append l.front (last ∷ []) in (
      sym (ap (gathered x acc) turned ∙ ap (λ (b : Bool). cond b (gathered x (Some (lesser acc last.number)) (reverse l.front)) acc) is),
      turned ∙ sym (ap (left x) turned ∙ ap (λ (b : Bool). cond b (left x (reverse l.front)) (last ∷ reverse l.front)) is),
    )

pub taken_all : (x : Name) (acc : Option ℕ) (stack : List Row) → slice_get stack (length stack - 1) ≡ None → (acc ≡ gathered x acc (reverse stack)) × (reverse stack ≡ left x (reverse stack))
taken_all x acc stack e =
    let none = none_last stack e in
    (sym (ap (λ (s : List Row). gathered x acc (reverse s)) none), ap reverse none ∙ sym (ap (λ (s : List Row). left x (reverse s)) none))

-- ---- rows that came, and the first of them that is stored and ends so

-- among the rows the name is the end of no other
pub record IsStored (P : Row → Type 0) (m : Name) : Type 0 where
  pub only : (r : Row) → P r → ends m r.name.now ≡ true → r.name.now ≡ m

-- this number is that of the first row that is stored and ends with the name
pub record IsFirst (P : Row → Type 0) (x : Name) (h : ℕ) : Type 0 where
  pub row : Row
  pub there : P row
  pub number : row.number ≡ h
  pub ended : ends x row.name.now ≡ true
  pub stored : IsStored P row.name.now
  pub least : (r : Row) → P r → IsStored P r.name.now → ends x r.name.now ≡ true → h ≤ r.number

-- some row has the name
pub record Has (P : Row → Type 0) (n : Name) : Type 0 where
  pub row : Row
  pub there : P row
  pub is : row.name.now ≡ n

pub record Under (stack : List Row) (n : Name) : Type 0 where
  pub row : Row
  pub there : IsIn row stack
  pub ended : ends row.name.now n ≡ true

-- the open rows, the last first: each row that came ends with one of them, and each has the number of the first that is stored and ends so
pub record AreOpen (P : Row → Type 0) (stack : List Row) : Type 0 where
  pub under : (r : Row) → P r → Under stack r.name.now
  pub firsts : AllByRecursion (λ s. IsFirst P s.name.now s.number) stack
  pub rise : Rise stack
  pub own : AllByRecursion (λ s. Has P s.name.now) stack

-- one row more, which stands no later than those that came
pub record IsNext (P Q : Row → Type 0) (x : Row) : Type 0 where
  pub more : (r : Row) → Q r → P r ⊎ (r ≡ x)
  pub keep : (r : Row) → P r → Q r
  pub own : Q x
  pub low : (r : Row) → P r → IsUpto x.name.now r.name.now
  pub one : (r s : Row) → Q r → Q s → r.name.now ≡ s.name.now → r.number ≡ s.number

module _ (P Q : Row → Type 0) (x : Row) (next : IsNext P Q x) where
  fewer : (m : Name) → IsStored Q m → IsStored P m
  fewer m k = record { only = λ r p e. k.only r (next.keep r p) e }

  -- what was stored stays so: the new row is no longer than what it ends with
  stays : (r : Row) → P r → IsStored P r.name.now → IsStored Q r.name.now
  stays r p k = record { only = λ s q e. by s (next.more s q) e }
    where
      by : (s : Row) → P s ⊎ (s ≡ x) → ends r.name.now s.name.now ≡ true → s.name.now ≡ r.name.now
      by s (inl h) e = k.only s h e
      by s (inr same) e =
          let g : ends r.name.now x.name.now ≡ true = subst (λ (t : Row). ends r.name.now t.name.now ≡ true) same e in
          ap (λ (t : Row). t.name.now) same ∙ one_name x.name.now r.name.now (next.low r p) (ends_upto r.name.now x.name.now g)

  own_stored : (r : Row) → P r → IsStored Q x.name.now → ends x.name.now r.name.now ≡ true → r.number ≡ x.number
  own_stored r p k e = next.one r x (next.keep r p) next.own (k.only r (next.keep r p) e)

  pub still_first : (n : Name) (h : ℕ) → Has P n → IsFirst P n h → IsFirst Q n h
  still_first n h has f = record {
    row = f.row;
    there = next.keep f.row f.there;
    number = f.number;
    ended = f.ended;
    stored = stays f.row f.there f.stored;
    least = λ r q k e. by r (next.more r q) k e;
  }
    where
      by : (r : Row) → P r ⊎ (r ≡ x) → IsStored Q r.name.now → ends n r.name.now ≡ true → h ≤ r.number
      by r (inl p) k e = f.least r p (fewer r.name.now k) e
      by r (inr same) k e =
          let g : ends n x.name.now ≡ true = subst (λ (t : Row). ends n t.name.now ≡ true) same e in
          let own : IsStored Q x.name.now = subst (λ (t : Row). IsStored Q t.name.now) same k in
          let low : IsUpto x.name.now n = subst (λ (m : Name). IsUpto x.name.now m) has.is (next.low has.row has.there) in
          let is : x.name.now ≡ n = one_name x.name.now n low (ends_upto n x.name.now g) in
          let number = own_stored f.row f.there own (subst (λ (m : Name). ends m f.row.name.now ≡ true) (sym is) f.ended) in
          omega (arith, number, f.number, ap (λ (t : Row). t.number) same)

  module _ (stack : List Row) (before : AreOpen P stack) where
    above : IsAbove x.name.now stack
    above = each_from (λ t. IsUpto x.name.now t.name.now) stack
        (λ t i. let h = each_in (λ s. Has P s.name.now) stack t before.own i in subst (λ (m : Name). IsUpto x.name.now m) h.is (next.low h.row h.there))

    -- a row that came and ends with the new one is under an open one that does
    under_new : (r : Row) (p : P r) → ends x.name.now r.name.now ≡ true → ends x.name.now (before.under r p).row.name.now ≡ true
    under_new r p e =
        let u = before.under r p in
        between x.name.now u.row.name.now r.name.now (each_in (λ t. IsUpto x.name.now t.name.now) stack u.row above u.there) (ends_upto u.row.name.now r.name.now u.ended) e

    first_alone : gathered x.name.now None stack ≡ None → IsFirst Q x.name.now x.number
    first_alone none = record {
      row = x;
      there = next.own;
      number = refl;
      ended = ends_own [] x.name.now;
      stored = record { only = λ r q e. only r (next.more r q) e };
      least = λ r q k e. least r (next.more r q) e;
    }
      where
        no : (r : Row) → P r → ends x.name.now r.name.now ≡ true → ⊥
        no r p e = none_taken x.name.now stack before.rise above none (before.under r p).row (before.under r p).there (under_new r p e)

        only : (r : Row) → P r ⊎ (r ≡ x) → ends x.name.now r.name.now ≡ true → r.name.now ≡ x.name.now
        only r (inl p) e = absurd (no r p e)
        only r (inr same) e = ap (λ (t : Row). t.name.now) same

        least : (r : Row) → P r ⊎ (r ≡ x) → ends x.name.now r.name.now ≡ true → x.number ≤ r.number
        least r (inl p) e = absurd (no r p e)
        least r (inr same) e = omega (arith, ap (λ (t : Row). t.number) same)

    first_of_some : (f : ℕ) → gathered x.name.now None stack ≡ Some f → IsFirst Q x.name.now f
    first_of_some f some = with_taken (taken x.name.now None stack f some)
      where
        with_taken : (None ≡ Some f) ⊎ Taken x.name.now stack f → IsFirst Q x.name.now f
        with_taken (inl e) = absurd cc
        with_taken (inr t) = record {
          row = g.row;
          there = next.keep g.row g.there;
          number = g.number ∙ t.is;
          ended = through;
          stored = stays g.row g.there g.stored;
          least = λ r q k e. by r (next.more r q) k e;
        }
          where
            g : IsFirst P t.row.name.now t.row.number
            g = each_in (λ s. IsFirst P s.name.now s.number) stack t.row before.firsts t.there

            through : ends x.name.now g.row.name.now ≡ true
            through = transitive_ends x.name.now t.row.name.now g.row.name.now t.ended g.ended

            by : (r : Row) → P r ⊎ (r ≡ x) → IsStored Q r.name.now → ends x.name.now r.name.now ≡ true → f ≤ r.number
            by r (inl p) k e =
                let u = before.under r p in
                let h = each_in (λ s. IsFirst P s.name.now s.number) stack u.row before.firsts u.there in
                omega (arith, least_taken x.name.now None stack f before.rise above some u.row u.there (under_new r p e), h.least r p (fewer r.name.now k) u.ended)
            by r (inr same) k e =
                let own : IsStored Q x.name.now = subst (λ (s : Row). IsStored Q s.name.now) same k in
                omega (arith, own_stored g.row g.there own through, g.number, t.is, ap (λ (s : Row). s.number) same)

    -- the number of the first that is stored and ends with the new one
    pub first_new : IsFirst Q x.name.now (unwrap_or (gathered x.name.now None stack) x.number)
    first_new = by (gathered x.name.now None stack) refl
      where
        by : (o : Option ℕ) → gathered x.name.now None stack ≡ o → IsFirst Q x.name.now (unwrap_or o x.number)
        by None e = first_alone e
        by (Some f) e = first_of_some f e

    pub open_new : (top : Row) → top.name.now ≡ x.name.now → top.number ≡ unwrap_or (gathered x.name.now None stack) x.number → AreOpen Q (top ∷ left x.name.now stack)
    open_new top named numbered = record {
      under = λ r q. by r (next.more r q);
      firsts = (
        subst (λ (m : Name). IsFirst Q m top.number) (sym named) (subst (IsFirst Q x.name.now) (sym numbered) first_new),
        left_all (λ s. IsFirst Q s.name.now s.number) x.name.now stack (each_from (λ s. IsFirst Q s.name.now s.number) stack
            (λ s i. still_first s.name.now s.number (each_in (λ t. Has P t.name.now) stack s before.own i) (each_in (λ t. IsFirst P t.name.now t.number) stack s before.firsts i))),
      );
      rise = (subst (λ (m : Name). IsAbove m (left x.name.now stack)) (sym named) (left_all (λ t. IsUpto x.name.now t.name.now) x.name.now stack above), left_rise x.name.now stack before.rise);
      own = (
        record { row = x; there = next.own; is = sym named },
        left_all (λ s. Has Q s.name.now) x.name.now stack (each_from (λ s. Has Q s.name.now) stack
            (λ s i. let h = each_in (λ t. Has P t.name.now) stack s before.own i in record { row = h.row; there = next.keep h.row h.there; is = h.is })),
      );
    }
      where
        new_top : (n : Name) → ends x.name.now n ≡ true → Under (top ∷ left x.name.now stack) n
        new_top n e = record { row = top; there = inl refl; ended = subst (λ (m : Name). ends m n ≡ true) (sym named) e }

        old : (r : Row) (p : P r) → (ends x.name.now (before.under r p).row.name.now ≡ true) ⊎ IsIn (before.under r p).row (left x.name.now stack) → Under (top ∷ left x.name.now stack) r.name.now
        old r p (inl e) = new_top r.name.now (transitive_ends x.name.now (before.under r p).row.name.now r.name.now e (before.under r p).ended)
        old r p (inr i) = record { row = (before.under r p).row; there = inr i; ended = (before.under r p).ended }

        by : (r : Row) → P r ⊎ (r ≡ x) → Under (top ∷ left x.name.now stack) r.name.now
        by r (inl p) = old r p (left_or x.name.now stack (before.under r p).row (before.under r p).there)
        by r (inr same) = new_top r.name.now (subst (λ (s : Row). ends x.name.now s.name.now ≡ true) (sym same) (ends_own [] x.name.now))
