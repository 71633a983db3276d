-- The order by the last bytes at once is that of all bytes from the end.
use Rattle.std.proofs.Common.{◌≡◌, ℕ, zero, suc, ◌+◌, ◌-◌, ◌<◌, Bool, true, false, cond, List, [], ◌∷◌, length, reverse, get_or, ◌⊎◌, inl, inr, refl, sym, ap, ◌∙◌, arith}
use Rattle.std.specs.Prelude.{nat_lt, ◌==◌}
use Rattle.std.specs.Cmp.{IsStrictWeakOrder, nat_cmp_total, on_total, then_total}
use Rattle.std.specs.Cmp.Lexicographic.{slice_cmp, nat_list_cmp_total}
use Rattle.std.specs.List.Sorted.{IsSortedBy}
use Rattle.std.specs.Ordering.{nat_cmp, is_lt, ordering_then, ordering_reverse}
use Rattle.std.specs.declared.cmp.Ordering.{Ordering}
use Rattle.std.specs.declared.cmp.Ordering.TheVariants.{Less, Equal, Greater}
use Rattle.std.proofs.lemmas.Bool.{eq-eqb, ne_eqb}
use Rattle.std.proofs.lemmas.List.{get_or-reverse, get_or_past, length-reverse}
use Rattle.std.proofs.lemmas.List.Sorted.{ranks_by, IsStrictWeakOrder-flip}
use Rattle.dt_write.specs.declared.sharing.Row.{Row}
use Rattle.dt_write.specs.Rows.{leading, tail_of}

-- ---- bytes

abbrev AreSame : List ℕ → List ℕ → ℕ → Type 0
AreSame xs ys k = (i : ℕ) → i < k → get_or xs i 0 ≡ get_or ys i 0

first_less : (k : ℕ) (xs ys : List ℕ) → AreSame xs ys k → get_or xs k 0 < get_or ys k 0 → slice_cmp nat_cmp xs ys ≡ Less
first_less k [] [] same lt = absurd (omega (arith, lt))
first_less k [] (y ∷ ys) same lt = refl
first_less zero (x ∷ xs) [] same lt = absurd (omega (arith, lt))
first_less (suc k) (x ∷ xs) [] same lt = absurd (omega (arith, lt))
first_less zero (x ∷ xs) (y ∷ ys) same lt = step (nat_lt x y) refl
  where
    step : (b : Bool) → nat_lt x y ≡ b → ordering_then (cond b Less (cond (x == y) Equal Greater)) (slice_cmp nat_cmp xs ys) ≡ Less
    step true e = refl
    step false e = absurd (grind (arith, e, lt))
first_less (suc k) (x ∷ xs) (y ∷ ys) same lt =
    ap (λ o. ordering_then o (slice_cmp nat_cmp xs ys)) (level x y (same 0 (omega arith))) ∙ first_less k xs ys (λ i l. same (suc i) (omega (arith, l))) lt
  where
    level : (x y : ℕ) → x ≡ y → nat_cmp x y ≡ Equal
    level x y e = step (nat_lt x y) refl
      where
        step : (b : Bool) → nat_lt x y ≡ b → cond b Less (cond (x == y) Equal Greater) ≡ Equal
        step true k = absurd (grind (arith, k, e))
        step false k = ap (λ b. cond b Equal Greater) (eq-eqb x y e)

-- what the numbers of the first bytes say of all
abbrev Compared : List ℕ → List ℕ → ℕ → Type 0
Compared xs ys k = ((leading xs k ≡ leading ys k) × AreSame xs ys k)
    ⊎ (((leading xs k < leading ys k) × (slice_cmp nat_cmp xs ys ≡ Less)) ⊎ ((leading ys k < leading xs k) × (slice_cmp nat_cmp ys xs ≡ Less)))

abbrev pub AreBytes : List ℕ → Type 0
AreBytes xs = (i : ℕ) → get_or xs i 0 < 256

compared : (xs ys : List ℕ) → AreBytes xs → AreBytes ys → (k : ℕ) → Compared xs ys k
compared xs ys p q zero = inl (refl, λ i l. absurd (omega (arith, l)))
compared xs ys p q (suc k) = step (compared xs ys p q k)
  where
    more : AreSame xs ys k → get_or xs k 0 ≡ get_or ys k 0 → (i : ℕ) → i < suc k → (b : Bool) → nat_lt i k ≡ b → get_or xs i 0 ≡ get_or ys i 0
    more all is i l true g = all i (grind (arith, g))
    more all is i l false g = let last : i ≡ k = grind (arith, g, l) in ap (λ (j : ℕ). get_or xs j 0) last ∙ is ∙ ap (λ (j : ℕ). get_or ys j 0) (sym last)

    here : (b c : Bool) → nat_lt (get_or xs k 0) (get_or ys k 0) ≡ b → nat_lt (get_or ys k 0) (get_or xs k 0) ≡ c → leading xs k ≡ leading ys k → AreSame xs ys k → Compared xs ys (suc k)
    here true c e f same all = let lt : get_or xs k 0 < get_or ys k 0 = grind (arith, e) in inr (inl (omega (arith, same, lt), first_less k xs ys all lt))
    here false true e f same all =
        let lt : get_or ys k 0 < get_or xs k 0 = grind (arith, f) in
        inr (inr (omega (arith, same, lt), first_less k ys xs (λ i l. sym (all i l)) lt))
    here false false e f same all =
        let is : get_or xs k 0 ≡ get_or ys k 0 = grind (arith, e, f) in
        inl (omega (arith, same, is), λ i l. more all is i l (nat_lt i k) refl)

    step : Compared xs ys k → Compared xs ys (suc k)
    step (inl h) = here (nat_lt (get_or xs k 0) (get_or ys k 0)) (nat_lt (get_or ys k 0) (get_or xs k 0)) refl refl h.0 h.1
    step (inr (inl h)) = inr (inl (omega (arith, h.0, p k, q k), h.1))
    step (inr (inr h)) = inr (inr (omega (arith, h.0, p k, q k), h.1))

-- the number of seven bytes or fewer has room for one more
pub leading_small : (xs : List ℕ) → AreBytes xs → (k : ℕ) → k < 8 → leading xs k < 72057594037927936
leading_small xs p k lt = by k lt
  where
    one : leading xs 1 < 256
    one = omega (arith, p 0)

    two : leading xs 2 < 65536
    two = omega (arith, one, p 1)

    three : leading xs 3 < 16777216
    three = omega (arith, two, p 2)

    four : leading xs 4 < 4294967296
    four = omega (arith, three, p 3)

    five : leading xs 5 < 1099511627776
    five = omega (arith, four, p 4)

    six : leading xs 6 < 281474976710656
    six = omega (arith, five, p 5)

    seven : leading xs 7 < 72057594037927936
    seven = omega (arith, six, p 6)

    by : (k : ℕ) → k < 8 → leading xs k < 72057594037927936
    by zero l = omega arith
    by (suc zero) l = omega (arith, one)
    by (suc (suc zero)) l = omega (arith, two)
    by (suc (suc (suc zero))) l = omega (arith, three)
    by (suc (suc (suc (suc zero)))) l = omega (arith, four)
    by (suc (suc (suc (suc (suc zero))))) l = omega (arith, five)
    by (suc (suc (suc (suc (suc (suc zero)))))) l = omega (arith, six)
    by (suc (suc (suc (suc (suc (suc (suc zero))))))) l = seven
    by (suc (suc (suc (suc (suc (suc (suc (suc k)))))))) l = absurd (omega (arith, l))

-- the bytes of a name from its end are bytes, too
pub turned_bytes : (xs : List ℕ) → AreBytes xs → AreBytes (reverse xs)
turned_bytes xs p i = by (nat_lt i (length xs)) refl
  where
    by : (b : Bool) → nat_lt i (length xs) ≡ b → get_or (reverse xs) i 0 < 256
    by true e = omega (arith, get_or-reverse xs i 0 (grind (arith, e)), p (length xs - 1 - i))
    by false e = omega (arith, get_or_past (reverse xs) i 0 (grind (arith, e, length-reverse xs)))

-- so it says nothing else than all bytes do
at_once : (xs ys : List ℕ) → AreBytes xs → AreBytes ys → (k : ℕ) → ordering_then (nat_cmp (leading xs k) (leading ys k)) (slice_cmp nat_cmp xs ys) ≡ slice_cmp nat_cmp xs ys
at_once xs ys p q k = step (compared xs ys p q k)
  where
    rest : Ordering
    rest = slice_cmp nat_cmp xs ys

    number : (m n : ℕ) (b c : Bool) → nat_lt m n ≡ b → (m == n) ≡ c → nat_cmp m n ≡ cond b Less (cond c Equal Greater)
    number m n b c e f = λ i. cond (e i) Less (cond (f i) Equal Greater)

    less : (m n : ℕ) → m < n → nat_cmp m n ≡ Less
    less m n lt = by (nat_lt m n) refl
      where
        by : (b : Bool) → nat_lt m n ≡ b → nat_cmp m n ≡ Less
        by true e = number m n true (m == n) e refl
        by false e = absurd (grind (arith, e, lt))

    more : (m n : ℕ) → n < m → nat_cmp m n ≡ Greater
    more m n lt = by (nat_lt m n) refl
      where
        by : (b : Bool) → nat_lt m n ≡ b → nat_cmp m n ≡ Greater
        by true e = absurd (grind (arith, e, lt))
        by false e = number m n false false e (ne_eqb m n (λ s. grind (arith, s, lt)))

    level : (m n : ℕ) → m ≡ n → nat_cmp m n ≡ Equal
    level m n s = by (nat_lt m n) refl
      where
        by : (b : Bool) → nat_lt m n ≡ b → nat_cmp m n ≡ Equal
        by true e = absurd (grind (arith, e, s))
        by false e = number m n false true e (eq-eqb m n s)

    step : Compared xs ys k → ordering_then (nat_cmp (leading xs k) (leading ys k)) rest ≡ rest
    step (inl h) = ap (λ o. ordering_then o rest) (level (leading xs k) (leading ys k) h.0)
    step (inr (inl h)) = ap (λ o. ordering_then o rest) (less (leading xs k) (leading ys k) h.0) ∙ sym h.1
    step (inr (inr h)) =
        ap (λ o. ordering_then o rest) (more (leading xs k) (leading ys k) h.0)
        ∙ sym (nat_list_cmp_total.antisymm xs ys ∙ ap ordering_reverse h.1)

-- ---- rows

abbrev pub falling : Row → Row → Bool
falling a b = is_lt (slice_cmp nat_cmp (reverse b.name.now) (reverse a.name.now))

-- as the code compares them
abbrev pub comparison : Row → Row → Ordering
comparison a b = ordering_then (nat_cmp a.tail b.tail) (slice_cmp nat_cmp (reverse a.name.now) (reverse b.name.now))

abbrev pub falling_at_once : Row → Row → Bool
falling_at_once a b = is_lt (comparison b a)

pub is_order_at_once : IsStrictWeakOrder falling_at_once
is_order_at_once =
    IsStrictWeakOrder-flip (λ (a b : Row). is_lt (comparison a b))
    (ranks_by (then_total (on_total (λ (r : Row). r.tail) nat_cmp_total) (on_total (λ (r : Row). reverse r.name.now) nat_list_cmp_total)) (λ (r : Row). r))

-- the row has the last bytes of its name
pub record IsTailed (r : Row) : Type 0 where
  pub tail : r.tail ≡ tail_of r.name.now
  pub bytes : AreBytes (reverse r.name.now)

one_order : (a b : Row) → IsTailed a → IsTailed b → falling_at_once a b ≡ falling a b
one_order a b p q =
    ap is_lt ((λ i. ordering_then (nat_cmp (q.tail i) (p.tail i)) (slice_cmp nat_cmp (reverse b.name.now) (reverse a.name.now)))
    ∙ at_once (reverse b.name.now) (reverse a.name.now) q.bytes p.bytes 8)

pub fall_by_all : (rows : List Row) → ((k : ℕ) (d : Row) → k < length rows → IsTailed (get_or rows k d)) → IsSortedBy falling_at_once rows → IsSortedBy falling rows
fall_by_all rows tailed up k d le lt =
    sym (one_order (get_or rows (k + 1) d) (get_or rows k d) (tailed (k + 1) d lt) (tailed k d (omega (arith, lt)))) ∙ up k d le lt
