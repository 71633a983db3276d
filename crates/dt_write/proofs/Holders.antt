-- The first stored name that ends with each name, by the rows in falling order.
use Rattle.std.proofs.Common.{◌≡◌, ◌≢◌, ℕ, zero, suc, ◌+◌, ◌<◌, ◌≤◌, Bool, true, false, ◌||◌, List, [], ◌∷◌, ◌++◌, length, map, take, drop, None, reverse, get_or, set, ◌⊎◌, inl, inr, refl, sym, ap, subst, ◌∙◌, arith}
use Rattle.std.specs.Prelude.{nat_lt, nat_eq}
use Rattle.std.specs.Borrow.{Bor}
use Rattle.std.specs.List.{list_any, Contains}
use Rattle.std.specs.Cmp.{IsStrictWeakOrder}
use Rattle.std.specs.List.Sorted.{IsPermutation}
use Rattle.std.specs.Cmp.Lexicographic.{slice_cmp, nat_list_cmp_total}
use Rattle.std.specs.Ordering.{nat_cmp, is_lt}
use Rattle.std.specs.Option.{unwrap_or}
use Rattle.std.specs.Str.{bytes_eq}
use Rattle.std.proofs.lemmas.List.{length-set, length-map, length-take-le, take-append-drop, take_more, drop_more, get_or_default, get_or-map, get_or-set_same, get_or-set_other}
use Rattle.std.proofs.lemmas.List.Sorted.{ranks_by, IsStrictWeakOrder-flip, sorted_far, All-permutation, Contains-permutation, IsPermutation-sym}
use Rattle.dt_model.specs.Lists.{IsIn}
use Rattle.dt_model.specs.Names.{Name}
use Rattle.dt_model.specs.Valid.{AreDistinct}
use Rattle.dt_model.proofs.Tests.{bytes_eq_true, each_in, each_from}
use Rattle.dt_write.specs.declared.sharing.Row.{Row}
use Rattle.dt_write.specs.Written.{is_end}
use Rattle.dt_write.specs.Sharing.{ends, IsHolder}
use Rattle.dt_write.specs.Rows.{gathered, left, tail_of, rows_from, AreRows, AreHolders}
use Rattle.dt_write.proofs.Ends.{ended, or_true}
use Rattle.dt_write.proofs.Runs.{IsUpto, upto_names}
use Rattle.dt_write.proofs.Kept.{longer_in}
use Rattle.dt_write.proofs.Shortest.{not_end}
use Rattle.dt_write.proofs.Tails.{falling, AreBytes, IsTailed, turned_bytes}
use Rattle.dt_write.proofs.Open.{IsStored, IsFirst, AreOpen, IsNext, still_first, first_new, open_new}

abbrev pub names_of_all : List (Bor (List ℕ)) → List Name
names_of_all names = map (λ name. name.now) names

-- ---- places in lists

pub in_at : {X : Type 0} (xs : List X) (k : ℕ) (d : X) → k < length xs → IsIn (get_or xs k d) xs
in_at [] k d lt = absurd (omega (arith, lt))
in_at (x ∷ xs) zero d lt = inl refl
in_at (x ∷ xs) (suc k) d lt = inr (in_at xs k d (omega (arith, lt)))

record At {X : Type 0} (xs : List X) (x : X) : Type 0 where
  pub place : ℕ
  pub lt : place < length xs
  pub is : (d : X) → get_or xs place d ≡ x

at_in : {X : Type 0} (xs : List X) (x : X) → IsIn x xs → At xs x
at_in [] x i = absurd i
at_in (y ∷ xs) x (inl same) = record { place = 0; lt = omega arith; is = λ d. sym same }
at_in (y ∷ xs) x (inr i) = let h = at_in xs x i in record { place = suc h.place; lt = omega (arith, h.lt); is = h.is }

pub one_place : {X : Type 0} (xs : List X) (i j : ℕ) (d : X) → AreDistinct xs → i < length xs → j < length xs → get_or xs i d ≡ get_or xs j d → i ≡ j
one_place [] i j d ds p q e = absurd (omega (arith, p))
one_place (x ∷ xs) zero zero d ds p q e = refl
one_place (x ∷ xs) zero (suc j) d ds p q e = absurd (each_in (λ y. y ≢ x) xs (get_or xs j d) ds.0 (in_at xs j d (omega (arith, q))) (sym e))
one_place (x ∷ xs) (suc i) zero d ds p q e = absurd (each_in (λ y. y ≢ x) xs (get_or xs i d) ds.0 (in_at xs i d (omega (arith, p))) e)
one_place (x ∷ xs) (suc i) (suc j) d ds p q e = ap suc (one_place xs i j d ds.1 (omega (arith, p)) (omega (arith, q)) e)

-- names that are lent, by their numbers
pub lent_at : (names : List (Bor (List ℕ))) (i : ℕ) → i < length names → get_or (names_of_all names) i [] ≡ (get_or names i (record { ref_ptr = (0, 0); now = [] })).now
lent_at names i lt = get_or-map (λ (name : Bor (List ℕ)). name.now) names i (record { ref_ptr = (0, 0); now = [] }) [] lt

pub lent_within : (names : List (Bor (List ℕ))) (i : ℕ) → i < length names → i < length (names_of_all names)
lent_within names i lt = omega (arith, lt, length-map names (λ (name : Bor (List ℕ)). name.now))

pub lent_all : (names : List (Bor (List ℕ))) (i : ℕ) → length names ≤ i → i ≤ length names → i ≡ length (names_of_all names)
lent_all names i over upto = omega (arith, over, upto, length-map names (λ (name : Bor (List ℕ)). name.now))

-- ---- the rows

-- the row is among the first so many
pub record Came (rows : List Row) (count : ℕ) (r : Row) : Type 0 where
  pub place : ℕ
  pub lt : place < count
  pub is : get_or rows place r ≡ r

rows_count : (k : ℕ) (names : List (Bor (List ℕ))) → length (rows_from k names) ≡ length names
rows_count k [] = refl
rows_count k (n ∷ names) = ap suc (rows_count (suc k) names)

rows_push : (k : ℕ) (names : List (Bor (List ℕ))) (n : Bor (List ℕ)) → rows_from k (names ++ n ∷ []) ≡ rows_from k names ++ record { name = n; number = k + length names; tail = tail_of n.now } ∷ []
rows_push k [] n = ap (λ (m : ℕ). record { name = n; number = m; tail = tail_of n.now } ∷ []) (omega arith)
rows_push k (m ∷ names) n = ap (λ (rows : List Row). record { name = m; number = k; tail = tail_of m.now } ∷ rows) (rows_push (suc k) names n ∙ ap (λ (i : ℕ). rows_from (suc k) names ++ record { name = n; number = i; tail = tail_of n.now } ∷ []) (omega arith))

pub one_row_more : (names : List (Bor (List ℕ))) (i : ℕ) (d : Bor (List ℕ)) (rows new : List Row) → i < length names → rows ≡ rows_from 0 (take i names) → new ≡ rows ++ record { name = get_or names i d; number = i; tail = tail_of (get_or names i d).now } ∷ []
    → new ≡ rows_from 0 (take (i + 1) names)
one_row_more names i d rows new lt before e =
    let x = get_or names i d in
    e ∙ ap (λ (rs : List Row). rs ++ record { name = x; number = i; tail = tail_of x.now } ∷ []) before
    ∙ ap (λ (k : ℕ). rows_from 0 (take i names) ++ record { name = x; number = k; tail = tail_of x.now } ∷ []) (omega (arith, length-take-le i names (omega (arith, lt))))
    ∙ sym (rows_push 0 (take i names) x) ∙ ap (rows_from 0) (sym (take_more names i d lt))

rows_at : (k : ℕ) (names : List (Bor (List ℕ))) (i : ℕ) (d : Row) (e : Bor (List ℕ)) → i < length names → get_or (rows_from k names) i d ≡ record { name = get_or names i e; number = k + i; tail = tail_of (get_or names i e).now }
rows_at k [] i d e lt = absurd (omega (arith, lt))
rows_at k (n ∷ names) zero d e lt = ap (λ (m : ℕ). record { name = n; number = m; tail = tail_of n.now }) (omega arith)
rows_at k (n ∷ names) (suc i) d e lt =
    rows_at (suc k) names i d e (omega (arith, lt)) ∙ ap (λ (m : ℕ). record { name = get_or names i e; number = m; tail = tail_of (get_or names i e).now }) (omega arith)

-- each row has the number of its name, and each name has a row
pub record AreNumbered (names : List Name) (P : Row → Type 0) : Type 0 where
  pub within : (r : Row) → P r → r.number < length names
  pub is : (r : Row) → P r → get_or names r.number [] ≡ r.name.now
  pub row : (i : ℕ) → i < length names → Row
  pub there : (i : ℕ) (lt : i < length names) → P (row i lt)
  pub named : (i : ℕ) (lt : i < length names) → (row i lt).name.now ≡ get_or names i []
  pub numbered : (i : ℕ) (lt : i < length names) → (row i lt).number ≡ i

pub numbered_rows : (names : List (Bor (List ℕ))) (rows : List Row) → AreRows names rows → AreNumbered (names_of_all names) (Came rows (length rows))
numbered_rows names rows are = record {
  within = λ r c. (back r c).0;
  is = λ r c. (back r c).1;
  row = λ i lt. (own i lt).0;
  there = λ i lt. (own i lt).1;
  named = λ i lt. (own i lt).2;
  numbered = λ i lt. (own i lt).3;
}
  where
    first : List Row
    first = rows_from 0 names

    back : (r : Row) → Came rows (length rows) r → (r.number < length (names_of_all names)) × (get_or (names_of_all names) r.number [] ≡ r.name.now)
    back r c =
        let there : Contains first r = Contains-permutation rows first r (IsPermutation-sym first rows are.numbered) (c.place, c.lt, c.is) in
        let k = there.0 in
        let lt : k < length names = omega (arith, there.1, rows_count 0 names) in
        let is : r ≡ record { name = get_or names k r.name; number = 0 + k; tail = tail_of (get_or names k r.name).now } = sym there.2 ∙ rows_at 0 names k r r.name lt in
        let number : r.number ≡ k = ap (λ (s : Row). s.number) is ∙ omega arith in (
          omega (arith, lt, number, length-map names (λ (name : Bor (List ℕ)). name.now)),
          ap (λ (m : ℕ). get_or (names_of_all names) m []) number ∙ get_or-map (λ (name : Bor (List ℕ)). name.now) names k r.name [] lt ∙ sym (ap (λ (s : Row). s.name.now) is),
        )

    own : (i : ℕ) → i < length (names_of_all names) → (r : Row) × Came rows (length rows) r × (r.name.now ≡ get_or (names_of_all names) i []) × (r.number ≡ i)
    own i lt = by names refl
      where
        less : i < length names
        less = omega (arith, lt, length-map names (λ (name : Bor (List ℕ)). name.now))

        by : (ns : List (Bor (List ℕ))) → names ≡ ns → (r : Row) × Came rows (length rows) r × (r.name.now ≡ get_or (names_of_all names) i []) × (r.number ≡ i)
        by [] e = absurd (omega (arith, less, ap length e))
        by (n ∷ ns) e =
            let r : Row = record { name = get_or names i n; number = i; tail = tail_of (get_or names i n).now } in
            let there : Contains first r = (i, omega (arith, less, rows_count 0 names), rows_at 0 names i r n less ∙ ap (λ (m : ℕ). record { name = get_or names i n; number = m; tail = tail_of (get_or names i n).now }) (omega arith)) in
            let c = Contains-permutation first rows r are.numbered there in
            (r, record { place = c.0; lt = c.1; is = c.2 }, sym (get_or-map (λ (name : Bor (List ℕ)). name.now) names i n [] less), refl)

-- the order of the rows
is_order : IsStrictWeakOrder falling
is_order = IsStrictWeakOrder-flip (λ (a b : Row). is_lt (slice_cmp nat_cmp (reverse a.name.now) (reverse b.name.now))) (ranks_by nat_list_cmp_total (λ (r : Row). reverse r.name.now))

falls : (names : List (Bor (List ℕ))) (rows : List Row) → AreRows names rows → (i j : ℕ) (d : Row) → i ≤ j → j < length rows
    → is_lt (slice_cmp nat_cmp (reverse (get_or rows i d).name.now) (reverse (get_or rows j d).name.now)) ≡ false
falls names rows are i j d le lt = sorted_far falling is_order rows are.fall i j d le lt

pub next_row : (names : List (Bor (List ℕ))) (rows : List Row) (i : ℕ) (x : Row) → AreDistinct (names_of_all names) → AreRows names rows → i < length rows → get_or rows i x ≡ x → IsNext (Came rows i) (Came rows (i + 1)) x
next_row names rows i x distinct are lt at = record {
  more = λ r c. more r c (nat_lt c.place i) refl;
  keep = λ r c. record { place = c.place; lt = omega (arith, c.lt); is = c.is };
  own = record { place = i; lt = omega arith; is = at };
  low = λ r c. low r c;
  one = λ r s p q e. one_place (names_of_all names) r.number s.number [] distinct (numbered.within r (all r p)) (numbered.within s (all s q)) (numbered.is r (all r p) ∙ e ∙ sym (numbered.is s (all s q)));
}
  where
    numbered : AreNumbered (names_of_all names) (Came rows (length rows))
    numbered = numbered_rows names rows are

    all : (r : Row) → Came rows (i + 1) r → Came rows (length rows) r
    all r c = record { place = c.place; lt = omega (arith, c.lt, lt); is = c.is }

    more : (r : Row) (c : Came rows (i + 1) r) (b : Bool) → nat_lt c.place i ≡ b → Came rows i r ⊎ (r ≡ x)
    more r c true e = inl (record { place = c.place; lt = grind (arith, e); is = c.is })
    more r c false e =
        let same : c.place ≡ i = grind (arith, e, c.lt) in
        inr (sym c.is ∙ ap (λ (k : ℕ). get_or rows k r) same ∙ get_or_default rows i r x lt ∙ at)

    low : (r : Row) (c : Came rows i r) → IsUpto x.name.now r.name.now
    low r c =
        let d : get_or rows c.place r ≡ r = c.is in
        let f = falls names rows are c.place i r (omega (arith, c.lt)) lt in
        let x-is : get_or rows i r ≡ x = get_or_default rows i r x lt ∙ at in
        upto_names x.name.now r.name.now (subst (λ (s : Row). is_lt (slice_cmp nat_cmp (reverse r.name.now) (reverse s.name.now)) ≡ false) x-is
        (subst (λ (s : Row). is_lt (slice_cmp nat_cmp (reverse s.name.now) (reverse (get_or rows i r).name.now)) ≡ false) d f))

-- ---- the holders

-- after so many rows: the open ones, and the numbers of the first that are stored and end so
pub record AreHeld (names : List Name) (rows : List Row) (count : ℕ) (stack : List Row) (holders : List ℕ) : Type 0 where
  pub size : length holders ≡ length names
  pub opened : AreOpen (Came rows count) (reverse stack)
  pub held : (r : Row) → Came rows count r → IsFirst (Came rows count) r.name.now (get_or holders r.number 0)

none_came : (rows : List Row) (r : Row) → Came rows 0 r → ⊥
none_came rows r c = omega (arith, c.lt)

pub none_held : (names : List Name) (rows : List Row) (holders : List ℕ) → length holders ≡ length names → AreHeld names rows 0 [] holders
none_held names rows holders size = record {
  size = size;
  opened = record { under = λ r c. absurd (none_came rows r c); firsts = tt; rise = tt; own = tt };
  held = λ r c. absurd (none_came rows r c);
}

pub one_held : (names : List (Bor (List ℕ))) (rows : List Row) (i : ℕ) (x top : Row) (stack new : List Row) (holders : List ℕ) → AreDistinct (names_of_all names) → AreRows names rows → i < length rows → get_or rows i x ≡ x
    → AreHeld (names_of_all names) rows i stack holders → top.name.now ≡ x.name.now → top.number ≡ unwrap_or (gathered x.name.now None (reverse stack)) x.number → reverse new ≡ top ∷ left x.name.now (reverse stack)
    → AreHeld (names_of_all names) rows (i + 1) new (set holders x.number top.number)
one_held names rows i x top stack new holders distinct are lt at so_far named least opened = record {
  size = length-set holders x.number top.number ∙ so_far.size;
  opened = subst (AreOpen (Came rows (i + 1))) (sym opened) (open_new (Came rows i) (Came rows (i + 1)) x next (reverse stack) so_far.opened top named least);
  held = λ r c. by r c (nat_eq r.number x.number) refl;
}
  where
    next : IsNext (Came rows i) (Came rows (i + 1)) x
    next = next_row names rows i x distinct are lt at

    numbered : AreNumbered (names_of_all names) (Came rows (length rows))
    numbered = numbered_rows names rows are

    all : (r : Row) → Came rows (i + 1) r → Came rows (length rows) r
    all r c = record { place = c.place; lt = omega (arith, c.lt, lt); is = c.is }

    own : IsFirst (Came rows (i + 1)) x.name.now top.number
    own = subst (IsFirst (Came rows (i + 1)) x.name.now) (sym least) (first_new (Came rows i) (Came rows (i + 1)) x next (reverse stack) so_far.opened)

    old : (r : Row) → Came rows i r ⊎ (r ≡ x) → r.number ≢ x.number → IsFirst (Came rows (i + 1)) r.name.now (get_or holders r.number 0)
    old r (inl c) differs = still_first (Came rows i) (Came rows (i + 1)) x next r.name.now (get_or holders r.number 0) (record { row = r; there = c; is = refl }) (so_far.held r c)
    old r (inr same) differs = absurd (differs (ap (λ (s : Row). s.number) same))

    by : (r : Row) (c : Came rows (i + 1) r) (b : Bool) → nat_eq r.number x.number ≡ b → IsFirst (Came rows (i + 1)) r.name.now (get_or (set holders x.number top.number) r.number 0)
    by r c true e =
        let same : r.number ≡ x.number = grind (arith, e) in
        let within : x.number < length holders = omega (arith, numbered.within x (all x next.own), so_far.size) in
        let name : r.name.now ≡ x.name.now = sym (numbered.is r (all r c)) ∙ ap (λ (k : ℕ). get_or (names_of_all names) k []) same ∙ numbered.is x (all x next.own) in
        let value : get_or (set holders x.number top.number) r.number 0 ≡ top.number = ap (λ (k : ℕ). get_or (set holders x.number top.number) k 0) same ∙ get_or-set_same holders x.number top.number 0 within in
        subst (λ (n : Name). IsFirst (Came rows (i + 1)) n (get_or (set holders x.number top.number) r.number 0)) (sym name) (subst (IsFirst (Came rows (i + 1)) x.name.now) (sym value) own)
    by r c false e =
        let differs : r.number ≢ x.number = λ s. grind (arith, e, s) in
        subst (IsFirst (Came rows (i + 1)) r.name.now) (sym (get_or-set_other holders x.number r.number top.number 0 differs)) (old r (next.more r c) differs)

in_take : (ns : List Name) (n k : ℕ) → k < n → get_or ns k [] ≡ get_or (take n ns) k []
in_take [] zero k lt = absurd (omega (arith, lt))
in_take [] (suc n) k lt = refl
in_take (m ∷ ns) zero k lt = absurd (omega (arith, lt))
in_take (m ∷ ns) (suc n) zero lt = refl
in_take (m ∷ ns) (suc n) (suc k) lt = in_take ns n k (omega (arith, lt))

-- what the first of the rows is among the names
pub holder_from : (names : List Name) (P : Row → Type 0) (x : Name) (h : ℕ) → AreNumbered names P → IsFirst P x h → IsHolder names x h
holder_from names P x h are f = record {
  before = take h names;
  holder = f.row.name.now;
  behind = drop (h + 1) names;
  all = sym (take-append-drop h names) ∙ ap (λ (l : List Name). take h names ++ l) (drop_more names h [] within ∙ ap (λ (n : Name). n ∷ drop (h + 1) names) at);
  numbered = sym (length-take-le h names (omega (arith, within)));
  stored = none_longer (list_any (is_end f.row.name.now) names) refl;
  ended = f.ended;
  first = each_from (λ o. list_any (is_end o) names ≡ false → ends x o ≡ false) (take h names) (λ o i k. before o i k);
}
  where
    within : h < length names
    within = omega (arith, are.within f.row f.there, f.number)

    at : get_or names h [] ≡ f.row.name.now
    at = ap (λ (k : ℕ). get_or names k []) (sym f.number) ∙ are.is f.row f.there

    none_longer : (b : Bool) → list_any (is_end f.row.name.now) names ≡ b → b ≡ false
    none_longer false e = refl
    none_longer true e =
        let l = longer_in f.row.name.now names e in
        let p = at_in names l.name l.there in
        let named : (are.row p.place p.lt).name.now ≡ l.name = are.named p.place p.lt ∙ p.is [] in
        let so : ends f.row.name.now (are.row p.place p.lt).name.now ≡ true = subst (λ (m : Name). ends f.row.name.now m ≡ true) (sym named) (or_true (bytes_eq f.row.name.now l.name) (is_end f.row.name.now l.name) l.longer) in
        let same : l.name ≡ f.row.name.now = sym named ∙ f.stored.only (are.row p.place p.lt) (are.there p.place p.lt) so in
        absurd (omega (arith, (ended f.row.name.now l.name l.longer).1, ap length same))

    is_stored : (o : Name) → list_any (is_end o) names ≡ false → IsStored P o
    is_stored o k = record { only = λ r p e. only r p (bytes_eq o r.name.now) refl e }
      where
        only : (r : Row) → P r → (b : Bool) → bytes_eq o r.name.now ≡ b → (b || is_end o r.name.now) ≡ true → r.name.now ≡ o
        only r p true s e = sym (bytes_eq_true o r.name.now s)
        only r p false s e =
            let there : IsIn r.name.now names = subst (λ (m : Name). IsIn m names) (are.is r p) (in_at names r.number [] (are.within r p)) in
            absurd (let g : true ≡ false = sym e ∙ not_end o r.name.now names there k in cc)

    before : (o : Name) → IsIn o (take h names) → list_any (is_end o) names ≡ false → ends x o ≡ false
    before o i k = by (ends x o) refl
      where
        by : (b : Bool) → ends x o ≡ b → b ≡ false
        by false e = refl
        by true e =
            let p = at_in (take h names) o i in
            let less : p.place < h = omega (arith, p.lt, length-take-le h names (omega (arith, within))) in
            let lt : p.place < length names = omega (arith, less, within) in
            let named : (are.row p.place lt).name.now ≡ o = are.named p.place lt ∙ in_take names h p.place less ∙ p.is [] in
            let row = are.row p.place lt in
            let least : h ≤ row.number = f.least row (are.there p.place lt) (subst (IsStored P) (sym named) (is_stored o k)) (subst (λ (m : Name). ends x m ≡ true) (sym named) e) in
            absurd (omega (arith, least, are.numbered p.place lt, less))

pub holders_over : (names : List (Bor (List ℕ))) (rows stack : List Row) (holders : List ℕ) → AreRows names rows → AreHeld (names_of_all names) rows (length rows) stack holders → AreHolders (names_of_all names) holders
holders_over names rows stack holders are held = record {
  count = held.size;
  each = λ i lt. each i lt;
}
  where
    numbered : AreNumbered (names_of_all names) (Came rows (length rows))
    numbered = numbered_rows names rows are

    each : (i : ℕ) → i < length (names_of_all names) → IsHolder (names_of_all names) (get_or (names_of_all names) i []) (get_or holders i 0)
    each i lt =
        let row = numbered.row i lt in
        let f = held.held row (numbered.there i lt) in
        let first : IsFirst (Came rows (length rows)) (get_or (names_of_all names) i []) (get_or holders i 0) =
        subst (λ (n : Name). IsFirst (Came rows (length rows)) n (get_or holders i 0)) (numbered.named i lt) (subst (λ (k : ℕ). IsFirst (Came rows (length rows)) row.name.now (get_or holders k 0)) (numbered.numbered i lt) f) in
        holder_from (names_of_all names) (Came rows (length rows)) (get_or (names_of_all names) i []) (get_or holders i 0) numbered first

pub row_within : (names : List (Bor (List ℕ))) (rows : List Row) (i : ℕ) (d : Row) → AreRows names rows → i < length rows → (get_or rows i d).number < length (names_of_all names)
row_within names rows i d are lt =
    (numbered_rows names rows are).within (get_or rows i d) (record { place = i; lt = lt; is = get_or_default rows i (get_or rows i d) d lt })

-- the rows have the last bytes of their names, where these are bytes
pub all_tailed : (names : List (Bor (List ℕ))) (rows : List Row) → IsPermutation (rows_from 0 names) rows → ((i : ℕ) (d : Bor (List ℕ)) → i < length names → AreBytes (get_or names i d).now)
    → (k : ℕ) (d : Row) → k < length rows → IsTailed (get_or rows k d)
all_tailed names rows moved bytes = All-permutation IsTailed (rows_from 0 names) rows moved
    (λ k d lt. let less : k < length names = omega (arith, lt, rows_count 0 names) in
    subst IsTailed (sym (rows_at 0 names k d d.name less)) (record { tail = refl; bytes = turned_bytes (get_or names k d.name).now (bytes k d.name less) }))
