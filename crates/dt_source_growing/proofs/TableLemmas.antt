-- A change of the hash map is a change of the table, and so is a change of its rows.
use Rattle.std.proofs.Common.{◌≡◌, ℕ, zero, suc, ◌+◌, ◌<◌, ◌≤◌, ◌⊎◌, Bool, true, false, List, [], ◌∷◌, ◌++◌, length, set, get_or, eqb, not, Some, None, Option, Result, Ok, Err, ◌&&◌, nat_eq, refl, sym, ◌∙◌, ap, subst, inl, inr, true≢false, arith}
use Rattle.std.specs.Prelude.{OnOk, OnErr, cond, slice_get}
use Rattle.std.specs.HashMap.{HashMap, UpdatesBy}
use Rattle.std.specs.Map.{lookup}
use Rattle.std.specs.Str.{bytes_eq}
use Rattle.std.proofs.lemmas.Bool.{cases_eq, eqb-true, eq-eqb}
use Rattle.std.proofs.lemmas.List.{length-set, length_push}
use Rattle.std.proofs.lemmas.Slice.Eq.{bytes_eq-Decides}
use Rattle.dt_model.proofs.EventSteps.{bytes_eq-refl}
use Rattle.dt_model.specs.Names.{Name}
use Rattle.dt_names.specs.declared.key.NameKey.{NameKey}
use Rattle.dt_source_growing.specs.Table.{Key, is_key, entry, Puts, PutsName, span_at, LieIn, IsFirstOf, HasRoom, longer, AreSpans}
use Rattle.dt_source_growing.specs.declared.table.Last.{Last}
use Rattle.dt_source_growing.specs.declared.table.Span.{Span}

pub both : (a b : Bool) → (a && b) ≡ true → (a ≡ true) × (b ≡ true)
both true true h = (refl, refl)
both true false h = cc
both false b h = cc

-- the test of an index and a name is passed by exactly one key's content
pub key_is : (i j : ℕ) (x y : Name) → (nat_eq i j && bytes_eq x y) ≡ true → (i ≡ j) × (x ≡ y)
key_is i j x y h = let p = both (nat_eq i j) (bytes_eq x y) h in (eqb-true i j p.0, (bytes_eq-Decides x y).0 p.1)

pub key-refl : (i : ℕ) (x : Name) → (nat_eq i i && bytes_eq x x) ≡ true
key-refl i x = rw (eq-eqb i i refl) (bytes_eq-refl x)

-- the hash map's change is the table's
pub puts_from_updates : {S : Type 0} (m n : HashMap Key Last S) (k : Key) (w : Last)
    → UpdatesBy (λ (a b : Key). nat_eq a.0 b.0 && bytes_eq a.1.bytes.now b.1.bytes.now) (λ (b : Key). nat_eq k.0 b.0 && bytes_eq k.1.bytes.now b.1.bytes.now) m n (Some w)
    → Puts m.entries n.entries k.0 k.1.bytes.now w
puts_from_updates m n k w u j y = u.0 (j, record { bytes = record k.1.bytes { now = y } })

-- the same of a table of names alone
pub puts_name_from_updates : {S : Type 0} (m n : HashMap NameKey ℕ S) (k : NameKey) (w : ℕ)
    → UpdatesBy (λ (a b : NameKey). bytes_eq a.bytes.now b.bytes.now) (λ (b : NameKey). bytes_eq k.bytes.now b.bytes.now) m n (Some w)
    → PutsName m.entries n.entries k.bytes.now w
puts_name_from_updates m n k w u y = u.0 (record { bytes = record k.bytes { now = y } })

module _ (old mid new : List (Key × Last)) (i : ℕ) (x : Name) (v w : Last) where
  -- of two puts the second counts
  put_twice : Puts old mid i x v → Puts mid new i x w → Puts old new i x w
  put_twice p q j y = by (nat_eq i j && bytes_eq x y) (q j y) (p j y)
    where
      by : (t : Bool) → entry new j y ≡ cond t (Some w) (entry mid j y) → entry mid j y ≡ cond t (Some v) (entry old j y) → entry new j y ≡ cond t (Some w) (entry old j y)
      by true e f = e
      by false e f = e ∙ f

  -- what is there is put again without memory
  pub put_again : {A E : Type 0} (r : Result A E) → OnOk r (Puts mid new i x w) → OnErr r (entry mid i x ≡ None) → Puts old mid i x v → Puts old new i x w
  put_again (Ok a) put none p = put_twice p put
  put_again (Err e) put none p =
      let there : None ≡ Some v = sym none ∙ p i x ∙ ap (λ (t : Bool). cond t (Some v) (entry old i x)) (key-refl i x) in cc

-- ---- rows, and the entries behind them

all_none : (test : Key → Bool) (rows : List (Key × Last)) → ((j : ℕ) (f : Key × Last) → slice_get rows j ≡ Some f → test f.0 ≡ false) → lookup test rows ≡ None
all_none test [] h = refl
all_none test (e ∷ es) h =
    ap (λ (b : Bool). cond b (Some e.1) (lookup test es)) (h 0 e refl) ∙ all_none test es (λ j f. h (suc j) f)

-- the rows in front of a span haven't its index
pub none_below : (rows : List (Key × Last)) (i : ℕ) (x : Name) (span : Span) → LieIn rows i span → (j : ℕ) (f : Key × Last) → j < span.first → slice_get rows j ≡ Some f → is_key i x f.0 ≡ false
none_below rows i x span lie j f lt at = by (is_key i x f.0) refl
  where
    by : (b : Bool) → is_key i x f.0 ≡ b → b ≡ false
    by false e = refl
    by true e = let in_span = lie j f at (sym (key_is i f.0.0 x f.0.1.bytes.now e).0) in absurd (omega (arith, in_span.0, lt))

-- none of the index and the name is before the span's end, so there is none
pub none_in : (rows : List (Key × Last)) (i : ℕ) (x : Name) (span : Span) (place : ℕ) → LieIn rows i span → span.behind ≤ place
    → ((j : ℕ) (f : Key × Last) → j < place → slice_get rows j ≡ Some f → is_key i x f.0 ≡ false) → entry rows i x ≡ None
none_in rows i x span place lie end none = all_none (is_key i x) rows each
  where
    each : (j : ℕ) (f : Key × Last) → slice_get rows j ≡ Some f → is_key i x f.0 ≡ false
    each j f at = by (is_key i x f.0) refl
      where
        by : (b : Bool) → is_key i x f.0 ≡ b → b ≡ false
        by false e = refl
        by true e =
            let in_span = lie j f at (sym (key_is i f.0.0 x f.0.1.bytes.now e).0) in
            absurd (true≢false (sym e ∙ none j f (omega (arith, in_span.1, end)) at))

pub other_owner : (i : ℕ) (x : Name) (k : Key) → (k.0 ≡ i → ⊥) → is_key i x k ≡ false
other_owner i x k ne = by (is_key i x k) refl
  where
    by : (b : Bool) → is_key i x k ≡ b → b ≡ false
    by false e = refl
    by true e = absurd (ne (sym (key_is i k.0 x k.1.bytes.now e).0))

pub other_name : (i : ℕ) (x : Name) (k : Key) → bytes_eq k.1.bytes.now x ≡ false → is_key i x k ≡ false
other_name i x k ne = by (is_key i x k) refl
  where
    by : (b : Bool) → is_key i x k ≡ b → b ≡ false
    by false e = refl
    by true e = absurd (true≢false (sym ((bytes_eq-Decides k.1.bytes.now x).1 (sym (key_is i k.0 x k.1.bytes.now e).1)) ∙ ne))

pub this_key : (i : ℕ) (x : Name) (k : Key) → k.0 ≡ i → bytes_eq k.1.bytes.now x ≡ true → is_key i x k ≡ true
this_key i x k owner name =
    (λ t. nat_eq (sym owner t) k.0 && bytes_eq (sym ((bytes_eq-Decides k.1.bytes.now x).0 name) t) k.1.bytes.now) ∙ key-refl k.0 k.1.bytes.now

pub row_is : (rows : List (Key × Last)) (j : ℕ) (f d : Key × Last) → slice_get rows j ≡ Some f → f ≡ get_or rows j d
row_is [] j f d at = cc
row_is (r ∷ rs) zero f d at = cc
row_is (r ∷ rs) (suc j) f d at = row_is rs j f d at

pub not_true : (b : Bool) → not b ≡ true → b ≡ false
not_true true e = cc
not_true false e = refl

-- none before the place, and none there
pub none_more : (rows : List (Key × Last)) (place : ℕ) (d : Key × Last) (i : ℕ) (x : Name) → ((j : ℕ) (f : Key × Last) → j < place → slice_get rows j ≡ Some f → is_key i x f.0 ≡ false)
    → is_key i x (get_or rows place d).0 ≡ false → (j : ℕ) (f : Key × Last) → j < place + 1 → slice_get rows j ≡ Some f → is_key i x f.0 ≡ false
none_more rows place d i x none other j f lt at =
    elim (cases_eq j place) [
      | inl same ↦ ap (λ (g : Key × Last). is_key i x g.0) (row_is rows j f d at) ∙ ap (λ (n : ℕ). is_key i x (get_or rows n d).0) same ∙ other
      | inr ne ↦ none j f (omega (arith, lt, ne)) at
    ]

pub row_there : (rows : List (Key × Last)) (place : ℕ) (d : Key × Last) → place < length rows → slice_get rows place ≡ Some (get_or rows place d)
row_there [] place d lt = absurd (omega (arith, lt))
row_there (r ∷ rs) zero d lt = refl
row_there (r ∷ rs) (suc k) d lt = row_there rs k d (omega (arith, lt))

-- the first row that has the key has the entry
pub first_entry : (rows : List (Key × Last)) (i : ℕ) (x : Name) (place : ℕ) (first : IsFirstOf rows i x place) → entry rows i x ≡ Some first.0.1
first_entry [] i x place first = let e = first.1 in cc
first_entry (r ∷ rs) i x zero first =
    let same : r ≡ first.0 = cc in
    ap (λ (f : Key × Last). cond (is_key i x f.0) (Some f.1) (entry rs i x)) same ∙ ap (λ (b : Bool). cond b (Some first.0.1) (entry rs i x)) first.2
first_entry (r ∷ rs) i x (suc k) first =
    ap (λ (b : Bool). cond b (Some r.1) (entry rs i x)) (first.3 0 r (omega arith) refl)
    ∙ first_entry rs i x k (first.0, first.1, first.2, λ j f lt at. first.3 (suc j) f (omega (arith, lt)) at)

same_test : (a b : Bool) → (a ≡ true → b ≡ true) → (b ≡ true → a ≡ true) → a ≡ b
same_test true true f g = refl
same_test true false f g = sym (f refl)
same_test false true f g = g refl
same_test false false f g = refl

eqb-flip : (a b : ℕ) → eqb a b ≡ eqb b a
eqb-flip a b = same_test (eqb a b) (eqb b a) (λ e. eq-eqb b a (sym (eqb-true a b e))) (λ e. eq-eqb a b (sym (eqb-true b a e)))

bytes-flip : (x y : Name) → bytes_eq x y ≡ bytes_eq y x
bytes-flip x y = same_test (bytes_eq x y) (bytes_eq y x) (λ e. (bytes_eq-Decides y x).1 (sym ((bytes_eq-Decides x y).0 e))) (λ e. (bytes_eq-Decides x y).1 (sym ((bytes_eq-Decides y x).0 e)))

-- of two tests the one is passed by a key that passes the other where they ask for the same
key_of : (i j : ℕ) (x y : Name) (k : Key) → is_key i x k ≡ true → is_key j y k ≡ (nat_eq i j && bytes_eq x y)
key_of i j x y k e =
    let is = key_is i k.0 x k.1.bytes.now e in
    (λ t. nat_eq j (sym is.0 t) && bytes_eq y (sym is.1 t)) ∙ (λ t. eqb-flip j i t && bytes-flip y x t)

-- the first row that has the key gets another thing
pub set_entry : (rows : List (Key × Last)) (i : ℕ) (x : Name) (place : ℕ) (w : Last) (first : IsFirstOf rows i x place) → Puts rows (set rows place (first.0.0, w)) i x w
set_entry [] i x place w first j y = let e = first.1 in cc
set_entry (r ∷ rs) i x zero w first j y =
    let same : first.0 ≡ r = cc in
    let key : is_key j y first.0.0 ≡ (nat_eq i j && bytes_eq x y) = key_of i j x y first.0.0 first.2 in
    ap (λ (b : Bool). cond b (Some w) (entry rs j y)) key
    ∙ by (nat_eq i j && bytes_eq x y) (sym key ∙ ap (λ (f : Key × Last). is_key j y f.0) same)
  where
    by : (b : Bool) → b ≡ is_key j y r.0 → cond b (Some w) (entry rs j y) ≡ cond b (Some w) (cond (is_key j y r.0) (Some r.1) (entry rs j y))
    by true e = refl
    by false e = ap (λ (b : Bool). cond b (Some r.1) (entry rs j y)) e
set_entry (r ∷ rs) i x (suc k) w first j y =
    let rest = set_entry rs i x k w (first.0, first.1, first.2, λ n f lt at. first.3 (suc n) f (omega (arith, lt)) at) j y in
    ap (λ (o : Option Last). cond (is_key j y r.0) (Some r.1) o) rest ∙ by (is_key j y r.0) (nat_eq i j && bytes_eq x y) refl refl
  where
    by : (a t : Bool) → is_key j y r.0 ≡ a → (nat_eq i j && bytes_eq x y) ≡ t → cond a (Some r.1) (cond t (Some w) (entry rs j y)) ≡ cond t (Some w) (cond a (Some r.1) (entry rs j y))
    by true true p q =
        let same = key_is i j x y q in
        let mine : is_key i x r.0 ≡ true = (λ t. is_key (same.0 t) (same.1 t) r.0) ∙ p in
        absurd (true≢false (sym mine ∙ first.3 0 r (omega arith) refl))
    by true false p q = refl
    by false true p q = refl
    by false false p q = refl

-- the entry of a list, or else that of another
abbrev either : Option Last → Option Last → Option Last
either (Some v) o = Some v
either None o = o

entry-append : (xs ys : List (Key × Last)) (i : ℕ) (x : Name) → entry (xs ++ ys) i x ≡ either (entry xs i x) (entry ys i x)
entry-append [] ys i x = refl
entry-append (e ∷ es) ys i x = by (is_key i x e.0) (entry-append es ys i x)
  where
    by : (b : Bool) → entry (es ++ ys) i x ≡ either (entry es i x) (entry ys i x) → cond b (Some e.1) (entry (es ++ ys) i x) ≡ either (cond b (Some e.1) (entry es i x)) (entry ys i x)
    by true h = refl
    by false h = h

pub entry-front : (xs ys : List (Key × Last)) (i : ℕ) (x : Name) (v : Last) → entry xs i x ≡ Some v → entry (xs ++ ys) i x ≡ Some v
entry-front xs ys i x v is = entry-append xs ys i x ∙ ap (λ (o : Option Last). either o (entry ys i x)) is

pub entry-behind : (xs ys : List (Key × Last)) (i : ℕ) (x : Name) → entry xs i x ≡ None → entry (xs ++ ys) i x ≡ entry ys i x
entry-behind xs ys i x none = entry-append xs ys i x ∙ ap (λ (o : Option Last). either o (entry ys i x)) none

-- a change of the rows
pub puts-front : (xs new ys : List (Key × Last)) (i : ℕ) (x : Name) (w : Last) → Puts xs new i x w → Puts (xs ++ ys) (new ++ ys) i x w
puts-front xs new ys i x w put j y =
    entry-append new ys j y ∙ ap (λ (o : Option Last). either o (entry ys j y)) (put j y) ∙ by (nat_eq i j && bytes_eq x y)
    ∙ ap (λ (o : Option Last). cond (nat_eq i j && bytes_eq x y) (Some w) o) (sym (entry-append xs ys j y))
  where
    by : (t : Bool) → either (cond t (Some w) (entry xs j y)) (entry ys j y) ≡ cond t (Some w) (either (entry xs j y) (entry ys j y))
    by true = refl
    by false = refl

-- a change of the entries behind them
pub puts-behind : (xs ys new : List (Key × Last)) (i : ℕ) (x : Name) (w : Last) → entry xs i x ≡ None → Puts ys new i x w → Puts (xs ++ ys) (xs ++ new) i x w
puts-behind xs ys new i x w none put j y =
    entry-append xs new j y ∙ ap (λ (o : Option Last). either (entry xs j y) o) (put j y) ∙ by (nat_eq i j && bytes_eq x y) refl
    ∙ ap (λ (o : Option Last). cond (nat_eq i j && bytes_eq x y) (Some w) o) (sym (entry-append xs ys j y))
  where
    by : (t : Bool) → (nat_eq i j && bytes_eq x y) ≡ t → either (entry xs j y) (cond t (Some w) (entry ys j y)) ≡ cond t (Some w) (either (entry xs j y) (entry ys j y))
    by true e =
        let same = key_is i j x y e in
        ap (λ (o : Option Last). either o (Some w)) ((λ t. entry xs (sym same.0 t) (sym same.1 t)) ∙ none)
    by false e = refl

-- one more row
pub puts-row : (xs : List (Key × Last)) (k : Key) (i : ℕ) (x : Name) (w : Last) → entry xs i x ≡ None → is_key i x k ≡ true → Puts xs (xs ++ (k, w) ∷ []) i x w
puts-row xs k i x w none key j y =
    entry-append xs ((k, w) ∷ []) j y ∙ ap (λ (b : Bool). either (entry xs j y) (cond b (Some w) None)) (key_of i j x y k key) ∙ by (nat_eq i j && bytes_eq x y) refl (entry xs j y) refl
  where
    by : (t : Bool) → (nat_eq i j && bytes_eq x y) ≡ t → (o : Option Last) → entry xs j y ≡ o → either o (cond t (Some w) None) ≡ cond t (Some w) o
    by true e None at = refl
    by true e (Some v) at =
        let same = key_is i j x y e in
        let gone : entry xs j y ≡ None = (λ t. entry xs (sym same.0 t) (sym same.1 t)) ∙ none in
        let both : None ≡ Some v = sym gone ∙ at in cc
    by false e None at = refl
    by false e (Some v) at = refl

-- ---- spans

pub span-new : (spans : List Span) (i : ℕ) → length spans ≤ i → (span_at spans i).spills ≡ false
span-new [] i le = refl
span-new (s ∷ ss) zero le = absurd (omega (arith, le))
span-new (s ∷ ss) (suc i) le = span-new ss i (omega (arith, le))

-- the same rows with other things
pub spans-set : (rows : List (Key × Last)) (spans : List Span) (hashed : List (Key × Last)) (place : ℕ) (e : Key × Last) (w : Last) → slice_get rows place ≡ Some e
    → AreSpans rows spans hashed → AreSpans (set rows place (e.0, w)) spans hashed
spans-set rows spans hashed place e w at ok = record {
  within = λ i j f is owned. let old = kept rows place j at f is in ok.within i j old.0 old.1 (ap (λ (k : Key). k.0) old.2 ∙ owned);
  ordered = ok.ordered;
  ends = λ i. omega (arith, ok.ends i, length-set rows place (e.0, w));
  alone = ok.alone;
}
  where
    kept : (rows : List (Key × Last)) (place j : ℕ) → slice_get rows place ≡ Some e → (f : Key × Last) → slice_get (set rows place (e.0, w)) j ≡ Some f
        → (g : Key × Last) × (slice_get rows j ≡ Some g) × (g.0 ≡ f.0)
    kept [] place j at f is = let z = at in cc
    kept (r ∷ rs) zero zero at f is =
        let mine : r ≡ e = cc in
        let new : (e.0, w) ≡ f = cc in
        (r, refl, ap (λ (g : Key × Last). g.0) mine ∙ ap (λ (g : Key × Last). g.0) new)
    kept (r ∷ rs) zero (suc j) at f is = (f, is, refl)
    kept (r ∷ rs) (suc k) zero at f is = let mine : r ≡ f = cc in (r, refl, ap (λ (g : Key × Last). g.0) mine)
    kept (r ∷ rs) (suc k) (suc j) at f is = kept rs k j at f is

-- the same spans in another list of them
pub spans-same : (rows : List (Key × Last)) (spans new : List Span) (hashed : List (Key × Last)) → ((i : ℕ) → span_at new i ≡ span_at spans i) → AreSpans rows spans hashed → AreSpans rows new hashed
spans-same rows spans new hashed same ok = record {
  within = λ i. subst (LieIn rows i) (sym (same i)) (ok.within i);
  ordered = λ i. subst (λ (s : Span). s.first ≤ s.behind) (sym (same i)) (ok.ordered i);
  ends = λ i. subst (λ (s : Span). s.behind ≤ length rows) (sym (same i)) (ok.ends i);
  alone = λ i x is. ok.alone i x (ap (λ (s : Span). s.spills) (sym (same i)) ∙ is);
}

-- a span that spills
abbrev pub spilled : Span → Span
spilled s = record { first = s.first; behind = s.behind; spills = true }

pub spans-hashed : (rows : List (Key × Last)) (spans new : List Span) (hashed more : List (Key × Last)) (o : ℕ) → ((i : ℕ) → span_at new i ≡ cond (nat_eq o i) (spilled (span_at spans o)) (span_at spans i))
    → ((i : ℕ) (y : Name) → nat_eq o i ≡ false → entry more i y ≡ entry hashed i y) → AreSpans rows spans hashed → AreSpans rows new more
spans-hashed rows spans new hashed more o is others ok = record {
  within = λ i. within i (nat_eq o i) refl (is i);
  ordered = λ i. ordered i (nat_eq o i) refl (is i);
  ends = λ i. ends i (nat_eq o i) refl (is i);
  alone = λ i x. alone i x (nat_eq o i) refl (is i);
}
  where
    within : (i : ℕ) (b : Bool) → nat_eq o i ≡ b → span_at new i ≡ cond b (spilled (span_at spans o)) (span_at spans i) → LieIn rows i (span_at new i)
    within i true e at = subst (LieIn rows i) (sym at) (subst (λ (k : ℕ). LieIn rows k (spilled (span_at spans o))) (eqb-true o i e) (ok.within o))
    within i false e at = subst (LieIn rows i) (sym at) (ok.within i)

    ordered : (i : ℕ) (b : Bool) → nat_eq o i ≡ b → span_at new i ≡ cond b (spilled (span_at spans o)) (span_at spans i) → (span_at new i).first ≤ (span_at new i).behind
    ordered i true e at = subst (λ (s : Span). s.first ≤ s.behind) (sym at) (ok.ordered o)
    ordered i false e at = subst (λ (s : Span). s.first ≤ s.behind) (sym at) (ok.ordered i)

    ends : (i : ℕ) (b : Bool) → nat_eq o i ≡ b → span_at new i ≡ cond b (spilled (span_at spans o)) (span_at spans i) → (span_at new i).behind ≤ length rows
    ends i true e at = subst (λ (s : Span). s.behind ≤ length rows) (sym at) (ok.ends o)
    ends i false e at = subst (λ (s : Span). s.behind ≤ length rows) (sym at) (ok.ends i)

    alone : (i : ℕ) (x : Name) (b : Bool) → nat_eq o i ≡ b → span_at new i ≡ cond b (spilled (span_at spans o)) (span_at spans i) → (span_at new i).spills ≡ false → entry more i x ≡ None
    alone i x true e at spills = absurd (true≢false (ap (λ (s : Span). s.spills) (sym at) ∙ spills))
    alone i x false e at spills = others i x e ∙ ok.alone i x (ap (λ (s : Span). s.spills) (sym at) ∙ spills)

-- where a row is, once one more came
placed : (rows : List (Key × Last)) (r : Key × Last) (j : ℕ) (f : Key × Last) → slice_get (rows ++ r ∷ []) j ≡ Some f → (slice_get rows j ≡ Some f) ⊎ ((j ≡ length rows) × (r ≡ f))
placed [] r zero f at = let same : r ≡ f = cc in inr (refl, same)
placed [] r (suc j) f at = cc
placed (q ∷ qs) r zero f at = inl at
placed (q ∷ qs) r (suc j) f at = elim (placed qs r j f at) [ inl h ↦ inl h | inr h ↦ inr (ap suc h.0, h.1) ]

-- an owner's span with one more row
module _ (rows : List (Key × Last)) (spans new : List Span) (hashed : List (Key × Last)) (k : Key) (w : Last) (room : HasRoom (span_at spans k.0) (length rows)) (ok : AreSpans rows spans hashed)
    (is : (i : ℕ) → span_at new i ≡ cond (nat_eq k.0 i) (longer (span_at spans k.0) (length rows)) (span_at spans i)) where
  longer-first : (j : ℕ) → (span_at spans k.0).first ≤ j → j < (span_at spans k.0).behind → (longer (span_at spans k.0) (length rows)).first ≤ j
  longer-first j le lt = by (eqb (span_at spans k.0).first (span_at spans k.0).behind) refl
    where
      by : (b : Bool) → eqb (span_at spans k.0).first (span_at spans k.0).behind ≡ b → cond b (length rows) (span_at spans k.0).first ≤ j
      by true e = absurd (omega (arith, eqb-true (span_at spans k.0).first (span_at spans k.0).behind e, le, lt))
      by false e = le

  longer-last : (longer (span_at spans k.0) (length rows)).first ≤ length rows
  longer-last = by (eqb (span_at spans k.0).first (span_at spans k.0).behind)
    where
      by : (b : Bool) → cond b (length rows) (span_at spans k.0).first ≤ length rows
      by true = omega arith
      by false = omega (arith, ok.ordered k.0, ok.ends k.0)

  row-within : (i : ℕ) (b : Bool) → nat_eq k.0 i ≡ b → span_at new i ≡ cond b (longer (span_at spans k.0) (length rows)) (span_at spans i) → LieIn (rows ++ (k, w) ∷ []) i (span_at new i)
  row-within i true e at j f there owned =
      subst (λ (s : Span). (s.first ≤ j) × (j < s.behind)) (sym at)
      (elim (placed rows (k, w) j f there) [
        | inl old ↦ let lie = ok.within k.0 j f old (owned ∙ sym (eqb-true k.0 i e)) in (longer-first j lie.0 lie.1, omega (arith, lie.1, ok.ends k.0))
        | inr last ↦ (omega (arith, last.0, longer-last), omega (arith, last.0))
      ])
  row-within i false e at j f there owned =
      subst (λ (s : Span). (s.first ≤ j) × (j < s.behind)) (sym at)
      (elim (placed rows (k, w) j f there) [
        | inl old ↦ ok.within i j f old owned
        | inr last ↦ let mine : eqb k.0 i ≡ true = eq-eqb k.0 i (ap (λ (g : Key × Last). g.0.0) last.1 ∙ owned) in absurd (true≢false (sym mine ∙ e))
      ])

  row-ordered : (i : ℕ) (b : Bool) → span_at new i ≡ cond b (longer (span_at spans k.0) (length rows)) (span_at spans i) → (span_at new i).first ≤ (span_at new i).behind
  row-ordered i true at = subst (λ (s : Span). s.first ≤ s.behind) (sym at) (omega (arith, longer-last))
  row-ordered i false at = subst (λ (s : Span). s.first ≤ s.behind) (sym at) (ok.ordered i)

  row-ends : (i : ℕ) (b : Bool) → span_at new i ≡ cond b (longer (span_at spans k.0) (length rows)) (span_at spans i) → (span_at new i).behind ≤ length (rows ++ (k, w) ∷ [])
  row-ends i true at = subst (λ (s : Span). s.behind ≤ length (rows ++ (k, w) ∷ [])) (sym at) (omega (arith, length_push rows (k, w)))
  row-ends i false at = subst (λ (s : Span). s.behind ≤ length (rows ++ (k, w) ∷ [])) (sym at) (omega (arith, ok.ends i, length_push rows (k, w)))

  row-alone : (i : ℕ) (x : Name) (b : Bool) → nat_eq k.0 i ≡ b → span_at new i ≡ cond b (longer (span_at spans k.0) (length rows)) (span_at spans i) → (span_at new i).spills ≡ false → entry hashed i x ≡ None
  row-alone i x true e at spills = subst (λ (o : ℕ). entry hashed o x ≡ None) (eqb-true k.0 i e) (ok.alone k.0 x room.alone)
  row-alone i x false e at spills = ok.alone i x (ap (λ (s : Span). s.spills) (sym at) ∙ spills)

  pub spans-row : AreSpans (rows ++ (k, w) ∷ []) new hashed
  spans-row = record {
    within = λ i. row-within i (nat_eq k.0 i) refl (is i);
    ordered = λ i. row-ordered i (nat_eq k.0 i) (is i);
    ends = λ i. row-ends i (nat_eq k.0 i) (is i);
    alone = λ i x. row-alone i x (nat_eq k.0 i) refl (is i);
  }

pub on_err : {A E : Type 0} (r : Result A E) (P : Type 0) → P → OnErr r P
on_err (Ok a) P p = tt
on_err (Err e) P p = p
