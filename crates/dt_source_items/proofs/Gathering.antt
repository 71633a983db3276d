-- What the items say when the value that was begun last goes on.
use Rattle.std.proofs.Common.{◌≡◌, ℕ, zero, suc, ◌+◌, ◌-◌, ◌<◌, ◌≤◌, List, [], ◌∷◌, ◌++◌, length, map, take, drop, slice_get, Option, Some, refl, sym, ap, ◌∙◌, append_assoc, arith}
use Rattle.std.specs.List.{AllByRecursion, between}
use Rattle.std.proofs.lemmas.List.{append-nil, map-append, length-append, length-drop, take_all, drop_all, take-append-le, drop-append-le}
use Rattle.dt_model.specs.Names.{Name}
use Rattle.dt_model.specs.Source.{Part, Place, one, property}
use Rattle.dt_source_items.specs.declared.source.Piece.{Piece}
use Rattle.dt_source_items.specs.declared.items.Row.{Row}
use Rattle.dt_source_items.specs.declared.items.Row.TheVariants as row
use Rattle.dt_source_items.specs.Gathered.{with_parts, with_place}
use Rattle.dt_source_items.specs.declared.source.Reference.{Reference}
use Rattle.dt_source_items.specs.declared.items.Naming.{Naming}
use Rattle.dt_source_items.specs.declared.items.Span.{Span}
use Rattle.dt_source_items.specs.Rows.{AreRows, IsPlain, IsWithin, IsSpanWithin, bytes_before, gathered, held_said, named_said, naming_said, plain_said, row_said, span_said}
use Rattle.dt_source_items.specs.Said.{parts_said, reference_of, referring}

-- ---- a value goes on

more_bytes : (ps : List Piece) (bs xs : List ℕ) → bytes_before ps ≤ length bs → parts_said ps (bs ++ xs) ≡ parts_said ps bs ++ map one xs
more_bytes [] bs xs le = map-append one bs xs
more_bytes (p ∷ ps) bs xs le =
    let r = referring p.form (reference_of p.reference) in
    let here : p.before ≤ length bs = omega (arith, le) in
    let left = length-drop p.before bs in
    let rest = more_bytes ps (drop p.before bs) xs (omega (arith, le, left)) in
    (λ i. map one (take-append-le p.before bs xs here i) ++ r ∷ parts_said ps (drop-append-le p.before bs xs here i))
    ∙ ap (λ (z : List Part). map one (take p.before bs) ++ r ∷ z) rest
    ∙ sym (append_assoc (map one (take p.before bs)) (r ∷ parts_said ps (drop p.before bs)) (map one xs))

more_pieces : (ps : List Piece) (p : Piece) (bs : List ℕ) → bytes_before ps + p.before ≡ length bs →
    parts_said (ps ++ p ∷ []) bs ≡ parts_said ps bs ++ referring p.form (reference_of p.reference) ∷ []
more_pieces [] p bs e =
    let r = referring p.form (reference_of p.reference) in
    let all : length bs ≤ p.before = omega (arith, e) in
    (λ i. map one (take_all p.before bs all i) ++ r ∷ map one (drop_all p.before bs all i))
more_pieces (q ∷ ps) p bs e =
    let r = referring q.form (reference_of q.reference) in
    let s = referring p.form (reference_of p.reference) in
    let left = length-drop q.before bs in
    let rest = more_pieces ps p (drop q.before bs) (omega (arith, e, left)) in
    ap (λ (z : List Part). map one (take q.before bs) ++ r ∷ z) rest
    ∙ sym (append_assoc (map one (take q.before bs)) (r ∷ parts_said ps (drop q.before bs)) (s ∷ []))

-- ---- what rows say stays the same

between_kept : {X : Type 0} (i j : ℕ) (xs ys : List X) → i ≤ j → j ≤ length xs → between i j (xs ++ ys) ≡ between i j xs
between_kept i j xs ys le inside =
    let left = length-drop i xs in
    ap (take (j - i)) (drop-append-le i xs ys (omega (arith, le, inside))) ∙ take-append-le (j - i) (drop i xs) ys (omega (arith, le, inside, left))

get_kept : {X : Type 0} (xs ys : List X) (i : ℕ) → i < length xs → slice_get (xs ++ ys) i ≡ slice_get xs i
get_kept [] ys i lt = absurd (omega (arith, lt))
get_kept (x ∷ xs) ys zero lt = refl
get_kept (x ∷ xs) ys (suc i) lt = get_kept xs ys i (omega (arith, lt))

-- the values of places that lie within
held_kept : (ps qs : List Piece) (bs xs : List ℕ) (spans : List Span) (i : ℕ) → AllByRecursion (IsSpanWithin (length ps) (length bs)) spans →
    held_said (ps ++ qs) (bs ++ xs) (slice_get spans i) ≡ held_said ps bs (slice_get spans i)
held_kept ps qs bs xs [] i w = refl
held_kept ps qs bs xs (s ∷ spans) zero w =
    (λ i. parts_said (between_kept s.first_piece s.end_piece ps qs w.0.0 w.0.1 i) (between_kept s.first_byte s.end_byte bs xs w.0.2 w.0.3 i))
held_kept ps qs bs xs (s ∷ spans) (suc i) w = held_kept ps qs bs xs spans i w.1

-- what rows say hangs on what is at their places
rows_kept : (rows : List Row) (named named' : List Reference) (spans spans' : List Span) (ps ps' : List Piece) (bs bs' : List ℕ) →
    ((i : ℕ) → i < length named → slice_get named' i ≡ slice_get named i) →
    ((i : ℕ) → i < length spans → held_said ps' bs' (slice_get spans' i) ≡ held_said ps bs (slice_get spans i)) →
    AllByRecursion (IsWithin (length named) (length spans)) rows → map (row_said named' spans' ps' bs') rows ≡ map (row_said named spans ps bs) rows
rows_kept [] named named' spans spans' ps ps' bs bs' references values w = refl
rows_kept (r ∷ rows) named named' spans spans' ps ps' bs bs' references values w =
    let rest = rows_kept rows named named' spans spans' ps ps' bs bs' references values w.1 in
    (λ i. one r w.0 i ∷ rest i)
  where
    one : (r : Row) → IsWithin (length named) (length spans) r → row_said named' spans' ps' bs' r ≡ row_said named spans ps bs r
    one row.Root h = refl
    one (row.Named n i) h = ap (named_said n) (references i h)
    one (row.Child n) h = refl
    one (row.Label l) h = refl
    one (row.DeleteProperty n) h = refl
    one (row.DeleteChild n) h = refl
    one row.Close h = refl
    one (row.Flag n) h = refl
    one (row.Property i n) h = ap (property n) (values i h)

within_more : (rows : List Row) (m n k l : ℕ) → m ≤ n → k ≤ l → AllByRecursion (IsWithin m k) rows → AllByRecursion (IsWithin n l) rows
within_more [] m n k l le le' w = tt
within_more (r ∷ rows) m n k l le le' w = (one r w.0, within_more rows m n k l le le' w.1)
  where
    one : (r : Row) → IsWithin m k r → IsWithin n l r
    one row.Root h = tt
    one (row.Named n' i) h = omega (arith, h, le)
    one (row.Child n') h = tt
    one (row.Label l') h = tt
    one (row.DeleteProperty n') h = tt
    one (row.DeleteChild n') h = tt
    one row.Close h = tt
    one (row.Flag n') h = tt
    one (row.Property i n') h = omega (arith, h, le')

spans_more : (spans : List Span) (m n k l : ℕ) → m ≤ n → k ≤ l → AllByRecursion (IsSpanWithin m k) spans → AllByRecursion (IsSpanWithin n l) spans
spans_more [] m n k l le le' w = tt
spans_more (s ∷ spans) m n k l le le' w = ((w.0.0, omega (arith, w.0.1, le), w.0.2, omega (arith, w.0.3, le')), spans_more spans m n k l le le' w.1)

all_push : {X : Type 0} (P : X → Type 0) (xs : List X) (x : X) → AllByRecursion P xs → P x → AllByRecursion P (xs ++ x ∷ [])
all_push P [] x ok here = (here, tt)
all_push P (y ∷ ys) x ok here = (ok.0, all_push P ys x ok.1 here)

get_last : {X : Type 0} (xs : List X) (x : X) → slice_get (xs ++ x ∷ []) (length xs) ≡ Some x
get_last [] x = refl
get_last (y ∷ ys) x = get_last ys x

-- ---- one more row

plain_over : (r : Row) (named : List Reference) (spans : List Span) (ps : List Piece) (bs : List ℕ) → IsPlain r → row_said named spans ps bs r ≡ plain_said r
plain_over row.Root named spans ps bs h = refl
plain_over (row.Named n i) named spans ps bs h = absurd h
plain_over (row.Child n) named spans ps bs h = refl
plain_over (row.Label l) named spans ps bs h = refl
plain_over (row.DeleteProperty n) named spans ps bs h = refl
plain_over (row.DeleteChild n) named spans ps bs h = refl
plain_over row.Close named spans ps bs h = refl
plain_over (row.Flag n) named spans ps bs h = refl
plain_over (row.Property i n) named spans ps bs h = absurd h

plain_within : (r : Row) (m n : ℕ) → IsPlain r → IsWithin m n r
plain_within row.Root m n h = tt
plain_within (row.Named n' i) m n h = absurd h
plain_within (row.Child n') m n h = tt
plain_within (row.Label l) m n h = tt
plain_within (row.DeleteProperty n') m n h = tt
plain_within (row.DeleteChild n') m n h = tt
plain_within row.Close m n h = tt
plain_within (row.Flag n') m n h = tt
plain_within (row.Property i n') m n h = absurd h

module _ (rows : List Row) (named : List Reference) (spans : List Span) (ps : List Piece) (bs : List ℕ) (piece byte referred : ℕ) (h : AreRows rows named spans ps bs piece byte referred) where
  pub plain_rows : (r : Row) → IsPlain r → AreRows (rows ++ r ∷ []) named spans ps bs piece byte referred
  plain_rows r plain = record {
    within = all_push (IsWithin (length named) (length spans)) rows r h.within (plain_within r (length named) (length spans) plain);
    spanned = h.spanned;
    begun = h.begun;
    referred_at = h.referred_at;
    inside = h.inside;
  }

  pub plain_gathered : (r : Row) → IsPlain r → gathered (rows ++ r ∷ []) named spans ps bs piece byte ≡ with_place (gathered rows named spans ps bs piece byte) (plain_said r)
  plain_gathered r plain =
      let said = map-append (row_said named spans ps bs) rows (r ∷ []) ∙ ap (λ (p : Place). map (row_said named spans ps bs) rows ++ p ∷ []) (plain_over r named spans ps bs plain) in
      (λ i. record { places = said i; value = parts_said (drop piece ps) (drop byte bs) })

  -- a reference is kept, which no row has
  pub kept_rows : (r : Reference) → AreRows rows (named ++ r ∷ []) spans ps bs piece byte referred
  kept_rows r =
      let longer = length-append named (r ∷ []) in
      record {
        within = within_more rows (length named) (length (named ++ r ∷ [])) (length spans) (length spans) (omega (arith, longer)) (omega arith) h.within;
        spanned = h.spanned;
        begun = h.begun;
        referred_at = h.referred_at;
        inside = h.inside;
      }

  pub named_rows : (n : Naming) (r : Reference) (at : ℕ) → at ≡ length named → AreRows (rows ++ row.Named n at ∷ []) (named ++ r ∷ []) spans ps bs piece byte referred
  named_rows n r at is =
      let longer = length-append named (r ∷ []) in
      record {
        within = all_push (IsWithin (length (named ++ r ∷ [])) (length spans)) rows (row.Named n at)
            (within_more rows (length named) (length (named ++ r ∷ [])) (length spans) (length spans) (omega (arith, longer)) (omega arith) h.within) (omega (arith, longer, is));
        spanned = h.spanned;
        begun = h.begun;
        referred_at = h.referred_at;
        inside = h.inside;
      }

  pub named_gathered : (n : Naming) (r : Reference) (at : ℕ) → at ≡ length named →
      gathered (rows ++ row.Named n at ∷ []) (named ++ r ∷ []) spans ps bs piece byte ≡ with_place (gathered rows named spans ps bs piece byte) (naming_said n (reference_of r))
  named_gathered n r at is =
      let more = named ++ r ∷ [] in
      let old = rows_kept rows named more spans spans ps ps bs bs (get_kept named (r ∷ [])) (λ i lt. refl) h.within in
      let here = ap (λ (k : ℕ). named_said n (slice_get more k)) is ∙ ap (named_said n) (get_last named r) in
      let said = map-append (row_said more spans ps bs) rows (row.Named n at ∷ []) ∙ (λ i. old i ++ here i ∷ []) in
      (λ i. record { places = said i; value = parts_said (drop piece ps) (drop byte bs) })

  -- a span is kept, which no row has
  pub spanned_rows : (s : Span) → IsSpanWithin (length ps) (length bs) s → AreRows rows named (spans ++ s ∷ []) ps bs piece byte referred
  spanned_rows s within =
      let longer = length-append spans (s ∷ []) in
      record {
        within = within_more rows (length named) (length named) (length spans) (length (spans ++ s ∷ [])) (omega arith) (omega (arith, longer)) h.within;
        spanned = all_push (IsSpanWithin (length ps) (length bs)) spans s h.spanned within;
        begun = h.begun;
        referred_at = h.referred_at;
        inside = h.inside;
      }

  pub valued_rows : (n : Name) (s : Span) (at : ℕ) → at ≡ length spans → IsSpanWithin (length ps) (length bs) s → AreRows (rows ++ row.Property at n ∷ []) named (spans ++ s ∷ []) ps bs piece byte referred
  valued_rows n s at is within =
      let longer = length-append spans (s ∷ []) in
      let more = spanned_rows s within in
      record {
        within = all_push (IsWithin (length named) (length (spans ++ s ∷ []))) rows (row.Property at n) more.within (omega (arith, longer, is));
        spanned = more.spanned;
        begun = h.begun;
        referred_at = h.referred_at;
        inside = h.inside;
      }

  pub valued_gathered : (n : Name) (s : Span) (at : ℕ) → at ≡ length spans → span_said ps bs s ≡ parts_said (drop piece ps) (drop byte bs) →
      gathered (rows ++ row.Property at n ∷ []) named (spans ++ s ∷ []) ps bs piece byte
      ≡ with_place (gathered rows named spans ps bs piece byte) (property n (parts_said (drop piece ps) (drop byte bs)))
  valued_gathered n s at is whole =
      let more = spans ++ s ∷ [] in
      let old = rows_kept rows named named spans more ps ps bs bs (λ i lt. refl) (λ i lt. ap (held_said ps bs) (get_kept spans (s ∷ []) i lt)) h.within in
      let here = ap (λ (k : ℕ). property n (held_said ps bs (slice_get more k))) is ∙ ap (λ (o : Option Span). property n (held_said ps bs o)) (get_last spans s) ∙ ap (property n) whole in
      let said = map-append (row_said named more ps bs) rows (row.Property at n ∷ []) ∙ (λ i. old i ++ here i ∷ []) in
      (λ i. record { places = said i; value = parts_said (drop piece ps) (drop byte bs) })

-- ---- the rows are sound behind one more reference

before_more : (ps : List Piece) (p : Piece) → bytes_before (ps ++ p ∷ []) ≡ bytes_before ps + p.before
before_more [] p = omega arith
before_more (q ∷ ps) p = let rest = before_more ps p in omega (arith, rest)

pub reference_rows : (rows : List Row) (named : List Reference) (spans : List Span) (ps : List Piece) (p : Piece) (bs : List ℕ) (piece byte referred : ℕ) → AreRows rows named spans ps bs piece byte referred →
    p.before ≡ length bs - referred → AreRows rows named spans (ps ++ p ∷ []) bs piece byte (length bs)
reference_rows rows named spans ps p bs piece byte referred h e =
    let longer = length-append ps (p ∷ []) in
    let more = ap bytes_before (drop-append-le piece ps (p ∷ []) h.begun) ∙ before_more (drop piece ps) p in
    record {
      within = h.within;
      spanned = spans_more spans (length ps) (length (ps ++ p ∷ [])) (length bs) (length bs) (omega (arith, longer)) (omega arith) h.spanned;
      begun = omega (arith, longer, h.begun);
      referred_at = omega (arith, more, e, h.referred_at, h.inside);
      inside = omega arith;
    }

pub bytes_rows : (rows : List Row) (named : List Reference) (spans : List Span) (ps : List Piece) (bs xs : List ℕ) (piece byte referred : ℕ) → AreRows rows named spans ps bs piece byte referred →
    AreRows rows named spans ps (bs ++ xs) piece byte referred
bytes_rows rows named spans ps bs xs piece byte referred h =
    let longer = length-append bs xs in
    record {
      within = h.within;
      spanned = spans_more spans (length ps) (length ps) (length bs) (length (bs ++ xs)) (omega arith) (omega (arith, longer)) h.spanned;
      begun = h.begun;
      referred_at = h.referred_at;
      inside = omega (arith, longer, h.inside);
    }

-- ---- what was gathered

pub bytes_gathered : (rows : List Row) (named : List Reference) (spans : List Span) (ps : List Piece) (bs xs : List ℕ) (piece byte referred : ℕ) → AreRows rows named spans ps bs piece byte referred →
    gathered rows named spans ps (bs ++ xs) piece byte ≡ with_parts (gathered rows named spans ps bs piece byte) (map one xs)
bytes_gathered rows named spans ps bs xs piece byte referred h =
    let begun : byte ≤ length bs = omega (arith, h.referred_at, h.inside) in
    let left = length-drop byte bs in
    let held = λ (i : ℕ) (lt : i < length spans). ap (λ (z : List Piece). held_said z (bs ++ xs) (slice_get spans i)) (sym (append-nil ps)) ∙ held_kept ps [] bs xs spans i h.spanned in
    let said = rows_kept rows named named spans spans ps ps bs (bs ++ xs) (λ i lt. refl) held h.within in
    let more = ap (parts_said (drop piece ps)) (drop-append-le byte bs xs begun)
    ∙ more_bytes (drop piece ps) (drop byte bs) xs (omega (arith, h.referred_at, h.inside, left)) in
    (λ i. record { places = said i; value = more i })

pub reference_gathered : (rows : List Row) (named : List Reference) (spans : List Span) (ps : List Piece) (p : Piece) (bs : List ℕ) (piece byte referred : ℕ) → AreRows rows named spans ps bs piece byte referred →
    p.before ≡ length bs - referred →
    gathered rows named spans (ps ++ p ∷ []) bs piece byte ≡ with_parts (gathered rows named spans ps bs piece byte) (referring p.form (reference_of p.reference) ∷ [])
reference_gathered rows named spans ps p bs piece byte referred h e =
    let left = length-drop byte bs in
    let held = λ (i : ℕ) (lt : i < length spans). ap (λ (z : List ℕ). held_said (ps ++ p ∷ []) z (slice_get spans i)) (sym (append-nil bs)) ∙ held_kept ps (p ∷ []) bs [] spans i h.spanned in
    let said = rows_kept rows named named spans spans ps (ps ++ p ∷ []) bs bs (λ i lt. refl) held h.within in
    let more = ap (λ (z : List Piece). parts_said z (drop byte bs)) (drop-append-le piece ps (p ∷ []) h.begun)
    ∙ more_pieces (drop piece ps) p (drop byte bs) (omega (arith, h.referred_at, h.inside, left, e)) in
    (λ i. record { places = said i; value = more i })
