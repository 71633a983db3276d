-- Pairs of a reservation block.
use Rattle.std.proofs.Common.{◌≡◌, ℕ, zero, suc, ◌+◌, ◌^◌, ◌<◌, ◌≤◌, Bool, true, false, cond, List, [], ◌∷◌, ◌++◌, length, take, drop, Option, Some, None, refl, sym, ap, subst, ◌∙◌, append_assoc, arith}
use Rattle.std.specs.Prelude.{◌&&◌}
use Rattle.std.specs.Int.{w64, from_be_bytes, to_be_bytes}
use Rattle.std.proofs.Math.Dec.{eqb}
use Rattle.std.proofs.lemmas.Bool.{le-leb, leb-true, eqb-true, eq-eqb, false≢true}
use Rattle.std.proofs.lemmas.Option.{cond_some}
use Rattle.std.proofs.lemmas.List.{take_at, drop_at, drop-drop, take-append-drop, length-append, length-take, length-drop}
use Rattle.std.proofs.lemmas.Nat.{be_bytes_8, from_be_bytes-to_be_bytes_8}
use Rattle.dt_model.specs.Lexing.{◌>>=◌}
use Rattle.dt_model.specs.Format.{pair, reservation_block}
use Rattle.dt_model.specs.Valid.{IsReservation}
use Rattle.std.specs.List.{AllByRecursion, flat_map}
use Rattle.dt_bytes.specs.Places.{long_at}
use Rattle.dt_read.specs.Blocks.{Reserves}
use Rattle.dt_read.specs.Pairs.{SpellsPairs, pair_in, pairs_from, ends_from, pairs_in, ends_in, pairs_of, ends}
use Rattle.dt_read.proofs.Numbers.{IsBytes, IsBytes-drop, IsBytes-take, bind_some}

-- a number of fuel that reaches makes no difference
pub pair_long : (bytes : List ℕ) (p : ℕ × ℕ) → pair_in bytes ≡ Some p → 16 ≤ length bytes
unfolding pair_in
pair_long bytes p e =
    let b = bind_some (long_at bytes 0) (λ address. long_at bytes 8 >>= λ size. Some (address, size)) p e in
    let c = bind_some (long_at bytes 8) (λ size. Some (b.0, size)) p b.2 in
    let g = cond_some _ (from_be_bytes w64 (take 8 (drop 8 bytes))) c.0 c.1 in
    let long : 8 + 8 ≤ length bytes = leb-true _ _ g.0 in
    omega arith

ends_fuel : (n m : ℕ) (bytes : List ℕ) → length bytes ≤ n → length bytes ≤ m → ends_in n bytes ≡ ends_in m bytes
unfolding ends_in
ends_fuel zero zero bytes l k = refl
ends_fuel zero (suc m) bytes l k = sym (short (pair_in bytes) (λ p e. let long = pair_long bytes p e in absurd (omega arith)) (ends_in m (drop 16 bytes)))
  where
    short : (o : Option (ℕ × ℕ)) → ((p : ℕ × ℕ) → o ≡ Some p → ⊥) → (later : Bool) → ends_from o later ≡ false
    short None h later = refl
    short (Some p) h later = absurd (h p refl)
ends_fuel (suc n) zero bytes l k = short (pair_in bytes) (λ p e. let long = pair_long bytes p e in absurd (omega arith)) (ends_in n (drop 16 bytes))
  where
    short : (o : Option (ℕ × ℕ)) → ((p : ℕ × ℕ) → o ≡ Some p → ⊥) → (later : Bool) → ends_from o later ≡ false
    short None h later = refl
    short (Some p) h later = absurd (h p refl)
ends_fuel (suc n) (suc m) bytes l k = same (pair_in bytes) (λ p e. let long = pair_long bytes p e in ends_fuel n m (drop 16 bytes) (omega (arith, length-drop 16 bytes)) (omega (arith, length-drop 16 bytes)))
  where
    same : (o : Option (ℕ × ℕ)) → ((p : ℕ × ℕ) → o ≡ Some p → ends_in n (drop 16 bytes) ≡ ends_in m (drop 16 bytes)) → ends_from o (ends_in n (drop 16 bytes)) ≡ ends_from o (ends_in m (drop 16 bytes))
    same None h = refl
    same (Some p) h = ap (ends_from (Some p)) (h p refl)

pairs_fuel : (n m : ℕ) (bytes : List ℕ) → length bytes ≤ n → length bytes ≤ m → pairs_in n bytes ≡ pairs_in m bytes
unfolding pairs_in
pairs_fuel zero zero bytes l k = refl
pairs_fuel zero (suc m) bytes l k = sym (short (pair_in bytes) (λ p e. let long = pair_long bytes p e in absurd (omega arith)) (pairs_in m (drop 16 bytes)))
  where
    short : (o : Option (ℕ × ℕ)) → ((p : ℕ × ℕ) → o ≡ Some p → ⊥) → (later : List (ℕ × ℕ)) → pairs_from o later ≡ []
    short None h later = refl
    short (Some p) h later = absurd (h p refl)
pairs_fuel (suc n) zero bytes l k = short (pair_in bytes) (λ p e. let long = pair_long bytes p e in absurd (omega arith)) (pairs_in n (drop 16 bytes))
  where
    short : (o : Option (ℕ × ℕ)) → ((p : ℕ × ℕ) → o ≡ Some p → ⊥) → (later : List (ℕ × ℕ)) → pairs_from o later ≡ []
    short None h later = refl
    short (Some p) h later = absurd (h p refl)
pairs_fuel (suc n) (suc m) bytes l k = same (pair_in bytes) (λ p e. let long = pair_long bytes p e in pairs_fuel n m (drop 16 bytes) (omega (arith, length-drop 16 bytes)) (omega (arith, length-drop 16 bytes)))
  where
    same : (o : Option (ℕ × ℕ)) → ((p : ℕ × ℕ) → o ≡ Some p → pairs_in n (drop 16 bytes) ≡ pairs_in m (drop 16 bytes)) → pairs_from o (pairs_in n (drop 16 bytes)) ≡ pairs_from o (pairs_in m (drop 16 bytes))
    same None h = refl
    same (Some p) h = ap (pairs_from (Some p)) (h p refl)

-- one pair further
pub ends_more : (bytes : List ℕ) (p : ℕ × ℕ) → pair_in bytes ≡ Some p → ends bytes ≡ ends_from (Some p) (ends (drop 16 bytes))
unfolding ends_in
ends_more bytes p e =
    ends_fuel (length bytes) (suc (length bytes)) bytes (omega arith) (omega arith)
    ∙ ap (λ o. ends_from o (ends_in (length bytes) (drop 16 bytes))) e
    ∙ ap (ends_from (Some p)) (ends_fuel (length bytes) (length (drop 16 bytes)) (drop 16 bytes) (omega (arith, length-drop 16 bytes)) (omega arith))

pub ends_none : (bytes : List ℕ) → pair_in bytes ≡ None → ends bytes ≡ false
unfolding ends_in
ends_none bytes e = ends_fuel (length bytes) (suc (length bytes)) bytes (omega arith) (omega arith) ∙ ap (λ o. ends_from o (ends_in (length bytes) (drop 16 bytes))) e

pub pairs_more : (bytes : List ℕ) (p : ℕ × ℕ) → pair_in bytes ≡ Some p → pairs_of bytes ≡ pairs_from (Some p) (pairs_of (drop 16 bytes))
unfolding pairs_in
pairs_more bytes p e =
    pairs_fuel (length bytes) (suc (length bytes)) bytes (omega arith) (omega arith)
    ∙ ap (λ o. pairs_from o (pairs_in (length bytes) (drop 16 bytes))) e
    ∙ ap (pairs_from (Some p)) (pairs_fuel (length bytes) (length (drop 16 bytes)) (drop 16 bytes) (omega (arith, length-drop 16 bytes)) (omega arith))

pub pairs_none : (bytes : List ℕ) → pair_in bytes ≡ None → pairs_of bytes ≡ []
unfolding pairs_in
pairs_none bytes e = pairs_fuel (length bytes) (suc (length bytes)) bytes (omega arith) (omega arith) ∙ ap (λ o. pairs_from o (pairs_in (length bytes) (drop 16 bytes))) e

pub ends_last : (bytes : List ℕ) (p : ℕ × ℕ) → pair_in bytes ≡ Some p → true ≡ ((eqb p.0 0) && (eqb p.1 0)) → ends bytes ≡ true
ends_last bytes p e z = ends_more bytes p e ∙ ap (λ (b : Bool). cond b true (ends (drop 16 bytes))) (sym z)

pub ends_later : (bytes : List ℕ) (p : ℕ × ℕ) → pair_in bytes ≡ Some p → false ≡ ((eqb p.0 0) && (eqb p.1 0)) → ends bytes ≡ ends (drop 16 bytes)
ends_later bytes p e z = ends_more bytes p e ∙ ap (λ (b : Bool). cond b true (ends (drop 16 bytes))) (sym z)

pub pairs_last : (bytes : List ℕ) (p : ℕ × ℕ) → pair_in bytes ≡ Some p → true ≡ ((eqb p.0 0) && (eqb p.1 0)) → pairs_of bytes ≡ []
pairs_last bytes p e z = pairs_more bytes p e ∙ ap (λ (b : Bool). cond b [] (p ∷ pairs_of (drop 16 bytes))) (sym z)

pub pairs_later : (bytes : List ℕ) (p : ℕ × ℕ) → pair_in bytes ≡ Some p → false ≡ ((eqb p.0 0) && (eqb p.1 0)) → pairs_of bytes ≡ p ∷ pairs_of (drop 16 bytes)
pairs_later bytes p e z = pairs_more bytes p e ∙ ap (λ (b : Bool). cond b [] (p ∷ pairs_of (drop 16 bytes))) (sym z)

-- ---- the pairs that are read are those that are spelled

wide_again : (at n : ℕ) (front w more bytes : List ℕ) → bytes ≡ front ++ (w ++ more) → length front ≡ at → length w ≡ 8 → from_be_bytes w64 w ≡ n → long_at bytes at ≡ Some n
wide_again at n front w more bytes whole at-is eight value =
    let long : at + 8 ≤ length bytes = omega (arith, ap length whole, length-append front (w ++ more), length-append w more) in
    let here : take 8 (drop at bytes) ≡ w = ap (λ (x : List ℕ). take 8 (drop at x)) whole ∙ ap (take 8) (drop_at front (w ++ more) at at-is) ∙ take_at w more 8 eight in
    rw (le-leb _ _ long) (ap (λ (x : List ℕ). Some (from_be_bytes w64 x)) here ∙ ap (λ (x : ℕ). Some x) value)

pair_again : (p : ℕ × ℕ) (rest bytes : List ℕ) → bytes ≡ pair p ++ rest → p.0 < 2 ^ 64 → p.1 < 2 ^ 64 → (pair_in bytes ≡ Some p) × (drop 16 bytes ≡ rest)
unfolding pair_in
pair_again p rest bytes e a s =
    let first : long_at bytes 0 ≡ Some p.0 = wide_again 0 p.0 [] (to_be_bytes w64 p.0) (to_be_bytes w64 p.1 ++ rest) bytes (e ∙ append_assoc (to_be_bytes w64 p.0) (to_be_bytes w64 p.1) rest) refl refl (from_be_bytes-to_be_bytes_8 p.0 a) in
    let second : long_at bytes 8 ≡ Some p.1 = wide_again 8 p.1 (to_be_bytes w64 p.0) (to_be_bytes w64 p.1) rest bytes (e ∙ append_assoc (to_be_bytes w64 p.0) (to_be_bytes w64 p.1) rest) refl refl (from_be_bytes-to_be_bytes_8 p.1 s) in
    (rw (first, second) refl, ap (drop 16) e ∙ drop_at (pair p) rest 16 refl)

pub spelled_pairs : (ps : List (ℕ × ℕ)) (bytes : List ℕ) → SpellsPairs ps bytes → (ends bytes ≡ true) × (pairs_of bytes ≡ ps)
spelled_pairs [] bytes s =
    let p = pair_again (0, 0) s.0 bytes s.1 (omega arith) (omega arith) in
    (ends_last bytes (0, 0) p.0 refl, pairs_last bytes (0, 0) p.0 refl)
spelled_pairs (p ∷ ps) bytes s =
    let a = pair_again p s.0 bytes s.1 s.3 s.4 in
    let later = spelled_pairs ps (drop 16 bytes) (subst (SpellsPairs ps) (sym a.1) s.5) in
    (ends_later bytes p a.0 (sym s.2) ∙ later.0, pairs_later bytes p a.0 (sym s.2) ∙ ap (λ (x : List (ℕ × ℕ)). p ∷ x) later.1)

wide_takes : (at : ℕ) (bytes : List ℕ) (n : ℕ) → IsBytes bytes → long_at bytes at ≡ Some n → (drop at bytes ≡ to_be_bytes w64 n ++ drop (at + 8) bytes) × (n < 2 ^ 64)
wide_takes at bytes n fits e =
    let g = cond_some _ (from_be_bytes w64 (take 8 (drop at bytes))) n e in
    let long : at + 8 ≤ length bytes = leb-true _ _ g.0 in
    let eight : length (take 8 (drop at bytes)) ≡ 8 = omega (arith, length-take 8 (drop at bytes), length-drop at bytes) in
    let bytes8 : IsBytes (take 8 (drop at bytes)) = IsBytes-take 8 (drop at bytes) (IsBytes-drop at bytes fits) in
    let same : to_be_bytes w64 n ≡ take 8 (drop at bytes) = be_bytes_8 (take 8 (drop at bytes)) n eight bytes8 (sym g.1) in
    let below : from_be_bytes w64 (take 8 (drop at bytes)) < 2 ^ 64 = omega (arith, bytes8 0, bytes8 1, bytes8 2, bytes8 3, bytes8 4, bytes8 5, bytes8 6, bytes8 7) in
    (sym (take-append-drop 8 (drop at bytes)) ∙ ap (λ (x : List ℕ). x ++ drop 8 (drop at bytes)) (sym same) ∙ ap (λ (x : List ℕ). to_be_bytes w64 n ++ x) (drop-drop 8 at bytes), subst (λ (m : ℕ). m < 2 ^ 64) g.1 below)

pair_takes : (bytes : List ℕ) (p : ℕ × ℕ) → IsBytes bytes → pair_in bytes ≡ Some p → (bytes ≡ pair p ++ drop 16 bytes) × (p.0 < 2 ^ 64) × (p.1 < 2 ^ 64)
unfolding pair_in
pair_takes bytes p fits e =
    let b = bind_some (long_at bytes 0) (λ address. long_at bytes 8 >>= λ size. Some (address, size)) p e in
    let c = bind_some (long_at bytes 8) (λ size. Some (b.0, size)) p b.2 in
    let first = wide_takes 0 bytes b.0 fits b.1 in
    let second = wide_takes 8 bytes c.0 fits c.1 in
    let is : ◌≡◌ {A = ℕ × ℕ} (b.0, c.0) p = cc in
    let whole : bytes ≡ pair (b.0, c.0) ++ drop 16 bytes = first.0 ∙ ap (λ (x : List ℕ). to_be_bytes w64 b.0 ++ x) second.0 ∙ sym (append_assoc (to_be_bytes w64 b.0) (to_be_bytes w64 c.0) (drop 16 bytes)) in
    subst (λ (q : ℕ × ℕ). (bytes ≡ pair q ++ drop 16 bytes) × (q.0 < 2 ^ 64) × (q.1 < 2 ^ 64)) is (whole, first.1, second.1)

and_true : (x y : Bool) → true ≡ (x && y) → (x ≡ true) × (y ≡ true)
and_true true y e = (refl, sym e)
and_true false y e = absurd cc

zeros : (a b : ℕ) → true ≡ ((eqb a 0) && (eqb b 0)) → (a ≡ 0) × (b ≡ 0)
zeros a b e = let h = and_true (eqb a 0) (eqb b 0) e in (eqb-true a 0 h.0, eqb-true b 0 h.1)

by_zero : (n : ℕ) (bytes : List ℕ) → IsBytes bytes → length bytes ≤ suc n → ends bytes ≡ true → (p : ℕ × ℕ) → pair_in bytes ≡ Some p → (b : Bool) → b ≡ ((eqb p.0 0) && (eqb p.1 0))
    → ((later : List ℕ) → IsBytes later → length later ≤ n → ends later ≡ true → SpellsPairs (pairs_of later) later) → SpellsPairs (pairs_of bytes) bytes
by_zero n bytes fits le e p is true z later =
    let t = pair_takes bytes p fits is in
    let both = zeros p.0 p.1 z in
    let whole : bytes ≡ pair (0, 0) ++ drop 16 bytes = t.0 ∙ ap (λ (a : ℕ). pair (a, p.1) ++ drop 16 bytes) both.0 ∙ ap (λ (b : ℕ). pair (0, b) ++ drop 16 bytes) both.1 in
    subst (λ (ps : List (ℕ × ℕ)). SpellsPairs ps bytes) (sym (pairs_last bytes p is z)) (drop 16 bytes, whole)
by_zero n bytes fits le e p is false z later =
    let t = pair_takes bytes p fits is in
    let long = pair_long bytes p is in
    let rest = later (drop 16 bytes) (IsBytes-drop 16 bytes fits) (omega (arith, length-drop 16 bytes)) (sym (ends_later bytes p is z) ∙ e) in
    subst (λ (ps : List (ℕ × ℕ)). SpellsPairs ps bytes) (sym (pairs_later bytes p is z)) (drop 16 bytes, t.0, sym z, t.1, t.2, rest)

by_pair : (n : ℕ) (bytes : List ℕ) → IsBytes bytes → length bytes ≤ suc n → ends bytes ≡ true → (o : Option (ℕ × ℕ)) → pair_in bytes ≡ o
    → ((later : List ℕ) → IsBytes later → length later ≤ n → ends later ≡ true → SpellsPairs (pairs_of later) later) → SpellsPairs (pairs_of bytes) bytes
by_pair n bytes fits le e None is later = let unended = ends_none bytes is in absurd cc
by_pair n bytes fits le e (Some p) is later = by_zero n bytes fits le e p is ((eqb p.0 0) && (eqb p.1 0)) refl later

pub pairs_spelled : (n : ℕ) (bytes : List ℕ) → IsBytes bytes → length bytes ≤ n → ends bytes ≡ true → SpellsPairs (pairs_of bytes) bytes
pairs_spelled zero bytes fits le e = absurd (unended (pair_in bytes) refl)
  where
    unended : (o : Option (ℕ × ℕ)) → pair_in bytes ≡ o → ⊥
    unended None is = let none = ends_none bytes is in false≢true (sym none ∙ e)
    unended (Some p) is = let long = pair_long bytes p is in omega arith
pairs_spelled (suc n) bytes fits le e = by_pair n bytes fits le e (pair_in bytes) refl (pairs_spelled n)

-- ---- the block that a reading has

regrouped : (w f z b : List ℕ) → w ++ ((f ++ z) ++ b) ≡ ((w ++ f) ++ z) ++ b
regrouped w f z b = simp append_assoc

some_pair : (p : ℕ × ℕ) → ((eqb p.0 0) && (eqb p.1 0)) ≡ false → ¬ ((p.0 ≡ 0) × (p.1 ≡ 0))
some_pair p e h = let a = eq-eqb p.0 0 h.0 in let b = eq-eqb p.1 0 h.1 in let both : ((eqb p.0 0) && (eqb p.1 0)) ≡ true = λ i. a i && b i in false≢true (sym e ∙ both)

pair_is_some : (p : ℕ × ℕ) → ¬ ((p.0 ≡ 0) × (p.1 ≡ 0)) → ((eqb p.0 0) && (eqb p.1 0)) ≡ false
pair_is_some p h = by_test ((eqb p.0 0) && (eqb p.1 0)) refl
  where
    by_test : (b : Bool) → b ≡ ((eqb p.0 0) && (eqb p.1 0)) → ((eqb p.0 0) && (eqb p.1 0)) ≡ false
    by_test true e = absurd (h (zeros p.0 p.1 e))
    by_test false e = sym e

reserves : (ps : List (ℕ × ℕ)) (bytes : List ℕ) → SpellsPairs ps bytes → Reserves bytes ps
reserves [] bytes s = record { behind = s.0; whole = s.1; valid = tt }
reserves (p ∷ ps) bytes s =
    let later = reserves ps s.0 s.5 in
    record {
      behind = later.behind;
      whole = s.1 ∙ ap (λ (x : List ℕ). pair p ++ x) later.whole ∙ regrouped (pair p) (flat_map pair ps) (pair (0, 0)) later.behind;
      valid = (record { some = some_pair p s.2; address = s.3; size = s.4 }, later.valid);
    }

pub reserves_pairs : (bytes : List ℕ) → IsBytes bytes → ends bytes ≡ true → Reserves bytes (pairs_of bytes)
reserves_pairs bytes fits e = reserves (pairs_of bytes) bytes (pairs_spelled (length bytes) bytes fits (omega arith) e)

spells : (ps : List (ℕ × ℕ)) (bytes behind : List ℕ) → AllByRecursion IsReservation ps → bytes ≡ reservation_block ps ++ behind → SpellsPairs ps bytes
spells [] bytes behind v e = (behind, e)
spells (p ∷ ps) bytes behind v e =
    let one = v.0 in
    (reservation_block ps ++ behind, e ∙ sym (regrouped (pair p) (flat_map pair ps) (pair (0, 0)) behind), pair_is_some p one.some, one.address, one.size, spells ps (reservation_block ps ++ behind) behind v.1 refl)

-- where pairs and a pair of zeros stand, they end
pub reserved_ends : (ps : List (ℕ × ℕ)) (bytes behind : List ℕ) → AllByRecursion IsReservation ps → bytes ≡ reservation_block ps ++ behind → ends bytes ≡ true
reserved_ends ps bytes behind v e = (spelled_pairs ps bytes (spells ps bytes behind v e)).0

-- and they are read
pub reserved_pairs : (ps : List (ℕ × ℕ)) (bytes behind : List ℕ) → AllByRecursion IsReservation ps → bytes ≡ reservation_block ps ++ behind → pairs_of bytes ≡ ps
reserved_pairs ps bytes behind v e = (spelled_pairs ps bytes (spells ps bytes behind v e)).1
