-- A reservation block is one list of pairs.
use Rattle.std.proofs.Common.{◌≡◌, ℕ, ◌^◌, ◌<◌, List, [], ◌∷◌, ◌++◌, length, refl, sym, ap, ◌∙◌, arith}
use Rattle.std.specs.List.{AllByRecursion}
use Rattle.std.specs.Int.{w64, to_be_bytes, from_be_bytes}
use Rattle.std.proofs.lemmas.Nat.{from_be_bytes-to_be_bytes_8}
use Rattle.dt_model.specs.Valid.{IsReservation}
use Rattle.dt_model.specs.Format.{reservation_block}

-- two lists that are the same after the same number of elements
same_front : {X : Type 0} (xs ys r s : List X) → length xs ≡ length ys → xs ++ r ≡ ys ++ s → (xs ≡ ys) × (r ≡ s)
same_front [] [] r s l e = (refl, e)
same_front [] (y ∷ ys) r s l e = absurd (omega arith)
same_front (x ∷ xs) [] r s l e = absurd (omega arith)
same_front (x ∷ xs) (y ∷ ys) r s l e =
    let head : x ≡ y = cc in
    let tail : xs ++ r ≡ ys ++ s = cc in
    let rest = same_front xs ys r s (omega arith) tail in
    (λ j. head j ∷ rest.0 j, rest.1)

long_same : (m n : ℕ) (r s : List ℕ) → m < 2 ^ 64 → n < 2 ^ 64 → to_be_bytes w64 m ++ r ≡ to_be_bytes w64 n ++ s → (m ≡ n) × (r ≡ s)
long_same m n r s lm ln e =
    let both = same_front (to_be_bytes w64 m) (to_be_bytes w64 n) r s refl e in
    (sym (from_be_bytes-to_be_bytes_8 m lm) ∙ ap (from_be_bytes w64) both.0 ∙ from_be_bytes-to_be_bytes_8 n ln, both.1)

pub same_pairs : (rs qs : List (ℕ × ℕ)) (x y : List ℕ) → AllByRecursion IsReservation rs → AllByRecursion IsReservation qs → reservation_block rs ++ x ≡ reservation_block qs ++ y → rs ≡ qs
same_pairs [] [] x y hr hq e = refl
same_pairs [] (q ∷ qs) x y hr hq e =
    let one = long_same 0 q.0 (to_be_bytes w64 0 ++ x) (to_be_bytes w64 q.1 ++ (reservation_block qs ++ y)) (omega arith) (hq.0).address e in
    let two = long_same 0 q.1 x (reservation_block qs ++ y) (omega arith) (hq.0).size one.1 in
    absurd ((hq.0).some (sym one.0, sym two.0))
same_pairs (r ∷ rs) [] x y hr hq e =
    let one = long_same r.0 0 (to_be_bytes w64 r.1 ++ (reservation_block rs ++ x)) (to_be_bytes w64 0 ++ y) (hr.0).address (omega arith) e in
    let two = long_same r.1 0 (reservation_block rs ++ x) y (hr.0).size (omega arith) one.1 in
    absurd ((hr.0).some (one.0, two.0))
same_pairs (r ∷ rs) (q ∷ qs) x y hr hq e =
    let one = long_same r.0 q.0 (to_be_bytes w64 r.1 ++ (reservation_block rs ++ x)) (to_be_bytes w64 q.1 ++ (reservation_block qs ++ y)) (hr.0).address (hq.0).address e in
    let two = long_same r.1 q.1 (reservation_block rs ++ x) (reservation_block qs ++ y) (hr.0).size (hq.0).size one.1 in
    let rest = same_pairs rs qs x y hr.1 hq.1 two.1 in
    λ j. (one.0 j, two.0 j) ∷ rest j
