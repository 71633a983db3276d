-- How long a reservation block is.
use Rattle.std.proofs.Common.{◌≡◌, ℕ, ◌+◌, ◌*◌, ◌≤◌, List, [], ◌∷◌, length, take, refl, ap, ◌∙◌, arith}
use Rattle.std.specs.List.{flat_map}
use Rattle.std.proofs.lemmas.List.{length-append, take_at}
use Rattle.dt_model.specs.Format.{pair, reservation_block}
use Rattle.dt_read.specs.declared.blocks.Blocks.{Blocks}
use Rattle.dt_read.specs.Blocks.{AreBlocks}
use Rattle.dt_read.specs.Checked.{placed_of}
use Rattle.dt_read.specs.Pairs.{pairs_of}

pairs_length : (rs : List (ℕ × ℕ)) → length (flat_map pair rs) ≡ 16 * length rs
pairs_length [] = refl
pairs_length (r ∷ rs) = omega (arith, length-append (pair r) (flat_map pair rs), pairs_length rs)

pub block_length : (rs : List (ℕ × ℕ)) → length (reservation_block rs) ≡ 16 * length rs + 16
block_length rs = omega (arith, length-append (flat_map pair rs) (pair (0, 0)), pairs_length rs)

-- the reservations of a blob's blocks
pub record AreReserved (bytes : List ℕ) (b : Blocks) (count : ℕ) : Type 0 where
  pub inside : 16 * count + 16 ≤ length b.reservations.now
  pub are : take (16 * count + 16) b.reservations.now ≡ reservation_block (placed_of bytes).reservations

pub reserved_bytes : (bytes : List ℕ) (b : Blocks) (count : ℕ) → AreBlocks bytes b → count ≡ length (pairs_of b.reservations.now) → AreReserved bytes b count
unfolding placed_of
reserved_bytes bytes b count a e =
    let own : List ℕ = reservation_block (pairs_of b.reservations.now) in
    let size : length own ≡ 16 * count + 16 = block_length (pairs_of b.reservations.now) ∙ omega arith in
    let whole = a.reserved.whole in
    record {
      inside = omega (arith, ap (λ (x : List ℕ). length x) whole, length-append own a.reserved.behind, size);
      are = ap (take (16 * count + 16)) whole ∙ take_at own a.reserved.behind (16 * count + 16) size ∙ ap (λ (x : List ℕ). reservation_block (pairs_of x)) a.reservations;
    }
