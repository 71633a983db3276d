-- Blobs with a damage in the header or in the reservations.
use Rattle.std.proofs.Common.{◌≡◌, ℕ, ◌+◌, List, [], ◌∷◌, ◌++◌, length, drop, take, None, get_or, refl, ap, ◌∙◌, arith}
use Rattle.std.specs.List.{flat_map}
use Rattle.std.proofs.lemmas.List.{length-append}
use Rattle.dt_model.specs.Format.{pair, reservation_block}
use Rattle.dt_model.specs.Checks.{short_header, bad_magic, bad_total, bad_version, misaligned, block_outside, no_reservation_end, IsFirstFault, in_header, in_reservations}
use Rattle.dt_model_format.specs.Samples.{one_cell_blob, with_word}

pub short_faulted : IsFirstFault (take 39 one_cell_blob) short_header None
short_faulted = in_header short_header refl

pub magic_faulted : IsFirstFault (0 ∷ drop 1 one_cell_blob) bad_magic None
magic_faulted = in_header bad_magic refl

pub total_faulted : IsFirstFault (take 89 one_cell_blob) bad_total None
total_faulted = in_header bad_total refl

pub version_faulted : IsFirstFault (with_word 20 16 one_cell_blob) bad_version None
version_faulted = in_header bad_version refl

pub last_compatible_faulted : IsFirstFault (with_word 24 0x12 one_cell_blob) bad_version None
last_compatible_faulted = in_header bad_version refl

pub aligned_faulted : IsFirstFault (with_word 8 0x39 one_cell_blob) misaligned None
aligned_faulted = in_header misaligned refl

pub outside_faulted : IsFirstFault (with_word 32 3 one_cell_blob) block_outside None
outside_faulted = in_header block_outside refl

-- the bytes behind the header, without the pair of zeros
abbrev behind_pairs : List ℕ
behind_pairs = drop 56 one_cell_blob

length-more : (p : ℕ × ℕ) (pairs : List (ℕ × ℕ)) → length (reservation_block (p ∷ pairs)) ≡ 16 + length (reservation_block pairs)
length-more p pairs = omega arith

-- no pairs and a pair of zeros stand there: bytes 3 and 23 are 1, and there are 34
no_pairs : (pairs : List (ℕ × ℕ)) (behind : List ℕ) → behind_pairs ≡ reservation_block pairs ++ behind → ⊥
no_pairs [] behind e = let one : ◌≡◌ {A = ℕ} 1 0 = ap (λ (x : List ℕ). get_or x 3 0) e in omega arith
no_pairs (p ∷ []) behind e = let one : ◌≡◌ {A = ℕ} 1 0 = ap (λ (x : List ℕ). get_or x 23 0) e in omega arith
no_pairs (p ∷ q ∷ pairs) behind e =
    let lengths : ◌≡◌ {A = ℕ} 34 (length (reservation_block (p ∷ q ∷ pairs)) + length behind) = ap length e ∙ length-append (reservation_block (p ∷ q ∷ pairs)) behind in
    let first = length-more p (q ∷ pairs) in
    let second = length-more q pairs in
    let last = length-append (flat_map pair pairs) (pair (0, 0)) in
    let sixteen : length (pair (0, 0)) ≡ 16 = refl in
    omega arith

pub reservations_faulted : IsFirstFault (with_word 16 0x38 one_cell_blob) no_reservation_end None
reservations_faulted = in_reservations refl (λ h. no_pairs h.0 h.1 h.3)
