-- A blob within the limits has no fault.
use Rattle.std.proofs.Common.{◌≡◌, ℕ, ◌+◌, ◌%◌, ◌≤◌, true, false, not, ◌&&◌, List, ◌++◌, length, drop, take, Option, Some, None, nat_eq, nat_lt, nat_le, if◌then◌else◌, sym, ap, subst, ◌∙◌, arith}
use Rattle.std.specs.Prelude.{unwrap_or}
use Rattle.std.specs.List.{flat_map}
use Rattle.std.proofs.lemmas.Bool.{le-ltb, le-leb, eq-eqb}
use Rattle.std.proofs.lemmas.List.{length-append, length-drop, length-take}
use Rattle.dt_model.specs.Tree.{Property, Forest, Reading}
use Rattle.dt_model.specs.Format.{word_at, Header, SpellsTree, part, pair, reservation_block, Reads, IsWithin}
use Rattle.dt_model.specs.Checks.{BlobFault, counted, short_header, bad_magic, bad_total, over_limit, bad_version, misaligned, block_outside, number, header_fault, strings_of, structure_of, HasReservations, IsSpelled, AreApart, AreNumbered, IsFirstFault, in_header, in_reservations, at_a_limit, at_a_token, in_names, in_phandles}
use Rattle.dt_model.proofs.Blobs.{same_header}
use Rattle.dt_model_format.proofs.FirstFaults.{no_stop, one_spelled, not_apart}
use Rattle.dt_model_format.proofs.Leads.{spelled_within}

pub number_is : (bytes : List ℕ) (at n : ℕ) → word_at bytes at ≡ Some n → number bytes at ≡ n
number_is bytes at n e = ap (λ (o : Option ℕ). unwrap_or o 0) e

-- the reservations begin inside the blob
reservations_inside : (bytes : List ℕ) (t : Reading) (r : Reads bytes t) → r.header.reservations_offset ≤ r.header.total_size
reservations_inside bytes t r =
    let offset = r.header.reservations_offset in
    let total = r.header.total_size in
    let lengths : length (drop offset (take total bytes)) ≡ length (flat_map pair t.reservations) + 16 + length r.behind =
    ap length r.reservations ∙ length-append (reservation_block t.reservations) r.behind ∙ ap (λ (n : ℕ). n + length r.behind) (length-append (flat_map pair t.reservations) (pair (0, 0))) in
    omega (arith, lengths, length-drop offset (take total bytes), length-take total bytes)

header_passes : (bytes : List ℕ) (t : Reading) (r : Reads bytes t) → r.header.total_size ≤ 16777216 → header_fault bytes ≡ None
header_passes bytes t r size =
    let h = r.header in
    let w = r.words in
    let sound = r.sound in
    let total = number_is bytes 4 h.total_size w.total_size in
    let structure = number_is bytes 8 h.structure_offset w.structure_offset in
    let strings = number_is bytes 12 h.strings_offset w.strings_offset in
    let reservations = number_is bytes 16 h.reservations_offset w.reservations_offset in
    let inside = reservations_inside bytes t r in
    let long : nat_lt (length bytes) 40 ≡ false = le-ltb (length bytes) 40 (omega arith) in
    let magic : nat_eq (number bytes 0) 0xd00dfeed ≡ true = eq-eqb (number bytes 0) 0xd00dfeed (number_is bytes 0 0xd00dfeed w.magic) in
    let holds : nat_le 40 (number bytes 4) ≡ true = le-leb 40 (number bytes 4) (omega arith) in
    let within : nat_le (number bytes 4) (length bytes) ≡ true = le-leb (number bytes 4) (length bytes) (omega arith) in
    let small : nat_le (number bytes 4) 16777216 ≡ true = le-leb (number bytes 4) 16777216 (omega arith) in
    let version : nat_le 17 (number bytes 20) ≡ true = le-leb 17 (number bytes 20) (omega (arith, number_is bytes 20 h.version w.version)) in
    let last : nat_le (number bytes 24) 17 ≡ true = le-leb (number bytes 24) 17 (omega (arith, number_is bytes 24 h.last_compatible_version w.last_compatible_version)) in
    let eight : nat_eq (number bytes 16 % 8) 0 ≡ true = eq-eqb (number bytes 16 % 8) 0 (ap (λ (n : ℕ). n % 8) reservations ∙ sound.reservations_aligned) in
    let four : nat_eq (number bytes 8 % 4) 0 ≡ true = eq-eqb (number bytes 8 % 4) 0 (ap (λ (n : ℕ). n % 4) structure ∙ sound.structure_aligned) in
    let first : nat_le (number bytes 16) (number bytes 4) ≡ true = le-leb (number bytes 16) (number bytes 4) (omega arith) in
    let second : nat_le (number bytes 8 + number bytes 36) (number bytes 4) ≡ true = le-leb (number bytes 8 + number bytes 36) (number bytes 4) (omega (arith, sound.structure_inside, number_is bytes 36 h.structure_size w.structure_size)) in
    let third : nat_le (number bytes 12 + number bytes 32) (number bytes 4) ≡ true = le-leb (number bytes 12 + number bytes 32) (number bytes 4) (omega (arith, sound.strings_inside, number_is bytes 32 h.strings_size w.strings_size)) in
    λ i.
    if long i then Some short_header
    else if not (magic i) then Some bad_magic
    else if not (holds i && within i) then Some bad_total
    else if not (small i) then Some over_limit
    else if not (version i && last i) then Some bad_version
    else if not (eight i && four i) then Some misaligned
    else if not (first i && second i && third i) then Some block_outside
    else None

-- the reservations stand where the header says
pub reserved_at : (bytes : List ℕ) (t : Reading) (r : Reads bytes t) → drop (number bytes 16) (counted bytes) ≡ reservation_block t.reservations ++ r.behind
reserved_at bytes t r =
    let total = number_is bytes 4 r.header.total_size r.words.total_size in
    let offset = number_is bytes 16 r.header.reservations_offset r.words.reservations_offset in
    (λ i. drop (offset i) (take (total i) bytes)) ∙ r.reservations

has_reservations : (bytes : List ℕ) (t : Reading) → Reads bytes t → HasReservations bytes
has_reservations bytes t r = (t.reservations, r.behind, r.valid.reservations, reserved_at bytes t r)

pub spelled_tree_of : (bytes : List ℕ) (t : Reading) → Reads bytes t → SpellsTree (strings_of bytes) t.properties t.children (structure_of bytes)
spelled_tree_of bytes t r =
    let h = r.header in
    let w = r.words in
    let strings : part h.strings_offset h.strings_size bytes ≡ strings_of bytes = let a = sym (number_is bytes 12 h.strings_offset w.strings_offset) in let b = sym (number_is bytes 32 h.strings_size w.strings_size) in λ i. part (a i) (b i) bytes in
    let structure : part h.structure_offset h.structure_size bytes ≡ structure_of bytes = let a = sym (number_is bytes 8 h.structure_offset w.structure_offset) in let b = sym (number_is bytes 36 h.structure_size w.structure_size) in λ i. part (a i) (b i) bytes in
    subst (λ (block : List ℕ). SpellsTree (strings_of bytes) t.properties t.children block) structure
    (subst (λ (names : List ℕ). SpellsTree names t.properties t.children (part h.structure_offset h.structure_size bytes)) strings r.structure)

pub spelled_of : (bytes : List ℕ) (t : Reading) → Reads bytes t → IsWithin bytes t → IsSpelled (strings_of bytes) (structure_of bytes) t.properties t.children
spelled_of bytes t r within = spelled_within (strings_of bytes) (structure_of bytes) t.properties t.children (spelled_tree_of bytes t r) (r.valid.properties).named r.valid.nodes within.tree.depth within.tree.count

pub apart_of : (bytes : List ℕ) (t : Reading) → Reads bytes t → AreApart t.properties t.children
apart_of bytes t r = record { properties_apart = r.valid.properties; nodes_apart = r.valid.nodes; siblings_apart = r.valid.siblings }

pub numbered_of : (bytes : List ℕ) (t : Reading) → Reads bytes t → AreNumbered t.properties t.children
numbered_of bytes t r = record { valid = r.valid.phandles_valid; own = r.valid.phandles_distinct }

small_of : (bytes : List ℕ) (t : Reading) (r : Reads bytes t) → IsWithin bytes t → r.header.total_size ≤ 16777216
small_of bytes t r within = subst (λ (h : Header). h.total_size ≤ 16777216) (same_header bytes within.header r.header within.words r.words) within.size

pub no_first_fault : (bytes : List ℕ) (t : Reading) (f : BlobFault) (at : Option ℕ) → Reads bytes t → IsWithin bytes t → IsFirstFault bytes f at → ⊥
no_first_fault bytes t f _ r within (in_header _ wrong) = let passes = header_passes bytes t r (small_of bytes t r within) in absurd cc
no_first_fault bytes t _ _ r within (in_reservations _ absent) = absent (has_reservations bytes t r)
no_first_fault bytes t _ _ r within (at_a_limit _ _ k stop) = no_stop (strings_of bytes) (structure_of bytes) k over_limit t.properties t.children stop (spelled_of bytes t r within)
no_first_fault bytes t f _ r within (at_a_token _ _ _ k _ stop) = no_stop (strings_of bytes) (structure_of bytes) k f t.properties t.children stop (spelled_of bytes t r within)
no_first_fault bytes t _ _ r within (in_names _ _ ps cs spelled differ) = not_apart (strings_of bytes) (structure_of bytes) ps t.properties cs t.children spelled differ (spelled_of bytes t r within) (apart_of bytes t r)
no_first_fault bytes t _ _ r within (in_phandles _ _ ps cs spelled _ unnumbered) =
    let same = one_spelled (strings_of bytes) (structure_of bytes) ps t.properties cs t.children spelled (spelled_tree_of bytes t r) in
    unnumbered (subst (λ (c : Forest). AreNumbered ps c) (sym same.1) (subst (λ (p : List Property). AreNumbered p t.children) (sym same.0) (numbered_of bytes t r)))
