-- What a header without a fault says.
use Rattle.std.proofs.Common.{◌≡◌, ℕ, ◌+◌, ◌%◌, ◌≤◌, Bool, true, false, ◌&&◌, List, length, take, drop, Option, Some, None, refl, sym, ap, subst, ◌∙◌, arith, inl, inr}
use Rattle.std.specs.Prelude.{nat_lt, unwrap_or}
use Rattle.std.specs.Int.{w32, from_be_bytes}
use Rattle.std.proofs.Math.Dec.{eqb, leb}
use Rattle.std.proofs.lemmas.Bool.{cases_lt, false≢true, eqb-true, le-leb, leb-true, lt-ltb}
use Rattle.std.proofs.lemmas.List.{length-take, length-drop}
use Rattle.dt_model.specs.Format.{word_at, Header, HasHeader, IsSoundHeader, part}
use Rattle.dt_model.specs.Checks.{number, counted, header_fault, IsFirstFault, in_reservations, no_reservation_end}
use Rattle.dt_read.proofs.Numbers.{IsBytes, IsBytes-drop, IsBytes-take}
use Rattle.dt_read.specs.Pairs.{ends, pairs_of}
use Rattle.dt_read.specs.Blocks.{Reserves}
use Rattle.dt_read.proofs.PairLemmas.{reserves_pairs, reserved_ends}
use Rattle.dt_read.proofs.Scanning.{passes, passes_not}

pub record IsFine (bytes : List ℕ) : Type 0 where
  pub long : 40 ≤ length bytes
  pub magic : number bytes 0 ≡ 0xd00dfeed
  pub at_least : 40 ≤ number bytes 4
  pub at_most : number bytes 4 ≤ length bytes
  pub size : number bytes 4 ≤ 16777216
  pub version : 17 ≤ number bytes 20
  pub last_version : number bytes 24 ≤ 17
  pub reservations_aligned : number bytes 16 % 8 ≡ 0
  pub structure_aligned : number bytes 8 % 4 ≡ 0
  pub reservations_inside : number bytes 16 ≤ number bytes 4
  pub structure_inside : number bytes 8 + number bytes 36 ≤ number bytes 4
  pub strings_inside : number bytes 12 + number bytes 32 ≤ number bytes 4

not_below : (a b : ℕ) → nat_lt a b ≡ false → b ≤ a
not_below a b e = elim (cases_lt a b) [ inl lt ↦ absurd (false≢true (sym e ∙ lt-ltb a b lt)) | inr le ↦ le ]

two : (a b : Bool) → a && b ≡ true → (a ≡ true) × (b ≡ true)
two true true e = (refl, refl)
two true false e = absurd cc
two false b e = absurd cc

three : (a b c : Bool) → a && b && c ≡ true → (a ≡ true) × (b ≡ true) × (c ≡ true)
three true true true e = (refl, refl, refl)
three true true false e = absurd cc
three true false c e = absurd cc
three false b c e = absurd cc

pub fine : (bytes : List ℕ) → header_fault bytes ≡ None → IsFine bytes
fine bytes e =
    let a = passes_not (nat_lt (length bytes) 40) _ _ e in
    let b = passes (eqb (number bytes 0) 0xd00dfeed) _ _ a.1 in
    let c = passes (leb 40 (number bytes 4) && leb (number bytes 4) (length bytes)) _ _ b.1 in
    let d = passes (leb (number bytes 4) 16777216) _ _ c.1 in
    let f = passes (leb 17 (number bytes 20) && leb (number bytes 24) 17) _ _ d.1 in
    let g = passes (eqb (number bytes 16 % 8) 0 && eqb (number bytes 8 % 4) 0) _ _ f.1 in
    let h = passes (leb (number bytes 16) (number bytes 4) && leb (number bytes 8 + number bytes 36) (number bytes 4) && leb (number bytes 12 + number bytes 32) (number bytes 4)) _ _ g.1 in
    let total = two _ _ c.0 in
    let versions = two _ _ f.0 in
    let aligned = two _ _ g.0 in
    let inside = three _ _ _ h.0 in
    record {
      long = not_below (length bytes) 40 a.0;
      magic = eqb-true (number bytes 0) 0xd00dfeed b.0;
      at_least = leb-true 40 (number bytes 4) total.0;
      at_most = leb-true (number bytes 4) (length bytes) total.1;
      size = leb-true (number bytes 4) 16777216 d.0;
      version = leb-true 17 (number bytes 20) versions.0;
      last_version = leb-true (number bytes 24) 17 versions.1;
      reservations_aligned = eqb-true (number bytes 16 % 8) 0 aligned.0;
      structure_aligned = eqb-true (number bytes 8 % 4) 0 aligned.1;
      reservations_inside = leb-true (number bytes 16) (number bytes 4) inside.0;
      structure_inside = leb-true (number bytes 8 + number bytes 36) (number bytes 4) inside.1;
      strings_inside = leb-true (number bytes 12 + number bytes 32) (number bytes 4) inside.2;
    }

-- ---- the header

word_stands : (bytes : List ℕ) (at : ℕ) → at + 4 ≤ length bytes → word_at bytes at ≡ Some (number bytes at)
word_stands bytes at le =
    let here : word_at bytes at ≡ Some (from_be_bytes w32 (take 4 (drop at bytes))) = rw (le-leb (at + 4) (length bytes) le) refl in
    here ∙ ap (λ (n : ℕ). Some n) (sym (ap (λ (o : Option ℕ). unwrap_or o 0) here))

abbrev pub header_of : List ℕ → Header
header_of bytes = record {
  total_size = number bytes 4;
  structure_offset = number bytes 8;
  strings_offset = number bytes 12;
  reservations_offset = number bytes 16;
  version = number bytes 20;
  last_compatible_version = number bytes 24;
  boot_cpu = number bytes 28;
  strings_size = number bytes 32;
  structure_size = number bytes 36;
}

pub has_header : (bytes : List ℕ) → IsFine bytes → HasHeader bytes (header_of bytes)
has_header bytes f =
    let long = f.long in
    record {
      magic = word_stands bytes 0 (omega arith) ∙ ap (λ (n : ℕ). Some n) f.magic;
      total_size = word_stands bytes 4 (omega arith);
      structure_offset = word_stands bytes 8 (omega arith);
      strings_offset = word_stands bytes 12 (omega arith);
      reservations_offset = word_stands bytes 16 (omega arith);
      version = word_stands bytes 20 (omega arith);
      last_compatible_version = word_stands bytes 24 (omega arith);
      boot_cpu = word_stands bytes 28 (omega arith);
      strings_size = word_stands bytes 32 (omega arith);
      structure_size = word_stands bytes 36 (omega arith);
    }

pub is_sound : (bytes : List ℕ) → IsFine bytes → IsSoundHeader (header_of bytes) (length bytes)
is_sound bytes f = record {
  holds_header = f.at_least;
  inside = f.at_most;
  version = f.version;
  last_compatible_version = f.last_version;
  reservations_aligned = f.reservations_aligned;
  structure_aligned = f.structure_aligned;
  structure_inside = f.structure_inside;
  strings_inside = f.strings_inside;
}

-- ---- the blocks

pub length-part : (at len : ℕ) (bytes : List ℕ) → at + len ≤ length bytes → length (part at len bytes) ≡ len
length-part at len bytes le = omega (arith, length-take len (drop at bytes), length-drop at bytes)

pub reserved : (bytes reservations : List ℕ) → IsBytes bytes → reservations ≡ drop (number bytes 16) (counted bytes) → ends reservations ≡ true → Reserves reservations (pairs_of reservations)
reserved bytes reservations fits e ended =
    let inside = IsBytes-drop (number bytes 16) (counted bytes) (IsBytes-take (number bytes 4) bytes fits) in
    reserves_pairs reservations (subst IsBytes (sym e) inside) ended

pub unended : (bytes reservations : List ℕ) → header_fault bytes ≡ None → reservations ≡ drop (number bytes 16) (counted bytes) → ends reservations ≡ false → IsFirstFault bytes no_reservation_end None
unended bytes reservations passes e f = in_reservations passes (λ h. false≢true (sym f ∙ ap ends e ∙ reserved_ends h.0 (drop (number bytes 16) (counted bytes)) h.1 h.2 h.3))
