-- Bytes behind a blob don't matter.
use Rattle.std.proofs.Common.{◌≡◌, ℕ, ◌+◌, ◌≤◌, Bool, true, false, List, ◌++◌, length, take, drop, Some, None, refl, sym, ap, subst, ◌∙◌, arith}
use Rattle.std.proofs.lemmas.Bool.{leb-true, le-leb}
use Rattle.std.proofs.lemmas.List.{length-append, length-drop, drop-append-le, take-append-le}
use Rattle.std.specs.Int.{w32, from_be_bytes}
use Rattle.std.specs.Prelude.{nat_le}
use Rattle.dt_model.specs.Format.{word_at, Header, HasHeader, Reads, IsWithin, part, SpellsTree}
use Rattle.dt_model.specs.Tree.{Reading}

-- the number at a place in front is the same
pub word_front : (xs ys : List ℕ) (at : ℕ) → at + 4 ≤ length xs → word_at (xs ++ ys) at ≡ word_at xs at
word_front xs ys at le =
    let long : at + 4 ≤ length (xs ++ ys) = omega (arith, length-append xs ys) in
    let four : take 4 (drop at (xs ++ ys)) ≡ take 4 (drop at xs) = ap (take 4) (drop-append-le at xs ys (omega arith)) ∙ take-append-le 4 (drop at xs) ys (omega (arith, length-drop at xs)) in
    let more : word_at (xs ++ ys) at ≡ Some (from_be_bytes w32 (take 4 (drop at (xs ++ ys)))) = rw (le-leb (at + 4) (length (xs ++ ys)) long) refl in
    let own : word_at xs at ≡ Some (from_be_bytes w32 (take 4 (drop at xs))) = rw (le-leb (at + 4) (length xs) le) refl in
    more ∙ ap (λ (x : List ℕ). Some (from_be_bytes w32 x)) four ∙ sym own

-- a number is there only where four bytes are
word_within : (bytes : List ℕ) (at n : ℕ) → word_at bytes at ≡ Some n → at + 4 ≤ length bytes
word_within bytes at n e = step (nat_le (at + 4) (length bytes)) refl e
  where
    step : (b : Bool) → nat_le (at + 4) (length bytes) ≡ b → word_at bytes at ≡ Some n → at + 4 ≤ length bytes
    step true is e = leb-true (at + 4) (length bytes) is
    step false is e = absurd (let none : None ≡ Some n = rw is at e in cc)

-- a part in front is the same
pub part_front : (xs ys : List ℕ) (at size : ℕ) → at + size ≤ length xs → part at size (xs ++ ys) ≡ part at size xs
part_front xs ys at size le = ap (take size) (drop-append-le at xs ys (omega arith)) ∙ take-append-le size (drop at xs) ys (omega (arith, length-drop at xs))

header_front : (xs ys : List ℕ) (h : Header) → HasHeader xs h → HasHeader (xs ++ ys) h
header_front xs ys h w = record {
  magic = on 0 0xd00dfeed w.magic;
  total_size = on 4 h.total_size w.total_size;
  structure_offset = on 8 h.structure_offset w.structure_offset;
  strings_offset = on 12 h.strings_offset w.strings_offset;
  reservations_offset = on 16 h.reservations_offset w.reservations_offset;
  version = on 20 h.version w.version;
  last_compatible_version = on 24 h.last_compatible_version w.last_compatible_version;
  boot_cpu = on 28 h.boot_cpu w.boot_cpu;
  strings_size = on 32 h.strings_size w.strings_size;
  structure_size = on 36 h.structure_size w.structure_size;
}
  where
    on : (at n : ℕ) → word_at xs at ≡ Some n → word_at (xs ++ ys) at ≡ Some n
    on at n e = word_front xs ys at (word_within xs at n e) ∙ e

-- a blob with bytes behind it is read as before
pub reads_front : (xs ys : List ℕ) (t : Reading) → Reads xs t → Reads (xs ++ ys) t
reads_front xs ys t r =
    let h = r.header in
    let sound = r.sound in
    let inside = sound.inside in
    let structure = sound.structure_inside in
    let strings = sound.strings_inside in
    let more = length-append xs ys in
    record {
      header = h;
      words = header_front xs ys h r.words;
      sound = record {
        holds_header = sound.holds_header;
        inside = omega arith;
        version = sound.version;
        last_compatible_version = sound.last_compatible_version;
        reservations_aligned = sound.reservations_aligned;
        structure_aligned = sound.structure_aligned;
        structure_inside = sound.structure_inside;
        strings_inside = sound.strings_inside;
      };
      boot_cpu = r.boot_cpu;
      behind = r.behind;
      reservations = ap (drop h.reservations_offset) (take-append-le h.total_size xs ys inside) ∙ r.reservations;
      structure = subst (λ (x : List ℕ). SpellsTree x t.properties t.children (part h.structure_offset h.structure_size (xs ++ ys))) (sym (part_front xs ys h.strings_offset h.strings_size (omega arith)))
          (subst (SpellsTree (part h.strings_offset h.strings_size xs) t.properties t.children) (sym (part_front xs ys h.structure_offset h.structure_size (omega arith))) r.structure);
      valid = r.valid;
    }

pub within_front : (xs ys : List ℕ) (t : Reading) → IsWithin xs t → IsWithin (xs ++ ys) t
within_front xs ys t w = record { header = w.header; words = header_front xs ys w.header w.words; size = w.size; tree = w.tree }
