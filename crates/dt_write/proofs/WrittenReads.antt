-- What is written is read as the tree.
use Rattle.std.proofs.Common.{◌≡◌, ℕ, ◌+◌, ◌*◌, ◌^◌, ◌<◌, ◌≤◌, ◌||◌, List, [], ◌∷◌, ◌++◌, length, take, drop, Some, refl, sym, ap, subst, ◌∙◌, append_assoc, arith}
use Rattle.std.specs.Prelude.{IsTrue, ◌==◌}
use Rattle.std.specs.List.{flat_map, AllByRecursion}
use Rattle.std.specs.Int.{w32, from_be_bytes}
use Rattle.std.proofs.lemmas.Bool.{le-leb}
use Rattle.std.proofs.lemmas.List.{append-nil, length-append, take_at, drop_at, drop-drop, take_all}
use Rattle.std.proofs.lemmas.List.Elements.{recursion_from_All}
use Rattle.std.proofs.lemmas.Nat.{from_be_bytes-to_be_bytes_4}
use Rattle.dt_model.specs.Names.{is_name_byte, IsNodeName, IsPropertyName}
use Rattle.dt_model.specs.Tree.{Property, Forest, no_nodes, branch, Reading}
use Rattle.dt_model.specs.Valid.{AreDistinct, AreNodes, IsValid, IsWithinLimits}
use Rattle.dt_model.specs.Format.{word_at, pair, reservation_block, IsText, SpellsTree, part, Header, HasHeader, Reads, IsWithin}
use Rattle.dt_write.specs.Written.{assembled, written, root_node, structure_block, strings_block, names_of}
use Rattle.dt_write.proofs.TreeNames.{AreTexts, texts_used_below, distinct_below}
use Rattle.dt_write.proofs.Spelled.{structure_spelled}

-- ---- names have no NUL

no_nul : (P : ℕ → Type 0) (xs : List ℕ) → (P 0 → ⊥) → AllByRecursion P xs → IsText xs
no_nul P [] f h = tt
no_nul P (x ∷ xs) f h = (λ e. f (subst P e h.0), no_nul P xs f h.1)

pub node_text : (n : List ℕ) → IsNodeName n → IsText n
node_text n h = no_nul (λ b. IsTrue (is_name_byte b || (b == 64))) n (λ e. cc) (recursion_from_All (λ b. IsTrue (is_name_byte b || (b == 64))) n h.allowed)

pub property_text : (n : List ℕ) → IsPropertyName n → IsText n
property_text n h = no_nul (λ b. IsTrue (is_name_byte b)) n (λ e. cc) (recursion_from_All (λ b. IsTrue (is_name_byte b)) n h.allowed)

property_texts : (ps : List Property) → AllByRecursion (λ p. IsPropertyName p.name) ps → AllByRecursion (λ p. IsText p.name) ps
property_texts [] h = tt
property_texts (p ∷ ps) h = (property_text p.name h.0, property_texts ps h.1)

node_texts : (f : Forest) → AreNodes f → AreTexts f
node_texts no_nodes h = tt
node_texts (branch name ps cs ss) h = (node_text name h.0, property_texts ps h.1.named, node_texts cs h.2, node_texts ss h.4)

-- the names of a tree's properties have none, and are each there once
pub tree_texts : (t : Reading) → IsValid t → AreTexts (root_node t)
tree_texts t valid = (tt, property_texts t.properties valid.properties.named, node_texts t.children valid.nodes, tt)

pub names_are_texts : (t : Reading) → IsValid t → AllByRecursion IsText (names_of t)
names_are_texts t valid = texts_used_below [] (root_node t) tt (tree_texts t valid)

pub names_are_distinct : (t : Reading) → AreDistinct (names_of t)
names_are_distinct t = distinct_below [] (root_node t) tt

-- ---- the header

abbrev pub header_of : (boot_cpu : ℕ) (r s n : List ℕ) → Header
header_of boot_cpu r s n = record {
  total_size = 40 + length r + length s + length n;
  structure_offset = 40 + length r;
  strings_offset = 40 + length r + length s;
  reservations_offset = 40;
  version = 17;
  last_compatible_version = 16;
  boot_cpu = boot_cpu;
  strings_size = length n;
  structure_size = length s;
}

pub assembled_length : (boot_cpu : ℕ) (r s n : List ℕ) → length (assembled boot_cpu r s n) ≡ 40 + length r + length s + length n
assembled_length boot_cpu r s n = omega (arith, length-append r s, length-append (r ++ s) n)

pub says : (boot_cpu : ℕ) (r s n : List ℕ) → boot_cpu < 2 ^ 32 → 40 + length r + length s + length n < 2 ^ 32 → HasHeader (assembled boot_cpu r s n) (header_of boot_cpu r s n)
says boot_cpu r s n boot small = record {
  magic = at 0 0xd00dfeed (omega arith) refl;
  total_size = at 4 (40 + length r + length s + length n) (omega arith) (from_be_bytes-to_be_bytes_4 (40 + length r + length s + length n) small);
  structure_offset = at 8 (40 + length r) (omega arith) (from_be_bytes-to_be_bytes_4 (40 + length r) (omega arith));
  strings_offset = at 12 (40 + length r + length s) (omega arith) (from_be_bytes-to_be_bytes_4 (40 + length r + length s) (omega arith));
  reservations_offset = at 16 40 (omega arith) refl;
  version = at 20 17 (omega arith) refl;
  last_compatible_version = at 24 16 (omega arith) refl;
  boot_cpu = at 28 boot_cpu (omega arith) (from_be_bytes-to_be_bytes_4 boot_cpu boot);
  strings_size = at 32 (length n) (omega arith) (from_be_bytes-to_be_bytes_4 (length n) (omega arith));
  structure_size = at 36 (length s) (omega arith) (from_be_bytes-to_be_bytes_4 (length s) (omega arith));
}
  where
    at : (place number : ℕ) → place + 4 ≤ 40 → from_be_bytes w32 (take 4 (drop place (assembled boot_cpu r s n))) ≡ number → word_at (assembled boot_cpu r s n) place ≡ Some number
    at place number le e =
        let long : place + 4 ≤ length (assembled boot_cpu r s n) = omega (arith, assembled_length boot_cpu r s n) in
        rw (le-leb _ _ long) (ap (λ (x : ℕ). Some x) e)

-- ---- the blocks stand where the header says

pub piece : (b : List ℕ) (at place : ℕ) (before it after : List ℕ) (size : ℕ) → place ≡ at + length before → size ≡ length it → drop at b ≡ before ++ it ++ after → part place size b ≡ it
piece b at place before it after size p q e =
    let moved : drop place b ≡ it ++ after = ap (λ (k : ℕ). drop k b) p ∙ sym (drop-drop (length before) at b) ∙ ap (drop (length before)) (e ∙ append_assoc before it after) ∙ drop_at before (it ++ after) (length before) refl in
    ap (take size) moved ∙ take_at it after size (sym q)

pairs_length : (rs : List (ℕ × ℕ)) → length (flat_map pair rs) ≡ 16 * length rs
pairs_length [] = refl
pairs_length (r ∷ rs) = omega (arith, length-append (pair r) (flat_map pair rs), pairs_length rs)

pub block_length : (rs : List (ℕ × ℕ)) → length (reservation_block rs) ≡ 16 * length rs + 16
block_length rs = omega (arith, length-append (flat_map pair rs) (pair (0, 0)), pairs_length rs)

pub assembled_reads : (t : Reading) (s n : List ℕ) → 40 + length (reservation_block t.reservations) + length s + length n < 2 ^ 32 → SpellsTree n t.properties t.children s → IsValid t → Reads (assembled t.boot_cpu (reservation_block t.reservations) s n) t
assembled_reads t s n small spelled valid =
    let r = reservation_block t.reservations in
    let b = assembled t.boot_cpu r s n in
    let len : length b ≡ 40 + length r + length s + length n = assembled_length t.boot_cpu r s n in
    let body : drop 40 b ≡ r ++ s ++ n = refl in
    let counted : take (40 + length r + length s + length n) b ≡ b = take_all (40 + length r + length s + length n) b (omega arith) in
    let structure-is : part (40 + length r) (length s) b ≡ s = piece b 40 (40 + length r) r s n (length s) refl refl body in
    let strings-is : part (40 + length r + length s) (length n) b ≡ n = piece b 40 (40 + length r + length s) (r ++ s) n [] (length n) (omega (arith, length-append r s)) refl (body ∙ sym (append-nil (r ++ s ++ n))) in
    record {
      header = header_of t.boot_cpu r s n;
      words = says t.boot_cpu r s n valid.boot_cpu small;
      sound = record {
        holds_header = omega arith;
        inside = omega arith;
        version = omega arith;
        last_compatible_version = omega arith;
        reservations_aligned = refl;
        structure_aligned = omega (arith, block_length t.reservations);
        structure_inside = omega arith;
        strings_inside = omega arith;
      };
      boot_cpu = refl;
      behind = s ++ n;
      reservations = ap (drop 40) counted ∙ append_assoc r s n;
      structure = subst (λ (x : List ℕ). SpellsTree x t.properties t.children (part (40 + length r) (length s) b)) (sym strings-is) (subst (λ (x : List ℕ). SpellsTree n t.properties t.children x) (sym structure-is) spelled);
      valid = valid;
    }

-- the blob of a tree is read as the tree
pub written_reads : (t : Reading) → IsValid t → length (written t) ≤ 16777216 → Reads (written t) t
written_reads t valid short =
    let r = reservation_block t.reservations in
    let s = structure_block t in
    let n = strings_block (names_of t) in
    let len = assembled_length t.boot_cpu r s n in
    assembled_reads t s n (omega arith) (structure_spelled t (tree_texts t valid) (omega arith) (omega arith)) valid

-- and it is within the limits, where the tree is
pub written_within : (t : Reading) → IsValid t → IsWithinLimits t → length (written t) ≤ 16777216 → IsWithin (written t) t
written_within t valid limits short =
    let r = reservation_block t.reservations in
    let s = structure_block t in
    let n = strings_block (names_of t) in
    let len = assembled_length t.boot_cpu r s n in
    record {
      header = header_of t.boot_cpu r s n;
      words = says t.boot_cpu r s n valid.boot_cpu (omega arith);
      size = omega arith;
      tree = limits;
    }
