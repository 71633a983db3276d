-- A blob put together of its blocks: its numbers, its blocks and its tree.
use Rattle.std.proofs.Common.{◌≡◌, ℕ, ◌+◌, ◌^◌, ◌<◌, ◌≤◌, List, [], ◌++◌, length, take, drop, Option, Some, refl, sym, ap, subst, ◌∙◌, arith}
use Rattle.std.specs.Prelude.{unwrap_or}
use Rattle.std.proofs.lemmas.List.{append-nil, drop_at, length-append, length-take-le, take_at, take-append-drop}
use Rattle.dt_model.specs.Checks.{number, strings_of, structure_of}
use Rattle.dt_model.specs.Format.{word_at, reservation_block, SpellsTree, Reads, IsWithin, part}
use Rattle.dt_model.specs.Limits.{most_bytes}
use Rattle.dt_model.specs.Tree.{Reading}
use Rattle.dt_model.specs.Valid.{IsValid, IsWithinLimits}
use Rattle.dt_model_format.proofs.NoFaults.{number_is}
use Rattle.dt_edit.specs.Editable.{IsEditable}
use Rattle.dt_edit.specs.Plans.{size_of_blocks, HasOtherBlocks}
use Rattle.dt_edit.proofs.Fronts.{word_front, part_front, reads_front, within_front}
use Rattle.dt_read.specs.Checked.{placed_of, root_of}
use Rattle.dt_read.specs.Cuts.{SpellsRoot}
use Rattle.dt_read.specs.Marks.{Root}
use Rattle.dt_read.specs.Parsing.{tree_in}
use Rattle.dt_trees.specs.Placed.{forest_of, reading_of}
use Rattle.dt_read.proofs.CheckedBytes.{placed_is_read}
use Rattle.dt_read.proofs.SplicedTrees.{spelled_root_is, spells_tree}
use Rattle.dt_write.specs.Written.{assembled}
use Rattle.dt_write.proofs.WrittenReads.{header_of, says, piece, assembled_length, assembled_reads}

-- the numbers and the blocks of a blob of these blocks
pub record HasBlocks (bytes : List ℕ) (cpu : ℕ) (r s n : List ℕ) : Type 0 where
  pub total : number bytes 4 ≡ 40 + length r + length s + length n
  pub structure_at : number bytes 8 ≡ 40 + length r
  pub strings_at : number bytes 12 ≡ 40 + length r + length s
  pub boot_cpu : number bytes 28 ≡ cpu
  pub strings_size : number bytes 32 ≡ length n
  pub structure_size : number bytes 36 ≡ length s
  pub structure : structure_of bytes ≡ s
  pub strings : strings_of bytes ≡ n

pub blocks_of : (cpu : ℕ) (r s n rest : List ℕ) → cpu < 2 ^ 32 → 40 + length r + length s + length n < 2 ^ 32 → HasBlocks (assembled cpu r s n ++ rest) cpu r s n
blocks_of cpu r s n rest boot small =
    let b : List ℕ = assembled cpu r s n in
    let len = assembled_length cpu r s n in
    let w = says cpu r s n boot small in
    let at : (place m : ℕ) → place + 4 ≤ 40 → word_at b place ≡ Some m → number (b ++ rest) place ≡ m = λ place m le e. ap (λ (o : Option ℕ). unwrap_or o 0) (word_front b rest place (omega arith) ∙ e) in
    let structure_at = at 8 (40 + length r) (omega arith) w.structure_offset in
    let structure_size = at 36 (length s) (omega arith) w.structure_size in
    let strings_at = at 12 (40 + length r + length s) (omega arith) w.strings_offset in
    let strings_size = at 32 (length n) (omega arith) w.strings_size in
    let body : drop 40 b ≡ r ++ s ++ n = refl in
    let structure-is : part (40 + length r) (length s) b ≡ s = piece b 40 (40 + length r) r s n (length s) refl refl body in
    let strings-is : part (40 + length r + length s) (length n) b ≡ n = piece b 40 (40 + length r + length s) (r ++ s) n [] (length n) (omega (arith, length-append r s)) refl (body ∙ sym (append-nil (r ++ s ++ n))) in
    record {
      total = at 4 (40 + length r + length s + length n) (omega arith) w.total_size;
      structure_at = structure_at;
      strings_at = strings_at;
      boot_cpu = at 28 cpu (omega arith) w.boot_cpu;
      strings_size = strings_size;
      structure_size = structure_size;
      structure = (λ i. part (structure_at i) (structure_size i) (b ++ rest)) ∙ part_front b rest (40 + length r) (length s) (omega arith) ∙ structure-is;
      strings = (λ i. part (strings_at i) (strings_size i) (b ++ rest)) ∙ part_front b rest (40 + length r + length s) (length n) (omega arith) ∙ strings-is;
    }

-- what is true of a blob that can be edited
pub record Edits (bytes : List ℕ) : Type 0 where
  pub is : bytes ≡ assembled (number bytes 28) (reservation_block (placed_of bytes).reservations) (structure_of bytes) (strings_of bytes) ++ drop (number bytes 4) bytes
  pub blocks : HasBlocks bytes (number bytes 28) (reservation_block (placed_of bytes).reservations) (structure_of bytes) (strings_of bytes)
  pub boot : number bytes 28 < 2 ^ 32
  pub inside : number bytes 4 ≤ length bytes
  pub short : number bytes 4 ≤ most_bytes
  pub valid : IsValid (reading_of (placed_of bytes))
  pub within : IsWithinLimits (reading_of (placed_of bytes))
  pub cpu : (placed_of bytes).boot_cpu ≡ number bytes 28

pub edits_of : (bytes : List ℕ) → IsEditable bytes → Edits bytes
unfolding placed_of
edits_of bytes e =
    let t = e.blob.0 in
    let reads = e.blob.1 in
    let w = e.blob.2 in
    let total = number_is bytes 4 reads.header.total_size reads.words.total_size in
    let limit = number_is bytes 4 w.header.total_size w.words.total_size in
    let most = w.size in
    let fits = reads.sound.inside in
    let cpu = number_is bytes 28 reads.header.boot_cpu reads.words.boot_cpu in
    let boot : number bytes 28 < 2 ^ 32 = let small = reads.valid.boot_cpu in let same = reads.boot_cpu in omega arith in
    let r = reservation_block (placed_of bytes).reservations in
    let s = structure_of bytes in
    let n = strings_of bytes in
    let same = placed_is_read bytes t reads w in
    let is : bytes ≡ assembled (number bytes 28) r s n ++ drop (number bytes 4) bytes = sym (take-append-drop (number bytes 4) bytes) ∙ ap (λ (x : List ℕ). x ++ drop (number bytes 4) bytes) e.whole in
    let size : 40 + length r + length s + length n < 2 ^ 32 = omega (arith, assembled_length (number bytes 28) r s n, ap (λ (x : List ℕ). length x) e.whole, length-take-le (number bytes 4) bytes (omega arith)) in
    record {
      is = is;
      blocks = subst (λ (x : List ℕ). HasBlocks x (number bytes 28) r s n) (sym is) (blocks_of (number bytes 28) r s n (drop (number bytes 4) bytes) boot size);
      boot = boot;
      inside = omega arith;
      short = omega arith;
      valid = subst IsValid (sym same) reads.valid;
      within = subst IsWithinLimits (sym same) w.tree;
      cpu = refl;
    }

-- a blob put together of blocks that spell a tree can be edited, and is read as the tree
pub record IsAssembled (bytes : List ℕ) (t : Reading) (s n : List ℕ) : Type 0 where
  pub editable : IsEditable bytes
  pub reads : reading_of (placed_of bytes) ≡ t
  pub structure_at : number bytes 8 ≡ 40 + length (reservation_block t.reservations)
  pub structure : structure_of bytes ≡ s
  pub strings : strings_of bytes ≡ n
  pub total : number bytes 4 ≡ 40 + length (reservation_block t.reservations) + length s + length n

pub assembled_is : (t : Reading) (s n rest : List ℕ) → IsValid t → IsWithinLimits t → 40 + length (reservation_block t.reservations) + length s + length n ≤ most_bytes → SpellsTree n t.properties t.children s
    → IsAssembled (assembled t.boot_cpu (reservation_block t.reservations) s n ++ rest) t s n
assembled_is t s n rest valid within short tree =
    let r = reservation_block t.reservations in
    let b : List ℕ = assembled t.boot_cpu r s n in
    let bytes : List ℕ = b ++ rest in
    let len = assembled_length t.boot_cpu r s n in
    let boot = valid.boot_cpu in
    let blocks = blocks_of t.boot_cpu r s n rest boot (omega arith) in
    let own : Reads b t = assembled_reads t s n (omega arith) tree valid in
    let reads : Reads bytes t = reads_front b rest t own in
    let limits : IsWithin bytes t = within_front b rest t (record { header = header_of t.boot_cpu r s n; words = says t.boot_cpu r s n boot (omega arith); size = short; tree = within }) in
    let same = placed_is_read bytes t reads limits in
    let total = blocks.total in
    let whole : take (number bytes 4) bytes ≡ b = take_at b rest (number bytes 4) (omega arith) in
    record {
      editable = record {
        blob = (t, reads, limits);
        whole = whole ∙ (λ i. assembled (sym blocks.boot_cpu i) (reservation_block (sym same i).reservations) (sym blocks.structure i) (sym blocks.strings i));
      };
      reads = same;
      structure_at = blocks.structure_at;
      structure = blocks.structure;
      strings = blocks.strings;
      total = total;
    }

-- bytes behind a blob stay where only its blocks are others
pub behind_kept : (old new s n : List ℕ) (size : ℕ) → HasOtherBlocks old new s n → size ≡ size_of_blocks old s n → drop size new ≡ drop size old
behind_kept old new s n size other same =
    let r = reservation_block (placed_of old).reservations in
    let b : List ℕ = assembled (number old 28) r s n in
    let len = assembled_length (number old 28) r s n in
    ap (drop size) other ∙ drop_at b (drop (size_of_blocks old s n) old) size (len ∙ sym same) ∙ ap (λ (k : ℕ). drop k old) (sym same)

-- the same where their tree is known with its places
pub record IsEdited (bytes : List ℕ) (t : Reading) (root : Root) (s n : List ℕ) : Type 0 where
  pub is : IsAssembled bytes t s n
  pub rooted : root_of bytes ≡ root

pub edited : (t : Reading) (root : Root) (s n rest : List ℕ) → IsValid t → IsWithinLimits t → 40 + length (reservation_block t.reservations) + length s + length n ≤ most_bytes
    → t.properties ≡ root.properties → t.children ≡ forest_of root.children → SpellsRoot n (40 + length (reservation_block t.reservations)) s root
    → IsEdited (assembled t.boot_cpu (reservation_block t.reservations) s n ++ rest) t root s n
edited t root s n rest valid within short properties children spelled =
    let r = reservation_block t.reservations in
    let tree : SpellsTree n t.properties t.children s = subst (λ ps. SpellsTree n ps t.children s) (sym properties) (subst (λ cs. SpellsTree n root.properties cs s) (sym children) (spells_tree n (40 + length r) s root spelled)) in
    let a = assembled_is t s n rest valid within short tree in
    record { is = a; rooted = (λ i. tree_in (a.strings i) (a.structure_at i) (a.structure i)) ∙ spelled_root_is n (40 + length r) s root spelled }
