-- A blob copied to the front of a buffer.
use Rattle.std.proofs.Common.{◌≡◌, ℕ, ◌+◌, ◌≤◌, List, ◌++◌, length, take, drop, sym, ap, subst, ◌∙◌, append_assoc, arith}
use Rattle.std.proofs.lemmas.List.{length-append, length-take-le, drop_at}
use Rattle.dt_model.specs.Checks.{number, strings_of, structure_of}
use Rattle.dt_model.specs.Format.{reservation_block, SpellsTree}
use Rattle.dt_model.specs.Limits.{most_bytes}
use Rattle.dt_model.specs.Tree.{Reading}
use Rattle.dt_model.specs.Valid.{IsValid, IsWithinLimits}
use Rattle.dt_model_format.proofs.NoFaults.{number_is, spelled_tree_of}
use Rattle.dt_read.specs.Checked.{IsBlob, placed_of}
use Rattle.dt_read.proofs.CheckedBytes.{placed_is_read}
use Rattle.dt_write.specs.Written.{header, assembled}
use Rattle.dt_edit.specs.Editable.{reading_in}
use Rattle.dt_edit.specs.Moving.{put, three_blocks}
use Rattle.dt_edit.proofs.Assembling.{IsAssembled, assembled_is}

-- a header before blocks that were put behind its place
header_before : (k r s n x y : List ℕ) → length r + length s + length n + 40 ≤ length x → y ≡ put 40 (r ++ (s ++ n)) x → k ++ drop 40 y ≡ (((k ++ r) ++ s) ++ n) ++ drop (40 + length (r ++ (s ++ n))) x
header_before k r s n x y le e =
    ap (λ (z : List ℕ). k ++ z) (ap (drop 40) e ∙ drop_at (take 40 x) ((r ++ (s ++ n)) ++ drop (40 + length (r ++ (s ++ n))) x) 40 (length-take-le 40 x (omega arith)))
    ∙ regroup k r s n (drop (40 + length (r ++ (s ++ n))) x)
  where
    regroup : (a b c d e : List ℕ) → a ++ ((b ++ (c ++ d)) ++ e) ≡ (((a ++ b) ++ c) ++ d) ++ e
    regroup a b c d e = simp append_assoc

-- the bytes behind stay
pub behind_opened : (k r s n old mid new : List ℕ) (size : ℕ) → length k ≡ 40 → 40 + length r + length s + length n ≤ length old → mid ≡ put 40 (three_blocks r s n) old → new ≡ k ++ drop 40 mid
    → size ≡ 40 + length r + length s + length n → drop size new ≡ drop size old
behind_opened k r s n old mid new size len le m h same =
    let blocks : List ℕ = ((k ++ r) ++ s) ++ n in
    let wide : length blocks ≡ size = omega (arith, length-append ((k ++ r) ++ s) n, length-append (k ++ r) s, length-append k r) in
    let counted : 40 + length (r ++ (s ++ n)) ≡ size = omega (arith, length-append r (s ++ n), length-append s n) in
    ap (drop size) (h ∙ header_before k r s n old mid (omega arith) m) ∙ drop_at blocks (drop (40 + length (r ++ (s ++ n))) old) size wide ∙ ap (λ (i : ℕ). drop i old) counted

pub opened : (blob old mid new r s n : List ℕ) (cpu : ℕ) → IsBlob blob → r ≡ reservation_block (placed_of blob).reservations → s ≡ structure_of blob → n ≡ strings_of blob → cpu ≡ number blob 28
    → 40 + length r + length s + length n ≤ length old → 40 + length r + length s + length n ≤ most_bytes → mid ≡ put 40 (three_blocks r s n) old → new ≡ header cpu (length r) (length s) (length n) ++ drop 40 mid
    → IsAssembled new (reading_in blob) (structure_of blob) (strings_of blob)
opened blob old mid new r s n cpu is r-is s-is n-is cpu-is room limit m h =
    let t = is.0 in
    let u : Reading = reading_in blob in
    let same = placed_is_read blob t is.1 is.2 in
    let reads = is.1 in
    let boot : cpu ≡ u.boot_cpu = cpu-is ∙ number_is blob 28 reads.header.boot_cpu reads.words.boot_cpu ∙ sym reads.boot_cpu ∙ ap (λ (x : Reading). x.boot_cpu) (sym same) in
    let spelled : SpellsTree (strings_of blob) t.properties t.children (structure_of blob) = spelled_tree_of blob t reads in
    let tree : SpellsTree n u.properties u.children s =
    subst (λ (x : List ℕ). SpellsTree n u.properties u.children x) (sym s-is) (subst (λ (x : List ℕ). SpellsTree x u.properties u.children (structure_of blob)) (sym n-is)
    (subst (λ (x : Reading). SpellsTree (strings_of blob) x.properties x.children (structure_of blob)) (sym same) spelled)) in
    let rest : List ℕ = drop (40 + length (r ++ (s ++ n))) old in
    let whole : new ≡ assembled cpu r s n ++ rest = h ∙ header_before (header cpu (length r) (length s) (length n)) r s n old mid (omega arith) m in
    let is-now : new ≡ assembled u.boot_cpu (reservation_block u.reservations) s n ++ rest = whole ∙ (λ i. assembled (boot i) (r-is i) s n ++ rest) in
    let size : length r ≡ length (reservation_block u.reservations) = ap (λ (x : List ℕ). length x) r-is in
    let done = assembled_is u s n rest (subst IsValid (sym same) reads.valid) (subst IsWithinLimits (sym same) is.2.tree) (omega arith) tree in
    subst (λ (x : List ℕ). IsAssembled x u (structure_of blob) (strings_of blob)) (sym is-now)
    (subst (λ (x : List ℕ). IsAssembled (assembled u.boot_cpu (reservation_block u.reservations) s n ++ rest) u (structure_of blob) x) n-is
    (subst (λ (x : List ℕ). IsAssembled (assembled u.boot_cpu (reservation_block u.reservations) s n ++ rest) u x n) s-is done))
