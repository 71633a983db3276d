-- Specifiers that pass through a map, cell by cell.
use Rattle.std.proofs.Common.{◌≡◌, ℕ, suc, zero, ◌+◌, ◌≤◌, Bool, true, false, ◌==◌, List, [], ◌∷◌, drop, length, refl, sym, ap, ◌∙◌, arith}
use Rattle.std.specs.Prelude.{if◌then◌else◌}
use Rattle.std.proofs.lemmas.List.{drop-drop}
use Rattle.dt_resolve_model.specs.Answers.{Answer, answer, ◌>>=◌}
use Rattle.dt_resolve_model.specs.World.{Quad, figure}
use Rattle.dt_resolve_model.specs.Specifiers.{passed, passed_cell, merged}
use Rattle.dt_irq.specs.Cells.{quads}
use Rattle.dt_irq.specs.Merging.{number_passed, first_merged, merged_numbers}

nothing_at_hand : (row mask : List ℕ) → merged_numbers row [] mask ≡ row
nothing_at_hand [] mask = refl
nothing_at_hand (r ∷ row) mask = refl

no_mask : (row at_hand : List ℕ) → merged_numbers row at_hand [] ≡ row
no_mask [] at_hand = refl
no_mask (r ∷ row) [] = refl
no_mask (r ∷ row) (c ∷ at_hand) = refl

first_is : (r : ℕ) (row at_hand mask : List ℕ) → merged_numbers (r ∷ row) at_hand mask ≡ first_merged r at_hand mask ∷ merged_numbers row (drop 1 at_hand) (drop 1 mask)
first_is r row [] mask = ap (λ ns. r ∷ ns) (sym (nothing_at_hand row (drop 1 mask)))
first_is r row (c ∷ at_hand) [] = ap (λ ns. r ∷ ns) (sym (no_mask row at_hand))
first_is r row (c ∷ at_hand) (m ∷ mask) = refl

pub merged_count : (row at_hand mask : List ℕ) → length (merged_numbers row at_hand mask) ≡ length row
merged_count [] at_hand mask = refl
merged_count (r ∷ row) [] mask = refl
merged_count (r ∷ row) (c ∷ at_hand) [] = refl
merged_count (r ∷ row) (c ∷ at_hand) (m ∷ mask) = ap suc (merged_count row at_hand mask)

merged_drop : (i : ℕ) (row at_hand mask : List ℕ) → drop i (merged_numbers row at_hand mask) ≡ merged_numbers (drop i row) (drop i at_hand) (drop i mask)
merged_drop zero row at_hand mask = refl
merged_drop (suc i) [] at_hand mask = refl
merged_drop (suc i) (r ∷ row) [] mask = sym (nothing_at_hand (drop i row) (drop (suc i) mask))
merged_drop (suc i) (r ∷ row) (c ∷ at_hand) [] = sym (no_mask (drop i row) (drop i at_hand))
merged_drop (suc i) (r ∷ row) (c ∷ at_hand) (m ∷ mask) = merged_drop i row at_hand mask

-- the cell that comes next
pub next_merged : (i x : ℕ) (row at_hand mask : List ℕ) → drop i row ≡ x ∷ drop (i + 1) row
    → drop i (merged_numbers row at_hand mask) ≡ first_merged x (drop i at_hand) (drop i mask) ∷ drop (i + 1) (merged_numbers row at_hand mask)
next_merged i x row at_hand mask e =
    let first = first_merged x (drop i at_hand) (drop i mask) in
    merged_drop i row at_hand mask
    ∙ ap (λ ns. merged_numbers ns (drop i at_hand) (drop i mask)) e
    ∙ first_is x (drop (i + 1) row) (drop i at_hand) (drop i mask)
    ∙ ap (λ ns. first ∷ merged_numbers (drop (i + 1) row) ns (drop 1 (drop i mask))) (drop-drop 1 i at_hand)
    ∙ ap (λ ns. first ∷ merged_numbers (drop (i + 1) row) (drop (i + 1) at_hand) ns) (drop-drop 1 i mask)
    ∙ ap (λ ns. first ∷ ns) (sym (merged_drop (i + 1) row at_hand mask))

-- ---- numbers are merged as cells are

cell_is : (r c m : ℕ) → passed_cell (figure r) (figure c) m ≡ answer (figure (number_passed r c m))
cell_is r c m = none (m == 0)
  where
    all : (b : Bool) → (let x : Answer Quad = if b then answer (figure c) else answer (figure (passed r c m)) in x) ≡ answer (figure (if b then c else passed r c m))
    all true = refl
    all false = refl

    none : (b : Bool) → (let x : Answer Quad = if b then answer (figure r) else if m == 0xffffffff then answer (figure c) else answer (figure (passed r c m)) in x)
        ≡ answer (figure (if b then r else if m == 0xffffffff then c else passed r c m))
    none true = refl
    none false = all (m == 0xffffffff)

pub merged_is : (row at_hand mask : List ℕ) → merged (quads row) (quads at_hand) (quads mask) ≡ answer (quads (merged_numbers row at_hand mask))
merged_is [] at_hand mask = refl
merged_is (r ∷ row) [] mask = refl
merged_is (r ∷ row) (c ∷ at_hand) [] = refl
merged_is (r ∷ row) (c ∷ at_hand) (m ∷ mask) =
    ap (λ (x : Answer Quad). x >>= λ q. merged (quads row) (quads at_hand) (quads mask) >>= λ qs. answer (q ∷ qs)) (cell_is r c m)
    ∙ ap (λ (x : Answer (List Quad)). x >>= λ qs. answer (figure (number_passed r c m) ∷ qs)) (merged_is row at_hand mask)

-- ---- the first cell, where nothing passes

pub unmasked : (r : ℕ) (at_hand : List ℕ) → first_merged r at_hand [] ≡ r
unmasked r [] = refl
unmasked r (c ∷ at_hand) = refl

pub none_left : (i : ℕ) (xs : List ℕ) → length xs ≤ i → drop i xs ≡ []
none_left zero [] le = refl
none_left zero (x ∷ xs) le = absurd (omega arith)
none_left (suc i) [] le = refl
none_left (suc i) (x ∷ xs) le = none_left i xs (omega arith)
