-- A map's rows, one after another.
use Rattle.std.proofs.Common.{◌≡◌, ◌≢◌, ℕ, suc, zero, ◌-◌, ◌≤◌, Bool, true, false, List, [], ◌∷◌, drop, length, refl, ap, ◌∙◌, arith}
use Rattle.std.specs.Prelude.{if◌then◌else◌}
use Rattle.dt_model.specs.Path.{Path}
use Rattle.dt_names.specs.declared.fault.Fault.{Fault}
use Rattle.dt_resolve_model.specs.Answers.{Answer, refused, answer, ◌>>=◌}
use Rattle.dt_resolve_model.specs.World.{Quad, World, quads_of}
use Rattle.dt_resolve_model.specs.Interrupts.{RowCells, MapRow, map_row, as_numbers, equal_under, matches, first_match}
use Rattle.dt_resolve_model.proofs.QuadsOfBytes.{quad_count}
use Rattle.dt_irq.specs.Cells.{numbers_of, quads}
use Rattle.dt_irq.proofs.Figures.{are_numbers, numbers_are}

-- cells that are left of a row are skipped
pub skipped : (w : World) (widths : Path → Answer RowCells) (ragged : Bool) (width : ℕ) (key mask : List Quad) (n : ℕ) (cells : List Quad)
    → first_match w widths ragged width key mask n cells ≡ first_match w widths ragged width key mask 0 (drop n cells)
skipped w widths ragged width key mask zero cells = refl
skipped w widths ragged width key mask (suc n) [] = refl
skipped w widths ragged width key mask (suc n) (cell ∷ cells) = skipped w widths ragged width key mask n cells

read : (w : World) (widths : Path → Answer RowCells) (ragged : Bool) (width : ℕ) (key mask : List Quad) (cell : Quad) (cells : List Quad) (r : MapRow) (same : Bool) → map_row w widths width (cell ∷ cells) ≡ answer r → matches r.compared key mask ≡ answer same
    → first_match w widths ragged width key mask 0 (cell ∷ cells) ≡ (if same then answer r else first_match w widths ragged width key mask (r.size - 1) cells)
read w widths ragged width key mask cell cells r same row match =
    ap (λ (x : Answer MapRow). x >>= λ y. matches y.compared key mask >>= λ b. if b then answer y else first_match w widths ragged width key mask (y.size - 1) cells) row
    ∙ ap (λ (x : Answer Bool). x >>= λ b. if b then answer r else first_match w widths ragged width key mask (r.size - 1) cells) match

pub match_is : (w : World) (widths : Path → Answer RowCells) (ragged : Bool) (width : ℕ) (key mask : List Quad) (list : List Quad) (r : MapRow) → list ≢ [] → map_row w widths width list ≡ answer r → matches r.compared key mask ≡ answer true
    → first_match w widths ragged width key mask 0 list ≡ answer r
match_is w widths ragged width key mask [] r some row match = absurd (some refl)
match_is w widths ragged width key mask (cell ∷ cells) r some row match = read w widths ragged width key mask cell cells r true row match

pub match_is_later : (w : World) (widths : Path → Answer RowCells) (ragged : Bool) (width : ℕ) (key mask : List Quad) (list : List Quad) (r : MapRow) → list ≢ [] → map_row w widths width list ≡ answer r → matches r.compared key mask ≡ answer false → 1 ≤ r.size
    → first_match w widths ragged width key mask 0 list ≡ first_match w widths ragged width key mask 0 (drop r.size list)
match_is_later w widths ragged width key mask [] r some row match positive = absurd (some refl)
match_is_later w widths ragged width key mask (cell ∷ cells) r some row match positive =
    read w widths ragged width key mask cell cells r false row match
    ∙ skipped w widths ragged width key mask (r.size - 1) cells
    ∙ ap (λ n. first_match w widths ragged width key mask 0 (drop n (cell ∷ cells))) (let e : suc (r.size - 1) ≡ r.size = omega arith in e)

-- what is compared matches a key where the numbers are equal
pub key_matches : (compared key mask : List ℕ) → matches (quads_of compared) (quads key) (quads_of mask) ≡ answer (equal_under (numbers_of compared) key (numbers_of mask))
key_matches compared key mask =
    ap (λ (x : Answer (List ℕ)). x >>= λ xs. as_numbers (quads key) >>= λ ys. as_numbers (quads_of mask) >>= λ ms. answer (equal_under xs ys ms)) (are_numbers compared)
    ∙ ap (λ (y : Answer (List ℕ)). y >>= λ ys. as_numbers (quads_of mask) >>= λ ms. answer (equal_under (numbers_of compared) ys ms)) (numbers_are key)
    ∙ ap (λ (y : Answer (List ℕ)). y >>= λ ms. answer (equal_under (numbers_of compared) key ms)) (are_numbers mask)

pub match_is_refused : (w : World) (widths : Path → Answer RowCells) (ragged : Bool) (width : ℕ) (key mask : List Quad) (list : List Quad) (e : Fault) → list ≢ [] → map_row w widths width list ≡ refused e
    → first_match w widths ragged width key mask 0 list ≡ refused e
match_is_refused w widths ragged width key mask [] e some row = absurd (some refl)
match_is_refused w widths ragged width key mask (cell ∷ cells) e some row =
    ap (λ (x : Answer MapRow). x >>= λ y. matches y.compared key mask >>= λ b. if b then answer y else first_match w widths ragged width key mask (y.size - 1) cells) row

pub some_cells : (bytes : List ℕ) → 4 ≤ length bytes → quads_of bytes ≢ []
some_cells bytes long none = let count = quad_count bytes in let z : length (quads_of bytes) ≡ 0 = ap length none in absurd (omega arith)
