-- Cells and bytes, the first of them apart.
use Rattle.std.proofs.Common.{◌≡◌, ℕ, ◌<◌, ◌≤◌, ◌%◌, List, [], ◌∷◌, ◌++◌, take, drop, length, refl, sym, ap, ◌∙◌, append_assoc, append-nil, arith}
use Rattle.std.specs.Prelude.{codes}
use Rattle.dt_model.specs.Printed.{hexadecimal, significant, cells_text, bytes_text}
use Rattle.dt_decompile.specs.Pieces.{cells_behind, bytes_behind}

pub no_cells : (l : List ℕ) → length l < 4 → cells_behind l ≡ []
no_cells [] few = refl
no_cells (a ∷ []) few = refl
no_cells (a ∷ b ∷ []) few = refl
no_cells (a ∷ b ∷ c ∷ []) few = refl
no_cells (a ∷ b ∷ c ∷ d ∷ l) few = absurd (omega arith)

pub cell_first : (l : List ℕ) → 4 ≤ length l
    → cells_behind l ≡ (codes " 0x" ++ significant (hexadecimal (take 4 l))) ++ cells_behind (drop 4 l)
cell_first [] some = absurd (omega arith)
cell_first (a ∷ []) some = absurd (omega arith)
cell_first (a ∷ b ∷ []) some = absurd (omega arith)
cell_first (a ∷ b ∷ c ∷ []) some = absurd (omega arith)
cell_first (a ∷ b ∷ c ∷ d ∷ l) some =
    sym (append_assoc (codes " 0x") (significant (hexadecimal (a ∷ b ∷ c ∷ d ∷ []))) (cells_behind l))

pub cell_step : (l cell behind : List ℕ) → 4 ≤ length l → cell ≡ take 4 l → behind ≡ drop 4 l
    → cells_behind l ≡ (codes " 0x" ++ significant (hexadecimal cell)) ++ cells_behind behind
cell_step l cell behind some e f =
    cell_first l some
    ∙ sym (ap (λ (x : List ℕ). (codes " 0x" ++ significant (hexadecimal x)) ++ cells_behind behind) e
    ∙ ap (λ (x : List ℕ). (codes " 0x" ++ significant (hexadecimal (take 4 l))) ++ cells_behind x) f)

-- cells behind the first
cells_more : (l : List ℕ) → length l % 4 ≡ 0 → 0 < length l → codes " " ++ cells_text l ≡ cells_behind l
cells_more [] whole some = absurd (omega arith)
cells_more (a ∷ []) whole some = absurd (omega arith)
cells_more (a ∷ b ∷ []) whole some = absurd (omega arith)
cells_more (a ∷ b ∷ c ∷ []) whole some = absurd (omega arith)
cells_more (a ∷ b ∷ c ∷ d ∷ []) whole some =
    ap (λ (l : List ℕ). codes " 0x" ++ l) (sym (append-nil (significant (hexadecimal (a ∷ b ∷ c ∷ d ∷ [])))))
cells_more (a ∷ b ∷ c ∷ d ∷ e ∷ l) whole some =
    ap (λ (rest : List ℕ). codes " 0x" ++ (significant (hexadecimal (a ∷ b ∷ c ∷ d ∷ [])) ++ rest)) (cells_more (e ∷ l) (omega arith) (omega arith))

pub cells_first : (l : List ℕ) → length l % 4 ≡ 0 → 0 < length l
    → cells_text l ≡ (codes "0x" ++ significant (hexadecimal (take 4 l))) ++ cells_behind (drop 4 l)
cells_first [] whole some = absurd (omega arith)
cells_first (a ∷ []) whole some = absurd (omega arith)
cells_first (a ∷ b ∷ []) whole some = absurd (omega arith)
cells_first (a ∷ b ∷ c ∷ []) whole some = absurd (omega arith)
cells_first (a ∷ b ∷ c ∷ d ∷ []) whole some = sym (append-nil (codes "0x" ++ significant (hexadecimal (a ∷ b ∷ c ∷ d ∷ []))))
cells_first (a ∷ b ∷ c ∷ d ∷ e ∷ l) whole some =
    ap (λ (rest : List ℕ). codes "0x" ++ (significant (hexadecimal (a ∷ b ∷ c ∷ d ∷ [])) ++ rest)) (cells_more (e ∷ l) (omega arith) (omega arith))
    ∙ sym (append_assoc (codes "0x") (significant (hexadecimal (a ∷ b ∷ c ∷ d ∷ []))) (cells_behind (e ∷ l)))

-- the cells of a value between angle brackets, in three pieces
pub cells_pieces : (l cell behind : List ℕ) → length l % 4 ≡ 0 → 0 < length l → cell ≡ take 4 l → behind ≡ drop 4 l
    → codes " = <" ++ (cells_text l ++ codes ">") ≡ (codes " = <0x" ++ significant (hexadecimal cell)) ++ (cells_behind behind ++ codes ">")
cells_pieces l cell behind whole some e f =
    ap (λ (t : List ℕ). codes " = <" ++ (t ++ codes ">")) (cells_first l whole some)
    ∙ ap (λ (t : List ℕ). codes " = <0x" ++ t) (append_assoc (significant (hexadecimal (take 4 l))) (cells_behind (drop 4 l)) (codes ">"))
    ∙ sym (append_assoc (codes " = <0x") (significant (hexadecimal (take 4 l))) (cells_behind (drop 4 l) ++ codes ">"))
    ∙ sym (ap (λ (x : List ℕ). (codes " = <0x" ++ significant (hexadecimal x)) ++ (cells_behind behind ++ codes ">")) e
    ∙ ap (λ (x : List ℕ). (codes " = <0x" ++ significant (hexadecimal (take 4 l))) ++ (cells_behind x ++ codes ">")) f)

bytes_more : (b : ℕ) (l : List ℕ) → codes " " ++ bytes_text (b ∷ l) ≡ bytes_behind (b ∷ l)
bytes_more b [] = refl
bytes_more b (c ∷ l) = ap (λ (rest : List ℕ). codes " " ++ (hexadecimal (b ∷ []) ++ rest)) (bytes_more c l)

pub bytes_first : (b : ℕ) (l : List ℕ) → bytes_text (b ∷ l) ≡ hexadecimal (b ∷ []) ++ bytes_behind l
bytes_first b [] = refl
bytes_first b (c ∷ l) = ap (λ (rest : List ℕ). hexadecimal (b ∷ []) ++ rest) (bytes_more c l)

-- the bytes of a value between square brackets, in three pieces
pub bytes_pieces : (l : List ℕ) (b : ℕ) (behind : List ℕ) → l ≡ b ∷ behind
    → codes " = [" ++ (bytes_text l ++ codes "]") ≡ (codes " = [" ++ hexadecimal (b ∷ [])) ++ (bytes_behind behind ++ codes "]")
bytes_pieces l b behind e =
    ap (λ (x : List ℕ). codes " = [" ++ (bytes_text x ++ codes "]")) e ∙ ap (λ (t : List ℕ). codes " = [" ++ (t ++ codes "]")) (bytes_first b behind)
