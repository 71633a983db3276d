-- The cells of bytes as numbers.
use Rattle.std.proofs.Common.{◌≡◌, ℕ, suc, zero, ◌+◌, ◌/◌, ◌<◌, List, [], ◌∷◌, ◌++◌, drop, length, get_or, refl, sym, ap, ◌∙◌, arith}
use Rattle.dt_resolve_model.specs.Answers.{answer}
use Rattle.dt_resolve_model.specs.World.{Quad, figure, pointer, torn, quads_of}
use Rattle.dt_resolve_model.specs.Interrupts.{as_numbers}
use Rattle.dt_resolve_model.proofs.QuadsOfBytes.{quad_count}
use Rattle.dt_irq.specs.Cells.{figures, numbers_of, quads}

-- those of a blob are all used as numbers
pub are_numbers : (bytes : List ℕ) → as_numbers (quads_of bytes) ≡ answer (numbers_of bytes)
are_numbers (a ∷ b ∷ c ∷ d ∷ bytes) = rw (are_numbers bytes) refl
are_numbers (a ∷ b ∷ c ∷ []) = refl
are_numbers (a ∷ b ∷ []) = refl
are_numbers (a ∷ []) = refl
are_numbers [] = refl

-- numbers are used as themselves
pub numbers_are : (ns : List ℕ) → as_numbers (quads ns) ≡ answer ns
numbers_are [] = refl
numbers_are (n ∷ ns) = rw (numbers_are ns) refl

pub quads_count : (ns : List ℕ) → length (quads ns) ≡ length ns
quads_count [] = refl
quads_count (n ∷ ns) = ap suc (quads_count ns)

-- and those of a blob are its cells
pub quads_are : (bytes : List ℕ) → quads (numbers_of bytes) ≡ quads_of bytes
quads_are (a ∷ b ∷ c ∷ d ∷ bytes) = rw (quads_are bytes) refl
quads_are (a ∷ b ∷ c ∷ []) = refl
quads_are (a ∷ b ∷ []) = refl
quads_are (a ∷ []) = refl
quads_are [] = refl

pub both_are : (bytes more : List ℕ) → quads (numbers_of bytes ++ numbers_of more) ≡ quads_of bytes ++ quads_of more
both_are bytes more = apart (numbers_of bytes) (numbers_of more) ∙ ap (λ qs. qs ++ quads (numbers_of more)) (quads_are bytes) ∙ ap (λ qs. quads_of bytes ++ qs) (quads_are more)
  where
    apart : (ns ms : List ℕ) → quads (ns ++ ms) ≡ quads ns ++ quads ms
    apart [] ms = refl
    apart (n ∷ ns) ms = ap (λ qs. figure n ∷ qs) (apart ns ms)

pub figures_drop : (n : ℕ) (cells : List Quad) → figures (drop n cells) ≡ drop n (figures cells)
figures_drop zero cells = refl
figures_drop (suc n) [] = refl
figures_drop (suc n) (figure k ∷ cells) = figures_drop n cells
figures_drop (suc n) (pointer p ∷ cells) = figures_drop n cells
figures_drop (suc n) (torn ∷ cells) = figures_drop n cells

pub next_figure : (bytes : List ℕ) (i k : ℕ) → drop i (quads_of bytes) ≡ figure k ∷ drop (i + 1) (quads_of bytes) → drop i (numbers_of bytes) ≡ k ∷ drop (i + 1) (numbers_of bytes)
next_figure bytes i k e =
    sym (figures_drop i (quads_of bytes)) ∙ ap figures e ∙ ap (λ ns. k ∷ ns) (figures_drop (i + 1) (quads_of bytes))

number_next : (ns : List ℕ) (i : ℕ) → i < length ns → drop i ns ≡ get_or ns i 0 ∷ drop (suc i) ns
number_next [] i lt = absurd (omega arith)
number_next (n ∷ ns) zero lt = refl
number_next (n ∷ ns) (suc i) lt = number_next ns i (omega arith)

pub next_number : (ns : List ℕ) (i : ℕ) → i < length ns → drop i ns ≡ get_or ns i 0 ∷ drop (i + 1) ns
next_number ns i lt = number_next ns i lt ∙ ap (λ n. get_or ns i 0 ∷ drop n ns) (let e : suc i ≡ i + 1 = omega arith in e)

count_figures : (cells : List Quad) → length (figures cells) ≡ length cells
count_figures [] = refl
count_figures (figure k ∷ cells) = ap suc (count_figures cells)
count_figures (pointer p ∷ cells) = ap suc (count_figures cells)
count_figures (torn ∷ cells) = ap suc (count_figures cells)

pub figure_count : (bytes : List ℕ) → length (numbers_of bytes) ≡ length bytes / 4
figure_count bytes = count_figures (quads_of bytes) ∙ quad_count bytes

pub no_numbers : (bytes : List ℕ) → length bytes ≡ 0 → numbers_of bytes ≡ []
no_numbers [] none = refl
no_numbers (b ∷ bytes) none = absurd (omega arith)
