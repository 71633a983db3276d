-- Cells of a blob as numbers, and how they are compared.
use Rattle.std.specs.Prelude.{ℕ, Bool, ◌==◌, List, [], ◌∷◌, map, codes}
use Rattle.std.specs.Int.Bits.{bit_and}
use Rattle.dt_model.specs.Path.{Path}
use Rattle.dt_resolve_model.specs.Answers.{Answer, answer, ◌>>=◌}
use Rattle.dt_resolve_model.specs.World.{Quad, figure, pointer, torn, World, quads_of}
use Rattle.dt_resolve_model.specs.Interrupts.{unit_of}

abbrev pub figures : List Quad → List ℕ
figures [] = []
figures (figure n ∷ cells) = n ∷ figures cells
figures (pointer p ∷ cells) = 0 ∷ figures cells
figures (torn ∷ cells) = 0 ∷ figures cells

-- the cells of some bytes
abbrev pub numbers_of : List ℕ → List ℕ
numbers_of bytes = figures (quads_of bytes)

-- numbers as cells
abbrev pub quads : List ℕ → List Quad
quads ns = map (λ n. figure n) ns

-- two cells are equal in the bits of a mask's first cell; an empty mask is all ones
abbrev pub agree : ℕ → ℕ → List ℕ → Bool
agree x y [] = x == y
agree x y (m ∷ mask) = bit_and x m == bit_and y m

-- the cells of a node's `reg`, as its unit address
abbrev pub unit_at : World → Path → Answer (List Quad)
unit_at w p = w.value p (codes "reg") >>= λ v. answer (unit_of v)
