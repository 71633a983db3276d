-- The lines with a region, a route, or why there is none.
use Rattle.std.specs.Prelude.{ℕ, List, [], ◌∷◌, ◌++◌, codes, decimal, if◌then◌else◌}
use Rattle.std.specs.Int.{w32, w128, to_be_bytes}
use Rattle.dt_model.specs.Path.{Path, path_text}
use Rattle.dt_model.specs.Printed.{hexadecimal, significant}
use Rattle.dt_names.specs.Fault.{fault_text}
use Rattle.dt_names.specs.declared.fault.Fault.{Fault}
use Rattle.dt_resolve_model.specs.declared.regions.Region.{Region}
use Rattle.dt_resolve_model.specs.Answers.{Answer, undetermined, refused, answer}
use Rattle.dt_resolve_model.specs.Interrupts.{Route}

-- an index, between a path and what is said of it
abbrev pub index_words : ℕ → List ℕ
index_words i = codes " " ++ (decimal i ++ codes " ")

-- a number in hexadecimal with the fewest digits, behind something else
abbrev pub number_words : List ℕ → List ℕ
number_words bytes = codes " 0x" ++ significant (hexadecimal bytes)

-- a fault without a place: `fault N Name`
abbrev pub fault_words : Fault → List ℕ
fault_words fault = fault_text fault ++ 10 ∷ []

-- a region: its address, its size, and whether the whole of it is mapped
abbrev pub region_words : Region → List ℕ
region_words r = (codes "0x" ++ significant (hexadecimal (to_be_bytes w128 r.address))) ++ (number_words (to_be_bytes w128 r.size)
    ++ (if r.whole then codes " whole\n" else codes " cut\n"))

abbrev pub cells_words : List ℕ → List ℕ
cells_words [] = []
cells_words (cell ∷ cells) = number_words (to_be_bytes w32 cell) ++ cells_words cells

-- a route: the controller, the cells of the specifier there, and how many maps it went through
abbrev pub route_words : Route → List ℕ
route_words r = path_text r.controller ++ (cells_words r.cells ++ (codes " hops " ++ (decimal r.hops ++ codes "\n")))

-- what a node's line for an index begins with
abbrev pub place_words : Path → ℕ → List ℕ
place_words p i = path_text p ++ index_words i

-- the line
abbrev pub line : {A : Type 0} → (A → List ℕ) → Path → ℕ → Answer A → List ℕ
line words p i undetermined = []
line words p i (refused fault) = place_words p i ++ fault_words fault
line words p i (answer a) = place_words p i ++ words a
