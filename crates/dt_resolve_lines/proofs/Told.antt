-- A node's line, from its path on.
use Rattle.std.proofs.Common.{◌≡◌, ◌++◌, ℕ, Bool, true, false, cond, List, [], refl}
use Rattle.std.specs.Prelude.{Result, Ok, Err}
use Rattle.dt_model.specs.Path.{Path}
use Rattle.dt_names.specs.declared.fault.Fault.{Fault}
use Rattle.dt_resolve_model.specs.Answers.{told}
use Rattle.dt_resolve_lines.specs.Lines.{line, place_words}

pub line_begins : {A : Type 0} (words : A → List ℕ) (p : Path) (i : ℕ) (r : Result A Fault) → (rest : List ℕ) × (line words p i (told r) ≡ place_words p i ++ rest)
line_begins words p i (Ok a) = (_, refl)
line_begins words p i (Err fault) = (_, refl)

-- a line that isn't left out
pub not_left_out : (s : Bool) (l : List ℕ) → s ≡ false → cond s [] l ≡ l
not_left_out true l e = absurd (let z : true ≡ false = e in cc)
not_left_out false l e = refl
