-- The line that reports a fault.
use Rattle.std.specs.Prelude.{◌++◌, ◌∷◌, [], ℕ, List, codes, decimal}
use Rattle.dt_names.specs.Fault.{fault_text}
use Rattle.dt_names.specs.declared.fault.Fault.{Fault}

-- `dtool: input K: `, the text of the fault, and a line feed
abbrev pub fault_line : ℕ → Fault → List ℕ
fault_line input fault = codes "dtool: input " ++ decimal input ++ codes ": " ++ fault_text fault ++ 10 ∷ []
