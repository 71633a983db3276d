-- The texts of references to paths.
use Rattle.std.specs.Prelude.{ℕ, List, ◌++◌, codes}

-- `&{`, a text and `}`
abbrev pub braced : List ℕ → List ℕ
braced text = codes "&{" ++ (text ++ codes "}")
