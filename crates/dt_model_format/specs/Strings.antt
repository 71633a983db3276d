-- Names in the strings of a blob (Devicetree Specification v0.4, 5.5).
use Rattle.std.specs.Prelude.{◌==◌, ◌&&◌, ℕ, suc, Bool, true, false, List, [], ◌∷◌, ◌++◌, Option, Some, None, if◌then◌else◌}
use Rattle.std.specs.Option.{option_map}
use Rattle.dt_model.specs.Names.{Name}

-- a name and a NUL
abbrev pub terminated : Name → List ℕ
terminated name = name ++ 0 ∷ []

-- do the second bytes begin with the first?
abbrev pub begins : List ℕ → List ℕ → Bool
begins [] ys = true
begins (x ∷ xs) [] = false
begins (x ∷ xs) (y ∷ ys) = (x == y) && begins xs ys

-- the first place at which some strings hold a name and its NUL
abbrev pub place_in : List ℕ → Name → Option ℕ
place_in [] name = None
place_in (b ∷ strings) name = if begins (terminated name) (b ∷ strings) then Some 0 else option_map (λ k. suc k) (place_in strings name)
