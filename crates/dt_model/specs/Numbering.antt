-- The numbers of a source's nodes: written ones stay, and each other keyed node gets the least that is left (the choice of
-- this project; the Devicetree Specification v0.4, 2.3.3, asks for numbers of their own).
use Rattle.std.specs.Prelude.{◌≡◌, ℕ, Bool, true, false, List, [], ◌∷◌, ◌++◌, map, Option, Some, None, if◌then◌else◌}
use Rattle.std.specs.List.{flat_map}
use Rattle.std.specs.Option.{option_to_list}
use Rattle.dt_model.specs.Path.{Path}
use Rattle.dt_model.specs.Meaning.{Meaning}
use Rattle.dt_model.specs.Numbers.{IsLeastFree, paths_of}
use Rattle.dt_model.specs.Tree.{Reading}

-- what a node asks for: the number that is written in it, and whether it is keyed
pub record Asked : Type 0 where
  pub written : Option ℕ
  pub keyed : Bool

-- the number of a node, where these are taken: the written one; else none where it isn't keyed, or the least that is free
abbrev pub IsNumberFor : List ℕ → Option ℕ → Bool → Option ℕ → Type 0
IsNumberFor taken (Some n) keyed number = number ≡ Some n
IsNumberFor taken None false number = number ≡ None
IsNumberFor taken None true None = ⊥
IsNumberFor taken None true (Some n) = IsLeastFree taken n

-- the numbers of nodes one after another, where these are taken
abbrev pub AreNumbersFor : List ℕ → List Asked → List (Option ℕ) → Type 0
AreNumbersFor taken [] [] = Unit {0}
AreNumbersFor taken [] (number ∷ numbers) = ⊥
AreNumbersFor taken (x ∷ xs) [] = ⊥
AreNumbersFor taken (x ∷ xs) (number ∷ numbers) =
    IsNumberFor taken x.written x.keyed number × AreNumbersFor (option_to_list number ++ taken) xs numbers

-- the numbers that are written
abbrev pub written_numbers : List Asked → List ℕ
written_numbers xs = flat_map (λ (x : Asked). option_to_list x.written) xs

-- the numbers of all nodes, in preorder: none is one that is written in another node
abbrev pub IsNumbering : List Asked → List (Option ℕ) → Type 0
IsNumbering xs numbers = AreNumbersFor (written_numbers xs) xs numbers

-- what the nodes of a meaning ask for
abbrev pub asked_by : Meaning → List Path → List Asked
asked_by m paths = map (λ p. record { written = m.number p; keyed = m.keyed p }) paths

-- the numbers that a naming gives to the keyed nodes
abbrev pub numbers_by : Meaning → (Path → ℕ) → List Path → List (Option ℕ)
numbers_by m number paths = map (λ p. if m.keyed p then Some (number p) else None) paths

-- the naming gives the numbers that the meaning's nodes get in the order of the tree
abbrev pub HasLeastNumbers : Reading → Meaning → (Path → ℕ) → Type 0
HasLeastNumbers t m number = IsNumbering (asked_by m (paths_of t)) (numbers_by m number (paths_of t))
