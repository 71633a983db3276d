-- What is true of the trees that sources are compiled to, and of the refusals of sources.
use Rattle.std.specs.Prelude.{◌≡◌, ℕ, ◌+◌, ◌<◌, ◌≤◌, List, length}
use Rattle.std.specs.List.{AllByRecursion}
use Rattle.dt_model.specs.Limits.{most_nodes}
use Rattle.dt_model.specs.Path.{Path}
use Rattle.dt_model.specs.Meaning.{Meaning}
use Rattle.dt_model.specs.Represents.{Represents}
use Rattle.dt_model.specs.Source.{Place, IsPlace, Mode, base, SourceMeans}
use Rattle.dt_model.specs.Tree.{Reading}
use Rattle.dt_model.specs.Valid.{IsValid, node_count}
use Rattle.dt_model.specs.Instance.{IsInstanceOf, IsTreeOf}
use Rattle.dt_model.specs.Refused.{SourceRefusal, too_many, IsRefusedFor}

-- places are compiled to one tree
abbrev pub OneTree : Type 0
OneTree = (mode : Mode) (reservations : List (ℕ × ℕ)) (places : List Place) (t u : Reading)
    → IsTreeOf mode reservations places t → IsTreeOf mode reservations places u → t ≡ u

-- a blob may hold it
abbrev pub TreeIsValid : Type 0
TreeIsValid = (mode : Mode) (reservations : List (ℕ × ℕ)) (places : List Place) (t : Reading)
    → 0 < length places → AllByRecursion IsPlace places → IsTreeOf mode reservations places t → IsValid t

-- a base's represents its meaning
abbrev pub BaseTreeRepresents : Type 0
BaseTreeRepresents = (reservations : List (ℕ × ℕ)) (places : List Place) (t : Reading)
    → AllByRecursion IsPlace places → IsTreeOf base reservations places t
    → (m : Meaning) × (number : Path → ℕ) × SourceMeans base reservations places m × Represents t m number

-- places are refused for one reason
abbrev pub RefusalIsOne : Type 0
RefusalIsOne = (mode : Mode) (places : List Place) (r q : SourceRefusal) → IsRefusedFor mode places r → IsRefusedFor mode places q → r ≡ q

-- places that mean something are refused for nothing but the number of their nodes
abbrev pub MeantIsNotRefused : Type 0
MeantIsNotRefused = (mode : Mode) (reservations : List (ℕ × ℕ)) (places : List Place) (m : Meaning) (r : SourceRefusal)
    → SourceMeans mode reservations places m → IsRefusedFor mode places r → r ≡ too_many

-- and not for that where their instance has no more nodes than a blob may have
abbrev pub FewAreNotRefused : Type 0
FewAreNotRefused = (mode : Mode) (reservations : List (ℕ × ℕ)) (places : List Place) (t : Reading)
    → IsInstanceOf mode reservations places t → 1 + node_count t.children ≤ most_nodes → IsRefusedFor mode places too_many → ⊥
