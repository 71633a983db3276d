-- When a tree represents a meaning.
use Rattle.std.specs.Prelude.{◌≡◌, ℕ, false, [], ◌∷◌, option_map, codes}
use Rattle.dt_model.specs.Names.{Name}
use Rattle.dt_model.specs.Path.{Path, path_value, is_bookkeeping}
use Rattle.dt_model.specs.Meaning.{Meaning, IsMeaning, IsPlain, IsNaming, instance_value}
use Rattle.dt_model.specs.Tree.{Reading, stands_in, value_in}
use Rattle.dt_model.specs.Valid.{IsValid}

-- Apart from the bookkeeping nodes the tree is the meaning's instance under the naming; its reservations are the
-- meaning's; and the properties of `/__symbols__` are the labels, each with its node's path. The boot CPU is free.
pub record Represents (t : Reading) (m : Meaning) (number : Path → ℕ) : Type 0 where
  pub naming : IsNaming m number
  pub reservations : t.reservations ≡ m.reservations
  pub nodes : (p : Path) → is_bookkeeping p ≡ false → stands_in t p ≡ m.stands p
  pub values : (p : Path) (name : Name) → is_bookkeeping p ≡ false → value_in t p name ≡ instance_value m number p name
  pub symbols : (label : Name) → value_in t (codes "__symbols__" ∷ []) label ≡ option_map path_value (m.label label)

-- a tree is of a meaning by these numbers, and may take objects
pub record IsOf (t : Reading) (m : Meaning) (number : Path → ℕ) : Type 0 where
  pub represents : Represents t m number
  pub meaning : IsMeaning m
  pub plain : IsPlain m
  pub valid : IsValid t
