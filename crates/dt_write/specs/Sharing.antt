-- Names that share their bytes.
use Rattle.std.specs.Prelude.{◌≡◌, ℕ, ◌+◌, ◌||◌, Bool, false, true, List, ◌∷◌, ◌++◌, length}
use Rattle.std.specs.List.{flat_map, list_any, AllByRecursion}
use Rattle.std.specs.Str.{bytes_eq}
use Rattle.dt_model.specs.Names.{Name}
use Rattle.dt_model_format.specs.Strings.{terminated}
use Rattle.dt_write.specs.Written.{is_end, kept_of}

-- is the name the other, or an end of it?
abbrev pub ends : Name → Name → Bool
ends name other = bytes_eq name other || is_end name other

-- the offset is in the first stored name that ends with the name
pub record IsInFirst (names : List Name) (name : Name) (offset : ℕ) : Type 0 where
  pub before : List Name
  pub holder : Name
  pub behind : List Name
  pub front : List ℕ
  pub stored : kept_of names names ≡ before ++ holder ∷ behind
  pub ended : holder ≡ front ++ name
  pub first : AllByRecursion (λ other. ends name other ≡ false) before
  pub is : offset ≡ length (flat_map terminated before) + length front

-- the name with a number, in the order of first use, is the first that is stored and ends with the name
pub record IsHolder (names : List Name) (name : Name) (number : ℕ) : Type 0 where
  pub before : List Name
  pub holder : Name
  pub behind : List Name
  pub all : names ≡ before ++ holder ∷ behind
  pub numbered : number ≡ length before
  pub stored : list_any (is_end holder) names ≡ false
  pub ended : ends name holder ≡ true
  pub first : AllByRecursion (λ other. list_any (is_end other) names ≡ false → ends name other ≡ false) before
