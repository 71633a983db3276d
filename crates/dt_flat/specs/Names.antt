-- The names of a tree, each once, and their numbers.
use Rattle.std.specs.Prelude.{◌≡◌, ◌≢◌, ◌⊎◌, ℕ, zero, suc, ◌<◌, List, [], ◌∷◌, ◌++◌, length}
use Rattle.dt_model.specs.Names.{Name}

-- the name of a number
abbrev pub text : List Name → ℕ → Name
text [] k = []
text (x ∷ xs) zero = x
text (x ∷ xs) (suc k) = text xs k

-- a number is that of one name, and a name has one number
abbrev pub AreOwn : List Name → Type 0
AreOwn names = (i j : ℕ) → i < length names → j < length names → text names i ≡ text names j → i ≡ j

-- the name has no number
abbrev pub IsUnknown : List Name → Name → Type 0
IsUnknown names name = (i : ℕ) → i < length names → text names i ≢ name

-- the names after a name is looked for, and is one of them if it was not; its number is id, and no other name came
pub record IsNoted (old new : List Name) (name : Name) (id : ℕ) : Type 0 where
  pub more : List Name
  pub few : (more ≡ []) ⊎ (more ≡ name ∷ [])
  pub kept : new ≡ old ++ more
  pub there : id < length new
  pub text : text new id ≡ name
