-- Paths of nodes as texts, and when one is refused.
use Rattle.std.specs.Prelude.{◌≡◌, ℕ, ◌<◌, ◌≤◌, ◌==◌, Option, None, Some, List, [], ◌∷◌, length, codes, if◌then◌else◌}
use Rattle.std.specs.Str.{bytes_eq}
use Rattle.std.specs.Borrow.{Bor}
use Rattle.std.specs.List.{slice_split, AllByRecursion}
use Rattle.dt_model.specs.Limits.{most_names}
use Rattle.dt_model.specs.Names.{Name, IsNodeName}
use Rattle.dt_model.specs.Path.{Path, path_text}
use Rattle.dt_names.specs.declared.fault.FaultKind.{FaultKind}
use Rattle.dt_names.specs.declared.fault.FaultKind.TheVariants.{NoMemory, Limit, BadName}

-- the text is that of a path of names of nodes
pub record IsPathOf (text : List ℕ) (p : Path) : Type 0 where
  pub written : text ≡ path_text p
  pub named : AllByRecursion IsNodeName p

-- a text is read as no path: memory is asked for last, so it is refused only where nothing else refuses
abbrev pub WhyNoPath : FaultKind → List ℕ → Type 0
WhyNoPath NoMemory text = (p : Path) × IsPathOf text p × (length p ≤ most_names)
WhyNoPath Limit text = (p : Path) × IsPathOf text p × (most_names < length p)
WhyNoPath BadName text = (p : Path) → ¬ IsPathOf text p
WhyNoPath _ text = ⊥

-- no name is added to a path
abbrev pub WhyNotPushed : FaultKind → Path → Type 0
WhyNotPushed NoMemory p = length p < most_names
WhyNotPushed Limit p = length p ≡ most_names
WhyNotPushed _ p = ⊥

-- ---- how a path is kept: each name with a `/` before it, and nothing for the root

-- what is between the slashes of a text
unfoldable pub parts : List ℕ → List Name
parts text = slice_split (λ b. b == 47) text

-- the same of what is left of a text, where something is
abbrev pub parts_left : Option (Bor (List ℕ)) → List Name
parts_left None = []
parts_left (Some rest) = parts rest.now

-- all but the first
abbrev pub behind_first : List Name → List Name
behind_first [] = []
behind_first (x ∷ xs) = xs

-- the names in a text that begins with a `/`
unfoldable pub names_in : List ℕ → Path
names_in text = behind_first (parts text)

-- the path that a text is of, where it is of one
abbrev pub path_in : List ℕ → Path
path_in text = if bytes_eq text (codes "/") then [] else names_in text

-- the text is names of nodes, each with a `/` before it
pub record AreNames (text : List ℕ) : Type 0 where
  pub begins : parts text ≡ [] ∷ names_in text
  pub named : AllByRecursion IsNodeName (names_in text)

-- what holds of a path that is kept
pub record IsKept (text : List ℕ) (count : ℕ) : Type 0 where
  pub names : AreNames text
  pub counted : count ≡ length (names_in text)
  pub few : count ≤ most_names
