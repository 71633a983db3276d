-- The texts with which an object's bookkeeping nodes name nodes and cells (dtc's notes on overlay objects).
use Rattle.std.specs.Prelude.{◌≡◌, ◌≢◌, ℕ, ◌<◌, ◌≤◌, List, [], ◌∷◌, ◌++◌, length}
use Rattle.std.specs.List.{AllByRecursion}
use Rattle.dt_model.specs.Limits.{most_names}
use Rattle.dt_model.specs.Names.{IsNodeName}
use Rattle.dt_model.specs.Path.{Path, path_value}
use Rattle.dt_model.specs.Object.{Cell, IsCellText, AreCellTexts}
use Rattle.dt_names.specs.declared.fault.FaultKind.{FaultKind}
use Rattle.dt_names.specs.declared.fault.FaultKind.TheVariants.{NoMemory, Limit, BadSymbol}

-- the value is these texts, one after another, each with a NUL behind it and none in it
abbrev pub AreTexts : List ℕ → List (List ℕ) → Type 0
AreTexts value [] = value ≡ []
AreTexts value (x ∷ xs) = (rest : List ℕ) × (value ≡ x ++ 0 ∷ rest) × AllByRecursion (λ b. b ≢ 0) x × AreTexts rest xs

-- each of the texts is that of a cell
abbrev pub TellCells : List (List ℕ) → List Cell → Type 0
TellCells [] [] = Unit {0}
TellCells [] (c ∷ cells) = ⊥
TellCells (x ∷ xs) [] = ⊥
TellCells (x ∷ xs) (c ∷ cells) = IsCellText x c × TellCells xs cells

-- a value is cut into texts in one way
abbrev pub TextsAreOne : Type 0
TextsAreOne = (value : List ℕ) (xs ys : List (List ℕ)) → AreTexts value xs → AreTexts value ys → xs ≡ ys

-- a text names one cell
abbrev pub CellIsOne : Type 0
CellIsOne = (x : List ℕ) (c d : Cell) → IsCellText x c → IsCellText x d → c ≡ d

-- the texts of cells are texts, and texts that name cells are theirs
pub record CellTextsAreTexts : Type 0 where
  pub told : (value : List ℕ) (cells : List Cell) → AreCellTexts value cells → (xs : List (List ℕ)) × AreTexts value xs × TellCells xs cells
  pub tell : (value : List ℕ) (xs : List (List ℕ)) (cells : List Cell) → AreTexts value xs → TellCells xs cells → AreCellTexts value cells

-- the value is the text of a path with a NUL
pub record IsPathValue (value : List ℕ) (p : Path) : Type 0 where
  pub text : value ≡ path_value p
  pub named : AllByRecursion IsNodeName p

-- it is that of one path
abbrev pub PathValueIsOne : Type 0
PathValueIsOne = (value : List ℕ) (p q : Path) → IsPathValue value p → IsPathValue value q → p ≡ q

-- the value of a symbol names no path that may be a node's
abbrev pub WhyNoSymbolPath : FaultKind → List ℕ → Type 0
WhyNoSymbolPath NoMemory value = (p : Path) × IsPathValue value p × (length p ≤ most_names)
WhyNoSymbolPath Limit value = (p : Path) × IsPathValue value p × (most_names < length p)
WhyNoSymbolPath BadSymbol value = (p : Path) → ¬ IsPathValue value p
WhyNoSymbolPath _ value = ⊥
