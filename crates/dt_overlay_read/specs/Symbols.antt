-- The labels of an object, text by text and property by property.
use Rattle.std.specs.Prelude.{◌≡◌, ◌⊎◌, ℕ, List, [], ◌∷◌, ◌++◌, Some, None}
use Rattle.std.specs.List.{AllByRecursion, flat_map}
use Rattle.dt_model.specs.Path.{Path}
use Rattle.dt_model.specs.Tree.{Property, nodes_of}
use Rattle.dt_model.specs.Applied.{node_named}
use Rattle.dt_trees.specs.Placed.{PlacedTree, reading_of, IsAt}
use Rattle.dt_overlay_texts.specs.Cuts.{Lacks}
use Rattle.dt_overlay_laws.specs.Objects.{IsOfFragment, IsSymbol}
use Rattle.dt_overlay_object.specs.declared.kept.Symbol.{Symbol}
use Rattle.dt_overlay_read.specs.declared.symbols.SymbolNames.{SymbolNames}
use Rattle.dt_overlay_read.specs.declared.symbols.SymbolNames.TheVariants.{Nothing, Missing, Node}
use Rattle.dt_overlay_object.specs.Plans.{AreSymbolsOf, symbol_brought}

-- the name is what comes before the first slash, or all if there is none
pub record IsFirstName (bytes name : List ℕ) : Type 0 where
  pub lacks : Lacks 47 name
  pub whole : (bytes ≡ name) ⊎ ((rest : List ℕ) × (bytes ≡ name ++ 47 ∷ rest))

-- what the text of a symbol names
abbrev pub IsWhatTextNames : PlacedTree → List ℕ → SymbolNames → Type 0
IsWhatTextNames t text Nothing = ¬ IsOfFragment (reading_of t) text
IsWhatTextNames t text Missing = IsOfFragment (reading_of t) text × (node_named (nodes_of (reading_of t)) (text ++ 0 ∷ []) ≡ None)
IsWhatTextNames t text (Node i) =
    IsOfFragment (reading_of t) text
    × ((p : Path) × (node_named (nodes_of (reading_of t)) (text ++ 0 ∷ []) ≡ Some p) × IsAt t p i)

-- the labels that these properties give to nodes that land are listed behind what was
pub record ListsNamed (t : PlacedTree) (ps : List Property) (old new : List Symbol) : Type 0 where
  pub more : List Symbol
  pub appended : new ≡ old ++ more
  pub symbols : AreSymbolsOf t more (flat_map (symbol_brought (reading_of t)) ps)
  pub well : AllByRecursion (λ (x : Property). IsSymbol (reading_of t) x.value) ps
