-- How a tree grows by the tokens of a structure block, where the open nodes have numbers, the innermost first.
use Rattle.std.specs.Prelude.{ℕ, ◌<◌, List, [], ◌∷◌, length, drop}
use Rattle.dt_model.specs.Limits.{most_names}
use Rattle.dt_model.specs.Names.{IsNodeName, IsPropertyName}
use Rattle.dt_model.specs.Tree.{Reading}
use Rattle.dt_model.specs.Valid.{IsValid, IsWithinLimits}
use Rattle.dt_model.specs.Format.{Token, begin_node, end_node, prop, nop, end_tree}
use Rattle.dt_flat.specs.Arena.{Slot, with_child, with_property}
use Rattle.dt_flat.specs.Planted.{HasOwnNumbers, MaySetNew}
use Rattle.dt_flat.specs.Refusals.{MayAdd}
use Rattle.dt_trees.specs.Placed.{forest_of}
use Rattle.dt_read.specs.Marks.{Mark, token_of, Root}

-- the numbers of the open nodes behind a token
abbrev pub numbers_behind : Token → List Slot → List ℕ → List ℕ
numbers_behind (begin_node name) slots [] = 0 ∷ []
numbers_behind (begin_node name) slots (p ∷ ps) = length slots ∷ p ∷ ps
numbers_behind end_node slots ps = drop 1 ps
numbers_behind (prop x) slots ps = ps
numbers_behind nop slots ps = ps
numbers_behind end_tree slots ps = ps

-- the nodes behind a token
abbrev pub slots_behind : Token → List Slot → List ℕ → List Slot
slots_behind (begin_node name) slots [] = slots
slots_behind (begin_node name) slots (p ∷ ps) = with_child slots p name
slots_behind end_node slots ps = slots
slots_behind (prop x) slots [] = slots
slots_behind (prop x) slots (p ∷ ps) = with_property slots p x.name x.value
slots_behind nop slots ps = slots
slots_behind end_tree slots ps = slots

-- nothing but memory is in the way of the token
abbrev pub MayCome : Token → List Slot → List ℕ → Type 0
MayCome (begin_node name) slots [] = Unit {0}
MayCome (begin_node name) slots (p ∷ ps) = (p < length slots) × (length ps < most_names) × IsNodeName name × MayAdd slots p name
MayCome end_node slots ps = Unit {0}
MayCome (prop x) slots [] = ⊥
MayCome (prop x) slots (p ∷ ps) = (p < length slots) × IsPropertyName x.name × MaySetNew slots p x
MayCome nop slots ps = Unit {0}
MayCome end_tree slots ps = Unit {0}

-- the same of tokens one after another
abbrev pub grown : List Mark → List Slot → List ℕ → List Slot
grown [] slots ps = slots
grown (mark ∷ marks) slots ps = grown marks (slots_behind (token_of mark) slots ps) (numbers_behind (token_of mark) slots ps)

abbrev pub MayGrow : List Mark → List Slot → List ℕ → Type 0
MayGrow [] slots ps = Unit {0}
MayGrow (mark ∷ marks) slots ps = MayCome (token_of mark) slots ps
    × MayGrow marks (slots_behind (token_of mark) slots ps) (numbers_behind (token_of mark) slots ps)

-- what a tree says, with a boot CPU and reservations
abbrev pub reading_with : ℕ → List (ℕ × ℕ) → Root → Reading
reading_with boot_cpu reservations tree = record { boot_cpu = boot_cpu; reservations = reservations; properties = tree.properties; children = forest_of tree.children }

-- nothing but memory is in the way of a copy
pub record MayCopy (t : Reading) : Type 0 where
  pub valid : IsValid t
  pub within : IsWithinLimits t
  pub numbers : HasOwnNumbers t.properties t.children
