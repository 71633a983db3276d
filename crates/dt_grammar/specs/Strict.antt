-- What is checked of a relaxed source: where all of it holds, it is a source.
use Rattle.std.specs.Prelude.{◌≡◌, ℕ, ◌<◌, ◌≤◌, Bool, true, false, List, [], ◌∷◌, ◌++◌, length, codes, Some}
use Rattle.std.specs.List.{AllByRecursion}
use Rattle.dt_model.specs.Limits.{most_bodies, most_tokens}
use Rattle.dt_model.specs.Names.{IsLabel, IsNodeName, IsPropertyName}
use Rattle.dt_model.specs.Valid.{IsReservation}
use Rattle.dt_expr.specs.Expression.{Expression, value}
use Rattle.dt_expr.specs.Fits.{Fits}
use Rattle.dt_grammar.specs.Words.{IsReferenceWord}
use Rattle.dt_grammar.specs.Unchecked.{Target, RawCell, label_cell, number_cell, reference_cell, byte_cell, RawItem, cell_item, text_item, byte_item, path_item, RawComponent, RawPlace, raw_root, raw_block, raw_delete_node, raw_child, raw_label, raw_property, raw_delete_property, raw_delete_child, raw_close, RawReserve, RawSource, all_but_last, reference_in, value_or_zero, reserve_of}
use Rattle.dt_grammar.specs.Relaxed.{a_reference}

-- a label and `:`
pub record IsLabelText (bytes : List ℕ) : Type 0 where
  pub colon : bytes ≡ all_but_last bytes ++ codes ":"
  pub valid : IsLabel (all_but_last bytes)

abbrev pub AreLabelTexts : List (List ℕ) → Type 0
AreLabelTexts ls = AllByRecursion IsLabelText ls

abbrev pub IsReferenceText : Target → List ℕ → Type 0
IsReferenceText target bytes = IsReferenceWord (a_reference target bytes) (reference_in target bytes)

-- an expression of so many tokens, which has a value
pub record IsNumber (size : ℕ) (e : Expression) : Type 0 where
  pub few : size ≤ most_tokens
  pub evaluated : value e ≡ Some (value_or_zero e)

abbrev pub IsCell : ℕ → RawCell → Type 0
IsCell bits (label_cell bytes) = IsLabelText bytes
IsCell bits (number_cell size e) = IsNumber size e × Fits bits (value_or_zero e)
IsCell bits (reference_cell target bytes) = (bits ≡ 32) × IsReferenceText target bytes
IsCell bits (byte_cell b) = Unit {0}

abbrev pub IsItem : RawItem → Type 0
IsItem (cell_item bits cells) = AllByRecursion (IsCell bits) cells
IsItem (text_item bytes) = Unit {0}
IsItem (byte_item cells) = AllByRecursion (IsCell 8) cells
IsItem (path_item target bytes) = IsReferenceText target bytes

pub record IsComponent (c : RawComponent) : Type 0 where
  pub before : AreLabelTexts c.before
  pub item : IsItem c.item
  pub behind : AreLabelTexts c.behind

abbrev pub IsSoundPlace : RawPlace → Type 0
IsSoundPlace raw_root = Unit {0}
IsSoundPlace (raw_block target bytes) = IsReferenceText target bytes
IsSoundPlace (raw_delete_node target bytes) = IsReferenceText target bytes
IsSoundPlace (raw_child bytes) = IsNodeName bytes
IsSoundPlace (raw_label bytes) = IsLabelText bytes
IsSoundPlace (raw_property ls bytes components) = AreLabelTexts ls × IsPropertyName bytes × AllByRecursion IsComponent components
IsSoundPlace (raw_delete_property ls bytes) = AreLabelTexts ls × IsPropertyName bytes
IsSoundPlace (raw_delete_child ls bytes) = AreLabelTexts ls × IsNodeName bytes
IsSoundPlace raw_close = Unit {0}

-- Of each open body, the innermost first, whether a child stood in it: no property comes after a child, and a child's body is
-- inside 64 others at most
abbrev pub IsOrdered : List Bool → List RawPlace → Type 0
IsOrdered bodies [] = Unit {0}
IsOrdered bodies (raw_root ∷ ps) = IsOrdered (false ∷ bodies) ps
IsOrdered bodies (raw_block target bytes ∷ ps) = IsOrdered (false ∷ bodies) ps
IsOrdered bodies (raw_delete_node target bytes ∷ ps) = IsOrdered bodies ps
IsOrdered bodies (raw_label bytes ∷ ps) = IsOrdered bodies ps
IsOrdered [] (raw_child bytes ∷ ps) = ⊥
IsOrdered (b ∷ bodies) (raw_child bytes ∷ ps) = (length (b ∷ bodies) < most_bodies) × IsOrdered (false ∷ true ∷ bodies) ps
IsOrdered [] (raw_property ls bytes components ∷ ps) = ⊥
IsOrdered (b ∷ bodies) (raw_property ls bytes components ∷ ps) = (b ≡ false) × IsOrdered (false ∷ bodies) ps
IsOrdered [] (raw_delete_property ls bytes ∷ ps) = ⊥
IsOrdered (b ∷ bodies) (raw_delete_property ls bytes ∷ ps) = (b ≡ false) × IsOrdered (false ∷ bodies) ps
IsOrdered [] (raw_delete_child ls bytes ∷ ps) = ⊥
IsOrdered (b ∷ bodies) (raw_delete_child ls bytes ∷ ps) = IsOrdered (true ∷ bodies) ps
IsOrdered [] (raw_close ∷ ps) = ⊥
IsOrdered (b ∷ bodies) (raw_close ∷ ps) = IsOrdered bodies ps

pub record IsReserve (r : RawReserve) : Type 0 where
  pub labels : AreLabelTexts r.labels
  pub address : IsNumber r.address_size r.address
  pub length : IsNumber r.length_size r.length
  pub valid : IsReservation (reserve_of r)

pub record IsStrict (s : RawSource) : Type 0 where
  pub reserves : AllByRecursion IsReserve s.reserves
  pub places : AllByRecursion IsSoundPlace s.places
  pub ordered : IsOrdered [] s.places
