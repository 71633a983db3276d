-- Where a fault shows in the tokens of a text (Devicetree Specification v0.4, chapter 6), which are read from left to right:
-- the first token at which one shows, and which it is.
use Rattle.std.specs.Prelude.{◌≡◌, ℕ, ◌+◌, ◌<◌, ◌≤◌, Bool, true, false, ◌||◌, List, [], ◌∷◌, length, drop, Option, Some, None}
use Rattle.std.specs.List.{AllByRecursion}
use Rattle.dt_model.specs.Limits.{most_bodies, most_tokens}
use Rattle.dt_model.specs.Names.{IsNodeName, IsPropertyName}
use Rattle.dt_model.specs.Valid.{IsReservation}
use Rattle.dt_names.specs.declared.fault.FaultKind.{FaultKind}
use Rattle.dt_names.specs.declared.fault.FaultKind.TheVariants as fault
use Rattle.dt_lex.specs.declared.token.TokenKind.{TokenKind}
use Rattle.dt_lex.specs.declared.token.TokenKind.TheVariants as kind
use Rattle.dt_lex.specs.declared.token.Mark.TheVariants as mark
use Rattle.dt_lex.specs.declared.token.Keyword.TheVariants as keyword
use Rattle.dt_expr.specs.Expression.{value}
use Rattle.dt_expr.specs.Fits.{Fits}
use Rattle.dt_grammar.specs.Words.{Words}
use Rattle.dt_grammar.specs.Unchecked.{a_label, a_path, RawPlace, raw_child, raw_delete_child, value_or_zero}
use Rattle.dt_grammar.specs.Strict.{IsLabelText, AreLabelTexts, IsReferenceText, IsNumber, IsCell, IsItem, IsComponent, IsSoundPlace, IsOrdered, IsReserve, IsStrict}
use Rattle.dt_grammar.specs.Wanted.{Made, made_expression, made_labels, made_cells, made_item, made_value, made_places, made_behind, made_source, size_in, expression_in, Wanted, AfterAddress, AfterMemberLabels, AfterName, BitsOpen, BlockOpen, DeletedChild, DeletedNode, DeletedProperty, More, OneItem, OneStatement, Prim, SomeBytes, SomeCells, SomeLabels, refuse, want, kind_at, bytes_at}
use Rattle.dt_grammar.specs.Descent.{move_at, first, after, found, stuck, Descends}

-- ---- what is around a place

-- of how many bits the elements there are, and of each open body, the innermost first, whether a child stood in it
pub record Around : Type 0 where
  pub bits : ℕ
  pub bodies : List Bool

-- numbers of reservations are of 64 bits
abbrev pub outside : Around
outside = record { bits = 64; bodies = [] }

abbrev pub in_elements : ℕ → Around → Around
in_elements bits a = record { bits = bits; bodies = a.bodies }

abbrev pub in_bodies : List Bool → Around → Around
in_bodies bodies a = record { bits = a.bits; bodies = bodies }

-- whether a member is a child or the deletion of one
abbrev pub is_child : List RawPlace → Bool
is_child (raw_child bytes ∷ ps) = true
is_child (raw_delete_child ls bytes ∷ ps) = true
is_child _ = false

abbrev pub behind_member : List RawPlace → List Bool → List Bool
behind_member ps [] = []
behind_member ps (b ∷ bodies) = (is_child ps || b) ∷ bodies

-- what is around the part that is wanted next
abbrev pub within : Wanted → Around → Around
within OneItem a = in_elements 32 a
within (BitsOpen bits) a = in_elements bits a
within (BlockOpen ps) a = in_bodies (false ∷ a.bodies) a
within (More ps) a = in_bodies (behind_member ps a.bodies) a
within _ a = a

-- ---- what holds of a name, a label and a reference where they may stand

abbrev pub label_named : List ℕ → Option TokenKind → Type 0
label_named b (Some kind.Label) = IsLabelText b
label_named b _ = Unit {0}

abbrev pub reference_named : List ℕ → Option TokenKind → Type 0
reference_named b (Some kind.LabelReference) = IsReferenceText a_label b
reference_named b (Some kind.PathReference) = IsReferenceText a_path b
reference_named b _ = Unit {0}

abbrev pub cell_named : List ℕ → Option TokenKind → Type 0
cell_named b (Some kind.Label) = IsLabelText b
cell_named b (Some kind.LabelReference) = IsReferenceText a_label b
cell_named b (Some kind.PathReference) = IsReferenceText a_path b
cell_named b _ = Unit {0}

-- of a property where `=` or `;` is next, of a child where `{` is; where none is, no name is wanted
abbrev pub name_before : List ℕ → Option TokenKind → Type 0
name_before b (Some (kind.Mark mark.Semicolon)) = IsPropertyName b
name_before b (Some (kind.Mark mark.Equals)) = IsPropertyName b
name_before b (Some (kind.Mark mark.OpenBrace)) = IsNodeName b
name_before b _ = Unit {0}

abbrev pub member_named : List ℕ → Option TokenKind → Option TokenKind → Type 0
member_named b (Some kind.Name) next = name_before b next
member_named b _ next = Unit {0}

-- of what is deleted where `;` is next
abbrev pub deleted_named : (List ℕ → Type 0) → List ℕ → Option TokenKind → Option TokenKind → Type 0
deleted_named P b (Some kind.Name) (Some (kind.Mark mark.Semicolon)) = P b
deleted_named P b _ _ = Unit {0}

abbrev pub IsFaultNamed : Wanted → Words → Type 0
IsFaultNamed SomeLabels ws = label_named (bytes_at (first ws)) (kind_at (first ws))
IsFaultNamed SomeCells ws = cell_named (bytes_at (first ws)) (kind_at (first ws))
IsFaultNamed SomeBytes ws = label_named (bytes_at (first ws)) (kind_at (first ws))
IsFaultNamed OneItem ws = reference_named (bytes_at (first ws)) (kind_at (first ws))
IsFaultNamed (OneStatement ls) ws = reference_named (bytes_at (first ws)) (kind_at (first ws))
IsFaultNamed DeletedNode ws = reference_named (bytes_at (first ws)) (kind_at (first ws))
IsFaultNamed (AfterMemberLabels ls) ws = member_named (bytes_at (first ws)) (kind_at (first ws)) (kind_at (first (after true ws)))
IsFaultNamed (DeletedProperty ls) ws = deleted_named IsPropertyName (bytes_at (first ws)) (kind_at (first ws)) (kind_at (first (after true ws)))
IsFaultNamed (DeletedChild ls) ws = deleted_named IsNodeName (bytes_at (first ws)) (kind_at (first ws)) (kind_at (first (after true ws)))
IsFaultNamed _ ws = Unit {0}

-- ---- what else holds there

-- a reference is allowed among elements of 32 bits only
abbrev pub cell_placed : ℕ → Option TokenKind → Type 0
cell_placed bits (Some kind.LabelReference) = bits ≡ 32
cell_placed bits (Some kind.PathReference) = bits ≡ 32
cell_placed bits _ = Unit {0}

-- no child stood in the innermost body
abbrev pub IsBeforeChildren : List Bool → Type 0
IsBeforeChildren [] = Unit {0}
IsBeforeChildren (b ∷ bodies) = b ≡ false

abbrev pub name_placed : List Bool → Option TokenKind → Type 0
name_placed bodies (Some (kind.Mark mark.Semicolon)) = IsBeforeChildren bodies
name_placed bodies (Some (kind.Mark mark.Equals)) = IsBeforeChildren bodies
name_placed bodies _ = Unit {0}

abbrev pub member_placed : List Bool → Option TokenKind → Type 0
member_placed bodies (Some (kind.Keyword keyword.DeleteProperty)) = IsBeforeChildren bodies
member_placed bodies _ = Unit {0}

-- a body is inside 64 others at most
abbrev pub body_placed : List Bool → Option TokenKind → Type 0
body_placed bodies (Some (kind.Mark mark.OpenBrace)) = length bodies < most_bodies
body_placed bodies _ = Unit {0}

-- two numbers, the second at the front, are a reservation's: one of them isn't 0
abbrev pub IsReservedWith : Made → Words → Type 0
IsReservedWith x ws = (y : Made) (left : Words) → Descends Prim ws (found y left) → IsNumber (size_in y) (expression_in y) →
    IsReservation (value_or_zero (expression_in x), value_or_zero (expression_in y))

abbrev pub IsPlaced : Around → Wanted → Words → Type 0
IsPlaced a SomeCells ws = cell_placed a.bits (kind_at (first ws))
IsPlaced a (AfterName ls n) ws = name_placed a.bodies (kind_at (first ws))
IsPlaced a (AfterMemberLabels ls) ws = member_placed a.bodies (kind_at (first ws))
IsPlaced a (BlockOpen ps) ws = body_placed a.bodies (kind_at (first ws))
IsPlaced a (AfterAddress ls x) ws = IsReservedWith x ws
IsPlaced a _ ws = Unit {0}

-- the fault where it doesn't
abbrev pub misplaced : Wanted → FaultKind
misplaced SomeCells = fault.BadReferenceWidth
misplaced (AfterName ls n) = fault.PropertyAfterNode
misplaced (AfterMemberLabels ls) = fault.PropertyAfterNode
misplaced (AfterAddress ls x) = fault.OutOfRange
misplaced _ = fault.Limit

-- ---- faults that show

-- a fault that shows at the front where something is wanted that isn't a number
pub data Shows (a : Around) (g : Wanted) (ws : Words) : FaultKind → Type 0 where
  unwanted : move_at g (first ws) ≡ refuse → Shows a g ws fault.Syntax
  unnamed : ¬ IsFaultNamed g ws → Shows a g ws fault.BadName
  unplaced : IsFaultNamed g ws → ¬ IsPlaced a g ws → Shows a g ws (misplaced g)

-- none shows there
pub record Passes (a : Around) (g : Wanted) (ws : Words) : Type 0 where
  pub named : IsFaultNamed g ws
  pub placed : IsPlaced a g ws

-- A fault of a number: one of its first 1,025 tokens can't stand there; it has more than 1,024; or it is complete, and divides
-- by 0 or is too large for its element.
pub data NumberBreaks (bits : ℕ) (ws : Words) : FaultKind → Words → Type 0 where
  cut_off : (left : Words) → Descends Prim ws (stuck left) → length ws ≤ length left + most_tokens → NumberBreaks bits ws fault.Syntax left
  unended : (left : Words) → Descends Prim ws (stuck left) → length left + most_tokens < length ws → NumberBreaks bits ws fault.Limit (drop most_tokens ws)
  too_long : (m : Made) (left : Words) → Descends Prim ws (found m left) → most_tokens < size_in m → NumberBreaks bits ws fault.Limit (drop most_tokens ws)
  valueless : (m : Made) (left : Words) → Descends Prim ws (found m left) → size_in m ≤ most_tokens → value (expression_in m) ≡ None →
      NumberBreaks bits ws fault.DivideByZero ws
  too_large : (m : Made) (left : Words) → Descends Prim ws (found m left) → IsNumber (size_in m) (expression_in m) → ¬ Fits bits (value_or_zero (expression_in m)) →
      NumberBreaks bits ws fault.OutOfRange ws

-- ---- reading on

-- no fault shows in what was made
abbrev pub IsFine : Around → Made → Type 0
IsFine a (made_expression size e) = IsNumber size e × Fits a.bits (value_or_zero e)
IsFine a (made_labels ls) = AreLabelTexts ls
IsFine a (made_cells cs) = AllByRecursion (IsCell a.bits) cs
IsFine a (made_item i) = IsItem i
IsFine a (made_value cs) = AllByRecursion IsComponent cs
IsFine a (made_places ps) = AllByRecursion IsSoundPlace ps × IsOrdered a.bodies ps
IsFine a (made_behind rs ps) = AllByRecursion IsReserve rs × AllByRecursion IsSoundPlace ps × IsOrdered a.bodies ps
IsFine a (made_source s) = IsStrict s

-- anything but a number, whose faults are those of the whole
abbrev pub IsNoNumber : Wanted → Type 0
IsNoNumber Prim = ⊥
IsNoNumber _ = Unit {0}

-- Read from left to right from what is wanted, the tokens break with this fault at the first of these tokens that are left: it
-- shows at the front; or none does, and they break in the part that is wanted next; or that is read, no fault shows in it, and
-- they break behind it.
pub data Breaks : Around → Wanted → Words → FaultKind → Words → Type 0 where
  shows : (a : Around) (g : Wanted) (ws : Words) (k : FaultKind) → Shows a g ws k → Breaks a g ws k ws
  in_number : (a : Around) (ws left : Words) (k : FaultKind) → NumberBreaks a.bits ws k left → Breaks a Prim ws k left
  in_part : (a : Around) (g : Wanted) (ws left : Words) (k : FaultKind) (taken : Bool) (part : Wanted) (whole : Made → Wanted) →
      IsNoNumber g → move_at g (first ws) ≡ want taken part whole → Passes a g ws →
      Breaks (within g a) part (after taken ws) k left → Breaks a g ws k left
  behind_part : (a : Around) (g : Wanted) (ws rest left : Words) (k : FaultKind) (taken : Bool) (part : Wanted) (whole : Made → Wanted) (made : Made) →
      IsNoNumber g → move_at g (first ws) ≡ want taken part whole → Passes a g ws →
      Descends part (after taken ws) (found made rest) → IsFine (within g a) made →
      Breaks a (whole made) rest k left → Breaks a g ws k left
