-- What is made of the tokens of a source, what is wanted next on the way there, and moves.
use Rattle.std.specs.Prelude.{ℕ, Bool, List, [], Option, Some, None}
use Rattle.dt_lex.specs.declared.token.TokenKind.{TokenKind}
use Rattle.dt_expr.specs.declared.step.Unary.{Unary}
use Rattle.dt_expr.specs.declared.step.Binary.{Binary}
use Rattle.dt_expr.specs.Expression.{Expression, number}
use Rattle.dt_grammar.specs.Words.{Word, unary_of, binary_of}
use Rattle.dt_grammar.specs.Unchecked.{RawCell, RawItem, text_item, RawComponent, RawPlace, RawReserve, RawSource}

-- what is made of tokens
pub data Made : Type 0 where
  made_expression : (size : ℕ) (e : Expression) → Made
  made_labels : List (List ℕ) → Made
  made_cells : List RawCell → Made
  made_item : RawItem → Made
  made_value : List RawComponent → Made
  made_places : List RawPlace → Made
  made_behind : List RawReserve → List RawPlace → Made
  made_source : RawSource → Made

abbrev pub size_in : Made → ℕ
size_in (made_expression n e) = n
size_in _ = 0

abbrev pub expression_in : Made → Expression
expression_in (made_expression n e) = e
expression_in _ = number 0

abbrev pub labels_in : Made → List (List ℕ)
labels_in (made_labels ls) = ls
labels_in _ = []

abbrev pub cells_in : Made → List RawCell
cells_in (made_cells cs) = cs
cells_in _ = []

abbrev pub item_in : Made → RawItem
item_in (made_item i) = i
item_in _ = text_item []

abbrev pub components_in : Made → List RawComponent
components_in (made_value cs) = cs
components_in _ = []

abbrev pub places_in : Made → List RawPlace
places_in (made_places ps) = ps
places_in (made_behind rs ps) = ps
places_in _ = []

abbrev pub reserves_in : Made → List RawReserve
reserves_in (made_behind rs ps) = rs
reserves_in _ = []

-- what is wanted next: a whole of a kind, or the rest of one that was read in part
pub data Wanted : Type 0 where
  Any : Wanted
  AfterCondition : (c : Made) → Wanted
  AfterThis : (c x : Made) → Wanted
  Level : (n : ℕ) → Wanted
  AfterLeft : (n : ℕ) (x : Made) → Wanted
  Prefix : Wanted
  Prim : Wanted
  Closing : (x : Made) → Wanted
  Done : (x : Made) → Wanted
  SomeLabels : Wanted
  SomeCells : Wanted
  AfterCell : (x : Made) → Wanted
  SomeBytes : Wanted
  OneItem : Wanted
  BitsNumber : Wanted
  BitsOpen : (bits : ℕ) → Wanted
  CellsEnd : (bits : ℕ) (cs : List RawCell) → Wanted
  BytesEnd : (cs : List RawCell) → Wanted
  OneValue : Wanted
  AfterComponentLabels : (ls : List (List ℕ)) → Wanted
  BehindItem : (ls : List (List ℕ)) (i : RawItem) → Wanted
  AfterComponent : (c : RawComponent) → Wanted
  SomeMembers : Wanted
  AfterMemberLabels : (ls : List (List ℕ)) → Wanted
  More : (ps : List RawPlace) → Wanted
  AfterName : (ls : List (List ℕ)) (b : List ℕ) → Wanted
  DeletedProperty : (ls : List (List ℕ)) → Wanted
  DeletedChild : (ls : List (List ℕ)) → Wanted
  BlockOpen : (ps : List RawPlace) → Wanted
  BlockClose : (ps : List RawPlace) → Wanted
  Ending : (ps : List RawPlace) → Wanted
  OneStatement : (ls : List (List ℕ)) → Wanted
  DeletedNode : Wanted
  SomeStatements : Wanted
  StatementThen : (ls : List (List ℕ)) → Wanted
  MoreStatements : (ps : List RawPlace) → Wanted
  Top : Wanted
  AfterTopLabels : (ls : List (List ℕ)) → Wanted
  AfterAddress : (ls : List (List ℕ)) (x : Made) → Wanted
  ReserveEnd : (r : RawReserve) → Wanted
  Whole : Wanted
  AfterVersion : Wanted
  AfterHeader : Wanted
  PluginEnd : Wanted
  MoreHeaders : (plugin : Bool) → Wanted
  NextVersion : (plugin : Bool) → Wanted
  NextHeader : (plugin : Bool) → Wanted

-- what the next token makes of it: it is complete, or it can't be, or a part is wanted first.
-- taken says whether the token is used up
pub data Move : Type 0 where
  give : (taken : Bool) (made : Made) → Move
  refuse : Move
  want : (taken : Bool) (part : Wanted) (whole : Made → Wanted) → Move

abbrev pub kind_at : Option Word → Option TokenKind
kind_at None = None
kind_at (Some w) = Some w.kind

abbrev pub bytes_at : Option Word → List ℕ
bytes_at None = []
bytes_at (Some w) = w.bytes

abbrev pub unary_at : Option Word → Option Unary
unary_at None = None
unary_at (Some w) = unary_of w.kind

abbrev pub binary_at : Option Word → Option Binary
binary_at None = None
binary_at (Some w) = binary_of w.kind
