-- What a statement begins with.
use Rattle.std.specs.Prelude.{ℕ, List, [], ◌++◌, Option, Some}
use Rattle.std.specs.List.{AllByRecursion}
use Rattle.dt_names.specs.declared.fault.FaultKind.{FaultKind}
use Rattle.dt_lex.specs.declared.token.TokenKind.{TokenKind}
use Rattle.dt_lex.specs.declared.token.TokenKind.TheVariants as kind
use Rattle.dt_lex.specs.declared.token.Mark.TheVariants as mark
use Rattle.dt_lex.specs.declared.token.Keyword.TheVariants as keyword
use Rattle.dt_grammar.specs.Words.{Words}
use Rattle.dt_grammar.specs.Unchecked.{RawPlace}
use Rattle.dt_grammar.specs.Strict.{IsSoundPlace, IsOrdered}
use Rattle.dt_grammar.specs.Wanted.{StatementThen, made_places}
use Rattle.dt_grammar.specs.Descent.{found, Descends}
use Rattle.dt_grammar.specs.Faults.{outside, Breaks}
use Rattle.dt_parse.specs.declared.statement.Start.{Start}
use Rattle.dt_parse.specs.declared.statement.Start.TheVariants as start

-- behind its labels
abbrev pub start_of : Option TokenKind → Start
start_of (Some (kind.Mark mark.Slash)) = start.Root
start_of (Some (kind.Keyword keyword.DeleteNode)) = start.Deletion
start_of (Some kind.LabelReference) = start.Node
start_of (Some kind.PathReference) = start.Node
start_of _ = start.Other

-- Statements are read: where others are read from here to the end of the text, behind these labels, they are read from the
-- front behind those, with the places so far; and where those break, these do.
pub record StatementsFollow (ls : List (List ℕ)) (ws : Words) (ps : List RawPlace) (ms : List (List ℕ)) (here : Words) : Type 0 where
  pub reads : (qs : List RawPlace) → Descends (StatementThen ms) here (found (made_places qs) []) → Descends (StatementThen ls) ws (found (made_places (ps ++ qs)) [])
  pub breaks : (k : FaultKind) (left : Words) → Breaks outside (StatementThen ms) here k left → Breaks outside (StatementThen ls) ws k left
  pub sound : AllByRecursion IsSoundPlace ps
  pub ordered : (qs : List RawPlace) → IsOrdered [] qs → IsOrdered [] (ps ++ qs)
