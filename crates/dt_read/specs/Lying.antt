-- Where bytes lie in others.
use Rattle.std.specs.Prelude.{◌≡◌, ℕ, ◌+◌, ◌-◌, ◌≤◌, List, length, drop}
use Rattle.dt_model.specs.Checks.{number, strings_of, structure_of}
use Rattle.dt_model.specs.Names.{Name}
use Rattle.dt_model.specs.Tree.{value_in, value_of}
use Rattle.dt_model.specs.Format.{Token, part}
use Rattle.dt_read.specs.Checked.{placed_of}
use Rattle.dt_trees.specs.Placed.{last_name, path_at, properties_at, reading_of}
use Rattle.dt_read.specs.TreeTokens.{Parts, AreTokens, BeginsNode, marks_in}
use Rattle.dt_read.specs.declared.spans.Span.{Span}
use Rattle.dt_read.specs.Marks.{Takes}

-- these bytes are those of a span of others
pub record Lies (bytes : List ℕ) (span : Span) (own : List ℕ) : Type 0 where
  pub inside : span.at + span.len ≤ length bytes
  pub is : part span.at span.len bytes ≡ own

-- the same where the others begin at an offset
pub record LiesIn (at : ℕ) (bytes : List ℕ) (span : Span) (own : List ℕ) : Type 0 where
  pub from : at ≤ span.at
  pub inside : span.at + span.len ≤ at + length bytes
  pub is : part (span.at - at) span.len bytes ≡ own

-- of bytes that begin at an offset, these begin at a later one
pub record IsLater (at : ℕ) (bytes : List ℕ) (here : ℕ) (left : List ℕ) : Type 0 where
  pub from : at ≤ here
  pub within : here - at ≤ length bytes
  pub is : left ≡ drop (here - at) bytes

-- of bytes that begin at an offset, a token begins at another, and the rest follows it at the next
pub record TokenLies (strings : List ℕ) (at : ℕ) (bytes : List ℕ) (here : ℕ) (token : Token) (next : ℕ) (rest : List ℕ) : Type 0 where
  pub own : List ℕ
  pub later : IsLater at bytes here own
  pub size : ℕ
  pub takes : Takes strings own token size
  pub behind : next ≡ here + size
  pub left : rest ≡ drop size own

-- the tokens of a blob from a node on, which are what the tree has there
pub record IsFromNode (bytes : List ℕ) (node : ℕ) (strings left : List ℕ) : Type 0 where
  pub parts : Parts
  pub tokens : AreTokens strings node left
  pub begins : BeginsNode (marks_in strings node left) node parts
  pub inside : node + length left ≤ length bytes
  pub front : left ≡ part node (length left) bytes
  pub block : left ≡ drop (node - number bytes 8) (structure_of bytes)
  pub names : strings ≡ strings_of bytes
  pub names_inside : number bytes 12 + number bytes 32 ≤ length bytes
  pub name : last_name (path_at (placed_of bytes) node) ≡ parts.name
  pub properties : properties_at (placed_of bytes) (path_at (placed_of bytes) node) ≡ parts.properties
  pub value : (x : Name) → value_in (reading_of (placed_of bytes)) (path_at (placed_of bytes) node) x ≡ value_of parts.properties x
