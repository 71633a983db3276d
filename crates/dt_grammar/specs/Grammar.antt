-- The grammar of devicetree source, DTS version 1 (Devicetree Specification v0.4, chapter 6): which tokens are a source, and
-- what its places are.
use Rattle.std.specs.Prelude.{◌≡◌, ℕ, suc, ◌<◌, ◌≤◌, Bool, true, false, List, [], ◌∷◌, ◌++◌, length, map, Some}
use Rattle.std.specs.Int.{w8, w16, w32, w64, to_be_bytes, Width}
use Rattle.dt_model.specs.Limits.{most_bodies, most_tokens}
use Rattle.dt_model.specs.Names.{Name}
use Rattle.dt_model.specs.Valid.{IsReservation}
use Rattle.dt_model.specs.Source.{Reference, Part, one, number_of, text_of, Place, root, block, delete_node, child, label, property, delete_property, delete_child, close}
use Rattle.dt_lex.specs.declared.token.TokenKind.TheVariants as kind
use Rattle.dt_lex.specs.declared.token.Mark.TheVariants as mark
use Rattle.dt_lex.specs.declared.token.Keyword.TheVariants as keyword
use Rattle.dt_lex.specs.Texts.{text_bytes}
use Rattle.dt_expr.specs.Expression.{Expression, number, one_operand, two_operands, conditional, value}
use Rattle.dt_expr.specs.Fits.{Fits, element}
use Rattle.dt_grammar.specs.Words.{Word, Words, IsMark, IsKeyword, IsLabelWord, IsNodeWord, IsPropertyWord, IsReferenceWord, unary_of, binary_of, level_of}

-- {Label}
pub data SpellsLabels : Words → List Name → Type 0 where
  no_labels : SpellsLabels [] []
  one_label : (w : Word) (ws : Words) (l : Name) (ls : List Name) → IsLabelWord w l → SpellsLabels ws ls → SpellsLabels (w ∷ ws) (l ∷ ls)

-- ---- expressions

-- a number or a group; with prefixes; with binary operators of a level and tighter ones; with `? :`
pub data Class : Type 0 where
  primary : Class
  prefixed : Class
  joined : ℕ → Class
  whole : Class

pub data SpellsExpression : Class → Words → Expression → Type 0 where
  integer : (w : Word) (n : ℕ) → w.kind ≡ kind.Integer n → SpellsExpression primary (w ∷ []) (number n)
  character : (w : Word) (n : ℕ) → w.kind ≡ kind.Character n → SpellsExpression primary (w ∷ []) (number n)
  group : (opening closing : Word) (ws : Words) (e : Expression) → IsMark mark.OpenParenthesis opening → IsMark mark.CloseParenthesis closing →
      SpellsExpression whole ws e → SpellsExpression primary (opening ∷ (ws ++ closing ∷ [])) e
  no_prefix : (ws : Words) (e : Expression) → SpellsExpression primary ws e → SpellsExpression prefixed ws e
  with_prefix : (w : Word) (ws : Words) (e : Expression) (op : _) → unary_of w.kind ≡ Some op → SpellsExpression prefixed ws e →
      SpellsExpression prefixed (w ∷ ws) (one_operand op e)
  tightest : (ws : Words) (e : Expression) → SpellsExpression prefixed ws e → SpellsExpression (joined 0) ws e
  tighter : (n : ℕ) (ws : Words) (e : Expression) → SpellsExpression (joined n) ws e → SpellsExpression (joined (suc n)) ws e
  -- operators of one level are joined from the left
  joins : (n : ℕ) (w : Word) (us vs : Words) (x y : Expression) (op : _) → binary_of w.kind ≡ Some op → level_of op ≡ suc n →
      SpellsExpression (joined (suc n)) us x → SpellsExpression (joined n) vs y → SpellsExpression (joined (suc n)) (us ++ w ∷ vs) (two_operands op x y)
  no_condition : (ws : Words) (e : Expression) → SpellsExpression (joined 10) ws e → SpellsExpression whole ws e
  -- `? :` is joined from the right
  with_condition : (question colon : Word) (us vs ws : Words) (c x y : Expression) → IsMark mark.Question question → IsMark mark.Colon colon →
      SpellsExpression (joined 10) us c → SpellsExpression whole vs x → SpellsExpression whole ws y →
      SpellsExpression whole (us ++ question ∷ (vs ++ colon ∷ ws)) (conditional c x y)

-- an integer, a character or an expression in parentheses, of at most 1,024 tokens, and its value
pub record SpellsNumber (ws : Words) (n : ℕ) : Type 0 where
  pub expression : Expression
  pub spelled : SpellsExpression primary ws expression
  pub few : length ws ≤ most_tokens
  pub evaluated : value expression ≡ Some n

-- ---- values of properties

-- the widths of elements of cell lists
pub data IsWidth : ℕ → Width → Type 0 where
  bits_8 : IsWidth 8 w8
  bits_16 : IsWidth 16 w16
  bits_32 : IsWidth 32 w32
  bits_64 : IsWidth 64 w64

-- { Label | prim | Ref } between `<` and `>`, in elements of so many bits; references only where they are cells
pub data SpellsCells (bits : ℕ) (width : Width) : Words → List Part → Type 0 where
  no_cells : SpellsCells bits width [] []
  cell_label : (w : Word) (ws : Words) (l : Name) (parts : List Part) → IsLabelWord w l → SpellsCells bits width ws parts → SpellsCells bits width (w ∷ ws) parts
  cell_number : (us ws : Words) (n : ℕ) (parts : List Part) → SpellsNumber us n → Fits bits n → SpellsCells bits width ws parts →
      SpellsCells bits width (us ++ ws) (map one (to_be_bytes width (element bits n)) ++ parts)
  cell_reference : (w : Word) (ws : Words) (r : Reference) (parts : List Part) → bits ≡ 32 → IsReferenceWord w r → SpellsCells bits width ws parts →
      SpellsCells bits width (w ∷ ws) (number_of r ∷ parts)

-- { Label | Byte } between `[` and `]`
pub data SpellsBytes : Words → List Part → Type 0 where
  no_bytes : SpellsBytes [] []
  byte_label : (w : Word) (ws : Words) (l : Name) (parts : List Part) → IsLabelWord w l → SpellsBytes ws parts → SpellsBytes (w ∷ ws) parts
  one_byte : (w : Word) (ws : Words) (b : ℕ) (parts : List Part) → w.kind ≡ kind.Byte b → SpellsBytes ws parts → SpellsBytes (w ∷ ws) (one b ∷ parts)

-- [ "/bits/" Integer ]
pub data SpellsBits : Words → ℕ → Width → Type 0 where
  no_bits : SpellsBits [] 32 w32
  some_bits : (w v : Word) (bits : ℕ) (width : Width) → IsKeyword keyword.Bits w → v.kind ≡ kind.Integer bits → IsWidth bits width →
      SpellsBits (w ∷ v ∷ []) bits width

-- cells | Text | bytes | Ref
pub data SpellsItem : Words → List Part → Type 0 where
  cells : (us ws : Words) (opening closing : Word) (bits : ℕ) (width : Width) (parts : List Part) → SpellsBits us bits width →
      IsMark mark.Less opening → IsMark mark.Greater closing → SpellsCells bits width ws parts →
      SpellsItem (us ++ opening ∷ (ws ++ closing ∷ [])) parts
  string : (w : Word) → w.kind ≡ kind.Text → SpellsItem (w ∷ []) (map one (text_bytes w.bytes ++ 0 ∷ []))
  bytes : (ws : Words) (opening closing : Word) (parts : List Part) → IsMark mark.OpenBracket opening → IsMark mark.CloseBracket closing →
      SpellsBytes ws parts → SpellsItem (opening ∷ (ws ++ closing ∷ [])) parts
  path : (w : Word) (r : Reference) → IsReferenceWord w r → SpellsItem (w ∷ []) (text_of r ∷ [])

-- an item with labels before and behind it, which say nothing
pub record SpellsComponent (ws : Words) (parts : List Part) : Type 0 where
  pub before : Words
  pub item : Words
  pub behind : Words
  pub labels_before : List Name
  pub labels_behind : List Name
  pub together : ws ≡ before ++ (item ++ behind)
  pub spelled_before : SpellsLabels before labels_before
  pub spelled : SpellsItem item parts
  pub spelled_behind : SpellsLabels behind labels_behind

-- component { "," component }
pub data SpellsValue : Words → List Part → Type 0 where
  last : (ws : Words) (parts : List Part) → SpellsComponent ws parts → SpellsValue ws parts
  more : (us ws : Words) (comma : Word) (parts others : List Part) → SpellsComponent us parts → IsMark mark.Comma comma → SpellsValue ws others →
      SpellsValue (us ++ comma ∷ ws) (parts ++ others)

-- [ "=" value ]
pub data SpellsAssigned : Words → List Part → Type 0 where
  empty : SpellsAssigned [] []
  assigned : (equals : Word) (ws : Words) (parts : List Part) → IsMark mark.Equals equals → SpellsValue ws parts → SpellsAssigned (equals ∷ ws) parts

-- ---- bodies

-- {prop}: definitions and deletions of properties; labels before them say nothing
pub data SpellsProperties : Words → List Place → Type 0 where
  no_properties : SpellsProperties [] []
  defined : (us vs ws : Words) (w semicolon : Word) (n : Name) (ls : List Name) (parts : List Part) (places : List Place) →
      SpellsLabels us ls → IsPropertyWord w n → SpellsAssigned vs parts → IsMark mark.Semicolon semicolon → SpellsProperties ws places →
      SpellsProperties (us ++ w ∷ (vs ++ semicolon ∷ ws)) (property n parts ∷ places)
  deleted : (us ws : Words) (k w semicolon : Word) (n : Name) (ls : List Name) (places : List Place) →
      SpellsLabels us ls → IsKeyword keyword.DeleteProperty k → IsPropertyWord w n → IsMark mark.Semicolon semicolon → SpellsProperties ws places →
      SpellsProperties (us ++ k ∷ w ∷ semicolon ∷ ws) (delete_property n ∷ places)

-- {child}: children, inside so many bodies, 65 at most, and deletions of children; a child's labels are given to it
pub data SpellsChildren : ℕ → Words → List Place → Type 0 where
  no_children : (around : ℕ) → SpellsChildren around [] []
  opened : (around : ℕ) (us properties children ws : Words) (w opening closing semicolon : Word) (n : Name) (ls : List Name) (ps cs places : List Place) →
      SpellsLabels us ls → IsNodeWord w n → IsMark mark.OpenBrace opening → around < most_bodies → SpellsProperties properties ps →
      SpellsChildren (suc around) children cs → IsMark mark.CloseBrace closing → IsMark mark.Semicolon semicolon → SpellsChildren around ws places →
      SpellsChildren around (us ++ w ∷ opening ∷ (properties ++ (children ++ closing ∷ semicolon ∷ ws)))
      (child n ∷ (map label ls ++ (ps ++ (cs ++ close ∷ places))))
  removed : (around : ℕ) (us ws : Words) (k w semicolon : Word) (n : Name) (ls : List Name) (places : List Place) →
      SpellsLabels us ls → IsKeyword keyword.DeleteNode k → IsNodeWord w n → IsMark mark.Semicolon semicolon → SpellsChildren around ws places →
      SpellsChildren around (us ++ k ∷ w ∷ semicolon ∷ ws) (delete_child n ∷ places)

-- "{" {prop} {child} "}" ";", inside no other body
pub record SpellsBody (ws : Words) (places : List Place) : Type 0 where
  pub properties : Words
  pub children : Words
  pub opening : Word
  pub closing : Word
  pub semicolon : Word
  pub ps : List Place
  pub cs : List Place
  pub together : ws ≡ opening ∷ (properties ++ (children ++ closing ∷ semicolon ∷ []))
  pub opened_by : IsMark mark.OpenBrace opening
  pub spelled_properties : SpellsProperties properties ps
  pub spelled_children : SpellsChildren 1 children cs
  pub closed_by : IsMark mark.CloseBrace closing
  pub ended_by : IsMark mark.Semicolon semicolon
  pub says : places ≡ ps ++ (cs ++ close ∷ [])

-- ---- statements

pub data SpellsStatement : Words → List Place → Type 0 where
  root_block : (slash : Word) (ws : Words) (places : List Place) → IsMark mark.Slash slash → SpellsBody ws places → SpellsStatement (slash ∷ ws) (root ∷ places)
  node_block : (us ws : Words) (w : Word) (r : Reference) (ls : List Name) (places : List Place) →
      SpellsLabels us ls → IsReferenceWord w r → SpellsBody ws places → SpellsStatement (us ++ w ∷ ws) (block r ∷ (map label ls ++ places))
  node_deleted : (k w semicolon : Word) (r : Reference) → IsKeyword keyword.DeleteNode k → IsReferenceWord w r → IsMark mark.Semicolon semicolon →
      SpellsStatement (k ∷ w ∷ semicolon ∷ []) (delete_node r ∷ [])

-- statement {statement}
pub data SpellsStatements : Words → List Place → Type 0 where
  last_statement : (ws : Words) (places : List Place) → SpellsStatement ws places → SpellsStatements ws places
  more_statements : (us ws : Words) (places others : List Place) → SpellsStatement us places → SpellsStatements ws others →
      SpellsStatements (us ++ ws) (places ++ others)

-- {reserve}: memory that is not to be used; labels before one say nothing
pub data SpellsReservations : Words → List (ℕ × ℕ) → Type 0 where
  no_reservations : SpellsReservations [] []
  reserved : (us vs ws xs : Words) (k semicolon : Word) (ls : List Name) (address size : ℕ) (others : List (ℕ × ℕ)) →
      SpellsLabels us ls → IsKeyword keyword.Memreserve k → SpellsNumber vs address → SpellsNumber ws size → IsMark mark.Semicolon semicolon →
      IsReservation (address, size) → SpellsReservations xs others →
      SpellsReservations (us ++ k ∷ (vs ++ (ws ++ semicolon ∷ xs))) ((address, size) ∷ others)

-- header {header}: `/dts-v1/;`, and `/plugin/;` after each of them or after none
pub data SpellsHeaders : Bool → Words → Type 0 where
  base_header : (k semicolon : Word) → IsKeyword keyword.Version k → IsMark mark.Semicolon semicolon → SpellsHeaders false (k ∷ semicolon ∷ [])
  plugin_header : (k s p t : Word) → IsKeyword keyword.Version k → IsMark mark.Semicolon s → IsKeyword keyword.Plugin p → IsMark mark.Semicolon t →
      SpellsHeaders true (k ∷ s ∷ p ∷ t ∷ [])
  more_headers : (plugin : Bool) (us ws : Words) → SpellsHeaders plugin us → SpellsHeaders plugin ws → SpellsHeaders plugin (us ++ ws)

-- what a source says: whether it is an overlay's, its reservations, and its places in order
pub record Says : Type 0 where
  pub plugin : Bool
  pub reservations : List (ℕ × ℕ)
  pub places : List Place

-- header {header} {reserve} statement {statement}
pub record SpellsSource (ws : Words) (s : Says) : Type 0 where
  pub headers : Words
  pub reserves : Words
  pub statements : Words
  pub together : ws ≡ headers ++ (reserves ++ statements)
  pub spelled_headers : SpellsHeaders s.plugin headers
  pub spelled_reservations : SpellsReservations reserves s.reservations
  pub spelled_statements : SpellsStatements statements s.places
