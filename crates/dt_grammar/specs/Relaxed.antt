-- Sources that aren't checked: a body's properties and children stand in any order and in any depth, names, labels and
-- references are any words of their kind, references stand in cells of any size, and expressions are of any length and have
-- any value or none. The tokens of a source that is one otherwise are these, and the place of a syntax fault is by these.
use Rattle.std.specs.Prelude.{◌≡◌, ℕ, ◌==◌, ◌||◌, Bool, true, List, [], ◌∷◌, ◌++◌, length, map}
use Rattle.dt_lex.specs.declared.token.TokenKind.{TokenKind}
use Rattle.dt_lex.specs.declared.token.TokenKind.TheVariants as kind
use Rattle.dt_lex.specs.declared.token.Mark.{Mark}
use Rattle.dt_lex.specs.declared.token.Mark.TheVariants as mark
use Rattle.dt_lex.specs.declared.token.Keyword.{Keyword}
use Rattle.dt_lex.specs.declared.token.Keyword.TheVariants as keyword
use Rattle.dt_expr.specs.Expression.{Expression}
use Rattle.dt_grammar.specs.Words.{Word, Words}
use Rattle.dt_grammar.specs.Grammar.{SpellsExpression, primary, SpellsHeaders}
use Rattle.dt_grammar.specs.Unchecked.{Target, a_label, a_path, RawCell, label_cell, number_cell, reference_cell, byte_cell, RawItem, cell_item, text_item, byte_item, path_item, RawComponent, RawPlace, raw_root, raw_block, raw_delete_node, raw_child, raw_label, raw_property, raw_delete_property, raw_delete_child, raw_close, RawReserve, RawSource}

abbrev pub word : TokenKind → List ℕ → Word
word k bytes = record { kind = k; bytes = bytes }

abbrev pub a_mark : Mark → List ℕ → Word
a_mark m bytes = record { kind = kind.Mark m; bytes = bytes }

abbrev pub a_keyword : Keyword → List ℕ → Word
a_keyword k bytes = record { kind = kind.Keyword k; bytes = bytes }

abbrev pub reference_kind : Target → TokenKind
reference_kind a_label = kind.LabelReference
reference_kind a_path = kind.PathReference

abbrev pub a_reference : Target → List ℕ → Word
a_reference target bytes = record { kind = reference_kind target; bytes = bytes }

abbrev pub is_width : ℕ → Bool
is_width bits = (bits == 8) || (bits == 16) || (bits == 32) || (bits == 64)

-- {Label}
pub data Labels : Words → List (List ℕ) → Type 0 where
  no_more_labels : Labels [] []
  another_label : (b : List ℕ) (ws : Words) (ls : List (List ℕ)) → Labels ws ls → Labels (word kind.Label b ∷ ws) (b ∷ ls)

-- { Label | prim | Ref }
pub data Cells : Words → List RawCell → Type 0 where
  no_more_cells : Cells [] []
  a_label_cell : (b : List ℕ) (ws : Words) (cs : List RawCell) → Cells ws cs → Cells (word kind.Label b ∷ ws) (label_cell b ∷ cs)
  a_number_cell : (us ws : Words) (e : Expression) (cs : List RawCell) → SpellsExpression primary us e → Cells ws cs → Cells (us ++ ws) (number_cell (length us) e ∷ cs)
  a_reference_cell : (t : Target) (b : List ℕ) (ws : Words) (cs : List RawCell) → Cells ws cs → Cells (a_reference t b ∷ ws) (reference_cell t b ∷ cs)

-- { Label | Byte }
pub data Bytes : Words → List RawCell → Type 0 where
  no_more_bytes : Bytes [] []
  a_label_byte : (b : List ℕ) (ws : Words) (cs : List RawCell) → Bytes ws cs → Bytes (word kind.Label b ∷ ws) (label_cell b ∷ cs)
  another_byte : (n : ℕ) (b : List ℕ) (ws : Words) (cs : List RawCell) → Bytes ws cs → Bytes (word (kind.Byte n) b ∷ ws) (byte_cell n ∷ cs)

-- cells | Text | bytes | Ref
pub data Item : Words → RawItem → Type 0 where
  plain_cells : (a z : List ℕ) (ws : Words) (cs : List RawCell) → Cells ws cs →
      Item (a_mark mark.Less a ∷ (ws ++ a_mark mark.Greater z ∷ [])) (cell_item 32 cs)
  sized_cells : (k i a z : List ℕ) (bits : ℕ) (ws : Words) (cs : List RawCell) → is_width bits ≡ true → Cells ws cs →
      Item (a_keyword keyword.Bits k ∷ word (kind.Integer bits) i ∷ a_mark mark.Less a ∷ (ws ++ a_mark mark.Greater z ∷ [])) (cell_item bits cs)
  a_text : (b : List ℕ) → Item (word kind.Text b ∷ []) (text_item b)
  some_bytes : (a z : List ℕ) (ws : Words) (cs : List RawCell) → Bytes ws cs →
      Item (a_mark mark.OpenBracket a ∷ (ws ++ a_mark mark.CloseBracket z ∷ [])) (byte_item cs)
  a_path_text : (t : Target) (b : List ℕ) → Item (a_reference t b ∷ []) (path_item t b)

-- component { "," component }
pub data Value : Words → List RawComponent → Type 0 where
  last_component : (us vs ws : Words) (ls ms : List (List ℕ)) (i : RawItem) → Labels us ls → Item vs i → Labels ws ms →
      Value (us ++ (vs ++ ws)) (record { before = ls; item = i; behind = ms } ∷ [])
  more_components : (us vs ws xs : Words) (b : List ℕ) (ls ms : List (List ℕ)) (i : RawItem) (others : List RawComponent) →
      Labels us ls → Item vs i → Labels ws ms → Value xs others →
      Value (us ++ (vs ++ (ws ++ a_mark mark.Comma b ∷ xs))) (record { before = ls; item = i; behind = ms } ∷ others)

-- properties, children and deletions of both, in any order
pub data Members : Words → List RawPlace → Type 0 where
  no_more_members : Members [] []
  a_flag : (us ws : Words) (n s : List ℕ) (ls : List (List ℕ)) (ps : List RawPlace) → Labels us ls → Members ws ps →
      Members (us ++ word kind.Name n ∷ a_mark mark.Semicolon s ∷ ws) (raw_property ls n [] ∷ ps)
  a_property : (us vs ws : Words) (n e s : List ℕ) (ls : List (List ℕ)) (v : List RawComponent) (ps : List RawPlace) → Labels us ls → Value vs v → Members ws ps →
      Members (us ++ word kind.Name n ∷ a_mark mark.Equals e ∷ (vs ++ a_mark mark.Semicolon s ∷ ws)) (raw_property ls n v ∷ ps)
  a_deleted_property : (us ws : Words) (k n s : List ℕ) (ls : List (List ℕ)) (ps : List RawPlace) → Labels us ls → Members ws ps →
      Members (us ++ a_keyword keyword.DeleteProperty k ∷ word kind.Name n ∷ a_mark mark.Semicolon s ∷ ws) (raw_delete_property ls n ∷ ps)
  a_child : (us vs ws : Words) (n a z s : List ℕ) (ls : List (List ℕ)) (cs ps : List RawPlace) → Labels us ls → Members vs cs → Members ws ps →
      Members (us ++ word kind.Name n ∷ a_mark mark.OpenBrace a ∷ (vs ++ a_mark mark.CloseBrace z ∷ a_mark mark.Semicolon s ∷ ws))
      (raw_child n ∷ (map raw_label ls ++ (cs ++ raw_close ∷ ps)))
  a_deleted_child : (us ws : Words) (k n s : List ℕ) (ls : List (List ℕ)) (ps : List RawPlace) → Labels us ls → Members ws ps →
      Members (us ++ a_keyword keyword.DeleteNode k ∷ word kind.Name n ∷ a_mark mark.Semicolon s ∷ ws) (raw_delete_child ls n ∷ ps)

-- a statement without the labels before it
pub data Statement : List (List ℕ) → Words → List RawPlace → Type 0 where
  a_root_block : (c a z s : List ℕ) (ws : Words) (cs : List RawPlace) → Members ws cs →
      Statement [] (a_mark mark.Slash c ∷ a_mark mark.OpenBrace a ∷ (ws ++ a_mark mark.CloseBrace z ∷ a_mark mark.Semicolon s ∷ []))
      (raw_root ∷ (cs ++ raw_close ∷ []))
  a_node_block : (ls : List (List ℕ)) (t : Target) (b a z s : List ℕ) (ws : Words) (cs : List RawPlace) → Members ws cs →
      Statement ls (a_reference t b ∷ a_mark mark.OpenBrace a ∷ (ws ++ a_mark mark.CloseBrace z ∷ a_mark mark.Semicolon s ∷ []))
      (raw_block t b ∷ (map raw_label ls ++ (cs ++ raw_close ∷ [])))
  a_deleted_node : (t : Target) (k b s : List ℕ) →
      Statement [] (a_keyword keyword.DeleteNode k ∷ a_reference t b ∷ a_mark mark.Semicolon s ∷ []) (raw_delete_node t b ∷ [])

-- statement {statement}
pub data Statements : Words → List RawPlace → Type 0 where
  only_statement : (us vs : Words) (ls : List (List ℕ)) (ps : List RawPlace) → Labels us ls → Statement ls vs ps → Statements (us ++ vs) ps
  first_statement : (us vs ws : Words) (ls : List (List ℕ)) (ps others : List RawPlace) → Labels us ls → Statement ls vs ps → Statements ws others →
      Statements (us ++ (vs ++ ws)) (ps ++ others)

-- {reserve} statement {statement}
pub data Behind : Words → List RawReserve → List RawPlace → Type 0 where
  no_more_reserves : (ws : Words) (ps : List RawPlace) → Statements ws ps → Behind ws [] ps
  another_reserve : (us vs ws xs : Words) (k s : List ℕ) (ls : List (List ℕ)) (d e : Expression) (rs : List RawReserve) (ps : List RawPlace) →
      Labels us ls → SpellsExpression primary vs d → SpellsExpression primary ws e → Behind xs rs ps →
      Behind (us ++ a_keyword keyword.Memreserve k ∷ (vs ++ (ws ++ a_mark mark.Semicolon s ∷ xs)))
      (record { labels = ls; address_size = length vs; address = d; length_size = length ws; length = e } ∷ rs) ps

-- header {header} {reserve} statement {statement}
pub record RelaxedSource (ws : Words) (s : RawSource) : Type 0 where
  pub headers : Words
  pub others : Words
  pub together : ws ≡ headers ++ others
  pub spelled_headers : SpellsHeaders s.plugin headers
  pub behind : Behind others s.reserves s.places
