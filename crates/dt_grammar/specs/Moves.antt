-- What the next token makes of what is wanted, by its kind.
use Rattle.std.specs.Prelude.{ℕ, suc, ◌+◌, Bool, true, false, List, [], ◌∷◌, ◌++◌, map, Option, Some, None, nat_eq, if◌then◌else◌}
use Rattle.dt_lex.specs.declared.token.TokenKind.{TokenKind}
use Rattle.dt_lex.specs.declared.token.TokenKind.TheVariants as kind
use Rattle.dt_lex.specs.declared.token.Mark.TheVariants as mark
use Rattle.dt_lex.specs.declared.token.Keyword.TheVariants as keyword
use Rattle.dt_expr.specs.declared.step.Unary.{Unary}
use Rattle.dt_expr.specs.declared.step.Binary.{Binary}
use Rattle.dt_expr.specs.Expression.{number, one_operand, two_operands, conditional}
use Rattle.dt_grammar.specs.Words.{level_of}
use Rattle.dt_grammar.specs.Unchecked.{a_label, a_path, RawCell, label_cell, reference_cell, byte_cell, RawItem, cell_item, text_item, byte_item, path_item, RawComponent, RawPlace, raw_root, raw_block, raw_delete_node, raw_child, raw_label, raw_property, raw_delete_property, raw_delete_child, raw_close, RawReserve}
use Rattle.dt_grammar.specs.Relaxed.{is_width}
use Rattle.dt_grammar.specs.Wanted.{AfterAddress, AfterCell, AfterLeft, AfterName, AfterThis, Any, BitsNumber, BitsOpen, BlockClose, BlockOpen, BytesEnd, CellsEnd, Closing, DeletedChild, DeletedNode, DeletedProperty, Done, Ending, Level, Made, More, MoreHeaders, Move, NextVersion, OneValue, PluginEnd, Prefix, Prim, SomeBytes, SomeCells, SomeLabels, SomeMembers, SomeStatements, StatementThen, Top, Wanted, cells_in, expression_in, give, labels_in, made_behind, made_cells, made_expression, made_item, made_labels, made_places, made_source, made_value, places_in, refuse, reserves_in, size_in, components_in, want}

-- ---- expressions

abbrev pub with_one : Unary → Made → Made
with_one op x = made_expression (suc (size_in x)) (one_operand op (expression_in x))

abbrev pub with_two : Binary → Made → Made → Made
with_two op x y = made_expression (size_in x + suc (size_in y)) (two_operands op (expression_in x) (expression_in y))

abbrev pub with_three : Made → Made → Made → Made
with_three c x y = made_expression (size_in c + suc (size_in x + suc (size_in y))) (conditional (expression_in c) (expression_in x) (expression_in y))

abbrev pub at_operator : ℕ → Made → Option Binary → Move
at_operator n x None = give false x
at_operator n x (Some op) = if nat_eq (level_of op) (suc n) then want true (Level n) (λ y. AfterLeft n (with_two op x y)) else give false x

abbrev pub at_prefix : Option Unary → Move
at_prefix None = want false Prim Done
at_prefix (Some op) = want true Prefix (λ x. Done (with_one op x))

abbrev pub at_prim : Option TokenKind → Move
at_prim (Some (kind.Integer n)) = give true (made_expression 1 (number n))
at_prim (Some (kind.Character n)) = give true (made_expression 1 (number n))
at_prim (Some (kind.Mark mark.OpenParenthesis)) = want true Any Closing
at_prim _ = refuse

abbrev pub at_closing : Made → Option TokenKind → Move
at_closing x (Some (kind.Mark mark.CloseParenthesis)) = give true (made_expression (suc (size_in x + 1)) (expression_in x))
at_closing x _ = refuse

abbrev pub at_question : Made → Option TokenKind → Move
at_question c (Some (kind.Mark mark.Question)) = want true Any (AfterThis c)
at_question c _ = give false c

abbrev pub at_colon : Made → Made → Option TokenKind → Move
at_colon c x (Some (kind.Mark mark.Colon)) = want true Any (λ y. Done (with_three c x y))
at_colon c x _ = refuse

-- ---- values

abbrev pub at_labels : List ℕ → Option TokenKind → Move
at_labels b (Some kind.Label) = want true SomeLabels (λ x. Done (made_labels (b ∷ labels_in x)))
at_labels b _ = give false (made_labels [])

abbrev pub cell_first : RawCell → Made → Wanted
cell_first c x = Done (made_cells (c ∷ cells_in x))

abbrev pub at_cells : List ℕ → Option TokenKind → Move
at_cells b (Some kind.Label) = want true SomeCells (cell_first (label_cell b))
at_cells b (Some kind.LabelReference) = want true SomeCells (cell_first (reference_cell a_label b))
at_cells b (Some kind.PathReference) = want true SomeCells (cell_first (reference_cell a_path b))
at_cells b (Some (kind.Integer n)) = want false Prim AfterCell
at_cells b (Some (kind.Character n)) = want false Prim AfterCell
at_cells b (Some (kind.Mark mark.OpenParenthesis)) = want false Prim AfterCell
at_cells b _ = give false (made_cells [])

abbrev pub at_bytes : List ℕ → Option TokenKind → Move
at_bytes b (Some kind.Label) = want true SomeBytes (cell_first (label_cell b))
at_bytes b (Some (kind.Byte n)) = want true SomeBytes (cell_first (byte_cell n))
at_bytes b _ = give false (made_cells [])

abbrev pub at_item : List ℕ → Option TokenKind → Move
at_item b (Some (kind.Mark mark.Less)) = want true SomeCells (λ x. CellsEnd 32 (cells_in x))
at_item b (Some (kind.Keyword keyword.Bits)) = want true BitsNumber Done
at_item b (Some kind.Text) = give true (made_item (text_item b))
at_item b (Some (kind.Mark mark.OpenBracket)) = want true SomeBytes (λ x. BytesEnd (cells_in x))
at_item b (Some kind.LabelReference) = give true (made_item (path_item a_label b))
at_item b (Some kind.PathReference) = give true (made_item (path_item a_path b))
at_item b _ = refuse

-- the width of a cell list breaks as a token does
abbrev pub at_bits : Option TokenKind → Move
at_bits (Some (kind.Integer n)) = if is_width n then want true (BitsOpen n) Done else refuse
at_bits _ = refuse

abbrev pub at_bits_open : ℕ → Option TokenKind → Move
at_bits_open bits (Some (kind.Mark mark.Less)) = want true SomeCells (λ x. CellsEnd bits (cells_in x))
at_bits_open bits _ = refuse

abbrev pub at_cells_end : ℕ → List RawCell → Option TokenKind → Move
at_cells_end bits cs (Some (kind.Mark mark.Greater)) = give true (made_item (cell_item bits cs))
at_cells_end bits cs _ = refuse

abbrev pub at_bytes_end : List RawCell → Option TokenKind → Move
at_bytes_end cs (Some (kind.Mark mark.CloseBracket)) = give true (made_item (byte_item cs))
at_bytes_end cs _ = refuse

abbrev pub component_of : List (List ℕ) → RawItem → Made → RawComponent
component_of ls i x = record { before = ls; item = i; behind = labels_in x }

abbrev pub at_comma : RawComponent → Option TokenKind → Move
at_comma c (Some (kind.Mark mark.Comma)) = want true OneValue (λ x. Done (made_value (c ∷ components_in x)))
at_comma c _ = give false (made_value (c ∷ []))

-- ---- bodies

-- labels before a member must have one behind them
abbrev pub no_member : List (List ℕ) → Move
no_member [] = give false (made_places [])
no_member (l ∷ ls) = refuse

abbrev pub and_more : Made → Wanted
and_more x = More (places_in x)

abbrev pub at_member : List (List ℕ) → List ℕ → Option TokenKind → Move
at_member ls b (Some kind.Name) = want true (AfterName ls b) and_more
at_member ls b (Some (kind.Keyword keyword.DeleteProperty)) = want true (DeletedProperty ls) and_more
at_member ls b (Some (kind.Keyword keyword.DeleteNode)) = want true (DeletedChild ls) and_more
at_member ls b _ = no_member ls

abbrev pub at_name : List (List ℕ) → List ℕ → Option TokenKind → Move
at_name ls n (Some (kind.Mark mark.Semicolon)) = give true (made_places (raw_property ls n [] ∷ []))
at_name ls n (Some (kind.Mark mark.Equals)) = want true OneValue (λ x. Ending (raw_property ls n (components_in x) ∷ []))
at_name ls n (Some (kind.Mark mark.OpenBrace)) = want false (BlockOpen (raw_child n ∷ map raw_label ls)) Done
at_name ls n _ = refuse

abbrev pub at_deleted_property : List (List ℕ) → List ℕ → Option TokenKind → Move
at_deleted_property ls b (Some kind.Name) = want true (Ending (raw_delete_property ls b ∷ [])) Done
at_deleted_property ls b _ = refuse

abbrev pub at_deleted_child : List (List ℕ) → List ℕ → Option TokenKind → Move
at_deleted_child ls b (Some kind.Name) = want true (Ending (raw_delete_child ls b ∷ [])) Done
at_deleted_child ls b _ = refuse

abbrev pub at_block_open : List RawPlace → Option TokenKind → Move
at_block_open ps (Some (kind.Mark mark.OpenBrace)) = want true SomeMembers (λ x. BlockClose (ps ++ (places_in x ++ raw_close ∷ [])))
at_block_open ps _ = refuse

abbrev pub at_block_close : List RawPlace → Option TokenKind → Move
at_block_close ps (Some (kind.Mark mark.CloseBrace)) = want true (Ending ps) Done
at_block_close ps _ = refuse

abbrev pub at_ending : List RawPlace → Option TokenKind → Move
at_ending ps (Some (kind.Mark mark.Semicolon)) = give true (made_places ps)
at_ending ps _ = refuse

-- ---- statements

abbrev pub without_labels : List (List ℕ) → Move → Move
without_labels [] m = m
without_labels (l ∷ ls) m = refuse

abbrev pub at_statement : List (List ℕ) → List ℕ → Option TokenKind → Move
at_statement ls b (Some (kind.Mark mark.Slash)) = without_labels ls (want true (BlockOpen (raw_root ∷ [])) Done)
at_statement ls b (Some (kind.Keyword keyword.DeleteNode)) = without_labels ls (want true DeletedNode Done)
at_statement ls b (Some kind.LabelReference) = want true (BlockOpen (raw_block a_label b ∷ map raw_label ls)) Done
at_statement ls b (Some kind.PathReference) = want true (BlockOpen (raw_block a_path b ∷ map raw_label ls)) Done
at_statement ls b _ = refuse

abbrev pub at_deleted_node : List ℕ → Option TokenKind → Move
at_deleted_node b (Some kind.LabelReference) = want true (Ending (raw_delete_node a_label b ∷ [])) Done
at_deleted_node b (Some kind.PathReference) = want true (Ending (raw_delete_node a_path b ∷ [])) Done
at_deleted_node b _ = refuse

abbrev pub at_more_statements : List RawPlace → Option TokenKind → Move
at_more_statements ps None = give false (made_places ps)
at_more_statements ps (Some k) = want false SomeStatements (λ x. Done (made_places (ps ++ places_in x)))

abbrev pub at_top : List (List ℕ) → Option TokenKind → Move
at_top ls (Some (kind.Keyword keyword.Memreserve)) = want true Prim (AfterAddress ls)
at_top ls _ = want false (StatementThen ls) (λ x. Done (made_behind [] (places_in x)))

abbrev pub reserve_with : List (List ℕ) → Made → Made → RawReserve
reserve_with ls x y = record { labels = ls; address_size = size_in x; address = expression_in x; length_size = size_in y; length = expression_in y }

abbrev pub at_reserve_end : RawReserve → Option TokenKind → Move
at_reserve_end r (Some (kind.Mark mark.Semicolon)) = want true Top (λ x. Done (made_behind (r ∷ reserves_in x) (places_in x)))
at_reserve_end r _ = refuse

-- ---- headers: the first says whether `/plugin/;` follows each

abbrev pub at_version : Wanted → Option TokenKind → Move
at_version g (Some (kind.Keyword keyword.Version)) = want true g Done
at_version g _ = refuse

abbrev pub at_semicolon : Wanted → Option TokenKind → Move
at_semicolon g (Some (kind.Mark mark.Semicolon)) = want true g Done
at_semicolon g _ = refuse

abbrev pub at_first_plugin : Option TokenKind → Move
at_first_plugin (Some (kind.Keyword keyword.Plugin)) = want true PluginEnd Done
at_first_plugin _ = want false (MoreHeaders false) Done

abbrev pub at_next_plugin : Bool → Option TokenKind → Move
at_next_plugin false k = want false (MoreHeaders false) Done
at_next_plugin true (Some (kind.Keyword keyword.Plugin)) = want true PluginEnd Done
at_next_plugin true _ = refuse

abbrev pub source_with : Bool → Made → Made
source_with plugin x = made_source (record { plugin = plugin; reserves = reserves_in x; places = places_in x })

abbrev pub at_header : Bool → Option TokenKind → Move
at_header plugin (Some (kind.Keyword keyword.Version)) = want true (NextVersion plugin) Done
at_header plugin _ = want false Top (λ x. Done (source_with plugin x))
