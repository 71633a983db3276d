-- A descent with one token of look-ahead, over relaxed sources: what is wanted next, and what the next token makes of it.
-- Relaxed is all that is checked on what is made: that properties stand before children, how deep bodies stand, that names,
-- labels and references are ones, that references in cells are cells, how long an expression is and what value it has.
use Rattle.std.specs.Prelude.{zero, suc, Bool, true, false, [], ◌∷◌, ◌++◌, Option, Some, None}
use Rattle.dt_grammar.specs.Words.{Word, Words}
use Rattle.dt_grammar.specs.Unchecked.{number_cell}
use Rattle.dt_grammar.specs.Wanted.{AfterAddress, AfterCell, AfterComponent, AfterComponentLabels, AfterCondition, AfterHeader, AfterLeft, AfterMemberLabels, AfterName, AfterThis, AfterTopLabels, AfterVersion, Any, BehindItem, BitsNumber, BitsOpen, BlockClose, BlockOpen, BytesEnd, CellsEnd, Closing, DeletedChild, DeletedNode, DeletedProperty, Done, Ending, Level, Made, More, MoreHeaders, MoreStatements, Move, NextHeader, NextVersion, OneItem, OneStatement, OneValue, PluginEnd, Prefix, Prim, ReserveEnd, SomeBytes, SomeCells, SomeLabels, SomeMembers, SomeStatements, StatementThen, Top, Wanted, Whole, binary_at, bytes_at, expression_in, give, item_in, kind_at, labels_in, made_places, places_in, refuse, size_in, unary_at, want}
use Rattle.dt_grammar.specs.Moves.{at_bits, at_bits_open, at_block_close, at_block_open, at_bytes, at_bytes_end, at_cells, at_cells_end, at_closing, at_colon, at_comma, at_deleted_child, at_deleted_node, at_deleted_property, at_ending, at_first_plugin, at_header, at_item, at_labels, at_member, at_more_statements, at_name, at_next_plugin, at_operator, at_prefix, at_prim, at_question, at_reserve_end, at_semicolon, at_statement, at_top, at_version, cell_first, component_of, reserve_with}

abbrev pub move_at : Wanted → Option Word → Move
move_at Any w = want false (Level 10) AfterCondition
move_at (AfterCondition c) w = at_question c (kind_at w)
move_at (AfterThis c x) w = at_colon c x (kind_at w)
move_at (Level zero) w = want false Prefix Done
move_at (Level (suc n)) w = want false (Level n) (AfterLeft n)
move_at (AfterLeft n x) w = at_operator n x (binary_at w)
move_at Prefix w = at_prefix (unary_at w)
move_at Prim w = at_prim (kind_at w)
move_at (Closing x) w = at_closing x (kind_at w)
move_at (Done x) w = give false x
move_at SomeLabels w = at_labels (bytes_at w) (kind_at w)
move_at SomeCells w = at_cells (bytes_at w) (kind_at w)
move_at (AfterCell x) w = want false SomeCells (cell_first (number_cell (size_in x) (expression_in x)))
move_at SomeBytes w = at_bytes (bytes_at w) (kind_at w)
move_at OneItem w = at_item (bytes_at w) (kind_at w)
move_at BitsNumber w = at_bits (kind_at w)
move_at (BitsOpen bits) w = at_bits_open bits (kind_at w)
move_at (CellsEnd bits cs) w = at_cells_end bits cs (kind_at w)
move_at (BytesEnd cs) w = at_bytes_end cs (kind_at w)
move_at OneValue w = want false SomeLabels (λ x. AfterComponentLabels (labels_in x))
move_at (AfterComponentLabels ls) w = want false OneItem (λ x. BehindItem ls (item_in x))
move_at (BehindItem ls i) w = want false SomeLabels (λ x. AfterComponent (component_of ls i x))
move_at (AfterComponent c) w = at_comma c (kind_at w)
move_at SomeMembers w = want false SomeLabels (λ x. AfterMemberLabels (labels_in x))
move_at (AfterMemberLabels ls) w = at_member ls (bytes_at w) (kind_at w)
move_at (More ps) w = want false SomeMembers (λ x. Done (made_places (ps ++ places_in x)))
move_at (AfterName ls n) w = at_name ls n (kind_at w)
move_at (DeletedProperty ls) w = at_deleted_property ls (bytes_at w) (kind_at w)
move_at (DeletedChild ls) w = at_deleted_child ls (bytes_at w) (kind_at w)
move_at (BlockOpen ps) w = at_block_open ps (kind_at w)
move_at (BlockClose ps) w = at_block_close ps (kind_at w)
move_at (Ending ps) w = at_ending ps (kind_at w)
move_at (OneStatement ls) w = at_statement ls (bytes_at w) (kind_at w)
move_at DeletedNode w = at_deleted_node (bytes_at w) (kind_at w)
move_at SomeStatements w = want false SomeLabels (λ x. StatementThen (labels_in x))
move_at (StatementThen ls) w = want false (OneStatement ls) (λ x. MoreStatements (places_in x))
move_at (MoreStatements ps) w = at_more_statements ps (kind_at w)
move_at Top w = want false SomeLabels (λ x. AfterTopLabels (labels_in x))
move_at (AfterTopLabels ls) w = at_top ls (kind_at w)
move_at (AfterAddress ls x) w = want false Prim (λ y. ReserveEnd (reserve_with ls x y))
move_at (ReserveEnd r) w = at_reserve_end r (kind_at w)
move_at Whole w = at_version AfterVersion (kind_at w)
move_at AfterVersion w = at_semicolon AfterHeader (kind_at w)
move_at AfterHeader w = at_first_plugin (kind_at w)
move_at PluginEnd w = at_semicolon (MoreHeaders true) (kind_at w)
move_at (MoreHeaders plugin) w = at_header plugin (kind_at w)
move_at (NextVersion plugin) w = at_semicolon (NextHeader plugin) (kind_at w)
move_at (NextHeader plugin) w = at_next_plugin plugin (kind_at w)

abbrev pub first : Words → Option Word
first [] = None
first (w ∷ ws) = Some w

-- what is left of the tokens
abbrev pub after : Bool → Words → Words
after false ws = ws
after true [] = []
after true (w ∷ ws) = ws

-- how a descent ends: with what is made and the tokens that are left, or at a token that can't stand there
pub data Outcome : Type 0 where
  found : (made : Made) (left : Words) → Outcome
  stuck : (left : Words) → Outcome

-- a move on these tokens leads to an outcome
pub data Does : Move → Words → Outcome → Type 0 where
  gives : {taken : Bool} {made : Made} {s : Words} → Does (give taken made) s (found made (after taken s))
  refuses : {s : Words} → Does refuse s (stuck s)
  part_stuck : {taken : Bool} {part : Wanted} {whole : Made → Wanted} {s left : Words} →
      Does (move_at part (first (after taken s))) (after taken s) (stuck left) →
      Does (want taken part whole) s (stuck left)
  part_found : {taken : Bool} {part : Wanted} {whole : Made → Wanted} {s left : Words} {made : Made} {end : Outcome} →
      Does (move_at part (first (after taken s))) (after taken s) (found made left) →
      Does (move_at (whole made) (first left)) left end →
      Does (want taken part whole) s end

-- the descent from what is wanted leads to an outcome
abbrev pub Descends : Wanted → Words → Outcome → Type 0
Descends g s end = Does (move_at g (first s)) s end
