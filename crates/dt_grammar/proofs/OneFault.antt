-- Tokens have one fault that shows first, at one place.
use Rattle.std.proofs.Common.{◌≡◌, ℕ, ◌+◌, ◌<◌, ◌≤◌, Bool, true, false, List, [], ◌∷◌, length, Option, Some, None, refl, sym, ◌∙◌, ap, subst, arith}
use Rattle.std.specs.Prelude.{if◌then◌else◌}
use Rattle.dt_names.specs.declared.fault.FaultKind.{FaultKind}
use Rattle.dt_model.specs.Names.{IsPropertyName, IsNodeName}
use Rattle.dt_lex.specs.declared.token.TokenKind.{TokenKind}
use Rattle.dt_lex.specs.declared.token.TokenKind.TheVariants as kind
use Rattle.dt_lex.specs.declared.token.Mark.TheVariants as mark
use Rattle.dt_lex.specs.declared.token.Keyword.TheVariants as keyword
use Rattle.dt_expr.specs.Expression.{value}
use Rattle.dt_grammar.specs.Strict.{IsNumber}
use Rattle.dt_grammar.specs.Words.{Word, Words}
use Rattle.dt_grammar.specs.Unchecked.{RawCell, RawComponent, RawPlace, RawReserve, raw_root}
use Rattle.dt_grammar.specs.Relaxed.{word, is_width}
use Rattle.dt_grammar.specs.Wanted.{Made, size_in, expression_in, kind_at, bytes_at, Wanted, Any, AfterCondition, AfterThis, Level, AfterLeft, Prefix, Prim, Closing, Done, SomeLabels, SomeCells, AfterCell, SomeBytes, OneItem, BitsNumber, BitsOpen, CellsEnd, BytesEnd, OneValue, AfterComponentLabels, BehindItem, AfterComponent, SomeMembers, AfterMemberLabels, More, AfterName, DeletedProperty, DeletedChild, BlockOpen, BlockClose, Ending, OneStatement, DeletedNode, SomeStatements, StatementThen, MoreStatements, Top, AfterTopLabels, AfterAddress, ReserveEnd, Whole, AfterVersion, AfterHeader, PluginEnd, MoreHeaders, NextVersion, NextHeader, Move, refuse, want}
use Rattle.dt_grammar.specs.Moves.{no_member, without_labels, at_labels, at_cells, at_bytes, at_item, at_statement, at_deleted_node, at_member, at_deleted_property, at_deleted_child, at_name, at_block_open}
use Rattle.dt_grammar.specs.Descent.{move_at, first, after, Outcome, found, stuck, refuses, Descends}
use Rattle.dt_grammar.specs.Faults.{Around, outside, within, label_named, reference_named, cell_named, member_named, deleted_named, cell_placed, name_placed, member_placed, body_placed, IsFaultNamed, IsPlaced, Shows, unwanted, unnamed, unplaced, Passes, NumberBreaks, cut_off, unended, too_long, valueless, too_large, IsFine, IsNoNumber, Breaks, shows, in_number, in_part, behind_part}
use Rattle.dt_grammar.proofs.Descent.{deterministic, left_of, by_move}
use Rattle.dt_grammar.proofs.Means.{at_each}
use Rattle.dt_grammar.proofs.Unbroken.{done, clash, made_of, taken_in, part_in, whole_in}
use Rattle.dt_grammar.proofs.FineParts.{NoBreak, no_break_number, no_break_labels, no_break_cells, no_break_bytes, no_break_item, no_break_value, no_break_members, no_break_statement, no_break_name, no_break_deleted_property, no_break_deleted_child}

-- what is wanted on the way from a source, in what is around it there; the inside of a number is none
abbrev IsReached : Around → Wanted → Type 0
IsReached a Any = ⊥
IsReached a (AfterCondition c) = ⊥
IsReached a (AfterThis c x) = ⊥
IsReached a (Level n) = ⊥
IsReached a (AfterLeft n x) = ⊥
IsReached a Prefix = ⊥
IsReached a (Closing x) = ⊥
IsReached a (OneStatement ls) = a ≡ outside
IsReached a SomeStatements = a ≡ outside
IsReached a (StatementThen ls) = a ≡ outside
IsReached a (MoreStatements ps) = a ≡ outside
IsReached a Top = a ≡ outside
IsReached a (AfterTopLabels ls) = a ≡ outside
IsReached a (AfterAddress ls x) = a ≡ outside
IsReached a (ReserveEnd r) = a ≡ outside
IsReached a Whole = a ≡ outside
IsReached a AfterVersion = a ≡ outside
IsReached a AfterHeader = a ≡ outside
IsReached a PluginEnd = a ≡ outside
IsReached a (MoreHeaders plugin) = a ≡ outside
IsReached a (NextVersion plugin) = a ≡ outside
IsReached a (NextHeader plugin) = a ≡ outside
IsReached a _ = Unit {0}

-- a fault in a part and one behind it exclude each other
abbrev Excludes : Around → Around → Wanted → (Made → Wanted) → Type 0
Excludes a b part whole = (ws rest left left' : Words) (k j : FaultKind) (m : Made) → Descends part ws (found m rest) → IsFine b m → Breaks b part ws k left → Breaks a (whole m) rest j left' → ⊥

abbrev Sole : Around → Wanted → Move → Type 0
Sole a g (want taken part whole) = IsReached (within g a) part × ((x : Made) → IsReached a (whole x)) × Excludes a (within g a) part whole
Sole a g _ = Unit {0}

abbrev SoleAt : Around → Wanted → Option Word → Type 0
SoleAt a g w = Sole a g (move_at g w)

part_sound : (a b : Around) (part : Wanted) (whole : Made → Wanted) → NoBreak b part → Excludes a b part whole
part_sound a b part whole n ws rest left left' k j m d f broken behind = n ws rest left k m d f broken

-- nothing is wanted behind the part
nothing_behind : (a b : Around) (part : Wanted) (after_it : Made → Made) → Excludes a b part (λ x. Done (after_it x))
nothing_behind a b part f ws rest left left' k j m d g x c = clash c (done {a = a} {x = f m} {ws = rest})

sole_labels : (a : Around) (w : Option Word) → SoleAt a SomeLabels w
sole_labels a = at_each (SoleAt a SomeLabels) tt at
  where
    at : (k : TokenKind) (b : List ℕ) → SoleAt a SomeLabels (Some (word k b))
    at kind.Label b = (tt, λ x. tt, nothing_behind a a SomeLabels _)
    at _ b = tt

sole_cells : (a : Around) (w : Option Word) → SoleAt a SomeCells w
sole_cells a = at_each (SoleAt a SomeCells) tt at
  where
    at : (k : TokenKind) (b : List ℕ) → SoleAt a SomeCells (Some (word k b))
    at kind.Label b = (tt, λ x. tt, nothing_behind a a SomeCells _)
    at kind.LabelReference b = (tt, λ x. tt, nothing_behind a a SomeCells _)
    at kind.PathReference b = (tt, λ x. tt, nothing_behind a a SomeCells _)
    at (kind.Integer n) b = (tt, λ x. tt, part_sound a a Prim _ (no_break_number a))
    at (kind.Character n) b = (tt, λ x. tt, part_sound a a Prim _ (no_break_number a))
    at (kind.Mark mark.OpenParenthesis) b = (tt, λ x. tt, part_sound a a Prim _ (no_break_number a))
    at _ b = tt

sole_bytes : (a : Around) (w : Option Word) → SoleAt a SomeBytes w
sole_bytes a = at_each (SoleAt a SomeBytes) tt at
  where
    at : (k : TokenKind) (b : List ℕ) → SoleAt a SomeBytes (Some (word k b))
    at kind.Label b = (tt, λ x. tt, nothing_behind a a SomeBytes _)
    at (kind.Byte n) b = (tt, λ x. tt, nothing_behind a a SomeBytes _)
    at _ b = tt

sole_item : (a : Around) (w : Option Word) → SoleAt a OneItem w
sole_item a = at_each (SoleAt a OneItem) tt at
  where
    at : (k : TokenKind) (b : List ℕ) → SoleAt a OneItem (Some (word k b))
    at (kind.Mark mark.Less) b = (tt, λ x. tt, part_sound a _ SomeCells _ (no_break_cells _))
    at (kind.Keyword keyword.Bits) b = (tt, λ x. tt, nothing_behind a _ BitsNumber (λ x. x))
    at (kind.Mark mark.OpenBracket) b = (tt, λ x. tt, part_sound a _ SomeBytes _ (no_break_bytes _))
    at _ b = tt

sole_bits : (a : Around) (w : Option Word) → SoleAt a BitsNumber w
sole_bits a = at_each (SoleAt a BitsNumber) tt at
  where
    by : (n : ℕ) (t : Bool) → Sole a BitsNumber (if t then want true (BitsOpen n) Done else refuse)
    by n true = (tt, λ x. tt, nothing_behind a a (BitsOpen n) (λ x. x))
    by n false = tt

    at : (k : TokenKind) (b : List ℕ) → SoleAt a BitsNumber (Some (word k b))
    at (kind.Integer n) b = by n (is_width n)
    at _ b = tt

sole_bits_open : (a : Around) (bits : ℕ) (w : Option Word) → SoleAt a (BitsOpen bits) w
sole_bits_open a bits = at_each (SoleAt a (BitsOpen bits)) tt at
  where
    at : (k : TokenKind) (b : List ℕ) → SoleAt a (BitsOpen bits) (Some (word k b))
    at (kind.Mark mark.Less) b = (tt, λ x. tt, part_sound a _ SomeCells _ (no_break_cells _))
    at _ b = tt

sole_closed : (a : Around) (bits : ℕ) (cs : List RawCell) (w : Option Word) → SoleAt a (CellsEnd bits cs) w
sole_closed a bits cs = at_each (SoleAt a (CellsEnd bits cs)) tt at
  where
    at : (k : TokenKind) (b : List ℕ) → SoleAt a (CellsEnd bits cs) (Some (word k b))
    at (kind.Mark mark.Greater) b = tt
    at _ b = tt

sole_bytes_end : (a : Around) (cs : List RawCell) (w : Option Word) → SoleAt a (BytesEnd cs) w
sole_bytes_end a cs = at_each (SoleAt a (BytesEnd cs)) tt at
  where
    at : (k : TokenKind) (b : List ℕ) → SoleAt a (BytesEnd cs) (Some (word k b))
    at (kind.Mark mark.CloseBracket) b = tt
    at _ b = tt

sole_comma : (a : Around) (c : RawComponent) (w : Option Word) → SoleAt a (AfterComponent c) w
sole_comma a c = at_each (SoleAt a (AfterComponent c)) tt at
  where
    at : (k : TokenKind) (b : List ℕ) → SoleAt a (AfterComponent c) (Some (word k b))
    at (kind.Mark mark.Comma) b = (tt, λ x. tt, nothing_behind a a OneValue _)
    at _ b = tt

sole_none : (a : Around) (ls : List (List ℕ)) → Sole a (AfterMemberLabels ls) (no_member ls)
sole_none a [] = tt
sole_none a (l ∷ ls) = tt

sole_member : (a : Around) (ls : List (List ℕ)) (w : Option Word) → SoleAt a (AfterMemberLabels ls) w
sole_member a ls = at_each (SoleAt a (AfterMemberLabels ls)) (sole_none a ls) at
  where
    at : (k : TokenKind) (b : List ℕ) → SoleAt a (AfterMemberLabels ls) (Some (word k b))
    at kind.Name b = (tt, λ x. tt, part_sound a a (AfterName ls b) _ (no_break_name a ls b))
    at (kind.Keyword keyword.DeleteProperty) b = (tt, λ x. tt, part_sound a a (DeletedProperty ls) _ (no_break_deleted_property a ls))
    at (kind.Keyword keyword.DeleteNode) b = (tt, λ x. tt, part_sound a a (DeletedChild ls) _ (no_break_deleted_child a ls))
    at k b = sole_none a ls

sole_name : (a : Around) (ls : List (List ℕ)) (n : List ℕ) (w : Option Word) → SoleAt a (AfterName ls n) w
sole_name a ls n = at_each (SoleAt a (AfterName ls n)) tt at
  where
    at : (k : TokenKind) (b : List ℕ) → SoleAt a (AfterName ls n) (Some (word k b))
    at (kind.Mark mark.Equals) b = (tt, λ x. tt, part_sound a a OneValue _ (no_break_value a))
    at (kind.Mark mark.OpenBrace) b = (tt, λ x. tt, nothing_behind a a (BlockOpen _) (λ x. x))
    at _ b = tt

sole_deleted_property : (a : Around) (ls : List (List ℕ)) (w : Option Word) → SoleAt a (DeletedProperty ls) w
sole_deleted_property a ls = at_each (SoleAt a (DeletedProperty ls)) tt at
  where
    at : (k : TokenKind) (b : List ℕ) → SoleAt a (DeletedProperty ls) (Some (word k b))
    at kind.Name b = (tt, λ x. tt, nothing_behind a a (Ending _) (λ x. x))
    at _ b = tt

sole_deleted_child : (a : Around) (ls : List (List ℕ)) (w : Option Word) → SoleAt a (DeletedChild ls) w
sole_deleted_child a ls = at_each (SoleAt a (DeletedChild ls)) tt at
  where
    at : (k : TokenKind) (b : List ℕ) → SoleAt a (DeletedChild ls) (Some (word k b))
    at kind.Name b = (tt, λ x. tt, nothing_behind a a (Ending _) (λ x. x))
    at _ b = tt

sole_block_open : (a : Around) (ps : List RawPlace) (w : Option Word) → SoleAt a (BlockOpen ps) w
sole_block_open a ps = at_each (SoleAt a (BlockOpen ps)) tt at
  where
    at : (k : TokenKind) (b : List ℕ) → SoleAt a (BlockOpen ps) (Some (word k b))
    at (kind.Mark mark.OpenBrace) b = (tt, λ x. tt, part_sound a _ SomeMembers _ (no_break_members a.bits false a.bodies))
    at _ b = tt

sole_block_close : (a : Around) (ps : List RawPlace) (w : Option Word) → SoleAt a (BlockClose ps) w
sole_block_close a ps = at_each (SoleAt a (BlockClose ps)) tt at
  where
    at : (k : TokenKind) (b : List ℕ) → SoleAt a (BlockClose ps) (Some (word k b))
    at (kind.Mark mark.CloseBrace) b = (tt, λ x. tt, nothing_behind a a (Ending ps) (λ x. x))
    at _ b = tt

sole_ending : (a : Around) (ps : List RawPlace) (w : Option Word) → SoleAt a (Ending ps) w
sole_ending a ps = at_each (SoleAt a (Ending ps)) tt at
  where
    at : (k : TokenKind) (b : List ℕ) → SoleAt a (Ending ps) (Some (word k b))
    at (kind.Mark mark.Semicolon) b = tt
    at _ b = tt

-- ---- statements

sole_root : (a : Around) (ls ms : List (List ℕ)) → Sole a (OneStatement ls) (without_labels ms (want true (BlockOpen (raw_root ∷ [])) Done))
sole_root a ls [] = (tt, λ x. tt, nothing_behind a a (BlockOpen (raw_root ∷ [])) (λ x. x))
sole_root a ls (m ∷ ms) = tt

sole_deletion : (a : Around) (ls ms : List (List ℕ)) → Sole a (OneStatement ls) (without_labels ms (want true DeletedNode Done))
sole_deletion a ls [] = (tt, λ x. tt, nothing_behind a a DeletedNode (λ x. x))
sole_deletion a ls (m ∷ ms) = tt

sole_statement : (a : Around) (ls : List (List ℕ)) (w : Option Word) → SoleAt a (OneStatement ls) w
sole_statement a ls = at_each (SoleAt a (OneStatement ls)) tt at
  where
    at : (k : TokenKind) (b : List ℕ) → SoleAt a (OneStatement ls) (Some (word k b))
    at (kind.Mark mark.Slash) b = sole_root a ls ls
    at (kind.Keyword keyword.DeleteNode) b = sole_deletion a ls ls
    at kind.LabelReference b = (tt, λ x. tt, nothing_behind a a (BlockOpen _) (λ x. x))
    at kind.PathReference b = (tt, λ x. tt, nothing_behind a a (BlockOpen _) (λ x. x))
    at _ b = tt

sole_deleted_node : (a : Around) (w : Option Word) → SoleAt a DeletedNode w
sole_deleted_node a = at_each (SoleAt a DeletedNode) tt at
  where
    at : (k : TokenKind) (b : List ℕ) → SoleAt a DeletedNode (Some (word k b))
    at kind.LabelReference b = (tt, λ x. tt, nothing_behind a a (Ending _) (λ x. x))
    at kind.PathReference b = (tt, λ x. tt, nothing_behind a a (Ending _) (λ x. x))
    at _ b = tt

statement_alone : (a : Around) (ls : List (List ℕ)) → a ≡ outside → NoBreak a (OneStatement ls)
statement_alone a ls e = subst (λ (x : Around). NoBreak x (OneStatement ls)) (sym e) (no_break_statement ls)

sole_more_statements : (a : Around) (ps : List RawPlace) → a ≡ outside → (w : Option Word) → SoleAt a (MoreStatements ps) w
sole_more_statements a ps e None = tt
sole_more_statements a ps e (Some w) = (e, λ x. tt, nothing_behind a a SomeStatements _)

sole_top_labels : (a : Around) (ls : List (List ℕ)) → a ≡ outside → (w : Option Word) → SoleAt a (AfterTopLabels ls) w
sole_top_labels a ls e = at_each (SoleAt a (AfterTopLabels ls)) (e, λ x. tt, nothing_behind a a (StatementThen ls) _) at
  where
    at : (k : TokenKind) (b : List ℕ) → SoleAt a (AfterTopLabels ls) (Some (word k b))
    at (kind.Keyword keyword.Memreserve) b = (tt, λ x. e, part_sound a a Prim _ (no_break_number a))
    at _ b = (e, λ x. tt, nothing_behind a a (StatementThen ls) _)

sole_reserve_end : (a : Around) (r : RawReserve) → a ≡ outside → (w : Option Word) → SoleAt a (ReserveEnd r) w
sole_reserve_end a r e = at_each (SoleAt a (ReserveEnd r)) tt at
  where
    at : (k : TokenKind) (b : List ℕ) → SoleAt a (ReserveEnd r) (Some (word k b))
    at (kind.Mark mark.Semicolon) b = (e, λ x. tt, nothing_behind a a Top _)
    at _ b = tt

-- ---- headers

sole_version : (a : Around) → a ≡ outside → (w : Option Word) → SoleAt a Whole w
sole_version a e = at_each (SoleAt a Whole) tt at
  where
    at : (k : TokenKind) (b : List ℕ) → SoleAt a Whole (Some (word k b))
    at (kind.Keyword keyword.Version) b = (e, λ x. tt, nothing_behind a a AfterVersion (λ x. x))
    at _ b = tt

sole_after_version : (a : Around) → a ≡ outside → (w : Option Word) → SoleAt a AfterVersion w
sole_after_version a e = at_each (SoleAt a AfterVersion) tt at
  where
    at : (k : TokenKind) (b : List ℕ) → SoleAt a AfterVersion (Some (word k b))
    at (kind.Mark mark.Semicolon) b = (e, λ x. tt, nothing_behind a a AfterHeader (λ x. x))
    at _ b = tt

sole_header : (a : Around) → a ≡ outside → (w : Option Word) → SoleAt a AfterHeader w
sole_header a e = at_each (SoleAt a AfterHeader) (e, λ x. tt, nothing_behind a a (MoreHeaders false) (λ x. x)) at
  where
    at : (k : TokenKind) (b : List ℕ) → SoleAt a AfterHeader (Some (word k b))
    at (kind.Keyword keyword.Plugin) b = (e, λ x. tt, nothing_behind a a PluginEnd (λ x. x))
    at _ b = (e, λ x. tt, nothing_behind a a (MoreHeaders false) (λ x. x))

sole_plugin : (a : Around) → a ≡ outside → (w : Option Word) → SoleAt a PluginEnd w
sole_plugin a e = at_each (SoleAt a PluginEnd) tt at
  where
    at : (k : TokenKind) (b : List ℕ) → SoleAt a PluginEnd (Some (word k b))
    at (kind.Mark mark.Semicolon) b = (e, λ x. tt, nothing_behind a a (MoreHeaders true) (λ x. x))
    at _ b = tt

sole_more_headers : (a : Around) (plugin : Bool) → a ≡ outside → (w : Option Word) → SoleAt a (MoreHeaders plugin) w
sole_more_headers a plugin e = at_each (SoleAt a (MoreHeaders plugin)) (e, λ x. tt, nothing_behind a a Top _) at
  where
    at : (k : TokenKind) (b : List ℕ) → SoleAt a (MoreHeaders plugin) (Some (word k b))
    at (kind.Keyword keyword.Version) b = (e, λ x. tt, nothing_behind a a (NextVersion plugin) (λ x. x))
    at _ b = (e, λ x. tt, nothing_behind a a Top _)

sole_next_version : (a : Around) (plugin : Bool) → a ≡ outside → (w : Option Word) → SoleAt a (NextVersion plugin) w
sole_next_version a plugin e = at_each (SoleAt a (NextVersion plugin)) tt at
  where
    at : (k : TokenKind) (b : List ℕ) → SoleAt a (NextVersion plugin) (Some (word k b))
    at (kind.Mark mark.Semicolon) b = (e, λ x. tt, nothing_behind a a (NextHeader plugin) (λ x. x))
    at _ b = tt

sole_next_plugin : (a : Around) → a ≡ outside → (w : Option Word) → SoleAt a (NextHeader true) w
sole_next_plugin a e = at_each (SoleAt a (NextHeader true)) tt at
  where
    at : (k : TokenKind) (b : List ℕ) → SoleAt a (NextHeader true) (Some (word k b))
    at (kind.Keyword keyword.Plugin) b = (e, λ x. tt, nothing_behind a a PluginEnd (λ x. x))
    at _ b = tt

sole_next_header : (a : Around) (plugin : Bool) → a ≡ outside → (w : Option Word) → SoleAt a (NextHeader plugin) w
sole_next_header a false e w = (e, λ x. tt, nothing_behind a a (MoreHeaders false) (λ x. x))
sole_next_header a true e w = sole_next_plugin a e w

-- ---- everything that is wanted

sole : (a : Around) (g : Wanted) (w : Option Word) → IsReached a g → IsNoNumber g → SoleAt a g w
sole a Any w r n = absurd r
sole a (AfterCondition c) w r n = absurd r
sole a (AfterThis c x) w r n = absurd r
sole a (Level i) w r n = absurd r
sole a (AfterLeft i x) w r n = absurd r
sole a Prefix w r n = absurd r
sole a Prim w r n = absurd n
sole a (Closing x) w r n = absurd r
sole a (Done x) w r n = tt
sole a SomeLabels w r n = sole_labels a w
sole a SomeCells w r n = sole_cells a w
sole a (AfterCell x) w r n = (tt, λ y. tt, nothing_behind a a SomeCells _)
sole a SomeBytes w r n = sole_bytes a w
sole a OneItem w r n = sole_item a w
sole a BitsNumber w r n = sole_bits a w
sole a (BitsOpen bits) w r n = sole_bits_open a bits w
sole a (CellsEnd bits cs) w r n = sole_closed a bits cs w
sole a (BytesEnd cs) w r n = sole_bytes_end a cs w
sole a OneValue w r n = (tt, λ x. tt, part_sound a a SomeLabels _ (no_break_labels a))
sole a (AfterComponentLabels ls) w r n = (tt, λ x. tt, part_sound a a OneItem _ (no_break_item a))
sole a (BehindItem ls i) w r n = (tt, λ x. tt, part_sound a a SomeLabels _ (no_break_labels a))
sole a (AfterComponent c) w r n = sole_comma a c w
sole a SomeMembers w r n = (tt, λ x. tt, part_sound a a SomeLabels _ (no_break_labels a))
sole a (AfterMemberLabels ls) w r n = sole_member a ls w
sole a (More ps) w r n = (tt, λ x. tt, nothing_behind a _ SomeMembers _)
sole a (AfterName ls i) w r n = sole_name a ls i w
sole a (DeletedProperty ls) w r n = sole_deleted_property a ls w
sole a (DeletedChild ls) w r n = sole_deleted_child a ls w
sole a (BlockOpen ps) w r n = sole_block_open a ps w
sole a (BlockClose ps) w r n = sole_block_close a ps w
sole a (Ending ps) w r n = sole_ending a ps w
sole a (OneStatement ls) w r n = sole_statement a ls w
sole a DeletedNode w r n = sole_deleted_node a w
sole a SomeStatements w r n = (tt, λ x. r, part_sound a a SomeLabels _ (no_break_labels a))
sole a (StatementThen ls) w r n = (r, λ x. r, part_sound a a (OneStatement ls) _ (statement_alone a ls r))
sole a (MoreStatements ps) w r n = sole_more_statements a ps r w
sole a Top w r n = (tt, λ x. r, part_sound a a SomeLabels _ (no_break_labels a))
sole a (AfterTopLabels ls) w r n = sole_top_labels a ls r w
sole a (AfterAddress ls x) w r n = (tt, λ y. r, part_sound a a Prim _ (no_break_number a))
sole a (ReserveEnd s) w r n = sole_reserve_end a s r w
sole a Whole w r n = sole_version a r w
sole a AfterVersion w r n = sole_after_version a r w
sole a AfterHeader w r n = sole_header a r w
sole a PluginEnd w r n = sole_plugin a r w
sole a (MoreHeaders plugin) w r n = sole_more_headers a plugin r w
sole a (NextVersion plugin) w r n = sole_next_version a plugin r w
sole a (NextHeader plugin) w r n = sole_next_header a plugin r w

-- ---- what is refused

refused_label : (b : List ℕ) (k : Option TokenKind) → at_labels b k ≡ refuse → label_named b k
refused_label b (Some kind.Label) h = cc
refused_label b _ h = tt

refused_cell : (bits : ℕ) (b : List ℕ) (k : Option TokenKind) → at_cells b k ≡ refuse → cell_named b k × cell_placed bits k
refused_cell bits b (Some kind.Label) h = cc
refused_cell bits b (Some kind.LabelReference) h = cc
refused_cell bits b (Some kind.PathReference) h = cc
refused_cell bits b _ h = (tt, tt)

refused_byte : (b : List ℕ) (k : Option TokenKind) → at_bytes b k ≡ refuse → label_named b k
refused_byte b (Some kind.Label) h = cc
refused_byte b _ h = tt

refused_item : (b : List ℕ) (k : Option TokenKind) → at_item b k ≡ refuse → reference_named b k
refused_item b (Some kind.LabelReference) h = cc
refused_item b (Some kind.PathReference) h = cc
refused_item b _ h = tt

refused_statement : (ls : List (List ℕ)) (b : List ℕ) (k : Option TokenKind) → at_statement ls b k ≡ refuse → reference_named b k
refused_statement ls b (Some kind.LabelReference) h = cc
refused_statement ls b (Some kind.PathReference) h = cc
refused_statement ls b _ h = tt

refused_node : (b : List ℕ) (k : Option TokenKind) → at_deleted_node b k ≡ refuse → reference_named b k
refused_node b (Some kind.LabelReference) h = cc
refused_node b (Some kind.PathReference) h = cc
refused_node b _ h = tt

refused_member : (bodies : List Bool) (ls : List (List ℕ)) (b : List ℕ) (k next : Option TokenKind) → at_member ls b k ≡ refuse → member_named b k next × member_placed bodies k
refused_member bodies ls b (Some kind.Name) next h = cc
refused_member bodies ls b (Some (kind.Keyword keyword.DeleteProperty)) next h = cc
refused_member bodies ls b _ next h = (tt, tt)

refused_deleted_property : (P : List ℕ → Type 0) (ls : List (List ℕ)) (b : List ℕ) (k next : Option TokenKind) → at_deleted_property ls b k ≡ refuse → deleted_named P b k next
refused_deleted_property P ls b (Some kind.Name) next h = cc
refused_deleted_property P ls b _ next h = tt

refused_deleted_child : (P : List ℕ → Type 0) (ls : List (List ℕ)) (b : List ℕ) (k next : Option TokenKind) → at_deleted_child ls b k ≡ refuse → deleted_named P b k next
refused_deleted_child P ls b (Some kind.Name) next h = cc
refused_deleted_child P ls b _ next h = tt

refused_name : (bodies : List Bool) (ls : List (List ℕ)) (n : List ℕ) (k : Option TokenKind) → at_name ls n k ≡ refuse → name_placed bodies k
refused_name bodies ls n (Some (kind.Mark mark.Semicolon)) h = cc
refused_name bodies ls n (Some (kind.Mark mark.Equals)) h = cc
refused_name bodies ls n _ h = tt

refused_block : (bodies : List Bool) (ps : List RawPlace) (k : Option TokenKind) → at_block_open ps k ≡ refuse → body_placed bodies k
refused_block bodies ps (Some (kind.Mark mark.OpenBrace)) h = cc
refused_block bodies ps _ h = tt

-- a token that can't stand there has no other fault
refused : (a : Around) (g : Wanted) (ws : Words) → move_at g (first ws) ≡ refuse → IsFaultNamed g ws × IsPlaced a g ws
refused a SomeLabels ws e = (refused_label (bytes_at (first ws)) (kind_at (first ws)) e, tt)
refused a SomeCells ws e = refused_cell a.bits (bytes_at (first ws)) (kind_at (first ws)) e
refused a SomeBytes ws e = (refused_byte (bytes_at (first ws)) (kind_at (first ws)) e, tt)
refused a OneItem ws e = (refused_item (bytes_at (first ws)) (kind_at (first ws)) e, tt)
refused a (OneStatement ls) ws e = (refused_statement ls (bytes_at (first ws)) (kind_at (first ws)) e, tt)
refused a DeletedNode ws e = (refused_node (bytes_at (first ws)) (kind_at (first ws)) e, tt)
refused a (AfterMemberLabels ls) ws e = refused_member a.bodies ls (bytes_at (first ws)) (kind_at (first ws)) (kind_at (first (after true ws))) e
refused a (DeletedProperty ls) ws e = (refused_deleted_property IsPropertyName ls (bytes_at (first ws)) (kind_at (first ws)) (kind_at (first (after true ws))) e, tt)
refused a (DeletedChild ls) ws e = (refused_deleted_child IsNodeName ls (bytes_at (first ws)) (kind_at (first ws)) (kind_at (first (after true ws))) e, tt)
refused a (AfterName ls n) ws e = (tt, refused_name a.bodies ls n (kind_at (first ws)) e)
refused a (BlockOpen ps) ws e = (tt, refused_block a.bodies ps (kind_at (first ws)) e)
refused a (AfterAddress ls x) ws e = cc
refused a _ ws e = (tt, tt)

one_shown : {a : Around} {g : Wanted} {ws : Words} {k j : FaultKind} → Shows a g ws k → Shows a g ws j → (k ≡ j) × (ws ≡ ws)
one_shown (unwanted e) (unwanted f) = (refl, refl)
one_shown {a = a} {g = g} {ws = ws} (unwanted e) (unnamed n) = absurd (n (refused a g ws e).0)
one_shown {a = a} {g = g} {ws = ws} (unwanted e) (unplaced n q) = absurd (q (refused a g ws e).1)
one_shown {a = a} {g = g} {ws = ws} (unnamed n) (unwanted e) = absurd (n (refused a g ws e).0)
one_shown (unnamed n) (unnamed m) = (refl, refl)
one_shown (unnamed n) (unplaced m q) = absurd (n m)
one_shown {a = a} {g = g} {ws = ws} (unplaced n q) (unwanted e) = absurd (q (refused a g ws e).1)
one_shown (unplaced n q) (unnamed m) = absurd (m n)
one_shown (unplaced n q) (unplaced m p) = (refl, refl)

-- ---- numbers

pub not_both : {ws left rest : Words} {m : Made} → Descends Prim ws (stuck left) → Descends Prim ws (found m rest) → ⊥
not_both d e = let same = deterministic d e in cc

-- a number that is cut off within its first 1,024 tokens isn't too long
cut_or_unended : {ws left rest : Words} → Descends Prim ws (stuck left) → Descends Prim ws (stuck rest) → length ws ≤ length left + 1024 → length rest + 1024 < length ws → ⊥
cut_or_unended {left = left} {rest = rest} d e h i = let same : left ≡ rest = ap left_of (deterministic d e) in omega (arith, h, i, ap length same)

pub same_made : {ws left rest : Words} {m o : Made} → Descends Prim ws (found m left) → Descends Prim ws (found o rest) → m ≡ o
same_made {m = m} d e = ap (made_of m) (deterministic d e)

long_or_short : {ws left rest : Words} {m o : Made} → Descends Prim ws (found m left) → Descends Prim ws (found o rest) → 1024 < size_in m → size_in o ≤ 1024 → ⊥
long_or_short d e h i = omega (arith, h, i, ap size_in (same_made d e))

none_or_some : {ws left rest : Words} {m o : Made} → Descends Prim ws (found m left) → Descends Prim ws (found o rest) → value (expression_in m) ≡ None → IsNumber (size_in o) (expression_in o) → ⊥
none_or_some d e h n = let same = same_made d e in let evaluated = n.evaluated in cc

one_number_fault : {bits : ℕ} {ws left rest : Words} {k j : FaultKind} → NumberBreaks bits ws k left → NumberBreaks bits ws j rest → (k ≡ j) × (left ≡ rest)
one_number_fault (cut_off l d h) (cut_off l' d' h') = (refl, ap left_of (deterministic d d'))
one_number_fault (cut_off l d h) (unended l' d' h') = absurd (cut_or_unended d d' h h')
one_number_fault (cut_off l d h) (too_long m l' d' h') = absurd (not_both d d')
one_number_fault (cut_off l d h) (valueless m l' d' h' v') = absurd (not_both d d')
one_number_fault (cut_off l d h) (too_large m l' d' h' v') = absurd (not_both d d')
one_number_fault (unended l d h) (cut_off l' d' h') = absurd (cut_or_unended d' d h' h)
one_number_fault (unended l d h) (unended l' d' h') = (refl, refl)
one_number_fault (unended l d h) (too_long m l' d' h') = absurd (not_both d d')
one_number_fault (unended l d h) (valueless m l' d' h' v') = absurd (not_both d d')
one_number_fault (unended l d h) (too_large m l' d' h' v') = absurd (not_both d d')
one_number_fault (too_long m l d h) (cut_off l' d' h') = absurd (not_both d' d)
one_number_fault (too_long m l d h) (unended l' d' h') = absurd (not_both d' d)
one_number_fault (too_long m l d h) (too_long m' l' d' h') = (refl, refl)
one_number_fault (too_long m l d h) (valueless m' l' d' h' v') = absurd (long_or_short d d' h h')
one_number_fault (too_long m l d h) (too_large m' l' d' h' v') = absurd (long_or_short d d' h h'.few)
one_number_fault (valueless m l d h v) (cut_off l' d' h') = absurd (not_both d' d)
one_number_fault (valueless m l d h v) (unended l' d' h') = absurd (not_both d' d)
one_number_fault (valueless m l d h v) (too_long m' l' d' h') = absurd (long_or_short d' d h' h)
one_number_fault (valueless m l d h v) (valueless m' l' d' h' v') = (refl, refl)
one_number_fault (valueless m l d h v) (too_large m' l' d' h' v') = absurd (none_or_some d d' v h')
one_number_fault (too_large m l d h v) (cut_off l' d' h') = absurd (not_both d' d)
one_number_fault (too_large m l d h v) (unended l' d' h') = absurd (not_both d' d)
one_number_fault (too_large m l d h v) (too_long m' l' d' h') = absurd (long_or_short d' d h' h.few)
one_number_fault (too_large m l d h v) (valueless m' l' d' h' v') = absurd (none_or_some d' d v' h)
one_number_fault (too_large m l d h v) (too_large m' l' d' h' v') = (refl, refl)

-- what shows at a number is a token that can't begin one
shown_number : {a : Around} {ws : Words} {k : FaultKind} → Shows a Prim ws k → NumberBreaks a.bits ws k ws
shown_number {ws = ws} (unwanted e) = cut_off ws (by_move _ refuse ws (stuck ws) e refuses) (omega arith)
shown_number (unnamed n) = absurd (n tt)
shown_number (unplaced n q) = absurd (q tt)

-- ---- faults

not_shown : {a : Around} {g : Wanted} {ws : Words} {k : FaultKind} {taken : Bool} {part : Wanted} {whole : Made → Wanted} → Shows a g ws k → move_at g (first ws) ≡ want taken part whole → Passes a g ws → ⊥
not_shown (unwanted e) f p = cc
not_shown (unnamed n) f p = n p.named
not_shown (unplaced n q) f p = q p.placed

-- what is read behind a move, and what breaks behind that
abbrev Behind : Around → Words → FaultKind → Words → Made → Words → Move → Type 0
Behind a ws j left made rest x = Descends (part_in x) (after (taken_in x) ws) (found made rest) × Breaks a (whole_in x made) rest j left

pub one : {a : Around} {g : Wanted} {ws left rest : Words} {k j : FaultKind} → IsReached a g → Breaks a g ws k left → Breaks a g ws j rest → (k ≡ j) × (left ≡ rest)
one r (shows a g ws k h) (shows a' g' ws' j i) = one_shown h i
one r (shows a g ws k h) (in_number a' ws' left j i) = one_number_fault (shown_number h) i
one r (shows a g ws k h) (in_part a' g' ws' left j taken part whole n e p b) = absurd (not_shown h e p)
one r (shows a g ws k h) (behind_part a' g' ws' mid left j taken part whole made n e p d f b) = absurd (not_shown h e p)
one r (in_number a ws left k h) (shows a' g' ws' j i) = one_number_fault h (shown_number i)
one r (in_number a ws left k h) (in_number a' ws' left' j i) = one_number_fault h i
one r (in_number a ws left k h) (in_part a' g' ws' left' j taken part whole n e p b) = absurd n
one r (in_number a ws left k h) (behind_part a' g' ws' mid left' j taken part whole made n e p d f b) = absurd n
one r (in_part a g ws left k taken part whole n e p b) (shows a' g' ws' j i) = absurd (not_shown i e p)
one r (in_part a g ws left k taken part whole n e p b) (in_number a' ws' left' j i) = absurd n
one r (in_part a g ws left k taken part whole n e p b) (in_part a' g' ws' left' j taken' part' whole' n' e' p' b') =
    let s = subst (Sole a g) e (sole a g (first ws) r n) in
    one s.0 b (subst (λ (x : Move). Breaks (within g a) (part_in x) (after (taken_in x) ws) j left') (sym e' ∙ e) b')
one r (in_part a g ws left k taken part whole n e p b) (behind_part a' g' ws' mid left' j taken' part' whole' made n' e' p' d f b') =
    let s = subst (Sole a g) e (sole a g (first ws) r n) in
    let there : Behind a ws j left' made mid (want taken part whole) = subst (Behind a ws j left' made mid) (sym e' ∙ e) (d, b') in
    absurd (s.2 (after taken ws) mid left left' k j made there.0 f b there.1)
one r (behind_part a g ws mid left k taken part whole made n e p d f b) (shows a' g' ws' j i) = absurd (not_shown i e p)
one r (behind_part a g ws mid left k taken part whole made n e p d f b) (in_number a' ws' left' j i) = absurd n
one r (behind_part a g ws mid left k taken part whole made n e p d f b) (in_part a' g' ws' left' j taken' part' whole' n' e' p' b') =
    let s = subst (Sole a g) e (sole a g (first ws) r n) in
    let there = subst (λ (x : Move). Breaks (within g a) (part_in x) (after (taken_in x) ws) j left') (sym e' ∙ e) b' in
    absurd (s.2 (after taken ws) mid left' left j k made d f there b)
one r (behind_part a g ws mid left k taken part whole made n e p d f b) (behind_part a' g' ws' mid' left' j taken' part' whole' made' n' e' p' d' f' b') =
    let s = subst (Sole a g) e (sole a g (first ws) r n) in
    let there : Behind a ws j left' made' mid' (want taken part whole) = subst (Behind a ws j left' made' mid') (sym e' ∙ e) (d', b') in
    one (s.1 made) b (subst (λ (x : Outcome). Breaks a (whole (made_of made' x)) (left_of x) j left') (deterministic there.0 d) there.1)
