-- What the tokens that are used up for what is wanted say.
use Rattle.std.proofs.Common.{◌≡◌, ℕ, suc, Bool, true, false, List, [], ◌∷◌, ◌++◌, length, Option, Some, None, sym, subst}
use Rattle.std.proofs.lemmas.List.{append-nil}
use Rattle.dt_lex.specs.declared.token.TokenKind.{TokenKind}
use Rattle.dt_lex.specs.declared.token.TokenKind.TheVariants as kind
use Rattle.dt_lex.specs.declared.token.Mark.TheVariants as mark
use Rattle.dt_lex.specs.declared.token.Keyword.TheVariants as keyword
use Rattle.dt_grammar.specs.Words.{Word, Words, IsMark}
use Rattle.dt_grammar.specs.Grammar.{Class, primary, prefixed, joined, whole, SpellsExpression, SpellsHeaders}
use Rattle.dt_grammar.specs.Unchecked.{cell_item, byte_item, RawPlace, raw_close, RawReserve, RawSource}
use Rattle.dt_grammar.specs.Relaxed.{word, a_mark, a_keyword, is_width, Labels, Cells, Bytes, Item, Value, Members, Statement, Statements, Behind, RelaxedSource}
use Rattle.dt_grammar.specs.Wanted.{Made, made_item, made_source, size_in, expression_in, labels_in, cells_in, item_in, components_in, places_in, reserves_in, Wanted, Any, AfterCondition, AfterThis, Level, AfterLeft, Prefix, Prim, Closing, Done, SomeLabels, SomeCells, AfterCell, SomeBytes, OneItem, BitsNumber, BitsOpen, CellsEnd, BytesEnd, OneValue, AfterComponentLabels, BehindItem, AfterComponent, SomeMembers, AfterMemberLabels, More, AfterName, DeletedProperty, DeletedChild, BlockOpen, BlockClose, Ending, OneStatement, DeletedNode, SomeStatements, StatementThen, MoreStatements, Top, AfterTopLabels, AfterAddress, ReserveEnd, Whole, AfterVersion, AfterHeader, PluginEnd, MoreHeaders, NextVersion, NextHeader, Move, give, refuse, want}
use Rattle.dt_grammar.specs.Descent.{move_at}

-- the tokens spell an expression of a class, and are so many
pub record Spelled (c : Class) (w : Words) (m : Made) : Type 0 where
  pub expression : SpellsExpression c w (expression_in m)
  pub size : size_in m ≡ length w

-- a body with its braces and its semicolon
pub record IsBlock (ps : List RawPlace) (w : Words) (m : Made) : Type 0 where
  pub a : List ℕ
  pub z : List ℕ
  pub s : List ℕ
  pub inner : Words
  pub cs : List RawPlace
  pub members : Members inner cs
  pub together : w ≡ a_mark mark.OpenBrace a ∷ (inner ++ a_mark mark.CloseBrace z ∷ a_mark mark.Semicolon s ∷ [])
  pub made : places_in m ≡ ps ++ (cs ++ raw_close ∷ [])

pub record IsBlockEnd (ps : List RawPlace) (w : Words) (m : Made) : Type 0 where
  pub z : List ℕ
  pub s : List ℕ
  pub together : w ≡ a_mark mark.CloseBrace z ∷ a_mark mark.Semicolon s ∷ []
  pub made : places_in m ≡ ps

-- one token more
pub record IsLast (k : TokenKind) (w : Words) : Type 0 where
  pub bytes : List ℕ
  pub together : w ≡ word k bytes ∷ []

pub record IsReserveEnd (r : RawReserve) (w : Words) (m : Made) : Type 0 where
  pub s : List ℕ
  pub others : Words
  pub rs : List RawReserve
  pub together : w ≡ a_mark mark.Semicolon s ∷ others
  pub behind : Behind others rs (places_in m)
  pub made : reserves_in m ≡ r ∷ rs

abbrev pub source_in : Made → RawSource
source_in (made_source s) = s
source_in _ = record { plugin = false; reserves = []; places = [] }

-- the words are a source's
abbrev pub IsSource : Words → Made → Type 0
IsSource w m = RelaxedSource w (source_in m)

abbrev pub Means : Wanted → Words → Made → Type 0
Means Any w m = Spelled whole w m
Means (AfterCondition c) w m = (u : Words) → Spelled (joined 10) u c → Spelled whole (u ++ w) m
Means (AfterThis c x) w m = (q : Word) (u v : Words) → IsMark mark.Question q → Spelled (joined 10) u c → Spelled whole v x → Spelled whole (u ++ q ∷ (v ++ w)) m
Means (Level n) w m = Spelled (joined n) w m
Means (AfterLeft n x) w m = (u : Words) → Spelled (joined (suc n)) u x → Spelled (joined (suc n)) (u ++ w) m
Means Prefix w m = Spelled prefixed w m
Means Prim w m = Spelled primary w m
Means (Closing x) w m = (o : Word) (u : Words) → IsMark mark.OpenParenthesis o → Spelled whole u x → Spelled primary (o ∷ (u ++ w)) m
Means (Done x) w m = (w ≡ []) × (m ≡ x)
Means SomeLabels w m = Labels w (labels_in m)
Means SomeCells w m = Cells w (cells_in m)
Means (AfterCell x) w m = (u : Words) → Spelled primary u x → Cells (u ++ w) (cells_in m)
Means SomeBytes w m = Bytes w (cells_in m)
Means OneItem w m = Item w (item_in m)
Means BitsNumber w m = (k : List ℕ) → Item (a_keyword keyword.Bits k ∷ w) (item_in m)
Means (BitsOpen bits) w m = (k i : List ℕ) → is_width bits ≡ true → Item (a_keyword keyword.Bits k ∷ word (kind.Integer bits) i ∷ w) (item_in m)
Means (CellsEnd bits cs) w m = IsLast (kind.Mark mark.Greater) w × (m ≡ made_item (cell_item bits cs))
Means (BytesEnd cs) w m = IsLast (kind.Mark mark.CloseBracket) w × (m ≡ made_item (byte_item cs))
Means OneValue w m = Value w (components_in m)
Means (AfterComponentLabels ls) w m = (u : Words) → Labels u ls → Value (u ++ w) (components_in m)
Means (BehindItem ls i) w m = (u v : Words) → Labels u ls → Item v i → Value (u ++ (v ++ w)) (components_in m)
Means (AfterComponent c) w m = (u v x : Words) → Labels u c.before → Item v c.item → Labels x c.behind → Value (u ++ (v ++ (x ++ w))) (components_in m)
Means SomeMembers w m = Members w (places_in m)
Means (AfterMemberLabels ls) w m = (u : Words) → Labels u ls → Members (u ++ w) (places_in m)
Means (More ps) w m = (qs : List RawPlace) × Members w qs × (places_in m ≡ ps ++ qs)
Means (AfterName ls n) w m = (u v : Words) (qs : List RawPlace) → Labels u ls → Members v qs → Members (u ++ word kind.Name n ∷ (w ++ v)) (places_in m ++ qs)
Means (DeletedProperty ls) w m = (u v : Words) (k : List ℕ) (qs : List RawPlace) → Labels u ls → Members v qs → Members (u ++ a_keyword keyword.DeleteProperty k ∷ (w ++ v)) (places_in m ++ qs)
Means (DeletedChild ls) w m = (u v : Words) (k : List ℕ) (qs : List RawPlace) → Labels u ls → Members v qs → Members (u ++ a_keyword keyword.DeleteNode k ∷ (w ++ v)) (places_in m ++ qs)
Means (BlockOpen ps) w m = IsBlock ps w m
Means (BlockClose ps) w m = IsBlockEnd ps w m
Means (Ending ps) w m = IsLast (kind.Mark mark.Semicolon) w × (places_in m ≡ ps)
Means (OneStatement ls) w m = Statement ls w (places_in m)
Means DeletedNode w m = (k : List ℕ) → Statement [] (a_keyword keyword.DeleteNode k ∷ w) (places_in m)
Means SomeStatements w m = Statements w (places_in m)
Means (StatementThen ls) w m = (u : Words) → Labels u ls → Statements (u ++ w) (places_in m)
Means (MoreStatements ps) w m = (u v : Words) (ls : List (List ℕ)) → Labels u ls → Statement ls v ps → Statements (u ++ (v ++ w)) (places_in m)
Means Top w m = Behind w (reserves_in m) (places_in m)
Means (AfterTopLabels ls) w m = (u : Words) → Labels u ls → Behind (u ++ w) (reserves_in m) (places_in m)
Means (AfterAddress ls x) w m = (u v : Words) (k : List ℕ) → Labels u ls → Spelled primary v x → Behind (u ++ a_keyword keyword.Memreserve k ∷ (v ++ w)) (reserves_in m) (places_in m)
Means (ReserveEnd r) w m = IsReserveEnd r w m
Means Whole w m = IsSource w m
Means AfterVersion w m = (k : List ℕ) → IsSource (a_keyword keyword.Version k ∷ w) m
Means AfterHeader w m = (k s : List ℕ) → IsSource (a_keyword keyword.Version k ∷ a_mark mark.Semicolon s ∷ w) m
Means PluginEnd w m = (u : Words) → ((t : List ℕ) → SpellsHeaders true (u ++ a_mark mark.Semicolon t ∷ [])) → IsSource (u ++ w) m
Means (MoreHeaders plugin) w m = (u : Words) → SpellsHeaders plugin u → IsSource (u ++ w) m
Means (NextVersion plugin) w m = (u : Words) (k : List ℕ) → SpellsHeaders plugin u → IsSource (u ++ a_keyword keyword.Version k ∷ w) m
Means (NextHeader plugin) w m = (u : Words) (k s : List ℕ) → SpellsHeaders plugin u → IsSource (u ++ a_keyword keyword.Version k ∷ a_mark mark.Semicolon s ∷ w) m

abbrev pub taken_of : Bool → Option Word → Words
taken_of false k = []
taken_of true None = []
taken_of true (Some k) = k ∷ []

abbrev pub Sound : Wanted → Option Word → Move → Type 0
Sound g k (give taken made) = Means g (taken_of taken k) made
Sound g k refuse = Unit {0}
Sound g k (want taken part then) = (u v : Words) (x y : Made) → Means part u x → Means (then x) v y → Means g (taken_of taken k ++ (u ++ v)) y

abbrev pub SoundAt : Wanted → Option Word → Type 0
SoundAt g k = Sound g k (move_at g k)

-- at the end, or at a token of some kind with some bytes
pub at_each : (P : Option Word → Type 0) → P None → ((k : TokenKind) (b : List ℕ) → P (Some (word k b))) → (k : Option Word) → P k
at_each P n s None = n
at_each P n s (Some w) = s w.kind w.bytes

-- where nothing more is wanted
pub at_nothing : (P : Words → Made → Type 0) (u v : Words) (x y : Made) → (v ≡ []) × (y ≡ x) → P u x → P (u ++ v) y
at_nothing P u v x y h p =
    subst (λ (z : Made). P (u ++ v) z) (sym h.1) (subst (λ (l : Words). P (u ++ l) x) (sym h.0) (subst (λ (l : Words). P l x) (sym (append-nil u)) p))
