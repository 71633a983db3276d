-- What is read as a value is a relaxed one.
use Rattle.std.proofs.Common.{◌≡◌, ℕ, Bool, true, false, List, [], ◌∷◌, ◌++◌, Option, Some, refl, sym, subst}
use Rattle.std.specs.Prelude.{if◌then◌else◌}
use Rattle.std.proofs.lemmas.List.{append-nil}
use Rattle.dt_lex.specs.declared.token.TokenKind.{TokenKind}
use Rattle.dt_lex.specs.declared.token.TokenKind.TheVariants as kind
use Rattle.dt_lex.specs.declared.token.Mark.TheVariants as mark
use Rattle.dt_lex.specs.declared.token.Keyword.TheVariants as keyword
use Rattle.dt_grammar.specs.Words.{Word, Words}
use Rattle.dt_grammar.specs.Unchecked.{a_label, a_path, RawCell, label_cell, number_cell, reference_cell, byte_cell, RawItem, cell_item, byte_item, RawComponent}
use Rattle.dt_grammar.specs.Relaxed.{word, a_mark, a_keyword, is_width, Labels, no_more_labels, another_label, Cells, no_more_cells, a_label_cell, a_number_cell, a_reference_cell, Bytes, no_more_bytes, a_label_byte, another_byte, Item, plain_cells, sized_cells, a_text, some_bytes, a_path_text, Value, last_component, more_components}
use Rattle.dt_grammar.specs.Wanted.{Made, made_labels, made_cells, made_item, made_value, size_in, expression_in, labels_in, cells_in, item_in, components_in, SomeLabels, SomeCells, AfterCell, SomeBytes, OneItem, BitsNumber, BitsOpen, CellsEnd, BytesEnd, OneValue, AfterComponentLabels, BehindItem, AfterComponent, Done, want, refuse}
use Rattle.dt_grammar.proofs.Means.{IsLast, Sound, SoundAt, at_each, at_nothing}

pub sound_labels : (k : Option Word) → SoundAt SomeLabels k
sound_labels = at_each (SoundAt SomeLabels) no_more_labels at
  where
    at : (k : TokenKind) (b : List ℕ) → SoundAt SomeLabels (Some (word k b))
    at kind.Label b = λ u v x y h f. at_nothing (λ (l : Words) (e : Made). Labels (word kind.Label b ∷ l) (labels_in e)) u v (made_labels (b ∷ labels_in x)) y f (another_label b u (labels_in x) h)
    at _ b = no_more_labels

-- a token and a cell in front of others
cell_before : (P : Words → List RawCell → Type 0) (w : Word) (c : RawCell) → ((u : Words) (cs : List RawCell) → P u cs → P (w ∷ u) (c ∷ cs)) → (u v : Words) (x y : Made) → P u (cells_in x) → (v ≡ []) × (y ≡ made_cells (c ∷ cells_in x)) → P (w ∷ (u ++ v)) (cells_in y)
cell_before P w c make u v x y h f = at_nothing (λ (l : Words) (e : Made). P (w ∷ l) (cells_in e)) u v (made_cells (c ∷ cells_in x)) y f (make u (cells_in x) h)

pub sound_cells : (k : Option Word) → SoundAt SomeCells k
sound_cells = at_each (SoundAt SomeCells) no_more_cells at
  where
    at : (k : TokenKind) (b : List ℕ) → SoundAt SomeCells (Some (word k b))
    at kind.Label b = cell_before Cells (word kind.Label b) (label_cell b) (a_label_cell b)
    at kind.LabelReference b = cell_before Cells (word kind.LabelReference b) (reference_cell a_label b) (a_reference_cell a_label b)
    at kind.PathReference b = cell_before Cells (word kind.PathReference b) (reference_cell a_path b) (a_reference_cell a_path b)
    at (kind.Integer n) b = λ u v x y h f. f u h
    at (kind.Character n) b = λ u v x y h f. f u h
    at (kind.Mark mark.OpenParenthesis) b = λ u v x y h f. f u h
    at _ b = no_more_cells

pub sound_cell : (x : Made) (k : Option Word) → SoundAt (AfterCell x) k
sound_cell x k = λ u v z y h f t s.
    at_nothing (λ (l : Words) (e : Made). Cells (t ++ l) (cells_in e)) u v (made_cells (number_cell (size_in x) (expression_in x) ∷ cells_in z)) y f
    (subst (λ (n : ℕ). Cells (t ++ u) (number_cell n (expression_in x) ∷ cells_in z)) (sym s.size) (a_number_cell t u (expression_in x) (cells_in z) s.expression h))

pub sound_bytes : (k : Option Word) → SoundAt SomeBytes k
sound_bytes = at_each (SoundAt SomeBytes) no_more_bytes at
  where
    at : (k : TokenKind) (b : List ℕ) → SoundAt SomeBytes (Some (word k b))
    at kind.Label b = cell_before Bytes (word kind.Label b) (label_cell b) (a_label_byte b)
    at (kind.Byte n) b = cell_before Bytes (word (kind.Byte n) b) (byte_cell n) (another_byte n b)
    at _ b = no_more_bytes

-- an item with its last token
at_last : (P : Words → RawItem → Type 0) (k : TokenKind) (i : RawItem) → ((z : List ℕ) → P (word k z ∷ []) i) → (v : Words) (y : Made) → IsLast k v × (y ≡ made_item i) → P v (item_in y)
at_last P k i p v y f = subst (λ (l : Words). P l (item_in y)) (sym f.0.together) (subst (λ (m : Made). P (word k f.0.bytes ∷ []) (item_in m)) (sym f.1) (p f.0.bytes))

pub sound_item : (k : Option Word) → SoundAt OneItem k
sound_item = at_each (SoundAt OneItem) tt at
  where
    at : (k : TokenKind) (b : List ℕ) → SoundAt OneItem (Some (word k b))
    at (kind.Mark mark.Less) b = λ u v x y h f. at_last (λ (l : Words) (i : RawItem). Item (a_mark mark.Less b ∷ (u ++ l)) i) (kind.Mark mark.Greater) (cell_item 32 (cells_in x)) (λ z. plain_cells b z u (cells_in x) h) v y f
    at (kind.Keyword keyword.Bits) b = λ u v x y h f. at_nothing (λ (l : Words) (e : Made). Item (a_keyword keyword.Bits b ∷ l) (item_in e)) u v x y f (h b)
    at kind.Text b = a_text b
    at (kind.Mark mark.OpenBracket) b = λ u v x y h f. at_last (λ (l : Words) (i : RawItem). Item (a_mark mark.OpenBracket b ∷ (u ++ l)) i) (kind.Mark mark.CloseBracket) (byte_item (cells_in x)) (λ z. some_bytes b z u (cells_in x) h) v y f
    at kind.LabelReference b = a_path_text a_label b
    at kind.PathReference b = a_path_text a_path b
    at _ b = tt

at_width : (n : ℕ) (b : List ℕ) (w : Bool) → is_width n ≡ w → Sound BitsNumber (Some (word (kind.Integer n) b)) (if w then want true (BitsOpen n) Done else refuse)
at_width n b true e = λ u v x y h f k. at_nothing (λ (l : Words) (m : Made). Item (a_keyword keyword.Bits k ∷ word (kind.Integer n) b ∷ l) (item_in m)) u v x y f (h k b e)
at_width n b false e = tt

pub sound_bits : (k : Option Word) → SoundAt BitsNumber k
sound_bits = at_each (SoundAt BitsNumber) tt at
  where
    at : (k : TokenKind) (b : List ℕ) → SoundAt BitsNumber (Some (word k b))
    at (kind.Integer n) b = at_width n b (is_width n) refl
    at _ b = tt

pub sound_bits_open : (bits : ℕ) (k : Option Word) → SoundAt (BitsOpen bits) k
sound_bits_open bits = at_each (SoundAt (BitsOpen bits)) tt at
  where
    at : (k : TokenKind) (b : List ℕ) → SoundAt (BitsOpen bits) (Some (word k b))
    at (kind.Mark mark.Less) b = λ u v x y h f k i w.
        at_last (λ (l : Words) (j : RawItem). Item (a_keyword keyword.Bits k ∷ word (kind.Integer bits) i ∷ a_mark mark.Less b ∷ (u ++ l)) j) (kind.Mark mark.Greater) (cell_item bits (cells_in x))
        (λ z. sized_cells k i b z bits u (cells_in x) w h) v y f
    at _ b = tt

pub sound_cells_end : (bits : ℕ) (cs : List RawCell) (k : Option Word) → SoundAt (CellsEnd bits cs) k
sound_cells_end bits cs = at_each (SoundAt (CellsEnd bits cs)) tt at
  where
    at : (k : TokenKind) (b : List ℕ) → SoundAt (CellsEnd bits cs) (Some (word k b))
    at (kind.Mark mark.Greater) b = (record { bytes = b; together = refl }, refl)
    at _ b = tt

pub sound_bytes_end : (cs : List RawCell) (k : Option Word) → SoundAt (BytesEnd cs) k
sound_bytes_end cs = at_each (SoundAt (BytesEnd cs)) tt at
  where
    at : (k : TokenKind) (b : List ℕ) → SoundAt (BytesEnd cs) (Some (word k b))
    at (kind.Mark mark.CloseBracket) b = (record { bytes = b; together = refl }, refl)
    at _ b = tt

pub sound_value : (k : Option Word) → SoundAt OneValue k
sound_value k = λ u v x y h f. f u h

pub sound_component_labels : (ls : List (List ℕ)) (k : Option Word) → SoundAt (AfterComponentLabels ls) k
sound_component_labels ls k = λ u v x y h f t s. f t u s h

pub sound_behind_item : (ls : List (List ℕ)) (i : RawItem) (k : Option Word) → SoundAt (BehindItem ls i) k
sound_behind_item ls i k = λ u v x y h f t w s r. f t w u s r h

last_one : (c : RawComponent) (p q r : Words) → Labels p c.before → Item q c.item → Labels r c.behind → Value (p ++ (q ++ (r ++ []))) (c ∷ [])
last_one c p q r l i m = subst (λ (x : Words). Value (p ++ (q ++ x)) (c ∷ [])) (sym (append-nil r)) (last_component p q r c.before c.behind c.item l i m)

pub sound_component : (c : RawComponent) (k : Option Word) → SoundAt (AfterComponent c) k
sound_component c = at_each (SoundAt (AfterComponent c)) (last_one c) at
  where
    at : (k : TokenKind) (b : List ℕ) → SoundAt (AfterComponent c) (Some (word k b))
    at (kind.Mark mark.Comma) b = λ u v x y h f p q r l i m.
        at_nothing (λ (w : Words) (e : Made). Value (p ++ (q ++ (r ++ a_mark mark.Comma b ∷ w))) (components_in e)) u v (made_value (c ∷ components_in x)) y f
        (more_components p q r u b c.before c.behind c.item (components_in x) l i m h)
    at _ b = last_one c
