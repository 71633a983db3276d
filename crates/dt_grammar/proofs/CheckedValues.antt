-- A relaxed value that passes the checks is one that the grammar spells.
use Rattle.std.proofs.Common.{◌≡◌, ℕ, ◌==◌, ◌||◌, Bool, true, false, true≢false, List, [], ◌∷◌, ◌++◌, length, map, refl, sym, subst}
use Rattle.std.specs.List.{AllByRecursion}
use Rattle.std.proofs.lemmas.Bool.{eqb-true}
use Rattle.std.proofs.lemmas.List.{append-nil}
use Rattle.dt_lex.specs.declared.token.TokenKind.TheVariants as kind
use Rattle.dt_lex.specs.declared.token.Mark.TheVariants as mark
use Rattle.dt_lex.specs.declared.token.Keyword.TheVariants as keyword
use Rattle.dt_expr.specs.Expression.{Expression}
use Rattle.dt_grammar.specs.Words.{Words}
use Rattle.dt_grammar.specs.Grammar.{SpellsLabels, no_labels, one_label, SpellsExpression, primary, SpellsNumber, IsWidth, bits_8, bits_16, bits_32, bits_64, SpellsCells, no_cells, cell_label, cell_number, cell_reference, SpellsBytes, no_bytes, byte_label, one_byte, no_bits, some_bits, SpellsItem, cells, string, bytes, path, SpellsComponent, SpellsValue, last, more}
use Rattle.dt_grammar.specs.Unchecked.{RawCell, RawItem, RawComponent, all_but_last, width_of, value_or_zero, reference_in, cells_parts, item_parts, value_parts}
use Rattle.dt_grammar.specs.Relaxed.{word, a_mark, a_keyword, a_reference, is_width, Labels, no_more_labels, another_label, Cells, no_more_cells, a_label_cell, a_number_cell, a_reference_cell, Bytes, no_more_bytes, a_label_byte, another_byte, Item, plain_cells, sized_cells, a_text, some_bytes, a_path_text, Value, last_component, more_components}
use Rattle.dt_grammar.specs.Strict.{AreLabelTexts, IsNumber, IsCell, IsItem, IsComponent}
use Rattle.dt_grammar.proofs.Values.{three}

pub labels_back : {ws : Words} {raw : List (List ℕ)} → Labels ws raw → AreLabelTexts raw → SpellsLabels ws (map all_but_last raw)
labels_back no_more_labels h = no_labels
labels_back (another_label b ws ls s) h = one_label (word kind.Label b) ws (all_but_last b) (map all_but_last ls) (record { kind = refl; bytes = h.0.colon; valid = h.0.valid }) (labels_back s h.1)

pub number_back : (us : Words) (e : Expression) → SpellsExpression primary us e → IsNumber (length us) e → SpellsNumber us (value_or_zero e)
number_back us e s h = record { expression = e; spelled = s; few = h.few; evaluated = h.evaluated }

cells_back : (bits : ℕ) {ws : Words} {raw : List RawCell} → Cells ws raw → AllByRecursion (IsCell bits) raw → SpellsCells bits (width_of bits) ws (cells_parts bits raw)
cells_back bits no_more_cells h = no_cells
cells_back bits (a_label_cell b ws cs s) h = cell_label (word kind.Label b) ws (all_but_last b) (cells_parts bits cs) (record { kind = refl; bytes = h.0.colon; valid = h.0.valid }) (cells_back bits s h.1)
cells_back bits (a_number_cell us ws e cs s t) h = cell_number us ws (value_or_zero e) (cells_parts bits cs) (number_back us e s h.0.0) h.0.1 (cells_back bits t h.1)
cells_back bits (a_reference_cell t b ws cs s) h = cell_reference (a_reference t b) ws (reference_in t b) (cells_parts bits cs) h.0.0 h.0.1 (cells_back bits s h.1)

bytes_back : {ws : Words} {raw : List RawCell} → Bytes ws raw → AllByRecursion (IsCell 8) raw → SpellsBytes ws (cells_parts 8 raw)
bytes_back no_more_bytes h = no_bytes
bytes_back (a_label_byte b ws cs s) h = byte_label (word kind.Label b) ws (all_but_last b) (cells_parts 8 cs) (record { kind = refl; bytes = h.0.colon; valid = h.0.valid }) (bytes_back s h.1)
bytes_back (another_byte n b ws cs s) h = one_byte (word (kind.Byte n) b) ws n (cells_parts 8 cs) refl (bytes_back s h.1)

width_back : (bits : ℕ) → is_width bits ≡ true → IsWidth bits (width_of bits)
width_back bits h = at (bits == 8) (bits == 16) (bits == 32) (bits == 64) refl refl refl refl h
  where
    at : (a b c d : Bool) → (bits == 8) ≡ a → (bits == 16) ≡ b → (bits == 32) ≡ c → (bits == 64) ≡ d → (a || b || c || d) ≡ true → IsWidth bits (width_of bits)
    at true b c d e f g i k = subst (λ (n : ℕ). IsWidth n (width_of n)) (sym (eqb-true bits 8 e)) bits_8
    at false true c d e f g i k = subst (λ (n : ℕ). IsWidth n (width_of n)) (sym (eqb-true bits 16 f)) bits_16
    at false false true d e f g i k = subst (λ (n : ℕ). IsWidth n (width_of n)) (sym (eqb-true bits 32 g)) bits_32
    at false false false true e f g i k = subst (λ (n : ℕ). IsWidth n (width_of n)) (sym (eqb-true bits 64 i)) bits_64
    at false false false false e f g i k = absurd (true≢false (sym k))

item_back : {ws : Words} {i : RawItem} → Item ws i → IsItem i → SpellsItem ws (item_parts i)
item_back (plain_cells a z ws cs s) h = cells [] ws (a_mark mark.Less a) (a_mark mark.Greater z) 32 (width_of 32) (cells_parts 32 cs) no_bits refl refl (cells_back 32 s h)
item_back (sized_cells k i a z bits ws cs w s) h =
    cells (a_keyword keyword.Bits k ∷ word (kind.Integer bits) i ∷ []) ws (a_mark mark.Less a) (a_mark mark.Greater z) bits (width_of bits) (cells_parts bits cs)
    (some_bits (a_keyword keyword.Bits k) (word (kind.Integer bits) i) bits (width_of bits) refl refl (width_back bits w)) refl refl (cells_back bits s h)
item_back (a_text b) h = string (word kind.Text b) refl
item_back (some_bytes a z ws cs s) h = bytes ws (a_mark mark.OpenBracket a) (a_mark mark.CloseBracket z) (cells_parts 8 cs) refl refl (bytes_back s h)
item_back (a_path_text t b) h = path (a_reference t b) (reference_in t b) h

component_back : {us vs ws : Words} {ls ms : List (List ℕ)} {i : RawItem} → Labels us ls → Item vs i → Labels ws ms → IsComponent (record { before = ls; item = i; behind = ms }) → SpellsComponent (us ++ (vs ++ ws)) (item_parts i)
component_back {us = us} {vs = vs} {ws = ws} {ls = ls} {ms = ms} l s m h = record {
  before = us;
  item = vs;
  behind = ws;
  labels_before = map all_but_last ls;
  labels_behind = map all_but_last ms;
  together = refl;
  spelled_before = labels_back l h.before;
  spelled = item_back s h.item;
  spelled_behind = labels_back m h.behind;
}

pub value_back : {ws : Words} {v : List RawComponent} → Value ws v → AllByRecursion IsComponent v → SpellsValue ws (value_parts v)
value_back (last_component us vs ws ls ms i l s m) h = subst (SpellsValue (us ++ (vs ++ ws))) (sym (append-nil (item_parts i))) (last (us ++ (vs ++ ws)) (item_parts i) (component_back l s m h.0))
value_back (more_components us vs ws xs b ls ms i others l s m t) h =
    subst (λ (x : Words). SpellsValue x (item_parts i ++ value_parts others)) (three us vs ws (a_mark mark.Comma b ∷ xs))
    (more (us ++ (vs ++ ws)) xs (a_mark mark.Comma b) (item_parts i) (value_parts others) (component_back l s m h.0) refl (value_back t h.1))
