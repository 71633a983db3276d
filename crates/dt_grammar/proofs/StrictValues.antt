-- Each value that the grammar spells is a relaxed one that says it.
use Rattle.std.specs.List.{AllByRecursion}
use Rattle.dt_grammar.specs.Strict.{IsNumber, IsCell, IsItem, IsComponent}
use Rattle.std.proofs.Common.{Some, ◌≡◌, ℕ, true, List, [], ◌∷◌, ◌++◌, length, map, Option, refl, sym, ◌∙◌, ap, subst}
use Rattle.std.specs.Option.{option_map_or}
use Rattle.std.specs.Int.{to_be_bytes, Width}
use Rattle.std.proofs.lemmas.List.{append-nil}
use Rattle.dt_model.specs.Source.{Part, one, number_of, text_of}
use Rattle.dt_lex.specs.declared.token.Mark.TheVariants as mark
use Rattle.dt_expr.specs.Fits.{Fits, element}
use Rattle.dt_grammar.specs.Words.{Word, Words, IsMark}
use Rattle.dt_grammar.specs.Grammar.{SpellsNumber, IsWidth, bits_8, bits_16, bits_32, bits_64, SpellsCells, no_cells, cell_label, cell_number, cell_reference, SpellsBytes, no_bytes, byte_label, one_byte, SpellsBits, no_bits, some_bits, SpellsItem, cells, string, bytes, path, SpellsValue, last, more}
use Rattle.dt_grammar.specs.Unchecked.{RawCell, label_cell, number_cell, reference_cell, byte_cell, RawItem, cell_item, text_item, byte_item, path_item, RawComponent, width_of, value_or_zero, cells_parts, item_parts, value_parts}
use Rattle.dt_grammar.specs.Relaxed.{a_mark, is_width, Cells, no_more_cells, a_label_cell, a_number_cell, a_reference_cell, Bytes, no_more_bytes, a_label_byte, another_byte, Item, plain_cells, sized_cells, a_text, some_bytes, a_path_text, Value, last_component, more_components}
use Rattle.dt_grammar.proofs.Values.{three}
use Rattle.dt_grammar.proofs.Names.{spelled_reference, label_text, word_is, reference_word, labels_of}

pub number_is : {ws : Words} {n : ℕ} (s : SpellsNumber ws n) → value_or_zero s.expression ≡ n
number_is s = ap (λ (o : Option ℕ). option_map_or (λ (n : ℕ). n) o 0) s.evaluated

pub strict_number : {ws : Words} {n : ℕ} (s : SpellsNumber ws n) → IsNumber (length ws) s.expression
strict_number s = record { few = s.few; evaluated = s.evaluated ∙ ap Some (sym (number_is s)) }

-- ---- lists of cells and of bytes

record CellsOf (bits : ℕ) (ws : Words) (parts : List Part) : Type 0 where
  raw : List RawCell
  relaxed : Cells ws raw
  says : cells_parts bits raw ≡ parts
  strict : AllByRecursion (IsCell bits) raw

cells_of : (bits : ℕ) (width : Width) → width_of bits ≡ width → {ws : Words} {parts : List Part} → SpellsCells bits width ws parts → CellsOf bits ws parts
cells_of bits width is no_cells = record { raw = []; relaxed = no_more_cells; says = refl; strict = tt }
cells_of bits width is (cell_label w ws l parts h s) =
    let r = cells_of bits width is s in
    record {
      raw = label_cell w.bytes ∷ r.raw;
      relaxed = subst (λ (x : Word). Cells (x ∷ ws) (label_cell w.bytes ∷ r.raw)) (sym (word_is w _ h.kind)) (a_label_cell w.bytes ws r.raw r.relaxed);
      says = r.says;
      strict = (label_text h, r.strict);
    }
cells_of bits width is (cell_number us ws n parts h fits s) =
    let r = cells_of bits width is s in
    let value = number_is h in
    record {
      raw = number_cell (length us) h.expression ∷ r.raw;
      relaxed = a_number_cell us ws h.expression r.raw h.spelled r.relaxed;
      says = λ i. map one (to_be_bytes (is i) (element bits (value i))) ++ r.says i;
      strict = ((strict_number h, subst (Fits bits) (sym value) fits), r.strict);
    }
cells_of bits width is (cell_reference w ws to parts narrow h s) =
    let r = cells_of bits width is s in
    let f = reference_word h in
    record {
      raw = reference_cell f.target w.bytes ∷ r.raw;
      relaxed = subst (λ (x : Word). Cells (x ∷ ws) (reference_cell f.target w.bytes ∷ r.raw)) (sym f.is) (a_reference_cell f.target w.bytes ws r.raw r.relaxed);
      says = λ i. number_of (f.says i) ∷ r.says i;
      strict = ((narrow, spelled_reference h f), r.strict);
    }

record BytesOf (ws : Words) (parts : List Part) : Type 0 where
  raw : List RawCell
  relaxed : Bytes ws raw
  says : cells_parts 8 raw ≡ parts
  strict : AllByRecursion (IsCell 8) raw

bytes_of : {ws : Words} {parts : List Part} → SpellsBytes ws parts → BytesOf ws parts
bytes_of no_bytes = record { raw = []; relaxed = no_more_bytes; says = refl; strict = tt }
bytes_of (byte_label w ws l parts h s) =
    let r = bytes_of s in
    record {
      raw = label_cell w.bytes ∷ r.raw;
      relaxed = subst (λ (x : Word). Bytes (x ∷ ws) (label_cell w.bytes ∷ r.raw)) (sym (word_is w _ h.kind)) (a_label_byte w.bytes ws r.raw r.relaxed);
      says = r.says;
      strict = (label_text h, r.strict);
    }
bytes_of (one_byte w ws b parts h s) =
    let r = bytes_of s in
    record {
      raw = byte_cell b ∷ r.raw;
      relaxed = subst (λ (x : Word). Bytes (x ∷ ws) (byte_cell b ∷ r.raw)) (sym (word_is w _ h)) (another_byte b w.bytes ws r.raw r.relaxed);
      says = ap (λ (z : List Part). one b ∷ z) r.says;
      strict = (tt, r.strict);
    }

-- ---- items

pub record ItemOf (ws : Words) (parts : List Part) : Type 0 where
  pub raw : RawItem
  pub relaxed : Item ws raw
  pub says : item_parts raw ≡ parts
  pub strict : IsItem raw

width_is : {bits : ℕ} {width : Width} → IsWidth bits width → (width_of bits ≡ width) × (is_width bits ≡ true)
width_is bits_8 = (refl, refl)
width_is bits_16 = (refl, refl)
width_is bits_32 = (refl, refl)
width_is bits_64 = (refl, refl)

item_of_cells : {us : Words} {bits : ℕ} {width : Width} → SpellsBits us bits width → (ws : Words) (o c : Word) (parts : List Part) → IsMark mark.Less o → IsMark mark.Greater c → SpellsCells bits width ws parts → ItemOf (us ++ o ∷ (ws ++ c ∷ [])) parts
item_of_cells no_bits ws o c parts e f s =
    let r = cells_of 32 _ refl s in
    record {
      raw = cell_item 32 r.raw;
      relaxed = subst (λ (x : Words). Item x (cell_item 32 r.raw)) (λ i. sym (word_is o _ e) i ∷ (ws ++ sym (word_is c _ f) i ∷ [])) (plain_cells o.bytes c.bytes ws r.raw r.relaxed);
      says = r.says;
      strict = r.strict;
    }
item_of_cells (some_bits w v bits width g h d) ws o c parts e f s =
    let is = width_is d in
    let r = cells_of bits width is.0 s in
    record {
      raw = cell_item bits r.raw;
      relaxed = subst (λ (x : Words). Item x (cell_item bits r.raw)) (λ i. sym (word_is w _ g) i ∷ sym (word_is v _ h) i ∷ sym (word_is o _ e) i ∷ (ws ++ sym (word_is c _ f) i ∷ []))
          (sized_cells w.bytes v.bytes o.bytes c.bytes bits ws r.raw is.1 r.relaxed);
      says = r.says;
      strict = r.strict;
    }

pub item_of : {ws : Words} {parts : List Part} → SpellsItem ws parts → ItemOf ws parts
item_of (cells us ws o c bits width parts b e f s) = item_of_cells b ws o c parts e f s
item_of (string w h) = record { raw = text_item w.bytes; relaxed = subst (λ (x : Word). Item (x ∷ []) (text_item w.bytes)) (sym (word_is w _ h)) (a_text w.bytes); says = refl; strict = tt }
item_of (bytes ws o c parts e f s) =
    let r = bytes_of s in
    record {
      raw = byte_item r.raw;
      relaxed = subst (λ (x : Words). Item x (byte_item r.raw)) (λ i. sym (word_is o _ e) i ∷ (ws ++ sym (word_is c _ f) i ∷ [])) (some_bytes o.bytes c.bytes ws r.raw r.relaxed);
      says = r.says;
      strict = r.strict;
    }
item_of (path w to h) =
    let f = reference_word h in
    record {
      raw = path_item f.target w.bytes;
      relaxed = subst (λ (x : Word). Item (x ∷ []) (path_item f.target w.bytes)) (sym f.is) (a_path_text f.target w.bytes);
      says = ap (λ z. text_of z ∷ []) f.says;
      strict = spelled_reference h f;
    }

-- ---- values

pub record ValueOf (ws : Words) (parts : List Part) : Type 0 where
  pub raw : List RawComponent
  pub relaxed : Value ws raw
  pub says : value_parts raw ≡ parts
  pub strict : AllByRecursion IsComponent raw

pub value_of : {ws : Words} {parts : List Part} → SpellsValue ws parts → ValueOf ws parts
value_of (last ws parts c) =
    let b = labels_of c.spelled_before in
    let i = item_of c.spelled in
    let l = labels_of c.spelled_behind in
    let raw : List RawComponent = record { before = b.raw; item = i.raw; behind = l.raw } ∷ [] in
    record {
      raw = raw;
      relaxed = subst (λ (x : Words). Value x raw) (sym c.together) (last_component c.before c.item c.behind b.raw l.raw i.raw b.relaxed i.relaxed l.relaxed);
      says = append-nil (item_parts i.raw) ∙ i.says;
      strict = (record { before = b.strict; item = i.strict; behind = l.strict }, tt);
    }
value_of (more us ws comma parts others c e s) =
    let b = labels_of c.spelled_before in
    let i = item_of c.spelled in
    let l = labels_of c.spelled_behind in
    let r = value_of s in
    let raw : List RawComponent = record { before = b.raw; item = i.raw; behind = l.raw } ∷ r.raw in
    let same : c.before ++ (c.item ++ (c.behind ++ a_mark mark.Comma comma.bytes ∷ ws)) ≡ us ++ comma ∷ ws =
    ap (λ (x : Word). c.before ++ (c.item ++ (c.behind ++ x ∷ ws))) (sym (word_is comma _ e)) ∙ sym (three c.before c.item c.behind (comma ∷ ws)) ∙ ap (λ (x : Words). x ++ comma ∷ ws) (sym c.together) in
    record {
      raw = raw;
      relaxed = subst (λ (x : Words). Value x raw) same (more_components c.before c.item c.behind ws comma.bytes b.raw l.raw i.raw r.raw b.relaxed i.relaxed l.relaxed r.relaxed);
      says = λ j. i.says j ++ r.says j;
      strict = (record { before = b.strict; item = i.strict; behind = l.strict }, r.strict);
    }
