-- A value that the grammar spells is read with no fault.
use Rattle.std.proofs.Common.{◌≡◌, ℕ, Bool, true, false, List, [], ◌∷◌, ◌++◌, Option, Some, refl, ◌∙◌, ap, append_assoc}
use Rattle.std.specs.Prelude.{if◌then◌else◌}
use Rattle.std.specs.List.{AllByRecursion}
use Rattle.dt_lex.specs.declared.token.TokenKind.{TokenKind}
use Rattle.dt_lex.specs.declared.token.TokenKind.TheVariants as kind
use Rattle.dt_lex.specs.declared.token.Mark.TheVariants as mark
use Rattle.dt_lex.specs.declared.token.Keyword.TheVariants as keyword
use Rattle.dt_grammar.specs.Words.{Word, Words}
use Rattle.dt_grammar.specs.Unchecked.{a_label, a_path, RawCell, RawItem, RawComponent}
use Rattle.dt_grammar.specs.Relaxed.{word, a_mark, a_keyword, Labels, no_more_labels, another_label, Cells, no_more_cells, a_label_cell, a_number_cell, a_reference_cell, Bytes, no_more_bytes, a_label_byte, another_byte, Item, plain_cells, sized_cells, a_text, some_bytes, a_path_text, Value, last_component, more_components}
use Rattle.dt_grammar.specs.Strict.{AreLabelTexts, IsCell, IsItem, IsComponent}
use Rattle.dt_grammar.specs.Wanted.{made_labels, made_cells, made_item, made_value, SomeLabels, SomeCells, AfterCell, SomeBytes, OneItem, BitsOpen, OneValue, Prim, Done, kind_at, bytes_at, want, give, refuse}
use Rattle.dt_grammar.specs.Moves.{at_labels, at_cells, at_bytes, at_comma}
use Rattle.dt_grammar.specs.Descent.{first}
use Rattle.dt_grammar.specs.Faults.{Around, in_elements, label_named, cell_named, cell_placed}
use Rattle.dt_grammar.proofs.Expressions.{complete}
use Rattle.dt_grammar.proofs.Values.{NoLabel, item_first, three}
use Rattle.dt_grammar.proofs.Unbroken.{Unbroken, number_read, given_here, read_on, done, unbroken_on}

unlabelled_at : (b : List ℕ) (k : Option TokenKind) → at_labels b k ≡ give false (made_labels []) → label_named b k
unlabelled_at b (Some kind.Label) h = cc
unlabelled_at b _ h = tt

pub unbroken_labels : (a : Around) {us : Words} {ls : List (List ℕ)} → Labels us ls → AreLabelTexts ls → (rest : Words) → NoLabel (first rest) → Unbroken a SomeLabels (us ++ rest) (made_labels ls) rest
unbroken_labels a no_more_labels g rest h = given_here {taken = false} (h _) (tt, unlabelled_at (bytes_at (first rest)) (kind_at (first rest)) (h _), tt)
unbroken_labels a (another_label b ws ls s) g rest h = read_on refl (tt, g.0, tt) (unbroken_labels a s g.1 rest h) done

-- no cell stands there
abbrev pub NoCell : Option Word → Type 0
NoCell k = (b : List ℕ) → at_cells b (kind_at k) ≡ give false (made_cells [])

no_cell_named : (bits : ℕ) (b : List ℕ) (k : Option TokenKind) → at_cells b k ≡ give false (made_cells []) → cell_named b k × cell_placed bits k
no_cell_named bits b (Some kind.Label) h = cc
no_cell_named bits b (Some kind.LabelReference) h = cc
no_cell_named bits b (Some kind.PathReference) h = cc
no_cell_named bits b _ h = (tt, tt)

number_named : (bits : ℕ) (b : List ℕ) (k : Option TokenKind) → at_cells b k ≡ want false Prim AfterCell → cell_named b k × cell_placed bits k
number_named bits b (Some kind.Label) h = cc
number_named bits b (Some kind.LabelReference) h = cc
number_named bits b (Some kind.PathReference) h = cc
number_named bits b _ h = (tt, tt)

pub unbroken_cells : (a : Around) {ws : Words} {cs : List RawCell} → Cells ws cs → AllByRecursion (IsCell a.bits) cs → (rest : Words) → NoCell (first rest) → Unbroken a SomeCells (ws ++ rest) (made_cells cs) rest
unbroken_cells a no_more_cells g rest h =
    let n = no_cell_named a.bits (bytes_at (first rest)) (kind_at (first rest)) (h _) in
    given_here {taken = false} (h _) (tt, n.0, n.1)
unbroken_cells a (a_label_cell b ws cs s) g rest h = read_on refl (tt, g.0, tt) (unbroken_cells a s g.1 rest h) done
unbroken_cells a (a_number_cell us ws e cs s t) g rest h =
    let more = ws ++ rest in
    let d = complete s more in
    let n = number_named a.bits (bytes_at (first (us ++ more))) (kind_at (first (us ++ more))) (d.1 _) in
    unbroken_on a SomeCells _ (us ++ more) _ _ (append_assoc us ws rest)
    (read_on (d.1 _) (tt, n.0, n.1) (number_read d.2 g.0.0 g.0.1) (read_on refl (tt, tt, tt) (unbroken_cells a t g.1 rest h) done))
unbroken_cells a (a_reference_cell a_label b ws cs s) g rest h = read_on refl (tt, g.0.1, g.0.0) (unbroken_cells a s g.1 rest h) done
unbroken_cells a (a_reference_cell a_path b ws cs s) g rest h = read_on refl (tt, g.0.1, g.0.0) (unbroken_cells a s g.1 rest h) done

-- neither a byte nor a label stands there
abbrev pub NoByte : Option Word → Type 0
NoByte k = (b : List ℕ) → at_bytes b (kind_at k) ≡ give false (made_cells [])

no_byte_named : (b : List ℕ) (k : Option TokenKind) → at_bytes b k ≡ give false (made_cells []) → label_named b k
no_byte_named b (Some kind.Label) h = cc
no_byte_named b _ h = tt

pub unbroken_bytes : (a : Around) {ws : Words} {cs : List RawCell} → Bytes ws cs → AllByRecursion (IsCell 8) cs → (rest : Words) → NoByte (first rest) → Unbroken a SomeBytes (ws ++ rest) (made_cells cs) rest
unbroken_bytes a no_more_bytes g rest h = given_here {taken = false} (h _) (tt, no_byte_named (bytes_at (first rest)) (kind_at (first rest)) (h _), tt)
unbroken_bytes a (a_label_byte b ws cs s) g rest h = read_on refl (tt, g.0, tt) (unbroken_bytes a s g.1 rest h) done
unbroken_bytes a (another_byte n b ws cs s) g rest h = read_on refl (tt, tt, tt) (unbroken_bytes a s g.1 rest h) done

pub unbroken_item : (a : Around) {ws : Words} {i : RawItem} → Item ws i → IsItem i → (rest : Words) → Unbroken a OneItem (ws ++ rest) (made_item i) rest
unbroken_item a (plain_cells b z ws cs s) g rest =
    unbroken_on a OneItem _ (a_mark mark.Less b ∷ (ws ++ a_mark mark.Greater z ∷ rest)) _ _ (ap (λ (l : Words). a_mark mark.Less b ∷ l) (append_assoc ws (a_mark mark.Greater z ∷ []) rest))
    (read_on refl (tt, tt, tt) (unbroken_cells (in_elements 32 a) s g (a_mark mark.Greater z ∷ rest) (λ x. refl)) (given_here {taken = true} refl (tt, tt, tt)))
unbroken_item a (sized_cells k i b z bits ws cs w s) g rest =
    let cells = a_mark mark.Less b ∷ (ws ++ a_mark mark.Greater z ∷ rest) in
    unbroken_on a OneItem _ (a_keyword keyword.Bits k ∷ word (kind.Integer bits) i ∷ cells) _ _
    (ap (λ (l : Words). a_keyword keyword.Bits k ∷ word (kind.Integer bits) i ∷ a_mark mark.Less b ∷ l) (append_assoc ws (a_mark mark.Greater z ∷ []) rest))
    (read_on refl (tt, tt, tt)
    (read_on (ap (λ (x : Bool). if x then want true (BitsOpen bits) Done else refuse) w) (tt, tt, tt)
    (read_on refl (tt, tt, tt) (unbroken_cells (in_elements bits (in_elements 32 a)) s g (a_mark mark.Greater z ∷ rest) (λ x. refl)) (given_here {taken = true} refl (tt, tt, tt))) done)
    done)
unbroken_item a (a_text b) g rest = given_here {taken = true} refl (tt, tt, tt)
unbroken_item a (some_bytes b z ws cs s) g rest =
    unbroken_on a OneItem _ (a_mark mark.OpenBracket b ∷ (ws ++ a_mark mark.CloseBracket z ∷ rest)) _ _ (ap (λ (l : Words). a_mark mark.OpenBracket b ∷ l) (append_assoc ws (a_mark mark.CloseBracket z ∷ []) rest))
    (read_on refl (tt, tt, tt) (unbroken_bytes (in_elements 32 a) s g (a_mark mark.CloseBracket z ∷ rest) (λ x. refl)) (given_here {taken = true} refl (tt, tt, tt)))
unbroken_item a (a_path_text a_label b) g rest = given_here {taken = true} refl (tt, g, tt)
unbroken_item a (a_path_text a_path b) g rest = given_here {taken = true} refl (tt, g, tt)

-- no component follows there
abbrev pub NoComma : Option Word → Type 0
NoComma k = (c : RawComponent) → at_comma c (kind_at k) ≡ give false (made_value (c ∷ []))

pub unbroken_value : (a : Around) {ws : Words} {v : List RawComponent} → Value ws v → AllByRecursion IsComponent v → (rest : Words) → NoLabel (first rest) → NoComma (first rest) → Unbroken a OneValue (ws ++ rest) (made_value v) rest
unbroken_value a (last_component us vs ws ls ms i l s m) g rest h n =
    unbroken_on a OneValue _ (us ++ (vs ++ (ws ++ rest))) _ _ (three us vs ws rest)
    (read_on refl (tt, tt, tt) (unbroken_labels a l g.0.before (vs ++ (ws ++ rest)) (item_first s (ws ++ rest)))
    (read_on refl (tt, tt, tt) (unbroken_item a s g.0.item (ws ++ rest))
    (read_on refl (tt, tt, tt) (unbroken_labels a m g.0.behind rest h) (given_here {taken = false} (n _) (tt, tt, tt)))))
unbroken_value a (more_components us vs ws xs c ls ms i others l s m t) g rest h n =
    let more = a_mark mark.Comma c ∷ (xs ++ rest) in
    unbroken_on a OneValue _ (us ++ (vs ++ (ws ++ more))) _ _ (three us vs (ws ++ a_mark mark.Comma c ∷ xs) rest ∙ ap (λ (l : Words). us ++ (vs ++ l)) (append_assoc ws (a_mark mark.Comma c ∷ xs) rest))
    (read_on refl (tt, tt, tt) (unbroken_labels a l g.0.before (vs ++ (ws ++ more)) (item_first s (ws ++ more)))
    (read_on refl (tt, tt, tt) (unbroken_item a s g.0.item (ws ++ more))
    (read_on refl (tt, tt, tt) (unbroken_labels a m g.0.behind more (λ b. refl)) (read_on refl (tt, tt, tt) (unbroken_value a t g.1 rest h n) done))))
