-- The descent reads each value that a relaxed source spells.
use Rattle.std.proofs.Common.{◌≡◌, ℕ, Bool, true, false, List, [], ◌∷◌, ◌++◌, Option, refl, ◌∙◌, ap, append_assoc}
use Rattle.std.specs.Prelude.{if◌then◌else◌}
use Rattle.dt_lex.specs.declared.token.TokenKind.TheVariants as kind
use Rattle.dt_lex.specs.declared.token.Mark.TheVariants as mark
use Rattle.dt_lex.specs.declared.token.Keyword.TheVariants as keyword
use Rattle.dt_grammar.specs.Words.{Word, Words}
use Rattle.dt_grammar.specs.Unchecked.{a_label, a_path, RawCell, RawItem, RawComponent}
use Rattle.dt_grammar.specs.Relaxed.{word, a_mark, a_keyword, Labels, no_more_labels, another_label, Cells, no_more_cells, a_label_cell, a_number_cell, a_reference_cell, Bytes, no_more_bytes, a_label_byte, another_byte, Item, plain_cells, sized_cells, a_text, some_bytes, a_path_text, Value, last_component, more_components}
use Rattle.dt_grammar.specs.Wanted.{made_labels, made_cells, made_item, made_value, SomeLabels, SomeCells, SomeBytes, OneItem, BitsOpen, OneValue, Done, kind_at, want, give, refuse}
use Rattle.dt_grammar.specs.Moves.{at_labels}
use Rattle.dt_grammar.specs.Descent.{first, found, gives, part_found, Descends}
use Rattle.dt_grammar.proofs.Descent.{by_move, on}
use Rattle.dt_grammar.proofs.Expressions.{complete}

-- no label stands there
abbrev pub NoLabel : Option Word → Type 0
NoLabel k = (b : List ℕ) → at_labels b (kind_at k) ≡ give false (made_labels [])

pub complete_labels : {us : Words} {ls : List (List ℕ)} → Labels us ls → (rest : Words) → NoLabel (first rest) → Descends SomeLabels (us ++ rest) (found (made_labels ls) rest)
complete_labels no_more_labels rest h = by_move _ _ rest _ (h _) gives
complete_labels (another_label b ws ls s) rest h = part_found (complete_labels s rest h) gives

complete_cells : {ws : Words} {cs : List RawCell} → Cells ws cs → (z : List ℕ) (rest : Words) → Descends SomeCells (ws ++ a_mark mark.Greater z ∷ rest) (found (made_cells cs) (a_mark mark.Greater z ∷ rest))
complete_cells no_more_cells z rest = gives
complete_cells (a_label_cell b ws cs s) z rest = part_found (complete_cells s z rest) gives
complete_cells (a_number_cell us ws e cs s t) z rest =
    let more = ws ++ a_mark mark.Greater z ∷ rest in
    let d = complete s more in
    on SomeCells _ (us ++ more) _ (append_assoc us ws (a_mark mark.Greater z ∷ rest))
    (by_move _ _ (us ++ more) _ (d.1 _) (part_found d.2 (part_found (complete_cells t z rest) gives)))
complete_cells (a_reference_cell a_label b ws cs s) z rest = part_found (complete_cells s z rest) gives
complete_cells (a_reference_cell a_path b ws cs s) z rest = part_found (complete_cells s z rest) gives

complete_bytes : {ws : Words} {cs : List RawCell} → Bytes ws cs → (z : List ℕ) (rest : Words) → Descends SomeBytes (ws ++ a_mark mark.CloseBracket z ∷ rest) (found (made_cells cs) (a_mark mark.CloseBracket z ∷ rest))
complete_bytes no_more_bytes z rest = gives
complete_bytes (a_label_byte b ws cs s) z rest = part_found (complete_bytes s z rest) gives
complete_bytes (another_byte n b ws cs s) z rest = part_found (complete_bytes s z rest) gives

complete_item : {ws : Words} {i : RawItem} → Item ws i → (rest : Words) → Descends OneItem (ws ++ rest) (found (made_item i) rest)
complete_item (plain_cells a z ws cs s) rest =
    on OneItem _ (a_mark mark.Less a ∷ (ws ++ a_mark mark.Greater z ∷ rest)) _ (ap (λ (l : Words). a_mark mark.Less a ∷ l) (append_assoc ws (a_mark mark.Greater z ∷ []) rest))
    (part_found (complete_cells s z rest) gives)
complete_item (sized_cells k i a z bits ws cs w s) rest =
    let cells = a_mark mark.Less a ∷ (ws ++ a_mark mark.Greater z ∷ rest) in
    on OneItem _ (a_keyword keyword.Bits k ∷ word (kind.Integer bits) i ∷ cells) _
    (ap (λ (l : Words). a_keyword keyword.Bits k ∷ word (kind.Integer bits) i ∷ a_mark mark.Less a ∷ l) (append_assoc ws (a_mark mark.Greater z ∷ []) rest))
    (part_found
    (by_move _ _ (word (kind.Integer bits) i ∷ cells) _ (ap (λ (b : Bool). if b then want true (BitsOpen bits) Done else refuse) w)
    (part_found (part_found (complete_cells s z rest) gives) gives))
    gives)
complete_item (a_text b) rest = gives
complete_item (some_bytes a z ws cs s) rest =
    on OneItem _ (a_mark mark.OpenBracket a ∷ (ws ++ a_mark mark.CloseBracket z ∷ rest)) _ (ap (λ (l : Words). a_mark mark.OpenBracket a ∷ l) (append_assoc ws (a_mark mark.CloseBracket z ∷ []) rest))
    (part_found (complete_bytes s z rest) gives)
complete_item (a_path_text a_label b) rest = gives
complete_item (a_path_text a_path b) rest = gives

pub item_first : {ws : Words} {i : RawItem} → Item ws i → (rest : Words) → NoLabel (first (ws ++ rest))
item_first (plain_cells a z ws cs s) rest = λ b. refl
item_first (sized_cells k i a z bits ws cs w s) rest = λ b. refl
item_first (a_text b) rest = λ b. refl
item_first (some_bytes a z ws cs s) rest = λ b. refl
item_first (a_path_text a_label b) rest = λ b. refl
item_first (a_path_text a_path b) rest = λ b. refl

-- lists one after another, and a rest
pub three : (us vs ws rest : Words) → (us ++ (vs ++ ws)) ++ rest ≡ us ++ (vs ++ (ws ++ rest))
three us vs ws rest = append_assoc us (vs ++ ws) rest ∙ ap (λ (l : Words). us ++ l) (append_assoc vs ws rest)

pub complete_value : {ws : Words} {v : List RawComponent} → Value ws v → (z : List ℕ) (rest : Words) → Descends OneValue (ws ++ a_mark mark.Semicolon z ∷ rest) (found (made_value v) (a_mark mark.Semicolon z ∷ rest))
complete_value (last_component us vs ws ls ms i l s m) z rest =
    let end = a_mark mark.Semicolon z ∷ rest in
    on OneValue _ (us ++ (vs ++ (ws ++ end))) _ (three us vs ws end)
    (part_found (complete_labels l (vs ++ (ws ++ end)) (item_first s (ws ++ end)))
    (part_found (complete_item s (ws ++ end)) (part_found (complete_labels m end (λ b. refl)) gives)))
complete_value (more_components us vs ws xs c ls ms i others l s m t) z rest =
    let end = a_mark mark.Semicolon z ∷ rest in
    let more = a_mark mark.Comma c ∷ (xs ++ end) in
    on OneValue _ (us ++ (vs ++ (ws ++ more))) _ (three us vs (ws ++ a_mark mark.Comma c ∷ xs) end ∙ ap (λ (l : Words). us ++ (vs ++ l)) (append_assoc ws (a_mark mark.Comma c ∷ xs) end))
    (part_found (complete_labels l (vs ++ (ws ++ more)) (item_first s (ws ++ more)))
    (part_found (complete_item s (ws ++ more)) (part_found (complete_labels m more (λ b. refl)) (part_found (complete_value t z rest) gives))))
