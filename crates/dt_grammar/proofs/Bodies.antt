-- The descent reads each body and each statement that a relaxed source spells.
use Rattle.std.proofs.Common.{◌≡◌, ℕ, List, [], ◌∷◌, ◌++◌, map, refl, ◌∙◌, ap, subst, append_assoc}
use Rattle.dt_lex.specs.declared.token.TokenKind.TheVariants as kind
use Rattle.dt_lex.specs.declared.token.Mark.TheVariants as mark
use Rattle.dt_lex.specs.declared.token.Keyword.TheVariants as keyword
use Rattle.dt_grammar.specs.Words.{Words}
use Rattle.dt_grammar.specs.Unchecked.{a_label, a_path, RawPlace, raw_root, raw_block, raw_child, raw_label, raw_close}
use Rattle.dt_grammar.specs.Relaxed.{word, a_mark, a_keyword, a_reference, Members, no_more_members, a_flag, a_property, a_deleted_property, a_child, a_deleted_child, Statement, a_root_block, a_node_block, a_deleted_node}
use Rattle.dt_grammar.specs.Wanted.{made_places, SomeMembers, BlockOpen, OneStatement, Move}
use Rattle.dt_grammar.specs.Descent.{found, Does, gives, part_found, Descends}
use Rattle.dt_grammar.proofs.Descent.{on}
use Rattle.dt_grammar.proofs.Values.{complete_labels, complete_value}

abbrev pub closing : List ℕ → List ℕ → Words → Words
closing z s rest = a_mark mark.CloseBrace z ∷ a_mark mark.Semicolon s ∷ rest

-- a body's members are read, whatever closing brace and tokens stand behind them
abbrev ReadsBody : Words → List RawPlace → Type 0
ReadsBody ws ps = (z : List ℕ) (rest : Words) → Descends SomeMembers (ws ++ a_mark mark.CloseBrace z ∷ rest) (found (made_places ps) (a_mark mark.CloseBrace z ∷ rest))

complete_block : (ps cs : List RawPlace) (a z s : List ℕ) (ws rest : Words) → ReadsBody ws cs → Descends (BlockOpen ps) (a_mark mark.OpenBrace a ∷ (ws ++ closing z s rest)) (found (made_places (ps ++ (cs ++ raw_close ∷ []))) rest)
complete_block ps cs a z s ws rest d = part_found (d z (a_mark mark.Semicolon s ∷ rest)) (part_found gives gives)

-- what a child says, and what is said behind it
pub child_then : (c : RawPlace) (ls cs ps : List RawPlace) → (c ∷ (ls ++ (cs ++ raw_close ∷ []))) ++ ps ≡ c ∷ (ls ++ (cs ++ raw_close ∷ ps))
child_then c ls cs ps = ap (λ (l : List RawPlace). c ∷ l) (append_assoc ls (cs ++ raw_close ∷ []) ps ∙ ap (λ (l : List RawPlace). ls ++ l) (append_assoc cs (raw_close ∷ []) ps))

places_as : (m : Move) (s : Words) (ps qs : List RawPlace) (r : Words) → ps ≡ qs → Does m s (found (made_places ps) r) → Does m s (found (made_places qs) r)
places_as m s ps qs r e d = subst (λ (l : List RawPlace). Does m s (found (made_places l) r)) e d

pub complete_members : {ws : Words} {ps : List RawPlace} → Members ws ps → ReadsBody ws ps
complete_members no_more_members z rest = part_found gives gives
complete_members (a_flag us ws n s ls ps l m) z rest =
    let end = a_mark mark.CloseBrace z ∷ rest in
    let here = word kind.Name n ∷ a_mark mark.Semicolon s ∷ ws in
    on SomeMembers _ (us ++ (here ++ end)) _ (append_assoc us here end)
    (part_found (complete_labels l (here ++ end) (λ b. refl)) (part_found gives (part_found (complete_members m z rest) gives)))
complete_members (a_property us vs ws n e s ls v ps l t m) z rest =
    let end = a_mark mark.CloseBrace z ∷ rest in
    let here = word kind.Name n ∷ a_mark mark.Equals e ∷ (vs ++ a_mark mark.Semicolon s ∷ (ws ++ end)) in
    on SomeMembers _ (us ++ here) _ (append_assoc us (word kind.Name n ∷ a_mark mark.Equals e ∷ (vs ++ a_mark mark.Semicolon s ∷ ws)) end ∙ ap (λ (x : Words). us ++ word kind.Name n ∷ a_mark mark.Equals e ∷ x) (append_assoc vs (a_mark mark.Semicolon s ∷ ws) end))
    (part_found (complete_labels l here (λ b. refl)) (part_found (part_found (complete_value t s (ws ++ end)) gives) (part_found (complete_members m z rest) gives)))
complete_members (a_deleted_property us ws k n s ls ps l m) z rest =
    let end = a_mark mark.CloseBrace z ∷ rest in
    let here = a_keyword keyword.DeleteProperty k ∷ word kind.Name n ∷ a_mark mark.Semicolon s ∷ ws in
    on SomeMembers _ (us ++ (here ++ end)) _ (append_assoc us here end)
    (part_found (complete_labels l (here ++ end) (λ b. refl)) (part_found (part_found gives gives) (part_found (complete_members m z rest) gives)))
complete_members (a_child us vs ws n a z s ls cs ps l c m) y rest =
    let end = a_mark mark.CloseBrace y ∷ rest in
    let here = word kind.Name n ∷ a_mark mark.OpenBrace a ∷ (vs ++ closing z s (ws ++ end)) in
    places_as _ _ _ _ end (child_then (raw_child n) (map raw_label ls) cs ps)
    (on SomeMembers _ (us ++ here) _ (append_assoc us (word kind.Name n ∷ a_mark mark.OpenBrace a ∷ (vs ++ closing z s ws)) end ∙ ap (λ (x : Words). us ++ word kind.Name n ∷ a_mark mark.OpenBrace a ∷ x) (append_assoc vs (closing z s ws) end))
    (part_found (complete_labels l here (λ b. refl))
    (part_found (part_found (complete_block (raw_child n ∷ map raw_label ls) cs a z s vs (ws ++ end) (complete_members c)) gives) (part_found (complete_members m y rest) gives))))
complete_members (a_deleted_child us ws k n s ls ps l m) z rest =
    let end = a_mark mark.CloseBrace z ∷ rest in
    let here = a_keyword keyword.DeleteNode k ∷ word kind.Name n ∷ a_mark mark.Semicolon s ∷ ws in
    on SomeMembers _ (us ++ (here ++ end)) _ (append_assoc us here end)
    (part_found (complete_labels l (here ++ end) (λ b. refl)) (part_found (part_found gives gives) (part_found (complete_members m z rest) gives)))

pub complete_statement : {ls : List (List ℕ)} {ws : Words} {ps : List RawPlace} → Statement ls ws ps → (rest : Words) → Descends (OneStatement ls) (ws ++ rest) (found (made_places ps) rest)
complete_statement (a_root_block c a z s ws cs m) rest =
    on (OneStatement []) _ (a_mark mark.Slash c ∷ a_mark mark.OpenBrace a ∷ (ws ++ closing z s rest)) _ (ap (λ (x : Words). a_mark mark.Slash c ∷ a_mark mark.OpenBrace a ∷ x) (append_assoc ws (closing z s []) rest))
    (part_found (complete_block (raw_root ∷ []) cs a z s ws rest (complete_members m)) gives)
complete_statement (a_node_block ls a_label b a z s ws cs m) rest =
    on (OneStatement ls) _ (a_reference a_label b ∷ a_mark mark.OpenBrace a ∷ (ws ++ closing z s rest)) _ (ap (λ (x : Words). a_reference a_label b ∷ a_mark mark.OpenBrace a ∷ x) (append_assoc ws (closing z s []) rest))
    (part_found (complete_block (raw_block a_label b ∷ map raw_label ls) cs a z s ws rest (complete_members m)) gives)
complete_statement (a_node_block ls a_path b a z s ws cs m) rest =
    on (OneStatement ls) _ (a_reference a_path b ∷ a_mark mark.OpenBrace a ∷ (ws ++ closing z s rest)) _ (ap (λ (x : Words). a_reference a_path b ∷ a_mark mark.OpenBrace a ∷ x) (append_assoc ws (closing z s []) rest))
    (part_found (complete_block (raw_block a_path b ∷ map raw_label ls) cs a z s ws rest (complete_members m)) gives)
complete_statement (a_deleted_node a_label k b s) rest = part_found (part_found gives gives) gives
complete_statement (a_deleted_node a_path k b s) rest = part_found (part_found gives gives) gives
