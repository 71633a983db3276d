-- The lines of a tree's text are cut into its words. A line's front is told with the line feed before it, which is one word of blanks with its tabs.
use Rattle.std.proofs.Common.{◌≡◌, ℕ, zero, suc, ◌-◌, ◌<◌, ◌^◌, Bool, true, false, List, [], ◌∷◌, ◌++◌, length, get_or, refl, sym, ◌∙◌, ap, subst, append_assoc, arith}
use Rattle.std.specs.Prelude.{◌==◌, codes, IsTrue}
use Rattle.std.specs.Int.{w64, to_be_bytes}
use Rattle.std.specs.List.{AllByRecursion}
use Rattle.std.proofs.lemmas.List.Elements.{recursion_from_All}
use Rattle.std.proofs.lemmas.Bool.{false_from_ne_true}
use Rattle.dt_model.proofs.Cases.{either_left}
use Rattle.dt_model.specs.Names.{IsPropertyName, is_name_byte}
use Rattle.dt_model.specs.Tree.{Property, Forest, no_nodes, branch, Reading}
use Rattle.dt_model.specs.Valid.{AreNodes, IsReservation, IsValid}
use Rattle.dt_lex.specs.declared.byte.Class.TheVariants as class
use Rattle.dt_lex.specs.declared.token.Keyword.TheVariants as keyword
use Rattle.dt_lex.specs.declared.token.Mode.TheVariants as mode
use Rattle.dt_lex.specs.declared.token.Mark.TheVariants as mark
use Rattle.dt_lex.specs.Bytes.{is_in}
use Rattle.dt_lex.specs.Words.{Each}
use Rattle.dt_lex.specs.Lexing.{ends_line}
use Rattle.dt_grammar.specs.Words.{Words}
use Rattle.dt_decompile_laws.specs.Laws.{TextHasTokens}
use Rattle.dt_decompile_laws.specs.Said.{HoldBytes, NodesHoldBytes, HasBytes}
use Rattle.dt_model.specs.Printed.{hexadecimal, value_text, tabs, property_line, property_lines, node_lines, reservation_line, reservation_lines, printed}
use Rattle.dt_decompile_laws.specs.Words.{mark_word, keyword_word, name_word, long_word, value_words, property_words, node_words, reservation_words, words_of_tree}
use Rattle.dt_decompile_laws.proofs.CutWords.{Cuts, end_cut, cut_tokens}
use Rattle.dt_decompile_laws.proofs.MissedRules.{CutsOn, mark_on, keyword_on, blanks_on}
use Rattle.dt_decompile_laws.proofs.NamedRuns.{Ended, name_not_blank, name_on, integer_at}
use Rattle.dt_decompile_laws.proofs.WrittenNumbers.{AreBytes, long_digits, long_integer}
use Rattle.dt_decompile_laws.proofs.CutValues.{value_on, value_ended}

-- ---- tabs

-- tabs are blanks
tabs_blank : (depth : ℕ) → Each (is_in class.Blank) (tabs depth)
tabs_blank zero = tt
tabs_blank (suc depth) = (refl, tabs_blank depth)

-- the last byte of tabs
last_tab : (b depth : ℕ) → get_or (b ∷ tabs (suc depth)) (length (tabs (suc depth))) 0 ≡ 9
last_tab b zero = refl
last_tab b (suc depth) = last_tab 9 depth

-- behind a tab no line begins
tabs_within : (depth : ℕ) → ends_line (10 ∷ tabs (suc depth)) ≡ false
tabs_within depth =
    let last : length (10 ∷ tabs (suc depth)) - 1 ≡ length (tabs (suc depth)) = omega arith in
    ap (λ (n : ℕ). n == 10) (ap (λ (i : ℕ). get_or (10 ∷ tabs (suc depth)) i 0) last ∙ last_tab 10 depth)

-- a line feed, tabs, and a name
name_line : (depth : ℕ) (name rest : List ℕ) (ws : Words) → 0 < length name → Each (is_in class.Name) name → Ended rest → CutsOn mode.Plain rest ws →
    CutsOn mode.Name (10 ∷ (tabs (suc depth) ++ (name ++ rest))) (name_word name ∷ ws)
name_line depth [] rest ws some a z on fresh = absurd (omega (arith, some))
name_line depth (b ∷ name) rest ws some a z on fresh =
    blanks_on mode.Name fresh 10 (tabs (suc depth)) ((b ∷ name) ++ rest) (name_word (b ∷ name) ∷ ws) (refl, tabs_blank (suc depth))
    (false_from_ne_true _ (name_not_blank b a.0))
    (subst (λ (f : Bool). Cuts mode.Name f ((b ∷ name) ++ rest) (name_word (b ∷ name) ∷ ws)) (sym (tabs_within depth)) (name_on b name rest ws a z on))

-- a line feed, tabs, and the end of a node
close_line : (depth : ℕ) (rest : List ℕ) (ws : Words) → CutsOn mode.Name (10 ∷ rest) ws →
    CutsOn mode.Name (10 ∷ (tabs depth ++ 125 ∷ 59 ∷ 10 ∷ rest)) (mark_word mark.CloseBrace ∷ mark_word mark.Semicolon ∷ ws)
close_line depth rest ws on fresh =
    blanks_on mode.Name fresh 10 (tabs depth) (125 ∷ 59 ∷ 10 ∷ rest) _ (refl, tabs_blank depth) refl
    (mark_on mark.CloseBrace 34 mode.Name (ends_line (10 ∷ tabs depth)) (59 ∷ 10 ∷ rest) _ refl refl (omega arith)
    (mark_on mark.Semicolon 41 mode.Name false (10 ∷ rest) ws refl refl (omega arith) (on false)))

-- ---- properties

-- a property's name is made of the bytes of names
property_named : (name : List ℕ) → AllByRecursion (λ b. IsTrue (is_name_byte b)) name → Each (is_in class.Name) name
property_named [] h = tt
property_named (b ∷ name) h = (either_left (is_name_byte b) (b == 64) h.0, property_named name h.1)

-- and so is a node's
node_named : (name : List ℕ) → AllByRecursion (λ b. is_in class.Name b ≡ true) name → Each (is_in class.Name) name
node_named [] h = tt
node_named (b ∷ name) h = (h.0, node_named name h.1)

-- a property's line, and what stands behind it
regroup_property : (a b c e r : List ℕ) → (a ++ (b ++ (c ++ e))) ++ r ≡ a ++ (b ++ (c ++ (e ++ r)))
regroup_property a b c e r = simp append_assoc refl

-- the line of a property, from the line feed before it on
property_on : (depth : ℕ) (p : Property) (rest : List ℕ) (ws : Words) → IsPropertyName p.name → AreBytes p.value → CutsOn mode.Name (10 ∷ rest) ws →
    CutsOn mode.Name (10 ∷ (property_line (suc depth) p ++ rest)) (name_word p.name ∷ (value_words p.value ++ mark_word mark.Semicolon ∷ ws))
property_on depth p rest ws n h on fresh =
    subst (λ (s : List ℕ). Cuts mode.Name fresh (10 ∷ s) (name_word p.name ∷ (value_words p.value ++ mark_word mark.Semicolon ∷ ws)))
    (sym (regroup_property (tabs (suc depth)) p.name (value_text p.value) (codes ";\n") rest))
    (name_line depth p.name (value_text p.value ++ 59 ∷ 10 ∷ rest) _ n.not_empty
    (property_named p.name (recursion_from_All _ p.name n.allowed)) (value_ended p.value (10 ∷ rest))
    (value_on p.value (10 ∷ rest) _ h (λ f. mark_on mark.Semicolon 41 mode.Plain f (10 ∷ rest) ws refl refl (omega arith) (on false))) fresh)

-- the lines of a node's properties
properties_on : (depth : ℕ) (ps : List Property) (rest : List ℕ) (ws : Words) → AllByRecursion (λ p. IsPropertyName p.name) ps → HoldBytes ps → CutsOn mode.Name (10 ∷ rest) ws →
    CutsOn mode.Name (10 ∷ (property_lines (suc depth) ps ++ rest)) (property_words ps ++ ws)
properties_on depth [] rest ws n h on fresh = on fresh
properties_on depth (p ∷ ps) rest ws n h on fresh =
    let text = append_assoc (property_line (suc depth) p) (property_lines (suc depth) ps) rest in
    let words = append_assoc (value_words p.value) (mark_word mark.Semicolon ∷ property_words ps) ws in
    subst (λ (x : List ℕ × Words). Cuts mode.Name fresh (10 ∷ x.0) (name_word p.name ∷ x.1)) (λ i. (sym text i, sym words i))
    (property_on depth p (property_lines (suc depth) ps ++ rest) (property_words ps ++ ws) n.0 h.0 (properties_on depth ps rest ws n.1 h.1 on) fresh)

-- ---- nodes

-- a node's lines, and what stands behind them
regroup_node : {X : Type 0} (a b c d e f g h r : List X) → ((a ++ (b ++ c)) ++ (d ++ (e ++ ((f ++ g) ++ h)))) ++ r ≡ a ++ (b ++ (c ++ (d ++ (e ++ (f ++ (g ++ (h ++ r)))))))
regroup_node a b c d e f g h r = simp append_assoc refl

-- its words, and those behind them
regroup_words : (d e g h r : Words) → (d ++ (e ++ (g ++ h))) ++ r ≡ d ++ (e ++ (g ++ (h ++ r)))
regroup_words d e g h r = simp append_assoc refl

-- the lines of siblings
nodes_on : (depth : ℕ) (nodes : Forest) (rest : List ℕ) (ws : Words) → AreNodes nodes → NodesHoldBytes nodes → CutsOn mode.Name (10 ∷ rest) ws →
    CutsOn mode.Name (10 ∷ (node_lines (suc depth) nodes ++ rest)) (node_words nodes ++ ws)
nodes_on depth no_nodes rest ws n h on fresh = on fresh
nodes_on depth (branch name ps children siblings) rest ws n h on fresh =
    let later = nodes_on depth siblings rest ws n.4 h.2 on in
    let close = close_line (suc depth) (node_lines (suc depth) siblings ++ rest) (node_words siblings ++ ws) later in
    let inner = nodes_on (suc depth) children _ _ n.2 h.1 close in
    let own = properties_on (suc depth) ps _ _ n.1.named h.0 inner in
    let text = regroup_node (tabs (suc depth)) name (codes " {\n") (property_lines (suc (suc depth)) ps) (node_lines (suc (suc depth)) children) (tabs (suc depth)) (codes "};\n") (node_lines (suc depth) siblings) rest in
    let words = regroup_words (property_words ps) (node_words children) (mark_word mark.CloseBrace ∷ mark_word mark.Semicolon ∷ []) (node_words siblings) ws in
    subst (λ (x : List ℕ × Words). Cuts mode.Name fresh (10 ∷ x.0) (name_word name ∷ mark_word mark.OpenBrace ∷ x.1)) (λ i. (sym text i, sym words i))
    (name_line depth name _ _ n.0.not_empty (node_named name (recursion_from_All _ name n.0.allowed)) refl
    (λ f. blanks_on mode.Plain f 32 [] _ _ (refl, tt) refl (mark_on mark.OpenBrace 33 mode.Plain false _ _ refl refl (omega arith) (own false))) fresh)

-- ---- reservations

-- a number of sixteen digits
long_on : (n : ℕ) (rest : List ℕ) (ws : Words) → n < 2 ^ 64 → Ended rest → CutsOn mode.Plain rest ws →
    Cuts mode.Plain false (48 ∷ 120 ∷ (hexadecimal (to_be_bytes w64 n) ++ rest)) (long_word n ∷ ws)
long_on n rest ws l z on = integer_at (hexadecimal (to_be_bytes w64 n)) rest ws n (_, _, refl) (long_digits n) z (long_integer n l) on

-- a reservation's line, and what stands behind it
regroup_reservation : (a b c d e r : List ℕ) → (a ++ (b ++ (c ++ (d ++ e)))) ++ r ≡ a ++ (b ++ (c ++ (d ++ (e ++ r))))
regroup_reservation a b c d e r = simp append_assoc refl

-- the line of a reservation
reservation_on : (r : ℕ × ℕ) (rest : List ℕ) (ws : Words) → IsReservation r → CutsOn mode.Name (10 ∷ rest) ws →
    CutsOn mode.Name (10 ∷ (reservation_line r ++ rest)) (keyword_word keyword.Memreserve ∷ long_word r.0 ∷ long_word r.1 ∷ mark_word mark.Semicolon ∷ ws)
reservation_on r rest ws h on fresh =
    subst (λ (s : List ℕ). Cuts mode.Name fresh (10 ∷ s) (keyword_word keyword.Memreserve ∷ long_word r.0 ∷ long_word r.1 ∷ mark_word mark.Semicolon ∷ ws))
    (sym (regroup_reservation (codes "/memreserve/ 0x") (hexadecimal (to_be_bytes w64 r.0)) (codes " 0x") (hexadecimal (to_be_bytes w64 r.1)) (codes ";\n") rest))
    (blanks_on mode.Name fresh 10 [] _ _ (refl, tt) refl
    (keyword_on keyword.Memreserve 9 mode.Name true (32 ∷ 48 ∷ 120 ∷ (hexadecimal (to_be_bytes w64 r.0) ++ (32 ∷ 48 ∷ 120 ∷ (hexadecimal (to_be_bytes w64 r.1) ++ 59 ∷ 10 ∷ rest)))) _ refl refl (omega arith)
    (blanks_on mode.Plain false 32 [] _ _ (refl, tt) refl
    (long_on r.0 _ _ h.address refl
    (λ f. blanks_on mode.Plain f 32 [] _ _ (refl, tt) refl
    (long_on r.1 _ _ h.size refl (λ g. mark_on mark.Semicolon 41 mode.Plain g (10 ∷ rest) ws refl refl (omega arith) (on false))))))))

-- the lines of all reservations
reservations_on : (rs : List (ℕ × ℕ)) (rest : List ℕ) (ws : Words) → AllByRecursion IsReservation rs → CutsOn mode.Name (10 ∷ rest) ws →
    CutsOn mode.Name (10 ∷ (reservation_lines rs ++ rest)) (reservation_words rs ++ ws)
reservations_on [] rest ws h on fresh = on fresh
reservations_on (r ∷ rs) rest ws h on fresh =
    subst (λ (s : List ℕ). Cuts mode.Name fresh (10 ∷ s) (reservation_words (r ∷ rs) ++ ws)) (sym (append_assoc (reservation_line r) (reservation_lines rs) rest))
    (reservation_on r (reservation_lines rs ++ rest) (reservation_words rs ++ ws) h.0 (reservations_on rs rest ws h.1 on) fresh)

-- ---- the whole text

-- the root, from the line feed before it on
root_on : (t : Reading) → IsValid t → HasBytes t →
    CutsOn mode.Name (10 ∷ 47 ∷ 32 ∷ 123 ∷ 10 ∷ (property_lines 1 t.properties ++ (node_lines 1 t.children ++ codes "};\n")))
    (mark_word mark.Slash ∷ mark_word mark.OpenBrace ∷ (property_words t.properties ++ (node_words t.children ++ mark_word mark.CloseBrace ∷ mark_word mark.Semicolon ∷ [])))
root_on t v h fresh =
    let close = close_line 0 [] [] (λ f. blanks_on mode.Name f 10 [] [] [] (refl, tt) tt end_cut) in
    let inner = nodes_on 0 t.children (codes "};\n") _ v.nodes h.nodes close in
    let own = properties_on 0 t.properties _ _ v.properties.named h.properties inner in
    blanks_on mode.Name fresh 10 [] _ _ (refl, tt) refl
    (mark_on mark.Slash 49 mode.Name true (32 ∷ 123 ∷ 10 ∷ (property_lines 1 t.properties ++ (node_lines 1 t.children ++ codes "};\n"))) _ refl refl (omega arith)
    (blanks_on mode.Name false 32 [] _ _ (refl, tt) refl
    (mark_on mark.OpenBrace 33 mode.Name false _ _ refl refl (omega arith) (own false))))

-- the text is cut into the tree's words
tree_cut : (t : Reading) → IsValid t → HasBytes t → Cuts mode.Name true (printed t) (words_of_tree t)
tree_cut t v h =
    let lines = reservations_on t.reservations _ _ v.reservations (root_on t v h) in
    keyword_on keyword.Version 7 mode.Name true _ _ refl refl (omega arith)
    (mark_on mark.Semicolon 41 mode.Name false _ _ refl refl (omega arith) (lines false))

-- the text has a token list
pub text_has_tokens : TextHasTokens
text_has_tokens t v h =
    let found = cut_tokens (tree_cut t v h) [] (printed t) 0 refl refl in
    (found.tokens, found.lexed, found.spelled)
