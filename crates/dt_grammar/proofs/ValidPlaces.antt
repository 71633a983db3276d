-- The names at the places of a source are names, and its bytes are bytes where its words are ones that a text may have.
use Rattle.std.proofs.Common.{ℕ, zero, suc, ◌<◌, List, [], ◌∷◌, ◌++◌, map, sym, subst, arith}
use Rattle.std.specs.Int.{Width, byte_at, bytes_high_first, byte_len, to_be_bytes}
use Rattle.std.specs.List.{AllByRecursion}
use Rattle.std.proofs.Math.Nat.{mod-lt}
use Rattle.dt_model.specs.Names.{Name}
use Rattle.dt_model.specs.Source.{Reference, IsReference, Part, one, IsPart, Place, label, close, IsPlace}
use Rattle.dt_lex.specs.Texts.{text_bytes}
use Rattle.dt_expr.specs.Fits.{element}
use Rattle.dt_grammar.specs.Words.{Word, Words, IsReferenceWord, to_label, to_path}
use Rattle.dt_grammar.specs.WordBytes.{AreBytes, HasBytes, HaveBytes}
use Rattle.dt_grammar.specs.Grammar.{SpellsLabels, no_labels, one_label, SpellsCells, no_cells, cell_label, cell_number, cell_reference, SpellsBytes, no_bytes, byte_label, one_byte, SpellsItem, cells, string, bytes, path, SpellsComponent, SpellsValue, last, more, SpellsAssigned, empty, assigned, SpellsProperties, no_properties, defined, deleted, SpellsChildren, no_children, opened, removed, SpellsBody, SpellsStatement, root_block, node_block, node_deleted, SpellsStatements, last_statement, more_statements, SpellsSource, Says}
use Rattle.dt_grammar.proofs.CheckedBodies.{all_front, all_behind}
use Rattle.dt_grammar.proofs.TextBytes.{text_of_bytes}

all_both : {X : Type 0} (P : X → Type 0) (xs ys : List X) → AllByRecursion P xs → AllByRecursion P ys → AllByRecursion P (xs ++ ys)
all_both P [] ys f g = g
all_both P (x ∷ xs) ys f g = (f.0, all_both P xs ys f.1 g)

front : (us ws : Words) → HaveBytes (us ++ ws) → HaveBytes us
front us ws h = all_front HasBytes us ws h

behind : (us ws : Words) → HaveBytes (us ++ ws) → HaveBytes ws
behind us ws h = all_behind HasBytes us ws h

-- ---- values

reference_valid : {w : Word} {r : Reference} → IsReferenceWord w r → IsReference r
reference_valid (to_label l k b valid) = valid
reference_valid (to_path p k b valid) = valid

byte_small : (i n : ℕ) → byte_at i n < 256
byte_small zero n = mod-lt n (omega arith)
byte_small (suc i) n = mod-lt _ (omega arith)

number_bytes : (k n : ℕ) → AreBytes (bytes_high_first k n)
number_bytes zero n = tt
number_bytes (suc k) n = (byte_small k n, number_bytes k n)

bytes_are_parts : (numbers : List ℕ) → AreBytes numbers → AllByRecursion IsPart (map one numbers)
bytes_are_parts [] h = tt
bytes_are_parts (b ∷ numbers) h = (h.0, bytes_are_parts numbers h.1)

cells_valid : {bits : ℕ} {width : Width} {ws : Words} {parts : List Part} → SpellsCells bits width ws parts → AllByRecursion IsPart parts
cells_valid no_cells = tt
cells_valid (cell_label w ws l parts i s) = cells_valid s
cells_valid {bits = bits} {width = width} (cell_number us ws n parts m f s) =
    all_both IsPart (map one (to_be_bytes width (element bits n))) parts (bytes_are_parts _ (number_bytes (byte_len width) (element bits n))) (cells_valid s)
cells_valid (cell_reference w ws r parts e i s) = (reference_valid i, cells_valid s)

byte_list_valid : {ws : Words} {parts : List Part} → SpellsBytes ws parts → HaveBytes ws → AllByRecursion IsPart parts
byte_list_valid no_bytes h = tt
byte_list_valid (byte_label w ws l parts i s) h = byte_list_valid s h.1
byte_list_valid (one_byte w ws b parts k s) h = (h.0.byte b k, byte_list_valid s h.1)

item_valid : {ws : Words} {parts : List Part} → SpellsItem ws parts → HaveBytes ws → AllByRecursion IsPart parts
item_valid (cells us ws a z bits width parts b l g s) h = cells_valid s
item_valid (string w k) h = bytes_are_parts _ (all_both (λ b. b < 256) (text_bytes w.bytes) (0 ∷ []) (text_of_bytes w.bytes h.0.bytes) (omega arith, tt))
item_valid (bytes ws a z parts b c s) h = byte_list_valid s (front ws (z ∷ []) h.1)
item_valid (path w r i) h = (reference_valid i, tt)

component_valid : {ws : Words} {parts : List Part} → SpellsComponent ws parts → HaveBytes ws → AllByRecursion IsPart parts
component_valid c h = item_valid c.spelled (front c.item c.behind (behind c.before (c.item ++ c.behind) (subst HaveBytes c.together h)))

value_valid : {ws : Words} {parts : List Part} → SpellsValue ws parts → HaveBytes ws → AllByRecursion IsPart parts
value_valid (last ws parts c) h = component_valid c h
value_valid (more us ws comma parts others c m s) h =
    all_both IsPart parts others (component_valid c (front us (comma ∷ ws) h)) (value_valid s (behind us (comma ∷ ws) h).1)

assigned_valid : {ws : Words} {parts : List Part} → SpellsAssigned ws parts → HaveBytes ws → AllByRecursion IsPart parts
assigned_valid empty h = tt
assigned_valid (assigned w ws parts e s) h = value_valid s h.1

-- ---- bodies

labels_valid : {ws : Words} {ls : List Name} → SpellsLabels ws ls → AllByRecursion IsPlace (map label ls)
labels_valid no_labels = tt
labels_valid (one_label w ws l ls i s) = (i.valid, labels_valid s)

properties_valid : {ws : Words} {places : List Place} → SpellsProperties ws places → HaveBytes ws → AllByRecursion IsPlace places
properties_valid no_properties h = tt
properties_valid (defined us vs ws w semicolon n ls parts places l i a m s) h =
    let value = (behind us (w ∷ (vs ++ semicolon ∷ ws)) h).1 in
    ((i.valid, assigned_valid a (front vs (semicolon ∷ ws) value)), properties_valid s (behind vs (semicolon ∷ ws) value).1)
properties_valid (deleted us ws k w semicolon n ls places l d i m s) h =
    (i.valid, properties_valid s (behind us (k ∷ w ∷ semicolon ∷ ws) h).1.1.1)

children_valid : {around : ℕ} {ws : Words} {places : List Place} → SpellsChildren around ws places → HaveBytes ws → AllByRecursion IsPlace places
children_valid (no_children around) h = tt
children_valid (opened around us properties children ws w o c semicolon n ls ps cs places l i b few sp sc d m s) h =
    let body = (behind us (w ∷ o ∷ (properties ++ (children ++ c ∷ semicolon ∷ ws))) h).1.1 in
    let inner = behind properties (children ++ c ∷ semicolon ∷ ws) body in
    let rest = (behind children (c ∷ semicolon ∷ ws) inner).1.1 in
    let closed : AllByRecursion IsPlace (close ∷ places) = (tt, children_valid s rest) in
    let in_children = all_both IsPlace cs (close ∷ places) (children_valid sc (front children (c ∷ semicolon ∷ ws) inner)) closed in
    let in_properties = all_both IsPlace ps (cs ++ close ∷ places) (properties_valid sp (front properties (children ++ c ∷ semicolon ∷ ws) body)) in_children in
    (i.valid, all_both IsPlace (map label ls) (ps ++ (cs ++ close ∷ places)) (labels_valid l) in_properties)
children_valid (removed around us ws k w semicolon n ls places l d i m s) h =
    (i.valid, children_valid s (behind us (k ∷ w ∷ semicolon ∷ ws) h).1.1.1)

body_valid : {ws : Words} {places : List Place} → SpellsBody ws places → HaveBytes ws → AllByRecursion IsPlace places
body_valid b h =
    let end = b.closing ∷ b.semicolon ∷ [] in
    let words = (subst HaveBytes b.together h).1 in
    let inner = behind b.properties (b.children ++ end) words in
    let in_children = all_both IsPlace b.cs (close ∷ []) (children_valid b.spelled_children (front b.children end inner)) (tt, tt) in
    subst (AllByRecursion IsPlace) (sym b.says)
    (all_both IsPlace b.ps (b.cs ++ close ∷ []) (properties_valid b.spelled_properties (front b.properties (b.children ++ end) words)) in_children)

-- ---- statements

statement_valid : {ws : Words} {places : List Place} → SpellsStatement ws places → HaveBytes ws → AllByRecursion IsPlace places
statement_valid (root_block slash ws places m b) h = (tt, body_valid b h.1)
statement_valid (node_block us ws w r ls places l i b) h =
    (reference_valid i, all_both IsPlace (map label ls) places (labels_valid l) (body_valid b (behind us (w ∷ ws) h).1))
statement_valid (node_deleted k w semicolon r d i m) h = (reference_valid i, tt)

statements_valid : {ws : Words} {places : List Place} → SpellsStatements ws places → HaveBytes ws → AllByRecursion IsPlace places
statements_valid (last_statement ws places s) h = statement_valid s h
statements_valid (more_statements us ws places others s t) h =
    all_both IsPlace places others (statement_valid s (front us ws h)) (statements_valid t (behind us ws h))

pub source_valid : (ws : Words) (s : Says) → HaveBytes ws → SpellsSource ws s → AllByRecursion IsPlace s.places
source_valid ws s h spelled =
    let words = subst HaveBytes spelled.together h in
    statements_valid spelled.spelled_statements (behind spelled.reserves spelled.statements (behind spelled.headers (spelled.reserves ++ spelled.statements) words))
