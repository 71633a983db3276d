-- Small sources say what they should.
use Rattle.std.proofs.Common.{subst, true≢false}
use Rattle.dt_grammar.specs.Unchecked.{RawSource, raw_root, raw_child, raw_property, raw_close}
use Rattle.dt_grammar.specs.Relaxed.{RelaxedSource, no_more_reserves, only_statement, no_more_labels, a_root_block, a_child, a_flag, no_more_members}
use Rattle.dt_grammar.specs.Strict.{IsOrdered}
use Rattle.std.proofs.Common.{◌≡◌, ℕ, ◌==◌, ◌||◌, List, [], ◌∷◌, ◌++◌, codes, IsTrue, refl, true, false, inl, arith, lit<}
use Rattle.std.specs.Int.{w32}
use Rattle.std.proofs.lemmas.List.Elements.{All-from_recursion}
use Rattle.dt_model.specs.Names.{IsLabel, IsNodeName, IsPropertyName, is_name_byte, is_letter, is_digit}
use Rattle.dt_model.specs.Source.{Part, one, number_of, by_label, Place, root, delete_node, child, label, property, delete_property, close}
use Rattle.dt_lex.specs.declared.token.TokenKind.TheVariants as kind
use Rattle.dt_lex.specs.declared.token.Mark.TheVariants as mark
use Rattle.dt_lex.specs.declared.token.Keyword.TheVariants as keyword
use Rattle.dt_expr.specs.declared.step.Binary.TheVariants as binary
use Rattle.dt_expr.specs.Expression.{Expression, number, two_operands}
use Rattle.dt_grammar.specs.Words.{Word, Words, to_label}
use Rattle.dt_grammar.specs.Grammar.{no_labels, one_label, SpellsExpression, joined, integer, group, no_prefix, tightest, tighter, joins, no_condition, SpellsNumber, no_cells, cell_number, cell_reference, no_bits, SpellsItem, cells, last, assigned, SpellsProperties, no_properties, defined, deleted, SpellsChildren, no_children, opened, SpellsBody, root_block, node_deleted, last_statement, more_statements, no_reservations, base_header, Says, SpellsSource}
use Rattle.dt_grammar.specs.Samples.{property_behind_child, empty_root, empty_root_says, unended_root, small_source, small_source_says}
use Rattle.dt_grammar.specs.Relaxed.{word, a_mark, a_keyword}
use Rattle.dt_grammar.specs.FaultSamples.{version, semicolon, slash, opening, closing, name}
use Rattle.dt_grammar.specs.Wanted.{Whole}
use Rattle.dt_grammar.specs.Descent.{stuck, refuses, gives, part_stuck, part_found, Descends}
use Rattle.dt_grammar.proofs.Descent.{deterministic}
use Rattle.dt_grammar.proofs.Headers.{complete_source, one_relaxed}
use Rattle.dt_grammar.proofs.OneSource.{source_of}

-- a body with children alone
body : (ws : Words) (cs : List Place) → SpellsChildren 1 ws cs → SpellsBody (opening ∷ (ws ++ closing ∷ semicolon ∷ [])) (cs ++ close ∷ [])
body ws cs s = record {
  properties = [];
  children = ws;
  opening = opening;
  closing = closing;
  semicolon = semicolon;
  ps = [];
  cs = cs;
  together = refl;
  opened_by = refl;
  spelled_properties = no_properties;
  spelled_children = s;
  closed_by = refl;
  ended_by = refl;
  says = refl;
}

pub empty_root_is : SpellsSource empty_root empty_root_says
empty_root_is = record {
  headers = version ∷ semicolon ∷ [];
  reserves = [];
  statements = slash ∷ opening ∷ closing ∷ semicolon ∷ [];
  together = refl;
  spelled_headers = base_header version semicolon refl refl;
  spelled_reservations = no_reservations;
  spelled_statements = last_statement _ _ (root_block slash _ _ refl (body [] [] (no_children 1)));
}

-- ---- a source that ends too early

stuck_there : Descends Whole unended_root (stuck [])
stuck_there =
    part_stuck (part_stuck (part_stuck (part_stuck (part_found gives
    (part_stuck (part_stuck (part_stuck (part_found (part_found gives gives) (part_stuck refuses)))))))))

pub unended_root_is_none : (s : Says) → SpellsSource unended_root s → ⊥
unended_root_is_none s h =
    let r = source_of unended_root s h in
    let same = deterministic stuck_there (complete_source unended_root r.raw r.relaxed) in
    cc

-- ---- a property behind a child

abbrev disordered : RawSource
disordered = record {
  plugin = false;
  reserves = [];
  places = raw_root ∷ raw_child (codes "a") ∷ raw_close ∷ raw_property [] (codes "b") [] ∷ raw_close ∷ [];
}

disordered_is : RelaxedSource property_behind_child disordered
disordered_is = record {
  headers = version ∷ semicolon ∷ [];
  others = slash ∷ opening ∷ word kind.Name (codes "a") ∷ opening ∷ closing ∷ semicolon ∷ word kind.Name (codes "b") ∷ semicolon ∷ closing ∷ semicolon ∷ [];
  together = refl;
  spelled_headers = base_header version semicolon refl refl;
  behind = no_more_reserves _ _ (only_statement [] _ [] _ no_more_labels (a_root_block (codes "/") (codes "{") (codes "}") (codes ";") _ _
      (a_child [] [] (word kind.Name (codes "b") ∷ semicolon ∷ []) (codes "a") (codes "{") (codes "}") (codes ";") [] [] (raw_property [] (codes "b") [] ∷ []) no_more_labels no_more_members
      (a_flag [] [] (codes "b") (codes ";") [] [] no_more_labels no_more_members))));
}

pub property_behind_child_is_none : (s : Says) → SpellsSource property_behind_child s → ⊥
property_behind_child_is_none s h =
    let r = source_of property_behind_child s h in
    let same : r.raw ≡ disordered = one_relaxed property_behind_child r.raw disordered r.relaxed disordered_is in
    let ordered : IsOrdered [] disordered.places = subst (λ (x : RawSource). IsOrdered [] x.places) same r.strict.ordered in
    true≢false ordered.1.0

-- ---- a source with a label, an expression, a reference and deletions

is_label : IsLabel (codes "a")
is_label = record {
  not_empty = omega arith;
  short = omega arith;
  allowed = All-from_recursion (λ b. IsTrue (is_letter b || is_digit b || (b == 95))) (codes "a") (refl, tt);
  no_digit_first = λ e. (let z : false ≡ true = e in cc);
  not_phandle = λ e. (let z : ◌≡◌ {A = List ℕ} (97 ∷ []) (codes "phandle") = e in cc);
}

is_node_name : IsNodeName (codes "b")
is_node_name = record {
  not_empty = omega arith;
  short = omega arith;
  allowed = All-from_recursion (λ b. IsTrue (is_name_byte b || (b == 64))) (codes "b") (refl, tt);
  one_at = omega arith;
  not_first = λ e. (let z : ◌≡◌ {A = ℕ} 98 64 = e in omega arith);
}

is_property_name : (b : ℕ) → is_name_byte b ≡ true → IsPropertyName (b ∷ [])
is_property_name b h = record {
  not_empty = omega arith;
  short = omega arith;
  allowed = All-from_recursion (λ c. IsTrue (is_name_byte c)) (b ∷ []) (h, tt);
}

raise : (ws : Words) (e : Expression) → SpellsExpression (joined 2) ws e → SpellsExpression (joined 10) ws e
raise ws e s = tighter 9 ws e (tighter 8 ws e (tighter 7 ws e (tighter 6 ws e (tighter 5 ws e (tighter 4 ws e (tighter 3 ws e (tighter 2 ws e s)))))))

one_number : (n : ℕ) (b : List ℕ) → SpellsExpression (joined 1) (word (kind.Integer n) b ∷ []) (number n)
one_number n b = let ws = word (kind.Integer n) b ∷ [] in let e = number n in tighter 0 ws e (tightest ws e (no_prefix ws e (integer (word (kind.Integer n) b) n refl)))

abbrev sum : Words
sum = word (kind.Integer 1) (codes "1") ∷ a_mark mark.Plus (codes "+") ∷ word (kind.Integer 2) (codes "2") ∷ []

abbrev in_parentheses : Words
in_parentheses = a_mark mark.OpenParenthesis (codes "(") ∷ (sum ++ a_mark mark.CloseParenthesis (codes ")") ∷ [])

abbrev three : Expression
three = two_operands binary.Plus (number 1) (number 2)

sum_is : SpellsExpression (joined 2) sum three
sum_is =
    joins 1 (a_mark mark.Plus (codes "+")) (word (kind.Integer 1) (codes "1") ∷ []) (word (kind.Integer 2) (codes "2") ∷ []) (number 1) (number 2) binary.Plus refl refl
    (tighter 1 (word (kind.Integer 1) (codes "1") ∷ []) (number 1) (one_number 1 (codes "1"))) (one_number 2 (codes "2"))

three_is : SpellsNumber in_parentheses 3
three_is = record {
  expression = three;
  spelled = group (a_mark mark.OpenParenthesis (codes "(")) (a_mark mark.CloseParenthesis (codes ")")) sum three refl refl (no_condition sum three (raise sum three sum_is));
  few = omega arith;
  evaluated = refl;
}

abbrev to_a : Word
to_a = word kind.LabelReference (codes "&a")

abbrev parts : List Part
parts = one 0 ∷ one 0 ∷ one 0 ∷ one 3 ∷ number_of (by_label (codes "a")) ∷ []

abbrev cell_words : Words
cell_words = in_parentheses ++ to_a ∷ []

abbrev item_words : Words
item_words = a_mark mark.Less (codes "<") ∷ (cell_words ++ a_mark mark.Greater (codes ">") ∷ [])

item_is : SpellsItem item_words parts
item_is = cells [] cell_words (a_mark mark.Less (codes "<")) (a_mark mark.Greater (codes ">")) 32 w32 parts no_bits refl refl
    (cell_number in_parentheses (to_a ∷ []) 3 (number_of (by_label (codes "a")) ∷ []) three_is (inl (lit< tt))
    (cell_reference to_a [] (by_label (codes "a")) [] refl (to_label (codes "a") refl refl is_label) no_cells))

abbrev property_words : Words
property_words =
    name (codes "c") ∷ a_mark mark.Equals (codes "=") ∷ (item_words ++ semicolon ∷
    a_keyword keyword.DeleteProperty (codes "/delete-property/") ∷ name (codes "d") ∷ semicolon ∷ [])

properties_are : SpellsProperties property_words (property (codes "c") parts ∷ delete_property (codes "d") ∷ [])
properties_are =
    defined [] (a_mark mark.Equals (codes "=") ∷ item_words) (a_keyword keyword.DeleteProperty (codes "/delete-property/") ∷ name (codes "d") ∷ semicolon ∷ [])
    (name (codes "c")) semicolon (codes "c") [] parts (delete_property (codes "d") ∷ []) no_labels
    (record { kind = refl; bytes = refl; valid = is_property_name 99 refl })
    (assigned (a_mark mark.Equals (codes "=")) item_words parts refl
    (last item_words parts (record { before = []; item = item_words; behind = []; labels_before = []; labels_behind = []; together = refl; spelled_before = no_labels; spelled = item_is; spelled_behind = no_labels })))
    refl
    (deleted [] [] (a_keyword keyword.DeleteProperty (codes "/delete-property/")) (name (codes "d")) semicolon (codes "d") [] [] no_labels refl
    (record { kind = refl; bytes = refl; valid = is_property_name 100 refl }) refl no_properties)

abbrev child_words : Words
child_words = word kind.Label (codes "a:") ∷ name (codes "b") ∷ opening ∷ (property_words ++ closing ∷ semicolon ∷ [])

abbrev child_places : List Place
child_places = child (codes "b") ∷ label (codes "a") ∷ property (codes "c") parts ∷ delete_property (codes "d") ∷ close ∷ []

child_is : SpellsChildren 1 child_words child_places
child_is =
    opened 1 (word kind.Label (codes "a:") ∷ []) property_words [] [] (name (codes "b")) opening closing semicolon (codes "b") (codes "a" ∷ [])
    (property (codes "c") parts ∷ delete_property (codes "d") ∷ []) [] []
    (one_label (word kind.Label (codes "a:")) [] (codes "a") [] (record { kind = refl; bytes = refl; valid = is_label }) no_labels)
    (record { kind = refl; bytes = refl; valid = is_node_name }) refl (omega arith) properties_are (no_children 2) refl refl (no_children 1)

pub small_source_is : SpellsSource small_source small_source_says
small_source_is = record {
  headers = version ∷ semicolon ∷ [];
  reserves = [];
  statements = slash ∷ opening ∷ (child_words ++ closing ∷ semicolon ∷ a_keyword keyword.DeleteNode (codes "/delete-node/") ∷ to_a ∷ semicolon ∷ []);
  together = refl;
  spelled_headers = base_header version semicolon refl refl;
  spelled_reservations = no_reservations;
  spelled_statements =
      more_statements (slash ∷ opening ∷ (child_words ++ closing ∷ semicolon ∷ [])) (a_keyword keyword.DeleteNode (codes "/delete-node/") ∷ to_a ∷ semicolon ∷ [])
      (root ∷ (child_places ++ close ∷ [])) (delete_node (by_label (codes "a")) ∷ [])
      (root_block slash _ _ refl (body child_words child_places child_is))
      (last_statement _ _ (node_deleted (a_keyword keyword.DeleteNode (codes "/delete-node/")) to_a semicolon (by_label (codes "a")) refl (to_label (codes "a") refl refl is_label) refl));
}
