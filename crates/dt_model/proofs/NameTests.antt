-- The tests of names decide what names are.
use Rattle.std.proofs.Common.{◌≡◌, ℕ, Bool, true, false, not, ◌&&◌, ◌||◌, List, [], ◌∷◌, length, nat_eq, nat_lt, nat_le, get_or, refl, ap}
use Rattle.std.specs.Prelude.{◌↔◌, IsTrue, count_by}
use Rattle.std.specs.List.{AllByRecursion, list_all}
use Rattle.std.proofs.lemmas.Bool.{lt-ltb, ltb-true, le-leb, leb-true, ne_eqb, eqb-false, not-true}
use Rattle.std.proofs.lemmas.List.Elements.{All-from_recursion, recursion_from_All}
use Rattle.dt_model.specs.Names.{Name, is_name_byte, IsNodeName, IsPropertyName, is_node_name, is_property_name}

three : (a b c : Bool) → (a && b && c) ≡ true → (a ≡ true) × (b ≡ true) × (c ≡ true)
three true true true e = (refl, refl, refl)
three true true false e = absurd cc
three true false c e = absurd cc
three false b c e = absurd cc

five : (a b c d e : Bool) → (a && b && c && d && e) ≡ true → (a ≡ true) × (b ≡ true) × (c ≡ true) × (d ≡ true) × (e ≡ true)
five true true true true true h = (refl, refl, refl, refl, refl)
five true true true true false h = absurd cc
five true true true false e h = absurd cc
five true true false d e h = absurd cc
five true false c d e h = absurd cc
five false b c d e h = absurd cc

two : (a b : Bool) → (a && b) ≡ true → (a ≡ true) × (b ≡ true)
two true true e = (refl, refl)
two true false e = absurd cc
two false b e = absurd cc

each_passes : (test : ℕ → Bool) (xs : List ℕ) → list_all test xs ≡ true → AllByRecursion (λ x. IsTrue (test x)) xs
each_passes test [] e = tt
each_passes test (x ∷ xs) e = let both = two (test x) (list_all test xs) e in (both.0, each_passes test xs both.1)

all_pass : (test : ℕ → Bool) (xs : List ℕ) → AllByRecursion (λ x. IsTrue (test x)) xs → list_all test xs ≡ true
all_pass test [] h = refl
all_pass test (x ∷ xs) h = λ i. h.0 i && all_pass test xs h.1 i

abbrev in_node_name : ℕ → Bool
in_node_name b = is_name_byte b || nat_eq b 64

pub node_name_tested : (name : Name) → IsNodeName name → is_node_name name ≡ true
node_name_tested name h =
    let some = lt-ltb 0 (length name) h.not_empty in
    let short = le-leb (length name) 255 h.short in
    let bytes = all_pass in_node_name name (recursion_from_All (λ b. IsTrue (in_node_name b)) name h.allowed) in
    let one = le-leb (count_by (λ b. nat_eq b 64) name) 1 h.one_at in
    let first = ap not (ne_eqb (get_or name 0 0) 64 h.not_first) in
    λ i. some i && short i && bytes i && one i && first i

pub property_name_tested : (name : Name) → IsPropertyName name → is_property_name name ≡ true
property_name_tested name h =
    let some = lt-ltb 0 (length name) h.not_empty in
    let short = le-leb (length name) 255 h.short in
    let bytes = all_pass is_name_byte name (recursion_from_All (λ b. IsTrue (is_name_byte b)) name h.allowed) in
    λ i. some i && short i && bytes i

tested_node_name : (name : Name) → is_node_name name ≡ true → IsNodeName name
tested_node_name name e =
    let h = five (nat_lt 0 (length name)) (nat_le (length name) 255) (list_all in_node_name name) (nat_le (count_by (λ b. nat_eq b 64) name) 1) (not (nat_eq (get_or name 0 0) 64)) e in
    record {
      not_empty = ltb-true 0 (length name) h.0;
      short = leb-true (length name) 255 h.1;
      allowed = All-from_recursion (λ b. IsTrue (in_node_name b)) name (each_passes in_node_name name h.2);
      one_at = leb-true (count_by (λ b. nat_eq b 64) name) 1 h.3;
      not_first = eqb-false (get_or name 0 0) 64 (not-true (nat_eq (get_or name 0 0) 64) h.4);
    }

tested_property_name : (name : Name) → is_property_name name ≡ true → IsPropertyName name
tested_property_name name e =
    let h = three (nat_lt 0 (length name)) (nat_le (length name) 255) (list_all is_name_byte name) e in
    record {
      not_empty = ltb-true 0 (length name) h.0;
      short = leb-true (length name) 255 h.1;
      allowed = All-from_recursion (λ b. IsTrue (is_name_byte b)) name (each_passes is_name_byte name h.2);
    }

pub node_tests : (name : Name) → (is_node_name name ≡ true) ↔ IsNodeName name
node_tests name = (tested_node_name name, node_name_tested name)

pub property_tests : (name : Name) → (is_property_name name ≡ true) ↔ IsPropertyName name
property_tests name = (tested_property_name name, property_name_tested name)
