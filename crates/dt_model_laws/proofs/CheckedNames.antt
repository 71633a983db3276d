-- Names that are names, and places that are places, by tests.
use Rattle.std.proofs.Common.{◌≡◌, ℕ, ◌<◌, ◌≤◌, ◌==◌, Bool, true, false, not, ◌&&◌, ◌||◌, List, length, codes, arith, IsTrue}
use Rattle.std.specs.Prelude.{nat_le, nat_lt, slice_index}
use Rattle.std.specs.List.{AllByRecursion, list_all}
use Rattle.std.specs.Str.{bytes_eq}
use Rattle.std.proofs.lemmas.Bool.Decides.{nat_tests}
use Rattle.std.proofs.lemmas.List.Elements.{All-from_recursion}
use Rattle.dt_model.specs.Names.{Name, is_letter, is_digit, IsPropertyName, IsNodeName, IsLabel, is_property_name, is_node_name}
use Rattle.dt_model.specs.Path.{Path}
use Rattle.dt_model.specs.Source.{Reference, by_label, by_path, IsReference, Part, one, number_of, text_of, IsPart, Place, root, block, delete_node, child, label, property, delete_property, delete_child, close, IsPlace}
use Rattle.dt_model.proofs.NameTests.{node_tests, property_tests}
use Rattle.dt_model.proofs.Tests.{and_left, and_right, not_true, bytes_eq_differ}
use Rattle.dt_model_laws.proofs.CheckedWords.{each_by}

pub below : (m n : ℕ) → nat_lt m n ≡ true → m < n
below m n h = grind (arith, nat_tests)

pub at_most : (m n : ℕ) → nat_le m n ≡ true → m ≤ n
at_most m n h = grind (arith, nat_tests)

pub property_name : (x : Name) → is_property_name x ≡ true → IsPropertyName x
property_name x = (property_tests x).0

pub node_name : (x : Name) → is_node_name x ≡ true → IsNodeName x
node_name x = (node_tests x).0

abbrev pub is_label : Name → Bool
is_label x =
    nat_lt 0 (length x) && nat_le (length x) 255 && list_all (λ b. is_letter b || is_digit b || (b == 95)) x
    && not (is_digit (slice_index x 0)) && not (bytes_eq x (codes "phandle"))

pub label_name : (x : Name) → is_label x ≡ true → IsLabel x
label_name x h =
    let e : Bool = nat_lt 0 (length x) in
    let s : Bool = nat_le (length x) 255 in
    let a : Bool = list_all (λ b. is_letter b || is_digit b || (b == 95)) x in
    let d : Bool = not (is_digit (slice_index x 0)) in
    let f : Bool = not (bytes_eq x (codes "phandle")) in
    let four = and_left (e && s && a && d) f h in
    let three = and_left (e && s && a) d four in
    let two = and_left (e && s) a three in
    record {
      not_empty = below 0 (length x) (and_left e s two);
      short = at_most (length x) 255 (and_right e s two);
      allowed = All-from_recursion (λ b. IsTrue (is_letter b || is_digit b || (b == 95))) x
          (each_by (λ b. is_letter b || is_digit b || (b == 95)) (λ b. IsTrue (is_letter b || is_digit b || (b == 95))) (λ b k. k) x (and_right (e && s) a three));
      no_digit_first = λ k. let no : is_digit (slice_index x 0) ≡ false = not_true (is_digit (slice_index x 0)) (and_right (e && s && a) d four) in let yes : is_digit (slice_index x 0) ≡ true = k in cc;
      not_phandle = bytes_eq_differ x (codes "phandle") (not_true (bytes_eq x (codes "phandle")) (and_right (e && s && a && d) f h));
    }

pub path_names : (p : Path) → list_all is_node_name p ≡ true → AllByRecursion IsNodeName p
path_names p h = each_by is_node_name IsNodeName node_name p h

-- ---- places

abbrev pub is_reference : Reference → Bool
is_reference (by_label l) = is_label l
is_reference (by_path p) = list_all is_node_name p

abbrev pub is_part : Part → Bool
is_part (one b) = nat_lt b 256
is_part (number_of r) = is_reference r
is_part (text_of r) = is_reference r

abbrev pub is_place : Place → Bool
is_place root = true
is_place (block r) = is_reference r
is_place (delete_node r) = is_reference r
is_place (child n) = is_node_name n
is_place (label l) = is_label l
is_place (property n v) = is_property_name n && list_all is_part v
is_place (delete_property n) = is_property_name n
is_place (delete_child n) = is_node_name n
is_place close = true

a_reference : (r : Reference) → is_reference r ≡ true → IsReference r
a_reference (by_label l) h = label_name l h
a_reference (by_path p) h = path_names p h

a_part : (x : Part) → is_part x ≡ true → IsPart x
a_part (one b) h = below b 256 h
a_part (number_of r) h = a_reference r h
a_part (text_of r) h = a_reference r h

a_place : (x : Place) → is_place x ≡ true → IsPlace x
a_place root h = tt
a_place (block r) h = a_reference r h
a_place (delete_node r) h = a_reference r h
a_place (child n) h = node_name n h
a_place (label l) h = label_name l h
a_place (property n v) h = (property_name n (and_left (is_property_name n) (list_all is_part v) h), each_by is_part IsPart a_part v (and_right (is_property_name n) (list_all is_part v) h))
a_place (delete_property n) h = property_name n h
a_place (delete_child n) h = node_name n h
a_place close h = tt

pub places_are : (places : List Place) → list_all is_place places ≡ true → AllByRecursion IsPlace places
places_are places h = each_by is_place IsPlace a_place places h
