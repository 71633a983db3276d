-- Whether something holds, where that was found out: decisions that compute, of what is checked of a source.
use Rattle.std.proofs.Common.{◌≡◌, ℕ, ◌-◌, ◌/◌, ◌^◌, ◌<◌, ◌≤◌, ◌==◌, ◌||◌, Bool, true, false, List, [], ◌∷◌, ◌++◌, length, drop, codes, nat_eq, nat_lt, nat_le, Option, Some, None, refl, sym, ap, ◌∙◌}
use Rattle.std.specs.Prelude.{slice_index, IsTrue}
use Rattle.std.specs.Bool.{Decides}
use Rattle.std.specs.List.{AllByRecursion}
use Rattle.std.specs.Option.{option_map_or}
use Rattle.std.specs.Str.{bytes_eq}
use Rattle.std.proofs.lemmas.Bool.{true≢false, false≢true, leb-true, le-leb}
use Rattle.std.proofs.lemmas.Bool.Decides.{Decides-eqb, Decides-ltb, Decides-or}
use Rattle.std.proofs.lemmas.Slice.Eq.{bytes_eq-Decides}
use Rattle.std.proofs.lemmas.List.Elements.{All-from_recursion, recursion_from_All}
use Rattle.dt_model.specs.Names.{IsLabel, IsNodeName, IsPropertyName, is_letter, is_digit, is_node_name, is_property_name}
use Rattle.dt_model.specs.Path.{Path, path_text}
use Rattle.dt_model.specs.Valid.{IsReservation}
use Rattle.dt_model.proofs.NameTests.{node_tests, property_tests}
use Rattle.dt_expr.specs.Expression.{Expression, value}
use Rattle.dt_expr.specs.Fits.{Fits}
use Rattle.dt_grammar.specs.Words.{to_label, to_path}
use Rattle.dt_grammar.specs.Unchecked.{Target, a_label, a_path, RawCell, label_cell, number_cell, reference_cell, byte_cell, RawItem, cell_item, text_item, byte_item, path_item, RawComponent, RawPlace, raw_root, raw_block, raw_delete_node, raw_child, raw_label, raw_property, raw_delete_property, raw_delete_child, raw_close, RawReserve, all_but_last, ended_names, path_of_names, value_or_zero, reserve_of}
use Rattle.dt_grammar.specs.Paths.{braced}
use Rattle.dt_grammar.specs.Strict.{IsLabelText, IsReferenceText, IsNumber, IsCell, IsItem, IsComponent, IsSoundPlace, IsOrdered, IsReserve}
use Rattle.dt_grammar.specs.Wanted.{Made, made_expression, made_labels, made_cells, made_item, made_value, made_places, made_behind, made_source}
use Rattle.dt_grammar.specs.Faults.{Around, IsFine}
use Rattle.dt_grammar.proofs.Names.{path_back}
use Rattle.dt_grammar.proofs.PathTexts.{label_in, path_in}

pub data Known (P : Type 0) : Type 0 where
  holds : P → Known P
  fails : ¬ P → Known P
  unknown : Known P

abbrev pub by_test : {P : Type 0} (b : Bool) → Decides b P → Known P
by_test true d = holds (d.0 refl)
by_test false d = fails (λ p. false≢true (d.1 p))

abbrev pub like : {P Q : Type 0} → (P → Q) → (Q → P) → Known P → Known Q
like f g (holds p) = holds (f p)
like f g (fails n) = fails (λ q. n (g q))
like f g unknown = unknown

abbrev pub opposite : {P : Type 0} → Known P → Known (¬ P)
opposite (holds p) = fails (λ n. n p)
opposite (fails n) = holds n
opposite unknown = unknown

abbrev pub both : {P Q : Type 0} → Known P → Known Q → Known (P × Q)
both (holds p) (holds q) = holds (p, q)
both (holds p) (fails n) = fails (λ h. n h.1)
both (holds p) unknown = unknown
both (fails n) q = fails (λ h. n h.0)
both unknown q = unknown

abbrev pub all_three : {P Q R : Type 0} → Known P → Known Q → Known R → Known (P × Q × R)
all_three p q r = like (λ h. (h.0, h.1.0, h.1.1)) (λ h. (h.0, (h.1, h.2))) (both p (both q r))

abbrev pub each : {X : Type 0} (P : X → Type 0) → ((x : X) → Known (P x)) → (xs : List X) → Known (AllByRecursion P xs)
each P known [] = holds tt
each P known (x ∷ xs) = both (known x) (each P known xs)

-- ---- numbers

abbrev pub is_at_most : (m n : ℕ) → Known (m ≤ n)
is_at_most m n = by_test (nat_le m n) (leb-true m n, le-leb m n)

abbrev pub is_below : (m n : ℕ) → Known (m < n)
is_below m n = by_test (nat_lt m n) (Decides-ltb m n)

abbrev pub is_equal : (m n : ℕ) → Known (m ≡ n)
is_equal m n = by_test (nat_eq m n) (Decides-eqb m n)

abbrev pub fits : (bits n : ℕ) → Known (Fits bits n)
fits bits n = by_test (nat_lt n (2 ^ bits) || nat_eq (n / 2 ^ bits) (2 ^ (64 - bits) - 1))
    (Decides-or (nat_lt n (2 ^ bits)) (nat_eq (n / 2 ^ bits) (2 ^ (64 - bits) - 1)) (Decides-ltb n (2 ^ bits)) (Decides-eqb (n / 2 ^ bits) (2 ^ (64 - bits) - 1)))

pub evaluated : (e : Expression) (n : ℕ) → value e ≡ Some n → value e ≡ Some (value_or_zero e)
evaluated e n h = h ∙ ap (λ (k : ℕ). Some k) (sym (ap (λ (o : Option ℕ). option_map_or (λ k. k) o 0) h))

pub valueless : (e : Expression) → value e ≡ None → ¬ value e ≡ Some (value_or_zero e)
valueless e h i = cc

abbrev value_by : (e : Expression) (o : Option ℕ) → value e ≡ o → Known (value e ≡ Some (value_or_zero e))
value_by e None h = fails (valueless e h)
value_by e (Some n) h = holds (evaluated e n h)

abbrev pub has_value : (e : Expression) → Known (value e ≡ Some (value_or_zero e))
has_value e = value_by e (value e) refl

abbrev pub is_number : (size : ℕ) (e : Expression) → Known (IsNumber size e)
is_number size e = like (λ h. record { few = h.0; evaluated = h.1 }) (λ h. (h.few, h.evaluated)) (both (is_at_most size 1024) (has_value e))

abbrev pub is_reservation : (r : ℕ × ℕ) → Known (IsReservation r)
is_reservation r =
    like (λ h. record { some = h.0; address = h.1; size = h.2 }) (λ h. (h.some, h.address, h.size))
    (all_three (opposite (both (is_equal r.0 0) (is_equal r.1 0))) (is_below r.0 (2 ^ 64)) (is_below r.1 (2 ^ 64)))

-- ---- names

abbrev pub is_property : (name : List ℕ) → Known (IsPropertyName name)
is_property name = by_test (is_property_name name) (property_tests name)

abbrev pub is_node : (name : List ℕ) → Known (IsNodeName name)
is_node name = by_test (is_node_name name) (node_tests name)

abbrev pub is_same : (xs ys : List ℕ) → Known (xs ≡ ys)
is_same xs ys = by_test (bytes_eq xs ys) (bytes_eq-Decides xs ys)

abbrev in_label : ℕ → Bool
in_label b = is_letter b || is_digit b || (b == 95)

abbrev pub is_label : (l : List ℕ) → Known (IsLabel l)
is_label l =
    like (λ h. record { not_empty = h.0.0; short = h.0.1; allowed = All-from_recursion (λ b. IsTrue (in_label b)) l h.0.2; no_digit_first = h.1.0; not_phandle = h.1.1 })
    (λ h. ((h.not_empty, h.short, recursion_from_All (λ b. IsTrue (in_label b)) l h.allowed), (h.no_digit_first, h.not_phandle)))
    (both
    (all_three (is_below 0 (length l)) (is_at_most (length l) 255) (each (λ b. IsTrue (in_label b)) (λ b. by_test (in_label b) (λ e. e, λ e. e)) l))
    (both (opposite (by_test (is_digit (slice_index l 0)) (λ e. e, λ e. e))) (opposite (is_same l (codes "phandle")))))

abbrev pub is_label_text : (bytes : List ℕ) → Known (IsLabelText bytes)
is_label_text bytes =
    like (λ h. record { colon = h.0; valid = h.1 }) (λ h. (h.colon, h.valid))
    (both (is_same bytes (all_but_last bytes ++ codes ":")) (is_label (all_but_last bytes)))

-- the names of a path, as they are read from its text
abbrev names_in : List ℕ → Path
names_in bytes = path_of_names (ended_names (drop 3 bytes))

pub path_text_again : (bytes : List ℕ) → IsReferenceText a_path bytes → (bytes ≡ braced (path_text (names_in bytes))) × AllByRecursion IsNodeName (names_in bytes)
path_text_again bytes h =
    let p = path_in h in
    let same : names_in bytes ≡ p.0 = ap names_in p.2 ∙ path_back p.0 p.1 in
    rw same (p.2, p.1)

abbrev pub is_reference : (target : Target) (bytes : List ℕ) → Known (IsReferenceText target bytes)
is_reference a_label bytes =
    like (λ h. to_label (drop 1 bytes) refl h.0 h.1) label_in (both (is_same bytes (38 ∷ drop 1 bytes)) (is_label (drop 1 bytes)))
is_reference a_path bytes =
    like (λ h. to_path (names_in bytes) refl h.0 h.1) (path_text_again bytes)
    (both (is_same bytes (braced (path_text (names_in bytes)))) (each IsNodeName is_node (names_in bytes)))

-- ---- what was made

abbrev is_cell : (bits : ℕ) (c : RawCell) → Known (IsCell bits c)
is_cell bits (label_cell bytes) = is_label_text bytes
is_cell bits (number_cell size e) = both (is_number size e) (fits bits (value_or_zero e))
is_cell bits (reference_cell target bytes) = both (is_equal bits 32) (is_reference target bytes)
is_cell bits (byte_cell b) = holds tt

abbrev is_item : (i : RawItem) → Known (IsItem i)
is_item (cell_item bits cells) = each (IsCell bits) (is_cell bits) cells
is_item (text_item bytes) = holds tt
is_item (byte_item cells) = each (IsCell 8) (is_cell 8) cells
is_item (path_item target bytes) = is_reference target bytes

abbrev are_labels : (ls : List (List ℕ)) → Known (AllByRecursion IsLabelText ls)
are_labels ls = each IsLabelText is_label_text ls

abbrev is_component : (c : RawComponent) → Known (IsComponent c)
is_component c =
    like (λ h. record { before = h.0; item = h.1; behind = h.2 }) (λ h. (h.before, h.item, h.behind))
    (all_three (are_labels c.before) (is_item c.item) (are_labels c.behind))

abbrev is_sound : (p : RawPlace) → Known (IsSoundPlace p)
is_sound raw_root = holds tt
is_sound (raw_block target bytes) = is_reference target bytes
is_sound (raw_delete_node target bytes) = is_reference target bytes
is_sound (raw_child bytes) = is_node bytes
is_sound (raw_label bytes) = is_label_text bytes
is_sound (raw_property ls bytes components) = all_three (are_labels ls) (is_property bytes) (each IsComponent is_component components)
is_sound (raw_delete_property ls bytes) = both (are_labels ls) (is_property bytes)
is_sound (raw_delete_child ls bytes) = both (are_labels ls) (is_node bytes)
is_sound raw_close = holds tt

abbrev pub is_false : (b : Bool) → Known (b ≡ false)
is_false true = fails true≢false
is_false false = holds refl

abbrev is_ordered : (bodies : List Bool) (ps : List RawPlace) → Known (IsOrdered bodies ps)
is_ordered bodies [] = holds tt
is_ordered bodies (raw_root ∷ ps) = is_ordered (false ∷ bodies) ps
is_ordered bodies (raw_block target bytes ∷ ps) = is_ordered (false ∷ bodies) ps
is_ordered bodies (raw_delete_node target bytes ∷ ps) = is_ordered bodies ps
is_ordered bodies (raw_label bytes ∷ ps) = is_ordered bodies ps
is_ordered [] (raw_child bytes ∷ ps) = unknown
is_ordered (b ∷ bodies) (raw_child bytes ∷ ps) = both (is_below (length (b ∷ bodies)) 65) (is_ordered (false ∷ true ∷ bodies) ps)
is_ordered [] (raw_property ls bytes components ∷ ps) = unknown
is_ordered (b ∷ bodies) (raw_property ls bytes components ∷ ps) = both (is_false b) (is_ordered (false ∷ bodies) ps)
is_ordered [] (raw_delete_property ls bytes ∷ ps) = unknown
is_ordered (b ∷ bodies) (raw_delete_property ls bytes ∷ ps) = both (is_false b) (is_ordered (false ∷ bodies) ps)
is_ordered [] (raw_delete_child ls bytes ∷ ps) = unknown
is_ordered (b ∷ bodies) (raw_delete_child ls bytes ∷ ps) = is_ordered (true ∷ bodies) ps
is_ordered [] (raw_close ∷ ps) = unknown
is_ordered (b ∷ bodies) (raw_close ∷ ps) = is_ordered bodies ps

abbrev is_reserve : (r : RawReserve) → Known (IsReserve r)
is_reserve r =
    like (λ h. record { labels = h.0; address = h.1.0; length = h.1.1; valid = h.2 }) (λ h. (h.labels, (h.address, h.length), h.valid))
    (all_three (are_labels r.labels) (both (is_number r.address_size r.address) (is_number r.length_size r.length)) (is_reservation (reserve_of r)))

abbrev pub is_fine : (a : Around) (m : Made) → Known (IsFine a m)
is_fine a (made_expression size e) = both (is_number size e) (fits a.bits (value_or_zero e))
is_fine a (made_labels ls) = are_labels ls
is_fine a (made_cells cs) = each (IsCell a.bits) (is_cell a.bits) cs
is_fine a (made_item i) = is_item i
is_fine a (made_value cs) = each IsComponent is_component cs
is_fine a (made_places ps) = both (each IsSoundPlace is_sound ps) (is_ordered a.bodies ps)
is_fine a (made_behind rs ps) = all_three (each IsReserve is_reserve rs) (each IsSoundPlace is_sound ps) (is_ordered a.bodies ps)
is_fine a (made_source s) =
    like (λ h. record { reserves = h.0; places = h.1; ordered = h.2 }) (λ h. (h.reserves, h.places, h.ordered))
    (all_three (each IsReserve is_reserve s.reserves) (each IsSoundPlace is_sound s.places) (is_ordered [] s.places))
