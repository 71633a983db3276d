-- The cell of which a text tells is found exactly where the tree has it.
use Rattle.std.proofs.Common.{rules, ◌⊎◌, ◌≡◌, ℕ, ◌+◌, ◌≤◌, ◌==◌, Bool, true, false, cond, nat_le, nat_lt, List, [], ◌∷◌, ◌++◌, length, Option, Some, None, refl, sym, ap, subst, ◌∙◌, arith, true≢false, inl, inr}
use Rattle.std.specs.Prelude.{is_some, option_and_then}
use Rattle.std.proofs.lemmas.Option.{same_Some}
use Rattle.std.proofs.lemmas.Bool.{ne_eqb, eqb-true, eqb-false, le-leb, leb-true, lt-ltb, ltb-true}
use Rattle.std.proofs.lemmas.List.{append_cancel_right}
use Rattle.std.specs.List.{AllByRecursion, list_all}
use Rattle.std.specs.Str.{bytes_eq}
use Rattle.std.specs.Char.{digit_value}
use Rattle.std.specs.Str.Parse.{IsNumeral, AllDigits, digits_value}
use Rattle.dt_model.specs.Names.{Name, IsNodeName, IsPropertyName, is_property_name}
use Rattle.dt_model.specs.Path.{Path, path_text, path_value}
use Rattle.dt_model.specs.Lists.{IsIn}
use Rattle.dt_model.specs.Object.{Cell, IsCellText, HasCell}
use Rattle.dt_model.specs.Tree.{Reading, Placed, stands_in, value_in, nodes_of}
use Rattle.dt_model.specs.Valid.{IsValid}
use Rattle.dt_model.specs.Applied.{node_named}
use Rattle.dt_model.proofs.NameTests.{property_tests}
use Rattle.dt_model.proofs.Cases.{then_some, some_there}
use Rattle.dt_model.proofs.Finding.{text_of_node, node_of_text}
use Rattle.dt_model.proofs.Listed.{listed_stands, value_stands}
use Rattle.dt_model.proofs.Preorder.{listed_named}
use Rattle.dt_model.proofs.Tests.{and_both, and_left, and_right, bytes_eq_true}
use Rattle.dt_names.specs.Paths.{IsPathOf}
use Rattle.dt_trees.specs.Placed.{PlacedTree, reading_of, place_of}
use Rattle.dt_trees.proofs.NodePlaces.{stands_place}
use Rattle.dt_overlay_texts.specs.Cells.{HasTold}
use Rattle.dt_overlay_texts.specs.Cuts.{Lacks, IsCut, IsNumeralOf}
use Rattle.dt_overlay_texts.specs.Texts.{IsPathValue}
use Rattle.dt_marks_read.specs.Listed.{ListedCell, IsListed}
use Rattle.dt_marks_read.specs.FixupsLeft.{onto_front, cut_in, are_digits, number_of_digits, cell_within, cell_at, cell_of_parts, cell_in}
use Rattle.dt_overlay_texts.proofs.CellTexts.{path_without_colon, property_without_colon}

-- ---- cuts

-- what is cut is cut so
pub cut_some : (s : ℕ) (front rest : List ℕ) → Lacks s front → cut_in s (front ++ s ∷ rest) ≡ Some (front, rest)
cut_some s [] rest l = same (s == s) refl
  where
    same : (b : Bool) → (s == s) ≡ b → cut_in s (s ∷ rest) ≡ Some ([], rest)
    same true e = rw e refl
    same false e = absurd (search (rules, e))
cut_some s (b ∷ front) rest l =
    ap (λ (v : Bool). cond v (Some ([], front ++ s ∷ rest)) (onto_front b (cut_in s (front ++ s ∷ rest)))) (ne_eqb b s l.0) ∙ ap (onto_front b) (cut_some s front rest l.1)

pub cut_is : (s : ℕ) (bytes front rest : List ℕ) → IsCut s bytes front rest → cut_in s bytes ≡ Some (front, rest)
cut_is s bytes front rest is = ap (cut_in s) is.whole ∙ cut_some s front rest is.lacks

-- bytes are cut, or lack the separator
cut_or_not : (s : ℕ) (bytes : List ℕ) → ((parts : List ℕ × List ℕ) × IsCut s bytes parts.0 parts.1 × (cut_in s bytes ≡ Some parts)) ⊎ (cut_in s bytes ≡ None)
cut_or_not s [] = inr refl
cut_or_not s (b ∷ bytes) = step (cut_or_not s bytes) (b == s) refl
  where
    step : ((parts : List ℕ × List ℕ) × IsCut s bytes parts.0 parts.1 × (cut_in s bytes ≡ Some parts)) ⊎ (cut_in s bytes ≡ None)
        → (v : Bool) → (b == s) ≡ v → ((parts : List ℕ × List ℕ) × IsCut s (b ∷ bytes) parts.0 parts.1 × (cut_in s (b ∷ bytes) ≡ Some parts)) ⊎ (cut_in s (b ∷ bytes) ≡ None)
    step more true e = inl (([], bytes), record { whole = ap (λ (n : ℕ). n ∷ bytes) (eqb-true b s e); lacks = tt }, rw e refl)
    step (inl found) false e = inl ((b ∷ found.0.0, found.0.1), record { whole = ap (λ (r : List ℕ). b ∷ r) found.1.whole; lacks = (eqb-false b s e, found.1.lacks) }, rw e (ap (onto_front b) found.2))
    step (inr none) false e = inr (rw e (ap (onto_front b) none))

-- what is found is cut so
pub cut_from : (s : ℕ) (bytes : List ℕ) (parts : List ℕ × List ℕ) → cut_in s bytes ≡ Some parts → IsCut s bytes parts.0 parts.1
cut_from s bytes parts e = elim (cut_or_not s bytes) [
  | inl found ↦ subst (λ (p : List ℕ × List ℕ). IsCut s bytes p.0 p.1) (same_Some found.0 parts (sym found.2 ∙ e)) found.1
  | inr none ↦ absurd (let z : None ≡ Some parts = sym none ∙ e in cc)
]

-- ---- numbers

digits_pass : (ds : List ℕ) → AllDigits 10 ds → list_all (λ (b : ℕ). nat_lt (digit_value b) 10) ds ≡ true
digits_pass [] h = refl
digits_pass (d ∷ ds) h = and_both (nat_lt (digit_value d) 10) (list_all (λ (b : ℕ). nat_lt (digit_value b) 10) ds) (lt-ltb (digit_value d) 10 h.0) (digits_pass ds h.1)

passed_digits : (ds : List ℕ) → list_all (λ (b : ℕ). nat_lt (digit_value b) 10) ds ≡ true → AllDigits 10 ds
passed_digits [] e = tt
passed_digits (d ∷ ds) e = (
  ltb-true (digit_value d) 10 (and_left (nat_lt (digit_value d) 10) (list_all (λ (b : ℕ). nat_lt (digit_value b) 10) ds) e),
  passed_digits ds (and_right (nat_lt (digit_value d) 10) (list_all (λ (b : ℕ). nat_lt (digit_value b) 10) ds) e),
)

are_digits_of : (digits : List ℕ) → IsNumeral 10 digits → are_digits digits ≡ true
are_digits_of [] is = absurd (omega (arith, is.0))
are_digits_of (d ∷ digits) is = digits_pass (d ∷ digits) is.1

digits_from : (digits : List ℕ) → are_digits digits ≡ true → IsNumeral 10 digits
digits_from [] e = absurd (true≢false (sym e))
digits_from (d ∷ digits) e = (omega arith, passed_digits (d ∷ digits) e)

-- the number of a numeral
pub number_some : (digits : List ℕ) → IsNumeral 10 digits → number_of_digits digits ≡ Some (digits_value 10 digits)
number_some digits is = rw (are_digits_of digits is) refl

pub number_there : (digits : List ℕ) (n : ℕ) → IsNumeralOf digits n → number_of_digits digits ≡ Some n
number_there digits n is = number_some digits is.numeral ∙ ap (λ (m : ℕ). Some m) is.value

pub number_from : (digits : List ℕ) (n : ℕ) → number_of_digits digits ≡ Some n → IsNumeralOf digits n
number_from digits n e = step (are_digits digits) refl
  where
    step : (b : Bool) → are_digits digits ≡ b → IsNumeralOf digits n
    step true is = record { numeral = digits_from digits is; value = let z : Some (digits_value 10 digits) ≡ Some n = rw is at e in same_Some (digits_value 10 digits) n z }
    step false is = absurd (let z : None ≡ Some n = rw is at e in cc)

-- the cell at the number's offset
pub cell_in_value : (k offset : ℕ) (property : Name) (value digits : List ℕ) → IsNumeralOf digits offset → offset + 4 ≤ length value
    → cell_within k property value (number_of_digits digits) ≡ Some (record { node = k; property = property; offset = offset })
cell_in_value k offset property value digits is less = ap (cell_within k property value) (number_there digits offset is) ∙ rw (le-leb (offset + 4) (length value) less) refl

-- ---- nodes by paths and by texts

-- the node that is found by a text is among those that are looked at, and has the text
named_from : (nodes : List Placed) (value : List ℕ) (p : Path) → node_named nodes value ≡ Some p → (x : Placed) × IsIn x nodes × (x.path ≡ p) × (path_value x.path ≡ value)
named_from [] value p h = absurd cc
named_from (x ∷ nodes) value p h = step (λ k. named_from nodes value p k) (bytes_eq (path_value x.path) value) refl
  where
    step : (node_named nodes value ≡ Some p → (y : Placed) × IsIn y nodes × (y.path ≡ p) × (path_value y.path ≡ value))
        → (b : Bool) → bytes_eq (path_value x.path) value ≡ b → (y : Placed) × IsIn y (x ∷ nodes) × (y.path ≡ p) × (path_value y.path ≡ value)
    step more true e = let z : Some x.path ≡ Some p = rw e at h in (x, inl refl, cc, bytes_eq_true (path_value x.path) value e)
    step more false e = let w = more (rw e at h) in (w.0, inr w.1, w.2, w.3)

-- it stands, and the text is that of its path
pub found_by_text : (t : Reading) (value : List ℕ) (q : Path) → IsValid t → node_named (nodes_of t) value ≡ Some q → (stands_in t q ≡ true) × IsPathValue value q
found_by_text t value q valid e =
    let w = named_from (nodes_of t) value q e in (
      ap (stands_in t) (sym w.2) ∙ listed_stands t w.0 valid w.1,
      record { text = sym w.3 ∙ ap path_value w.2; named = subst (AllByRecursion IsNodeName) w.2 (listed_named t w.0 valid w.1) },
    )

-- what stands before the NUL of a path's value is the path's text
path_before_nul : (front : List ℕ) (q : Path) → IsPathValue (front ++ 0 ∷ []) q → IsPathOf front q
path_before_nul front q is = record { written = append_cancel_right front (path_text q) (0 ∷ []) is.text; named = is.named }

-- ---- a text's parts

-- the parts of a text that is cut twice
pub cut_twice : (t : PlacedTree) (text front rest property digits : List ℕ) → IsCut 58 text front rest → IsCut 58 rest property digits → cell_in t text ≡ cell_of_parts t front property digits
cut_twice t text front rest property digits first second =
    ap (option_and_then (λ (a : List ℕ × List ℕ). option_and_then (λ (b : List ℕ × List ℕ). cell_of_parts t a.0 b.0 b.1) (cut_in 58 a.1))) (cut_is 58 text front rest first)
    ∙ ap (option_and_then (λ (b : List ℕ × List ℕ). cell_of_parts t front b.0 b.1)) (cut_is 58 rest property digits second)

-- ---- the cell of parts

module _ (t : PlacedTree) (valid : IsValid (reading_of t)) where
  -- the node of a path's text is the path's, where there is one
  by_path : (p : Path) (property : Name) (offset : Option ℕ) → AllByRecursion IsNodeName p
      → option_and_then (λ (q : Path). cell_at t q property offset) (node_named (nodes_of (reading_of t)) (path_value p)) ≡ cell_at t p property offset
  by_path p property offset named = step (place_of t p) refl
    where
      look : Path → Option ListedCell
      look q = cell_at t q property offset

      missing : place_of t p ≡ None → (o : Option Path) → node_named (nodes_of (reading_of t)) (path_value p) ≡ o → option_and_then look o ≡ None
      missing e None f = refl
      missing e (Some q) f =
          let w = text_of_node (reading_of t) p q valid named f in
          let stands : stands_in (reading_of t) p ≡ true = ap (stands_in (reading_of t)) (sym w.0) ∙ w.1 in
          absurd (true≢false (sym stands ∙ sym (stands_place t p) ∙ ap is_some e))

      step : (o : Option ℕ) → place_of t p ≡ o → option_and_then look (node_named (nodes_of (reading_of t)) (path_value p)) ≡ look p
      step None e = missing e (node_named (nodes_of (reading_of t)) (path_value p)) refl ∙ rw e refl
      step (Some k) e = ap (option_and_then look) (node_of_text (reading_of t) p valid (sym (stands_place t p) ∙ ap is_some e))

  pub with_path : (front property digits : List ℕ) (p : Path) → IsPropertyName property → IsPathOf front p → cell_of_parts t front property digits ≡ cell_at t p property (number_of_digits digits)
  with_path front property digits p named is =
      rw ((property_tests property).1 named)
      (ap (λ (f : List ℕ). option_and_then (λ (q : Path). cell_at t q property (number_of_digits digits)) (node_named (nodes_of (reading_of t)) (f ++ 0 ∷ []))) is.written
      ∙ by_path p property (number_of_digits digits) is.named)

  -- ---- what is told is listed

  -- a cell of which a text tells, and its place
  abbrev pub IsTold : List ℕ → ListedCell → Type 0
  IsTold text x = (c : Cell) × IsCellText text c × IsListed t c x

  within_from : (p : Path) (property : Name) (k : ℕ) (value : List ℕ) (digits : List ℕ) (x : ListedCell) → place_of t p ≡ Some k → value_in (reading_of t) p property ≡ Some value
      → (o : Option ℕ) → number_of_digits digits ≡ o → cell_within k property value o ≡ Some x → IsNumeralOf digits x.offset × IsListed t (record { path = p; property = property; offset = x.offset }) x
  within_from p property k value digits x at there None n e = absurd cc
  within_from p property k value digits x at there (Some offset) n e = step (nat_le (offset + 4) (length value)) refl
    where
      made : ListedCell
      made = record { node = k; property = property; offset = offset }

      step : (b : Bool) → nat_le (offset + 4) (length value) ≡ b → IsNumeralOf digits x.offset × IsListed t (record { path = p; property = property; offset = x.offset }) x
      step true less =
          let z : Some made ≡ Some x = rw less at e in
          let is : made ≡ x = same_Some made x z in
          subst (λ (y : ListedCell). IsNumeralOf digits y.offset × IsListed t (record { path = p; property = property; offset = y.offset }) y) is (
            number_from digits offset n,
            record { there = (value, there, leb-true (offset + 4) (length value) less); node = at; property = refl; offset = refl },
          )
      step false less = let z : None ≡ Some x = rw less at e in absurd cc

  told_parts : (text front rest property digits : List ℕ) (x : ListedCell) → IsCut 58 text front rest → IsCut 58 rest property digits → cell_of_parts t front property digits ≡ Some x → IsTold text x
  told_parts text front rest property digits x first second e = step (is_property_name property) refl
    where
      step : (b : Bool) → is_property_name property ≡ b → IsTold text x
      step false is = let z : None ≡ Some x = rw is at e in absurd cc
      step true is =
          let z : option_and_then (λ (p : Path). cell_at t p property (number_of_digits digits)) (node_named (nodes_of (reading_of t)) (front ++ 0 ∷ [])) ≡ Some x = rw is at e in
          let p = then_some (λ (q : Path). cell_at t q property (number_of_digits digits)) (node_named (nodes_of (reading_of t)) (front ++ 0 ∷ [])) x z in
          let path = path_before_nul front p.0 (found_by_text (reading_of t) (front ++ 0 ∷ []) p.0 valid p.1).1 in
          let k = then_some (λ (n : ℕ). option_and_then (λ (v : List ℕ). cell_within n property v (number_of_digits digits)) (value_in (reading_of t) p.0 property)) (place_of t p.0) x p.2 in
          let v = then_some (λ (v : List ℕ). cell_within k.0 property v (number_of_digits digits)) (value_in (reading_of t) p.0 property) x k.2 in
          let w = within_from p.0 property k.0 v.0 digits x k.1 v.1 (number_of_digits digits) refl v.2 in (
            record { path = p.0; property = property; offset = x.offset },
            record {
              digits = digits;
              numeral = w.0.numeral;
              offset = w.0.value;
              path = path.named;
              property = (property_tests property).0 is;
              whole = first.whole ∙ ap (λ (r : List ℕ). front ++ 58 ∷ r) second.whole ∙ ap (λ (f : List ℕ). f ++ 58 ∷ (property ++ 58 ∷ digits)) path.written;
            },
            w.1,
          )

  -- what is found is told
  pub found_is_told : (text : List ℕ) (x : ListedCell) → cell_in t text ≡ Some x → IsTold text x
  found_is_told text x e =
      let a = then_some (λ (first : List ℕ × List ℕ). option_and_then (λ (second : List ℕ × List ℕ). cell_of_parts t first.0 second.0 second.1) (cut_in 58 first.1)) (cut_in 58 text) x e in
      let b = then_some (λ (second : List ℕ × List ℕ). cell_of_parts t a.0.0 second.0 second.1) (cut_in 58 a.0.1) x a.2 in
      told_parts text a.0.0 a.0.1 b.0.0 b.0.1 x (cut_from 58 text a.0 a.1) (cut_from 58 a.0.1 b.0 b.1) b.2

  -- ---- what is listed is found

  -- a cell that the tree has
  cell_there : (p : Path) (property : Name) (k offset : ℕ) (value digits : List ℕ) → place_of t p ≡ Some k → value_in (reading_of t) p property ≡ Some value → IsNumeralOf digits offset → offset + 4 ≤ length value
      → cell_at t p property (number_of_digits digits) ≡ Some (record { node = k; property = property; offset = offset })
  cell_there p property k offset value digits at there is less =
      ap (option_and_then (λ (n : ℕ). option_and_then (λ (v : List ℕ). cell_within n property v (number_of_digits digits)) (value_in (reading_of t) p property))) at
      ∙ ap (option_and_then (λ (v : List ℕ). cell_within k property v (number_of_digits digits))) there
      ∙ cell_in_value k offset property value digits is less

  pub told_is_found : (text : List ℕ) (c : Cell) (x : ListedCell) → IsCellText text c → IsListed t c x → cell_in t text ≡ Some x
  told_is_found text c x is listed =
      let made : ListedCell = record { node = x.node; property = c.property; offset = c.offset } in
      let is_made : x ≡ made = λ i. record { node = x.node; property = listed.property i; offset = listed.offset i } in
      cut_twice t text (path_text c.path) (c.property ++ 58 ∷ is.digits) c.property is.digits
      (record { whole = is.whole; lacks = path_without_colon c.path is.path })
      (record { whole = refl; lacks = property_without_colon c.property is.property.allowed })
      ∙ with_path (path_text c.path) c.property is.digits c.path is.property (record { written = refl; named = is.path })
      ∙ cell_there c.path c.property x.node c.offset listed.there.0 is.digits listed.node listed.there.1 (record { numeral = is.numeral; value = is.offset }) listed.there.2
      ∙ ap (λ (y : ListedCell). Some y) (sym is_made)

  -- a text that names no cell of the tree
  pub none_found : (text : List ℕ) → ((c : Cell) → ¬ HasTold (reading_of t) text c) → cell_in t text ≡ None
  none_found text none = by (cell_in t text) refl
    where
      by : (o : Option ListedCell) → cell_in t text ≡ o → cell_in t text ≡ None
      by None e = e
      by (Some x) e = let w = found_is_told text x e in absurd (none w.0 (w.1, w.2.there))

  -- a cell that the tree has is listed
  pub listed_there : (c : Cell) → HasCell (reading_of t) c → (x : ListedCell) × IsListed t c x
  listed_there c has =
      let k = some_there (place_of t c.path) (stands_place t c.path ∙ value_stands (reading_of t) c.path c.property has.0 has.1) in
      (record { node = k.0; property = c.property; offset = c.offset }, record { there = has; node = k.1; property = refl; offset = refl })
