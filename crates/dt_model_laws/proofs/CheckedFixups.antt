-- The fixups of an object, written out.
use Rattle.std.proofs.Common.{◌≡◌, ℕ, ◌^◌, Bool, true, ◌&&◌, List, [], ◌∷◌, ◌++◌, map, refl, sym, subst}
use Rattle.std.specs.Prelude.{codes, decimal, nat_lt, nat_eq}
use Rattle.std.specs.List.{list_all}
use Rattle.std.specs.Str.{bytes_eq}
use Rattle.std.proofs.lemmas.Fmt.{decimal_is_IsNumeral}
use Rattle.dt_model.specs.Names.{Name, is_node_name, is_property_name}
use Rattle.dt_model.specs.Path.{path_eq, path_text}
use Rattle.dt_model.specs.Tree.{Property, Reading, node_at}
use Rattle.dt_model.specs.Object.{Cell, IsCellText, AreCellTexts, AreFixups, properties_of, HasFixups}
use Rattle.dt_model.proofs.Tests.{and_left, and_right, and_both}
use Rattle.dt_model_laws.proofs.CheckedWords.{IsEquality, same_names, same_paths, same_numbers}
use Rattle.dt_model_laws.proofs.CheckedNames.{below, property_name, path_names}

-- ---- cells are the same

abbrev pub cell_eq : Cell → Cell → Bool
cell_eq c d = path_eq c.path d.path && (bytes_eq c.property d.property && nat_eq c.offset d.offset)

cell_is : (c d : Cell) → cell_eq c d ≡ true → c ≡ d
cell_is c d h =
    let rest = and_right (path_eq c.path d.path) (bytes_eq c.property d.property && nat_eq c.offset d.offset) h in
    let path = same_paths.same c.path d.path (and_left (path_eq c.path d.path) (bytes_eq c.property d.property && nat_eq c.offset d.offset) h) in
    let property = same_names.same c.property d.property (and_left (bytes_eq c.property d.property) (nat_eq c.offset d.offset) rest) in
    let offset = same_numbers.same c.offset d.offset (and_right (bytes_eq c.property d.property) (nat_eq c.offset d.offset) rest) in
    λ i. record { path = path i; property = property i; offset = offset i }

pub same_cells : IsEquality {X = Cell} cell_eq
same_cells = record {
  same = cell_is;
  itself = λ c.
      and_both (path_eq c.path c.path) (bytes_eq c.property c.property && nat_eq c.offset c.offset) (same_paths.itself c.path)
      (and_both (bytes_eq c.property c.property) (nat_eq c.offset c.offset) (same_names.itself c.property) (same_numbers.itself c.offset));
}

abbrev pub fixup_eq : Name × Cell → Name × Cell → Bool
fixup_eq x y = bytes_eq x.0 y.0 && cell_eq x.1 y.1

fixup_is : (x y : Name × Cell) → fixup_eq x y ≡ true → x ≡ y
fixup_is x y h =
    let name = same_names.same x.0 y.0 (and_left (bytes_eq x.0 y.0) (cell_eq x.1 y.1) h) in
    let at = cell_is x.1 y.1 (and_right (bytes_eq x.0 y.0) (cell_eq x.1 y.1) h) in
    λ i. (name i, at i)

pub same_fixups : IsEquality {X = Name × Cell} fixup_eq
same_fixups = record { same = fixup_is; itself = λ x. and_both (bytes_eq x.0 x.0) (cell_eq x.1 x.1) (same_names.itself x.0) (same_cells.itself x.1) }

-- ---- texts

abbrev cell_text : Cell → List ℕ
cell_text c = path_text c.path ++ (codes ":" ++ (c.property ++ (codes ":" ++ decimal c.offset)))

abbrev cell_texts : List Cell → List ℕ
cell_texts [] = []
cell_texts (c ∷ cells) = cell_text c ++ 0 ∷ cell_texts cells

abbrev has_text : Cell → Bool
has_text c = list_all is_node_name c.path && (is_property_name c.property && nat_lt c.offset (2 ^ 64))

a_cell_text : (c : Cell) → has_text c ≡ true → IsCellText (cell_text c) c
a_cell_text c h =
    let rest = and_right (list_all is_node_name c.path) (is_property_name c.property && nat_lt c.offset (2 ^ 64)) h in
    let number = decimal_is_IsNumeral c.offset (below c.offset (2 ^ 64) (and_right (is_property_name c.property) (nat_lt c.offset (2 ^ 64)) rest)) in
    record {
      digits = decimal c.offset;
      numeral = number.0;
      offset = number.1;
      path = path_names c.path (and_left (list_all is_node_name c.path) (is_property_name c.property && nat_lt c.offset (2 ^ 64)) h);
      property = property_name c.property (and_left (is_property_name c.property) (nat_lt c.offset (2 ^ 64)) rest);
      whole = refl;
    }

are_cell_texts : (cells : List Cell) → list_all has_text cells ≡ true → AreCellTexts (cell_texts cells) cells
are_cell_texts [] h = refl
are_cell_texts (c ∷ cells) h =
    (cell_text c, cell_texts cells, refl, a_cell_text c (and_left (has_text c) (list_all has_text cells) h), are_cell_texts cells (and_right (has_text c) (list_all has_text cells) h))

-- ---- the cells by their labels

abbrev pub Groups : Type 0
Groups = List (Name × List Cell)

abbrev pub fixups_of : Groups → List (Name × Cell)
fixups_of [] = []
fixups_of (g ∷ groups) = map (λ c. (g.0, c)) g.1 ++ fixups_of groups

abbrev pub fixup_properties : Groups → List Property
fixup_properties [] = []
fixup_properties (g ∷ groups) = record { name = g.0; value = cell_texts g.1 } ∷ fixup_properties groups

abbrev pub have_texts : Groups → Bool
have_texts groups = list_all (λ (g : Name × List Cell). list_all has_text g.1) groups

are_fixups : (groups : Groups) → have_texts groups ≡ true → AreFixups (fixup_properties groups) (fixups_of groups)
are_fixups [] h = refl
are_fixups (g ∷ groups) h =
    (g.1, fixups_of groups, refl, are_cell_texts g.1 (and_left (list_all has_text g.1) (have_texts groups) h), are_fixups groups (and_right (list_all has_text g.1) (have_texts groups) h))

pub has_fixups : (t : Reading) (groups : Groups) → properties_of (node_at t (codes "__fixups__" ∷ [])) ≡ fixup_properties groups → have_texts groups ≡ true → HasFixups t (fixups_of groups)
has_fixups t groups e h = subst (λ ps. AreFixups ps (fixups_of groups)) (sym e) (are_fixups groups h)
