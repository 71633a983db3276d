-- Bases and objects on which the premises of the laws are worked out.
use Rattle.std.specs.Prelude.{ℕ, List, [], ◌∷◌, ◌++◌, codes, unwrap_or}
use Rattle.dt_model.specs.Path.{Path}
use Rattle.dt_model.specs.Names.{Name}
use Rattle.dt_model.specs.Object.{Cell, HasFixups}
use Rattle.dt_model.specs.Overlay.{Fragment, Overlay}
use Rattle.dt_model.specs.OverlaySource.{OverlayMeans}
use Rattle.dt_model.specs.Meaning.{cell, Meaning}
use Rattle.dt_model.specs.Source.{by_path, Place, root, block, child, label, property, close, base, SourceMeans}
use Rattle.dt_model.specs.Instance.{symbol, with_symbols}
use Rattle.dt_model.specs.Tree.{Property, Reading, no_nodes, branch}
use Rattle.dt_model.specs.Rows.{number, fragment, content_of, set, tree, phandle_of, meaning, overlay, controller, controller_source, one_node, one_node_source, referring, referring_source, two_cells, two_cells_source, two_cells_fragments, three_values, three_values_source, three_values_fragments, inner_target, inner_source, inner_fragments, label_taken, label_taken_source, joined_node, written_phandle, gap_of_numbers}
use Rattle.dt_model.specs.Numbers.{number_in}
use Rattle.dt_model_laws.specs.Applying.{AreOf}

-- the number that the list has for a path, 0 where it has none
abbrev pub numbering : List (Path × ℕ) → Path → ℕ
numbering numbers p = unwrap_or (number_in numbers p) 0

-- a base's source, its tree, and the numbers of its keyed nodes
pub record Base : Type 0 where
  pub places : List Place
  pub tree : Reading
  pub numbers : List (Path × ℕ)

-- an overlay's source, its fragments, its object, the numbers of its keyed nodes, and its cells by their labels
pub record Object : Type 0 where
  pub places : List Place
  pub fragments : List Fragment
  pub tree : Reading
  pub numbers : List (Path × ℕ)
  pub fixups : List (Name × Cell)

abbrev pub base_meaning : Base → Meaning
base_meaning b = meaning b.places

abbrev pub object_overlay : Object → Overlay
object_overlay x = overlay x.places x.fragments

-- a base and an object meet what the laws of applying ask for
pub record MeetThem (b : Base) (x : Object) : Type 0 where
  pub base_source : SourceMeans base [] b.places (base_meaning b)
  pub source : OverlayMeans x.places (object_overlay x)
  pub are_of : AreOf b.tree x.tree (base_meaning b) (object_overlay x) (numbering b.numbers) (numbering x.numbers)
  pub fixups : HasFixups x.tree x.fixups

-- ---- the base with a controller, and the object with two cells

abbrev pub controller_numbers : List (Path × ℕ)
controller_numbers = (codes "ic" ∷ [], 1) ∷ []

abbrev pub controller_base : Base
controller_base = record { places = controller_source; tree = controller; numbers = controller_numbers }

abbrev pub two_cells_numbers : List (Path × ℕ)
two_cells_numbers = (content_of 0 ++ codes "f" ∷ [], 1) ∷ []

abbrev pub two_cells_fixups : List (Name × Cell)
two_cells_fixups = (codes "gic", record { path = content_of 0 ++ codes "d" ∷ []; property = codes "p"; offset = 1 }) ∷ []

abbrev pub two_cells_object : Object
two_cells_object = record { places = two_cells_source; fragments = two_cells_fragments; tree = two_cells; numbers = two_cells_numbers; fixups = two_cells_fixups }

-- ---- the base with one node, and the object with three values

abbrev pub one_node_numbers : List (Path × ℕ)
one_node_numbers = (codes "s" ∷ [], 1) ∷ []

abbrev pub one_node_base : Base
one_node_base = record { places = one_node_source; tree = one_node; numbers = one_node_numbers }

abbrev pub three_values_numbers : List (Path × ℕ)
three_values_numbers = (content_of 0 ++ codes "x" ∷ [], 1) ∷ []

abbrev pub three_values_fixups : List (Name × Cell)
three_values_fixups =
    (codes "a", record { path = fragment 0 ∷ []; property = codes "target"; offset = 0 })
    ∷ (codes "a", record { path = fragment 1 ∷ []; property = codes "target"; offset = 0 }) ∷ []

abbrev pub three_values_object : Object
three_values_object = record { places = three_values_source; fragments = three_values_fragments; tree = three_values; numbers = three_values_numbers; fixups = three_values_fixups }

-- ---- the object whose second fragment names a node that the first one brings

abbrev pub inner_target_numbers : List (Path × ℕ)
inner_target_numbers = (codes "g" ∷ codes "__overlay__" ∷ codes "x" ∷ [], 1) ∷ []

abbrev pub inner_target_object : Object
inner_target_object = record { places = inner_source; fragments = inner_fragments; tree = inner_target; numbers = inner_target_numbers; fixups = [] }

-- ---- the base with a reference, and the object that takes its label over

abbrev pub referring_numbers : List (Path × ℕ)
referring_numbers = (codes "a" ∷ [], 1) ∷ []

abbrev pub referring_base : Base
referring_base = record { places = referring_source; tree = referring; numbers = referring_numbers }

abbrev pub label_taken_numbers : List (Path × ℕ)
label_taken_numbers = (content_of 0 ++ codes "b" ∷ [], 1) ∷ []

abbrev pub label_taken_object : Object
label_taken_object = record { places = label_taken_source; fragments = two_cells_fragments; tree = label_taken; numbers = label_taken_numbers; fixups = [] }

-- ---- the object with a node that lands on one that has a number

-- &{/} { m: ic { }; k { r = <&m>; }; };
abbrev pub joined_node_source : List Place
joined_node_source =
    block (by_path []) ∷ child (codes "ic") ∷ label (codes "m") ∷ close ∷ child (codes "k") ∷ property (codes "r") (phandle_of (codes "m")) ∷ close ∷ close ∷ []

abbrev pub joined_node_numbers : List (Path × ℕ)
joined_node_numbers = (content_of 0 ++ codes "ic" ∷ [], 1) ∷ []

abbrev pub joined_node_object : Object
joined_node_object = record { places = joined_node_source; fragments = two_cells_fragments; tree = joined_node; numbers = joined_node_numbers; fixups = [] }

-- ---- bases with written numbers

-- / { l: a { }; b { phandle = <1>; p = &l, <&{/b}>; }; };
abbrev pub instance_written_phandle : Reading
instance_written_phandle = tree []
    (branch (codes "a") (set (codes "phandle") (cell 2) ∷ []) no_nodes
    (branch (codes "b") (set (codes "phandle") (cell 1) ∷ set (codes "p") (0x2f ∷ 0x61 ∷ 0 ∷ 0 ∷ 0 ∷ 0 ∷ 1 ∷ []) ∷ []) no_nodes
    no_nodes))

abbrev pub written_phandle_symbols : List Property
written_phandle_symbols = symbol (codes "a" ∷ []) (codes "l") ∷ []

abbrev pub with_written_phandle : Reading
with_written_phandle = with_symbols written_phandle_symbols instance_written_phandle

abbrev pub written_phandle_numbers : List (Path × ℕ)
written_phandle_numbers = (codes "a" ∷ [], 2) ∷ (codes "b" ∷ [], 1) ∷ []

abbrev pub written_phandle_base : Base
written_phandle_base = record { places = written_phandle; tree = with_written_phandle; numbers = written_phandle_numbers }

-- / { p = <&b &{/c}>; l: a { phandle = <2>; }; b: b { }; c { x: d { }; }; };
abbrev pub instance_gap_of_numbers : Reading
instance_gap_of_numbers = tree (set (codes "p") (cell 1 ++ cell 3) ∷ [])
    (branch (codes "a") (set (codes "phandle") (cell 2) ∷ []) no_nodes
    (branch (codes "b") (set (codes "phandle") (cell 1) ∷ []) no_nodes
    (branch (codes "c") (set (codes "phandle") (cell 3) ∷ [])
    (branch (codes "d") (set (codes "phandle") (cell 4) ∷ []) no_nodes no_nodes) no_nodes)))

abbrev pub gap_of_numbers_symbols : List Property
gap_of_numbers_symbols = symbol (codes "a" ∷ []) (codes "l") ∷ symbol (codes "b" ∷ []) (codes "b") ∷ symbol (codes "c" ∷ codes "d" ∷ []) (codes "x") ∷ []

abbrev pub with_gap_of_numbers : Reading
with_gap_of_numbers = with_symbols gap_of_numbers_symbols instance_gap_of_numbers

abbrev pub gap_of_numbers_numbers : List (Path × ℕ)
gap_of_numbers_numbers = (codes "a" ∷ [], 2) ∷ (codes "b" ∷ [], 1) ∷ (codes "c" ∷ [], 3) ∷ (codes "c" ∷ codes "d" ∷ [], 4) ∷ []

abbrev pub gap_of_numbers_base : Base
gap_of_numbers_base = record { places = gap_of_numbers; tree = with_gap_of_numbers; numbers = gap_of_numbers_numbers }

-- ---- sources that are refused after their last place

-- / { a { phandle = <0>; }; p = <&nope>; };
abbrev pub unresolved_and_bad : List Place
unresolved_and_bad =
    root ∷ child (codes "a") ∷ property (codes "phandle") (number 0) ∷ close ∷ property (codes "p") (phandle_of (codes "nope")) ∷ close ∷ []

-- / { a { phandle = <1>; }; b { phandle = <1>; }; c { phandle = <0>; }; };
abbrev pub bad_and_duplicate : List Place
bad_and_duplicate =
    root ∷ child (codes "a") ∷ property (codes "phandle") (number 1) ∷ close ∷ child (codes "b") ∷ property (codes "phandle") (number 1) ∷ close
    ∷ child (codes "c") ∷ property (codes "phandle") (number 0) ∷ close ∷ close ∷ []

-- / { a { phandle = <1>; }; b { phandle = <1>; }; };
abbrev pub duplicate_numbers : List Place
duplicate_numbers =
    root ∷ child (codes "a") ∷ property (codes "phandle") (number 1) ∷ close ∷ child (codes "b") ∷ property (codes "phandle") (number 1) ∷ close ∷ close ∷ []
