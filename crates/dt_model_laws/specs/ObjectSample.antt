-- A small overlay whose object is worked out: as a named tree, its fragment, and its nodes' numbers.
use Rattle.std.specs.Prelude.{ℕ, List, [], ◌∷◌, map, Option, Some, None, codes}
use Rattle.dt_model.specs.Path.{path_value}
use Rattle.dt_model.specs.Meaning.{byte, reference}
use Rattle.dt_model.specs.Overlay.{inside, outside}
use Rattle.dt_model.specs.Rows.{fragment}
use Rattle.dt_model.specs.Named.{NodeReference, no_nodes, branch, Named}
use Rattle.dt_model.specs.NamedOverlay.{NamedFragment, to_text}
use Rattle.dt_model_laws.specs.NamedSample.{having, given}

-- &{/} { d { p = [01], <&gic>; q = <&e>; }; e: f { }; };
abbrev pub two_cells_named : Named NodeReference
two_cells_named = record {
  reservations = [];
  content = having [] [];
  children = branch (fragment 0) (having [] (given (codes "target-path") (map byte (path_value [])) ∷ []))
      (branch (codes "__overlay__") (having [] [])
      (branch (codes "d") (having [] (given (codes "p") (byte 1 ∷ reference (outside (codes "gic")) ∷ []) ∷ given (codes "q") (reference (inside 4) ∷ []) ∷ [])) no_nodes
      (branch (codes "f") (having (codes "e" ∷ []) []) no_nodes no_nodes))
      no_nodes)
      no_nodes;
}

-- its one fragment is the root's first child
abbrev pub two_cells_targets : List NamedFragment
two_cells_targets = record { node = 1; target = to_text (codes "/") } ∷ []

-- f has a number, which has a label and to which a value refers
abbrev pub two_cells_numbered : List (Option ℕ)
two_cells_numbered = None ∷ None ∷ None ∷ None ∷ Some 1 ∷ []
