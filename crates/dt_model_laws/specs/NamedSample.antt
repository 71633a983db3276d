-- A small source whose tree is worked out: as a named tree, its nodes' numbers, and the tree to which it is compiled.
use Rattle.std.specs.Prelude.{ℕ, List, [], ◌∷◌, map, Option, Some, None, codes}
use Rattle.dt_model.specs.Names.{Name}
use Rattle.dt_model.specs.Meaning.{Item, byte, reference, cell}
use Rattle.dt_model.specs.Overlay.{inside}
use Rattle.dt_model.specs.Source.{by_path, one, number_of, Place, root, child, label, property, close}
use Rattle.dt_model.specs.Tree as tree
use Rattle.dt_model.specs.Tree.{Reading}
use Rattle.dt_model.specs.Rows.{set, tree, symbols, symbol_of}
use Rattle.dt_model.specs.Named.{NodeReference, NamedProperty, Content, no_nodes, branch, Named}

-- / { l: a { q; }; b { p = <&{/c}>; }; c { }; d { phandle = <1>; }; };
abbrev pub named_source : List Place
named_source =
    root ∷ child (codes "a") ∷ label (codes "l") ∷ property (codes "q") [] ∷ close
    ∷ child (codes "b") ∷ property (codes "p") (number_of (by_path (codes "c" ∷ [])) ∷ []) ∷ close ∷ child (codes "c") ∷ close
    ∷ child (codes "d") ∷ property (codes "phandle") (one 0 ∷ one 0 ∷ one 0 ∷ one 1 ∷ []) ∷ close ∷ close ∷ []

abbrev pub having : List Name → List (NamedProperty NodeReference) → Content NodeReference
having labels properties = record { labels = labels; properties = properties }

abbrev pub given : Name → List (Item NodeReference) → NamedProperty NodeReference
given name value = record { name = name; value = value }

abbrev pub named_tree : Named NodeReference
named_tree = record {
  reservations = [];
  content = having [] [];
  children = branch (codes "a") (having (codes "l" ∷ []) (given (codes "q") [] ∷ [])) no_nodes
      (branch (codes "b") (having [] (given (codes "p") (reference (inside 3) ∷ []) ∷ [])) no_nodes
      (branch (codes "c") (having [] []) no_nodes
      (branch (codes "d") (having [] (given (codes "phandle") (map byte (cell 1)) ∷ [])) no_nodes
      no_nodes)));
}

-- the root's, and those of a, which has a label, of b, of c, to which a value refers, and of d, in which one is written
abbrev pub named_numbers : List (Option ℕ)
named_numbers = None ∷ Some 2 ∷ None ∷ Some 3 ∷ Some 1 ∷ []

abbrev pub named_compiled : Reading
named_compiled = tree []
    (tree.branch (codes "a") (set (codes "q") [] ∷ set (codes "phandle") (cell 2) ∷ []) tree.no_nodes
    (tree.branch (codes "b") (set (codes "p") (cell 3) ∷ []) tree.no_nodes
    (tree.branch (codes "c") (set (codes "phandle") (cell 3) ∷ []) tree.no_nodes
    (tree.branch (codes "d") (set (codes "phandle") (cell 1) ∷ []) tree.no_nodes
    (symbols (symbol_of (codes "l") (codes "a" ∷ []) ∷ []))))))
