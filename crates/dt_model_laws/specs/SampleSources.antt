-- A small source and a small overlay, by their places.
use Rattle.std.specs.Prelude.{◌≡◌, true, false, List, [], ◌∷◌, Some, map, codes}
use Rattle.dt_model.specs.Path.{Path, path_value}
use Rattle.dt_model.specs.Meaning.{byte, reference, Meaning}
use Rattle.dt_model.specs.Source.{by_label, by_path, one, number_of, text_of, Place, root, block, delete_node, child, label, property, close, base, SourceMeans}
use Rattle.dt_model.specs.Overlay.{inside, outside, at_reference, at_path, Fragment, Overlay}
use Rattle.dt_model.specs.OverlaySource.{OverlayMeans}

-- / { x: a { phandle = <5>; r = <&y>; b { }; }; y: c { }; d { p = &gone; }; };
-- /delete-node/ &{/d};
-- &x { s = &{/a/b}; };
abbrev pub sample_source : List Place
sample_source =
    root ∷ child (codes "a") ∷ label (codes "x") ∷ property (codes "phandle") (one 0 ∷ one 0 ∷ one 0 ∷ one 5 ∷ [])
    ∷ property (codes "r") (number_of (by_label (codes "y")) ∷ []) ∷ child (codes "b") ∷ close ∷ close ∷ child (codes "c") ∷ label (codes "y") ∷ close
    ∷ child (codes "d") ∷ property (codes "p") (text_of (by_label (codes "gone")) ∷ []) ∷ close ∷ close ∷ delete_node (by_path (codes "d" ∷ []))
    ∷ block (by_label (codes "x")) ∷ property (codes "s") (text_of (by_path (codes "a" ∷ codes "b" ∷ [])) ∷ []) ∷ close ∷ []

-- what the source means
pub record IsSampleMeaning (m : Meaning) : Type 0 where
  pub means : SourceMeans base [] sample_source m
  pub there : m.stands (codes "a" ∷ codes "b" ∷ []) ≡ true
  pub gone : m.stands (codes "d" ∷ []) ≡ false
  pub number : m.number (codes "a" ∷ []) ≡ Some 5
  pub reference_kept : m.value (codes "a" ∷ []) (codes "r") ≡ Some (reference (codes "c" ∷ []) ∷ [])
  pub text : m.value (codes "a" ∷ []) (codes "s") ≡ Some (map byte (path_value (codes "a" ∷ codes "b" ∷ [])))
  pub labelled : m.label (codes "y") ≡ Some (codes "c" ∷ [])
  pub keyed : m.keyed (codes "c" ∷ []) ≡ true
  pub unkeyed : m.keyed (codes "a" ∷ codes "b" ∷ []) ≡ false

-- &ext { c { l: d { r = <&l &ext>; }; }; };
-- &{/soc} { p; };
abbrev pub sample_overlay : List Place
sample_overlay =
    block (by_label (codes "ext")) ∷ child (codes "c") ∷ child (codes "d") ∷ label (codes "l")
    ∷ property (codes "r") (number_of (by_label (codes "l")) ∷ number_of (by_label (codes "ext")) ∷ []) ∷ close ∷ close ∷ close
    ∷ block (by_path (codes "soc" ∷ [])) ∷ property (codes "p") [] ∷ close ∷ []

abbrev pub sample_fragments : List Fragment
sample_fragments = record { name = codes "fragment@0"; target = at_reference (outside (codes "ext")) } ∷ record { name = codes "fragment@1"; target = at_path (codes "soc" ∷ []) } ∷ []

-- the node that the label l names
abbrev pub sample_node : Path
sample_node = codes "fragment@0" ∷ codes "__overlay__" ∷ codes "c" ∷ codes "d" ∷ []

-- what the overlay means
pub record IsSampleOverlay (o : Overlay) : Type 0 where
  pub means : OverlayMeans sample_overlay o
  pub fragments : o.fragments ≡ sample_fragments
  pub value : o.value sample_node (codes "r") ≡ Some (reference (inside sample_node) ∷ reference (outside (codes "ext")) ∷ [])
  pub keyed : o.keyed sample_node ≡ true
