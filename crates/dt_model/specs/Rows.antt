-- Some sources, trees and objects by which the definitions can be tried. The text of each is above it.
use Rattle.std.specs.Prelude.{ℕ, zero, suc, ◌+◌, List, [], ◌∷◌, ◌++◌, Option, Some, None, Result, Ok, Err, map, codes}
use Rattle.dt_model.specs.Names.{Name}
use Rattle.dt_model.specs.Path.{Path, path_value}
use Rattle.dt_model.specs.Meaning.{Meaning, cell}
use Rattle.dt_model.specs.Overlay.{inside, outside, at_reference, at_path, Fragment, Overlay}
use Rattle.dt_model.specs.Merged.{Site}
use Rattle.dt_model.specs.Tree.{Property, Forest, no_nodes, branch, Reading}
use Rattle.dt_model.specs.Source.{by_label, by_path, Part, one, number_of, text_of, Place, root, block, delete_node, child, label, property, delete_property, delete_child, close, base, Refusal, Events, SoFar, nothing, read_all, meaning_of}
use Rattle.dt_model.specs.OverlaySource.{OverlaySoFar, OverlayRefusal, overlay_start, root_children, read_overlays, overlay_of}

-- ---- words for sources

-- `<n>`
abbrev pub number : ℕ → List Part
number n = map one (cell n)

-- `"text"`
abbrev pub text : Name → List Part
text s = map one (s ++ 0 ∷ [])

-- `<&label>`
abbrev pub phandle_of : Name → List Part
phandle_of l = number_of (by_label l) ∷ []

abbrev pub events_of : Result SoFar Refusal → Events
events_of (Ok s) = s.events
events_of (Err refusal) = []

abbrev pub refusal_of : Result SoFar Refusal → Option Refusal
refusal_of (Ok s) = None
refusal_of (Err refusal) = Some refusal

-- the events of a base's places, and why they are refused, if they are
abbrev pub events : List Place → Events
events places = events_of (read_all base nothing places)

abbrev pub refusal : List Place → Option Refusal
refusal places = refusal_of (read_all base nothing places)

abbrev pub meaning : List Place → Meaning
meaning places = meaning_of [] (events places)

abbrev pub overlay_events_of : Result OverlaySoFar OverlayRefusal → Events
overlay_events_of (Ok s) = s.source.events
overlay_events_of (Err refusal) = []

abbrev pub overlay_refusal_of : Result OverlaySoFar OverlayRefusal → Option OverlayRefusal
overlay_refusal_of (Ok s) = None
overlay_refusal_of (Err refusal) = Some refusal

abbrev pub overlay_read : List Place → Result OverlaySoFar OverlayRefusal
overlay_read places = read_overlays (root_children None places) overlay_start places

abbrev pub overlay_refusal : List Place → Option OverlayRefusal
overlay_refusal places = overlay_refusal_of (overlay_read places)

-- the overlay of an overlay's places, with these fragments
abbrev pub overlay : List Place → List Fragment → Overlay
overlay places fragments = overlay_of (overlay_events_of (overlay_read places)) fragments

-- ---- words for trees

abbrev pub set : Name → List ℕ → Property
set name value = record { name = name; value = value }

abbrev pub tree : List Property → Forest → Reading
tree properties children = record { boot_cpu = 0; reservations = []; properties = properties; children = children }

-- a property of `__symbols__`
abbrev pub symbol_of : Name → Path → Property
symbol_of l p = record { name = l; value = path_value p }

abbrev pub symbols : List Property → Forest
symbols properties = branch (codes "__symbols__") properties no_nodes no_nodes

-- ---- sources

-- / { a = <1>; l: n { p; q; }; }; / { a = "x"; /delete-node/ n; n { q; }; };
abbrev pub opened_again : List Place
opened_again =
    root ∷ property (codes "a") (number 1) ∷ child (codes "n") ∷ label (codes "l") ∷ property (codes "p") [] ∷ property (codes "q") [] ∷ close ∷ close
    ∷ root ∷ property (codes "a") (text (codes "x")) ∷ delete_child (codes "n") ∷ child (codes "n") ∷ property (codes "q") [] ∷ close ∷ close ∷ []

-- / { a = <&l>; n { l: m { }; }; }; / { /delete-node/ n; };
abbrev pub deleted_label : List Place
deleted_label =
    root ∷ property (codes "a") (phandle_of (codes "l")) ∷ child (codes "n") ∷ child (codes "m") ∷ label (codes "l") ∷ close ∷ close ∷ close
    ∷ root ∷ delete_child (codes "n") ∷ close ∷ []

-- / { l: a { }; b { phandle = <1>; p = &l, <&{/b}>; }; };
abbrev pub written_phandle : List Place
written_phandle =
    root ∷ child (codes "a") ∷ label (codes "l") ∷ close ∷ child (codes "b") ∷ property (codes "phandle") (number 1)
    ∷ property (codes "p") (text_of (by_label (codes "l")) ∷ number_of (by_path (codes "b" ∷ [])) ∷ []) ∷ close ∷ close ∷ []

-- / { p = <&b &{/c}>; l: a { phandle = <2>; }; b: b { }; c { x: d { }; }; };
abbrev pub gap_of_numbers : List Place
gap_of_numbers =
    root ∷ property (codes "p") (number_of (by_label (codes "b")) ∷ number_of (by_path (codes "c" ∷ [])) ∷ [])
    ∷ child (codes "a") ∷ label (codes "l") ∷ property (codes "phandle") (number 2) ∷ close
    ∷ child (codes "b") ∷ label (codes "b") ∷ close ∷ child (codes "c") ∷ child (codes "d") ∷ label (codes "x") ∷ close ∷ close ∷ close ∷ []

-- / { l: a { }; }; /delete-node/ &l; / { l: b { }; };
abbrev pub label_again : List Place
label_again =
    root ∷ child (codes "a") ∷ label (codes "l") ∷ close ∷ close ∷ delete_node (by_label (codes "l"))
    ∷ root ∷ child (codes "b") ∷ label (codes "l") ∷ close ∷ close ∷ []

-- / { l: a { }; }; / { l: b { }; };
abbrev pub label_twice : List Place
label_twice = root ∷ child (codes "a") ∷ label (codes "l") ∷ close ∷ close ∷ root ∷ child (codes "b") ∷ label (codes "l") ∷ close ∷ close ∷ []

-- / { }; l: &{/} { };
abbrev pub root_label : List Place
root_label = root ∷ close ∷ block (by_path []) ∷ label (codes "l") ∷ close ∷ []

-- / { a; /delete-property/ a; };
abbrev pub deleted_property : List Place
deleted_property = root ∷ property (codes "a") [] ∷ delete_property (codes "a") ∷ close ∷ []

-- / { a; /delete-property/ a; a; };
abbrev pub property_twice : List Place
property_twice = root ∷ property (codes "a") [] ∷ delete_property (codes "a") ∷ property (codes "a") [] ∷ close ∷ []

-- / { }; /delete-node/ &{/};
abbrev pub deleted_root : List Place
deleted_root = root ∷ close ∷ delete_node (by_path []) ∷ []

-- / { /delete-node/ x; };
abbrev pub deleted_nothing : List Place
deleted_nothing = root ∷ delete_child (codes "x") ∷ close ∷ []

-- / { n { }; n { }; };
abbrev pub node_twice : List Place
node_twice = root ∷ child (codes "n") ∷ close ∷ child (codes "n") ∷ close ∷ close ∷ []

-- &x { };
abbrev pub no_target : List Place
no_target = block (by_label (codes "x")) ∷ close ∷ []

-- / { __symbols__ { }; };
abbrev pub reserved : List Place
reserved = root ∷ child (codes "__symbols__") ∷ close ∷ close ∷ []

-- so many nodes `n { }`, each in the one before
abbrev pub nested : ℕ → List Place
nested zero = []
nested (suc n) = child (codes "n") ∷ (nested n ++ close ∷ [])

-- / { n { n { .. }; }; }; so many levels deep
abbrev pub levels : ℕ → List Place
levels n = root ∷ (nested n ++ close ∷ [])

-- ---- overlay sources

-- &{/} { d { p = [01], <&gic>; q = <&e>; }; e: f { }; };
abbrev pub two_cells_source : List Place
two_cells_source =
    block (by_path []) ∷ child (codes "d") ∷ property (codes "p") (one 1 ∷ phandle_of (codes "gic")) ∷ property (codes "q") (phandle_of (codes "e")) ∷ close
    ∷ child (codes "f") ∷ label (codes "e") ∷ close ∷ close ∷ []

-- &a { n: x { p = <1>; }; }; &a { x { p = <2>; }; }; &n { p = <3>; };
abbrev pub three_values_source : List Place
three_values_source =
    block (by_label (codes "a")) ∷ child (codes "x") ∷ label (codes "n") ∷ property (codes "p") (number 1) ∷ close ∷ close
    ∷ block (by_label (codes "a")) ∷ child (codes "x") ∷ property (codes "p") (number 2) ∷ close ∷ close
    ∷ block (by_label (codes "n")) ∷ property (codes "p") (number 3) ∷ close ∷ []

-- / { fragment@0 { target-path = "/"; __overlay__ { a; }; }; }; &x { b; };
abbrev pub written_fragment_source : List Place
written_fragment_source =
    root ∷ child (codes "fragment@0") ∷ property (codes "target-path") (text (codes "/")) ∷ child (codes "__overlay__") ∷ property (codes "a") [] ∷ close ∷ close ∷ close
    ∷ block (by_label (codes "x")) ∷ property (codes "b") [] ∷ close ∷ []

-- &x { }; / { fragment@0 { target-path = "/"; __overlay__ { }; }; };
abbrev pub later_fragment_source : List Place
later_fragment_source =
    block (by_label (codes "x")) ∷ close
    ∷ root ∷ child (codes "fragment@0") ∷ property (codes "target-path") (text (codes "/")) ∷ child (codes "__overlay__") ∷ close ∷ close ∷ close ∷ []

-- &a { /delete-property/ p; };
abbrev pub deleting_source : List Place
deleting_source = block (by_label (codes "a")) ∷ delete_property (codes "p") ∷ close ∷ []

-- &a { phandle = <1>; };
abbrev pub numbering_source : List Place
numbering_source = block (by_label (codes "a")) ∷ property (codes "phandle") (number 1) ∷ close ∷ []

-- &a { p = &b; };
abbrev pub text_source : List Place
text_source = block (by_label (codes "a")) ∷ property (codes "p") (text_of (by_label (codes "b")) ∷ []) ∷ close ∷ []

-- &a { p = <&{/x}>; };
abbrev pub path_source : List Place
path_source = block (by_label (codes "a")) ∷ property (codes "p") (number_of (by_path (codes "x" ∷ [])) ∷ []) ∷ close ∷ []

-- &a { phandle = &b; };
abbrev pub numbering_text_source : List Place
numbering_text_source = block (by_label (codes "a")) ∷ property (codes "phandle") (text_of (by_label (codes "b")) ∷ []) ∷ close ∷ []

-- &a { p; p = &b; };
abbrev pub text_again_source : List Place
text_again_source = block (by_label (codes "a")) ∷ property (codes "p") [] ∷ property (codes "p") (text_of (by_label (codes "b")) ∷ []) ∷ close ∷ []

-- / { g { __overlay__ { p = <&f>; }; }; f: h { }; };
abbrev pub no_target_source : List Place
no_target_source =
    root ∷ child (codes "g") ∷ child (codes "__overlay__") ∷ property (codes "p") (phandle_of (codes "f")) ∷ close ∷ close
    ∷ child (codes "h") ∷ label (codes "f") ∷ close ∷ close ∷ []

-- / { g { target-path = "/"; __overlay__ { p = <&f>; }; }; f: h { }; };
abbrev pub outside_content_source : List Place
outside_content_source =
    root ∷ child (codes "g") ∷ property (codes "target-path") (text (codes "/")) ∷ child (codes "__overlay__") ∷ property (codes "p") (phandle_of (codes "f")) ∷ close ∷ close
    ∷ child (codes "h") ∷ label (codes "f") ∷ close ∷ close ∷ []

-- / { g { target-path = "/"; __overlay__ { n: x { }; }; }; f { target = <&n>; __overlay__ { q; }; }; };
abbrev pub inner_source : List Place
inner_source =
    root ∷ child (codes "g") ∷ property (codes "target-path") (text (codes "/")) ∷ child (codes "__overlay__") ∷ child (codes "x") ∷ label (codes "n") ∷ close ∷ close ∷ close
    ∷ child (codes "f") ∷ property (codes "target") (phandle_of (codes "n")) ∷ child (codes "__overlay__") ∷ property (codes "q") [] ∷ close ∷ close ∷ close ∷ []

-- &{/} { l: b { }; };
abbrev pub label_taken_source : List Place
label_taken_source = block (by_path []) ∷ child (codes "b") ∷ label (codes "l") ∷ close ∷ close ∷ []

-- ---- bases to which these overlays are applied

-- / { gic: ic { }; };
abbrev pub controller_source : List Place
controller_source = root ∷ child (codes "ic") ∷ label (codes "gic") ∷ close ∷ close ∷ []

-- / { a: s { }; };
abbrev pub one_node_source : List Place
one_node_source = root ∷ child (codes "s") ∷ label (codes "a") ∷ close ∷ close ∷ []

-- / { r = <&l>; l: a { }; };
abbrev pub referring_source : List Place
referring_source = root ∷ property (codes "r") (phandle_of (codes "l")) ∷ child (codes "a") ∷ label (codes "l") ∷ close ∷ close ∷ []

-- ---- their fragments and sites

abbrev pub fragment : ℕ → Name
fragment n = codes "fragment@" ++ (48 + n) ∷ []

abbrev pub two_cells_fragments : List Fragment
two_cells_fragments = record { name = fragment 0; target = at_path [] } ∷ []

abbrev pub two_cells_sites : List Site
two_cells_sites = record { fragment = fragment 0; at = [] } ∷ []

abbrev pub three_values_fragments : List Fragment
three_values_fragments =
    record { name = fragment 0; target = at_reference (outside (codes "a")) } ∷ record { name = fragment 1; target = at_reference (outside (codes "a")) } ∷ []

abbrev pub three_values_sites : List Site
three_values_sites = record { fragment = fragment 0; at = codes "s" ∷ [] } ∷ record { fragment = fragment 1; at = codes "s" ∷ [] } ∷ []

abbrev pub inner_fragments : List Fragment
inner_fragments =
    record { name = codes "g"; target = at_path [] }
    ∷ record { name = codes "f"; target = at_reference (inside (codes "g" ∷ codes "__overlay__" ∷ codes "x" ∷ [])) } ∷ []

abbrev pub inner_sites : List Site
inner_sites = record { fragment = codes "g"; at = [] } ∷ record { fragment = codes "f"; at = codes "x" ∷ [] } ∷ []

-- ---- trees and objects

-- the tree of / { p = <&b &{/c}>; l: a { phandle = <2>; }; b: b { }; c { x: d { }; }; };
abbrev pub gap_tree : Reading
gap_tree = tree (set (codes "p") (cell 1 ++ cell 3) ∷ [])
    (branch (codes "a") (set (codes "phandle") (cell 2) ∷ []) no_nodes
    (branch (codes "b") (set (codes "phandle") (cell 1) ∷ []) no_nodes
    (branch (codes "c") (set (codes "phandle") (cell 3) ∷ []) (branch (codes "d") (set (codes "phandle") (cell 4) ∷ []) no_nodes no_nodes)
    (symbols (symbol_of (codes "l") (codes "a" ∷ []) ∷ symbol_of (codes "b") (codes "b" ∷ []) ∷ symbol_of (codes "x") (codes "c" ∷ codes "d" ∷ []) ∷ [])))))

-- / { b: a: n { }; }; / { b: n { }; };
abbrev pub two_labels : List Place
two_labels =
    root ∷ child (codes "n") ∷ label (codes "b") ∷ label (codes "a") ∷ close ∷ close ∷ root ∷ child (codes "n") ∷ label (codes "b") ∷ close ∷ close ∷ []

-- / { gic: ic { }; };
abbrev pub controller : Reading
controller = tree [] (branch (codes "ic") (set (codes "phandle") (cell 1) ∷ []) no_nodes (symbols (symbol_of (codes "gic") (codes "ic" ∷ []) ∷ [])))

-- a fragment that waits for a label
abbrev pub labelled_fragment : ℕ → List Property → Forest → Forest → Forest
labelled_fragment n properties children siblings =
    branch (fragment n) (set (codes "target") (cell 0xffffffff) ∷ []) (branch (codes "__overlay__") properties children no_nodes) siblings

-- a fragment with a path
abbrev pub path_fragment : Name → List ℕ → List Property → Forest → Forest → Forest
path_fragment f target properties children siblings =
    branch f (set (codes "target-path") target ∷ []) (branch (codes "__overlay__") properties children no_nodes) siblings

abbrev pub content_of : ℕ → Path
content_of n = fragment n ∷ codes "__overlay__" ∷ []

-- the object of &{/} { d { p = [01], <&gic>; q = <&e>; }; e: f { }; };
abbrev pub two_cells : Reading
two_cells = tree []
    (path_fragment (fragment 0) (path_value []) []
    (branch (codes "d") (set (codes "p") (1 ∷ cell 0xffffffff) ∷ set (codes "q") (cell 1) ∷ []) no_nodes
    (branch (codes "f") (set (codes "phandle") (cell 1) ∷ []) no_nodes no_nodes))
    (branch (codes "__symbols__") (symbol_of (codes "e") (content_of 0 ++ codes "f" ∷ []) ∷ []) no_nodes
    (branch (codes "__fixups__") (set (codes "gic") (codes "/fragment@0/__overlay__/d:p:1" ++ 0 ∷ []) ∷ []) no_nodes
    (branch (codes "__local_fixups__") []
    (branch (fragment 0) [] (branch (codes "__overlay__") [] (branch (codes "d") (set (codes "q") (cell 0) ∷ []) no_nodes no_nodes) no_nodes) no_nodes)
    no_nodes))))

-- the controller with the object's nodes: / { gic: ic { }; d { p = [01], <&gic>; q = <&e>; }; e: f { }; };
abbrev pub with_two_cells : Reading
with_two_cells = tree []
    (branch (codes "ic") (set (codes "phandle") (cell 1) ∷ []) no_nodes
    (branch (codes "__symbols__") (symbol_of (codes "gic") (codes "ic" ∷ []) ∷ symbol_of (codes "e") (codes "f" ∷ []) ∷ []) no_nodes
    (branch (codes "d") (set (codes "p") (1 ∷ cell 1) ∷ set (codes "q") (cell 2) ∷ []) no_nodes
    (branch (codes "f") (set (codes "phandle") (cell 2) ∷ []) no_nodes no_nodes))))

-- the object of &e { g: h { }; };
abbrev pub next_object : Reading
next_object = tree []
    (labelled_fragment 0 [] (branch (codes "h") (set (codes "phandle") (cell 1) ∷ []) no_nodes no_nodes)
    (branch (codes "__symbols__") (symbol_of (codes "g") (content_of 0 ++ codes "h" ∷ []) ∷ []) no_nodes
    (branch (codes "__fixups__") (set (codes "e") (codes "/fragment@0:target:0" ++ 0 ∷ []) ∷ []) no_nodes no_nodes)))

-- / { a: s { }; };
abbrev pub one_node : Reading
one_node = tree [] (branch (codes "s") (set (codes "phandle") (cell 1) ∷ []) no_nodes (symbols (symbol_of (codes "a") (codes "s" ∷ []) ∷ [])))

-- the object of &a { n: x { p = <1>; }; }; &a { x { p = <2>; }; }; &n { p = <3>; };
abbrev pub three_values : Reading
three_values = tree []
    (labelled_fragment 0 [] (branch (codes "x") (set (codes "p") (cell 3) ∷ set (codes "phandle") (cell 1) ∷ []) no_nodes no_nodes)
    (labelled_fragment 1 [] (branch (codes "x") (set (codes "p") (cell 2) ∷ []) no_nodes no_nodes)
    (branch (codes "__symbols__") (symbol_of (codes "n") (content_of 0 ++ codes "x" ∷ []) ∷ []) no_nodes
    (branch (codes "__fixups__") (set (codes "a") (codes "/fragment@0:target:0" ++ 0 ∷ (codes "/fragment@1:target:0" ++ 0 ∷ [])) ∷ []) no_nodes no_nodes))))

-- the object of &{/} { m: ic { }; k { r = <&m>; }; };
abbrev pub joined_node : Reading
joined_node = tree []
    (path_fragment (fragment 0) (path_value []) []
    (branch (codes "ic") (set (codes "phandle") (cell 1) ∷ []) no_nodes (branch (codes "k") (set (codes "r") (cell 1) ∷ []) no_nodes no_nodes))
    (branch (codes "__symbols__") (symbol_of (codes "m") (content_of 0 ++ codes "ic" ∷ []) ∷ []) no_nodes
    (branch (codes "__local_fixups__") []
    (branch (fragment 0) [] (branch (codes "__overlay__") [] (branch (codes "k") (set (codes "r") (cell 0) ∷ []) no_nodes no_nodes) no_nodes) no_nodes)
    no_nodes)))

-- / { a: a { phandle = <2>; }; };
abbrev pub second_number : Reading
second_number = tree [] (branch (codes "a") (set (codes "phandle") (cell 2) ∷ []) no_nodes (symbols (symbol_of (codes "a") (codes "a" ∷ []) ∷ [])))

-- the object of &a { x: x { }; y: y { }; };
abbrev pub two_nodes : Reading
two_nodes = tree []
    (labelled_fragment 0 [] (branch (codes "x") (set (codes "phandle") (cell 1) ∷ []) no_nodes (branch (codes "y") (set (codes "phandle") (cell 2) ∷ []) no_nodes no_nodes))
    (branch (codes "__symbols__") (symbol_of (codes "x") (content_of 0 ++ codes "x" ∷ []) ∷ symbol_of (codes "y") (content_of 0 ++ codes "y" ∷ []) ∷ []) no_nodes
    (branch (codes "__fixups__") (set (codes "a") (codes "/fragment@0:target:0" ++ 0 ∷ []) ∷ []) no_nodes no_nodes)))

-- / { r = <&l>; l: a { }; };
abbrev pub referring : Reading
referring = tree (set (codes "r") (cell 1) ∷ [])
    (branch (codes "a") (set (codes "phandle") (cell 1) ∷ []) no_nodes (symbols (symbol_of (codes "l") (codes "a" ∷ []) ∷ [])))

-- the object of &{/} { l: b { }; };
abbrev pub label_taken : Reading
label_taken = tree []
    (path_fragment (fragment 0) (path_value []) [] (branch (codes "b") (set (codes "phandle") (cell 1) ∷ []) no_nodes no_nodes)
    (symbols (symbol_of (codes "l") (content_of 0 ++ codes "b" ∷ []) ∷ [])))

-- the two: the reference that was made stays
abbrev pub with_label_taken : Reading
with_label_taken = tree (set (codes "r") (cell 1) ∷ [])
    (branch (codes "a") (set (codes "phandle") (cell 1) ∷ []) no_nodes
    (branch (codes "__symbols__") (symbol_of (codes "l") (codes "b" ∷ []) ∷ []) no_nodes
    (branch (codes "b") (set (codes "phandle") (cell 2) ∷ []) no_nodes no_nodes)))

-- the object of / { g { target-path = "/"; __overlay__ { n: x { }; }; }; f { target = <&n>; __overlay__ { q; }; }; };
abbrev pub inner_nodes : Forest
inner_nodes = branch (codes "x") (set (codes "phandle") (cell 1) ∷ []) no_nodes no_nodes

abbrev pub inner_fragment : Forest → Forest
inner_fragment siblings = branch (codes "f") (set (codes "target") (cell 1) ∷ []) (branch (codes "__overlay__") (set (codes "q") [] ∷ []) no_nodes no_nodes) siblings

abbrev pub inner_marks : Forest
inner_marks =
    branch (codes "__symbols__") (symbol_of (codes "n") (codes "g" ∷ codes "__overlay__" ∷ codes "x" ∷ []) ∷ []) no_nodes
    (branch (codes "__local_fixups__") [] (branch (codes "f") (set (codes "target") (cell 0) ∷ []) no_nodes no_nodes) no_nodes)

abbrev pub inner_target : Reading
inner_target = tree [] (path_fragment (codes "g") (path_value []) [] inner_nodes (inner_fragment inner_marks))

-- the same with f before g
abbrev pub inner_target_first : Reading
inner_target_first = tree [] (inner_fragment (path_fragment (codes "g") (path_value []) [] inner_nodes inner_marks))

-- the object of / { l: __overlay__ { p = <&l>; }; };
abbrev pub no_fragment : Reading
no_fragment = tree []
    (branch (codes "__overlay__") (set (codes "p") (cell 1) ∷ set (codes "phandle") (cell 1) ∷ []) no_nodes
    (branch (codes "__symbols__") (symbol_of (codes "l") (codes "__overlay__" ∷ []) ∷ []) no_nodes
    (branch (codes "__local_fixups__") [] (branch (codes "__overlay__") (set (codes "p") (cell 0) ∷ []) no_nodes no_nodes) no_nodes)))

-- the object of &{/} { __symbols__ { }; };
abbrev pub reserved_place : Reading
reserved_place = tree [] (path_fragment (fragment 0) (path_value []) [] (branch (codes "__symbols__") [] no_nodes no_nodes) no_nodes)

-- the object of &{/__symbols__} { };
abbrev pub reserved_target : Reading
reserved_target = tree [] (path_fragment (fragment 0) (path_value (codes "__symbols__" ∷ [])) [] no_nodes no_nodes)

-- the object of &{/nope} { };
abbrev pub missing_target : Reading
missing_target = tree [] (path_fragment (fragment 0) (path_value (codes "nope" ∷ [])) [] no_nodes no_nodes)

-- the object of / { compatible = "x,y"; };
abbrev pub root_property : Reading
root_property = tree (set (codes "compatible") (codes "x,y" ++ 0 ∷ []) ∷ []) no_nodes
