-- Small objects applied to a small tree, worked out: what comes of nodes that land on one path.
use Rattle.std.specs.Prelude.{◌≡◌, ℕ, List, [], ◌∷◌, ◌++◌, Some, None, codes}
use Rattle.dt_model.specs.Names.{Name}
use Rattle.dt_model.specs.Object.{Cell}
use Rattle.dt_model.specs.Tree.{Property, Forest, no_nodes, branch, Reading}
use Rattle.dt_overlay_model.specs.Walk.{applied}

-- ---- words for trees

abbrev tree : Forest → Reading
tree children = record { boot_cpu = 0; reservations = []; properties = []; children = children }

abbrev property : Name → List ℕ → Property
property name value = record { name = name; value = value }

-- a cell with a small number, and one that waits for a label
abbrev small : ℕ → List ℕ
small n = 0 ∷ 0 ∷ 0 ∷ n ∷ []

abbrev unknown : List ℕ
unknown = 255 ∷ 255 ∷ 255 ∷ 255 ∷ []

abbrev phandle : ℕ → Property
phandle n = property (codes "phandle") (small n)

-- a label's path, with a NUL
abbrev label : Name → List ℕ → Property
label l path = property l (path ++ 0 ∷ [])

-- a node without children, before its siblings
abbrev leaf : Name → List Property → Forest → Forest
leaf name properties siblings = branch name properties no_nodes siblings

-- a fragment at the root, by these children of its `__overlay__`
abbrev at_root : Name → List Property → Forest → Forest → Forest
at_root f properties children siblings =
    branch f (property (codes "target-path") (codes "/" ++ 0 ∷ []) ∷ []) (branch (codes "__overlay__") properties children no_nodes) siblings

abbrev symbols : List Property → Forest → Forest
symbols labels siblings = leaf (codes "__symbols__") labels siblings

-- the mirror of one property of a node that a fragment brings
abbrev mirror : Name → Name → Name → List ℕ → Forest
mirror f node name offsets =
    branch (codes "__local_fixups__") [] (branch f [] (branch (codes "__overlay__") [] (leaf node (property name offsets ∷ []) no_nodes) no_nodes) no_nodes) no_nodes

-- ---- the base

-- / { gic: ic { }; };
abbrev pub base : Reading
base = tree (leaf (codes "ic") (phandle 1 ∷ []) (symbols (label (codes "gic") (codes "/ic") ∷ []) no_nodes))

-- ---- a node that lands on one with a number

-- &{/} { m: ic { }; k { r = <&m>; }; };
abbrev pub on_a_numbered_node : Reading
on_a_numbered_node = tree
    (at_root (codes "f") [] (leaf (codes "ic") (phandle 1 ∷ []) (leaf (codes "k") (property (codes "r") (small 1) ∷ []) no_nodes))
    (symbols (label (codes "m") (codes "/f/__overlay__/ic") ∷ []) (mirror (codes "f") (codes "k") (codes "r") (small 0))))

-- it keeps the base's number, which the reference holds
abbrev pub on_a_numbered_node_result : Reading
on_a_numbered_node_result = tree
    (leaf (codes "ic") (phandle 1 ∷ [])
    (symbols (label (codes "gic") (codes "/ic") ∷ label (codes "m") (codes "/ic") ∷ [])
    (leaf (codes "k") (property (codes "r") (small 1) ∷ []) no_nodes)))

-- ---- two nodes that land on one path

-- &{/} { x: n { r = <&x &y>; }; }; &{/} { y: n { }; };
abbrev pub on_one_path : Reading
on_one_path = tree
    (at_root (codes "f") [] (leaf (codes "n") (property (codes "r") (small 1 ++ small 2) ∷ phandle 1 ∷ []) no_nodes)
    (at_root (codes "g") [] (leaf (codes "n") (phandle 2 ∷ []) no_nodes)
    (symbols (label (codes "x") (codes "/f/__overlay__/n") ∷ label (codes "y") (codes "/g/__overlay__/n") ∷ [])
    (mirror (codes "f") (codes "n") (codes "r") (small 0 ++ small 4)))))

-- they have one number, the least that is free
abbrev pub on_one_path_result : Reading
on_one_path_result = tree
    (leaf (codes "ic") (phandle 1 ∷ [])
    (symbols (label (codes "gic") (codes "/ic") ∷ label (codes "x") (codes "/n") ∷ label (codes "y") (codes "/n") ∷ [])
    (leaf (codes "n") (property (codes "r") (small 2 ++ small 2) ∷ phandle 2 ∷ []) no_nodes)))

-- ---- a number that a bookkeeping node has

-- / { ic { phandle = <1>; }; __fixups__ { phandle = <2>; }; };
abbrev pub numbered_fixups : Reading
numbered_fixups = tree (leaf (codes "ic") (phandle 1 ∷ []) (leaf (codes "__fixups__") (phandle 2 ∷ []) no_nodes))

-- &{/} { a: ic { }; b: n { }; };
abbrev pub one_new : Reading
one_new = tree (at_root (codes "f") [] (leaf (codes "ic") (phandle 1 ∷ []) (leaf (codes "n") (phandle 2 ∷ []) no_nodes)) no_nodes)

-- the new node gets the least that no node has
abbrev pub one_new_result : Reading
one_new_result = tree
    (leaf (codes "ic") (phandle 1 ∷ []) (leaf (codes "__fixups__") (phandle 2 ∷ []) (leaf (codes "n") (phandle 3 ∷ []) no_nodes)))

-- ---- a target that is a joined node

abbrev with_target : Forest → Forest
with_target siblings = branch (codes "f") (property (codes "target") (small 1) ∷ []) (leaf (codes "__overlay__") (property (codes "q") [] ∷ []) no_nodes) siblings

abbrev target_listed : Forest
target_listed = branch (codes "__local_fixups__") [] (leaf (codes "f") (property (codes "target") (small 0) ∷ []) no_nodes) no_nodes

-- / { g { target-path = "/"; __overlay__ { m: ic { }; }; }; f { target = <&m>; __overlay__ { q; }; }; };
abbrev pub on_a_joined_node : Reading
on_a_joined_node = tree (at_root (codes "g") [] (leaf (codes "ic") (phandle 1 ∷ []) no_nodes) (with_target target_listed))

abbrev pub on_a_joined_node_result : Reading
on_a_joined_node_result = tree
    (leaf (codes "ic") (phandle 1 ∷ property (codes "q") [] ∷ []) (symbols (label (codes "gic") (codes "/ic") ∷ []) no_nodes))

-- the same, the other fragment first
abbrev pub before_it_lands : Reading
before_it_lands = tree (with_target (at_root (codes "g") [] (leaf (codes "ic") (phandle 1 ∷ []) no_nodes) target_listed))

-- ---- two labels for one target

-- / { gic: ic { }; n: n { }; };
abbrev pub two_nodes : Reading
two_nodes = tree
    (leaf (codes "ic") (phandle 1 ∷ []) (leaf (codes "n") (phandle 2 ∷ [])
    (symbols (label (codes "gic") (codes "/ic") ∷ label (codes "n") (codes "/n") ∷ []) no_nodes)))

abbrev two_labels_target : Cell
two_labels_target = record { path = codes "f" ∷ []; property = codes "target"; offset = 0 }

abbrev pub two_labels_fixups : List (Name × Cell)
two_labels_fixups = (codes "gic", two_labels_target) ∷ (codes "n", two_labels_target) ∷ []

-- a fragment whose target waits for gic, and then for n
abbrev pub two_labels : Reading
two_labels = tree
    (branch (codes "f") (property (codes "target") unknown ∷ []) (leaf (codes "__overlay__") (property (codes "q") [] ∷ []) no_nodes)
    (leaf (codes "__fixups__") (label (codes "gic") (codes "/f:target:0") ∷ label (codes "n") (codes "/f:target:0") ∷ []) no_nodes))

abbrev pub two_labels_result : Reading
two_labels_result = tree
    (leaf (codes "ic") (phandle 1 ∷ []) (leaf (codes "n") (phandle 2 ∷ property (codes "q") [] ∷ [])
    (symbols (label (codes "gic") (codes "/ic") ∷ label (codes "n") (codes "/n") ∷ []) no_nodes)))

-- what comes of each
pub record RowsAreJoined : Type 0 where
  pub on_a_numbered_node : applied base on_a_numbered_node [] ≡ Some on_a_numbered_node_result
  pub on_one_path : applied base on_one_path [] ≡ Some on_one_path_result
  pub one_new : applied numbered_fixups one_new [] ≡ Some one_new_result
  pub on_a_joined_node : applied base on_a_joined_node [] ≡ Some on_a_joined_node_result
  pub before_it_lands : applied base before_it_lands [] ≡ None
  pub two_labels : applied two_nodes two_labels two_labels_fixups ≡ Some two_labels_result
