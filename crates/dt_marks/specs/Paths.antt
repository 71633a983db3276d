-- The paths of nodes that come in preorder, as texts, and the labels with them.
use Rattle.std.specs.Prelude.{ℕ, suc, ◌<◌, List, [], ◌∷◌, ◌++◌, take, map, length, slice_index, codes}
use Rattle.std.specs.List.{AllByRecursion}
use Rattle.dt_model.specs.Names.{Name, IsLabel}
use Rattle.dt_model.specs.Named.{NodeReference, Content, Listed}
use Rattle.dt_model.specs.Tree.{Property}

-- the text of the path of the next node, where the last one's value and the lengths of those of the nodes so far are these
abbrev pub text_behind : (value lengths : List ℕ) → (parent : ℕ) → Name → List ℕ
text_behind value lengths parent name = take (slice_index lengths parent) value ++ 47 ∷ name

-- a label as a property
abbrev pub label_property : (path : List ℕ) → Name → Property
label_property path l = record { name = l; value = path }

-- what is found in the nodes that follow, by the text of a path and what its node has
abbrev pub behind : {X : Type 0} → (List ℕ → Content NodeReference → List X) → (value lengths : List ℕ) → List (Listed NodeReference) → List X
behind found value lengths [] = []
behind found value lengths (n ∷ ns) =
    found (text_behind value lengths n.parent n.name) n.content
    ++ behind found (text_behind value lengths n.parent n.name ++ 0 ∷ []) (lengths ++ length (text_behind value lengths n.parent n.name) ∷ []) ns

-- the labels of a node as properties, where this is the text of its path
abbrev pub labels_at : List ℕ → Content NodeReference → List Property
labels_at text c = map (label_property (text ++ 0 ∷ [])) c.labels

-- those of the nodes that follow
abbrev pub symbols_behind : (value lengths : List ℕ) → List (Listed NodeReference) → List Property
symbols_behind value lengths ns = behind labels_at value lengths ns

-- those of all nodes; the first is the root
abbrev pub all_symbols : List (Listed NodeReference) → List Property
all_symbols [] = []
all_symbols (root ∷ ns) = map (label_property (codes "/" ++ 0 ∷ [])) root.content.labels ++ symbols_behind [] (0 ∷ []) ns

-- each of these nodes comes after its parent, where the first of them has number k, and its labels are labels
abbrev pub MayFollow : ℕ → List (Listed NodeReference) → Type 0
MayFollow k [] = Unit {0}
MayFollow k (n ∷ ns) = (n.parent < k) × AllByRecursion IsLabel n.content.labels × MayFollow (suc k) ns

-- the same of all nodes
abbrev pub AreAll : List (Listed NodeReference) → Type 0
AreAll [] = Unit {0}
AreAll (root ∷ ns) = AllByRecursion IsLabel root.content.labels × MayFollow 1 ns
