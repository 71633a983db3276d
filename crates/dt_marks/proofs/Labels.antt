-- The labels of a named tree are labels, and differ.
use Rattle.std.proofs.Common.{◌≡◌, ◌≢◌, ℕ, suc, ◌+◌, ◌<◌, Bool, true, false, List, [], ◌∷◌, ◌++◌, length, map, refl, sym, ap, ◌∙◌, subst, inl, inr, codes, Bor, arith, append_assoc}
use Rattle.std.specs.Prelude.{nat_lt}
use Rattle.std.specs.List.{AllByRecursion, flat_map, list_any}
use Rattle.std.proofs.lemmas.Bool.{ltb-true, ltb-false, or_cases, or_parts}
use Rattle.std.proofs.lemmas.List.{append-nil, map-append, length-append, nil_from_length}
use Rattle.std.specs.Cow.{cow_slice_items}
use Rattle.dt_model.specs.Names.{Name, IsLabel}
use Rattle.dt_model.specs.Path.{Path}
use Rattle.dt_model.specs.Instance.{symbol, symbols_of}
use Rattle.dt_model.specs.Named.{NodeReference, Content, NamedForest, no_nodes, branch, Named, NamedPlaced, Listed, node_count, nodes_of, listed, list_of}
use Rattle.dt_model.specs.NamedOf.{contents_of, AreNamedNodes, IsNamed}
use Rattle.dt_model.specs.Tree.{Property}
use Rattle.dt_model.specs.Valid.{AreDistinct}
use Rattle.dt_flat.specs.Arena.{Arena, with_child}
use Rattle.dt_flat.specs.Planted.{MaySetAll}
use Rattle.dt_flat.proofs.AfterChild.{length-with_child, bare-with_child}
use Rattle.dt_flat.proofs.Distinctness.{all-append}
use Rattle.dt_flat.proofs.Plantable.{may_set_plain}
use Rattle.dt_source_named_tree.specs.Said.{node_said}
use Rattle.dt_source_named_tree.specs.declared.named.NamedNode.{NamedNode}
use Rattle.dt_marks.specs.Paths.{text_behind, label_property, symbols_behind, all_symbols, MayFollow, AreAll}
use Rattle.dt_marks.proofs.PathTexts.{symbols_among, symbols_same}

-- ---- they may follow

follow_forest : (n d : ℕ) (f : NamedForest NodeReference) (rest : List (Listed NodeReference)) (k p : ℕ) → p < k → AreNamedNodes n d f → MayFollow (k + node_count f) rest
    → MayFollow k (listed k p f ++ rest)
follow_forest n d no_nodes rest k p lt h later = let e : k + 0 ≡ k = omega arith in subst (λ (m : ℕ). MayFollow m rest) e later
follow_forest n d (branch name content children siblings) rest k p lt h later =
    let j = suc k + node_count children in
    let inner = listed (suc k) k children in
    let outer = listed j p siblings in
    let e : k + (1 + node_count children + node_count siblings) ≡ j + node_count siblings = omega arith in
    let beside = follow_forest n d siblings rest j p (omega arith) h.5 (subst (λ (m : ℕ). MayFollow m rest) e later) in
    let inside = follow_forest n (suc d) children (outer ++ rest) (suc k) k (omega arith) h.4 beside in
    (lt, h.1.labels, subst (MayFollow (suc k)) (sym (append_assoc inner outer rest)) inside)

pub are_all : (t : Named NodeReference) → IsNamed t → AreAll (list_of t)
are_all t named =
    let n = 1 + node_count t.children in
    (named.root.labels, subst (MayFollow 1) (append-nil (listed 1 0 t.children)) (follow_forest n 1 t.children [] 1 0 (omega arith) named.nodes tt))

-- ---- they differ

abbrev name_of : Property → Name
name_of x = x.name

names_labelled : (path : Path) (labels : List Name) → map name_of (map (symbol path) labels) ≡ labels
names_labelled path [] = refl
names_labelled path (l ∷ ls) = ap (λ (xs : List Name). l ∷ xs) (names_labelled path ls)

names_among : (ns : List (NamedPlaced NodeReference)) → map name_of (symbols_among ns) ≡ flat_map (λ (c : Content NodeReference). c.labels) (map (λ (n : NamedPlaced NodeReference). n.content) ns)
names_among [] = refl
names_among (n ∷ ns) =
    map-append name_of (map (symbol n.path) n.content.labels) (symbols_among ns)
    ∙ (λ i. names_labelled n.path n.content.labels i ++ names_among ns i)

names_all : (t : Named NodeReference) → map name_of (symbols_of t) ≡ flat_map (λ (c : Content NodeReference). c.labels) (contents_of t)
names_all t = ap (map name_of) (sym (symbols_same t)) ∙ names_among (nodes_of t)

pub differ : (t : Named NodeReference) → IsNamed t → AreDistinct (map (λ (x : Property). x.name) (symbols_of t))
differ t named = subst (AreDistinct {X = Name}) (sym (names_all t)) named.labels

-- ---- none is a phandle

plain_at : (path : List ℕ) (labels : List Name) → AllByRecursion IsLabel labels → AllByRecursion (λ (x : Property). x.name ≢ codes "phandle") (map (label_property path) labels)
plain_at path [] h = tt
plain_at path (l ∷ ls) h = (h.0.not_phandle, plain_at path ls h.1)

plain_behind : (value lengths : List ℕ) (k : ℕ) (ns : List (Listed NodeReference)) → MayFollow k ns → AllByRecursion (λ (x : Property). x.name ≢ codes "phandle") (symbols_behind value lengths ns)
plain_behind value lengths k [] h = tt
plain_behind value lengths k (n ∷ ns) h =
    let text = text_behind value lengths n.parent n.name in
    all-append (λ (x : Property). x.name ≢ codes "phandle") (map (label_property (text ++ 0 ∷ [])) n.content.labels) (symbols_behind (text ++ 0 ∷ []) (lengths ++ length text ∷ []) ns)
    (plain_at (text ++ 0 ∷ []) n.content.labels h.1) (plain_behind (text ++ 0 ∷ []) (lengths ++ length text ∷ []) (suc k) ns h.2)

plain_all : (ns : List (Listed NodeReference)) → AreAll ns → AllByRecursion (λ (x : Property). x.name ≢ codes "phandle") (all_symbols ns)
plain_all [] h = tt
plain_all (root ∷ ns) h =
    all-append (λ (x : Property). x.name ≢ codes "phandle") (map (label_property (codes "/" ++ 0 ∷ [])) root.content.labels) (symbols_behind [] (0 ∷ []) ns)
    (plain_at (codes "/" ++ 0 ∷ []) root.content.labels h.0) (plain_behind [] (0 ∷ []) 1 ns h.1)

-- a node that was just added may have them all
pub all_new : (old new : Arena) (k p : ℕ) (name : Name) (ns : List (Listed NodeReference)) → k ≡ length old.slots → new ≡ record old { slots = with_child old.slots p name }
    → AreDistinct (map (λ (x : Property). x.name) (all_symbols ns)) → AreAll ns → MaySetAll new.slots k (all_symbols ns)
all_new old new k p name ns last is apart all =
    let slots = with_child old.slots p name in
    subst (λ (a : Arena). MaySetAll a.slots k (all_symbols ns)) (sym is) (subst (λ (j : ℕ). MaySetAll slots j (all_symbols ns)) (sym last)
    (may_set_plain slots (length old.slots) (all_symbols ns) (omega (arith, length-with_child old.slots p name)) (bare-with_child old.slots p name) apart (plain_all ns all)))

-- ---- whether there are some

abbrev pub has_labels : NamedNode → Bool
has_labels n = nat_lt 0 (length n.labels.items)

none_behind : (value lengths : List ℕ) (nodes : List NamedNode) → list_any has_labels nodes ≡ false → symbols_behind value lengths (map node_said nodes) ≡ []
none_behind value lengths [] h = refl
none_behind value lengths (n ∷ ns) h =
    let both = or_parts (has_labels n) (list_any has_labels ns) h in
    let text = text_behind value lengths n.parent (cow_slice_items n.name) in
    let own : length n.labels.items ≡ 0 = omega (arith, ltb-false 0 (length n.labels.items) both.0) in
    ap (λ (ls : List (Bor Name)). map (label_property (text ++ 0 ∷ [])) (map (λ l. l.now) ls) ++ symbols_behind (text ++ 0 ∷ []) (lengths ++ length text ∷ []) (map node_said ns)) (nil_from_length n.labels.items own)
    ∙ none_behind (text ++ 0 ∷ []) (lengths ++ length text ∷ []) ns both.1

pub none_stand : (nodes : List NamedNode) → list_any has_labels nodes ≡ false → all_symbols (map node_said nodes) ≡ []
none_stand [] h = refl
none_stand (n ∷ ns) h =
    let both = or_parts (has_labels n) (list_any has_labels ns) h in
    let own : length n.labels.items ≡ 0 = omega (arith, ltb-false 0 (length n.labels.items) both.0) in
    ap (λ (ls : List (Bor Name)). map (label_property (codes "/" ++ 0 ∷ [])) (map (λ l. l.now) ls) ++ symbols_behind [] (0 ∷ []) (map node_said ns)) (nil_from_length n.labels.items own)
    ∙ none_behind [] (0 ∷ []) ns both.1

length-labelled : (path : List ℕ) (labels : List (Bor Name)) → length (map (label_property path) (map (λ l. l.now) labels)) ≡ length labels
length-labelled path [] = refl
length-labelled path (l ∷ ls) = ap suc (length-labelled path ls)

some_behind : (value lengths : List ℕ) (nodes : List NamedNode) → list_any has_labels nodes ≡ true → 0 < length (symbols_behind value lengths (map node_said nodes))
some_behind value lengths [] h = cc
some_behind value lengths (n ∷ ns) h =
    let text = text_behind value lengths n.parent (cow_slice_items n.name) in
    let here = text ++ 0 ∷ [] in
    let ends = lengths ++ length text ∷ [] in
    let own = map (label_property here) (map (λ (l : Bor Name). l.now) n.labels.items) in
    let others = symbols_behind here ends (map node_said ns) in
    elim (or_cases (has_labels n) (list_any has_labels ns) h) [
      | inl e ↦ omega (arith, ltb-true 0 (length n.labels.items) e, length-append own others, length-labelled here n.labels.items)
      | inr e ↦ omega (arith, some_behind here ends ns e, length-append own others)
    ]

pub some_stand : (nodes : List NamedNode) → list_any has_labels nodes ≡ true → 0 < length (all_symbols (map node_said nodes))
some_stand [] h = cc
some_stand (n ∷ ns) h =
    let here = codes "/" ++ 0 ∷ [] in
    let own = map (label_property here) (map (λ (l : Bor Name). l.now) n.labels.items) in
    let others = symbols_behind [] (0 ∷ []) (map node_said ns) in
    elim (or_cases (has_labels n) (list_any has_labels ns) h) [
      | inl e ↦ omega (arith, ltb-true 0 (length n.labels.items) e, length-append own others, length-labelled here n.labels.items)
      | inr e ↦ omega (arith, some_behind [] (0 ∷ []) ns e, length-append own others)
    ]
