-- The tokens of a tree plant the tree, and nothing but memory is in their way.
use Rattle.std.proofs.Common.{◌≡◌, ℕ, zero, suc, ◌+◌, ◌<◌, ◌≤◌, List, [], ◌∷◌, ◌++◌, length, map, refl, sym, ap, subst, ◌∙◌, arith, append_assoc}
use Rattle.std.specs.List.{AllByRecursion}
use Rattle.std.proofs.lemmas.List.{length-append}
use Rattle.dt_model.specs.Names.{IsPropertyName}
use Rattle.dt_model.specs.Tree.{Property, Forest, branch}
use Rattle.dt_model.specs.Tree as tree
use Rattle.dt_model.specs.Valid.{AreNodes, IsNoDeeper}
use Rattle.dt_flat.specs.Arena.{Arena, Slot, root_alone, depth_of, with_child, with_property, reading}
use Rattle.dt_flat.specs.Planted.{with_properties, planted, planted_tree, arena_of, MaySetAll, MayPlant, MayMake}
use Rattle.dt_trees.specs.Placed.{Nodes, no_nodes, node, forest_of}
use Rattle.dt_read.specs.Marks.{Mark, end_mark, prop_mark, last_mark, Root, marks_of_nodes, marks_of}
use Rattle.dt_read.specs.Growth.{grown, MayGrow, reading_with, MayCopy}

-- ---- what the tokens make

regrouped : (properties : List Property) (inner outer rest : List Mark)
    → (map prop_mark properties ++ (inner ++ end_mark ∷ outer)) ++ rest ≡ map prop_mark properties ++ (inner ++ end_mark ∷ (outer ++ rest))
regrouped properties inner outer rest = simp append_assoc

grown_properties : (xs : List Property) (rest : List Mark) (slots : List Slot) (p : ℕ) (ps : List ℕ)
    → grown (map prop_mark xs ++ rest) slots (p ∷ ps) ≡ grown rest (with_properties slots p xs) (p ∷ ps)
grown_properties [] rest slots p ps = refl
grown_properties (x ∷ xs) rest slots p ps = grown_properties xs rest (with_property slots p x.name x.value) p ps

grown_nodes : (nodes : Nodes) (rest : List Mark) (slots : List Slot) (p : ℕ) (ps : List ℕ)
    → grown (marks_of_nodes nodes ++ rest) slots (p ∷ ps) ≡ grown rest (planted slots p (forest_of nodes)) (p ∷ ps)
grown_nodes no_nodes rest slots p ps = refl
grown_nodes (node place name properties children siblings) rest slots p ps =
    let i = length slots in
    let after = marks_of_nodes siblings ++ rest in
    let made = with_child slots p name in
    let own = with_properties made i properties in
    ap (λ (ms : List Mark). grown ms made (i ∷ p ∷ ps)) (regrouped properties (marks_of_nodes children) (marks_of_nodes siblings) rest)
    ∙ grown_properties properties (marks_of_nodes children ++ end_mark ∷ after) made i (p ∷ ps)
    ∙ grown_nodes children (end_mark ∷ after) own i (p ∷ ps)
    ∙ grown_nodes siblings rest (planted own i (forest_of children)) p ps

pub grown_tree : (t : Root) → grown (marks_of t ++ last_mark ∷ []) (root_alone 0).slots [] ≡ planted_tree t.properties (forest_of t.children)
grown_tree t =
    let root = (root_alone 0).slots in
    ap (λ (ms : List Mark). grown ms root (0 ∷ [])) (regrouped t.properties (marks_of_nodes t.children) [] (last_mark ∷ []))
    ∙ grown_properties t.properties (marks_of_nodes t.children ++ end_mark ∷ last_mark ∷ []) root 0 []
    ∙ grown_nodes t.children (end_mark ∷ last_mark ∷ []) (with_properties root 0 t.properties) 0 []

-- ---- nodes stay

longer_property : (slots : List Slot) (p : ℕ) (name value : List ℕ) → length slots ≤ length (with_property slots p name value)
longer_property [] p name value = omega arith
longer_property (n ∷ ns) zero name value = omega arith
longer_property (n ∷ ns) (suc p) name value = omega (arith, longer_property ns p name value)

longer_properties : (slots : List Slot) (p : ℕ) (xs : List Property) → length slots ≤ length (with_properties slots p xs)
longer_properties slots p [] = omega arith
longer_properties slots p (x ∷ xs) = omega (arith, longer_property slots p x.name x.value, longer_properties (with_property slots p x.name x.value) p xs)

longer_child : (slots : List Slot) (p : ℕ) (name : List ℕ) → length slots < length (with_child slots p name)
longer_child slots p name = omega (arith, length-append slots (record { parent = p; depth = depth_of slots p + 1; name = name; properties = [] } ∷ []))

longer_planted : (f : Forest) (slots : List Slot) (p : ℕ) → length slots ≤ length (planted slots p f)
longer_planted tree.no_nodes slots p = omega arith
longer_planted (branch name properties children siblings) slots p =
    let i = length slots in
    let made = with_child slots p name in
    let own = with_properties made i properties in
    omega (arith, longer_child slots p name, longer_properties made i properties, longer_planted children own i, longer_planted siblings (planted own i children) p)

-- ---- nothing is in their way

may_properties : (xs : List Property) (rest : List Mark) (slots : List Slot) (p : ℕ) (ps : List ℕ) → p < length slots
    → AllByRecursion (λ x. IsPropertyName x.name) xs → MaySetAll slots p xs
    → MayGrow rest (with_properties slots p xs) (p ∷ ps) → MayGrow (map prop_mark xs ++ rest) slots (p ∷ ps)
may_properties [] rest slots p ps lt named may later = later
may_properties (x ∷ xs) rest slots p ps lt named may later =
    ((lt, named.0, may.0), may_properties xs rest (with_property slots p x.name x.value) p ps (omega (arith, longer_property slots p x.name x.value)) named.1 may.1 later)

may_nodes : (nodes : Nodes) (rest : List Mark) (slots : List Slot) (p : ℕ) (ps : List ℕ) (d : ℕ) → d ≡ suc (length ps) → p < length slots
    → AreNodes (forest_of nodes) → IsNoDeeper 64 d (forest_of nodes) → MayPlant slots p (forest_of nodes)
    → MayGrow rest (planted slots p (forest_of nodes)) (p ∷ ps) → MayGrow (marks_of_nodes nodes ++ rest) slots (p ∷ ps)
may_nodes no_nodes rest slots p ps d deep lt nodes shallow may later = later
may_nodes (node place name properties children siblings) rest slots p ps d deep lt h shallow may later =
    let i = length slots in
    let after = marks_of_nodes siblings ++ rest in
    let made = with_child slots p name in
    let own = with_properties made i properties in
    let made_more = longer_child slots p name in
    let own_more = longer_properties made i properties in
    let all_more = longer_planted (forest_of children) own i in
    let beside = may_nodes siblings rest (planted own i (forest_of children)) p ps d deep (omega arith) h.4 shallow.2 may.3 later in
    let inside = may_nodes children (end_mark ∷ after) own i (p ∷ ps) (d + 1) (omega arith) (omega arith) h.2 shallow.1 may.2 (tt, beside) in
    let first = may_properties properties (marks_of_nodes children ++ end_mark ∷ after) made i (p ∷ ps) (omega arith) (h.1).named may.1 inside in (
      (lt, omega (arith, shallow.0), h.0, may.0),
      subst (λ (ms : List Mark). MayGrow ms made (i ∷ p ∷ ps)) (sym (regrouped properties (marks_of_nodes children) (marks_of_nodes siblings) rest)) first,
    )

pub may_tree : (t : Root) (boot_cpu : ℕ) (reservations : List (ℕ × ℕ)) → MayCopy (reading_with boot_cpu reservations t)
    → MayMake t.properties (forest_of t.children) → MayGrow (marks_of t ++ last_mark ∷ []) (root_alone 0).slots []
may_tree t boot_cpu reservations copy may =
    let root = (root_alone 0).slots in
    let more = longer_properties root 0 t.properties in
    let inside = may_nodes t.children (end_mark ∷ last_mark ∷ []) (with_properties root 0 t.properties) 0 [] 1 refl (omega arith) copy.valid.nodes copy.within.depth may.plant (tt, (tt, tt)) in
    let first = may_properties t.properties (marks_of_nodes t.children ++ end_mark ∷ last_mark ∷ []) root 0 [] (omega arith) copy.valid.properties.named may.set inside in
    (tt, subst (λ (ms : List Mark). MayGrow ms root (0 ∷ [])) (sym (regrouped t.properties (marks_of_nodes t.children) [] (last_mark ∷ []))) first)

-- ---- the tree that is made

pub copied : (t : Root) (boot_cpu : ℕ) (reservations : List (ℕ × ℕ)) (new reserved whole : Arena) (marks : List Mark) → new ≡ root_alone boot_cpu
    → reserved ≡ record new { reservations = new.reservations ++ reservations }
    → marks ≡ marks_of t ++ last_mark ∷ [] → whole ≡ record reserved { slots = grown marks reserved.slots [] }
    → reading (arena_of (reading_with boot_cpu reservations t)) ≡ reading_with boot_cpu reservations t
    → reading whole ≡ reading_with boot_cpu reservations t
copied t boot_cpu reservations new reserved whole marks begun with_pairs are done reads =
    let root = (root_alone 0).slots in
    let before : reserved ≡ record { boot_cpu = boot_cpu; reservations = reservations; slots = root } =
    with_pairs ∙ ap (λ (a : Arena). record a { reservations = a.reservations ++ reservations }) begun in
    let after : whole ≡ arena_of (reading_with boot_cpu reservations t) =
    done ∙ ap (λ (a : Arena). record a { slots = grown marks a.slots [] }) before
    ∙ ap (λ (slots : List Slot). record { boot_cpu = boot_cpu; reservations = reservations; slots = slots }) (ap (λ (ms : List Mark). grown ms root []) are ∙ grown_tree t) in
    ap reading after ∙ reads

pub may_follow : (t : Root) (boot_cpu : ℕ) (reservations : List (ℕ × ℕ)) (new reserved : Arena) (marks : List Mark) → new ≡ root_alone boot_cpu
    → reserved ≡ record new { reservations = new.reservations ++ reservations }
    → marks ≡ marks_of t ++ last_mark ∷ [] → MayGrow (marks_of t ++ last_mark ∷ []) (root_alone 0).slots [] → MayGrow marks reserved.slots []
may_follow t boot_cpu reservations new reserved marks begun with_pairs are may =
    let before : reserved.slots ≡ (root_alone 0).slots = ap (λ (a : Arena). a.slots) (with_pairs ∙ ap (λ (a : Arena). record a { reservations = a.reservations ++ reservations }) begun) in
    subst (λ (ms : List Mark). MayGrow ms reserved.slots []) (sym are) (subst (λ (slots : List Slot). MayGrow (marks_of t ++ last_mark ∷ []) slots []) (sym before) may)
