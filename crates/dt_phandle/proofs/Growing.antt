-- The nodes of a list that are added one after another plant the tree of the list, and nothing but memory is in their way.
use Rattle.std.proofs.Common.{◌≡◌, ℕ, suc, ◌+◌, ◌<◌, Option, List, [], ◌∷◌, ◌++◌, length, map, refl, sym, ap, ◌∙◌, subst, arith, append_assoc}
use Rattle.std.proofs.lemmas.List.{append-nil}
use Rattle.dt_model.specs.Names.{Name}
use Rattle.dt_model.specs.Instance.{numbered_properties, numbered_forest, instance_of}
use Rattle.dt_model.specs.Named.{NodeReference, Content, NamedForest, no_nodes, branch, Named, Listed, NamedList, node_count, listed, list_of, tree_of}
use Rattle.dt_model.specs.Tree.{Property}
use Rattle.dt_model.specs.Valid.{AreNodes, IsValid}
use Rattle.dt_flat.specs.Arena.{Arena, Slot, root_alone, with_child, with_property, reading}
use Rattle.dt_flat.specs.Planted.{with_properties, planted, planted_tree, arena_of, MaySetAll, MayPlant, MayMake}
use Rattle.dt_flat.proofs.AfterChild.{length-with_child}
use Rattle.dt_flat.proofs.AfterProperty.{length-with_property}
use Rattle.dt_flat.proofs.ManyProperties.{length-with_properties}
use Rattle.dt_source_named_tree.specs.Said.{node_said}
use Rattle.dt_source_named_tree.specs.declared.named.NamedNode.{NamedNode}
use Rattle.dt_phandle.specs.Growth.{MayHave, MayCome, with_node, grown, MayGrow, grown_all, MayGrowAll}

-- ---- the properties of a node

-- one of several is set
pub set_turn : (old new : Arena) (p : ℕ) (x : Property) (xs : List Property) (name value : List ℕ) → MayHave old.slots p (x ∷ xs)
    → name ≡ x.name → value ≡ x.value → new ≡ record old { slots = with_property old.slots p name value }
    → MayHave new.slots p xs × (record new { slots = with_properties new.slots p xs } ≡ record old { slots = with_properties old.slots p (x ∷ xs) })
set_turn old new p x xs name value may named valued is =
    let same : new ≡ record old { slots = with_property old.slots p x.name x.value } = is ∙ (λ i. record old { slots = with_property old.slots p (named i) (valued i) }) in
    let there = may.there in
    let after : MayHave (with_property old.slots p x.name x.value) p xs =
    record { there = omega (arith, length-with_property old.slots p x.name x.value); named = may.named.1; may = may.may.1 } in
    (subst (λ (a : Arena). MayHave a.slots p xs) (sym same) after, ap (λ (a : Arena). record a { slots = with_properties a.slots p xs }) same)

pub may_parts : (slots : List Slot) (p : ℕ) (xs ys : List Property) → MayHave slots p (xs ++ ys) → MayHave slots p xs × MayHave (with_properties slots p xs) p ys
may_parts slots p [] ys h = (record { there = h.there; named = tt; may = tt }, h)
may_parts slots p (x ∷ xs) ys h =
    let there = h.there in
    let rest = may_parts (with_property slots p x.name x.value) p xs ys
    (record { there = omega (arith, length-with_property slots p x.name x.value); named = h.named.1; may = h.may.1 }) in
    (record { there = h.there; named = (h.named.0, rest.0.named); may = (h.may.0, rest.0.may) }, rest.1)

-- ---- what the nodes make

module _ (numbers : List (Option ℕ)) where
  length-planted : (f : NamedForest NodeReference) (k : ℕ) (slots : List Slot) (p : ℕ) → length (planted slots p (numbered_forest numbers k f)) ≡ length slots + node_count f
  length-planted no_nodes k slots p = omega arith
  length-planted (branch name content children siblings) k slots p =
      let own = with_properties (with_child slots p name) (length slots) (numbered_properties numbers k content) in
      let inner = planted own (length slots) (numbered_forest numbers (suc k) children) in
      let before = length-with_properties (with_child slots p name) (length slots) (numbered_properties numbers k content) in
      let under = length-planted children (suc k) own (length slots) in
      let beside = length-planted siblings (suc k + node_count children) inner p in
      omega (arith, length-with_child slots p name)

  -- the branch that comes next, where its node has number k
  abbrev own_of : List Slot → ℕ → ℕ → Name → Content NodeReference → List Slot
  own_of slots p k name content = with_properties (with_child slots p name) k (numbered_properties numbers k content)

  length-own : (slots : List Slot) (p k : ℕ) (name : Name) (content : Content NodeReference) → length (own_of slots p k name content) ≡ suc (length slots)
  length-own slots p k name content =
      let own = length-with_properties (with_child slots p name) k (numbered_properties numbers k content) in
      omega (arith, length-with_child slots p name)

  regrouped : (inner outer rest : List (Listed NodeReference)) → (inner ++ outer) ++ rest ≡ inner ++ (outer ++ rest)
  regrouped inner outer rest = append_assoc inner outer rest

  grown_forest : (f : NamedForest NodeReference) (rest : List (Listed NodeReference)) (slots : List Slot) (k p : ℕ) → length slots ≡ k
      → grown numbers slots (listed k p f ++ rest) ≡ grown numbers (planted slots p (numbered_forest numbers k f)) rest
  grown_forest no_nodes rest slots k p e = refl
  grown_forest (branch name content children siblings) rest slots k p e =
      let j = suc k + node_count children in
      let inner = listed (suc k) k children in
      let outer = listed j p siblings in
      let own = own_of slots p k name content in
      let size : length own ≡ suc k = length-own slots p k name content ∙ ap suc e in
      let under = planted own k (numbered_forest numbers (suc k) children) in
      let more : length under ≡ j = length-planted children (suc k) own k ∙ ap (λ (n : ℕ). n + node_count children) size in
      ap (λ (n : ℕ). grown numbers (own_of slots p n name content) ((inner ++ outer) ++ rest)) e
      ∙ ap (grown numbers own) (append_assoc inner outer rest)
      ∙ grown_forest children (outer ++ rest) own (suc k) k size
      ∙ grown_forest siblings rest under j p more
      ∙ ap (λ (n : ℕ). grown numbers (planted (planted (with_properties (with_child slots p name) n (numbered_properties numbers k content)) n
      (numbered_forest numbers (suc k) children)) p (numbered_forest numbers j siblings)) rest) (sym e)

  grown_tree : (t : Named NodeReference) → grown_all numbers (root_alone 0).slots (list_of t) ≡ planted_tree (numbered_properties numbers 0 t.content) (numbered_forest numbers 1 t.children)
  grown_tree t =
      let root = with_properties (root_alone 0).slots 0 (numbered_properties numbers 0 t.content) in
      ap (grown numbers root) (sym (append-nil (listed 1 0 t.children)))
      ∙ grown_forest t.children [] root 1 0 (length-with_properties (root_alone 0).slots 0 (numbered_properties numbers 0 t.content))

  -- ---- nothing is in their way

  may_forest : (f : NamedForest NodeReference) (rest : List (Listed NodeReference)) (slots : List Slot) (k p : ℕ) → length slots ≡ k → p < k → AreNodes (numbered_forest numbers k f)
      → MayPlant slots p (numbered_forest numbers k f) → MayGrow numbers (planted slots p (numbered_forest numbers k f)) rest
      → MayGrow numbers slots (listed k p f ++ rest)
  may_forest no_nodes rest slots k p e lt nodes may later = later
  may_forest (branch name content children siblings) rest slots k p e lt nodes may later =
      let j = suc k + node_count children in
      let inner = listed (suc k) k children in
      let outer = listed j p siblings in
      let properties = numbered_properties numbers k content in
      let own = own_of slots p k name content in
      let size : length own ≡ suc k = length-own slots p k name content ∙ ap suc e in
      let under = planted own k (numbered_forest numbers (suc k) children) in
      let more : length under ≡ j = length-planted children (suc k) own k ∙ ap (λ (n : ℕ). n + node_count children) size in
      let after : MayGrow numbers (planted under p (numbered_forest numbers j siblings)) rest =
      subst (λ (n : ℕ). MayGrow numbers (planted (planted (with_properties (with_child slots p name) n properties) n
      (numbered_forest numbers (suc k) children)) p (numbered_forest numbers j siblings)) rest) e later in
      let may_beside : MayPlant under p (numbered_forest numbers j siblings) =
      subst (λ (n : ℕ). MayPlant (planted (with_properties (with_child slots p name) n properties) n (numbered_forest numbers (suc k) children)) p (numbered_forest numbers j siblings)) e may.3 in
      let may_under : MayPlant own k (numbered_forest numbers (suc k) children) =
      subst (λ (n : ℕ). MayPlant (with_properties (with_child slots p name) n properties) n (numbered_forest numbers (suc k) children)) e may.2 in
      let beside = may_forest siblings rest under j p more (omega arith) nodes.4 may_beside after in
      let inside = may_forest children (outer ++ rest) own (suc k) k size (omega arith) nodes.2 may_under beside in
      let further : MayGrow numbers own ((inner ++ outer) ++ rest) = subst (MayGrow numbers own) (sym (append_assoc inner outer rest)) inside in
      let node : Listed NodeReference = record { parent = p; name = name; content = content } in
      let first : MayHave (with_child slots p name) k properties =
      record { there = omega (arith, length-with_child slots p name); named = nodes.1.named; may = subst (λ (n : ℕ). MaySetAll (with_child slots p name) n properties) e may.1 } in
      let come : MayCome numbers slots node = record {
        parent = omega arith;
        name = nodes.0;
        add = may.0;
        have = subst (λ (n : ℕ). MayHave (with_child slots p name) n (numbered_properties numbers n content)) (sym e) first;
      } in
      (come, subst (λ (n : ℕ). MayGrow numbers (own_of slots p n name content) ((inner ++ outer) ++ rest)) (sym e) further)

  may_tree : (t : Named NodeReference) → IsValid (instance_of numbers t) → MayMake (numbered_properties numbers 0 t.content) (numbered_forest numbers 1 t.children)
      → MayGrowAll numbers (root_alone 0).slots (list_of t)
  may_tree t valid may =
      let properties = numbered_properties numbers 0 t.content in
      let root = with_properties (root_alone 0).slots 0 properties in
      let size = length-with_properties (root_alone 0).slots 0 properties in
      let others = may_forest t.children [] root 1 0 size (omega arith) valid.nodes may.plant tt in (
        record { there = omega arith; named = valid.properties.named; may = may.set },
        subst (MayGrow numbers root) (append-nil (listed 1 0 t.children)) others,
      )

  -- ---- the tree that is made

  pub may_follow : (l : NamedList NodeReference) (nodes : List NamedNode) (rs : List (ℕ × ℕ)) (begun reserved : Arena) → list_of (tree_of l) ≡ l.nodes → map node_said nodes ≡ l.nodes
      → begun ≡ root_alone 0 → reserved ≡ record begun { reservations = begun.reservations ++ rs } → IsValid (instance_of numbers (tree_of l))
      → MayMake (numbered_properties numbers 0 (tree_of l).content) (numbered_forest numbers 1 (tree_of l).children)
      → MayGrowAll numbers reserved.slots (map node_said nodes)
  may_follow l nodes rs begun reserved preorder are alone is valid may =
      let same : (root_alone 0).slots ≡ reserved.slots = sym (ap (λ (a : Arena). a.slots) is ∙ ap (λ (a : Arena). a.slots) alone) in
      let all : list_of (tree_of l) ≡ map node_said nodes = preorder ∙ sym are in
      subst (λ (slots : List Slot). MayGrowAll numbers slots (map node_said nodes)) same
      (subst (MayGrowAll numbers (root_alone 0).slots) all (may_tree (tree_of l) valid may))

  pub made : (l : NamedList NodeReference) (nodes : List NamedNode) (rs : List (ℕ × ℕ)) (begun reserved whole : Arena) → list_of (tree_of l) ≡ l.nodes → map node_said nodes ≡ l.nodes
      → begun ≡ root_alone 0 → rs ≡ l.reservations → reserved ≡ record begun { reservations = begun.reservations ++ rs }
      → whole ≡ record reserved { slots = grown_all numbers reserved.slots (map node_said nodes) }
      → reading (arena_of (instance_of numbers (tree_of l))) ≡ instance_of numbers (tree_of l)
      → reading whole ≡ instance_of numbers (tree_of l)
  made l nodes rs begun reserved whole preorder are alone reservations is done reads =
      let root = (root_alone 0).slots in
      let before : reserved ≡ record { boot_cpu = 0; reservations = l.reservations; slots = root } =
      is ∙ ap (λ (a : Arena). record a { reservations = a.reservations ++ rs }) alone
      ∙ ap (λ (r : List (ℕ × ℕ)). record { boot_cpu = 0; reservations = r; slots = root }) reservations in
      let all : map node_said nodes ≡ list_of (tree_of l) = are ∙ sym preorder in
      let after : whole ≡ arena_of (instance_of numbers (tree_of l)) =
      done ∙ ap (λ (a : Arena). record a { slots = grown_all numbers a.slots (map node_said nodes) }) before
      ∙ ap (λ (slots : List Slot). record { boot_cpu = 0; reservations = l.reservations; slots = slots }) (ap (grown_all numbers root) all ∙ grown_tree (tree_of l)) in
      ap reading after ∙ reads

-- ---- how many nodes there are

filled_count : (slots : List Slot) (p : ℕ) (xs : List Property) → length (with_properties slots p xs) ≡ length slots
filled_count slots p [] = refl
filled_count slots p (x ∷ xs) = filled_count (with_property slots p x.name x.value) p xs ∙ length-with_property slots p x.name x.value

grown_count : (numbers : List (Option ℕ)) (slots : List Slot) (ns : List (Listed NodeReference)) → length (grown numbers slots ns) ≡ length slots + length ns
grown_count numbers slots [] = omega arith
grown_count numbers slots (n ∷ ns) =
    let child = with_child slots n.parent n.name in
    let more = grown_count numbers (with_node numbers slots n) ns in
    let filled = filled_count child (length slots) (numbered_properties numbers (length slots) n.content) in
    let one : length child ≡ length slots + 1 = length-with_child slots n.parent n.name in
    omega (arith, more, filled, one)

-- a tree has as many nodes as its list
pub as_many : (numbers : List (Option ℕ)) (l : NamedList NodeReference) (nodes : List NamedNode) (tree reserved whole : Arena) → list_of (tree_of l) ≡ l.nodes → map node_said nodes ≡ l.nodes
    → tree ≡ root_alone 0 → reserved.slots ≡ tree.slots → whole ≡ record reserved { slots = grown_all numbers reserved.slots (map node_said nodes) } → length whole.slots ≡ length l.nodes
as_many numbers l nodes tree reserved whole preorder are alone same is =
    let slots : reserved.slots ≡ (root_alone 0).slots = same ∙ ap (λ (a : Arena). a.slots) alone in
    let t = tree_of l in
    let all : map node_said nodes ≡ list_of t = are ∙ sym preorder in
    let whole_is : whole.slots ≡ grown_all numbers (root_alone 0).slots (list_of t) =
    ap (λ (a : Arena). a.slots) is ∙ ap (λ (ss : List Slot). grown_all numbers ss (map node_said nodes)) slots ∙ ap (grown_all numbers (root_alone 0).slots) all in
    let root = filled_count (root_alone 0).slots 0 (numbered_properties numbers 0 t.content) in
    let count = grown_count numbers (with_properties (root_alone 0).slots 0 (numbered_properties numbers 0 t.content)) (listed 1 0 t.children) in
    let same : length whole.slots ≡ length (grown_all numbers (root_alone 0).slots (list_of t)) = ap length whole_is in
    let listed_all : suc (length (listed 1 0 t.children)) ≡ length l.nodes = ap length preorder in
    omega (arith, same, count, root, listed_all)
