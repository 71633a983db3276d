-- Parts of the structure block that are put one after the other.
use Rattle.std.proofs.Common.{◌≡◌, ℕ, zero, suc, ◌+◌, ◌≤◌, Bool, true, false, cond, eqb, List, [], ◌∷◌, ◌++◌, length, drop, refl, sym, ap, subst, ◌∙◌, append_assoc, arith}
use Rattle.std.specs.List.{flat_map}
use Rattle.std.proofs.lemmas.List.{append-nil, length-append}
use Rattle.dt_names.specs.declared.fault.FaultKind.{FaultKind}
use Rattle.dt_names.specs.declared.fault.FaultKind.TheVariants.{NoMemory, Limit}
use Rattle.dt_model.specs.Names.{Name}
use Rattle.dt_model.specs.Tree.{Property, Forest, branch}
use Rattle.dt_model.specs.Format.{word}
use Rattle.dt_flat.specs.Arena.{Slot, name_of, properties, children_among, children, forest_among, below}
use Rattle.dt_write.specs.Written.{has, property_block, begin_block, nodes_block}
use Rattle.dt_write.specs.Parts.{trees_at, tree_at, HasAll, HasBelow}
use Rattle.dt_write.specs.Refusals.{WhyNoBytes}

pub longer : (kind : FaultKind) (m n : ℕ) → m ≤ n → WhyNoBytes kind m → WhyNoBytes kind n
longer NoMemory m n h w = tt
longer Limit m n h w = omega arith
longer _ m n h w = w

pub transitive : (l m n : ℕ) → l ≤ m → m ≤ n → l ≤ n
transitive l m n p q = omega arith

-- five pieces, put one after the other
pub five_put : (a b1 b2 b3 b4 b5 x1 x2 x3 x4 x5 : List ℕ) → x1 ≡ a ++ b1 → x2 ≡ x1 ++ b2 → x3 ≡ x2 ++ b3 → x4 ≡ x3 ++ b4 → x5 ≡ x4 ++ b5 → x5 ≡ a ++ (b1 ++ b2 ++ b3 ++ b4 ++ b5)
five_put a b1 b2 b3 b4 b5 x1 x2 x3 x4 x5 e1 e2 e3 e4 e5 =
    e5 ∙ ap (λ (t : List ℕ). t ++ b5) (e4 ∙ ap (λ (t : List ℕ). t ++ b4) (e3 ∙ ap (λ (t : List ℕ). t ++ b3) (e2 ∙ ap (λ (t : List ℕ). t ++ b2) e1))) ∙ simp append_assoc

-- ---- properties

-- these are left of all properties: with them what was put is as long as with all
pub record PropertiesLeft (names : List Name) (all left : List Property) (before after : List ℕ) : Type 0 where
  pub has : HasAll names left
  pub put : before ++ flat_map (property_block names) all ≡ after ++ flat_map (property_block names) left

pub properties_begin : (names : List Name) (all left : List Property) (bytes : List ℕ) → HasAll names all → all ≡ left → PropertiesLeft names all left bytes bytes
properties_begin names all left bytes has e = record { has = subst (HasAll names) e has; put = ap (λ (ps : List Property). bytes ++ flat_map (property_block names) ps) e }

pub properties_step : (names : List Name) (all left rest : List Property) (p : Property) (before after bytes : List ℕ) → left ≡ p ∷ rest → PropertiesLeft names all left before after → bytes ≡ after ++ property_block names p
    → PropertiesLeft names all rest before bytes
properties_step names all left rest p before after bytes e so_far put = record {
  has = (subst (HasAll names) e so_far.has).1;
  put =
      so_far.put ∙ ap (λ (ps : List Property). after ++ flat_map (property_block names) ps) e ∙ sym (append_assoc after (property_block names p) (flat_map (property_block names) rest))
      ∙ ap (λ (x : List ℕ). x ++ flat_map (property_block names) rest) (sym put);
}

pub properties_over : (names : List Name) (all left : List Property) (before after : List ℕ) → left ≡ [] → PropertiesLeft names all left before after → after ≡ before ++ flat_map (property_block names) all
properties_over names all left before after e so_far = sym (so_far.put ∙ ap (λ (ps : List Property). after ++ flat_map (property_block names) ps) e ∙ append-nil after)

pub property_within : (names : List Name) (all left rest : List Property) (p : Property) (before after : List ℕ) → left ≡ p ∷ rest → PropertiesLeft names all left before after
    → length after + length (property_block names p) ≤ length before + length (flat_map (property_block names) all)
property_within names all left rest p before after e so_far =
    omega (
      arith,
      ap length so_far.put,
      length-append before (flat_map (property_block names) all),
      length-append after (flat_map (property_block names) left),
      ap (λ (ps : List Property). length (flat_map (property_block names) ps)) e,
      length-append (property_block names p) (flat_map (property_block names) rest),
    )

-- ---- nodes

-- the trees at these nodes are left of all
pub record NodesLeft (names : List Name) (slots : List Slot) (all left : List ℕ) (before after : List ℕ) : Type 0 where
  pub has : HasBelow names (trees_at slots left)
  pub put : before ++ nodes_block names (trees_at slots all) ≡ after ++ nodes_block names (trees_at slots left)

pub nodes_begin : (names : List Name) (slots : List Slot) (all left : List ℕ) (bytes : List ℕ) → HasBelow names (trees_at slots all) → left ≡ all → NodesLeft names slots all left bytes bytes
nodes_begin names slots all left bytes has e = record {
  has = subst (λ (ps : List ℕ). HasBelow names (trees_at slots ps)) (sym e) has;
  put = ap (λ (ps : List ℕ). bytes ++ nodes_block names (trees_at slots ps)) (sym e);
}

-- the first node, and those behind it
first_node : (names : List Name) (slots : List Slot) (node : ℕ) (rest : List ℕ) → nodes_block names (trees_at slots (node ∷ rest)) ≡ nodes_block names (tree_at slots node) ++ nodes_block names (trees_at slots rest)
first_node names slots node rest =
    let front = begin_block (name_of slots node) ++ flat_map (property_block names) (properties slots node) ++ nodes_block names (below slots node) ++ word 2 in
    ap (λ (x : List ℕ). x ++ nodes_block names (trees_at slots rest)) (sym (append-nil front))

pub nodes_step : (names : List Name) (slots : List Slot) (all left rest : List ℕ) (node : ℕ) (before after bytes : List ℕ) → left ≡ node ∷ rest → NodesLeft names slots all left before after
    → bytes ≡ after ++ nodes_block names (tree_at slots node) → NodesLeft names slots all rest before bytes
nodes_step names slots all left rest node before after bytes e so_far put = record {
  has = (subst (λ (ps : List ℕ). HasBelow names (trees_at slots ps)) e so_far.has).2;
  put =
      so_far.put ∙ ap (λ (ps : List ℕ). after ++ nodes_block names (trees_at slots ps)) e ∙ ap (λ (x : List ℕ). after ++ x) (first_node names slots node rest)
      ∙ sym (append_assoc after (nodes_block names (tree_at slots node)) (nodes_block names (trees_at slots rest))) ∙ ap (λ (x : List ℕ). x ++ nodes_block names (trees_at slots rest)) (sym put);
}

pub node_has : (names : List Name) (slots : List Slot) (all left rest : List ℕ) (node : ℕ) (before after : List ℕ) → left ≡ node ∷ rest → NodesLeft names slots all left before after → HasBelow names (tree_at slots node)
node_has names slots all left rest node before after e so_far = let h = subst (λ (ps : List ℕ). HasBelow names (trees_at slots ps)) e so_far.has in (h.0, h.1, tt)

pub nodes_over : (names : List Name) (slots : List Slot) (all left : List ℕ) (before after : List ℕ) → left ≡ [] → NodesLeft names slots all left before after → after ≡ before ++ nodes_block names (trees_at slots all)
nodes_over names slots all left before after e so_far = sym (so_far.put ∙ ap (λ (ps : List ℕ). after ++ nodes_block names (trees_at slots ps)) e ∙ append-nil after)

pub node_within : (names : List Name) (slots : List Slot) (all left rest : List ℕ) (node : ℕ) (before after : List ℕ) → left ≡ node ∷ rest → NodesLeft names slots all left before after
    → length after + length (nodes_block names (tree_at slots node)) ≤ length before + length (nodes_block names (trees_at slots all))
node_within names slots all left rest node before after e so_far =
    omega (
      arith,
      ap length so_far.put,
      length-append before (nodes_block names (trees_at slots all)),
      length-append after (nodes_block names (trees_at slots left)),
      ap (λ (ps : List ℕ). length (nodes_block names (trees_at slots ps))) e,
      ap length (first_node names slots node rest),
      length-append (nodes_block names (tree_at slots node)) (nodes_block names (trees_at slots rest)),
    )

-- ---- the trees below a node are those of its children

drop_next : (slots : List Slot) (i : ℕ) (n : Slot) (ns : List Slot) → drop i slots ≡ n ∷ ns → (name_of slots i ≡ n.name) × (properties slots i ≡ n.properties) × (drop (suc i) slots ≡ ns)
drop_next [] zero n ns e = absurd cc
drop_next [] (suc i) n ns e = absurd cc
drop_next (m ∷ ms) zero n ns e =
    let same : m ≡ n = cc in
    let rest : ms ≡ ns = cc in
    (ap (λ (k : Slot). k.name) same, ap (λ (k : Slot). k.properties) same, rest)
drop_next (m ∷ ms) (suc i) n ns e = drop_next ms i n ns e

trees_among : (slots : List Slot) (i : ℕ) (ns : List Slot) (p : ℕ) → drop i slots ≡ ns → forest_among i ns p ≡ trees_at slots (children_among i ns p)
trees_among slots i [] p e = refl
trees_among slots i (n ∷ ns) p e =
    let d = drop_next slots i n ns e in
    let rest = trees_among slots (suc i) ns p d.2 in
    let own : forest_among (suc i) ns i ≡ below slots i = ap (λ (ms : List Slot). forest_among (suc i) ms i) (sym d.2) in
    by (eqb n.parent p) (λ j. branch (sym d.0 j) (sym d.1 j) (own j) (rest j)) rest
  where
    by : (b : Bool) → branch n.name n.properties (forest_among (suc i) ns i) (forest_among (suc i) ns p) ≡ trees_at slots (i ∷ children_among (suc i) ns p)
        → forest_among (suc i) ns p ≡ trees_at slots (children_among (suc i) ns p)
        → cond b (branch n.name n.properties (forest_among (suc i) ns i) (forest_among (suc i) ns p)) (forest_among (suc i) ns p) ≡ trees_at slots (cond b (i ∷ children_among (suc i) ns p) (children_among (suc i) ns p))
    by true h k = h
    by false h k = k

pub below_is : (slots : List Slot) (p : ℕ) → below slots p ≡ trees_at slots (children slots p)
below_is slots p = trees_among slots (suc p) (drop (suc p) slots) p refl

-- ---- a whole node

-- its parts, put one after the other
pub node_put : (names : List Name) (slots : List Slot) (node : ℕ) (name : Name) (ps : List Property) (v w x y z : List ℕ) → name ≡ name_of slots node → ps ≡ properties slots node
    → w ≡ v ++ begin_block name → x ≡ w ++ flat_map (property_block names) ps → y ≡ x ++ nodes_block names (trees_at slots (children slots node)) → z ≡ y ++ word 2 → z ≡ v ++ nodes_block names (tree_at slots node)
node_put names slots node name ps v w x y z named own e1 e2 e3 e4 =
    rows v (begin_block (name_of slots node)) (flat_map (property_block names) (properties slots node)) (nodes_block names (below slots node)) (word 2) w x y z
    (e1 ∙ ap (λ (n : Name). v ++ begin_block n) named) (e2 ∙ ap (λ (qs : List Property). w ++ flat_map (property_block names) qs) own)
    (e3 ∙ ap (λ (f : Forest). x ++ nodes_block names f) (sym (below_is slots node))) e4
  where
    rows : (v b1 b2 b3 b4 w x y z : List ℕ) → w ≡ v ++ b1 → x ≡ w ++ b2 → y ≡ x ++ b3 → z ≡ y ++ b4 → z ≡ v ++ (b1 ++ b2 ++ b3 ++ b4 ++ [])
    rows v b1 b2 b3 b4 w x y z e1 e2 e3 e4 =
        e4 ∙ ap (λ (t : List ℕ). t ++ b4) (e3 ∙ ap (λ (t : List ℕ). t ++ b3) (e2 ∙ ap (λ (t : List ℕ). t ++ b2) e1))
        ∙ (simp (append_assoc, append-nil))

parts_length : (names : List Name) (slots : List Slot) (node : ℕ) → length (begin_block (name_of slots node)) + length (flat_map (property_block names) (properties slots node)) + length (nodes_block names (trees_at slots (children slots node)))
    ≤ length (nodes_block names (tree_at slots node))
parts_length names slots node =
    let b = begin_block (name_of slots node) in
    let p = flat_map (property_block names) (properties slots node) in
    let c = nodes_block names (below slots node) in
    omega (
      arith,
      ap (λ (f : Forest). length (nodes_block names f)) (below_is slots node),
      length-append b p,
      length-append (b ++ p) c,
      length-append (b ++ p ++ c) (word 2),
      length-append (b ++ p ++ c ++ word 2) [],
    )

pub properties_within : (names : List Name) (slots : List Slot) (node : ℕ) (name : Name) (ps : List Property) (v w : List ℕ) → name ≡ name_of slots node → ps ≡ properties slots node → w ≡ v ++ begin_block name
    → length w + length (flat_map (property_block names) ps) ≤ length v + length (nodes_block names (tree_at slots node))
properties_within names slots node name ps v w named own e1 =
    omega (
      arith,
      parts_length names slots node,
      ap length e1,
      length-append v (begin_block name),
      ap (λ (n : Name). length (begin_block n)) named,
      ap (λ (qs : List Property). length (flat_map (property_block names) qs)) own,
    )

pub children_within : (names : List Name) (slots : List Slot) (node : ℕ) (name : Name) (ps : List Property) (v w x : List ℕ) → name ≡ name_of slots node → ps ≡ properties slots node → w ≡ v ++ begin_block name
    → x ≡ w ++ flat_map (property_block names) ps → length x + length (nodes_block names (trees_at slots (children slots node))) ≤ length v + length (nodes_block names (tree_at slots node))
children_within names slots node name ps v w x named own e1 e2 =
    omega (
      arith,
      parts_length names slots node,
      ap length e1,
      length-append v (begin_block name),
      ap length e2,
      length-append w (flat_map (property_block names) ps),
      ap (λ (n : Name). length (begin_block n)) named,
      ap (λ (qs : List Property). length (flat_map (property_block names) qs)) own,
    )
