-- Trees stay trees with distinct names where one is merged into another.
use Rattle.std.proofs.Common.{◌≡◌, ◌≢◌, ℕ, Bool, true, false, List, [], ◌∷◌, ◌++◌, map, refl, sym, ap, subst, ◌∙◌, Option, Some, None}
use Rattle.std.specs.Prelude.{if◌then◌else◌, option_and_then}
use Rattle.std.specs.List.{AllByRecursion}
use Rattle.std.specs.Str.{bytes_eq}
use Rattle.dt_model.specs.Names.{Name, IsNodeName, IsPropertyName}
use Rattle.dt_model.specs.Path.{Path}
use Rattle.dt_model.specs.Tree.{Property, Forest, no_nodes, branch, Node, sibling, node_below}
use Rattle.dt_model.specs.Valid.{AreDistinct, names, AreProperties, AreNodes}
use Rattle.dt_model.specs.Changes.{set_property, set_properties, with_child, merged_forest, merged_node, changed_sibling, changed_below}
use Rattle.dt_model.specs.Applied.{Write, written_property, written_forest, written_node}
use Rattle.dt_model.proofs.Tests.{bytes_eq_differ}

-- ---- properties

-- P holds of each name
abbrev Named : (Name → Type 0) → List Property → Type 0
Named P ps = AllByRecursion P (map (λ (p : Property). p.name) ps)

set_named : (P : Name → Type 0) (ps : List Property) (x : Name) (v : List ℕ) → Named P ps → P x → Named P (set_property ps x v)
set_named P [] x v h k = (k, tt)
set_named P (p ∷ ps) x v h k = step (set_named P ps x v h.1 k) (bytes_eq x p.name)
  where
    step : Named P (set_property ps x v) → (b : Bool) → Named P (if b then record { name = p.name; value = v } ∷ ps else p ∷ set_property ps x v)
    step more true = h
    step more false = (h.0, more)

set_distinct : (ps : List Property) (x : Name) (v : List ℕ) → AreDistinct (map (λ (p : Property). p.name) ps) → AreDistinct (map (λ (p : Property). p.name) (set_property ps x v))
set_distinct [] x v d = (tt, tt)
set_distinct (p ∷ ps) x v d = step (set_distinct ps x v d.1) (bytes_eq x p.name) refl
  where
    step : AreDistinct (map (λ (p : Property). p.name) (set_property ps x v)) → (b : Bool) → bytes_eq x p.name ≡ b
        → AreDistinct (map (λ (p : Property). p.name) (if b then record { name = p.name; value = v } ∷ ps else p ∷ set_property ps x v))
    step more true e = d
    step more false e = (set_named (λ y. y ≢ p.name) ps x v d.0 (bytes_eq_differ x p.name e), more)

all_named : (ps : List Property) → AllByRecursion (λ p. IsPropertyName p.name) ps → Named IsPropertyName ps
all_named [] h = tt
all_named (p ∷ ps) h = (h.0, all_named ps h.1)

named_all : (ps : List Property) → Named IsPropertyName ps → AllByRecursion (λ p. IsPropertyName p.name) ps
named_all [] h = tt
named_all (p ∷ ps) h = (h.0, named_all ps h.1)

set_properties_are : (xs ps : List Property) → AreProperties ps → AllByRecursion (λ p. IsPropertyName p.name) xs → AreProperties (set_properties ps xs)
set_properties_are [] ps h k = h
set_properties_are (x ∷ xs) ps h k =
    set_properties_are xs (set_property ps x.name x.value)
    (record { named = named_all (set_property ps x.name x.value) (set_named IsPropertyName ps x.name x.value (all_named ps h.named) k.0); distinct = set_distinct ps x.name x.value h.distinct }) k.1

-- ---- nodes

-- siblings with names that differ, and so below them
pub record AreSiblings (fs : Forest) : Type 0 where
  pub nodes : AreNodes fs
  pub distinct : AreDistinct (names fs)

pub record IsGoodNode (n : Node) : Type 0 where
  pub properties : AreProperties n.properties
  pub children : AreSiblings n.children

child_named : (P : Name → Type 0) (c : Forest) (x : Name) (ps : List Property) (change : Forest → Forest) → AllByRecursion P (names c) → P x → AllByRecursion P (names (with_child c x ps change))
child_named P no_nodes x ps change h k = (k, tt)
child_named P (branch y qs children siblings) x ps change h k = step (child_named P siblings x ps change h.1 k) (bytes_eq x y)
  where
    step : AllByRecursion P (names (with_child siblings x ps change)) → (b : Bool) → AllByRecursion P (names (if b then branch y (set_properties qs ps) (change children) siblings else branch y qs children (with_child siblings x ps change)))
    step more true = h
    step more false = (h.0, more)

with_child_good : (c : Forest) (x : Name) (ps : List Property) (change : Forest → Forest) → AreSiblings c → IsNodeName x → AllByRecursion (λ p. IsPropertyName p.name) ps
    → ((old : Forest) → AreSiblings old → AreSiblings (change old)) → AreSiblings (with_child c x ps change)
with_child_good no_nodes x ps change h name named good =
    let below = good no_nodes h in
    record { nodes = (name, set_properties_are ps [] (record { named = tt; distinct = tt }) named, below.nodes, below.distinct, tt); distinct = (tt, tt) }
with_child_good (branch y qs children siblings) x ps change h name named good =
    step (with_child_good siblings x ps change (record { nodes = h.nodes.4; distinct = h.distinct.1 }) name named good) (bytes_eq x y) refl
  where
    step : AreSiblings (with_child siblings x ps change) → (b : Bool) → bytes_eq x y ≡ b → AreSiblings (if b then branch y (set_properties qs ps) (change children) siblings else branch y qs children (with_child siblings x ps change))
    step more true e =
        let below = good children (record { nodes = h.nodes.2; distinct = h.nodes.3 }) in
        record { nodes = (h.nodes.0, set_properties_are ps qs h.nodes.1 named, below.nodes, below.distinct, h.nodes.4); distinct = h.distinct }
    step more false e = record {
      nodes = (h.nodes.0, h.nodes.1, h.nodes.2, h.nodes.3, more.nodes);
      distinct = (child_named (λ z. z ≢ y) siblings x ps change h.distinct.0 (bytes_eq_differ x y e), more.distinct);
    }

merged_good : (d c : Forest) → AreSiblings c → AreNodes d → AreSiblings (merged_forest c d)
merged_good no_nodes c h k = h
merged_good (branch x ps children siblings) c h k =
    merged_good siblings (with_child c x ps (λ old. merged_forest old children)) (with_child_good c x ps (λ old. merged_forest old children) h k.0 k.1.named (λ old good. merged_good children old good k.2)) k.4

pub merged_node_good : (n m : Node) → IsGoodNode n → IsGoodNode m → IsGoodNode (merged_node n m)
merged_node_good n m h k = record {
  properties = set_properties_are m.properties n.properties h.properties k.properties.named;
  children = merged_good m.children n.children h.children k.children.nodes;
}

-- ---- a change below

module _ (change : Node → Node) where
  sibling_names : (fs : Forest) (x : Name) → names (changed_sibling change fs x) ≡ names fs
  sibling_names no_nodes x = refl
  sibling_names (branch y qs children siblings) x = step (sibling_names siblings x) (bytes_eq x y)
    where
      step : names (changed_sibling change siblings x) ≡ names siblings → (b : Bool) → names (if b then branch y (change (record { properties = qs; children = children })).properties (change (record { properties = qs; children = children })).children siblings else branch y qs children (changed_sibling change siblings x)) ≡ y ∷ names siblings
      step more true = refl
      step more false = ap (λ z. y ∷ z) more

  sibling_nodes : (fs : Forest) (x : Name) → AreNodes fs → ((n : Node) → IsGoodNode n → IsGoodNode (change n)) → AreNodes (changed_sibling change fs x)
  sibling_nodes no_nodes x h good = tt
  sibling_nodes (branch y qs children siblings) x h good = step (sibling_nodes siblings x h.4 good) (bytes_eq x y)
    where
      step : AreNodes (changed_sibling change siblings x) → (b : Bool)
          → AreNodes (if b then branch y (change (record { properties = qs; children = children })).properties (change (record { properties = qs; children = children })).children siblings else branch y qs children (changed_sibling change siblings x))
      step more true =
          let w = good (record { properties = qs; children = children }) (record { properties = h.1; children = record { nodes = h.2; distinct = h.3 } }) in
          (h.0, w.properties, w.children.nodes, w.children.distinct, h.4)
      step more false = (h.0, h.1, h.2, h.3, more)

pub changed_good : (change : Node → Node) → ((n : Node) → IsGoodNode n → IsGoodNode (change n)) → (p : Path) (n : Node) → IsGoodNode n → IsGoodNode (changed_below change p n)
changed_good change good [] n h = good n h
changed_good change good (x ∷ p) n h = record {
  properties = h.properties;
  children = record {
    nodes = sibling_nodes (changed_below change p) n.children x h.children.nodes (λ c k. changed_good change good p c k);
    distinct = subst AreDistinct (sym (sibling_names (changed_below change p) n.children x)) h.children.distinct;
  };
}

-- ---- cells written

module _ (ws : List Write) (numbers : List (Path × ℕ)) where
  written_names : (P : Name → Type 0) (path : Path) (ps : List Property) → AllByRecursion (λ p. P p.name) ps → AllByRecursion (λ p. P p.name) (map (written_property ws numbers path) ps)
  written_names P path [] h = tt
  written_names P path (p ∷ ps) h = (h.0, written_names P path ps h.1)

  same_names : (path : Path) (ps : List Property) → map (λ (p : Property). p.name) (map (written_property ws numbers path) ps) ≡ map (λ (p : Property). p.name) ps
  same_names path [] = refl
  same_names path (p ∷ ps) = ap (λ z. p.name ∷ z) (same_names path ps)

  written_properties : (path : Path) (ps : List Property) → AreProperties ps → AreProperties (map (written_property ws numbers path) ps)
  written_properties path ps h = record { named = written_names IsPropertyName path ps h.named; distinct = subst AreDistinct (sym (same_names path ps)) h.distinct }

  forest_names : (path : Path) (fs : Forest) → names (written_forest ws numbers path fs) ≡ names fs
  forest_names path no_nodes = refl
  forest_names path (branch x ps children siblings) = ap (λ z. x ∷ z) (forest_names path siblings)

  written_nodes : (path : Path) (fs : Forest) → AreNodes fs → AreNodes (written_forest ws numbers path fs)
  written_nodes path no_nodes h = tt
  written_nodes path (branch x ps children siblings) h = (
    h.0,
    written_properties (path ++ x ∷ []) ps h.1,
    written_nodes (path ++ x ∷ []) children h.2,
    subst AreDistinct (sym (forest_names (path ++ x ∷ []) children)) h.3,
    written_nodes path siblings h.4,
  )

  pub written_good : (path : Path) (n : Node) → IsGoodNode n → IsGoodNode (written_node ws numbers path n)
  written_good path n h = record {
    properties = written_properties path n.properties h.properties;
    children = record { nodes = written_nodes path n.children h.children.nodes; distinct = subst AreDistinct (sym (forest_names path n.children)) h.children.distinct };
  }

-- ---- a node below

good_sibling : (fs : Forest) (x : Name) (c : Node) → AreNodes fs → sibling fs x ≡ Some c → IsGoodNode c
good_sibling no_nodes x c h e = absurd (let z : None ≡ Some c = e in cc)
good_sibling (branch y qs children siblings) x c h e = step (λ k. good_sibling siblings x c h.4 k) (bytes_eq x y) refl
  where
    step : (sibling siblings x ≡ Some c → IsGoodNode c) → (b : Bool) → bytes_eq x y ≡ b → IsGoodNode c
    step more true k =
        let z : ◌≡◌ {A = Option Node} (Some (record { properties = qs; children = children })) (Some c) = rw k at e in
        let is : ◌≡◌ {A = Node} (record { properties = qs; children = children }) c = cc in
        subst IsGoodNode is (record { properties = h.1; children = record { nodes = h.2; distinct = h.3 } })
    step more false k = more (rw k at e)

pub good_below : (p : Path) (n c : Node) → IsGoodNode n → node_below n p ≡ Some c → IsGoodNode c
good_below [] n c h e = let is : n ≡ c = cc in subst IsGoodNode is h
good_below (x ∷ p) n c h e = step (λ s g k. good_below p s c g k) (sibling n.children x) refl
  where
    step : ((s : Node) → IsGoodNode s → node_below s p ≡ Some c → IsGoodNode c) → (y : Option Node) → sibling n.children x ≡ y → IsGoodNode c
    step more None k = absurd (let z : None ≡ Some c = sym (ap (option_and_then (λ c. node_below c p)) k) ∙ e in cc)
    step more (Some s) k = more s (good_sibling n.children x s h.children.nodes k) (sym (ap (option_and_then (λ c. node_below c p)) k) ∙ e)
