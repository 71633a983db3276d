-- The names of a tree differ exactly where the keys of its children do, and the names of each node's properties.
use Rattle.std.proofs.Common.{◌↔◌, ◌≡◌, ℕ, ◌+◌, ◌<◌, List, [], ◌∷◌, ◌++◌, length, map, refl, sym, ap, subst, ◌∙◌, append_assoc, arith, inl, inr}
use Rattle.std.proofs.Math.Dec.{eqb}
use Rattle.std.proofs.lemmas.List.{append-nil}
use Rattle.std.proofs.lemmas.Option.{same_Some}
use Rattle.dt_model.specs.Names.{Name}
use Rattle.dt_model.specs.Tree.{Property}
use Rattle.dt_model.specs.Valid.{AreDistinct}
use Rattle.dt_flat.proofs.Distinctness.{distinct-front, distinct-back}
use Rattle.dt_trees.specs.Placed.{Nodes, no_nodes, node}
use Rattle.dt_read.specs.Marks.{Mark, begin_mark, end_mark, prop_mark, nop_mark, last_mark, Root, marks_of, marks_of_nodes}
use Rattle.dt_read.specs.Parsing.{left_by}
use Rattle.dt_read.specs.TreeTokens.{Parts, heads_of}
use Rattle.dt_read.specs.Order.{Rise, HasRisingPlaces}
use Rattle.dt_read.specs.Distinct.{property_names, head_names, AreDistinctParts, HasDistinctNames, AreDistinctInEach}
use Rattle.dt_read.specs.Keys.{Key, keys_in, keys_of}
use Rattle.dt_read.specs.declared.keys.Wanted.TheVariants.{Children, Own}
use Rattle.dt_read.proofs.Tokens.{chosen}
use Rattle.dt_read.proofs.Ordering.{HasBelow, found_below}
use Rattle.dt_read.proofs.Apart.{below_is_node, root_is_node}
use Rattle.dt_read.proofs.NameKeys.{child_key, property_key, own_keys, node_keys, own_names, sibling_names, own_apart, keys_apart}

-- a node with no two properties has no two of one name
pub few_differ : (properties : List Property) → length properties < 2 → AreDistinct (property_names properties)
few_differ [] few = tt
few_differ (p ∷ []) few = (tt, tt)
few_differ (p ∷ q ∷ properties) few = absurd (omega (arith, few))

-- ---- the keys of one node's properties

pub own_keys_are : (owner : ℕ) (open_nodes : List ℕ) (marks : List Mark) → keys_in Own (owner ∷ open_nodes) marks ≡ own_keys owner (left_by marks).properties
own_keys_are owner open_nodes [] = refl
own_keys_are owner open_nodes (begin_mark place name ∷ marks) = refl
own_keys_are owner open_nodes (end_mark ∷ marks) = refl
own_keys_are owner open_nodes (prop_mark p ∷ marks) = ap (λ (ks : List Key). property_key owner p ∷ ks) (own_keys_are owner open_nodes marks)
own_keys_are owner open_nodes (nop_mark ∷ marks) = own_keys_are owner open_nodes marks
own_keys_are owner open_nodes (last_mark ∷ marks) = refl

pub own_differ : (owner : ℕ) (marks : List Mark) → AreDistinct (keys_in Own (owner ∷ []) marks) ↔ AreDistinct (property_names (left_by marks).properties)
own_differ owner marks =
    let same = own_keys_are owner [] marks in
    (λ d. own_names owner (left_by marks).properties (subst AreDistinct same d), λ h. subst AreDistinct (sym same) (own_apart owner (left_by marks).properties h))

-- ---- nodes without their properties

abbrev bare : Nodes → Nodes
bare no_nodes = no_nodes
bare (node place name properties children siblings) = node place name [] (bare children) (bare siblings)

bare_heads : (nodes : Nodes) → heads_of (bare nodes) ≡ heads_of nodes
bare_heads no_nodes = refl
bare_heads (node place name properties children siblings) = ap (λ (heads : List (ℕ × Name)). (place, name) ∷ heads) (bare_heads siblings)

bare_names : (nodes : Nodes) → AreDistinct (head_names (heads_of (bare nodes))) ≡ AreDistinct (head_names (heads_of nodes))
bare_names nodes = ap (λ (heads : List (ℕ × Name)). AreDistinct (head_names heads)) (bare_heads nodes)

bare_rise : (nodes : Nodes) (low high : ℕ) → Rise low nodes high → Rise low (bare nodes) high
bare_rise no_nodes low high r = r
bare_rise (node place name properties children siblings) low high r =
    (r.0, r.1, bare_rise children (place + 1) r.1 r.2, bare_rise siblings r.1 high r.3)

-- a node below them is one that has no properties
record IsBareOf (nodes : Nodes) (place : ℕ) (parts : Parts) : Type 0 where
  pub whole : Parts
  pub below : HasBelow nodes place whole
  pub bare_properties : parts.properties ≡ []
  pub bare_children : parts.children ≡ bare whole.children

bare_below : (nodes : Nodes) (place : ℕ) (parts : Parts) → HasBelow (bare nodes) place parts → IsBareOf nodes place parts
bare_below no_nodes place parts h = absurd h
bare_below (node other name properties children siblings) place parts h =
    elim h [
      | inl here ↦ record {
        whole = record { name = name; properties = properties; children = children; siblings = siblings };
        below = inl (here.0, refl);
        bare_properties = sym (ap (λ (p : Parts). p.properties) here.1);
        bare_children = sym (ap (λ (p : Parts). p.children) here.1);
      }
      | inr further ↦ elim further [
        | inl inside ↦ (let b = bare_below children place parts inside in record { whole = b.whole; below = inr (inl b.below); bare_properties = b.bare_properties; bare_children = b.bare_children })
        | inr after ↦ (let b = bare_below siblings place parts after in record { whole = b.whole; below = inr (inr b.below); bare_properties = b.bare_properties; bare_children = b.bare_children })
      ]
    ]

-- ---- the keys of children

no_own : (owner : ℕ) (open_nodes : List ℕ) (properties : List Property) (rest : List Mark)
    → keys_in Children (owner ∷ open_nodes) (map prop_mark properties ++ rest) ≡ keys_in Children (owner ∷ open_nodes) rest
no_own owner open_nodes [] rest = refl
no_own owner open_nodes (p ∷ properties) rest = no_own owner open_nodes properties rest

children_read : (owner : ℕ) (open_nodes : List ℕ) (nodes : Nodes) (rest : List Mark)
    → keys_in Children (owner ∷ open_nodes) (marks_of_nodes nodes ++ rest) ≡ node_keys owner (bare nodes) ++ keys_in Children (owner ∷ open_nodes) rest
children_read owner open_nodes no_nodes rest = refl
children_read owner open_nodes (node place name properties children siblings) rest =
    let after = marks_of_nodes siblings ++ rest in
    let regroup : (map prop_mark properties ++ (marks_of_nodes children ++ end_mark ∷ marks_of_nodes siblings)) ++ rest
    ≡ map prop_mark properties ++ (marks_of_nodes children ++ end_mark ∷ after) = simp append_assoc in
    let inside = children_read place (owner ∷ open_nodes) children (end_mark ∷ after) in
    let further = children_read owner open_nodes siblings rest in
    ap (λ (ks : List Key). child_key owner name ∷ ks)
    (ap (keys_in Children (place ∷ owner ∷ open_nodes)) regroup
    ∙ no_own place (owner ∷ open_nodes) properties (marks_of_nodes children ++ end_mark ∷ after)
    ∙ inside
    ∙ ap (λ (ks : List Key). node_keys place (bare children) ++ ks) further
    ∙ sym (append_assoc (node_keys place (bare children)) (node_keys owner (bare siblings)) (keys_in Children (owner ∷ open_nodes) rest)))

children_of_tree : (tree : Root) → keys_of Children tree ≡ node_keys tree.place (bare tree.children)
children_of_tree tree =
    let regroup : (map prop_mark tree.properties ++ (marks_of_nodes tree.children ++ end_mark ∷ [])) ++ last_mark ∷ []
    ≡ map prop_mark tree.properties ++ (marks_of_nodes tree.children ++ end_mark ∷ last_mark ∷ []) = simp append_assoc in
    ap (keys_in Children (tree.place ∷ [])) regroup
    ∙ no_own tree.place [] tree.properties (marks_of_nodes tree.children ++ end_mark ∷ last_mark ∷ [])
    ∙ children_read tree.place [] tree.children (end_mark ∷ last_mark ∷ [])
    ∙ append-nil (node_keys tree.place (bare tree.children))

-- ---- the properties behind each BEGIN_NODE

left_properties : (properties : List Property) (nodes : Nodes) (rest : List Mark)
    → (left_by (map prop_mark properties ++ (marks_of_nodes nodes ++ end_mark ∷ rest))).properties ≡ properties
left_properties [] no_nodes rest = refl
left_properties [] (node place name properties children siblings) rest = refl
left_properties (p ∷ properties) nodes rest = ap (λ (ps : List Property). p ∷ ps) (left_properties properties nodes rest)

behind_properties : (properties : List Property) (rest : List Mark) → AreDistinctInEach (map prop_mark properties ++ rest) ≡ AreDistinctInEach rest
behind_properties [] rest = refl
behind_properties (p ∷ properties) rest = behind_properties properties rest

-- a node's own, those of what is below it, and those of what comes behind it
record InNode (properties : List Property) (children siblings : Nodes) (rest : List Mark) : Type 0 where
  pub own : AreDistinct (property_names properties)
  pub below : AreDistinctInEach (marks_of_nodes children ++ end_mark ∷ (marks_of_nodes siblings ++ rest))

in_node : (place : ℕ) (name : Name) (properties : List Property) (children siblings : Nodes) (rest : List Mark)
    → AreDistinctInEach (marks_of_nodes (node place name properties children siblings) ++ rest) ↔ InNode properties children siblings rest
in_node place name properties children siblings rest =
    let regroup : (map prop_mark properties ++ (marks_of_nodes children ++ end_mark ∷ marks_of_nodes siblings)) ++ rest
    ≡ map prop_mark properties ++ (marks_of_nodes children ++ end_mark ∷ (marks_of_nodes siblings ++ rest)) = simp append_assoc in
    let own : (left_by ((map prop_mark properties ++ (marks_of_nodes children ++ end_mark ∷ marks_of_nodes siblings)) ++ rest)).properties ≡ properties
    = ap (λ (x : List Mark). (left_by x).properties) regroup ∙ left_properties properties children (marks_of_nodes siblings ++ rest) in
    let below : AreDistinctInEach ((map prop_mark properties ++ (marks_of_nodes children ++ end_mark ∷ marks_of_nodes siblings)) ++ rest)
    ≡ AreDistinctInEach (marks_of_nodes children ++ end_mark ∷ (marks_of_nodes siblings ++ rest))
    = ap AreDistinctInEach regroup ∙ behind_properties properties (marks_of_nodes children ++ end_mark ∷ (marks_of_nodes siblings ++ rest)) in (
      λ d. record { own = subst (λ (ps : List Property). AreDistinct (property_names ps)) own d.0; below = subst (λ (T : Type 0). T) below d.1 },
      λ n. (subst (λ (ps : List Property). AreDistinct (property_names ps)) (sym own) n.own, subst (λ (T : Type 0). T) (sym below) n.below),
    )

-- what comes behind some nodes
behind_nodes : (nodes : Nodes) (rest : List Mark) → AreDistinctInEach (marks_of_nodes nodes ++ rest) → AreDistinctInEach rest
behind_nodes no_nodes rest d = d
behind_nodes (node place name properties children siblings) rest d =
    let n = (in_node place name properties children siblings rest).0 d in
    behind_nodes siblings rest (behind_nodes children (end_mark ∷ (marks_of_nodes siblings ++ rest)) n.below)

own_of_each : (nodes : Nodes) (rest : List Mark) → AreDistinctInEach (marks_of_nodes nodes ++ rest)
    → (place : ℕ) (parts : Parts) → HasBelow nodes place parts → AreDistinct (property_names parts.properties)
own_of_each no_nodes rest d place parts h = absurd h
own_of_each (node other name properties children siblings) rest d place parts h =
    let n = (in_node other name properties children siblings rest).0 d in
    elim h [
      | inl here ↦ subst (λ (p : Parts). AreDistinct (property_names p.properties)) here.1 n.own
      | inr further ↦ elim further [
        | inl inside ↦ own_of_each children (end_mark ∷ (marks_of_nodes siblings ++ rest)) n.below place parts inside
        | inr after ↦ own_of_each siblings rest (behind_nodes children (end_mark ∷ (marks_of_nodes siblings ++ rest)) n.below) place parts after
      ]
    ]

each_of_own : (nodes : Nodes) (rest : List Mark) → ((place : ℕ) (parts : Parts) → HasBelow nodes place parts → AreDistinct (property_names parts.properties))
    → AreDistinctInEach rest → AreDistinctInEach (marks_of_nodes nodes ++ rest)
each_of_own no_nodes rest h d = d
each_of_own (node place name properties children siblings) rest h d =
    let after = each_of_own siblings rest (λ k p b. h k p (inr (inr b))) d in
    (in_node place name properties children siblings rest).1 (record {
      own = h place (record { name = name; properties = properties; children = children; siblings = siblings }) (inl (refl, refl));
      below = each_of_own children (end_mark ∷ (marks_of_nodes siblings ++ rest)) (λ k p b. h k p (inr (inl b))) after;
    })

-- ---- a tree's

children_of_each : (owner : ℕ) (nodes : Nodes) → AreDistinct (node_keys owner (bare nodes))
    → (place : ℕ) (parts : Parts) → HasBelow nodes place parts → AreDistinct (head_names (heads_of parts.children))
children_of_each owner no_nodes d place parts h = absurd h
children_of_each owner (node other name properties children siblings) d place parts h =
    let inner = distinct-front (node_keys other (bare children)) (node_keys owner (bare siblings)) d.1 in
    let later = distinct-back (node_keys other (bare children)) (node_keys owner (bare siblings)) d.1 in
    elim h [
      | inl here ↦ subst (λ (p : Parts). AreDistinct (head_names (heads_of p.children))) here.1
          (subst (λ (T : Type 0). T) (bare_names children) (sibling_names other (bare children) inner))
      | inr further ↦ elim further [
        | inl inside ↦ children_of_each other children inner place parts inside
        | inr after ↦ children_of_each owner siblings later place parts after
      ]
    ]

-- the root's properties, and what is below it
of_root : (tree : Root) → AreDistinctInEach (marks_of tree ++ last_mark ∷ []) ↔ InNode tree.properties tree.children no_nodes (last_mark ∷ [])
of_root tree = in_node_of_root
  where
    regroup : (map prop_mark tree.properties ++ (marks_of_nodes tree.children ++ end_mark ∷ [])) ++ last_mark ∷ []
        ≡ map prop_mark tree.properties ++ (marks_of_nodes tree.children ++ end_mark ∷ (last_mark ∷ []))
    regroup = simp append_assoc

    in_node_of_root : AreDistinctInEach (marks_of tree ++ last_mark ∷ []) ↔ InNode tree.properties tree.children no_nodes (last_mark ∷ [])
    in_node_of_root =
        let own = ap (λ (x : List Mark). (left_by x).properties) regroup ∙ left_properties tree.properties tree.children (last_mark ∷ []) in
        let below = ap AreDistinctInEach regroup ∙ behind_properties tree.properties (marks_of_nodes tree.children ++ end_mark ∷ (last_mark ∷ [])) in (
          λ d. record { own = subst (λ (ps : List Property). AreDistinct (property_names ps)) own d.0; below = subst (λ (T : Type 0). T) below d.1 },
          λ n. (subst (λ (ps : List Property). AreDistinct (property_names ps)) (sym own) n.own, subst (λ (T : Type 0). T) (sym below) n.below),
        )

apart_to_names : (tree : Root) → AreDistinct (keys_of Children tree) → AreDistinctInEach (marks_of tree ++ last_mark ∷ []) → HasDistinctNames tree
apart_to_names tree c e place parts is =
    let kids = subst AreDistinct (children_of_tree tree) c in
    let root = (of_root tree).0 e in
    elim (chosen (eqb tree.place place) _ _ _ is) [
      | inl here ↦ subst AreDistinctParts (same_Some _ parts here.1)
          (record { properties = root.own; children = subst (λ (T : Type 0). T) (bare_names tree.children) (sibling_names tree.place (bare tree.children) kids) })
      | inr further ↦ (
          let below = found_below place tree.children parts further.1 in
          record {
            properties = own_of_each tree.children (end_mark ∷ (last_mark ∷ [])) root.below place parts below;
            children = children_of_each tree.place tree.children kids place parts below;
          }
          )
    ]

names_to_children : (tree : Root) → HasRisingPlaces tree → HasDistinctNames tree → AreDistinct (keys_of Children tree)
names_to_children tree rising h =
    let parts = h tree.place (record { name = []; properties = tree.properties; children = tree.children; siblings = no_nodes }) (root_is_node tree) in
    let below : (place : ℕ) (parts : Parts) → HasBelow (bare tree.children) place parts → AreDistinctParts parts
    = λ place parts b.
    (let of = bare_below tree.children place parts b in
    let all = h place of.whole (below_is_node tree place of.whole rising of.below) in
    record {
      properties = subst (λ (ps : List Property). AreDistinct (property_names ps)) (sym of.bare_properties) tt;
      children = subst (λ (nodes : Nodes). AreDistinct (head_names (heads_of nodes))) (sym of.bare_children) (subst (λ (T : Type 0). T) (sym (bare_names of.whole.children)) all.children);
    }) in
    subst AreDistinct (sym (children_of_tree tree))
    (keys_apart tree.place (bare tree.children) (tree.place + 1) rising.high (bare_rise tree.children (tree.place + 1) rising.high rising.rise) (omega arith)
    (subst (λ (T : Type 0). T) (sym (bare_names tree.children)) parts.children) below)

names_to_each : (tree : Root) → HasRisingPlaces tree → HasDistinctNames tree → AreDistinctInEach (marks_of tree ++ last_mark ∷ [])
names_to_each tree rising h =
    let parts = h tree.place (record { name = []; properties = tree.properties; children = tree.children; siblings = no_nodes }) (root_is_node tree) in
    (of_root tree).1 (record {
      own = parts.properties;
      below = each_of_own tree.children (end_mark ∷ (last_mark ∷ [])) (λ k p b. (h k p (below_is_node tree k p rising b)).properties) tt;
    })

pub names_apart : (tree : Root) → HasRisingPlaces tree
    → (AreDistinct (keys_of Children tree) × AreDistinctInEach (marks_of tree ++ last_mark ∷ [])) ↔ HasDistinctNames tree
names_apart tree rising = (λ d. apart_to_names tree d.0 d.1, λ h. (names_to_children tree rising h, names_to_each tree rising h))
