-- The keys of a tree's names all differ exactly where the names in each node do, since each place is one node's.
use Rattle.std.proofs.Common.{◌↔◌, ◌≡◌, ◌≢◌, ◌⊎◌, ℕ, ◌+◌, ◌<◌, ◌≤◌, List, [], ◌∷◌, ◌++◌, map, refl, sym, ap, subst, ◌∙◌, append_assoc, arith, inl, inr}
use Rattle.std.specs.List.{AllByRecursion}
use Rattle.std.proofs.Math.Dec.{eqb}
use Rattle.std.proofs.lemmas.List.{append-nil}
use Rattle.std.proofs.lemmas.Option.{same_Some}
use Rattle.dt_model.specs.Names.{Name}
use Rattle.dt_model.specs.Tree.{Property}
use Rattle.dt_model.specs.Valid.{AreDistinct}
use Rattle.dt_flat.proofs.Distinctness.{Apart, all-append, all-back, distinct-append, distinct-front, distinct-back, apart-right}
use Rattle.dt_trees.specs.Placed.{Nodes, no_nodes, node}
use Rattle.dt_read.specs.Marks.{Mark, end_mark, prop_mark, last_mark, Root, marks_of_nodes}
use Rattle.dt_read.specs.TreeTokens.{Parts, heads_of}
use Rattle.dt_read.specs.Order.{Rise, HasRisingPlaces}
use Rattle.dt_read.specs.Distinct.{property_names, head_names, AreDistinctParts, HasDistinctNames}
use Rattle.dt_read.specs.Keys.{Key, number_of, keys_in, keys_of}
use Rattle.dt_read.specs.declared.keys.Sort.TheVariants as sorts
use Rattle.dt_read.specs.declared.keys.Wanted.TheVariants.{Names}
use Rattle.dt_read.proofs.Tokens.{chosen}
use Rattle.dt_read.proofs.Ordering.{HasBelow, found_below, rise_bounds}
use Rattle.dt_read.proofs.Apart.{below_is_node, root_is_node}

-- ---- the keys of nodes

abbrev pub child_key : ℕ → Name → Key
child_key owner name = record { sort = sorts.Child; owner = owner; bytes = name }

abbrev pub property_key : ℕ → Property → Key
property_key owner p = record { sort = sorts.Property; owner = owner; bytes = p.name }

abbrev pub own_keys : ℕ → List Property → List Key
own_keys owner properties = map (property_key owner) properties

-- those of siblings, whose parent has that place, and of all below them
abbrev pub node_keys : ℕ → Nodes → List Key
node_keys owner no_nodes = []
node_keys owner (node place name properties children siblings) =
    child_key owner name ∷ (own_keys place properties ++ (node_keys place children ++ node_keys owner siblings))

own_read : (owner : ℕ) (open_nodes : List ℕ) (properties : List Property) (rest : List Mark)
    → keys_in Names (owner ∷ open_nodes) (map prop_mark properties ++ rest) ≡ own_keys owner properties ++ keys_in Names (owner ∷ open_nodes) rest
own_read owner open_nodes [] rest = refl
own_read owner open_nodes (p ∷ properties) rest = ap (λ (ks : List Key). property_key owner p ∷ ks) (own_read owner open_nodes properties rest)

nodes_read : (owner : ℕ) (open_nodes : List ℕ) (nodes : Nodes) (rest : List Mark)
    → keys_in Names (owner ∷ open_nodes) (marks_of_nodes nodes ++ rest) ≡ node_keys owner nodes ++ keys_in Names (owner ∷ open_nodes) rest
nodes_read owner open_nodes no_nodes rest = refl
nodes_read owner open_nodes (node place name properties children siblings) rest =
    let after = marks_of_nodes siblings ++ rest in
    let regroup : (map prop_mark properties ++ (marks_of_nodes children ++ end_mark ∷ marks_of_nodes siblings)) ++ rest
    ≡ map prop_mark properties ++ (marks_of_nodes children ++ end_mark ∷ after) = simp append_assoc in
    let inside = nodes_read place (owner ∷ open_nodes) children (end_mark ∷ after) in
    let further = nodes_read owner open_nodes siblings rest in
    let more = keys_in Names (owner ∷ open_nodes) rest in
    let grouped : own_keys place properties ++ (node_keys place children ++ (node_keys owner siblings ++ more))
    ≡ (own_keys place properties ++ (node_keys place children ++ node_keys owner siblings)) ++ more = simp append_assoc in
    ap (λ (ks : List Key). child_key owner name ∷ ks)
    (ap (keys_in Names (place ∷ owner ∷ open_nodes)) regroup
    ∙ own_read place (owner ∷ open_nodes) properties (marks_of_nodes children ++ end_mark ∷ after)
    ∙ (λ i. own_keys place properties ++ inside i)
    ∙ (λ i. own_keys place properties ++ (node_keys place children ++ further i))
    ∙ grouped)

tree_read : (tree : Root) → keys_of Names tree ≡ own_keys tree.place tree.properties ++ node_keys tree.place tree.children
tree_read tree =
    let regroup : (map prop_mark tree.properties ++ (marks_of_nodes tree.children ++ end_mark ∷ [])) ++ last_mark ∷ []
    ≡ map prop_mark tree.properties ++ (marks_of_nodes tree.children ++ end_mark ∷ last_mark ∷ []) = simp append_assoc in
    let inside = nodes_read tree.place [] tree.children (end_mark ∷ last_mark ∷ []) in
    ap (keys_in Names (tree.place ∷ [])) regroup
    ∙ own_read tree.place [] tree.properties (marks_of_nodes tree.children ++ end_mark ∷ last_mark ∷ [])
    ∙ ap (λ (ks : List Key). own_keys tree.place tree.properties ++ ks) (inside ∙ append-nil (node_keys tree.place tree.children))

-- ---- where keys differ, names differ

pub own_names : (owner : ℕ) (properties : List Property) → AreDistinct (own_keys owner properties) → AreDistinct (property_names properties)
own_names owner [] d = tt
own_names owner (p ∷ properties) d = (others properties d.0, own_names owner properties d.1)
  where
    others : (ps : List Property) → AllByRecursion (λ k. k ≢ property_key owner p) (own_keys owner ps) → AllByRecursion (λ n. n ≢ p.name) (property_names ps)
    others [] a = tt
    others (q ∷ ps) a = (λ e. a.0 (λ i. record { sort = sorts.Property; owner = owner; bytes = e i }), others ps a.1)

pub sibling_names : (owner : ℕ) (nodes : Nodes) → AreDistinct (node_keys owner nodes) → AreDistinct (head_names (heads_of nodes))
sibling_names owner no_nodes d = tt
sibling_names owner (node place name properties children siblings) d =
    let below = distinct-back (own_keys place properties) (node_keys place children ++ node_keys owner siblings) d.1 in
    let later = all-back (λ k. k ≢ child_key owner name) (own_keys place properties) (node_keys place children ++ node_keys owner siblings) d.0 in (
      others siblings (all-back (λ k. k ≢ child_key owner name) (node_keys place children) (node_keys owner siblings) later),
      sibling_names owner siblings (distinct-back (node_keys place children) (node_keys owner siblings) below),
    )
  where
    others : (nodes : Nodes) → AllByRecursion (λ k. k ≢ child_key owner name) (node_keys owner nodes)
        → AllByRecursion (λ n. n ≢ name) (head_names (heads_of nodes))
    others no_nodes a = tt
    others (node at other ps inner after) a =
        let below = all-back (λ k. k ≢ child_key owner name) (own_keys at ps) (node_keys at inner ++ node_keys owner after) a.1 in (
          λ e. a.0 (λ i. record { sort = sorts.Child; owner = owner; bytes = e i }),
          others after (all-back (λ k. k ≢ child_key owner name) (node_keys at inner) (node_keys owner after) below),
        )

names_below : (owner : ℕ) (nodes : Nodes) → AreDistinct (node_keys owner nodes)
    → (place : ℕ) (parts : Parts) → HasBelow nodes place parts → AreDistinctParts parts
names_below owner no_nodes d place parts h = absurd h
names_below owner (node other name properties children siblings) d place parts h =
    let own = distinct-front (own_keys other properties) (node_keys other children ++ node_keys owner siblings) d.1 in
    let below = distinct-back (own_keys other properties) (node_keys other children ++ node_keys owner siblings) d.1 in
    let inner = distinct-front (node_keys other children) (node_keys owner siblings) below in
    let later = distinct-back (node_keys other children) (node_keys owner siblings) below in
    elim h [
      | inl here ↦ subst AreDistinctParts here.1 (record { properties = own_names other properties own; children = sibling_names other children inner })
      | inr further ↦ elim further [
        | inl inside ↦ names_below other children inner place parts inside
        | inr after ↦ names_below owner siblings later place parts after
      ]
    ]

names_from_keys : (tree : Root) → AreDistinct (own_keys tree.place tree.properties ++ node_keys tree.place tree.children)
    → HasDistinctNames tree
names_from_keys tree d place parts e =
    let own = distinct-front (own_keys tree.place tree.properties) (node_keys tree.place tree.children) d in
    let below = distinct-back (own_keys tree.place tree.properties) (node_keys tree.place tree.children) d in
    elim (chosen (eqb tree.place place) _ _ _ e) [
      | inl root ↦ subst AreDistinctParts (same_Some _ parts root.1)
          (record { properties = own_names tree.place tree.properties own; children = sibling_names tree.place tree.children below })
      | inr further ↦ names_below tree.place tree.children below place parts (found_below place tree.children parts further.1)
    ]

-- ---- where names differ, keys differ

all_so : {X : Type 0} (P Q : X → Type 0) (xs : List X) → ((x : X) → P x → Q x) → AllByRecursion P xs → AllByRecursion Q xs
all_so P Q [] so a = tt
all_so P Q (x ∷ xs) so a = (so x a.0, all_so P Q xs so a.1)

apart_by : {X : Type 0} (P Q : X → Type 0) (xs ys : List X) → ((x y : X) → P x → Q y → y ≢ x) → AllByRecursion P xs → AllByRecursion Q ys → Apart xs ys
apart_by P Q [] ys differ a b = tt
apart_by P Q (x ∷ xs) ys differ a b = (all_so Q (λ y. y ≢ x) ys (λ y q. differ x y a.0 q) b, apart_by P Q xs ys differ a.1 b)

-- a property's key of that owner
abbrev IsOwn : ℕ → Key → Type 0
IsOwn owner k = (k.owner ≡ owner) × (number_of k.sort ≡ 1)

-- the key of that owner's child, or one whose owner lies in between
abbrev IsBelow : ℕ → ℕ → ℕ → Key → Type 0
IsBelow owner low high k = ((k.owner ≡ owner) × (number_of k.sort ≡ 0)) ⊎ ((low ≤ k.owner) × (k.owner < high))

differ : (j k : Key) → (j.owner ≡ k.owner → number_of j.sort ≡ number_of k.sort → ⊥) → j ≢ k
differ j k h e = h (ap (λ (x : Key). x.owner) e) (ap (λ (x : Key). number_of x.sort) e)

own_are : (owner : ℕ) (properties : List Property) → AllByRecursion (IsOwn owner) (own_keys owner properties)
own_are owner [] = tt
own_are owner (p ∷ properties) = ((refl, refl), own_are owner properties)

below_are : (owner : ℕ) (nodes : Nodes) (low high : ℕ) → Rise low nodes high → AllByRecursion (IsBelow owner low high) (node_keys owner nodes)
below_are owner no_nodes low high r = tt
below_are owner (node place name properties children siblings) low high r =
    let first = r.0 in
    let c = rise_bounds children (place + 1) r.1 r.2 in
    let s = rise_bounds siblings r.1 high r.3 in
    let own = all_so (IsOwn place) (IsBelow owner low high) (own_keys place properties)
    (λ k is. (let o = is.0 in inr (omega arith, omega arith))) (own_are place properties) in
    let inner = all_so (IsBelow place (place + 1) r.1) (IsBelow owner low high) (node_keys place children)
    (λ k is. elim is [ inl child ↦ (let o = child.0 in inr (omega arith, omega arith)) | inr between ↦ inr (omega arith, omega arith) ])
    (below_are place children (place + 1) r.1 r.2) in
    let later = all_so (IsBelow owner r.1 high) (IsBelow owner low high) (node_keys owner siblings)
    (λ k is. elim is [ inl child ↦ inl child | inr between ↦ inr (omega arith, omega arith) ])
    (below_are owner siblings r.1 high r.3) in (
      inl (refl, refl),
      all-append (IsBelow owner low high) (own_keys place properties) (node_keys place children ++ node_keys owner siblings) own
          (all-append (IsBelow owner low high) (node_keys place children) (node_keys owner siblings) inner later),
    )

pub own_apart : (owner : ℕ) (properties : List Property) → AreDistinct (property_names properties) → AreDistinct (own_keys owner properties)
own_apart owner [] d = tt
own_apart owner (p ∷ properties) d = (others properties d.0, own_apart owner properties d.1)
  where
    others : (ps : List Property) → AllByRecursion (λ n. n ≢ p.name) (property_names ps)
        → AllByRecursion (λ k. k ≢ property_key owner p) (own_keys owner ps)
    others [] a = tt
    others (q ∷ ps) a = (λ e. a.0 (ap (λ (k : Key). k.bytes) e), others ps a.1)

-- a child's key differs from those of what is below the child
beside : (owner : ℕ) (name : Name) (place : ℕ) (properties : List Property) (children siblings : Nodes) (middle : ℕ)
    → owner < place → Rise (place + 1) children middle
    → AllByRecursion (λ k. k ≢ child_key owner name) (node_keys owner siblings)
    → AllByRecursion (λ k. k ≢ child_key owner name) (own_keys place properties ++ (node_keys place children ++ node_keys owner siblings))
beside owner name place properties children siblings middle lt r later =
    let other = λ (k : Key). k ≢ child_key owner name in
    let own = all_so (IsOwn place) other (own_keys place properties)
    (λ k is. differ k (child_key owner name) (λ o s. omega arith)) (own_are place properties) in
    let below = all_so (IsBelow place (place + 1) middle) other (node_keys place children)
    (λ k is. differ k (child_key owner name) (λ o s. omega arith)) (below_are place children (place + 1) middle r) in
    all-append other (own_keys place properties) (node_keys place children ++ node_keys owner siblings) own
    (all-append other (node_keys place children) (node_keys owner siblings) below later)

-- and from those of later siblings
first_apart : (owner : ℕ) (name : Name) (nodes : Nodes) (low high : ℕ) → Rise low nodes high → owner < low
    → AllByRecursion (λ n. n ≢ name) (head_names (heads_of nodes)) → AllByRecursion (λ k. k ≢ child_key owner name) (node_keys owner nodes)
first_apart owner name no_nodes low high r lt a = tt
first_apart owner name (node place other properties children siblings) low high r lt a =
    let first = r.0 in
    let c = rise_bounds children (place + 1) r.1 r.2 in (
      λ e. a.0 (ap (λ (k : Key). k.bytes) e),
      beside owner name place properties children siblings r.1 (omega arith) r.2 (first_apart owner name siblings r.1 high r.3 (omega arith) a.1),
    )

pub keys_apart : (owner : ℕ) (nodes : Nodes) (low high : ℕ) → Rise low nodes high → owner < low → AreDistinct (head_names (heads_of nodes))
    → ((place : ℕ) (parts : Parts) → HasBelow nodes place parts → AreDistinctParts parts) → AreDistinct (node_keys owner nodes)
keys_apart owner no_nodes low high r lt d h = tt
keys_apart owner (node place name properties children siblings) low high r lt d h =
    let first = r.0 in
    let c = rise_bounds children (place + 1) r.1 r.2 in
    let parts = h place (record { name = name; properties = properties; children = children; siblings = siblings }) (inl (refl, refl)) in
    let own = own_are place properties in
    let below = below_are place children (place + 1) r.1 r.2 in
    let later = below_are owner siblings r.1 high r.3 in
    let inner = keys_apart place children (place + 1) r.1 r.2 (omega arith) parts.children (λ k p b. h k p (inr (inl b))) in
    let after = keys_apart owner siblings r.1 high r.3 (omega arith) d.1 (λ k p b. h k p (inr (inr b))) in
    let from_inner = apart_by (IsOwn place) (IsBelow place (place + 1) r.1) (own_keys place properties) (node_keys place children)
    (λ x y p q. differ y x (λ o s. omega arith)) own below in
    let from_after = apart_by (IsOwn place) (IsBelow owner r.1 high) (own_keys place properties) (node_keys owner siblings)
    (λ x y p q. differ y x (λ o s. omega arith)) own later in
    let within = apart_by (IsBelow place (place + 1) r.1) (IsBelow owner r.1 high) (node_keys place children) (node_keys owner siblings)
    (λ x y p q. differ y x (λ o s. omega arith)) below later in (
      beside owner name place properties children siblings r.1 (omega arith) r.2 (first_apart owner name siblings r.1 high r.3 (omega arith) d.0),
      distinct-append (own_keys place properties) (node_keys place children ++ node_keys owner siblings) (own_apart place properties parts.properties)
          (distinct-append (node_keys place children) (node_keys owner siblings) inner after within)
          (apart-right (own_keys place properties) (node_keys place children) (node_keys owner siblings) from_inner from_after),
    )

keys_from_names : (tree : Root) → HasRisingPlaces tree → HasDistinctNames tree
    → AreDistinct (own_keys tree.place tree.properties ++ node_keys tree.place tree.children)
keys_from_names tree rising h =
    let parts = h tree.place (record { name = []; properties = tree.properties; children = tree.children; siblings = no_nodes }) (root_is_node tree) in
    let below = keys_apart tree.place tree.children (tree.place + 1) rising.high rising.rise (omega arith) parts.children
    (λ k p b. h k p (below_is_node tree k p rising b)) in
    let own = own_are tree.place tree.properties in
    let later = below_are tree.place tree.children (tree.place + 1) rising.high rising.rise in
    let apart = apart_by (IsOwn tree.place) (IsBelow tree.place (tree.place + 1) rising.high) (own_keys tree.place tree.properties)
    (node_keys tree.place tree.children) (λ x y p q. differ y x (λ o s. omega arith)) own later in
    distinct-append (own_keys tree.place tree.properties) (node_keys tree.place tree.children)
    (own_apart tree.place tree.properties parts.properties) below apart

pub names_differ : (tree : Root) → HasRisingPlaces tree → AreDistinct (keys_of Names tree) ↔ HasDistinctNames tree
names_differ tree rising =
    (λ d. names_from_keys tree (subst AreDistinct (tree_read tree) d), λ h. subst AreDistinct (sym (tree_read tree)) (keys_from_names tree rising h))
