-- A tree by its numbers is read as it is with them for places.
use Rattle.std.proofs.Common.{◌≡◌, ◌≢◌, ℕ, zero, suc, ◌<◌, ◌^◌, Bool, true, false, cond, eqb, List, [], ◌∷◌, ◌++◌, map, drop, length, Option, Some, None, is_some, codes, refl, sym, ap, subst, ◌∙◌, arith}
use Rattle.std.specs.Prelude.{IfSome, option_map, option_and_then, ◌↔◌}
use Rattle.std.specs.List.{AllByRecursion}
use Rattle.std.specs.Int.{w32, from_be_bytes}
use Rattle.std.specs.Str.{bytes_eq}
use Rattle.std.proofs.lemmas.Nat.{from_be_bytes-to_be_bytes_4}
use Rattle.std.proofs.lemmas.Slice.Eq.{bytes_eq-Decides}
use Rattle.dt_model.specs.Meaning.{cell}
use Rattle.dt_model.specs.Names.{Name}
use Rattle.dt_model.specs.Path.{Path}
use Rattle.dt_model.specs.Tree.{Forest, branch, Reading, Node, node_at, nodes_of, value_of, value_in}
use Rattle.dt_model.specs.Valid.{AreDistinct, names, node_count}
use Rattle.dt_model.proofs.Preorder.{length-preorder}
use Rattle.dt_flat.specs.Arena.{Arena, Slot, Child, IsRooted, children_among, children, named_among, named_children, child_of, children_behind, first_node, properties, parent_of, name_of, node_from, phandle_at, number_of_value, forest_among, below, reading}
use Rattle.dt_flat.specs.Sound.{AreCells}
use Rattle.dt_flat.proofs.ByPath.{first_slot, reading_at}
use Rattle.dt_flat.proofs.Counting.{nodes-counted}
use Rattle.dt_flat.proofs.Descent.{path-same, path-within, path-further}
use Rattle.dt_flat.proofs.Edges.{edge}
use Rattle.dt_trees.specs.Placed.{node, forest_of, PlacedTree, reading_of, place_below, place_of, path_at, properties_at, properties_found, names_under, last_name, child_names, first_place_of, names_behind, IsAt, IsNode, HasPlacesApart}
use Rattle.dt_trees.proofs.NamesBehind.{differs, behind_all}
use Rattle.dt_trees.proofs.NodePlaces.{path_is, at_node}
use Rattle.dt_resolve_model.specs.Above.{front}
use Rattle.dt_trees.specs.Trees.{nodes_among, nodes_below, numbered_tree}
use Rattle.dt_trees.specs.Views.{HasNumber, first_child_of, next_sibling_of, IsAbove}
use Rattle.dt_trees.proofs.LookedUp.{IsLookedUp}
use Rattle.dt_trees.proofs.Steps.{first}

-- ---- the same tree

forest_same : (i : ℕ) (ns : List Slot) (p : ℕ) → forest_of (nodes_among i ns p) ≡ forest_among i ns p
forest_same i [] p = refl
forest_same i (n ∷ ns) p = by (eqb n.parent p) (forest_same (suc i) ns i) (forest_same (suc i) ns p)
  where
    by : (b : Bool) → forest_of (nodes_among (suc i) ns i) ≡ forest_among (suc i) ns i → forest_of (nodes_among (suc i) ns p) ≡ forest_among (suc i) ns p
        → forest_of (cond b (node i n.name n.properties (nodes_among (suc i) ns i) (nodes_among (suc i) ns p)) (nodes_among (suc i) ns p)) ≡ cond b (branch n.name n.properties (forest_among (suc i) ns i) (forest_among (suc i) ns p)) (forest_among (suc i) ns p)
    by true e f = λ j. branch n.name n.properties (e j) (f j)
    by false e f = f

abbrev with_children : Arena → Forest → Reading
with_children a f = record { boot_cpu = a.boot_cpu; reservations = a.reservations; properties = properties a.slots 0; children = f }

pub reads_same : (a : Arena) → reading_of (numbered_tree a) ≡ reading a
reads_same a = ap (with_children a) (forest_same 1 (drop 1 a.slots) 0)

among : (slots : List Slot) (x : Name) (q : Path) → ((j : ℕ) → place_below j (nodes_below slots j) q ≡ node_from slots j q) → (i : ℕ) (ns : List Slot) (p at : ℕ) → drop i slots ≡ ns
    → place_below at (nodes_among i ns p) (x ∷ q) ≡ option_and_then (λ c. node_from slots c q) (child_of (named_among i ns p) x)
among slots x q inside i [] p at e = refl
among slots x q inside i (n ∷ ns) p at e =
    by (eqb n.parent p) (bytes_eq x n.name) (among slots x q inside (suc i) ns p at (first_slot slots i n ns e).1)
  where
    own : place_below i (nodes_among (suc i) ns i) q ≡ node_from slots i q
    own = ap (λ (ms : List Slot). place_below i (nodes_among (suc i) ms i) q) (sym (first_slot slots i n ns e).1) ∙ inside i

    by : (b c : Bool) → place_below at (nodes_among (suc i) ns p) (x ∷ q) ≡ option_and_then (λ c. node_from slots c q) (child_of (named_among (suc i) ns p) x)
        → place_below at (cond b (node i n.name n.properties (nodes_among (suc i) ns i) (nodes_among (suc i) ns p)) (nodes_among (suc i) ns p)) (x ∷ q)
        ≡ option_and_then (λ c. node_from slots c q) (child_of (cond b (record { name = n.name; node = i } ∷ named_among (suc i) ns p) (named_among (suc i) ns p)) x)
    by false c more = more
    by true c more = named c (bytes_eq x n.name) refl more
      where
        named : (c d : Bool) → bytes_eq x n.name ≡ d → place_below at (nodes_among (suc i) ns p) (x ∷ q) ≡ option_and_then (λ c. node_from slots c q) (child_of (named_among (suc i) ns p) x)
            → place_below at (node i n.name n.properties (nodes_among (suc i) ns i) (nodes_among (suc i) ns p)) (x ∷ q)
            ≡ option_and_then (λ c. node_from slots c q) (child_of (record { name = n.name; node = i } ∷ named_among (suc i) ns p) x)
        named c true is more = rw is own
        named c false is more = rw is more

down : (slots : List Slot) (q : Path) (i : ℕ) → place_below i (nodes_below slots i) q ≡ node_from slots i q
down slots [] i = refl
down slots (x ∷ q) i = among slots x q (down slots q) (suc i) (drop (suc i) slots) i i refl

pub place_same : (a : Arena) (p : Path) → place_of (numbered_tree a) p ≡ node_from a.slots 0 p
place_same a p = down a.slots p 0

pub apart : (a : Arena) → IsRooted a.slots → HasPlacesApart (numbered_tree a)
apart a rooted p q k e f = path-same a.slots p q 0 k rooted (sym (place_same a p) ∙ e) (sym (place_same a q) ∙ f)

-- ---- nodes and their numbers

pub stands : (a : Arena) → IsRooted a.slots → (k : ℕ) → (p : Path) × (node_from a.slots 0 p ≡ Some k) → IsNode (numbered_tree a) k
stands a rooted k p = at_node (numbered_tree a) (apart a rooted) p.0 k (place_same a p.0 ∙ p.1)

pub reached : (a : Arena) (k : ℕ) → IsNode (numbered_tree a) k → node_from a.slots 0 (path_at (numbered_tree a) k) ≡ Some k
reached a k is = sym (place_same a (path_at (numbered_tree a) k)) ∙ is

pub within : (a : Arena) → IsRooted a.slots → (k : ℕ) → IsNode (numbered_tree a) k → k < length a.slots
within a rooted k is = path-within a.slots (path_at (numbered_tree a) k) 0 k rooted.some (reached a k is)

-- a step that gave a value
passed_on : (f : ℕ → Option ℕ) (o : Option ℕ) (k : ℕ) → option_and_then f o ≡ Some k → (c : ℕ) × (o ≡ Some c) × (f c ≡ Some k)
passed_on f None k e = absurd cc
passed_on f (Some c) k e = (c, refl, e)

name_last : (slots : List Slot) (x : Name) (q : Path) (i k : ℕ) → node_from slots i (x ∷ q) ≡ Some k → name_of slots k ≡ last_name (x ∷ q)
name_last slots x [] i k e =
    let s = passed_on (λ c. Some c) (child_of (named_children slots i) x) k e in
    let same : s.0 ≡ k = cc in
    ap (name_of slots) (sym same) ∙ (edge slots i x s.0 s.1).name
name_last slots x (y ∷ q) i k e = let s = passed_on (λ c. node_from slots c (y ∷ q)) (child_of (named_children slots i) x) k e in name_last slots y q s.0 k s.2

pub named_so : (a : Arena) → IsRooted a.slots → (p : Path) (k : ℕ) → node_from a.slots 0 p ≡ Some k → name_of a.slots k ≡ last_name p
named_so a rooted [] k e = let root : 0 ≡ k = cc in ap (name_of a.slots) (sym root) ∙ rooted.unnamed
named_so a rooted (x ∷ p) k e = name_last a.slots x p 0 k e

parent_last : (slots : List Slot) (x : Name) (q : Path) (i k : ℕ) → node_from slots i (x ∷ q) ≡ Some k → node_from slots i (front (x ∷ q)) ≡ Some (parent_of slots k)
parent_last slots x [] i k e =
    let s = passed_on (λ c. Some c) (child_of (named_children slots i) x) k e in
    let same : s.0 ≡ k = cc in
    ap (λ (n : ℕ). Some n) (sym (edge slots i x s.0 s.1).parent ∙ ap (parent_of slots) same)
parent_last slots x (y ∷ q) i k e =
    let s = passed_on (λ c. node_from slots c (y ∷ q)) (child_of (named_children slots i) x) k e in
    ap (λ (o : Option ℕ). option_and_then (λ c. node_from slots c (front (y ∷ q))) o) s.1 ∙ parent_last slots y q s.0 k s.2

-- only the root has the number 0
pub below_root : (a : Arena) → IsRooted a.slots → (x : Name) (p : Path) (k : ℕ) → node_from a.slots 0 (x ∷ p) ≡ Some k → 0 < k
below_root a rooted x p k e = by k refl
  where
    by : (n : ℕ) → k ≡ n → 0 < k
    by zero is = let same : [] ≡ x ∷ p = path-same a.slots [] (x ∷ p) 0 0 rooted refl (e ∙ ap (λ (n : ℕ). Some n) is) in absurd cc
    by (suc n) is = omega (arith, is)

-- ---- what a node has

abbrev has : List Slot → ℕ → Node
has slots k = record { properties = properties slots k; children = below slots k }

content : (a : Arena) (p : Path) (k : ℕ) → node_from a.slots 0 p ≡ Some k → node_at (reading_of (numbered_tree a)) p ≡ Some (has a.slots k)
content a p k e = ap (λ (t : Reading). node_at t p) (reads_same a) ∙ reading_at a p ∙ ap (λ (o : Option ℕ). option_map (has a.slots) o) e

pub value_at : (a : Arena) (k : ℕ) (name : Name) → IsNode (numbered_tree a) k → value_of (properties a.slots k) name ≡ value_in (reading_of (numbered_tree a)) (path_at (numbered_tree a) k) name
value_at a k name is = sym (ap (λ (o : Option Node). option_and_then (λ n. value_of n.properties name) o) (content a (path_at (numbered_tree a) k) k (reached a k is)))

pub properties_same : (a : Arena) (k : ℕ) → IsNode (numbered_tree a) k → properties a.slots k ≡ properties_at (numbered_tree a) (path_at (numbered_tree a) k)
properties_same a k is = sym (ap properties_found (content a (path_at (numbered_tree a) k) k (reached a k is)))

names_same : (i : ℕ) (ns : List Slot) (p : ℕ) → names (forest_among i ns p) ≡ map (λ c. c.name) (named_among i ns p)
names_same i [] p = refl
names_same i (n ∷ ns) p = by (eqb n.parent p) (names_same (suc i) ns p)
  where
    by : (b : Bool) → names (forest_among (suc i) ns p) ≡ map (λ c. c.name) (named_among (suc i) ns p)
        → names (cond b (branch n.name n.properties (forest_among (suc i) ns i) (forest_among (suc i) ns p)) (forest_among (suc i) ns p)) ≡ map (λ c. c.name) (cond b (record { name = n.name; node = i } ∷ named_among (suc i) ns p) (named_among (suc i) ns p))
    by true e = ap (λ (xs : List Name). n.name ∷ xs) e
    by false e = e

children_named : (a : Arena) (p : Path) (k : ℕ) → node_from a.slots 0 p ≡ Some k → child_names (numbered_tree a) p ≡ map (λ c. c.name) (named_children a.slots k)
children_named a p k e = ap names_under (content a p k e) ∙ names_same (suc k) (drop (suc k) a.slots) k

pub child_at : (a : Arena) (p : Path) (k : ℕ) (x : Name) → node_from a.slots 0 p ≡ Some k → place_of (numbered_tree a) (p ++ x ∷ []) ≡ child_of (named_children a.slots k) x
child_at a p k x e = place_same a (p ++ x ∷ []) ∙ path-further a.slots p 0 x ∙ ap (λ (o : Option ℕ). option_and_then (λ i. child_of (named_children a.slots i) x) o) e

-- ---- the first of some children, by their names

abbrev first_by : (Name → Option ℕ) → List Name → Option ℕ
first_by f [] = None
first_by f (x ∷ xs) = f x

first_by_same : (f g : Name → Option ℕ) (xs : List Name) → ((x : Name) → f x ≡ g x) → first_by f xs ≡ first_by g xs
first_by_same f g [] e = refl
first_by_same f g (x ∷ xs) e = e x

-- a first child that isn't one of these
first_passed : (c : Child) (cs : List Child) (xs : List Name) → AllByRecursion (λ y. y ≢ c.name) xs → first_by (child_of cs) xs ≡ first_by (child_of (c ∷ cs)) xs
first_passed c cs [] a = refl
first_passed c cs (x ∷ xs) a = rw (differs x c.name a.0) refl

own_first : (cs : List Child) → first_node cs ≡ first_by (child_of cs) (map (λ c. c.name) cs)
own_first [] = refl
own_first (c ∷ cs) = let same : bytes_eq c.name c.name ≡ true = (bytes_eq-Decides c.name c.name).1 refl in rw same refl

behind_first : (cs : List Child) (x : Name) → AreDistinct (map (λ c. c.name) cs) → first_node (children_behind x cs) ≡ first_by (child_of cs) (names_behind x (map (λ c. c.name) cs))
behind_first [] x d = refl
behind_first (c ∷ cs) x d = by (bytes_eq x c.name) (behind_first cs x d.1)
  where
    by : (b : Bool) → first_node (children_behind x cs) ≡ first_by (child_of cs) (names_behind x (map (λ c. c.name) cs))
        → first_node (cond b cs (children_behind x cs)) ≡ first_by (child_of (c ∷ cs)) (cond b (map (λ c. c.name) cs) (names_behind x (map (λ c. c.name) cs)))
    by true e = own_first cs ∙ first_passed c cs (map (λ c. c.name) cs) d.0
    by false e = e ∙ first_passed c cs (names_behind x (map (λ c. c.name) cs)) (behind_all (λ y. y ≢ c.name) x (map (λ c. c.name) cs) d.0)

first_placed : (t : PlacedTree) (p : Path) (xs : List Name) → first_by (λ x. place_of t (p ++ x ∷ [])) xs ≡ first_place_of t p xs
first_placed t p [] = refl
first_placed t p (x ∷ xs) = refl

first_at : (a : Arena) (p : Path) (k : ℕ) (xs : List Name) → node_from a.slots 0 p ≡ Some k → first_by (child_of (named_children a.slots k)) xs ≡ first_place_of (numbered_tree a) p xs
first_at a p k xs e =
    first_by_same (child_of (named_children a.slots k)) (λ x. place_of (numbered_tree a) (p ++ x ∷ [])) xs (λ x. sym (child_at a p k x e))
    ∙ first_placed (numbered_tree a) p xs

-- the first of the numbers of some children
pub first_of_numbers : (a : Arena) (k : ℕ) → first (children a.slots k) ≡ first_node (named_children a.slots k)
first_of_numbers a k = numbers_first (suc k) (drop (suc k) a.slots)
  where
    numbers_first : (i : ℕ) (ns : List Slot) → first (children_among i ns k) ≡ first_node (named_among i ns k)
    numbers_first i [] = refl
    numbers_first i (n ∷ ns) = by (eqb n.parent k) (numbers_first (suc i) ns)
      where
        by : (b : Bool) → first (children_among (suc i) ns k) ≡ first_node (named_among (suc i) ns k)
            → first (cond b (i ∷ children_among (suc i) ns k) (children_among (suc i) ns k)) ≡ first_node (cond b (record { name = n.name; node = i } ∷ named_among (suc i) ns k) (named_among (suc i) ns k))
        by true e = refl
        by false e = e

pub first_child_at : (a : Arena) (k : ℕ) → IsNode (numbered_tree a) k → first_node (named_children a.slots k) ≡ first_child_of (numbered_tree a) (path_at (numbered_tree a) k)
first_child_at a k is =
    let t = numbered_tree a in
    let p = path_at t k in
    own_first (named_children a.slots k)
    ∙ first_at a p k (map (λ c. c.name) (named_children a.slots k)) (reached a k is)
    ∙ ap (λ (xs : List Name). first_place_of t p xs) (sym (children_named a p k (reached a k is)))

-- the sibling behind a node that is not the root
sibling_on : (a : Arena) → IsRooted a.slots → ((i : ℕ) → AreDistinct (map (λ c. c.name) (named_children a.slots i))) → (x : Name) (p : Path) (k : ℕ) → node_from a.slots 0 (x ∷ p) ≡ Some k
    → first_node (children_behind (name_of a.slots k) (named_children a.slots (parent_of a.slots k))) ≡ next_sibling_of (numbered_tree a) (x ∷ p)
sibling_on a rooted distinct x p k e =
    let above = parent_of a.slots k in
    let cs = named_children a.slots above in
    let up = parent_last a.slots x p 0 k e in
    behind_first cs (name_of a.slots k) (distinct above)
    ∙ first_at a (front (x ∷ p)) above (names_behind (name_of a.slots k) (map (λ c. c.name) cs)) up
    ∙ (λ i. first_place_of (numbered_tree a) (front (x ∷ p)) (names_behind (name i) (named i)))
  where
    name : name_of a.slots k ≡ last_name (x ∷ p)
    name = named_so a rooted (x ∷ p) k e

    named : map (λ c. c.name) (named_children a.slots (parent_of a.slots k)) ≡ child_names (numbered_tree a) (front (x ∷ p))
    named = sym (children_named a (front (x ∷ p)) (parent_of a.slots k) (parent_last a.slots x p 0 k e))

pub sibling_at : (a : Arena) → IsRooted a.slots → ((i : ℕ) → AreDistinct (map (λ c. c.name) (named_children a.slots i))) → (k : ℕ) (r : Option ℕ) → IsNode (numbered_tree a) k → (k ≡ 0 → r ≡ None)
    → (0 < k → r ≡ first_node (children_behind (name_of a.slots k) (named_children a.slots (parent_of a.slots k)))) → r ≡ next_sibling_of (numbered_tree a) (path_at (numbered_tree a) k)
sibling_at a rooted distinct k r is root below = by (path_at (numbered_tree a) k) (reached a k is)
  where
    by : (p : Path) → node_from a.slots 0 p ≡ Some k → r ≡ next_sibling_of (numbered_tree a) p
    by [] e = root (let same : 0 ≡ k = cc in sym same)
    by (x ∷ p) e = below (below_root a rooted x p k e) ∙ sibling_on a rooted distinct x p k e

pub above_at : (a : Arena) → IsRooted a.slots → (k : ℕ) (r : Option ℕ) → IsNode (numbered_tree a) k → (k ≡ 0 → r ≡ None) → (0 < k → r ≡ Some (parent_of a.slots k)) → IsAbove (numbered_tree a) k r
above_at a rooted k r is root below = by (path_at (numbered_tree a) k) refl (reached a k is)
  where
    t : PlacedTree
    t = numbered_tree a

    by : (p : Path) → path_at t k ≡ p → node_from a.slots 0 p ≡ Some k → IsAbove t k r
    by [] same e = subst (IsAbove t k) (sym (root (let is' : 0 ≡ k = cc in sym is'))) same
    by (x ∷ p) same e =
        let at : IsAt t (front (x ∷ p)) (parent_of a.slots k) = place_same a (front (x ∷ p)) ∙ parent_last a.slots x p 0 k e in
        subst (IsAbove t k) (sym (below (below_root a rooted x p k e))) (
          at_node t (apart a rooted) (front (x ∷ p)) (parent_of a.slots k) at,
          path_is t (apart a rooted) (front (x ∷ p)) (parent_of a.slots k) at ∙ ap front (sym same),
          λ none. (let no : [] ≡ x ∷ p = sym none ∙ same in cc),
        )

-- ---- numbers

-- a value of four bytes that is the cell of its number
number_cell : (o : Option (List ℕ)) (n : ℕ) → number_of_value o ≡ Some n → ((value : List ℕ) → o ≡ Some value → value ≡ cell (from_be_bytes w32 value)) → o ≡ Some (cell n)
number_cell None n e cells = absurd cc
number_cell (Some value) n e cells = by (eqb (length value) 4) e
  where
    by : (b : Bool) → cond b (Some (from_be_bytes w32 value)) None ≡ Some n → Some value ≡ Some (cell n)
    by false f = absurd cc
    by true f = let is : from_be_bytes w32 value ≡ n = cc in ap (λ (v : List ℕ). Some v) (cells value refl ∙ ap cell is)

pub has_number : (a : Arena) (k n : ℕ) → AreCells a.slots → IsNode (numbered_tree a) k → phandle_at a.slots k ≡ Some n → HasNumber (numbered_tree a) k n
has_number a k n cells is e = sym (value_at a k (codes "phandle") is) ∙ number_cell (value_of (properties a.slots k) (codes "phandle")) n e (cells k)

pub number_had : (a : Arena) (k n : ℕ) → n < 2 ^ 32 → IsNode (numbered_tree a) k → HasNumber (numbered_tree a) k n → phandle_at a.slots k ≡ Some n
number_had a k n low is e =
    ap number_of_value (value_at a k (codes "phandle") is ∙ e) ∙ ap (λ (m : ℕ). Some m) (from_be_bytes-to_be_bytes_4 n low)

pub is_looked_up : (a : Arena) → IsRooted a.slots → AreCells a.slots → ((k : ℕ) → k < length a.slots → (p : Path) × (node_from a.slots 0 p ≡ Some k)) → (n : ℕ) → n < 2 ^ 32 → (r : Option ℕ)
    → ((k : ℕ) → (r ≡ Some k) ↔ (phandle_at a.slots k ≡ Some n)) → IfSome r (λ k. k < length a.slots) → IsLookedUp (numbered_tree a) n r
is_looked_up a rooted cells paths n low r value there = record {
  has = λ k is. (
      let here = stands a rooted k (paths k (subst (λ (o : Option ℕ). IfSome o (λ i. i < length a.slots)) is there)) in
      (here, has_number a k n cells here ((value k).0 is)));
  found = λ k is own. ap is_some ((value k).1 (number_had a k n low is own));
}

pub counted : (a : Arena) → IsRooted a.slots → length a.slots ≡ length (nodes_of (reading_of (numbered_tree a)))
counted a rooted =
    let all = nodes-counted a rooted in
    let listed : length (nodes_of (reading a)) ≡ suc (node_count (reading a).children) = ap suc (length-preorder [] (reading a).children) in
    let same = ap (λ (t : Reading). length (nodes_of t)) (reads_same a) in
    omega arith
