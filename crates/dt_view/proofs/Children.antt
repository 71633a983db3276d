-- The table of children, as it is filled on the way through a tree.
use Rattle.std.proofs.Common.{◌≡◌, ◌≢◌, ◌⊎◌, ℕ, ◌&&◌, nat_eq, Bool, true, false, cond, List, [], ◌∷◌, ◌++◌, map, Option, Some, None, refl, sym, ap, subst, ◌∙◌, inl, inr, append_assoc, true≢false}
use Rattle.std.specs.Prelude.{is_some}
use Rattle.std.specs.HashMap.{HashMap, UpdatesBy}
use Rattle.std.specs.Str.{bytes_eq}
use Rattle.std.proofs.lemmas.Bool.{eq-eqb}
use Rattle.std.proofs.lemmas.List.{append-nil, map-append, same_from_push}
use Rattle.std.proofs.lemmas.Slice.Eq.{bytes_eq-Decides}
use Rattle.dt_model.specs.Lists.{IsIn}
use Rattle.dt_model.specs.Names.{Name}
use Rattle.dt_model.specs.Path.{Path}
use Rattle.dt_model.specs.Tree.{Property, Placed, preorder, nodes_of}
use Rattle.dt_model.specs.Valid.{IsValid}
use Rattle.dt_model.proofs.Listed.{stands_listed}
use Rattle.dt_model.proofs.Tests.{in_append}
use Rattle.dt_trees.specs.Placed.{Nodes, no_nodes, node, forest_of, PlacedTree, reading_of, path_at, place_of, last_name, HasPlacesApart, IsNode}
use Rattle.dt_read.specs.Walked.{without_properties, Step, opens, holds, closes, steps_of_nodes, steps_of}
use Rattle.dt_trees.proofs.NodePlaces.{path_is, stands_place}
use Rattle.dt_resolve_model.specs.Above.{front}
use Rattle.dt_view.specs.Tables.{Key, child_at, PutsChild, AreChildren}
use Rattle.dt_trees.specs.Views.{IsAbove}
use Rattle.dt_trees.proofs.Steps.{ends_so}
use Rattle.dt_view.proofs.Kinded.{key_is}
use Rattle.dt_read.proofs.Opened.{opened, AreOpened}
use Rattle.dt_read.proofs.Openings.{OpensNext, all_opened, next_opened, none_opened}

-- ---- a change of the hash map is a change of the table

pub child_from_updates : {S : Type 0} (m n : HashMap Key ℕ S) (k : Key) (child : ℕ)
    → UpdatesBy (λ (a b : Key). nat_eq a.0 b.0 && bytes_eq a.1.now b.1.now) (λ (b : Key). nat_eq k.0 b.0 && bytes_eq k.1.now b.1.now) m n (Some child)
    → PutsChild m.entries n.entries (Some k.0) k.1.now child
child_from_updates m n k child u j y = u.0 (j, record k.1 { now = y })

-- ---- the names with which nodes begin

abbrev pub names_told : List Step → List Name
names_told [] = []
names_told (opens place name ∷ steps) = name ∷ names_told steps
names_told (holds p ∷ steps) = names_told steps
names_told (closes ∷ steps) = names_told steps

pub names_without : (steps : List Step) → names_told steps ≡ names_told (without_properties steps)
names_without [] = refl
names_without (opens place name ∷ steps) = ap (λ (names : List Name). name ∷ names) (names_without steps)
names_without (holds p ∷ steps) = names_without steps
names_without (closes ∷ steps) = names_without steps

last_of_all : (q : Path) (x : Name) → last_name (q ++ x ∷ []) ≡ x
last_of_all [] x = refl
last_of_all (y ∷ []) x = refl
last_of_all (y ∷ z ∷ q) x = last_of_all (z ∷ q) x

past_properties : (ps : List Property) (rest : List Step) → names_told (map holds ps ++ rest) ≡ names_told rest
past_properties [] rest = refl
past_properties (p ∷ ps) rest = past_properties ps rest

told_in : (q : Path) (ns : Nodes) (rest : List Step) → names_told (steps_of_nodes ns ++ rest) ≡ map (λ n. last_name n.path) (preorder q (forest_of ns)) ++ names_told rest
told_in q no_nodes rest = refl
told_in q (node place name ps children siblings) rest =
    let regroup : (map holds ps ++ (steps_of_nodes children ++ closes ∷ steps_of_nodes siblings)) ++ rest ≡ map holds ps ++ (steps_of_nodes children ++ closes ∷ (steps_of_nodes siblings ++ rest)) = simp append_assoc in
    let low = map (λ (n : Placed). last_name n.path) (preorder (q ++ name ∷ []) (forest_of children)) in
    let late = map (λ (n : Placed). last_name n.path) (preorder q (forest_of siblings)) in
    let both : names_told ((map holds ps ++ (steps_of_nodes children ++ closes ∷ steps_of_nodes siblings)) ++ rest)
    ≡ map (λ n. last_name n.path) (preorder (q ++ name ∷ []) (forest_of children) ++ preorder q (forest_of siblings)) ++ names_told rest =
    ap names_told regroup ∙ past_properties ps (steps_of_nodes children ++ closes ∷ (steps_of_nodes siblings ++ rest))
    ∙ told_in (q ++ name ∷ []) children (closes ∷ (steps_of_nodes siblings ++ rest)) ∙ ap (λ ns. low ++ ns) (told_in q siblings rest)
    ∙ sym (append_assoc low late (names_told rest))
    ∙ ap (λ ns. ns ++ names_told rest) (sym (map-append (λ (n : Placed). last_name n.path) (preorder (q ++ name ∷ []) (forest_of children)) (preorder q (forest_of siblings)))) in
    λ i. sym (last_of_all q name) i ∷ both i

all_told : (t : PlacedTree) → map (λ n. last_name n.path) (nodes_of (reading_of t)) ≡ names_told (steps_of t)
all_told t =
    ap (λ ns. [] ∷ ns) (sym (past_properties t.properties (steps_of_nodes t.children ++ closes ∷ []) ∙ told_in [] t.children (closes ∷ [])
    ∙ append-nil (map (λ n. last_name n.path) (preorder [] (forest_of t.children)))))

-- ---- step by step

-- the table has the nodes that were opened, and the steps open the others
pub record AreFound (t : PlacedTree) (children : List (Key × ℕ)) (steps : List Step) : Type 0 where
  pub before : List Placed
  pub nodes : List Placed
  pub are : AreOpened t before nodes steps
  pub named : map (λ n. last_name n.path) nodes ≡ names_told steps
  pub found : AreChildren t before children

pub none_found : (t : PlacedTree) → IsValid (reading_of t) → AreFound t [] (steps_of t)
none_found t valid = record {
  before = [];
  nodes = nodes_of (reading_of t);
  are = all_opened t valid;
  named = all_told t;
  found = record { has = λ k x j e. absurd (let z : None ≡ Some j = e in cc); found = λ n k x i is at. absurd i };
}

-- a path with a name behind it has no other name at its end, and nothing else before it
path_parts : (p q : Path) (x y : Name) → p ++ x ∷ [] ≡ q ++ y ∷ [] → (p ≡ q) × (x ≡ y)
path_parts p q x y e = same_from_push p q x y e

pub one_found : (t : PlacedTree) (old new : List (Key × ℕ)) (k : ℕ) (name : Name) (above : Option ℕ) (steps rest : List Step) → HasPlacesApart t → AreFound t old steps → steps ≡ opens k name ∷ rest
    → IsAbove t k above → PutsChild old new above name k → AreFound t new rest
one_found t old new k name above steps rest places f e up put = record {
  before = f.before ++ next.first ∷ [];
  nodes = next.later;
  are = next.left;
  named = tail_of (sym (ap (map (λ n. last_name n.path)) next.are) ∙ f.named ∙ ap names_told e);
  found = by above up put;
}
  where
    next : OpensNext t f.before f.nodes k rest
    next = next_opened t f.before f.nodes k name rest (subst (AreOpened t f.before f.nodes) e f.are)

    tail_of : last_name next.first.path ∷ map (λ n. last_name n.path) next.later ≡ name ∷ names_told rest → map (λ n. last_name n.path) next.later ≡ names_told rest
    tail_of h = cc

    head_of : last_name next.first.path ∷ map (λ n. last_name n.path) next.later ≡ name ∷ names_told rest → last_name next.first.path ≡ name
    head_of h = cc

    own : path_at t k ≡ next.first.path
    own = path_is t places next.first.path k next.at

    called : last_name (path_at t k) ≡ name
    called = ap last_name own ∙ head_of (sym (ap (map (λ n. last_name n.path)) next.are) ∙ f.named ∙ ap names_told e)

    by : (a : Option ℕ) → IsAbove t k a → PutsChild old new a name k → AreChildren t (f.before ++ next.first ∷ []) new
    by None root same = record {
      has = λ j x i h. f.found.has j x i (sym (ap (λ es. child_at es j x) same) ∙ h);
      found = λ n j x i is at. ap (λ es. is_some (child_at es j x)) same ∙ older n j x at (in_append n f.before (next.first ∷ []) i) is;
    }
      where
        older : (n : Placed) (j : ℕ) (x : Name) → n.path ≡ path_at t j ++ x ∷ [] → IsIn n f.before ⊎ IsIn n (next.first ∷ []) → IsNode t j → is_some (child_at old j x) ≡ true
        older n j x at (inl i) is = f.found.found n j x i is at
        older n j x at (inr (inl one)) is = absurd (nothing (path_at t j) (sym at ∙ ap (λ (m : Placed). m.path) one ∙ sym own ∙ root))
          where
            nothing : (p : Path) → p ++ x ∷ [] ≡ [] → ⊥
            nothing [] z = cc
            nothing (y ∷ p) z = cc
        older n j x at (inr (inr none)) is = absurd none
    by (Some a) up put' = record {
      has = λ j x i h. has j x i (nat_eq a j && bytes_eq name x) refl (sym (put' j x) ∙ h);
      found = λ n j x i is at. ap is_some (put' j x) ∙ found n j x at is (in_append n f.before (next.first ∷ []) i);
    }
      where
        whole : (p : Path) → path_at t k ≡ p → p ≢ [] → front p ++ last_name p ∷ [] ≡ p
        whole [] z ne = absurd (ne refl)
        whole (y ∷ p) z ne = ends_so y p

        here : path_at t a ++ name ∷ [] ≡ path_at t k
        here = (λ i. up.1 i ++ sym called i ∷ []) ∙ whole (path_at t k) refl up.2

        has : (j : ℕ) (x : Name) (i : ℕ) (b : Bool) → (nat_eq a j && bytes_eq name x) ≡ b → cond (nat_eq a j && bytes_eq name x) (Some k) (child_at old j x) ≡ Some i → place_of t (path_at t j ++ x ∷ []) ≡ Some i
        has j x i true is h =
            let key = key_is a j name x is in
            let same : Some k ≡ Some i = sym (ap (λ b. cond b (Some k) (child_at old j x)) is) ∙ h in
            (λ l. place_of t (path_at t (sym key.0 l) ++ sym key.1 l ∷ [])) ∙ ap (place_of t) (here ∙ own) ∙ next.at ∙ same
        has j x i false is h = f.found.has j x i (sym (ap (λ b. cond b (Some k) (child_at old j x)) is) ∙ h)

        either : (b : Bool) (j : ℕ) (x : Name) → is_some (child_at old j x) ≡ true → is_some (cond b (Some k) (child_at old j x)) ≡ true
        either true j x h = refl
        either false j x h = h

        found : (n : Placed) (j : ℕ) (x : Name) → n.path ≡ path_at t j ++ x ∷ [] → IsNode t j → IsIn n f.before ⊎ IsIn n (next.first ∷ []) → is_some (cond (nat_eq a j && bytes_eq name x) (Some k) (child_at old j x)) ≡ true
        found n j x at is (inl i) = either (nat_eq a j && bytes_eq name x) j x (f.found.found n j x i is at)
        found n j x at is (inr (inl one)) =
            let parts = path_parts (path_at t a) (path_at t j) name x (here ∙ own ∙ ap (λ (m : Placed). m.path) (sym one) ∙ at) in
            let same : a ≡ j = let z : Some a ≡ Some j = sym up.0 ∙ ap (place_of t) parts.0 ∙ is in cc in
            rw (eq-eqb a j same, (bytes_eq-Decides name x).1 parts.1) refl
        found n j x at is (inr (inr none)) = absurd none

-- a property, or a node's end
pub others_found : (t : PlacedTree) (children : List (Key × ℕ)) (steps rest : List Step) → AreFound t children steps → opened steps ≡ opened rest → names_told steps ≡ names_told rest → AreFound t children rest
others_found t children steps rest f same told = record {
  before = f.before;
  nodes = f.nodes;
  are = record { whole = f.are.whole; places = f.are.places ∙ ap (map (λ k. Some k)) same };
  named = f.named ∙ told;
  found = f.found;
}

pub all_found : (t : PlacedTree) (children : List (Key × ℕ)) (steps : List Step) → AreFound t children steps → steps ≡ [] → AreChildren t (nodes_of (reading_of t)) children
all_found t children steps f e =
    let none : f.nodes ≡ [] = none_opened t f.before f.nodes (subst (AreOpened t f.before f.nodes) e f.are) in
    subst (λ ns. AreChildren t ns children) (sym (f.are.whole ∙ ap (λ ns. f.before ++ ns) none ∙ append-nil f.before)) f.found

-- ---- what the whole table has

pub child_looked_up : (t : PlacedTree) (children : List (Key × ℕ)) (k : ℕ) (x : Name) → IsNode t k → AreChildren t (nodes_of (reading_of t)) children → child_at children k x ≡ place_of t (path_at t k ++ x ∷ [])
child_looked_up t children k x is are = by (child_at children k x) (place_of t (path_at t k ++ x ∷ [])) refl refl
  where
    by : (o p : Option ℕ) → child_at children k x ≡ o → place_of t (path_at t k ++ x ∷ []) ≡ p → o ≡ p
    by (Some j) p e f = sym (are.has k x j e) ∙ f
    by None None e f = refl
    by None (Some j) e f =
        let n = stands_listed (reading_of t) (path_at t k ++ x ∷ []) (sym (stands_place t (path_at t k ++ x ∷ [])) ∙ ap is_some f) in
        absurd (true≢false (sym (are.found n.0 k x n.1 is n.2) ∙ ap is_some e))
