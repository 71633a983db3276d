-- The children of a node, walked from one to the next.
use Rattle.std.proofs.Common.{◌≡◌, ◌≢◌, ℕ, suc, Bool, true, false, List, [], ◌∷◌, ◌++◌, Option, Some, None, length, refl, sym, ap, subst, ◌∙◌, ◌⊎◌, inl, inr, true≢false, append-nil}
use Rattle.std.specs.Prelude.{is_some, option_and_then, if◌then◌else◌}
use Rattle.std.specs.Str.{bytes_eq}
use Rattle.dt_model.specs.Names.{Name}
use Rattle.dt_model.specs.Path.{Path}
use Rattle.dt_model.specs.Tree.{Property, Forest, no_nodes, branch, Node, Placed, preorder, sibling, node_below, root_of, node_at}
use Rattle.dt_model.specs.Valid.{AreDistinct, AreNodes, IsValid, names}
use Rattle.dt_model.proofs.Tests.{bytes_eq_refl}
use Rattle.dt_model.proofs.Listed.{other_sibling}
use Rattle.dt_resolve_model.specs.Above.{front}
use Rattle.dt_trees.specs.Placed.{PlacedTree, reading_of, place_of, path_at, last_name, first_place_of, names_behind, child_names, names_under, properties_at, properties_found, forest_under, below_at, IsAt, IsNode, HasPlacesApart}
use Rattle.dt_trees.specs.Views.{first_child_of, next_sibling_of}
use Rattle.dt_trees.proofs.NodePlaces.{stands_place, path_is, at_node}

-- ---- the children of each node differ in their names

abbrev HasSoundChildren : Node → Type 0
HasSoundChildren n = AreNodes n.children × AreDistinct (names n.children)

abbrev node_with : List Property → Forest → Node
node_with ps cs = record { properties = ps; children = cs }

sound_sibling : (f : Forest) (x : Name) (c : Node) → AreNodes f → sibling f x ≡ Some c → HasSoundChildren c
sound_sibling no_nodes x c ok e = absurd (let z : None ≡ Some c = e in cc)
sound_sibling (branch y ps cs ss) x c ok e = step (λ k. sound_sibling ss x c ok.4 k) (bytes_eq x y) e
  where
    step : (sibling ss x ≡ Some c → HasSoundChildren c) → (b : Bool) → (if b then Some (node_with ps cs) else sibling ss x) ≡ Some c → HasSoundChildren c
    step more true k = let same : node_with ps cs ≡ c = cc in subst HasSoundChildren same (ok.2, ok.3)
    step more false k = more k

sound_below : (p : Path) (n c : Node) → HasSoundChildren n → node_below n p ≡ Some c → HasSoundChildren c
sound_below [] n c ok e = let same : n ≡ c = cc in subst HasSoundChildren same ok
sound_below (x ∷ p) n c ok e = step (λ s k. sound_below p s c (sound_sibling n.children x s ok.0 k)) (sibling n.children x) refl
  where
    step : ((s : Node) → sibling n.children x ≡ Some s → node_below s p ≡ Some c → HasSoundChildren c) → (o : Option Node) → sibling n.children x ≡ o → HasSoundChildren c
    step more None k = absurd (let z : None ≡ Some c = sym (ap (option_and_then (λ s. node_below s p)) k) ∙ e in cc)
    step more (Some s) k = more s k (sym (ap (option_and_then (λ s. node_below s p)) k) ∙ e)

pub children_distinct : (t : PlacedTree) (p : Path) → IsValid (reading_of t) → AreDistinct (names (below_at t p))
children_distinct t p valid = step (node_at (reading_of t) p) refl
  where
    step : (o : Option Node) → node_at (reading_of t) p ≡ o → AreDistinct (names (forest_under o))
    step None k = tt
    step (Some n) k = (sound_below p (root_of (reading_of t)) n (valid.nodes, valid.siblings) k).1

-- ---- the last ones of some siblings

abbrev pub IsTail : Forest → Forest → Type 0
IsTail left no_nodes = left ≡ no_nodes
IsTail left (branch x ps cs ss) = (left ≡ branch x ps cs ss) ⊎ IsTail left ss

pub tail_whole : (f : Forest) → IsTail f f
tail_whole no_nodes = refl
tail_whole (branch x ps cs ss) = inl refl

pub tail_later : (x : Name) (ps : List Property) (cs ss f : Forest) → IsTail (branch x ps cs ss) f → IsTail ss f
tail_later x ps cs ss no_nodes h = absurd cc
tail_later x ps cs ss (branch y qs ds ts) (inl e) = let same : ts ≡ ss = cc in inr (subst (λ f. IsTail f ts) same (tail_whole ts))
tail_later x ps cs ss (branch y qs ds ts) (inr h) = inr (tail_later x ps cs ss ts h)

-- the first of them is found by its name
tail_found : (x : Name) (ps : List Property) (cs ss f : Forest) → AreDistinct (names f) → IsTail (branch x ps cs ss) f → sibling f x ≡ Some (node_with ps cs)
tail_found x ps cs ss no_nodes d h = absurd cc
tail_found x ps cs ss (branch y qs ds ts) d (inl e) =
    subst (λ f. sibling f x ≡ Some (node_with ps cs)) e (ap (λ b. if b then Some (node_with ps cs) else sibling ss x) (bytes_eq_refl x))
tail_found x ps cs ss (branch y qs ds ts) d (inr h) =
    let found = tail_found x ps cs ss ts d.1 h in
    ap (λ b. if b then Some (node_with qs ds) else sibling ts x) (other_sibling ts x y (node_with ps cs) d.0 found) ∙ found

-- the others are those behind its name
tail_behind : (x : Name) (ps : List Property) (cs ss f : Forest) → AreDistinct (names f) → IsTail (branch x ps cs ss) f → names_behind x (names f) ≡ names ss
tail_behind x ps cs ss no_nodes d h = absurd cc
tail_behind x ps cs ss (branch y qs ds ts) d (inl e) =
    subst (λ f. names_behind x (names f) ≡ names ss) e (ap (λ b. if b then names ss else names_behind x (names ss)) (bytes_eq_refl x))
tail_behind x ps cs ss (branch y qs ds ts) d (inr h) =
    ap (λ b. if b then names ts else names_behind x (names ts)) (other_sibling ts x y (node_with ps cs) d.0 (tail_found x ps cs ss ts d.1 h)) ∙ tail_behind x ps cs ss ts d.1 h

-- ---- a path and one name more

pub last_of : (p : Path) (x : Name) → last_name (p ++ x ∷ []) ≡ x
last_of [] x = refl
last_of (y ∷ []) x = refl
last_of (y ∷ z ∷ p) x = last_of (z ∷ p) x

front_of : (p : Path) (x : Name) → front (p ++ x ∷ []) ≡ p
front_of [] x = refl
front_of (y ∷ []) x = refl
front_of (y ∷ z ∷ p) x = ap (λ q. y ∷ q) (front_of (z ∷ p) x)

next_of : (t : PlacedTree) (p : Path) (x : Name) → next_sibling_of t (p ++ x ∷ []) ≡ first_place_of t p (names_behind x (child_names t p))
next_of t [] x = refl
next_of t (y ∷ p) x = λ i. first_place_of t (front_of (y ∷ p) x i) (names_behind (last_of (y ∷ p) x i) (child_names t (front_of (y ∷ p) x i)))

under_names : (o : Option Node) → names_under o ≡ names (forest_under o)
under_names None = refl
under_names (Some n) = refl

-- the child of a path that has a name
pub below_last : (p : Path) (n : Node) (x : Name) → node_below n (p ++ x ∷ []) ≡ sibling (forest_under (node_below n p)) x
below_last [] n x = same (sibling n.children x)
  where
    same : (o : Option Node) → option_and_then (λ c. node_below c []) o ≡ o
    same None = refl
    same (Some c) = refl
below_last (y ∷ p) n x = step (λ s. below_last p s x) (sibling n.children y)
  where
    step : ((s : Node) → node_below s (p ++ x ∷ []) ≡ sibling (forest_under (node_below s p)) x) → (o : Option Node)
        → option_and_then (λ c. node_below c (p ++ x ∷ [])) o ≡ sibling (forest_under (option_and_then (λ c. node_below c p) o)) x
    step more None = refl
    step more (Some s) = more s

-- ---- the walk

-- The children of a path's node are walked: these are left, and the next node is the first of them.
pub record IsWalked (t : PlacedTree) (p : Path) (next : Option ℕ) (left : Forest) : Type 0 where
  pub tail : IsTail left (below_at t p)
  pub first : next ≡ first_place_of t p (names left)

pub walk_begins : (t : PlacedTree) (p : Path) (next : Option ℕ) → next ≡ first_child_of t p → IsWalked t p next (below_at t p)
walk_begins t p next e = record { tail = tail_whole (below_at t p); first = e ∙ ap (first_place_of t p) (under_names (node_at (reading_of t) p)) }

pub child_there : (t : PlacedTree) (p : Path) (x : Name) (ps : List Property) (cs ss : Forest) → IsValid (reading_of t) → IsTail (branch x ps cs ss) (below_at t p)
    → node_at (reading_of t) (p ++ x ∷ []) ≡ Some (node_with ps cs)
child_there t p x ps cs ss valid tail = below_last p (root_of (reading_of t)) x ∙ tail_found x ps cs ss (below_at t p) (children_distinct t p valid) tail

pub walk_ends : (t : PlacedTree) (p : Path) (left : Forest) → IsValid (reading_of t) → IsWalked t p None left → left ≡ no_nodes
walk_ends t p no_nodes valid w = refl
walk_ends t p (branch x ps cs ss) valid w =
    let there = child_there t p x ps cs ss valid w.tail in
    let none : place_of t (p ++ x ∷ []) ≡ None = sym w.first in
    absurd (true≢false (sym (ap is_some there) ∙ sym (stands_place t (p ++ x ∷ [])) ∙ ap is_some none))

-- a node with these siblings behind it
abbrev pub node_before : PlacedTree → ℕ → Forest → Forest
node_before t k rest = branch (last_name (path_at t k)) (properties_at t (path_at t k)) (below_at t (path_at t k)) rest

pub no_end : (p : Path) (x : Name) → p ++ x ∷ [] ≢ []
no_end [] x = λ e. absurd cc
no_end (y ∷ p) x = λ e. absurd cc

-- The walk comes to a node.
pub record IsVisited (t : PlacedTree) (p : Path) (k : ℕ) (left : Forest) : Type 0 where
  pub there : IsNode t k
  pub below : path_at t k ≢ []
  pub rest : Forest
  pub name : Name
  pub path : path_at t k ≡ p ++ name ∷ []
  pub split : left ≡ node_before t k rest
  pub on : (next : Option ℕ) → next ≡ next_sibling_of t (path_at t k) → IsWalked t p next rest

pub visit : (t : PlacedTree) (p : Path) (k : ℕ) (left : Forest) → IsValid (reading_of t) → HasPlacesApart t → IsWalked t p (Some k) left → IsVisited t p k left
visit t p k no_nodes valid apart w = absurd (let z : Some k ≡ None = w.first in cc)
visit t p k (branch x ps cs ss) valid apart w =
    let at : IsAt t (p ++ x ∷ []) k = sym w.first in
    let path : path_at t k ≡ p ++ x ∷ [] = path_is t apart (p ++ x ∷ []) k at in
    let here = ap (node_at (reading_of t)) path ∙ child_there t p x ps cs ss valid w.tail in
    let name = ap last_name path ∙ last_of p x in
    let own = ap properties_found here in
    let under = ap forest_under here in
    let names_left = under_names (node_at (reading_of t) p) in
    record {
      there = at_node t apart (p ++ x ∷ []) k at;
      below = λ e. no_end p x (sym path ∙ e);
      rest = ss;
      name = x;
      path = path;
      split = λ i. branch (sym name i) (sym own i) (sym under i) ss;
      on = λ next e. record {
        tail = tail_later x ps cs ss (below_at t p) w.tail;
        first = e ∙ ap (next_sibling_of t) path ∙ next_of t p x ∙ ap (first_place_of t p) (ap (names_behind x) names_left ∙ tail_behind x ps cs ss (below_at t p) (children_distinct t p valid) w.tail);
      };
    }

-- how many children are left
abbrev pub count_left : PlacedTree → Path → Option ℕ → ℕ
count_left t p None = 0
count_left t p (Some k) = suc (length (names_behind (last_name (path_at t k)) (child_names t p)))

pub left_counted : (t : PlacedTree) (p : Path) (next : Option ℕ) (left : Forest) → IsValid (reading_of t) → HasPlacesApart t → IsWalked t p next left → count_left t p next ≡ length (names left)
left_counted t p None left valid apart w = ap (λ f. length (names f)) (sym (walk_ends t p left valid w))
left_counted t p (Some k) no_nodes valid apart w = absurd (let z : Some k ≡ None = w.first in cc)
left_counted t p (Some k) (branch x ps cs ss) valid apart w =
    let at : IsAt t (p ++ x ∷ []) k = sym w.first in
    let name = ap last_name (path_is t apart (p ++ x ∷ []) k at) ∙ last_of p x in
    ap (λ (xs : List Name). suc (length xs)) (ap (λ y. names_behind y (child_names t p)) name
    ∙ ap (names_behind x) (under_names (node_at (reading_of t) p)) ∙ tail_behind x ps cs ss (below_at t p) (children_distinct t p valid) w.tail)

-- ---- preorder

-- a node and what is below it come first
pub walked_first : (q : Path) (t : PlacedTree) (k : ℕ) (rest : Forest) → preorder q (node_before t k rest) ≡ preorder q (node_before t k no_nodes) ++ preorder q rest
walked_first q t k rest =
    let here = q ++ last_name (path_at t k) ∷ [] in
    let own : Placed = record { path = here; properties = properties_at t (path_at t k) } in
    ap (λ (ns : List Placed). own ∷ (ns ++ preorder q rest)) (sym (append-nil (preorder here (below_at t (path_at t k)))))
