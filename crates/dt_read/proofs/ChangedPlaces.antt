-- What a changed tree reads as, and where its nodes are.
use Rattle.std.proofs.Common.{◌≡◌, ℕ, Bool, true, false, cond, [], ◌∷◌, ◌++◌, Some, None, refl, ap}
use Rattle.std.specs.Option.{option_map}
use Rattle.std.specs.Str.{bytes_eq}
use Rattle.dt_model.proofs.Tests.{bytes_eq_refl}
use Rattle.dt_model.specs.Changes.{changed_sibling, changed_below}
use Rattle.dt_model.specs.Names.{Name}
use Rattle.dt_model.specs.Path.{Path}
use Rattle.dt_model.specs.Tree.{Forest, no_nodes as no_branches, branch, Node}
use Rattle.dt_read.specs.Cuts.{Content, changed_named, changed_content, appended, with_node, moved_nodes}
use Rattle.dt_trees.specs.Placed.{Nodes, no_nodes, node, forest_of, place_below}

-- ---- readings

-- a content without places
abbrev pub plain_content : Content → Node
plain_content c = record { properties = c.properties; children = forest_of c.children }

pub moved_forest : (f : ℕ → ℕ) (nodes : Nodes) → forest_of (moved_nodes f nodes) ≡ forest_of nodes
moved_forest f no_nodes = refl
moved_forest f (node place name properties children siblings) = λ i. branch name properties (moved_forest f children i) (moved_forest f siblings i)

-- a change of a content is that of a node
abbrev pub IsChangeOf : (Content → Content) → (Node → Node) → Type 0
IsChangeOf change plain = (c : Content) → plain_content (change c) ≡ plain (plain_content c)

changed_forest : (change : Content → Content) (plain : Node → Node) → IsChangeOf change plain → (nodes : Nodes) (x : Name) → forest_of (changed_named change nodes x) ≡ changed_sibling plain (forest_of nodes) x
changed_forest change plain same no_nodes x = refl
changed_forest change plain same (node place name properties children siblings) x = step (changed_forest change plain same siblings x) (bytes_eq x name) refl
  where
    step : forest_of (changed_named change siblings x) ≡ changed_sibling plain (forest_of siblings) x → (b : Bool) → bytes_eq x name ≡ b
        → forest_of (changed_named change (node place name properties children siblings) x) ≡ changed_sibling plain (branch name properties (forest_of children) (forest_of siblings)) x
    step later true e = rw e (ap (λ (n : Node). branch name n.properties n.children (forest_of siblings)) (same (record { properties = properties; children = children })))
    step later false e = rw e (ap (branch name properties (forest_of children)) later)

pub changed_plainly : (change : Content → Content) (plain : Node → Node) → IsChangeOf change plain → (p : Path) → IsChangeOf (changed_content change p) (changed_below plain p)
changed_plainly change plain same [] c = same c
changed_plainly change plain same (x ∷ p) c =
    ap (λ (fs : Forest). record { properties = c.properties; children = fs })
    (changed_forest (changed_content change p) (changed_below plain p) (changed_plainly change plain same p) c.children x)

-- siblings with one more behind them
abbrev pub appended_branch : Forest → Name → Forest
appended_branch no_branches name = branch name [] no_branches no_branches
appended_branch (branch x properties children siblings) name = branch x properties children (appended_branch siblings name)

pub appended_forest : (nodes : Nodes) (place : ℕ) (name : Name) → forest_of (appended nodes place name) ≡ appended_branch (forest_of nodes) name
appended_forest no_nodes place name = refl
appended_forest (node other x properties children siblings) place name = ap (branch x properties (forest_of children)) (appended_forest siblings place name)

-- ---- places

pub moved_place : (f : ℕ → ℕ) (nodes : Nodes) (at : ℕ) (q : Path) → place_below (f at) (moved_nodes f nodes) q ≡ option_map f (place_below at nodes q)
moved_place f nodes at [] = refl
moved_place f no_nodes at (y ∷ q) = refl
moved_place f (node place name properties children siblings) at (y ∷ q) =
    step (moved_place f children place q) (moved_place f siblings at (y ∷ q)) (bytes_eq y name) refl
  where
    step : place_below (f place) (moved_nodes f children) q ≡ option_map f (place_below place children q)
        → place_below (f at) (moved_nodes f siblings) (y ∷ q) ≡ option_map f (place_below at siblings (y ∷ q)) → (b : Bool) → bytes_eq y name ≡ b
        → place_below (f at) (moved_nodes f (node place name properties children siblings)) (y ∷ q) ≡ option_map f (place_below at (node place name properties children siblings) (y ∷ q))
    step inside after true e = rw e inside
    step inside after false e = rw e after

-- a change that leaves the nodes that are there where they are
abbrev pub KeepsPlaces : (Content → Content) → Type 0
KeepsPlaces change = (c : Content) (at : ℕ) (q : Path) (j : ℕ) → place_below at c.children q ≡ Some j → place_below at (change c).children q ≡ Some j

kept_among : (change : Content → Content) → KeepsPlaces change → (nodes : Nodes) (at : ℕ) (x : Name) (q : Path) (j : ℕ)
    → place_below at nodes q ≡ Some j → place_below at (changed_named change nodes x) q ≡ Some j
kept_among change keeps nodes at x [] j e = e
kept_among change keeps no_nodes at x (y ∷ q) j e = e
kept_among change keeps (node place name properties children siblings) at x (y ∷ q) j e =
    step (λ f. kept_among change keeps siblings at x (y ∷ q) j f) (bytes_eq x name) refl (bytes_eq y name) refl e
  where
    step : (place_below at siblings (y ∷ q) ≡ Some j → place_below at (changed_named change siblings x) (y ∷ q) ≡ Some j)
        → (b : Bool) → bytes_eq x name ≡ b → (c : Bool) → bytes_eq y name ≡ c → cond c (place_below place children q) (place_below at siblings (y ∷ q)) ≡ Some j
        → place_below at (changed_named change (node place name properties children siblings) x) (y ∷ q) ≡ Some j
    step later true u true v e = rw (u, v) (keeps (record { properties = properties; children = children }) place q j e)
    step later true u false v e = rw (u, v) e
    step later false u true v e = rw (u, v) e
    step later false u false v e = rw (u, v) (later e)

pub kept_places : (change : Content → Content) → KeepsPlaces change → (p : Path) → KeepsPlaces (changed_content change p)
kept_places change keeps [] c at q j e = keeps c at q j e
kept_places change keeps (x ∷ p) c at q j e = kept_among (changed_content change p) (kept_places change keeps p) c.children at x q j e

pub appended_keeps : (nodes : Nodes) (place : ℕ) (name : Name) (at : ℕ) (q : Path) (j : ℕ) → place_below at nodes q ≡ Some j → place_below at (appended nodes place name) q ≡ Some j
appended_keeps nodes place name at [] j e = e
appended_keeps no_nodes place name at (y ∷ q) j e = absurd cc
appended_keeps (node other x properties children siblings) place name at (y ∷ q) j e =
    step (λ f. appended_keeps siblings place name at (y ∷ q) j f) (bytes_eq y x) refl e
  where
    step : (place_below at siblings (y ∷ q) ≡ Some j → place_below at (appended siblings place name) (y ∷ q) ≡ Some j)
        → (b : Bool) → bytes_eq y x ≡ b → cond b (place_below other children q) (place_below at siblings (y ∷ q)) ≡ Some j
        → place_below at (appended (node other x properties children siblings) place name) (y ∷ q) ≡ Some j
    step later true u e = rw u e
    step later false u e = rw u (later e)

-- ---- a new node

new_among : (nodes : Nodes) (place : ℕ) (name : Name) (at : ℕ) → place_below at nodes (name ∷ []) ≡ None → place_below at (appended nodes place name) (name ∷ []) ≡ Some place
new_among no_nodes place name at e = rw (bytes_eq_refl name) refl
new_among (node other x properties children siblings) place name at e = step (λ f. new_among siblings place name at f) (bytes_eq name x) refl e
  where
    step : (place_below at siblings (name ∷ []) ≡ None → place_below at (appended siblings place name) (name ∷ []) ≡ Some place)
        → (b : Bool) → bytes_eq name x ≡ b → cond b (Some other) (place_below at siblings (name ∷ [])) ≡ None
        → place_below at (appended (node other x properties children siblings) place name) (name ∷ []) ≡ Some place
    step later true u e = absurd cc
    step later false u e = rw u (later e)

new_below : (nodes : Nodes) (place : ℕ) (name : Name) (at : ℕ) (x : Name) (p : Path) (k : ℕ) → place_below at nodes (x ∷ p) ≡ Some k → place_below at nodes ((x ∷ p) ++ name ∷ []) ≡ None
    → place_below at (changed_named (changed_content (with_node place name) p) nodes x) ((x ∷ p) ++ name ∷ []) ≡ Some place
new_below no_nodes place name at x p k e none = absurd cc
new_below (node other y properties children siblings) place name at x p k e none =
    step (λ z q f g. new_below children place name other z q k f g) (λ f g. new_below siblings place name at x p k f g) (bytes_eq x y) refl e none
  where
    own : (q : Path) → place_below other children q ≡ Some k → place_below other children (q ++ name ∷ []) ≡ None
        → ((z : Name) (q : Path) → place_below other children (z ∷ q) ≡ Some k → place_below other children ((z ∷ q) ++ name ∷ []) ≡ None
        → place_below other (changed_named (changed_content (with_node place name) q) children z) ((z ∷ q) ++ name ∷ []) ≡ Some place)
        → place_below other (changed_content (with_node place name) q (record { properties = properties; children = children })).children (q ++ name ∷ []) ≡ Some place
    own [] e none deeper = new_among children place name other none
    own (z ∷ q) e none deeper = deeper z q e none

    step : ((z : Name) (q : Path) → place_below other children (z ∷ q) ≡ Some k → place_below other children ((z ∷ q) ++ name ∷ []) ≡ None
        → place_below other (changed_named (changed_content (with_node place name) q) children z) ((z ∷ q) ++ name ∷ []) ≡ Some place)
        → (place_below at siblings (x ∷ p) ≡ Some k → place_below at siblings ((x ∷ p) ++ name ∷ []) ≡ None
        → place_below at (changed_named (changed_content (with_node place name) p) siblings x) ((x ∷ p) ++ name ∷ []) ≡ Some place)
        → (b : Bool) → bytes_eq x y ≡ b → cond b (place_below other children p) (place_below at siblings (x ∷ p)) ≡ Some k
        → cond b (place_below other children (p ++ name ∷ [])) (place_below at siblings ((x ∷ p) ++ name ∷ [])) ≡ None
        → place_below at (changed_named (changed_content (with_node place name) p) (node other y properties children siblings) x) ((x ∷ p) ++ name ∷ []) ≡ Some place
    step deeper later true u e none = rw (u, u) (own p e none deeper)
    step deeper later false u e none = rw (u, u) (later e none)

-- a node that is added behind the children of another is there
pub new_place : (c : Content) (at : ℕ) (p : Path) (place : ℕ) (name : Name) (k : ℕ) → place_below at c.children p ≡ Some k → place_below at c.children (p ++ name ∷ []) ≡ None
    → place_below at (changed_content (with_node place name) p c).children (p ++ name ∷ []) ≡ Some place
new_place c at [] place name k e none = new_among c.children place name at none
new_place c at (x ∷ p) place name k e none = new_below c.children place name at x p k e none
