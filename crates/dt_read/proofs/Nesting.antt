-- Tokens that lead to the end of the root are a tree's, with names that are names, within the limits.
use Rattle.std.proofs.Common.{◌≡◌, ℕ, zero, suc, ◌+◌, ◌-◌, ◌<◌, ◌≤◌, Bool, true, false, cond, not, ◌&&◌, ◌||◌, List, [], ◌∷◌, ◌++◌, length, map, Option, Some, None, refl, sym, ap, subst, ◌∙◌, append_assoc, arith, inl, inr}
use Rattle.std.specs.List.{AllByRecursion}
use Rattle.std.proofs.Math.Dec.{eqb, leb, ltb}
use Rattle.std.proofs.lemmas.Bool.{false≢true, eqb-true, leb-true, ltb-true}
use Rattle.std.proofs.lemmas.Option.{same_Some}
use Rattle.std.proofs.lemmas.List.{nil_from_length}
use Rattle.std.specs.Prelude.{option_and_then}
use Rattle.dt_model.specs.Names.{Name, IsNodeName, IsPropertyName, is_property_name}
use Rattle.dt_model.specs.Tree.{Property}
use Rattle.dt_model.specs.Valid.{node_count, IsNoDeeper}
use Rattle.dt_model.specs.Format.{begin_node, end_node, prop}
use Rattle.dt_model.specs.Checks.{Position, front, is_behind, may_be_called, has_room, lead, lead_all}
use Rattle.dt_trees.specs.Placed.{Nodes, no_nodes, node, forest_of}
use Rattle.dt_read.specs.Marks.{Mark, begin_mark, end_mark, prop_mark, nop_mark, last_mark, token_of, Root, marks_of_nodes, marks_of, without_nop_marks}
use Rattle.dt_read.specs.TreeTokens.{AreNamed}
use Rattle.dt_read.proofs.Tokens.{chosen}
use Rattle.dt_model.proofs.NameTests.{node_tests, property_tests}

pub positive : (n : ℕ) → eqb n 0 ≡ false → 0 < n
positive zero e = absurd cc
positive (suc n) e = omega arith

-- ---- tokens that lead on

pub record Begins (name : Name) (p q : Position) : Type 0 where
  pub open_still : is_behind p ≡ false
  pub called : may_be_called p name ≡ true
  pub room : has_room p ≡ true
  pub next : record { depth = p.depth + 1; late = false; nodes = p.nodes + 1 } ≡ q

pub begins : (name : Name) (p q : Position) → lead (begin_node name) p ≡ Some q → Begins name p q
begins name p q e = by_tests (is_behind p) (may_be_called p name) (has_room p) refl refl refl e
  where
    by_tests : (a b c : Bool) → is_behind p ≡ a → may_be_called p name ≡ b → has_room p ≡ c → cond (a || not (b && c)) None (Some (record { depth = p.depth + 1; late = false; nodes = p.nodes + 1 })) ≡ Some q → Begins name p q
    by_tests true b c x y z e = absurd cc
    by_tests false true true x y z e = record { open_still = x; called = y; room = z; next = same_Some _ q e }
    by_tests false true false x y z e = absurd cc
    by_tests false false c x y z e = absurd cc

pub ends : (p q : Position) → lead end_node p ≡ Some q → (0 < p.depth) × (record { depth = p.depth - 1; late = true; nodes = p.nodes } ≡ q)
ends p q e =
    elim (chosen (eqb p.depth 0) _ _ _ e) [
      | inl none ↦ absurd cc
      | inr open_one ↦ (positive p.depth open_one.0, same_Some _ q open_one.1)
    ]

pub record Has (x : Property) (p q : Position) : Type 0 where
  pub inside : 0 < p.depth
  pub in_time : p.late ≡ false
  pub named : is_property_name x.name ≡ true
  pub next : p ≡ q

pub has : (x : Property) (p q : Position) → lead (prop x) p ≡ Some q → Has x p q
has x p q e = by_tests (eqb p.depth 0) p.late (is_property_name x.name) refl refl refl e
  where
    by_tests : (a b c : Bool) → eqb p.depth 0 ≡ a → p.late ≡ b → is_property_name x.name ≡ c → cond (a || b || not c) None (Some p) ≡ Some q → Has x p q
    by_tests true b c u v w e = absurd cc
    by_tests false true c u v w e = absurd cc
    by_tests false false true u v w e = record { inside = positive p.depth u; in_time = v; named = w; next = same_Some p q e }
    by_tests false false false u v w e = absurd cc

-- ---- what leads on is a tree's

-- the rest of each open node, the innermost first: its children that are left, and its end
abbrev closing : List Nodes → List Mark
closing [] = []
closing (nodes ∷ levels) = marks_of_nodes nodes ++ end_mark ∷ closing levels

abbrev LevelsFine : ℕ → List Nodes → Type 0
LevelsFine depth [] = Unit {0}
LevelsFine depth (nodes ∷ levels) = AreNamed nodes × IsNoDeeper 64 depth (forest_of nodes) × LevelsFine (depth - 1) levels

abbrev levels_count : List Nodes → ℕ
levels_count [] = 0
levels_count (nodes ∷ levels) = node_count (forest_of nodes) + levels_count levels

record Closes (marks : List Mark) (p : Position) : Type 0 where
  properties : List Property
  levels : List Nodes
  tokens : without_nop_marks marks ≡ map prop_mark properties ++ closing levels
  deep : length levels ≡ p.depth
  in_time : p.late ≡ true → properties ≡ []
  names : AllByRecursion (λ x. IsPropertyName x.name) properties
  fine : LevelsFine p.depth levels
  few : p.nodes + levels_count levels ≤ 65536

two_levels : (levels : List Nodes) (depth : ℕ) → length levels ≡ depth + 1 → 0 < depth → (f : Nodes) × (g : Nodes) × (more : List Nodes) × (levels ≡ f ∷ g ∷ more)
two_levels [] depth e lt = absurd (omega arith)
two_levels (f ∷ []) depth e lt = absurd (omega arith)
two_levels (f ∷ g ∷ more) depth e lt = (f, g, more, refl)

has_room_is : (p : Position) → has_room p ≡ true → (p.depth ≤ 64) × (p.nodes < 65536)
has_room_is p e = by_tests (leb p.depth 64) (ltb p.nodes 65536) refl refl e
  where
    by_tests : (a b : Bool) → leb p.depth 64 ≡ a → ltb p.nodes 65536 ≡ b → a && b ≡ true → (p.depth ≤ 64) × (p.nodes < 65536)
    by_tests true true u v e = (leb-true p.depth 64 u, ltb-true p.nodes 65536 v)
    by_tests true false u v e = absurd cc
    by_tests false b u v e = absurd cc

called_inside : (p : Position) (name : Name) → 0 < p.depth → may_be_called p name ≡ true → IsNodeName name
called_inside p name inside e =
    elim (chosen (eqb p.depth 0) _ _ _ e) [
      | inl root ↦ let zero-is = eqb-true p.depth 0 root.0 in absurd (omega arith)
      | inr below ↦ (node_tests name).0 below.1
    ]

-- a node begins inside another
begin_closes : (place : ℕ) (name : Name) (marks : List Mark) (p : Position) → 0 < p.depth → IsNodeName name → p.depth ≤ 64
    → Closes marks (record { depth = p.depth + 1; late = false; nodes = p.nodes + 1 }) → Closes (begin_mark place name ∷ marks) p
begin_closes place name marks p inside named room c =
    let l = two_levels c.levels p.depth c.deep inside in
    let f = l.0 in
    let g = l.1 in
    let more = l.2 in
    let fine : LevelsFine (p.depth + 1) (f ∷ g ∷ more) = subst (LevelsFine (p.depth + 1)) l.3 c.fine in
    let back : p.depth + 1 - 1 ≡ p.depth = omega arith in
    let outer : LevelsFine p.depth (g ∷ more) = subst (λ (d : ℕ). LevelsFine d (g ∷ more)) back fine.2 in
    let tokens : without_nop_marks marks ≡ map prop_mark c.properties ++ (marks_of_nodes f ++ end_mark ∷ (marks_of_nodes g ++ end_mark ∷ closing more)) = c.tokens ∙ ap (λ (x : List Nodes). map prop_mark c.properties ++ closing x) l.3 in
    let count : levels_count c.levels ≡ node_count (forest_of f) + (node_count (forest_of g) + levels_count more) = ap levels_count l.3 in
    record {
      properties = [];
      levels = node place name c.properties f g ∷ more;
      tokens = ap (λ (x : List Mark). begin_mark place name ∷ x) (tokens ∙ simp append_assoc);
      deep = let e = ap length l.3 in let d = c.deep in omega arith;
      in_time = λ _. refl;
      names = tt;
      fine = ((named, c.names, fine.0, outer.0), (room, fine.1, outer.1), outer.2);
      few = let few = c.few in omega arith;
    }

-- a step that gave a value
pub then_some : {A B : Type 0} (f : A → Option B) (o : Option A) (y : B) → option_and_then f o ≡ Some y → (x : A) × (o ≡ Some x) × (f x ≡ Some y)
then_some f None y e = absurd cc
then_some f (Some x) y e = (x, refl, e)

end_closes : (marks : List Mark) (p : Position) → 0 < p.depth → Closes marks (record { depth = p.depth - 1; late = true; nodes = p.nodes }) → Closes (end_mark ∷ marks) p
end_closes marks p inside c =
    let none = c.in_time refl in
    record {
      properties = [];
      levels = no_nodes ∷ c.levels;
      tokens = ap (λ (x : List Mark). end_mark ∷ x) (c.tokens ∙ ap (λ (x : List Property). map prop_mark x ++ closing c.levels) none);
      deep = let d = c.deep in omega arith;
      in_time = λ _. refl;
      names = tt;
      fine = (tt, tt, c.fine);
      few = let few = c.few in omega arith;
    }

prop_closes : (x : Property) (marks : List Mark) (p : Position) → p.late ≡ false → IsPropertyName x.name → Closes marks p → Closes (prop_mark x ∷ marks) p
prop_closes x marks p in_time named c = record {
  properties = x ∷ c.properties;
  levels = c.levels;
  tokens = ap (λ (y : List Mark). prop_mark x ∷ y) c.tokens;
  deep = c.deep;
  in_time = λ e. absurd cc;
  names = (named, c.names);
  fine = c.fine;
  few = c.few;
}

inside_still : (p : Position) → is_behind p ≡ false → (p.depth ≡ 0 → p.late ≡ true) → 0 < p.depth
inside_still p e h = by_test (eqb p.depth 0) refl
  where
    by_test : (b : Bool) → eqb p.depth 0 ≡ b → 0 < p.depth
    by_test true is = let late = h (eqb-true p.depth 0 is) in let both : is_behind p ≡ true = λ i. is i && late i in absurd (false≢true (sym e ∙ both))
    by_test false is = positive p.depth is

closes : (marks : List Mark) (p q : Position) → lead_all (map token_of marks) p ≡ Some q → q.depth ≡ 0 → q.late ≡ true → (p.depth ≡ 0 → p.late ≡ true) → p.nodes ≤ 65536 → Closes marks p
closes [] p q e deep late h small =
    let same : p ≡ q = same_Some p q e in
    let zero-is : p.depth ≡ 0 = ap (λ (x : Position). x.depth) same ∙ deep in
    record { properties = []; levels = []; tokens = refl; deep = sym zero-is; in_time = λ _. refl; names = tt; fine = tt; few = omega arith }
closes (nop_mark ∷ marks) p q e deep late h small =
    let c = closes marks p q e deep late h small in
    record { properties = c.properties; levels = c.levels; tokens = c.tokens; deep = c.deep; in_time = c.in_time; names = c.names; fine = c.fine; few = c.few }
closes (last_mark ∷ marks) p q e deep late h small = absurd cc
closes (end_mark ∷ marks) p q e deep late h small =
    let s = then_some (lead_all (map token_of marks)) (lead end_node p) q e in
    let step = ends p s.0 s.1 in
    let led : lead_all (map token_of marks) (record { depth = p.depth - 1; late = true; nodes = p.nodes }) ≡ Some q = ap (lead_all (map token_of marks)) step.1 ∙ s.2 in
    end_closes marks p step.0 (closes marks (record { depth = p.depth - 1; late = true; nodes = p.nodes }) q led deep late (λ _. refl) small)
closes (prop_mark x ∷ marks) p q e deep late h small =
    let s = then_some (lead_all (map token_of marks)) (lead (prop x) p) q e in
    let step = has x p s.0 s.1 in
    let led : lead_all (map token_of marks) p ≡ Some q = ap (lead_all (map token_of marks)) step.next ∙ s.2 in
    prop_closes x marks p step.in_time ((property_tests x.name).0 step.named) (closes marks p q led deep late h small)
closes (begin_mark place name ∷ marks) p q e deep late h small =
    let s = then_some (lead_all (map token_of marks)) (lead (begin_node name) p) q e in
    let step = begins name p s.0 s.1 in
    let inside = inside_still p step.open_still h in
    let room = has_room_is p step.room in
    let led : lead_all (map token_of marks) (record { depth = p.depth + 1; late = false; nodes = p.nodes + 1 }) ≡ Some q = ap (lead_all (map token_of marks)) step.next ∙ s.2 in
    begin_closes place name marks p inside (called_inside p name inside step.called) room.0
    (closes marks (record { depth = p.depth + 1; late = false; nodes = p.nodes + 1 }) q led deep late (λ z. absurd (omega arith)) (omega arith))

-- ---- the root

-- the tokens of one tree, within the limits
pub record AreOfTree (marks : List Mark) : Type 0 where
  pub tree : Root
  pub tokens : without_nop_marks marks ≡ marks_of tree
  pub properties : AllByRecursion (λ x. IsPropertyName x.name) tree.properties
  pub nodes : AreNamed tree.children
  pub depth : IsNoDeeper 64 1 (forest_of tree.children)
  pub count : 1 + node_count (forest_of tree.children) ≤ 65536

one_level : (levels : List Nodes) → length levels ≡ 1 → (f : Nodes) × (levels ≡ f ∷ [])
one_level [] e = absurd (omega arith)
one_level (f ∷ []) e = (f, refl)
one_level (f ∷ g ∷ more) e = absurd (omega arith)

nil_length : (xs : List ℕ) → eqb (length xs) 0 ≡ true → xs ≡ []
nil_length xs e = nil_from_length xs (eqb-true (length xs) 0 e)

root_closes : (place : ℕ) (name : Name) (marks : List Mark) → name ≡ [] → Closes marks (record { depth = 1; late = false; nodes = 1 }) → AreOfTree (begin_mark place name ∷ marks)
root_closes place name marks unnamed c =
    let l = one_level c.levels c.deep in
    let f = l.0 in
    let fine : LevelsFine 1 (f ∷ []) = subst (LevelsFine 1) l.1 c.fine in
    let count : levels_count c.levels ≡ node_count (forest_of f) + 0 = ap levels_count l.1 in
    record {
      tree = record { place = place; properties = c.properties; children = f };
      tokens = ap (λ (n : Name). begin_mark place n ∷ without_nop_marks marks) unnamed ∙ ap (λ (x : List Mark). begin_mark place [] ∷ x) (c.tokens ∙ ap (λ (x : List Nodes). map prop_mark c.properties ++ closing x) l.1);
      properties = c.names;
      nodes = fine.0;
      depth = fine.1;
      count = let few = c.few in omega arith;
    }

pub tree_of_led : (marks : List Mark) (q : Position) → lead_all (map token_of marks) front ≡ Some q → q.depth ≡ 0 → q.late ≡ true → AreOfTree marks
tree_of_led [] q e deep late = let same = ap (λ (x : Position). x.late) (same_Some front q e) in absurd cc
tree_of_led (nop_mark ∷ marks) q e deep late =
    let t = tree_of_led marks q e deep late in
    record { tree = t.tree; tokens = t.tokens; properties = t.properties; nodes = t.nodes; depth = t.depth; count = t.count }
tree_of_led (last_mark ∷ marks) q e deep late = absurd cc
tree_of_led (end_mark ∷ marks) q e deep late = absurd cc
tree_of_led (prop_mark x ∷ marks) q e deep late = absurd cc
tree_of_led (begin_mark place name ∷ marks) q e deep late =
    let s = then_some (lead_all (map token_of marks)) (lead (begin_node name) front) q e in
    let step = begins name front s.0 s.1 in
    let led : lead_all (map token_of marks) (record { depth = 1; late = false; nodes = 1 }) ≡ Some q = ap (lead_all (map token_of marks)) step.next ∙ s.2 in
    root_closes place name marks (nil_length name step.called) (closes marks (record { depth = 1; late = false; nodes = 1 }) q led deep late (λ z. absurd (omega arith)) (omega arith))
