-- The whole mirror of a tree.
use Rattle.std.proofs.Common.{◌≡◌, ℕ, ◌+◌, Bool, true, false, cond, ◌||◌, List, [], ◌∷◌, length, map, drop, codes, refl, sym, ap, ◌∙◌, subst, arith}
use Rattle.std.proofs.lemmas.List.{append-nil}
use Rattle.dt_model.specs.Fixups.{local_properties, mirror}
use Rattle.dt_model.specs.Named.{NodeReference, Content, Named, NamedForest, Listed, node_count, listed, list_of, content_of_root, names}
use Rattle.dt_source_named_tree.specs.Said.{node_said}
use Rattle.dt_source_named_tree.specs.declared.named.NamedNode.{NamedNode}
use Rattle.dt_model.specs.NamedOf.{IsNamed}
use Rattle.dt_model.specs.Tree.{no_nodes, branch}
use Rattle.dt_flat.specs.Arena.{Slot, with_child}
use Rattle.dt_flat.specs.Planted.{planted}
use Rattle.dt_flat.proofs.AfterChild.{childless-with_child}
use Rattle.dt_marks.specs.Cells.{has_cells}
use Rattle.dt_marks.specs.Mirrored.{has_some, marked_at, needed_by, mirrored, with_mirror_root, with_inside, MayMirror}
use Rattle.dt_marks.proofs.Marks.{holds_local}
use Rattle.dt_marks.proofs.Needed.{has_nodes, unless, before_forest, needed_forest}
use Rattle.dt_marks.proofs.Copies.{walk_copies, length-made_node, children-with_properties, free_childless}

-- what the nodes behind the root need of it
pub root_needed : (f : NamedForest NodeReference) → needed_by 1 (listed 1 0 f) 0 ≡ has_nodes (mirror f)
root_needed f =
    ap (λ (ns : List (Listed NodeReference)). needed_by 1 ns 0) (sym (append-nil (listed 1 0 f)))
    ∙ before_forest f [] 1 0 (omega arith) (λ j lo hi. refl) 0 (omega arith)

pub record Whole (needed : ℕ → Bool) (slots : List Slot) (t : Named NodeReference) : Type 0 where
  pub is : mirrored needed 1 (with_mirror_root slots t.content) (length slots ∷ []) (listed 1 0 t.children) ≡ planted (with_mirror_root slots t.content) (length slots) (mirror t.children)
  pub may : MayMirror needed 1 (with_mirror_root slots t.content) (length slots ∷ []) (listed 1 0 t.children)

pub whole_mirror : (needed : ℕ → Bool) (slots : List Slot) (t : Named NodeReference) → IsNamed t → ((j : ℕ) → needed j ≡ needed_by 1 (listed 1 0 t.children) j) → Whole needed slots t
whole_mirror needed slots t valid agrees =
    let all = append-nil (listed 1 0 t.children) in
    let i = length slots in
    let root = with_mirror_root slots t.content in
    let size = length-made_node slots 0 (codes "__local_fixups__") (local_properties t.content) in
    let wants = needed_forest needed t.children [] 1 0 (omega arith) (λ j lo hi. refl) (λ j le. agrees j ∙ ap (λ (ns : List (Listed NodeReference)). needed_by 1 ns j) (sym all)) in
    let childless = children-with_properties (with_child slots 0 (codes "__local_fixups__")) i (local_properties t.content) i ∙ childless-with_child slots 0 (codes "__local_fixups__") in
    let w = walk_copies needed (1 + node_count t.children) 1 t.children [] 1 0 (omega arith) wants.0 valid.nodes valid.siblings i root (i ∷ []) (record {
      counted = refl;
      at = refl;
      there = omega arith;
      free = λ some. free_childless root i (names t.children) childless;
    }) in
    record {
      is = ap (mirrored needed 1 root (i ∷ [])) (sym all) ∙ w.is;
      may = subst (MayMirror needed 1 root (i ∷ [])) all (w.may tt);
    }

-- where the root is needed, or isn't
pub inside_wanted : (slots : List Slot) (t : Named NodeReference) → (has_nodes (mirror t.children) || has_some (local_properties t.content)) ≡ true
    → planted (with_mirror_root slots t.content) (length slots) (mirror t.children) ≡ with_inside slots t
inside_wanted slots t some =
    ap (planted slots 0)
    (sym (unless (codes "__local_fixups__") (local_properties t.content) (mirror t.children) no_nodes
    ∙ ap (λ (b : Bool). cond b (branch (codes "__local_fixups__") (local_properties t.content) (mirror t.children) no_nodes) no_nodes) (turned (has_nodes (mirror t.children)) (has_some (local_properties t.content)) ∙ some)))
  where
    turned : (a b : Bool) → (b || a) ≡ (a || b)
    turned true true = refl
    turned true false = refl
    turned false true = refl
    turned false false = refl

pub inside_unwanted : (slots : List Slot) (t : Named NodeReference) → (has_nodes (mirror t.children) || has_some (local_properties t.content)) ≡ false → slots ≡ with_inside slots t
inside_unwanted slots t none =
    ap (planted slots 0)
    (sym (unless (codes "__local_fixups__") (local_properties t.content) (mirror t.children) no_nodes
    ∙ ap (λ (b : Bool). cond b (branch (codes "__local_fixups__") (local_properties t.content) (mirror t.children) no_nodes) no_nodes) (turned (has_nodes (mirror t.children)) (has_some (local_properties t.content)) ∙ none)))
  where
    turned : (a b : Bool) → (b || a) ≡ (a || b)
    turned true true = refl
    turned true false = refl
    turned false true = refl
    turned false false = refl

-- the root of a list of nodes, and those behind it
pub record Parts (t : Named NodeReference) (root : NamedNode) (others : List NamedNode) : Type 0 where
  pub content : t.content ≡ (node_said root).content
  pub rest : listed 1 0 t.children ≡ map node_said others

pub parts : (t : Named NodeReference) (nodes others : List NamedNode) (root : NamedNode) → list_of t ≡ map node_said nodes → nodes ≡ root ∷ others → Parts t root others
parts t nodes others root are first =
    let whole : list_of t ≡ node_said root ∷ map node_said others = are ∙ ap (map node_said) first in
    record { content = ap content_of_root whole; rest = ap (drop 1) whole }

-- the marks are on the nodes that those behind the root need
abbrev pub AreMarked : List Bool → List NamedNode → Type 0
AreMarked marks others = (j : ℕ) → marked_at marks j ≡ needed_by 1 (map node_said others) j

-- the root is marked or holds cells where the node isn't empty
pub root_wanted : (t : Named NodeReference) (root : NamedNode) (others : List NamedNode) (marks : List Bool) → Parts t root others → AreMarked marks others
    → (marked_at marks 0 || has_cells root.properties.items) ≡ (has_nodes (mirror t.children) || has_some (local_properties t.content))
root_wanted t root others marks p marked =
    let below : marked_at marks 0 ≡ has_nodes (mirror t.children) =
    marked 0 ∙ ap (λ (ns : List (Listed NodeReference)). needed_by 1 ns 0) (sym p.rest) ∙ root_needed t.children in
    let own : has_cells root.properties.items ≡ has_some (local_properties t.content) =
    holds_local root ∙ ap (λ (x : Content NodeReference). has_some (local_properties x)) (sym p.content) in
    λ i. below i || own i

-- the nodes that are marked, made again, are the mirror
pub record Made (slots : List Slot) (t : Named NodeReference) (root : NamedNode) (others : List NamedNode) (marks : List Bool) : Type 0 where
  pub is : mirrored (marked_at marks) 1 (with_mirror_root slots (node_said root).content) (length slots ∷ []) (map node_said others) ≡ planted (with_mirror_root slots t.content) (length slots) (mirror t.children)
  pub may : MayMirror (marked_at marks) 1 (with_mirror_root slots (node_said root).content) (length slots ∷ []) (map node_said others)

pub made : (slots : List Slot) (t : Named NodeReference) (root : NamedNode) (others : List NamedNode) (marks : List Bool) → IsNamed t → Parts t root others → AreMarked marks others → Made slots t root others marks
made slots t root others marks valid p marked =
    let needed = marked_at marks in
    let w = whole_mirror needed slots t valid (λ j. marked j ∙ ap (λ (ns : List (Listed NodeReference)). needed_by 1 ns j) (sym p.rest)) in
    record {
      is = (λ i. mirrored needed 1 (with_mirror_root slots (sym p.content i)) (length slots ∷ []) (sym p.rest i)) ∙ w.is;
      may = subst (MayMirror needed 1 (with_mirror_root slots (node_said root).content) (length slots ∷ [])) p.rest
          (subst (λ (x : Content NodeReference). MayMirror needed 1 (with_mirror_root slots x) (length slots ∷ []) (listed 1 0 t.children)) p.content w.may);
    }

pub made_inside : (slots : List Slot) (t : Named NodeReference) (root : NamedNode) (others : List NamedNode) (marks : List Bool) → IsNamed t → Parts t root others → AreMarked marks others
    → (marked_at marks 0 || has_cells root.properties.items) ≡ true
    → mirrored (marked_at marks) 1 (with_mirror_root slots (node_said root).content) (length slots ∷ []) (map node_said others) ≡ with_inside slots t
made_inside slots t root others marks valid p marked wanted =
    (made slots t root others marks valid p marked).is ∙ inside_wanted slots t (sym (root_wanted t root others marks p marked) ∙ wanted)
