-- The nodes of a mirror, and what they list for their counterparts.
use Rattle.std.proofs.Common.{◌≡◌, ℕ, Bool, true, false, List, [], ◌∷◌, ◌++◌, Option, Some, None, is_some, refl, sym, ap, subst, ◌∙◌, inl, inr, append_assoc, true≢false}
use Rattle.std.specs.Prelude.{codes, option_and_then, if◌then◌else◌}
use Rattle.std.specs.List.{AllByRecursion, flat_map}
use Rattle.std.specs.Str.{bytes_eq}
use Rattle.std.proofs.lemmas.List.{append-nil}
use Rattle.std.proofs.lemmas.List.Concat.{flat_map-append}
use Rattle.dt_model.specs.Names.{Name}
use Rattle.dt_model.specs.Path.{Path}
use Rattle.dt_model.specs.Lists.{IsIn}
use Rattle.dt_model.specs.Tree.{Property, Forest, no_nodes, branch, preorder, Node, node_at, node_below, root_of, sibling, stands_in}
use Rattle.dt_model.specs.Valid.{names}
use Rattle.dt_model.specs.Object.{Cell, cells_of, properties_of, nodes_from}
use Rattle.dt_model.proofs.Tests.{bytes_eq_true, each_in}
use Rattle.dt_overlay_laws.specs.Objects.{IsLocalFixup, IsMirror}
use Rattle.dt_overlay_object.specs.declared.kept.Write.{Write as KeptWrite}
use Rattle.dt_overlay_object.specs.Plans.{ListsLocalFixups}
use Rattle.dt_overlay_read.specs.LocalFixups.{AreCounterparts, AreMirrors, HasBadMirror, ListsCells, ListsProperties, ListsMirror, ListsMirrors, property_cells, mirror_cells, mirror_of}
use Rattle.dt_overlay_read.proofs.LocalFixupsLists.{cells-none, cells-append}
use Rattle.dt_overlay_read.proofs.RootChildren.{found_properties}
use Rattle.dt_trees.specs.Placed.{PlacedTree, reading_of, place_of, path_at, last_name, properties_at, properties_found, forest_under, below_at, HasPlacesApart, IsAt, IsNode}
use Rattle.dt_trees.proofs.NodePlaces.{path_is, at_node, stands_place}
use Rattle.dt_trees.proofs.Walked.{last_of, node_before}

-- a node stands
stands : (t : PlacedTree) (k : ℕ) → IsNode t k → stands_in (reading_of t) (path_at t k) ≡ true
stands t k is = sym (stands_place t (path_at t k)) ∙ ap is_some is

-- ---- children

-- what is below a path's node by a name is a child of that name
sibling_among : (f : Forest) (x : Name) (c : Node) (g : Node → Option Node) → option_and_then g (sibling f x) ≡ Some c → IsIn x (names f)
sibling_among no_nodes x c g h = absurd (let none : None ≡ Some c = h in cc)
sibling_among (branch y ps cs ss) x c g h = step (bytes_eq x y) refl (sibling_among ss x c g) h
  where
    step : (b : Bool) → bytes_eq x y ≡ b → (option_and_then g (sibling ss x) ≡ Some c → IsIn x (names ss)) → option_and_then g (if b then Some (record { properties = ps; children = cs }) else sibling ss x) ≡ Some c → IsIn x (y ∷ names ss)
    step true same more k = inl (bytes_eq_true x y same)
    step false other more k = inr (more k)

child_among : (p : Path) (n c : Node) (x : Name) (q : Path) → node_below n (p ++ x ∷ q) ≡ Some c → IsIn x (names (forest_under (node_below n p)))
child_among [] n c x q e = sibling_among n.children x c (λ s. node_below s q) e
child_among (y ∷ p) n c x q e = step (sibling n.children y) (λ s k. child_among p s c x q k) e
  where
    step : (o : Option Node) → ((s : Node) → node_below s (p ++ x ∷ q) ≡ Some c → IsIn x (names (forest_under (node_below s p)))) → option_and_then (λ s. node_below s (p ++ x ∷ q)) o ≡ Some c
        → IsIn x (names (forest_under (option_and_then (λ s. node_below s p) o)))
    step None more k = absurd (let none : None ≡ Some c = k in cc)
    step (Some s) more k = more s k

stands_among : (t : PlacedTree) (p : Path) (x : Name) (q : Path) → stands_in (reading_of t) (p ++ x ∷ q) ≡ true → IsIn x (names (below_at t p))
stands_among t p x q some = by (node_at (reading_of t) (p ++ x ∷ q)) refl some
  where
    by : (o : Option Node) → node_at (reading_of t) (p ++ x ∷ q) ≡ o → is_some o ≡ true → IsIn x (names (below_at t p))
    by None e h = absurd (true≢false (sym h))
    by (Some c) e h = child_among p (root_of (reading_of t)) c x q e

-- ---- counterparts

module _ (t : PlacedTree) (apart : HasPlacesApart t) (mirror node child : ℕ) (at : AreCounterparts t mirror node) (x : Name) (path : path_at t child ≡ path_at t mirror ++ x ∷ []) where
  abbrev pub child_path : Path
  child_path = path_at t node ++ x ∷ []

  pub child_mirror : path_at t child ≡ mirror_of child_path
  child_mirror = path ∙ ap (λ (p : Path). p ++ x ∷ []) at.mirrored

  pub child_name : last_name (path_at t child) ≡ x
  child_name = ap last_name path ∙ last_of (path_at t mirror) x

  -- a child of the mirror, and the child of that name
  pub counterpart_path : (name : Name) (counterpart : ℕ) → name ≡ last_name (path_at t child) → Some counterpart ≡ place_of t (path_at t node ++ name ∷ []) → path_at t counterpart ≡ child_path
  counterpart_path name counterpart named found =
      path_is t apart child_path counterpart (sym (found ∙ ap (λ (y : Name). place_of t (path_at t node ++ y ∷ [])) (named ∙ child_name)))

  pub child_counterparts : (name : Name) (counterpart : ℕ) → IsNode t child → IsNode t counterpart → name ≡ last_name (path_at t child) → Some counterpart ≡ place_of t (path_at t node ++ name ∷ []) → AreCounterparts t child counterpart
  child_counterparts name counterpart there here named found = record {
    mirror_there = there;
    node_there = here;
    mirrored = child_mirror ∙ ap mirror_of (sym (counterpart_path name counterpart named found));
  }

  -- the node has no child of that name
  pub missing : (name : Name) → IsNode t child → name ≡ last_name (path_at t child) → None ≡ place_of t (path_at t node ++ name ∷ []) → HasBadMirror (reading_of t)
  missing name there named none =
      let nothing : place_of t child_path ≡ None = sym (none ∙ ap (λ (y : Name). place_of t (path_at t node ++ y ∷ [])) (named ∙ child_name)) in
      (child_path, ap (stands_in (reading_of t)) (sym child_mirror) ∙ stands t child there, λ is. true≢false (sym is.stands ∙ sym (stands_place t child_path) ∙ ap is_some nothing))

module _ (t : PlacedTree) (mirror node : ℕ) (at : AreCounterparts t mirror node) where
  -- what the mirror's node lists
  mirror_listed : properties_of (node_at (reading_of t) (mirror_of (path_at t node))) ≡ properties_at t (path_at t mirror)
  mirror_listed = ap (λ (p : Path). properties_of (node_at (reading_of t) p)) (sym at.mirrored) ∙ found_properties (node_at (reading_of t) (path_at t mirror))

  -- a property of the mirror isn't as it has to be
  pub bad_property : (x : Property) → IsIn x (properties_at t (path_at t mirror)) → ¬ IsLocalFixup (reading_of t) (path_at t node) x → HasBadMirror (reading_of t)
  bad_property x i bad = (
    path_at t node,
    ap (stands_in (reading_of t)) (sym at.mirrored) ∙ stands t mirror at.mirror_there,
    λ is. bad (each_in (IsLocalFixup (reading_of t) (path_at t node)) (properties_at t (path_at t mirror)) x
        (subst (AllByRecursion (IsLocalFixup (reading_of t) (path_at t node))) mirror_listed is.properties) i),
  )

  -- its properties are as they have to be, and so are its children with those below them
  pub are_mirrors : AllByRecursion (IsLocalFixup (reading_of t) (path_at t node)) (properties_at t (path_at t mirror))
      → AllByRecursion (λ x. AreMirrors (reading_of t) (path_at t node ++ x ∷ [])) (names (below_at t (path_at t mirror))) → AreMirrors (reading_of t) (path_at t node)
  are_mirrors own others [] here =
      subst (IsMirror (reading_of t)) (sym (append-nil (path_at t node))) (record {
        stands = stands t node at.node_there;
        properties = subst (AllByRecursion (IsLocalFixup (reading_of t) (path_at t node))) (sym mirror_listed) own;
      })
  are_mirrors own others (x ∷ q) here =
      let p = path_at t node in
      let among : IsIn x (names (below_at t (path_at t mirror))) = subst (λ (r : Path). IsIn x (names (below_at t r))) (sym at.mirrored) (stands_among t (mirror_of p) x q here) in
      let same : (p ++ x ∷ []) ++ q ≡ p ++ x ∷ q = append_assoc p (x ∷ []) q in
      subst (IsMirror (reading_of t)) same
      (each_in (λ y. AreMirrors (reading_of t) (p ++ y ∷ [])) (names (below_at t (path_at t mirror))) x others among q
      (subst (λ (r : Path). stands_in (reading_of t) (mirror_of r) ≡ true) (sym same) here))

-- ---- lists

module _ (t : PlacedTree) (numbers : List (Path × ℕ)) (p : Path) where
  -- nothing is listed for no nodes
  pub mirrors-none : (out : List KeptWrite) → ListsMirrors t numbers p no_nodes out out
  mirrors-none out = record { listed = cells-none t numbers out; well = tt }

  -- a node of the mirror with those below it, and others behind it
  pub mirrors-more : (k : ℕ) (x : Name) (rest : Forest) (a b c : List KeptWrite) → path_at t k ≡ mirror_of (p ++ x ∷ []) → last_name (path_at t k) ≡ x → ListsMirror t numbers (p ++ x ∷ []) a b
      → ListsMirrors t numbers p rest b c → ListsMirrors t numbers p (node_before t k rest) a c
  mirrors-more k x rest a b c mirrored named f g = record {
    listed = subst (λ (cells : List Cell). ListsCells t numbers cells a c) split (cells-append t numbers (mirror_cells t (p ++ x ∷ [])) (flat_map cells_of (preorder p rest)) a b c f.listed g.listed);
    well = (subst (λ (y : Name). AreMirrors (reading_of t) (p ++ y ∷ [])) (sym named) f.well, g.well);
  }
    where
      own : Path → Path → List Cell
      own q r = cells_of (record { path = q; properties = properties_at t r })

      inside : Path → Path → List Cell
      inside q r = flat_map cells_of (preorder q (below_at t r))

      here : Path
      here = p ++ last_name (path_at t k) ∷ []

      whole : own here (path_at t k) ++ (inside here (path_at t k) ++ flat_map cells_of (preorder p rest)) ≡ flat_map cells_of (preorder p (node_before t k rest))
      whole = ap (λ (cs : List Cell). own here (path_at t k) ++ cs) (sym (flat_map-append cells_of (preorder here (below_at t (path_at t k))) (preorder p rest)))

      split : mirror_cells t (p ++ x ∷ []) ++ flat_map cells_of (preorder p rest) ≡ flat_map cells_of (preorder p (node_before t k rest))
      split =
          append_assoc (own (p ++ x ∷ []) (mirror_of (p ++ x ∷ []))) (inside (p ++ x ∷ []) (mirror_of (p ++ x ∷ []))) (flat_map cells_of (preorder p rest))
          ∙ (λ i. own (p ++ sym named i ∷ []) (sym mirrored i) ++ (inside (p ++ sym named i ∷ []) (sym mirrored i) ++ flat_map cells_of (preorder p rest)))
          ∙ whole

-- a node's properties, and then its children
pub mirror_whole : (t : PlacedTree) (numbers : List (Path × ℕ)) (mirror node : ℕ) (a b c : List KeptWrite) → AreCounterparts t mirror node
    → ListsProperties t numbers (path_at t node) (properties_at t (path_at t mirror)) a b → ListsMirrors t numbers (path_at t node) (below_at t (path_at t mirror)) b c → ListsMirror t numbers (path_at t node) a c
mirror_whole t numbers mirror node a b c at own others = record {
  listed = subst (λ (r : Path). ListsCells t numbers (flat_map (property_cells (path_at t node)) (properties_at t r) ++ flat_map cells_of (preorder (path_at t node) (below_at t r))) a c) at.mirrored
      (cells-append t numbers (flat_map (property_cells (path_at t node)) (properties_at t (path_at t mirror))) (flat_map cells_of (preorder (path_at t node) (below_at t (path_at t mirror)))) a b c own.listed others.listed);
  well = are_mirrors t mirror node at own.well others.well;
}

-- ---- the whole mirror

-- the mirror of the root
pub root_counterparts : (t : PlacedTree) → HasPlacesApart t → (mirror root : ℕ) → IsAt t [] root → IsAt t (mirror_of []) mirror → AreCounterparts t mirror root
root_counterparts t apart mirror root at found = record {
  mirror_there = at_node t apart (mirror_of []) mirror found;
  node_there = at_node t apart [] root at;
  mirrored = path_is t apart (mirror_of []) mirror found ∙ ap mirror_of (sym (path_is t apart [] root at));
}

-- what it lists is what the object lists
pub whole_mirror : (t : PlacedTree) (numbers : List (Path × ℕ)) (mirror : ℕ) (old new : List KeptWrite) → IsAt t (mirror_of []) mirror → ListsMirror t numbers [] old new → ListsLocalFixups t numbers old new
whole_mirror t numbers mirror old new at f =
    let all = subst (λ (cells : List Cell). ListsCells t numbers cells old new) (same (node_at (reading_of t) (mirror_of [])) (sym (stands_place t (mirror_of [])) ∙ ap is_some at)) f.listed in
    record { more = all.more; appended = all.appended; writes = all.writes; cells = all.there; well = f.well }
  where
    same : (o : Option Node) → is_some o ≡ true → flat_map cells_of (record { path = []; properties = properties_found o } ∷ preorder [] (forest_under o)) ≡ flat_map cells_of (nodes_from o)
    same None some = absurd (true≢false (sym some))
    same (Some n) some = refl

-- where there is none, nothing is listed
pub no_mirror : (t : PlacedTree) (numbers : List (Path × ℕ)) (out : List KeptWrite) → place_of t (mirror_of []) ≡ None → ListsLocalFixups t numbers out out
no_mirror t numbers out nowhere =
    let all = subst (λ (cells : List Cell). ListsCells t numbers cells out out) (nothing (node_at (reading_of t) (mirror_of [])) refl) (cells-none t numbers out) in
    record { more = all.more; appended = all.appended; writes = all.writes; cells = all.there; well = λ p here. absurd (never p here) }
  where
    none : is_some (node_at (reading_of t) (mirror_of [])) ≡ false
    none = sym (stands_place t (mirror_of [])) ∙ ap is_some nowhere

    nothing : (o : Option Node) → node_at (reading_of t) (mirror_of []) ≡ o → [] ≡ flat_map cells_of (nodes_from o)
    nothing None e = refl
    nothing (Some n) e = absurd (true≢false (sym (ap is_some e) ∙ none))

    never : (p : Path) → stands_in (reading_of t) (mirror_of p) ≡ true → ⊥
    never p here = by (sibling (reading_of t).children (codes "__local_fixups__")) refl here
      where
        by : (o : Option Node) → sibling (reading_of t).children (codes "__local_fixups__") ≡ o → is_some (option_and_then (λ c. node_below c p) o) ≡ true → ⊥
        by None e h = true≢false (sym h)
        by (Some c) e h = true≢false (sym (ap is_some (ap (option_and_then (λ s. node_below s [])) e)) ∙ none)
