-- The nodes of an instance are those of the named tree, with numbered properties.
use Rattle.std.proofs.Common.{◌≡◌, ℕ, zero, suc, ◌+◌, Bool, true, false, List, [], ◌∷◌, ◌++◌, map, length, refl, sym, ap, subst, ◌∙◌, inl, inr, Option, Some, None, arith}
use Rattle.std.specs.Prelude.{option_and_then}
use Rattle.std.specs.Str.{bytes_eq}
use Rattle.dt_model.specs.Limits.{most_names}
use Rattle.dt_model.specs.Names.{Name}
use Rattle.dt_model.specs.Path.{Path}
use Rattle.dt_model.specs.Lists.{IsIn}
use Rattle.dt_model.specs.Numbers as reading
use Rattle.dt_model.specs.Tree as tree
use Rattle.dt_model.specs.Tree.{Placed, Node}
use Rattle.dt_model.specs.Valid as valid
use Rattle.dt_model.specs.Valid.{AreDistinct, AreNodes, IsNoDeeper}
use Rattle.dt_model.specs.Named.{NodeReference, NamedForest, no_nodes, branch, Named, NamedNode, NamedPlaced, sibling, node_below, root_of, node_at, names, node_count, preorder, nodes_of, paths_of}
use Rattle.dt_model.specs.NamedOf.{AreNamedNodes}
use Rattle.dt_model.specs.Instance.{numbered_properties, numbered_forest, instance_of}
use Rattle.dt_model_laws.proofs.Places.{HasAt}
use Rattle.dt_model_laws.proofs.NamedListed.{length-preorder}
use Rattle.dt_model_laws.proofs.NumberedProperties.{are_properties}

module _ (numbers : List (Option ℕ)) where
  -- ---- in preorder

  -- these nodes in the instance, where the first of them has number k
  abbrev pub instances : ℕ → List (NamedPlaced NodeReference) → List Placed
  instances k [] = []
  instances k (n ∷ ns) = record { path = n.path; properties = numbered_properties numbers k n.content } ∷ instances (suc k) ns

  instances_append : (k j : ℕ) (xs ys : List (NamedPlaced NodeReference)) → j ≡ k + length xs → instances k (xs ++ ys) ≡ instances k xs ++ instances j ys
  instances_append k j [] ys e = let same : k ≡ j = omega arith in ap (λ i. instances i ys) same
  instances_append k j (x ∷ xs) ys e =
      ap (λ ns. record { path = x.path; properties = numbered_properties numbers k x.content } ∷ ns) (instances_append (suc k) j xs ys (omega arith))

  preorder_numbered : (k : ℕ) (path : Path) (f : NamedForest NodeReference) → tree.preorder path (numbered_forest numbers k f) ≡ instances k (preorder path f)
  preorder_numbered k path no_nodes = refl
  preorder_numbered k path (branch name content children siblings) =
      let l = length-preorder (path ++ name ∷ []) children in
      let a = preorder_numbered (suc k) (path ++ name ∷ []) children in
      let b = preorder_numbered (suc k + node_count children) path siblings in
      ap (λ ns. record { path = path ++ name ∷ []; properties = numbered_properties numbers k content } ∷ ns)
      (ap (λ xs. xs ++ tree.preorder path (numbered_forest numbers (suc k + node_count children) siblings)) a
      ∙ ap (λ ys. instances (suc k) (preorder (path ++ name ∷ []) children) ++ ys) b
      ∙ sym (instances_append (suc k) (suc k + node_count children) (preorder (path ++ name ∷ []) children) (preorder path siblings) (omega (arith, l))))

  pub nodes_numbered : (t : Named NodeReference) → tree.nodes_of (instance_of numbers t) ≡ instances 0 (nodes_of t)
  nodes_numbered t = ap (λ ns. record { path = []; properties = numbered_properties numbers 0 t.content } ∷ ns) (preorder_numbered 1 [] t.children)

  paths_instances : (k : ℕ) (ns : List (NamedPlaced NodeReference)) → map (λ (n : Placed). n.path) (instances k ns) ≡ map (λ (n : NamedPlaced NodeReference). n.path) ns
  paths_instances k [] = refl
  paths_instances k (n ∷ ns) = ap (λ ps. n.path ∷ ps) (paths_instances (suc k) ns)

  pub paths_numbered : (t : Named NodeReference) → reading.paths_of (instance_of numbers t) ≡ paths_of t
  paths_numbered t = ap (map (λ (n : Placed). n.path)) (nodes_numbered t) ∙ paths_instances 0 (nodes_of t)

  -- a node of the instance is a node of the tree
  pub record IsOf (ns : List (NamedPlaced NodeReference)) (k : ℕ) (m : Placed) : Type 0 where
    pub number : ℕ
    pub node : NamedPlaced NodeReference
    pub at : HasAt number node ns
    pub is : m ≡ record { path = node.path; properties = numbered_properties numbers (k + number) node.content }

  pub in_instances : (k : ℕ) (ns : List (NamedPlaced NodeReference)) (m : Placed) → IsIn m (instances k ns) → IsOf ns k m
  in_instances k [] m i = absurd i
  in_instances k (n ∷ ns) m (inl same) = let e : k ≡ k + 0 = omega arith in
      record { number = 0; node = n; at = refl; is = same ∙ ap (λ j. record { path = n.path; properties = numbered_properties numbers j n.content }) e }
  in_instances k (n ∷ ns) m (inr i) =
      let w = in_instances (suc k) ns m i in
      let j = w.number in
      let e : suc k + j ≡ k + suc j = omega arith in
      record { number = suc j; node = w.node; at = w.at; is = w.is ∙ ap (λ i. record { path = w.node.path; properties = numbered_properties numbers i w.node.content }) e }

  pub instances_in : (k j : ℕ) (ns : List (NamedPlaced NodeReference)) (n : NamedPlaced NodeReference) → HasAt j n ns
      → IsIn (record { path = n.path; properties = numbered_properties numbers (k + j) n.content }) (instances k ns)
  instances_in k j [] n h = absurd h
  instances_in k zero (x ∷ ns) n h =
      let e : k + 0 ≡ k = omega arith in
      inl (ap (λ i. record { path = n.path; properties = numbered_properties numbers i n.content }) e ∙ ap (λ (y : NamedPlaced NodeReference). record { path = y.path; properties = numbered_properties numbers k y.content }) h)
  instances_in k (suc j) (x ∷ ns) n h =
      let e : suc k + j ≡ k + suc j = omega arith in
      inr (subst (λ i. IsIn (record { path = n.path; properties = numbered_properties numbers i n.content }) (instances (suc k) ns)) e (instances_in (suc k) j ns n h))

  -- the node of the instance at a place
  abbrev pub instance_node : ℕ → NamedPlaced NodeReference → Placed
  instance_node k n = record { path = n.path; properties = numbered_properties numbers k n.content }

  pub node_from : (t : Named NodeReference) (m : Placed) → IsIn m (tree.nodes_of (instance_of numbers t)) → (k : ℕ) × (n : NamedPlaced NodeReference) × HasAt k n (nodes_of t) × (m ≡ instance_node k n)
  node_from t m i =
      let w = in_instances 0 (nodes_of t) m (subst (IsIn m) (nodes_numbered t) i) in
      let k = w.number in
      let e : 0 + k ≡ k = omega arith in
      (k, w.node, w.at, w.is ∙ ap (λ j. instance_node j w.node) e)

  pub node_in : (t : Named NodeReference) (k : ℕ) (n : NamedPlaced NodeReference) → HasAt k n (nodes_of t) → IsIn (instance_node k n) (tree.nodes_of (instance_of numbers t))
  node_in t k n h =
      let e : 0 + k ≡ k = omega arith in
      subst (IsIn (instance_node k n)) (sym (nodes_numbered t)) (subst (λ j. IsIn (instance_node j n) (instances 0 (nodes_of t))) e (instances_in 0 k (nodes_of t) n h))

  -- ---- names and depths

  pub names_same : (k : ℕ) (f : NamedForest NodeReference) → valid.names (numbered_forest numbers k f) ≡ names f
  names_same k no_nodes = refl
  names_same k (branch name content children siblings) = ap (λ xs. name ∷ xs) (names_same (suc k + node_count children) siblings)

  pub count_same : (k : ℕ) (f : NamedForest NodeReference) → valid.node_count (numbered_forest numbers k f) ≡ node_count f
  count_same k no_nodes = refl
  count_same k (branch name content children siblings) =
      let a = count_same (suc k) children in
      let b = count_same (suc k + node_count children) siblings in
      omega (arith, a, b)

  pub nodes_valid : (nodes depth k : ℕ) (f : NamedForest NodeReference) → AreNamedNodes nodes depth f → AreNodes (numbered_forest numbers k f)
  nodes_valid nodes depth k no_nodes h = tt
  nodes_valid nodes depth k (branch name content children siblings) h = (
    h.0,
    are_properties numbers k content nodes h.1,
    nodes_valid nodes (suc depth) (suc k) children h.4,
    subst AreDistinct (sym (names_same (suc k) children)) h.3,
    nodes_valid nodes depth (suc k + node_count children) siblings h.5,
  )

  pub no_deeper : (nodes depth d k : ℕ) (f : NamedForest NodeReference) → d ≡ depth → AreNamedNodes nodes depth f → IsNoDeeper most_names d (numbered_forest numbers k f)
  no_deeper nodes depth d k no_nodes e h = tt
  no_deeper nodes depth d k (branch name content children siblings) e h =
      let low = h.2 in (
        omega (arith, low),
        no_deeper nodes (suc depth) (d + 1) (suc k) children (omega arith) h.4,
        no_deeper nodes depth d (suc k + node_count children) siblings e h.5,
      )

  -- ---- look-ups

  -- a node of the instance that is one of the tree
  abbrev IsNumberedNode : Node → NamedNode NodeReference → Type 0
  IsNumberedNode m c = (k : ℕ) × (m ≡ record { properties = numbered_properties numbers k c.content; children = numbered_forest numbers (suc k) c.children })

  sibling_same : (k : ℕ) (f : NamedForest NodeReference) (x : Name) (m : Node) → tree.sibling (numbered_forest numbers k f) x ≡ Some m → (c : NamedNode NodeReference) × (sibling f x ≡ Some c) × IsNumberedNode m c
  sibling_same k no_nodes x m e = absurd (let z : None ≡ Some m = e in cc)
  sibling_same k (branch name content children siblings) x m e = step (sibling_same (suc k + node_count children) siblings x m) (bytes_eq x name) refl
    where
      here : Node
      here = record { properties = numbered_properties numbers k content; children = numbered_forest numbers (suc k) children }

      step : (tree.sibling (numbered_forest numbers (suc k + node_count children) siblings) x ≡ Some m → (c : NamedNode NodeReference) × (sibling siblings x ≡ Some c) × IsNumberedNode m c)
          → (b : Bool) → bytes_eq x name ≡ b → (c : NamedNode NodeReference) × (sibling (branch name content children siblings) x ≡ Some c) × IsNumberedNode m c
      step more true h =
          let z : ◌≡◌ {A = Option Node} (Some here) (Some m) = rw h at e in
          let same : m ≡ here = cc in
          (record { content = content; children = children }, rw h refl, (k, same))
      step more false h = let w = more (rw h at e) in (w.0, rw h w.1, w.2)

  below_same : (c : NamedNode NodeReference) (k : ℕ) (p : Path) (m : Node)
      → tree.node_below (record { properties = numbered_properties numbers k c.content; children = numbered_forest numbers (suc k) c.children }) p ≡ Some m
      → (d : NamedNode NodeReference) × (node_below c p ≡ Some d) × IsNumberedNode m d
  below_same c k [] m e = (c, refl, (k, cc))
  below_same c k (x ∷ p) m e = step (λ d j. below_same d j p m) (tree.sibling (numbered_forest numbers (suc k) c.children) x) refl
    where
      step : ((d : NamedNode NodeReference) (j : ℕ) → tree.node_below (record { properties = numbered_properties numbers j d.content; children = numbered_forest numbers (suc j) d.children }) p ≡ Some m
          → (b : NamedNode NodeReference) × (node_below d p ≡ Some b) × IsNumberedNode m b)
          → (o : Option Node) → tree.sibling (numbered_forest numbers (suc k) c.children) x ≡ o → (d : NamedNode NodeReference) × (option_and_then (λ b. node_below b p) (sibling c.children x) ≡ Some d) × IsNumberedNode m d
      step more None h = absurd (let z : None ≡ Some m = rw h at e in cc)
      step more (Some b) h =
          let s = sibling_same (suc k) c.children x b h in
          let z : tree.node_below b p ≡ Some m = rw h at e in
          let w = more s.0 s.2.0 (ap (λ a. tree.node_below a p) (sym s.2.1) ∙ z) in
          (w.0, rw s.1 w.1, w.2)

  -- a node of the instance is the tree's, with children of the same names
  pub node_same : (t : Named NodeReference) (p : Path) (m : Node) → tree.node_at (instance_of numbers t) p ≡ Some m → (c : NamedNode NodeReference) × (node_at t p ≡ Some c) × (valid.names m.children ≡ names c.children)
  node_same t p m e =
      let w = below_same (root_of t) 0 p m e in
      (w.0, w.1, ap (λ (a : Node). valid.names a.children) w.2.1 ∙ names_same (suc w.2.0) (w.0).children)
