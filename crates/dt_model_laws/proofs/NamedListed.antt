-- The nodes of a named tree in preorder are the nodes that paths lead to, where siblings differ in their names.
use Rattle.std.proofs.Common.{◌≡◌, ◌≢◌, ◌+◌, Bool, true, false, [], ◌∷◌, ◌++◌, length, length-append, refl, sym, ap, subst, ◌∙◌, ◌⊎◌, inl, inr, Option, Some, None, append_assoc, arith}
use Rattle.std.specs.Prelude.{option_and_then}
use Rattle.std.specs.List.{AllByRecursion}
use Rattle.std.specs.Str.{bytes_eq}
use Rattle.dt_model.specs.Names.{Name}
use Rattle.dt_model.specs.Path.{Path}
use Rattle.dt_model.specs.Lists.{IsIn}
use Rattle.dt_model.specs.Valid.{AreDistinct}
use Rattle.dt_model.specs.Named.{NamedForest, no_nodes, branch, Named, NamedNode, NamedPlaced, sibling, node_below, root_of, node_at, names, node_count, preorder, nodes_of}
use Rattle.dt_model.proofs.Tests.{bytes_eq_refl, bytes_eq_true, bytes_eq_other, each_in, in_left, in_right, in_append}

module _ {R : Type 0} where
  -- siblings differ in their names at each node below
  abbrev pub AreApart : NamedForest R → Type 0
  AreApart no_nodes = Unit {0}
  AreApart (branch name content children siblings) = AreDistinct (names children) × AreApart children × AreApart siblings

  -- and at the root
  abbrev pub IsApart : Named R → Type 0
  IsApart t = AreDistinct (names t.children) × AreApart t.children

  -- ---- look-ups

  -- the node of a path that begins with this name
  abbrev pub found : NamedForest R → Name → Path → Option (NamedNode R)
  found f x p = option_and_then (λ c. node_below c p) (sibling f x)

  -- the node is one of these siblings
  abbrev pub IsSibling : Name → NamedNode R → NamedForest R → Type 0
  IsSibling x c no_nodes = ⊥
  IsSibling x c (branch name content children siblings) = ((x ≡ name) × (c ≡ record { content = content; children = children })) ⊎ IsSibling x c siblings

  sibling_named : (f : NamedForest R) (x : Name) (c : NamedNode R) → IsSibling x c f → IsIn x (names f)
  sibling_named no_nodes x c i = absurd i
  sibling_named (branch name content children siblings) x c (inl here) = inl here.0
  sibling_named (branch name content children siblings) x c (inr i) = inr (sibling_named siblings x c i)

  pub sibling_found : (f : NamedForest R) (x : Name) (c : NamedNode R) → AreDistinct (names f) → IsSibling x c f → sibling f x ≡ Some c
  sibling_found no_nodes x c d i = absurd i
  sibling_found (branch name content children siblings) x c d (inl here) = rw here.0 (rw (bytes_eq_refl name) (ap Some (sym here.1)))
  sibling_found (branch name content children siblings) x c d (inr i) =
      rw (bytes_eq_other x name (each_in (λ y. y ≢ name) (names siblings) x d.0 (sibling_named siblings x c i))) (sibling_found siblings x c d.1 i)

  pub found_sibling : (f : NamedForest R) (x : Name) (c : NamedNode R) → sibling f x ≡ Some c → IsSibling x c f
  found_sibling no_nodes x c e = absurd (let z : None ≡ Some c = e in cc)
  found_sibling (branch name content children siblings) x c e = step (found_sibling siblings x c) (bytes_eq x name) refl
    where
      step : (sibling siblings x ≡ Some c → IsSibling x c siblings) → (b : Bool) → bytes_eq x name ≡ b → IsSibling x c (branch name content children siblings)
      step more true k =
          let z : ◌≡◌ {A = Option (NamedNode R)} (Some (record { content = content; children = children })) (Some c) = rw k at e in
          inl (bytes_eq_true x name k, cc)
      step more false k = inr (more (rw k at e))

  -- a child of a path's node
  pub child_at : (n c m : NamedNode R) (p : Path) (x : Name) → node_below n p ≡ Some m → sibling m.children x ≡ Some c → node_below n (p ++ x ∷ []) ≡ Some c
  child_at n c m [] x e k = let same : n ≡ m = cc in ap (λ (y : NamedNode R). option_and_then (λ z. Some z) (sibling y.children x)) same ∙ ap (option_and_then (λ z. Some z)) k
  child_at n c m (y ∷ p) x e k = step (λ s h. child_at s c m p x h k) (sibling n.children y) refl
    where
      step : ((s : NamedNode R) → node_below s p ≡ Some m → node_below s (p ++ x ∷ []) ≡ Some c)
          → (o : Option (NamedNode R)) → sibling n.children y ≡ o → option_and_then (λ z. node_below z (p ++ x ∷ [])) (sibling n.children y) ≡ Some c
      step more None h = absurd (let z : None ≡ Some m = rw h at e in cc)
      step more (Some s) h = rw h (more s (rw h at e))

  -- ---- preorder

  -- a listed node is one that is found
  pub record IsFound (path : Path) (f : NamedForest R) (n : NamedPlaced R) : Type 0 where
    pub name : Name
    pub rest : Path
    pub node : NamedNode R
    pub at : n.path ≡ path ++ name ∷ rest
    pub is : found f name rest ≡ Some node
    pub same : node.content ≡ n.content

  -- a sibling that differs from none of these isn't found
  other_sibling : (f : NamedForest R) (x y : Name) (c : NamedNode R) → AllByRecursion (λ z. z ≢ y) (names f) → sibling f x ≡ Some c → bytes_eq x y ≡ false
  other_sibling f x y c d e = bytes_eq_other x y (each_in (λ z. z ≢ y) (names f) x d (sibling_named f x c (found_sibling f x c e)))

  found_some : (f : NamedForest R) (x : Name) (p : Path) (c : NamedNode R) → found f x p ≡ Some c → (s : NamedNode R) × (sibling f x ≡ Some s) × (node_below s p ≡ Some c)
  found_some f x p c e = step (sibling f x) refl
    where
      step : (y : Option (NamedNode R)) → sibling f x ≡ y → (s : NamedNode R) × (sibling f x ≡ Some s) × (node_below s p ≡ Some c)
      step None k = absurd (let z : None ≡ Some c = rw k at e in cc)
      step (Some s) k = (s, k, rw k at e)

  pub listed_found : (path : Path) (f : NamedForest R) (n : NamedPlaced R) → AreDistinct (names f) → AreApart f → IsIn n (preorder path f) → IsFound path f n
  listed_found path no_nodes n d apart i = absurd i
  listed_found path (branch name content children siblings) n d apart (inl same) = record {
    name = name;
    rest = [];
    node = record { content = content; children = children };
    at = ap (λ x. x.path) same;
    is = rw (bytes_eq_refl name) refl;
    same = sym (ap (λ x. x.content) same);
  }
  listed_found path (branch name content children siblings) n d apart (inr i) =
      elim (in_append n (preorder (path ++ name ∷ []) children) (preorder path siblings) i) [
        | inl k ↦ below (listed_found (path ++ name ∷ []) children n apart.0 apart.1 k)
        | inr k ↦ beside (listed_found path siblings n d.1 apart.2 k)
      ]
    where
      below : IsFound (path ++ name ∷ []) children n → IsFound path (branch name content children siblings) n
      below h = record {
        name = name;
        rest = h.name ∷ h.rest;
        node = h.node;
        at = h.at ∙ append_assoc path (name ∷ []) (h.name ∷ h.rest);
        is = rw (bytes_eq_refl name) h.is;
        same = h.same;
      }

      beside : IsFound path siblings n → IsFound path (branch name content children siblings) n
      beside h =
          let s = found_some siblings h.name h.rest h.node h.is in
          record {
            name = h.name;
            rest = h.rest;
            node = h.node;
            at = h.at;
            is = rw (other_sibling siblings h.name name s.0 d.0 s.1) h.is;
            same = h.same;
          }

  pub found_listed : (path : Path) (f : NamedForest R) (x : Name) (p : Path) (c : NamedNode R) → found f x p ≡ Some c → IsIn (record { path = path ++ x ∷ p; content = c.content }) (preorder path f)
  found_listed path no_nodes x p c e = absurd (let z : None ≡ Some c = e in cc)
  found_listed path (branch name content children siblings) x p c e =
      step (λ y r k. found_listed (path ++ name ∷ []) children y r c k) (λ r k. found_listed path siblings x r c k) p (bytes_eq x name) refl e
    where
      last : (r : Path) → IsIn (record { path = path ++ x ∷ r; content = c.content }) (preorder path siblings) → IsIn (record { path = path ++ x ∷ r; content = c.content }) (preorder path (branch name content children siblings))
      last r i = inr (in_right (record { path = path ++ x ∷ r; content = c.content }) (preorder (path ++ name ∷ []) children) (preorder path siblings) i)

      step : ((y : Name) (r : Path) → found children y r ≡ Some c → IsIn (record { path = (path ++ name ∷ []) ++ y ∷ r; content = c.content }) (preorder (path ++ name ∷ []) children))
          → ((r : Path) → found siblings x r ≡ Some c → IsIn (record { path = path ++ x ∷ r; content = c.content }) (preorder path siblings))
          → (r : Path) (b : Bool) → bytes_eq x name ≡ b → found (branch name content children siblings) x r ≡ Some c
          → IsIn (record { path = path ++ x ∷ r; content = c.content }) (preorder path (branch name content children siblings))
      step inner more [] true k h =
          let z : ◌≡◌ {A = Option (NamedNode R)} (Some (record { content = content; children = children })) (Some c) = rw k at h in
          let is : ◌≡◌ {A = NamedNode R} (record { content = content; children = children }) c = cc in
          inl (ap (λ y. record { path = path ++ y ∷ []; content = c.content }) (bytes_eq_true x name k) ∙ ap (λ y. record { path = path ++ name ∷ []; content = y }) (sym (ap (λ y. y.content) is)))
      step inner more (y ∷ r) true k h =
          let z : found children y r ≡ Some c = rw k at h in
          let at : (path ++ name ∷ []) ++ y ∷ r ≡ path ++ x ∷ y ∷ r = append_assoc path (name ∷ []) (y ∷ r) ∙ ap (λ w. path ++ w ∷ y ∷ r) (sym (bytes_eq_true x name k)) in
          inr (in_left (record { path = path ++ x ∷ y ∷ r; content = c.content }) (preorder (path ++ name ∷ []) children) (preorder path siblings)
          (subst (λ w. IsIn (record { path = w; content = c.content }) (preorder (path ++ name ∷ []) children)) at (inner y r z)))
      step inner more [] false k h = last [] (more [] (rw k at h))
      step inner more (y ∷ r) false k h = last (y ∷ r) (more (y ∷ r) (rw k at h))

  -- ---- all nodes

  -- a listed node is the node of its path
  pub record IsAt (t : Named R) (n : NamedPlaced R) : Type 0 where
    pub node : NamedNode R
    pub is : node_at t n.path ≡ Some node
    pub same : node.content ≡ n.content

  pub listed_at : (t : Named R) (n : NamedPlaced R) → IsApart t → IsIn n (nodes_of t) → IsAt t n
  listed_at t n apart (inl e) = record { node = root_of t; is = ap (node_below (root_of t)) (ap (λ x. x.path) e); same = sym (ap (λ x. x.content) e) }
  listed_at t n apart (inr i) =
      let h = listed_found [] t.children n apart.0 apart.1 i in
      record { node = h.node; is = ap (node_below (root_of t)) h.at ∙ h.is; same = h.same }

  pub at_listed : (t : Named R) (p : Path) (c : NamedNode R) → node_at t p ≡ Some c → IsIn (record { path = p; content = c.content }) (nodes_of t)
  at_listed t [] c e = let is : root_of t ≡ c = cc in inl (ap (λ y. record { path = []; content = y.content }) (sym is))
  at_listed t (x ∷ p) c e = inr (found_listed [] t.children x p c e)

  pub length-preorder : (path : Path) (f : NamedForest R) → length (preorder path f) ≡ node_count f
  length-preorder path no_nodes = refl
  length-preorder path (branch name content children siblings) =
      let a = length-preorder (path ++ name ∷ []) children in
      let b = length-preorder path siblings in
      let c = length-append (preorder (path ++ name ∷ []) children) (preorder path siblings) in
      omega (arith, a, b, c)

  pub length-nodes : (t : Named R) → length (nodes_of t) ≡ 1 + node_count t.children
  length-nodes t = let a = length-preorder [] t.children in omega (arith, a)
