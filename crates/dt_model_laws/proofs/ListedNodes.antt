-- The nodes of a named tree's list, by their paths.
use Rattle.std.proofs.Common.{◌≡◌, ℕ, zero, suc, ◌+◌, ◌<◌, false, List, [], ◌∷◌, ◌++◌, map, length, length-append, nat_eq, slice_get, refl, sym, ap, subst, ◌∙◌, inl, inr, Some, None, append_assoc, arith}
use Rattle.std.proofs.lemmas.Bool.Decides.{eqb_tells}
use Rattle.std.proofs.lemmas.Option.{slice_get_within, slice_get_cases}
use Rattle.dt_model.specs.Names.{Name}
use Rattle.dt_model.specs.Path.{Path}
use Rattle.dt_model.specs.Lists.{IsIn}
use Rattle.dt_model.specs.Named.{NamedForest, no_nodes, branch, Named, NamedNode, NamedPlaced, Listed, node_at, node_count, preorder, nodes_of, paths_of, listed, list_of}
use Rattle.dt_model.specs.NamedOf.{path_among}
use Rattle.dt_model.proofs.Flat.{map_append}
use Rattle.dt_model_laws.proofs.NamedListed.{IsApart, listed_at, at_listed, length-preorder}

pub after_zero : (j : ℕ) → nat_eq (suc j) 0 ≡ false
after_zero j = elim (eqb_tells (suc j) 0) [
  | inl h ↦ absurd (let z : suc j ≡ 0 = h.1 in omega (arith, z))
  | inr h ↦ h.0
]

path_behind : (before after : List Path) (p : Path) → path_among (before ++ p ∷ after) (length before) ≡ p
path_behind [] after p = refl
path_behind (q ∷ before) after p = path_behind before after p

module _ {R : Type 0} where
  -- ---- a list beside the nodes with their paths

  -- nodes of a list, from number k on, are these, where all nodes have these paths
  abbrev ArePaired : List Path → ℕ → List (Listed R) → List (NamedPlaced R) → Type 0
  ArePaired all k [] [] = Unit {0}
  ArePaired all k [] (q ∷ qs) = ⊥
  ArePaired all k (n ∷ ns) [] = ⊥
  ArePaired all k (n ∷ ns) (q ∷ qs) = (q.content ≡ n.content) × (n.parent < k) × (q.path ≡ path_among all n.parent ++ n.name ∷ []) × ArePaired all (suc k) ns qs

  paired_append : (all : List Path) (k j : ℕ) (ns ms : List (Listed R)) (qs rs : List (NamedPlaced R)) → j ≡ k + length qs → ArePaired all k ns qs → ArePaired all j ms rs
      → ArePaired all k (ns ++ ms) (qs ++ rs)
  paired_append all k j [] ms [] rs e h g = let same : j ≡ k = omega (arith, e) in subst (λ i. ArePaired all i ms rs) same g
  paired_append all k j [] ms (q ∷ qs) rs e h g = absurd h
  paired_append all k j (n ∷ ns) ms [] rs e h g = absurd h
  paired_append all k j (n ∷ ns) ms (q ∷ qs) rs e h g = (h.0, h.1, h.2, paired_append all (suc k) j ns ms qs rs (omega (arith, e)) h.3 g)

  abbrev paths : List (NamedPlaced R) → List Path
  paths qs = map (λ (q : NamedPlaced R). q.path) qs

  walk : (all before after : List Path) (number parent : ℕ) (path : Path) (f : NamedForest R) → length before ≡ number → all ≡ before ++ (paths (preorder path f) ++ after)
      → path_among all parent ≡ path → parent < number → ArePaired all number (listed number parent f) (preorder path f)
  walk all before after number parent path no_nodes l e at lt = tt
  walk all before after number parent path (branch name content children siblings) l e at lt = (
    refl,
    lt,
    ap (λ z. z ++ name ∷ []) (sym at),
    paired_append all (suc number) (suc number + node_count children) (listed (suc number) number children) (listed (suc number + node_count children) parent siblings)
        (preorder p children) (preorder path siblings) (omega (arith, length-preorder p children))
        (walk all before1 after1 (suc number) number p children size1 split1 here (omega arith))
        (walk all before2 after (suc number + node_count children) parent path siblings size2 split2 at (omega arith)),
  )
    where
      p : Path
      p = path ++ name ∷ []

      inner : List Path
      inner = paths (preorder p children)

      outer : List Path
      outer = paths (preorder path siblings)

      before1 : List Path
      before1 = before ++ p ∷ []

      after1 : List Path
      after1 = outer ++ after

      before2 : List Path
      before2 = before1 ++ inner

      whole : all ≡ before ++ p ∷ ((inner ++ outer) ++ after)
      whole = e ∙ ap (λ z. before ++ p ∷ (z ++ after)) (map_append (λ (q : NamedPlaced R). q.path) (preorder p children) (preorder path siblings))

      split1 : all ≡ before1 ++ (inner ++ after1)
      split1 = whole ∙ ap (λ z. before ++ p ∷ z) (append_assoc inner outer after) ∙ sym (append_assoc before (p ∷ []) (inner ++ after1))

      split2 : all ≡ before2 ++ (outer ++ after)
      split2 = split1 ∙ sym (append_assoc before1 inner after1)

      size1 : length before1 ≡ suc number
      size1 = omega (arith, l, length-append before (p ∷ []))

      counted : length inner ≡ node_count children
      counted = paths_counted (preorder p children) ∙ length-preorder p children
        where
          paths_counted : (qs : List (NamedPlaced R)) → length (paths qs) ≡ length qs
          paths_counted [] = refl
          paths_counted (q ∷ qs) = ap suc (paths_counted qs)

      size2 : length before2 ≡ suc number + node_count children
      size2 = omega (arith, size1, counted, length-append before1 inner)

      here : path_among all number ≡ p
      here = ap (λ z. path_among z number) whole ∙ ap (path_among (before ++ p ∷ ((inner ++ outer) ++ after))) (sym l) ∙ path_behind before ((inner ++ outer) ++ after) p

  -- ---- a node of the list

  record HasOther (all : List Path) (qs : List (NamedPlaced R)) (i k : ℕ) (n : Listed R) : Type 0 where
    other : NamedPlaced R
    there : slice_get qs i ≡ Some other
    content : other.content ≡ n.content
    parent : n.parent < k
    path : other.path ≡ path_among all n.parent ++ n.name ∷ []

  paired_at : (all : List Path) (k i : ℕ) (ns : List (Listed R)) (qs : List (NamedPlaced R)) (n : Listed R) → ArePaired all k ns qs → slice_get ns i ≡ Some n → HasOther all qs i (k + i) n
  paired_at all k i [] qs n h e = absurd (let z : None ≡ Some n = e in cc)
  paired_at all k i (m ∷ ns) [] n h e = absurd h
  paired_at all k zero (m ∷ ns) (q ∷ qs) n h e =
      let same : m ≡ n = cc in
      record {
        other = q;
        there = refl;
        content = h.0 ∙ ap (λ (x : Listed R). x.content) same;
        parent = let b : n.parent < k = subst (λ (x : Listed R). x.parent < k) same h.1 in omega (arith, b);
        path = h.2 ∙ ap (λ (x : Listed R). path_among all x.parent ++ x.name ∷ []) same;
      }
  paired_at all k (suc i) (m ∷ ns) (q ∷ qs) n h e =
      let w = paired_at all (suc k) i ns qs n h.3 e in
      record { other = w.other; there = w.there; content = w.content; parent = omega (arith, w.parent); path = w.path }

  other_at : (all : List Path) (k i : ℕ) (ns : List (Listed R)) (qs : List (NamedPlaced R)) (q : NamedPlaced R) → ArePaired all k ns qs → slice_get qs i ≡ Some q
      → (n : Listed R) × (slice_get ns i ≡ Some n) × (q.content ≡ n.content)
  other_at all k i [] [] q h e = absurd (let z : None ≡ Some q = e in cc)
  other_at all k i [] (r ∷ qs) q h e = absurd h
  other_at all k i (m ∷ ns) [] q h e = absurd h
  other_at all k zero (m ∷ ns) (r ∷ qs) q h e = let same : r ≡ q = cc in (m, refl, ap (λ (x : NamedPlaced R). x.content) (sym same) ∙ h.0)
  other_at all k (suc i) (m ∷ ns) (r ∷ qs) q h e = other_at all (suc k) i ns qs q h.3 e

  path_there : (qs : List (NamedPlaced R)) (i : ℕ) (q : NamedPlaced R) → slice_get qs i ≡ Some q → path_among (paths qs) i ≡ q.path
  path_there [] i q e = absurd (let z : None ≡ Some q = e in cc)
  path_there (r ∷ qs) zero q e = let same : r ≡ q = cc in ap (λ (x : NamedPlaced R). x.path) same
  path_there (r ∷ qs) (suc i) q e = path_there qs i q e

  got_in : (qs : List (NamedPlaced R)) (i : ℕ) (q : NamedPlaced R) → slice_get qs i ≡ Some q → IsIn q qs
  got_in [] i q e = absurd (let z : None ≡ Some q = e in cc)
  got_in (r ∷ qs) zero q e = let same : r ≡ q = cc in inl (sym same)
  got_in (r ∷ qs) (suc i) q e = inr (got_in qs i q e)

  in_got : (qs : List (NamedPlaced R)) (q : NamedPlaced R) → IsIn q qs → (i : ℕ) × (slice_get qs i ≡ Some q)
  in_got [] q i = absurd i
  in_got (r ∷ qs) q (inl same) = (0, ap Some (sym same))
  in_got (r ∷ qs) q (inr i) = let w = in_got qs q i in (suc w.0, w.1)

  -- ---- of a tree

  module _ (t : Named R) where
    abbrev pub path_of : ℕ → Path
    path_of k = path_among (paths_of t) k

    below : ArePaired (paths_of t) 1 (listed 1 0 t.children) (preorder [] t.children)
    below = walk (paths_of t) ([] ∷ []) [] 1 0 [] t.children refl (ap (λ z. [] ∷ z) (sym (append-nothing (paths (preorder [] t.children))))) refl (omega arith)
      where
        append-nothing : (ps : List Path) → ps ++ [] ≡ ps
        append-nothing [] = refl
        append-nothing (p ∷ ps) = ap (λ z. p ∷ z) (append-nothing ps)

    -- a node below the root stands behind its parent, and its path ends with its name
    pub path_listed : (i : ℕ) (n : Listed R) → slice_get (list_of t) (suc i) ≡ Some n → (n.parent < suc i) × (path_of (suc i) ≡ path_of n.parent ++ n.name ∷ [])
    path_listed i n e =
        let w = paired_at (paths_of t) 1 i (listed 1 0 t.children) (preorder [] t.children) n below e in
        (omega (arith, w.parent), path_there (preorder [] t.children) i w.other w.there ∙ w.path)

    pub parent_listed : (i : ℕ) (n : Listed R) → slice_get (list_of t) (suc i) ≡ Some n → (m : Listed R) × (slice_get (list_of t) n.parent ≡ Some m)
    parent_listed i n e =
        let here = slice_get_within (list_of t) (suc i) n e in
        let lt = (path_listed i n e).0 in
        elim (slice_get_cases (list_of t) n.parent).1 [
          | inl there ↦ (there.0, there.2)
          | inr past ↦ absurd (omega (arith, here, lt, past.0))
        ]

    -- a listed node is the node of its path
    pub record IsNode (k : ℕ) (n : Listed R) : Type 0 where
      pub node : NamedNode R
      pub at : node_at t (path_of k) ≡ Some node
      pub same : node.content ≡ n.content

    pub listed_node : IsApart t → (k : ℕ) (n : Listed R) → slice_get (list_of t) k ≡ Some n → IsNode k n
    listed_node apart zero n e =
        let same : record { parent = 0; name = []; content = t.content } ≡ n = cc in
        record { node = record { content = t.content; children = t.children }; at = refl; same = ap (λ (x : Listed R). x.content) same }
    listed_node apart (suc i) n e =
        let w = paired_at (paths_of t) 1 i (listed 1 0 t.children) (preorder [] t.children) n below e in
        let h = listed_at t w.other apart (inr (got_in (preorder [] t.children) i w.other w.there)) in
        record { node = h.node; at = ap (node_at t) (path_there (preorder [] t.children) i w.other w.there) ∙ h.is; same = h.same ∙ w.content }

    -- the node of a path is listed
    pub record IsListed (p : Path) (c : NamedNode R) : Type 0 where
      pub number : ℕ
      pub node : Listed R
      pub there : slice_get (list_of t) number ≡ Some node
      pub path : path_of number ≡ p
      pub same : c.content ≡ node.content

    pub node_listed : (p : Path) (c : NamedNode R) → node_at t p ≡ Some c → IsListed p c
    node_listed p c e =
        let q : NamedPlaced R = record { path = p; content = c.content } in
        let w = in_got (nodes_of t) q (at_listed t p c e) in
        by w.0 w.1
      where
        by : (i : ℕ) → slice_get (nodes_of t) i ≡ Some (record { path = p; content = c.content }) → IsListed p c
        by zero e =
            let same : ◌≡◌ {A = NamedPlaced R} (record { path = []; content = t.content }) (record { path = p; content = c.content }) = cc in
            record {
              number = 0;
              node = record { parent = 0; name = []; content = t.content };
              there = refl;
              path = ap (λ (x : NamedPlaced R). x.path) same;
              same = ap (λ (x : NamedPlaced R). x.content) (sym same);
            }
        by (suc i) e =
            let w = other_at (paths_of t) 1 i (listed 1 0 t.children) (preorder [] t.children) (record { path = p; content = c.content }) below e in
            record {
              number = suc i;
              node = w.0;
              there = w.1;
              path = path_there (preorder [] t.children) i (record { path = p; content = c.content }) e;
              same = w.2;
            }

    -- a number whose path has a name is a node's
    pub path_is_listed : (k : ℕ) (x : Name) (rest : Path) → path_of k ≡ x ∷ rest → (n : Listed R) × (slice_get (list_of t) k ≡ Some n)
    path_is_listed zero x rest e = let no : [] ≡ x ∷ rest = e in cc
    path_is_listed (suc i) x rest e =
        let w = among_there (preorder [] t.children) i e in
        let o = other_at (paths_of t) 1 i (listed 1 0 t.children) (preorder [] t.children) w.0 below w.1 in
        (o.0, o.1)
      where
        among_there : (qs : List (NamedPlaced R)) (j : ℕ) → path_among (paths qs) j ≡ x ∷ rest → (q : NamedPlaced R) × (slice_get qs j ≡ Some q)
        among_there [] j e = let no : [] ≡ x ∷ rest = e in cc
        among_there (q ∷ qs) zero e = (q, refl)
        among_there (q ∷ qs) (suc j) e = among_there qs j e
