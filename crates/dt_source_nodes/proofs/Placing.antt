-- The nodes of the tree by their paths: preorder, and look-ups.
use Rattle.std.proofs.Common.{◌≡◌, ℕ, zero, suc, ◌+◌, ◌≤◌, Bool, true, false, cond, List, [], ◌∷◌, ◌++◌, length, reverse, Option, None, Some, refl, sym, ap, subst, ◌∙◌, inl, inr, arith, append_assoc}
use Rattle.std.specs.Option.{option_and_then}
use Rattle.std.specs.Str.{bytes_eq}
use Rattle.std.proofs.lemmas.List.{reverse-append}
use Rattle.dt_model.specs.Names.{Name}
use Rattle.dt_model.specs.Path.{Path}
use Rattle.dt_model.specs.Event.{Stack}
use Rattle.dt_model.specs.Lists.{IsIn}
use Rattle.dt_model.specs.Named.{NodeReference, Content, NamedForest, NamedNode, NamedPlaced, preorder, sibling, node_below}
use Rattle.dt_model.proofs.Tests.{bytes_eq_true, bytes_eq_differ}
use Rattle.dt_model.proofs.Cases.{then_some}
use Rattle.dt_source_growing.specs.declared.growing.Node.{Node}
use Rattle.dt_source_growing.specs.Grown.{StandsUnder}
use Rattle.dt_source_nodes.specs.Listing.{trees_of, forest_below, name_of}
use Rattle.dt_source_nodes.proofs.ChildrenLed.{AreChildren, IsChild, leads_child, child_led, leads_up, leads_within}
use Rattle.dt_source_nodes.proofs.Walking.{walk, walk_each, in_each}

-- the lists are of one length, and R holds of what stands at one place
abbrev pub Pairwise : {X Y : Type 0} → (X → Y → Type 0) → List X → List Y → Type 0
Pairwise R [] [] = Unit {0}
Pairwise R [] (y ∷ ys) = ⊥
Pairwise R (x ∷ xs) [] = ⊥
Pairwise R (x ∷ xs) (y ∷ ys) = R x y × Pairwise R xs ys

pub pairs_append : {X Y : Type 0} (R : X → Y → Type 0) (xs us : List X) (ys vs : List Y) → Pairwise R xs ys → Pairwise R us vs → Pairwise R (xs ++ us) (ys ++ vs)
pairs_append R [] us [] vs h k = k
pairs_append R [] us (y ∷ ys) vs h k = absurd h
pairs_append R (x ∷ xs) us [] vs h k = absurd h
pairs_append R (x ∷ xs) us (y ∷ ys) vs h k = (h.0, pairs_append R xs us ys vs h.1 k)

-- a path's first name goes over to the names that stand before it
turned : (p : Path) (x : Name) (q : Stack) → reverse (x ∷ p) ++ q ≡ reverse p ++ (x ∷ q)
turned p x q = ap (λ (r : Stack). r ++ q) (reverse-append (x ∷ []) p) ∙ append_assoc (reverse p) (x ∷ []) q

module _ (nodes : List Node) (children : ℕ → List ℕ) (are : AreChildren nodes children) (content : ℕ → Content NodeReference) where
  name : ℕ → Name
  name = name_of nodes

  -- the names of the path lead to the node, which has this content
  abbrev pub IsPlacedAt : NamedPlaced NodeReference → ℕ → Type 0
  IsPlacedAt n k = StandsUnder nodes (reverse n.path) k × (n.content ≡ content k)

  trees-placed : (below : ℕ → NamedForest NodeReference) (walked : ℕ → List ℕ) →
      ((k : ℕ) (path : Path) → StandsUnder nodes (reverse path) k → Pairwise IsPlacedAt (preorder path (below k)) (walked k)) →
      (ks : List ℕ) (k : ℕ) (path : Path) → StandsUnder nodes (reverse path) k → ((c : ℕ) → IsIn c ks → IsChild nodes k c) →
      Pairwise IsPlacedAt (preorder path (trees_of (name_of nodes) content below ks)) (walk_each walked ks)
  trees-placed below walked placed [] k path h all = tt
  trees-placed below walked placed (c ∷ ks) k path h all =
      let x = name_of nodes c in
      let back : x ∷ reverse path ≡ reverse (path ++ x ∷ []) = sym (reverse-append path (x ∷ [])) in
      let led : StandsUnder nodes (reverse (path ++ x ∷ [])) c = subst (λ (p : Stack). StandsUnder nodes p c) back (leads_child nodes (reverse path) k c h (all c (inl refl))) in (
        (led, refl),
        pairs_append IsPlacedAt (preorder (path ++ x ∷ []) (below c)) (preorder path (trees_of (name_of nodes) content below ks)) (walked c) (walk_each walked ks)
            (placed c (path ++ x ∷ []) led) (trees-placed below walked placed ks k path h (λ j i. all j (inr i))),
      )

  -- the nodes in preorder are those that are walked
  pub forest-placed : (depth k : ℕ) (path : Path) → StandsUnder nodes (reverse path) k →
      Pairwise IsPlacedAt (preorder path (forest_below (name_of nodes) content children depth k)) (walk children depth k)
  unfolding forest_below walk
  forest-placed zero k path h = tt
  forest-placed (suc depth) k path h =
      trees-placed (forest_below (name_of nodes) content children depth) (walk children depth) (forest-placed depth) (children k) k path h (are.sound k)

  -- ---- each node that names lead to is walked

  pub all_walked : ((p : Stack) (i j : ℕ) → StandsUnder nodes p i → StandsUnder nodes p j → i ≡ j) → (depth : ℕ) (p : Stack) (k left : ℕ) → StandsUnder nodes p k → length p + left ≡ depth →
      IsIn k (0 ∷ walk children depth 0) × ((j : ℕ) → IsIn j (walk children left k) → IsIn j (0 ∷ walk children depth 0))
  unfolding walk
  all_walked one depth [] k left h e =
      let here : k ≡ 0 = h.0 in
      let full : left ≡ depth = omega arith in
      (inl here, λ j i. inr (subst (λ (d : ℕ). IsIn j (walk children d 0)) full (subst (λ (m : ℕ). IsIn j (walk children left m)) here i)))
  all_walked one depth (x ∷ p) k left h e =
      let parent = h.0.parent in
      let above = all_walked one depth p parent (suc left) h.5 (omega arith) in
      let child = child_led nodes x p parent k (λ j g. one p j parent g h.5) h in
      let within = leads_within nodes p parent h.5 in
      let each = in_each (walk children left) (children parent) k (are.complete parent k within child.0) in
      (above.1 k each.0, λ j i. above.1 j (each.1 j i))

  -- ---- look-ups

  -- node k with what stands below it
  abbrev pub grown_node : ℕ → ℕ → NamedNode NodeReference
  grown_node depth k = record { content = content k; children = forest_below (name_of nodes) content children depth k }

  -- what the look-up of a sibling finds
  sibling_found : (below : ℕ → NamedForest NodeReference) (ks : List ℕ) (x : Name) (n : NamedNode NodeReference) → sibling (trees_of (name_of nodes) content below ks) x ≡ Some n →
      (c : ℕ) × IsIn c ks × (name_of nodes c ≡ x) × (n ≡ record { content = content c; children = below c })
  sibling_found below [] x n h = cc
  sibling_found below (c ∷ ks) x n h = step (λ g. sibling_found below ks x n g) (bytes_eq x (name_of nodes c)) refl h
    where
      here : NamedNode NodeReference
      here = record { content = content c; children = below c }

      Found : List ℕ → Type 0
      Found js = (j : ℕ) × IsIn j js × (name_of nodes j ≡ x) × (n ≡ record { content = content j; children = below j })

      step : (sibling (trees_of (name_of nodes) content below ks) x ≡ Some n → Found ks) → (b : Bool) → bytes_eq x (name_of nodes c) ≡ b →
          cond b (Some here) (sibling (trees_of (name_of nodes) content below ks) x) ≡ Some n → Found (c ∷ ks)
      step more true e g = (c, inl refl, sym (bytes_eq_true x (name_of nodes c) e), cc)
      step more false e g = let found = more g in (found.0, inr found.1, found.2, found.3)

  -- where it finds nothing no sibling has the name
  sibling_missed : (below : ℕ → NamedForest NodeReference) (ks : List ℕ) (x : Name) → sibling (trees_of (name_of nodes) content below ks) x ≡ None →
      (c : ℕ) → IsIn c ks → name_of nodes c ≡ x → ⊥
  sibling_missed below [] x h c i e = absurd i
  sibling_missed below (k ∷ ks) x h c i e = step (λ g. sibling_missed below ks x g c) (bytes_eq x (name_of nodes k)) refl h i
    where
      here : NamedNode NodeReference
      here = record { content = content k; children = below k }

      step : (sibling (trees_of (name_of nodes) content below ks) x ≡ None → IsIn c ks → name_of nodes c ≡ x → ⊥) → (b : Bool) → bytes_eq x (name_of nodes k) ≡ b →
          cond b (Some here) (sibling (trees_of (name_of nodes) content below ks) x) ≡ None → IsIn c (k ∷ ks) → ⊥
      step more true d g j = cc
      step more false d g (inl same) = bytes_eq_differ x (name_of nodes k) d (sym e ∙ ap (name_of nodes) same)
      step more false d g (inr later) = more g later e

  -- what a path leads to is a node with its depth
  pub found_below : (p : Path) (depth k : ℕ) (q : Stack) (n : NamedNode NodeReference) → StandsUnder nodes q k → node_below (grown_node depth k) p ≡ Some n →
      (j left : ℕ) × StandsUnder nodes (reverse p ++ q) j × (n ≡ grown_node left j) × (left + length (reverse p ++ q) ≡ depth + length q)
  unfolding forest_below
  found_below [] depth k q n h e = (k, depth, h, cc, refl)
  found_below (x ∷ p) zero k q n h e = cc
  found_below (x ∷ p) (suc depth) k q n h e =
      let f : NamedNode NodeReference → Option (NamedNode NodeReference) = λ c. node_below c p in
      let first = then_some f (sibling (forest_below (name_of nodes) content children (suc depth) k) x) n e in
      let found = sibling_found (forest_below (name_of nodes) content children depth) (children k) x first.0 first.1 in
      let c = found.0 in
      let led : StandsUnder nodes (x ∷ q) c = subst (λ (y : Name). StandsUnder nodes (y ∷ q) c) found.2 (leads_child nodes q k c h (are.sound k c found.1)) in
      let rest = found_below p depth c (x ∷ q) n led (subst (λ (m : NamedNode NodeReference). node_below m p ≡ Some n) found.3 first.2) in
      let back : reverse p ++ (x ∷ q) ≡ reverse (x ∷ p) ++ q = sym (turned p x q) in
      let same : length (reverse p ++ (x ∷ q)) ≡ length (reverse (x ∷ p) ++ q) = ap (λ (r : Stack). length r) back in
      let below : rest.1 + length (reverse p ++ (x ∷ q)) ≡ depth + suc (length q) = rest.4 in
      let size : rest.1 + length (reverse (x ∷ p) ++ q) ≡ suc depth + length q = omega arith in
      (rest.0, rest.1, subst (λ (r : Stack). StandsUnder nodes r rest.0) back rest.2, rest.3, size)

  -- where names lead to a node, the path does
  pub led_below : ((p : Stack) (i j : ℕ) → StandsUnder nodes p i → StandsUnder nodes p j → i ≡ j) → (p : Path) (depth k : ℕ) (q : Stack) (j : ℕ) → StandsUnder nodes q k → StandsUnder nodes (reverse p ++ q) j →
      length p ≤ depth → (n : NamedNode NodeReference) × (node_below (grown_node depth k) p ≡ Some n)
  unfolding forest_below
  led_below one [] depth k q j h g few = (grown_node depth k, refl)
  led_below one (x ∷ p) zero k q j h g few = absurd (omega arith)
  led_below one (x ∷ p) (suc depth) k q j h g few =
      let on : StandsUnder nodes (reverse p ++ (x ∷ q)) j = subst (λ (r : Stack). StandsUnder nodes r j) (turned p x q) g in
      let above = leads_up nodes (reverse p) (x ∷ q) j on in
      let child = child_led nodes x q k above.0 (λ i l. one q i k l h) above.1 in
      let among = are.complete k above.0 (leads_within nodes q k h) child.0 in
      step on above.0 among child.1 (sibling (forest_below (name_of nodes) content children (suc depth) k) x) refl (λ c l. led_below one p depth c (x ∷ q) j l on (omega arith))
    where
      here : Option (NamedNode NodeReference)
      here = sibling (forest_below (name_of nodes) content children (suc depth) k) x

      Found : Option (NamedNode NodeReference) → Type 0
      Found o = (n : NamedNode NodeReference) × (option_and_then (λ c. node_below c p) o ≡ Some n)

      step : StandsUnder nodes (reverse p ++ (x ∷ q)) j → (c : ℕ) → IsIn c (children k) → name_of nodes c ≡ x → (o : Option (NamedNode NodeReference)) → here ≡ o →
          ((d : ℕ) → StandsUnder nodes (x ∷ q) d → (n : NamedNode NodeReference) × (node_below (grown_node depth d) p ≡ Some n)) → Found here
      step on c among named None e more = absurd (sibling_missed (forest_below (name_of nodes) content children depth) (children k) x e c among named)
      step on c among named (Some m) e more =
          let found = sibling_found (forest_below (name_of nodes) content children depth) (children k) x m e in
          let d = found.0 in
          let led : StandsUnder nodes (x ∷ q) d = subst (λ (y : Name). StandsUnder nodes (y ∷ q) d) found.2 (leads_child nodes q k d h (are.sound k d found.1)) in
          let rest = more d led in
          subst Found (sym e) (rest.0, ap (λ (a : NamedNode NodeReference). node_below a p) found.3 ∙ rest.1)
