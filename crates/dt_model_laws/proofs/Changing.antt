-- What look-ups find in a tree into one of whose nodes another is merged.
use Rattle.std.proofs.Common.{◌≡◌, Bool, true, false, ◌||◌, [], ◌∷◌, ◌++◌, refl, sym, ap, ◌∙◌, Option, Some, None, true≢false}
use Rattle.std.specs.Prelude.{is_some, option_map, option_and_then, if◌then◌else◌}
use Rattle.std.specs.Option.{option_or}
use Rattle.std.specs.Str.{bytes_eq}
use Rattle.dt_model.specs.Names.{Name}
use Rattle.dt_model.specs.Path.{Path, below}
use Rattle.dt_model.specs.Tree.{Forest, no_nodes, branch, Reading, value_of, Node, sibling, node_below, root_of, node_at, stands_in, value_in}
use Rattle.dt_model.specs.Changes.{merged_node, changed_sibling, changed_below, changed_at}
use Rattle.dt_model.proofs.Tests.{bytes_eq_true, bytes_eq_sym}
use Rattle.dt_model_laws.proofs.Lands.{append-below}
use Rattle.dt_model_laws.proofs.Merging.{IsApart, value_below, stands_below, value-merged, stands-merged}

sibling-changed_sibling : (change : Node → Node) (fs : Forest) (x y : Name) → sibling (changed_sibling change fs x) y ≡ (if bytes_eq y x then option_map change (sibling fs y) else sibling fs y)
sibling-changed_sibling change no_nodes x y = either (bytes_eq y x)
  where
    either : (b : Bool) → ◌≡◌ {A = Option Node} None (if b then None else None)
    either true = refl
    either false = refl
sibling-changed_sibling change (branch name properties children siblings) x y = step (sibling-changed_sibling change siblings x y) (bytes_eq x name) refl (bytes_eq y name) refl (bytes_eq y x) refl
  where
    step : sibling (changed_sibling change siblings x) y ≡ (if bytes_eq y x then option_map change (sibling siblings y) else sibling siblings y)
        → (b : Bool) → bytes_eq x name ≡ b → (c : Bool) → bytes_eq y name ≡ c → (d : Bool) → bytes_eq y x ≡ d
        → sibling (changed_sibling change (branch name properties children siblings) x) y ≡ (if bytes_eq y x then option_map change (sibling (branch name properties children siblings) y) else sibling (branch name properties children siblings) y)
    step more true e c e' d e'' =
        let again : c ≡ d = sym e' ∙ ap (bytes_eq y) (sym (bytes_eq_true x name e)) ∙ e'' in
        rw (e, e', e'') (both c d again)
      where
        both : (c d : Bool) → c ≡ d
            → ◌≡◌ {A = Option Node} (if c then Some (change (record { properties = properties; children = children })) else sibling siblings y)
            (if d then option_map change (if c then Some (record { properties = properties; children = children }) else sibling siblings y) else (if c then Some (record { properties = properties; children = children }) else sibling siblings y))
        both true true k = refl
        both true false k = absurd (true≢false k)
        both false true k = absurd (true≢false (sym k))
        both false false k = refl
    step more false e true e' true e'' = absurd (true≢false (sym (ap (λ z. bytes_eq z name) (sym (bytes_eq_true y x e'')) ∙ e') ∙ e))
    step more false e true e' false e'' = rw (e, e', e'') refl
    step more false e false e' d e'' = rw (e, e') more

-- what is read of a node is what is read of the changed node at and below the path, and else what was read
abbrev pub after_change : {A : Type 0} → (Path → A) → A → Option Path → A
after_change new old None = old
after_change new old (Some r) = new r

module _ {A : Type 0} (read : Option Node → A) (change : Node → Node) where
  pub read-changed : (properties_alone : (n : Node) (fs : Forest) → read (Some (record { properties = n.properties; children = fs })) ≡ read (Some n))
      → (p : Path) (n at : Node) → node_below n p ≡ Some at → (q : Path) → read (node_below (changed_below change p n) q) ≡ after_change (λ r. read (node_below (change at) r)) (read (node_below n q)) (below p q)
  read-changed alone [] n at e q = let is : n ≡ at = cc in ap (λ z. read (node_below (change z) q)) is
  read-changed alone (x ∷ p) n at e [] = alone n (changed_sibling (changed_below change p) n.children x)
  read-changed alone (x ∷ p) n at e (y ∷ q) =
      ap (λ z. read (option_and_then (λ c. node_below c q) z)) (sibling-changed_sibling (changed_below change p) n.children x y)
      ∙ step (λ s k. read-changed alone p s at k q) (bytes_eq x y) refl (sibling n.children x) refl
    where
      step : ((s : Node) → node_below s p ≡ Some at → read (node_below (changed_below change p s) q) ≡ after_change (λ r. read (node_below (change at) r)) (read (node_below s q)) (below p q))
          → (b : Bool) → bytes_eq x y ≡ b → (z : Option Node) → sibling n.children x ≡ z
          → read (option_and_then (λ c. node_below c q) (if bytes_eq y x then option_map (changed_below change p) (sibling n.children y) else sibling n.children y))
          ≡ after_change (λ r. read (node_below (change at) r)) (read (option_and_then (λ c. node_below c q) (sibling n.children y))) (if bytes_eq x y then below p q else None)
      step more true k None j = absurd (let z : None ≡ Some at = sym (ap (option_and_then (λ c. node_below c p)) j) ∙ e in cc)
      step more true k (Some s) j =
          let j' : sibling n.children y ≡ Some s = ap (sibling n.children) (sym (bytes_eq_true x y k)) ∙ j in
          let k' : bytes_eq y x ≡ true = bytes_eq_sym y x ∙ k in
          let there : node_below s p ≡ Some at = sym (ap (option_and_then (λ c. node_below c p)) j) ∙ e in
          rw (k, k', j') (more s there)
      step more false k z j =
          let k' : bytes_eq y x ≡ false = bytes_eq_sym y x ∙ k in
          rw (k, k') refl

-- the node below a node
pub below_both : (p r : Path) (n at : Node) → node_below n p ≡ Some at → node_below n (p ++ r) ≡ node_below at r
below_both [] r n at e = let is : n ≡ at = cc in ap (λ z. node_below z r) is
below_both (x ∷ p) r n at e = step (λ s k. below_both p r s at k) (sibling n.children x) refl
  where
    step : ((s : Node) → node_below s p ≡ Some at → node_below s (p ++ r) ≡ node_below at r) → (y : Option Node) → sibling n.children x ≡ y → node_below n ((x ∷ p) ++ r) ≡ node_below at r
    step more None k = absurd (let z : None ≡ Some at = sym (ap (option_and_then (λ c. node_below c p)) k) ∙ e in cc)
    step more (Some s) k = let there : node_below s p ≡ Some at = sym (ap (option_and_then (λ c. node_below c p)) k) ∙ e in rw k (more s there)

module _ (t : Reading) (p : Path) (m : Node) (apart : IsApart m) where
  node_there : stands_in t p ≡ true → (at : Node) × (node_at t p ≡ Some at)
  node_there h = step (node_at t p) refl
    where
      step : (y : Option Node) → node_at t p ≡ y → (at : Node) × (node_at t p ≡ Some at)
      step None e = absurd (true≢false (sym (rw e at h)))
      step (Some c) e = (c, e)

  -- a value of the tree with m merged into the node of p
  pub value-changed : stands_in t p ≡ true → (q : Path) (name : Name)
      → value_in (changed_at (λ n. merged_node n m) p t) q name ≡ option_or (option_and_then (λ r. value_below m r name) (below p q)) (value_in t q name)
  value-changed h q name =
      let w = node_there h in
      read-changed (λ x. option_and_then (λ (c : Node). value_of c.properties name) x) (λ n. merged_node n m) (λ n fs. refl) p (root_of t) w.0 w.1 q
      ∙ step w.0 w.1 (below p q) refl
    where
      step : (at : Node) → node_at t p ≡ Some at → (y : Option Path) → below p q ≡ y
          → after_change (λ r. value_below (merged_node at m) r name) (value_in t q name) y ≡ option_or (option_and_then (λ r. value_below m r name) y) (value_in t q name)
      step at e None k = refl
      step at e (Some r) k =
          value-merged r at m name apart
          ∙ ap (λ z. option_or (value_below m r name) (option_and_then (λ (c : Node). value_of c.properties name) z)) (sym (ap (node_at t) (append-below p q r k) ∙ below_both p r (root_of t) at e))

  -- whether a path stands there
  pub stands-changed : stands_in t p ≡ true → (q : Path) → stands_in (changed_at (λ n. merged_node n m) p t) q ≡ is_some (option_and_then (λ r. node_below m r) (below p q)) || stands_in t q
  stands-changed h q =
      let w = node_there h in
      read-changed (λ x. is_some x) (λ n. merged_node n m) (λ n fs. refl) p (root_of t) w.0 w.1 q
      ∙ step w.0 w.1 (below p q) refl
    where
      step : (at : Node) → node_at t p ≡ Some at → (y : Option Path) → below p q ≡ y
          → after_change (λ r. stands_below (merged_node at m) r) (stands_in t q) y ≡ is_some (option_and_then (λ r. node_below m r) y) || stands_in t q
      step at e None k = refl
      step at e (Some r) k =
          stands-merged r at m apart
          ∙ ap (λ z. stands_below m r || is_some z) (sym (ap (node_at t) (append-below p q r k) ∙ below_both p r (root_of t) at e))
