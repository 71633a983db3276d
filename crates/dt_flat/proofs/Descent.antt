-- Which nodes stand above a node.
use Rattle.std.proofs.Common.{◌≡◌, ℕ, zero, suc, ◌+◌, ◌-◌, ◌<◌, ◌≤◌, List, [], ◌∷◌, ◌++◌, length, Option, Some, None, refl, sym, ap, ◌∙◌, arith}
use Rattle.std.specs.Prelude.{option_and_then}
use Rattle.dt_model.specs.Names.{Name}
use Rattle.dt_model.specs.Path.{Path}
use Rattle.dt_flat.specs.Arena.{Slot, IsRooted, named_children, child_of, parent_of, depth_of, name_of, node_from}
use Rattle.dt_flat.proofs.Edges.{edge}

-- the node so many steps up
abbrev pub lifted : List Slot → ℕ → ℕ → ℕ
lifted slots zero p = p
lifted slots (suc n) p = parent_of slots (lifted slots n p)

-- k is p, or stands above it
pub record Leads (slots : List Slot) (k p : ℕ) : Type 0 where
  pub deep : depth_of slots k ≤ depth_of slots p
  pub up : lifted slots (depth_of slots p - depth_of slots k) p ≡ k

-- each node leads to itself
pub leads-itself : (slots : List Slot) (p : ℕ) → Leads slots p p
leads-itself slots p =
    let none : depth_of slots p - depth_of slots p ≡ 0 = omega arith in
    record { deep = omega arith; up = ap (λ (n : ℕ). lifted slots n p) none }

-- what stands above a node, its parent does too
pub leads-parent : (slots : List Slot) (j k p : ℕ) → IsRooted slots → 0 < j → j < length slots → parent_of slots j ≡ k → Leads slots j p → Leads slots k p
leads-parent slots j k p rooted pos lt at leads =
    let deeper : depth_of slots j ≡ depth_of slots k + 1 = rooted.deeper j pos lt ∙ ap (λ (i : ℕ). depth_of slots i + 1) at in
    let one : depth_of slots p - depth_of slots k ≡ suc (depth_of slots p - depth_of slots j) = omega (arith, leads.deep) in
    record { deep = omega (arith, leads.deep); up = ap (λ (n : ℕ). lifted slots n p) one ∙ ap (parent_of slots) leads.up ∙ at }

-- of two nodes of one depth, at most one stands above a node
pub leads-one : (slots : List Slot) (j k p : ℕ) → depth_of slots j ≡ depth_of slots k → Leads slots j p → Leads slots k p → j ≡ k
leads-one slots j k p same a b =
    let steps : depth_of slots p - depth_of slots j ≡ depth_of slots p - depth_of slots k = ap (λ (d : ℕ). depth_of slots p - d) same in
    sym a.up ∙ ap (λ (n : ℕ). lifted slots n p) steps ∙ b.up

-- a path leads down
pub path-leads : (slots : List Slot) (q : Path) (i p : ℕ) → IsRooted slots → node_from slots i q ≡ Some p → Leads slots i p
path-leads slots [] i p rooted e =
    let same : i ≡ p = cc in
    record { deep = omega (arith, ap (depth_of slots) same); up = steps same ∙ sym same }
  where
    steps : i ≡ p → lifted slots (depth_of slots p - depth_of slots i) p ≡ p
    steps same =
        let none : depth_of slots p - depth_of slots i ≡ 0 = omega (arith, ap (depth_of slots) same) in
        ap (λ (n : ℕ). lifted slots n p) none
path-leads slots (x ∷ q) i p rooted e = by (child_of (named_children slots i) x) refl e (λ j h. path-leads slots q j p rooted h)
  where
    by : (o : Option ℕ) → child_of (named_children slots i) x ≡ o → option_and_then (λ c. node_from slots c q) o ≡ Some p → ((j : ℕ) → node_from slots j q ≡ Some p → Leads slots j p) → Leads slots i p
    by None is e f = absurd cc
    by (Some j) is e f =
        let at = edge slots i x j is in
        leads-parent slots j i p rooted (omega (arith, at.after)) at.within at.parent (f j e)

-- a path to a node has as many names as the node is deep
pub path-length : (slots : List Slot) (q : Path) (i p : ℕ) → IsRooted slots → node_from slots i q ≡ Some p → depth_of slots p ≡ depth_of slots i + length q
path-length slots [] i p rooted e =
    let same : i ≡ p = cc in
    omega (arith, ap (depth_of slots) same)
path-length slots (x ∷ q) i p rooted e = by (child_of (named_children slots i) x) refl e (λ j h. path-length slots q j p rooted h)
  where
    by : (o : Option ℕ) → child_of (named_children slots i) x ≡ o → option_and_then (λ c. node_from slots c q) o ≡ Some p → ((j : ℕ) → node_from slots j q ≡ Some p → depth_of slots p ≡ depth_of slots j + length q)
        → depth_of slots p ≡ depth_of slots i + suc (length q)
    by None is e f = absurd cc
    by (Some j) is e f =
        let at = edge slots i x j is in
        let deeper : depth_of slots j ≡ depth_of slots i + 1 = rooted.deeper j (omega (arith, at.after)) at.within ∙ ap (λ (k : ℕ). depth_of slots k + 1) at.parent in
        omega (arith, f j e)

-- the end of a path is a node, where its start is one
pub path-within : (slots : List Slot) (q : Path) (i p : ℕ) → i < length slots → node_from slots i q ≡ Some p → p < length slots
path-within slots [] i p lt e = let same : i ≡ p = cc in omega (arith, same)
path-within slots (x ∷ q) i p lt e = by (child_of (named_children slots i) x) refl e (λ j l h. path-within slots q j p l h)
  where
    by : (o : Option ℕ) → child_of (named_children slots i) x ≡ o → option_and_then (λ c. node_from slots c q) o ≡ Some p → ((j : ℕ) → j < length slots → node_from slots j q ≡ Some p → p < length slots) → p < length slots
    by None is e f = absurd cc
    by (Some j) is e f = f j (edge slots i x j is).within e

-- ---- one path to each node

-- the names of a node and of those so many steps up
abbrev names_up : List Slot → ℕ → ℕ → Path
names_up slots zero p = []
names_up slots (suc n) p = name_of slots (lifted slots n p) ∷ names_up slots n p

-- a path is made of the names on the way, and goes up to where it began
path-names : (slots : List Slot) (q : Path) (i p : ℕ) → node_from slots i q ≡ Some p → (q ≡ names_up slots (length q) p) × (lifted slots (length q) p ≡ i)
path-names slots [] i p e = let same : i ≡ p = cc in (refl, sym same)
path-names slots (x ∷ q) i p e = by (child_of (named_children slots i) x) refl e (λ j h. path-names slots q j p h)
  where
    by : (o : Option ℕ) → child_of (named_children slots i) x ≡ o → option_and_then (λ c. node_from slots c q) o ≡ Some p → ((j : ℕ) → node_from slots j q ≡ Some p → (q ≡ names_up slots (length q) p) × (lifted slots (length q) p ≡ j))
        → (x ∷ q ≡ name_of slots (lifted slots (length q) p) ∷ names_up slots (length q) p) × (parent_of slots (lifted slots (length q) p) ≡ i)
    by None is e f = absurd cc
    by (Some j) is e f =
        let at = edge slots i x j is in
        let rest = f j e in
        let name : x ≡ name_of slots (lifted slots (length q) p) = sym at.name ∙ ap (name_of slots) (sym rest.1) in
        ((λ k. name k ∷ rest.0 k), ap (parent_of slots) rest.1 ∙ at.parent)

-- two paths to one node are the same
pub path-same : (slots : List Slot) (q r : Path) (i p : ℕ) → IsRooted slots → node_from slots i q ≡ Some p → node_from slots i r ≡ Some p → q ≡ r
path-same slots q r i p rooted a b =
    let count : length q ≡ length r = omega (arith, path-length slots q i p rooted a, path-length slots r i p rooted b) in
    (path-names slots q i p a).0 ∙ ap (λ (n : ℕ). names_up slots n p) count ∙ sym (path-names slots r i p b).0

-- a path with one name more
pub path-further : (slots : List Slot) (q : Path) (i : ℕ) (x : Name) → node_from slots i (q ++ x ∷ []) ≡ option_and_then (λ p. child_of (named_children slots p) x) (node_from slots i q)
path-further slots [] i x = by (child_of (named_children slots i) x)
  where
    by : (o : Option ℕ) → option_and_then (λ c. Some c) o ≡ o
    by None = refl
    by (Some c) = refl
path-further slots (y ∷ q) i x = by (child_of (named_children slots i) y) (λ c. path-further slots q c x)
  where
    by : (o : Option ℕ) → ((c : ℕ) → node_from slots c (q ++ x ∷ []) ≡ option_and_then (λ p. child_of (named_children slots p) x) (node_from slots c q))
        → option_and_then (λ c. node_from slots c (q ++ x ∷ [])) o ≡ option_and_then (λ p. child_of (named_children slots p) x) (option_and_then (λ c. node_from slots c q) o)
    by None f = refl
    by (Some c) f = f c
