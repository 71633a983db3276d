-- The look-up by path in what an arena is read as.
use Rattle.std.proofs.Common.{◌≡◌, ℕ, zero, suc, Bool, true, false, cond, eqb, List, [], ◌∷◌, drop, Option, Some, None, option_map, option_and_then, refl, sym, ap, ◌∙◌}
use Rattle.std.specs.Str.{bytes_eq}
use Rattle.dt_model.specs.Names.{Name}
use Rattle.dt_model.specs.Path.{Path}
use Rattle.dt_model.specs.Tree.{Node, branch, sibling, node_below, node_at}
use Rattle.dt_flat.specs.Arena.{Arena, Slot, named_among, named_children, child_of, properties, forest_among, below, node_from, reading}

-- what the node of a number has
abbrev pub has : List Slot → ℕ → Node
has slots i = record { properties = properties slots i; children = below slots i }

pub first_slot : (slots : List Slot) (k : ℕ) (n : Slot) (ns : List Slot) → drop k slots ≡ n ∷ ns → (properties slots k ≡ n.properties) × (drop (suc k) slots ≡ ns)
first_slot [] zero n ns e = absurd cc
first_slot [] (suc k) n ns e = absurd cc
first_slot (m ∷ ms) zero n ns e =
    let same : m ≡ n = cc in
    let rest : ms ≡ ns = cc in
    (ap (λ (x : Slot). x.properties) same, rest)
first_slot (m ∷ ms) (suc k) n ns e = first_slot ms k n ns e

sibling_among : (slots : List Slot) (i : ℕ) (ns : List Slot) (p : ℕ) (x : Name) → drop i slots ≡ ns → sibling (forest_among i ns p) x ≡ option_map (has slots) (child_of (named_among i ns p) x)
sibling_among slots i [] p x at = refl
sibling_among slots i (n ∷ ns) p x at =
    let first = first_slot slots i n ns at in
    let same : record { properties = n.properties; children = forest_among (suc i) ns i } ≡ has slots i = λ j. record { properties = sym first.0 j; children = forest_among (suc i) (sym first.1 j) i } in
    by (eqb n.parent p) same (sibling_among slots (suc i) ns p x first.1)
  where
    by : (b : Bool) → record { properties = n.properties; children = forest_among (suc i) ns i } ≡ has slots i → sibling (forest_among (suc i) ns p) x ≡ option_map (has slots) (child_of (named_among (suc i) ns p) x)
        → sibling (cond b (branch n.name n.properties (forest_among (suc i) ns i) (forest_among (suc i) ns p)) (forest_among (suc i) ns p)) x
        ≡ option_map (has slots) (child_of (cond b (record { name = n.name; node = i } ∷ named_among (suc i) ns p) (named_among (suc i) ns p)) x)
    by false same rest = rest
    by true same rest = this (bytes_eq x n.name)
      where
        this : (t : Bool) → cond t (Some (record { properties = n.properties; children = forest_among (suc i) ns i })) (sibling (forest_among (suc i) ns p) x)
            ≡ option_map (has slots) (cond t (Some i) (child_of (named_among (suc i) ns p) x))
        this true = ap (λ (y : Node). Some y) same
        this false = rest

-- the sibling of a name below p is what the arena has at the child of that name
pub sibling_below : (slots : List Slot) (p : ℕ) (x : Name) → sibling (below slots p) x ≡ option_map (has slots) (child_of (named_children slots p) x)
sibling_below slots p x = sibling_among slots (suc p) (drop (suc p) slots) p x refl

pub below_by_path : (slots : List Slot) (p : Path) (i : ℕ) → node_below (has slots i) p ≡ option_map (has slots) (node_from slots i p)
below_by_path slots [] i = refl
below_by_path slots (x ∷ p) i =
    ap (λ (o : Option Node). option_and_then (λ c. node_below c p) o) (sibling_below slots i x) ∙ by (child_of (named_children slots i) x) (λ c. below_by_path slots p c)
  where
    by : (o : Option ℕ) → ((c : ℕ) → node_below (has slots c) p ≡ option_map (has slots) (node_from slots c p))
        → option_and_then (λ c. node_below c p) (option_map (has slots) o) ≡ option_map (has slots) (option_and_then (λ c. node_from slots c p) o)
    by None f = refl
    by (Some c) f = f c

-- the node of a path in the reading is what the arena has at the number to which the path leads
pub reading_at : (a : Arena) (p : Path) → node_at (reading a) p ≡ option_map (λ i. record { properties = properties a.slots i; children = below a.slots i }) (node_from a.slots 0 p)
reading_at a p = below_by_path a.slots p 0
