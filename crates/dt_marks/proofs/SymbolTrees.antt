-- What is read of a tree whose root got a last child with the labels.
use Rattle.std.proofs.Common.{◌≡◌, ◌≢◌, ℕ, suc, ◌+◌, ◌<◌, Bool, true, false, cond, eqb, List, [], ◌∷◌, ◌++◌, length, map, codes, refl, ap, ◌∙◌, subst, arith}
use Rattle.std.proofs.lemmas.Bool.{ne_eqb, eq-eqb}
use Rattle.dt_model.specs.Instance.{followed_by, with_symbols}
use Rattle.dt_model.specs.Tree.{Property, Forest, no_nodes, branch}
use Rattle.dt_model.specs.Valid.{AreDistinct}
use Rattle.dt_flat.specs.Arena.{Arena, Slot, depth_of, forest_among, with_child, reading}
use Rattle.dt_flat.specs.Planted.{with_properties}
use Rattle.dt_flat.proofs.PlantedNodes.{own_properties}

-- a last node whose parent stands in front is below none of these
last_elsewhere : (i : ℕ) (ns : List Slot) (m : Slot) (q : ℕ) → m.parent ≢ q → m.parent < i → forest_among i (ns ++ m ∷ []) q ≡ forest_among i ns q
last_elsewhere i [] m q other before =
    ap (λ (b : Bool). cond b (branch m.name m.properties (forest_among (suc i) [] i) (forest_among (suc i) [] q)) (forest_among (suc i) [] q)) (ne_eqb m.parent q other)
last_elsewhere i (n ∷ ns) m q other before =
    let under = last_elsewhere (suc i) ns m i (λ e. omega arith) (omega arith) in
    let beside = last_elsewhere (suc i) ns m q other (omega arith) in
    λ j. cond (eqb n.parent q) (branch n.name n.properties (under j) (beside j)) (beside j)

-- it is the last child of its parent
last_child : (i : ℕ) (ns : List Slot) (m : Slot) (q : ℕ) → m.parent ≡ q → q < i
    → forest_among i (ns ++ m ∷ []) q ≡ followed_by (forest_among i ns q) (branch m.name m.properties no_nodes no_nodes)
last_child i [] m q own before =
    ap (λ (b : Bool). cond b (branch m.name m.properties (forest_among (suc i) [] i) (forest_among (suc i) [] q)) (forest_among (suc i) [] q)) (eq-eqb m.parent q own)
last_child i (n ∷ ns) m q own before =
    let under = last_elsewhere (suc i) ns m i (λ e. omega arith) (omega arith) in
    let beside = last_child (suc i) ns m q own (omega arith) in
    (λ j. cond (eqb n.parent q) (branch n.name n.properties (under j) (beside j)) (beside j))
    ∙ by (eqb n.parent q)
  where
    more : Forest
    more = branch m.name m.properties no_nodes no_nodes

    by : (b : Bool) → cond b (branch n.name n.properties (forest_among (suc i) ns i) (followed_by (forest_among (suc i) ns q) (branch m.name m.properties no_nodes no_nodes)))
        (followed_by (forest_among (suc i) ns q) (branch m.name m.properties no_nodes no_nodes))
        ≡ followed_by (cond b (branch n.name n.properties (forest_among (suc i) ns i) (forest_among (suc i) ns q)) (forest_among (suc i) ns q)) (branch m.name m.properties no_nodes no_nodes)
    by true = refl
    by false = refl

-- the node with these labels
abbrev symbols_slot : List Slot → List Property → Slot
symbols_slot slots symbols = record { parent = 0; depth = depth_of slots 0 + 1; name = codes "__symbols__"; properties = symbols }

slots_with : (slots : List Slot) (symbols : List Property) → AreDistinct (map (λ (x : Property). x.name) symbols)
    → with_properties (with_child slots 0 (codes "__symbols__")) (length slots) symbols ≡ slots ++ symbols_slot slots symbols ∷ []
slots_with slots symbols differ = own_properties slots (symbols_slot slots []) symbols refl differ

read_with : (a : Arena) (symbols : List Property) → 0 < length a.slots → 0 < length symbols
    → reading (record a { slots = a.slots ++ symbols_slot a.slots symbols ∷ [] }) ≡ with_symbols symbols (reading a)
read_with a symbols rooted some = by a.slots symbols rooted some
  where
    by : (slots : List Slot) (xs : List Property) → 0 < length slots → 0 < length xs
        → reading (record { boot_cpu = a.boot_cpu; reservations = a.reservations; slots = slots ++ symbols_slot slots xs ∷ [] })
        ≡ with_symbols xs (reading (record { boot_cpu = a.boot_cpu; reservations = a.reservations; slots = slots }))
    by [] xs rooted some = absurd (omega arith)
    by (s ∷ slots) [] rooted some = absurd (omega arith)
    by (s ∷ slots) (x ∷ xs) rooted some =
        ap (λ (f : Forest). record { boot_cpu = a.boot_cpu; reservations = a.reservations; properties = s.properties; children = f })
        (last_child 1 slots (symbols_slot (s ∷ slots) (x ∷ xs)) 0 refl (omega arith))

pub read_after : (old new : Arena) (listed symbols : List Property) → 0 < length old.slots → listed ≡ symbols → AreDistinct (map (λ (x : Property). x.name) symbols) → 0 < length listed
    → new ≡ record old { slots = with_properties (with_child old.slots 0 (codes "__symbols__")) (length old.slots) listed }
    → reading new ≡ with_symbols symbols (reading old)
read_after old new listed symbols rooted are differ some is =
    ap reading (is
    ∙ ap (λ (xs : List Property). record old { slots = with_properties (with_child old.slots 0 (codes "__symbols__")) (length old.slots) xs }) are
    ∙ ap (λ (slots : List Slot). record old { slots = slots }) (slots_with old.slots symbols differ))
    ∙ read_with old symbols rooted (subst (λ (xs : List Property). 0 < length xs) are some)
