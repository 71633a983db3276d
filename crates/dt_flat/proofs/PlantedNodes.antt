-- What planting makes: a node in front of its children, all at the end of the nodes before; and it is read as what was planted.
use Rattle.std.proofs.Common.{◌≡◌, ◌≢◌, ◌⊎◌, ℕ, suc, ◌+◌, ◌<◌, ◌≤◌, Bool, true, false, cond, eqb, List, [], ◌∷◌, ◌++◌, length, map, refl, sym, ap, ◌∙◌, arith, inl, inr, append_assoc}
use Rattle.std.specs.List.{AllByRecursion}
use Rattle.std.specs.Str.{bytes_eq}
use Rattle.std.proofs.lemmas.List.{append-nil, length-append}
use Rattle.std.proofs.lemmas.Slice.Eq.{bytes_eq-Decides}
use Rattle.dt_model.specs.Names.{Name}
use Rattle.dt_model.specs.Tree.{Property, Forest, no_nodes, branch, Reading}
use Rattle.dt_model.specs.Changes.{set_property, set_properties}
use Rattle.dt_model.specs.Valid.{AreDistinct, AreProperties, AreNodes, node_count, IsValid}
use Rattle.dt_flat.specs.Arena.{Slot, root_alone, depth_of, forest_among, with_child, with_property, reading}
use Rattle.dt_flat.specs.Planted.{with_properties, planted, planted_tree, arena_of}
use Rattle.dt_flat.proofs.AfterChild.{tested, differs}
use Rattle.dt_flat.proofs.Distinctness.{all-append}
use Rattle.dt_flat.proofs.Rooting.{depth-append, depth-last}

-- ---- properties of the last node

pub not_equal : (a b : Name) → a ≢ b → bytes_eq a b ≡ false
not_equal a b ne = by (bytes_eq a b) refl
  where
    by : (t : Bool) → bytes_eq a b ≡ t → t ≡ false
    by true e = absurd (ne ((bytes_eq-Decides a b).0 e))
    by false e = refl

-- a property of a new name goes last
set-new : (ps : List Property) (name value : List ℕ) → AllByRecursion (λ p. p.name ≢ name) ps
    → set_property ps name value ≡ ps ++ record { name = name; value = value } ∷ []
set-new [] name value h = refl
set-new (p ∷ ps) name value h =
    ap (λ (b : Bool). cond b (record { name = p.name; value = value } ∷ ps) (p ∷ set_property ps name value)) (not_equal name p.name (λ e. h.0 (sym e)))
    ∙ ap (λ (qs : List Property). p ∷ qs) (set-new ps name value h.1)

-- no property of xs has the name of one of ps
abbrev AreNew : List Property → List Property → Type 0
AreNew ps [] = Unit {0}
AreNew ps (x ∷ xs) = AllByRecursion (λ p. p.name ≢ x.name) ps × AreNew ps xs

new_further : (ps : List Property) (x : Property) (xs : List Property) → AreNew ps xs → AllByRecursion (λ y. y ≢ x.name) (map (λ p. p.name) xs)
    → AreNew (ps ++ x ∷ []) xs
new_further ps x [] h d = tt
new_further ps x (y ∷ ys) h d = (all-append (λ p. p.name ≢ y.name) ps (x ∷ []) h.0 ((λ e. d.0 (sym e)), tt), new_further ps x ys h.1 d.1)

new_first : (xs : List Property) → AreNew [] xs
new_first [] = tt
new_first (x ∷ xs) = (tt, new_first xs)

set-all : (ps xs : List Property) → AreDistinct (map (λ p. p.name) xs) → AreNew ps xs → set_properties ps xs ≡ ps ++ xs
set-all ps [] d n = sym (append-nil ps)
set-all ps (x ∷ xs) d n =
    ap (λ (qs : List Property). set_properties qs xs) (set-new ps x.name x.value n.0)
    ∙ set-all (ps ++ x ∷ []) xs d.1 (new_further ps x xs n.1 d.0)
    ∙ append_assoc ps (x ∷ []) xs

last_property : (slots : List Slot) (m : Slot) (name value : List ℕ)
    → with_property (slots ++ m ∷ []) (length slots) name value ≡ slots ++ record m { properties = set_property m.properties name value } ∷ []
last_property [] m name value = refl
last_property (n ∷ ns) m name value = ap (λ (ms : List Slot). n ∷ ms) (last_property ns m name value)

last_properties : (slots : List Slot) (m : Slot) (xs : List Property)
    → with_properties (slots ++ m ∷ []) (length slots) xs ≡ slots ++ record m { properties = set_properties m.properties xs } ∷ []
last_properties slots m [] = refl
last_properties slots m (x ∷ xs) =
    ap (λ (ns : List Slot). with_properties ns (length slots) xs) (last_property slots m x.name x.value)
    ∙ last_properties slots (record m { properties = set_property m.properties x.name x.value }) xs

-- a last node without properties gets these
pub own_properties : (slots : List Slot) (m : Slot) (xs : List Property) → m.properties ≡ [] → AreDistinct (map (λ p. p.name) xs)
    → with_properties (slots ++ m ∷ []) (length slots) xs ≡ slots ++ record m { properties = xs } ∷ []
own_properties slots m xs none d =
    last_properties slots m xs
    ∙ ap (λ (ps : List Property). slots ++ record m { properties = ps } ∷ []) (ap (λ (ps : List Property). set_properties ps xs) none ∙ set-all [] xs d (new_first xs))

-- ---- the nodes of a forest

-- those of a forest below p, where the first of them has number i and depth d
abbrev pub rows : ℕ → ℕ → ℕ → Forest → List Slot
rows i p d no_nodes = []
rows i p d (branch name properties children siblings) =
    record { parent = p; depth = d; name = name; properties = properties } ∷ (rows (suc i) i (d + 1) children ++ rows (suc i + node_count children) p d siblings)

pub length-rows : (i p d : ℕ) (f : Forest) → length (rows i p d f) ≡ node_count f
length-rows i p d no_nodes = refl
length-rows i p d (branch name properties children siblings) =
    let inside = length-rows (suc i) i (d + 1) children in
    let after = length-rows (suc i + node_count children) p d siblings in
    omega (arith, length-append (rows (suc i) i (d + 1) children) (rows (suc i + node_count children) p d siblings))

-- the node of a branch
abbrev pub made : List Slot → ℕ → Name → List Property → Slot
made slots p name properties = record { parent = p; depth = depth_of slots p + 1; name = name; properties = properties }

pub made_last : (slots : List Slot) (p : ℕ) (name : Name) (ps : List Property) → AreProperties ps
    → with_properties (with_child slots p name) (length slots) ps ≡ slots ++ made slots p name ps ∷ []
made_last slots p name ps h = own_properties slots (made slots p name []) ps refl h.distinct

pub length-made : (slots : List Slot) (m : Slot) → length (slots ++ m ∷ []) ≡ suc (length slots)
length-made slots m = omega (arith, length-append slots (m ∷ []))

pub planted_rows : (f : Forest) (slots : List Slot) (p : ℕ) → p < length slots → AreNodes f
    → planted slots p f ≡ slots ++ rows (length slots) p (depth_of slots p + 1) f
planted_rows no_nodes slots p lt h = sym (append-nil slots)
planted_rows (branch name properties children siblings) slots p lt h =
    let m = made slots p name properties in
    let d = depth_of slots p + 1 in
    let i = length slots in
    let ns : List Slot = slots ++ m ∷ [] in
    let inner = rows (suc i) i (d + 1) children in
    let outer = rows (suc i + node_count children) p d siblings in
    let more : length ns ≡ suc i = length-made slots m in
    let inside : planted ns i children ≡ ns ++ inner =
    planted_rows children ns i (omega arith) h.2 ∙ (λ j. ns ++ rows (more j) i (depth-last slots m j + 1) children) in
    let size : length (ns ++ inner) ≡ suc i + node_count children = omega (arith, length-append ns inner, length-rows (suc i) i (d + 1) children, more) in
    let deep : depth_of (ns ++ inner) p ≡ depth_of slots p = depth-append ns inner p (omega arith) ∙ depth-append slots (m ∷ []) p lt in
    let after : planted (ns ++ inner) p siblings ≡ (ns ++ inner) ++ outer =
    planted_rows siblings (ns ++ inner) p (omega arith) h.4 ∙ (λ j. (ns ++ inner) ++ rows (size j) p (deep j + 1) siblings) in
    ap (λ (x : List Slot). planted (planted x i children) p siblings) (made_last slots p name properties h.1)
    ∙ ap (λ (x : List Slot). planted x p siblings) inside
    ∙ after
    ∙ regrouped slots m inner outer
  where
    regrouped : (xs : List Slot) (m : Slot) (ys zs : List Slot) → ((xs ++ m ∷ []) ++ ys) ++ zs ≡ xs ++ m ∷ (ys ++ zs)
    regrouped xs m ys zs = append_assoc (xs ++ m ∷ []) ys zs ∙ append_assoc xs (m ∷ []) (ys ++ zs)

-- ---- what the nodes of a forest are read as

-- each parent is p, or stands from i on
abbrev pub AreBelow : ℕ → ℕ → List Slot → Type 0
AreBelow i p ns = AllByRecursion (λ n. (n.parent ≡ p) ⊎ (i ≤ n.parent)) ns

below_further : (i k p q : ℕ) → k ≤ i → (q ≡ p) ⊎ (k ≤ q) → (ns : List Slot) → AreBelow i q ns → AreBelow k p ns
below_further i k p q le c [] h = tt
below_further i k p q le c (n ∷ ns) h =
    (elim h.0 [ inl e ↦ elim c [ inl f ↦ inl (e ∙ f) | inr f ↦ inr (omega arith) ] | inr e ↦ inr (omega arith) ], below_further i k p q le c ns h.1)

pub rows_below : (i p d : ℕ) (f : Forest) → AreBelow i p (rows i p d f)
rows_below i p d no_nodes = tt
rows_below i p d (branch name properties children siblings) =
    let under = below_further (suc i) i p i (omega arith) (inr (omega arith)) (rows (suc i) i (d + 1) children) (rows_below (suc i) i (d + 1) children) in
    let beside = below_further (suc i + node_count children) i p p (omega arith) (inl refl) (rows (suc i + node_count children) p d siblings) (rows_below (suc i + node_count children) p d siblings) in
    (inl refl, all-append (λ n. (n.parent ≡ p) ⊎ (i ≤ n.parent)) (rows (suc i) i (d + 1) children) (rows (suc i + node_count children) p d siblings) under beside)

-- nodes in front of which none is a child of p
behind_others : (i : ℕ) (ns ms : List Slot) (p : ℕ) → AllByRecursion (λ n. n.parent ≢ p) ns
    → forest_among i (ns ++ ms) p ≡ forest_among (i + length ns) ms p
behind_others i [] ms p h = let e : i ≡ i + 0 = omega arith in ap (λ (k : ℕ). forest_among k ms p) e
behind_others i (n ∷ ns) ms p h =
    let e : suc i + length ns ≡ i + suc (length ns) = omega arith in
    ap (λ (b : Bool). cond b (branch n.name n.properties (forest_among (suc i) (ns ++ ms) i) (forest_among (suc i) (ns ++ ms) p)) (forest_among (suc i) (ns ++ ms) p)) (differs n.parent p h.0)
    ∙ behind_others (suc i) ns ms p h.1 ∙ ap (λ (k : ℕ). forest_among k ms p) e

none_below : (i : ℕ) (ns : List Slot) (p : ℕ) → AllByRecursion (λ n. n.parent ≢ p) ns → forest_among i ns p ≡ no_nodes
none_below i [] p h = refl
none_below i (n ∷ ns) p h =
    ap (λ (b : Bool). cond b (branch n.name n.properties (forest_among (suc i) ns i) (forest_among (suc i) ns p)) (forest_among (suc i) ns p)) (differs n.parent p h.0)
    ∙ none_below (suc i) ns p h.1

-- the node is no child of p, and of none of those from i up to k
abbrev IsOutside : ℕ → ℕ → ℕ → Slot → Type 0
IsOutside i k p n = (n.parent ≢ p) × ((n.parent < i) ⊎ (k ≤ n.parent))

outside_narrower : (i k p : ℕ) (ms : List Slot) → i < k → AllByRecursion (IsOutside i k p) ms
    → AllByRecursion (IsOutside (suc i) k p) ms × AllByRecursion (IsOutside (suc i) k i) ms
outside_narrower i k p [] lt h = (tt, tt)
outside_narrower i k p (m ∷ ms) lt h =
    let rest = outside_narrower i k p ms lt h.1 in
    let own : (m.parent < suc i) ⊎ (k ≤ m.parent) = elim h.0.1 [ inl l ↦ inl (omega arith) | inr l ↦ inr l ] in
    let other : m.parent ≢ i = elim h.0.1 [ inl l ↦ (λ e. omega arith) | inr l ↦ (λ e. omega arith) ] in
    (((h.0.0, own), rest.0), ((other, own), rest.1))

outside_others : (i k p : ℕ) (ms : List Slot) → AllByRecursion (IsOutside i k p) ms → AllByRecursion (λ n. n.parent ≢ p) ms
outside_others i k p [] h = tt
outside_others i k p (m ∷ ms) h = (h.0.0, outside_others i k p ms h.1)

-- nodes behind which none is below p
before_others : (i k : ℕ) (ns ms : List Slot) (p : ℕ) → k ≡ i + length ns → AllByRecursion (IsOutside i k p) ms
    → forest_among i (ns ++ ms) p ≡ forest_among i ns p
before_others i k [] ms p e h = none_below i ms p (outside_others i k p ms h)
before_others i k (n ∷ ns) ms p e h =
    let lt : i < k = omega arith in
    let further : k ≡ suc i + length ns = omega arith in
    let both = outside_narrower i k p ms lt h in
    let under = before_others (suc i) k ns ms i further both.1 in
    let beside = before_others (suc i) k ns ms p further both.0 in
    λ j. cond (eqb n.parent p) (branch n.name n.properties (under j) (beside j)) (beside j)

others : (i p q : ℕ) (ns : List Slot) → AreBelow i q ns → p < i → q ≢ p → AllByRecursion (λ n. n.parent ≢ p) ns
others i p q [] h lt d = tt
others i p q (n ∷ ns) h lt d = (elim h.0 [ inl e ↦ (λ f. d (sym e ∙ f)) | inr e ↦ (λ f. omega arith) ], others i p q ns h.1 lt d)

outside : (i k p q : ℕ) (ns : List Slot) → AreBelow k q ns → q < i → p < k → p ≢ q → AllByRecursion (IsOutside i k p) ns
outside i k p q [] h lt l d = tt
outside i k p q (n ∷ ns) h lt l d =
    (elim h.0 [ inl e ↦ ((λ f. d (sym f ∙ e)), inl (omega arith)) | inr e ↦ ((λ f. omega arith), inr e) ], outside i k p q ns h.1 lt l d)

pub rows_read : (i p d : ℕ) (f : Forest) → p < i → forest_among i (rows i p d f) p ≡ f
rows_read i p d no_nodes lt = refl
rows_read i p d (branch name properties children siblings) lt =
    let inner = rows (suc i) i (d + 1) children in
    let k = suc i + node_count children in
    let outer = rows k p d siblings in
    let size : k ≡ suc i + length inner = omega (arith, length-rows (suc i) i (d + 1) children) in
    let under : forest_among (suc i) (inner ++ outer) i ≡ children =
    before_others (suc i) k inner outer i size (outside (suc i) k i p outer (rows_below k p d siblings) (omega arith) (omega arith) (omega arith)) ∙ rows_read (suc i) i (d + 1) children (omega arith) in
    let beside : forest_among (suc i) (inner ++ outer) p ≡ siblings =
    behind_others (suc i) inner outer p (others (suc i) p i inner (rows_below (suc i) i (d + 1) children) (omega arith) (omega arith))
    ∙ ap (λ (n : ℕ). forest_among n outer p) (sym size)
    ∙ rows_read k p d siblings (omega arith) in
    ap (λ (b : Bool). cond b (branch name properties (forest_among (suc i) (inner ++ outer) i) (forest_among (suc i) (inner ++ outer) p)) (forest_among (suc i) (inner ++ outer) p)) (tested p p refl)
    ∙ (λ j. branch name properties (under j) (beside j))

-- ---- the whole tree

-- a root with these properties
abbrev pub root_with : List Property → List Slot
root_with properties = record { parent = 0; depth = 0; name = []; properties = properties } ∷ []

pub root_set : (properties : List Property) → AreProperties properties → with_properties (root_alone 0).slots 0 properties ≡ root_with properties
root_set properties h = own_properties [] (record { parent = 0; depth = 0; name = []; properties = [] }) properties refl h.distinct

pub arena_reads : (t : Reading) → IsValid t → reading (arena_of t) ≡ t
arena_reads t v =
    let whole : planted_tree t.properties t.children ≡ root_with t.properties ++ rows 1 0 1 t.children =
    ap (λ (x : List Slot). planted x 0 t.children) (root_set t.properties v.properties) ∙ planted_rows t.children (root_with t.properties) 0 (omega arith) v.nodes in
    ap (λ (x : List Slot). reading (record { boot_cpu = t.boot_cpu; reservations = t.reservations; slots = x })) whole
    ∙ ap (λ (f : Forest). record { boot_cpu = t.boot_cpu; reservations = t.reservations; properties = t.properties; children = f }) (rows_read 1 0 1 t.children (omega arith))
