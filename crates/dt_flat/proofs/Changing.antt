-- A change of one node by its number is read as a change of the node to which a path leads.
use Rattle.std.proofs.Common.{◌≡◌, ◌≢◌, ℕ, zero, suc, ◌+◌, ◌<◌, ◌≤◌, Bool, true, false, cond, eqb, List, [], ◌∷◌, ◌++◌, length, drop, Option, Some, None, refl, sym, ap, subst, ◌∙◌, arith}
use Rattle.std.specs.Prelude.{option_and_then}
use Rattle.std.specs.Str.{bytes_eq}
use Rattle.std.proofs.lemmas.Bool.{eqb-true}
use Rattle.std.proofs.lemmas.List.{drop-append-le}
use Rattle.dt_model.specs.Names.{Name}
use Rattle.dt_model.specs.Path.{Path}
use Rattle.dt_model.specs.Tree.{Property, no_nodes, branch, Node}
use Rattle.dt_model.specs.Changes.{set_property, changed_sibling, changed_below, with_child_at, with_property_at}
use Rattle.dt_model.specs.Changes.{with_child as with_child_below}
use Rattle.dt_flat.specs.Arena.{Arena, Slot, IsRooted, named_among, named_children, child_of, properties, parent_of, depth_of, with_child, with_property, forest_among, below, node_from, reading}
use Rattle.dt_flat.proofs.AfterChild.{tested, differs, properties-push}
use Rattle.dt_flat.proofs.AfterProperty.{properties-same, properties-other}
use Rattle.dt_flat.proofs.ByPath.{has, first_slot}
use Rattle.dt_flat.proofs.Descent.{Leads, leads-itself, leads-parent, leads-one, path-leads, path-within}
use Rattle.dt_flat.proofs.Edges.{edge, found_among}
use Rattle.dt_flat.proofs.Rooting.{first_of_rest}

-- nodes, where the first has number s, before and after a change of node p: the properties of p may differ, and one more node, a
-- child of p, may stand at the end
abbrev pub IsChanged : ℕ → ℕ → List Slot → List Slot → Type 0
IsChanged s p [] [] = Unit {0}
IsChanged s p [] (m ∷ ms) = (m.parent ≡ p) × (ms ≡ [])
IsChanged s p (n ∷ ns) [] = ⊥
IsChanged s p (n ∷ ns) (m ∷ ms) = (n.parent ≡ m.parent) × (n.name ≡ m.name) × (s ≢ p → n.properties ≡ m.properties) × IsChanged (suc s) p ns ms

-- ---- what isn't below the node stays

-- from number s on, k has no child above p
abbrev IsApart : List Slot → ℕ → ℕ → ℕ → Type 0
IsApart slots s k p = (t : ℕ) → s ≤ t → t < length slots → parent_of slots t ≡ k → Leads slots t p → ⊥

-- so what stands below k is read as before
unchanged : (slots : List Slot) (p : ℕ) (s : ℕ) (ns ms : List Slot) (k : ℕ) → IsRooted slots → IsChanged s p ns ms → drop s slots ≡ ns → 0 < s → k ≢ p → IsApart slots s k p → forest_among s ns k ≡ forest_among s ms k
unchanged slots p s [] [] k rooted h at pos ne apart = refl
unchanged slots p s [] (m ∷ ms) k rooted h at pos ne apart =
    sym (ap (λ (b : Bool). cond b (branch m.name m.properties (forest_among (suc s) ms s) (forest_among (suc s) ms k)) (forest_among (suc s) ms k)) (differs m.parent k (λ e. ne (sym e ∙ h.0)))
    ∙ ap (λ (xs : List Slot). forest_among (suc s) xs k) h.1)
unchanged slots p s (n ∷ ns) [] k rooted h at pos ne apart = absurd h
unchanged slots p s (n ∷ ns) (m ∷ ms) k rooted h at pos ne apart =
    let first = first_of_rest slots s n ns at in
    let beside = unchanged slots p (suc s) ns ms k rooted h.3 first.2 (omega arith) ne (λ t le lt up leads. apart t (omega arith) lt up leads) in
    by (eqb n.parent k) refl first beside (λ other apart'. unchanged slots p (suc s) ns ms s rooted h.3 first.2 (omega arith) other apart')
    ∙ (λ j. cond (eqb (h.0 j) k) (branch m.name m.properties (forest_among (suc s) ms s) (forest_among (suc s) ms k)) (forest_among (suc s) ms k))
  where
    by : (b : Bool) → eqb n.parent k ≡ b → (parent_of slots s ≡ n.parent) × (s < length slots) × (drop (suc s) slots ≡ ns) → forest_among (suc s) ns k ≡ forest_among (suc s) ms k
        → (s ≢ p → IsApart slots (suc s) s p → forest_among (suc s) ns s ≡ forest_among (suc s) ms s)
        → cond b (branch n.name n.properties (forest_among (suc s) ns s) (forest_among (suc s) ns k)) (forest_among (suc s) ns k)
        ≡ cond b (branch m.name m.properties (forest_among (suc s) ms s) (forest_among (suc s) ms k)) (forest_among (suc s) ms k)
    by false e first beside inside = beside
    by true e first beside inside =
        let up : parent_of slots s ≡ k = first.0 ∙ eqb-true n.parent k e in
        let off : Leads slots s p → ⊥ = λ leads. apart s (omega arith) first.1 up leads in
        let other : s ≢ p = λ same. off (subst (λ (i : ℕ). Leads slots s i) same (leads-itself slots s)) in
        let under = inside other (λ t le lt above leads. off (leads-parent slots t s p rooted (omega arith) lt above leads)) in
        let same = h.2 other in
        λ j. branch (h.1 j) (same j) (under j) (beside j)

-- ---- the node on the way

-- the children of i, of which j is the first of its name and leads to p, are read with j changed alone
changed_among : (slots new : List Slot) (p i j : ℕ) (x : Name) (change : Node → Node) → IsRooted slots → i ≢ p → parent_of slots j ≡ i → 0 < j → j < length slots → Leads slots j p → change (has slots j) ≡ has new j
    → (s : ℕ) (ns ms : List Slot) → IsChanged s p ns ms → drop s slots ≡ ns → drop s new ≡ ms → 0 < s → child_of (named_among s ns i) x ≡ Some j → changed_sibling change (forest_among s ns i) x ≡ forest_among s ms i
changed_among slots new p i j x change rooted ne parent jpos jlt leads is s [] ms h at there pos found = absurd cc
changed_among slots new p i j x change rooted ne parent jpos jlt leads is s (n ∷ ns) [] h at there pos found = absurd h
changed_among slots new p i j x change rooted ne parent jpos jlt leads is s (n ∷ ns) (m ∷ ms) h at there pos found =
    by (eqb n.parent i) refl found (λ f. changed_among slots new p i j x change rooted ne parent jpos jlt leads is (suc s) ns ms h.3 (first_of_rest slots s n ns at).2 (first_slot new s m ms there).1 (omega arith) f)
    ∙ (λ t. cond (eqb (h.0 t) i) (branch m.name m.properties (forest_among (suc s) ms s) (forest_among (suc s) ms i)) (forest_among (suc s) ms i))
  where
    -- a child of i that isn't j
    off : (t : ℕ) → t < length slots → 0 < t → parent_of slots t ≡ i → t ≢ j → Leads slots t p → ⊥
    off t lt tpos up d other =
        let same : depth_of slots t ≡ depth_of slots j =
        rooted.deeper t tpos lt ∙ ap (λ (k : ℕ). depth_of slots k + 1) (up ∙ sym parent) ∙ sym (rooted.deeper j jpos jlt) in
        d (leads-one slots t j p same other leads)

    by : (b : Bool) → eqb n.parent i ≡ b → child_of (cond b (record { name = n.name; node = s } ∷ named_among (suc s) ns i) (named_among (suc s) ns i)) x ≡ Some j
        → (child_of (named_among (suc s) ns i) x ≡ Some j → changed_sibling change (forest_among (suc s) ns i) x ≡ forest_among (suc s) ms i)
        → changed_sibling change (cond b (branch n.name n.properties (forest_among (suc s) ns s) (forest_among (suc s) ns i)) (forest_among (suc s) ns i)) x
        ≡ cond b (branch m.name m.properties (forest_among (suc s) ms s) (forest_among (suc s) ms i)) (forest_among (suc s) ms i)
    by false e f rest = rest f
    by true e f rest = named (bytes_eq x n.name) f
      where
        first : (parent_of slots s ≡ n.parent) × (s < length slots) × (drop (suc s) slots ≡ ns)
        first = first_of_rest slots s n ns at

        up : parent_of slots s ≡ i
        up = first.0 ∙ eqb-true n.parent i e

        -- the later siblings, where none of them is j
        beside : ((t : ℕ) → suc s ≤ t → t ≢ j) → forest_among (suc s) ns i ≡ forest_among (suc s) ms i
        beside others = unchanged slots p (suc s) ns ms i rooted h.3 first.2 (omega arith) ne (λ t le lt above. off t lt (omega arith) above (others t le))

        named : (t : Bool) → cond t (Some s) (child_of (named_among (suc s) ns i) x) ≡ Some j
            → cond t (let c : Node = change (record { properties = n.properties; children = forest_among (suc s) ns s }) in branch n.name c.properties c.children (forest_among (suc s) ns i))
            (branch n.name n.properties (forest_among (suc s) ns s) (changed_sibling change (forest_among (suc s) ns i) x))
            ≡ branch m.name m.properties (forest_among (suc s) ms s) (forest_among (suc s) ms i)
        named true f =
            let here : s ≡ j = cc in
            let old = first_slot slots s n ns at in
            let after = first_slot new s m ms there in
            let before : record { properties = n.properties; children = forest_among (suc s) ns s } ≡ has slots s = λ t. record { properties = sym old.0 t; children = forest_among (suc s) (sym old.1 t) s } in
            let changed : change (record { properties = n.properties; children = forest_among (suc s) ns s }) ≡ record { properties = m.properties; children = forest_among (suc s) ms s } =
            ap change before ∙ ap (λ (k : ℕ). change (has slots k)) here ∙ is ∙ ap (has new) (sym here) ∙ (λ t. record { properties = after.0 t; children = forest_among (suc s) (after.1 t) s }) in
            let later = beside (λ t le same. omega (arith, same, here, le)) in
            λ t. branch (h.1 t) (changed t).properties (changed t).children (later t)
        named false f =
            let later = found_among (suc s) ns i x j f in
            let other : s ≢ j = λ same. omega (arith, same, later.place) in
            let here : Leads slots s p → ⊥ = off s first.1 pos up other in
            let apart : s ≢ p = λ same. here (subst (λ (k : ℕ). Leads slots s k) same (leads-itself slots s)) in
            let under = unchanged slots p (suc s) ns ms s rooted h.3 first.2 (omega arith) apart (λ t le lt above leads. here (leads-parent slots t s p rooted (omega arith) lt above leads)) in
            let same = h.2 apart in
            let rests = rest f in
            λ t. branch (h.1 t) (same t) (under t) (rests t)

-- ---- the whole way

-- what a change of node p does, wherever the nodes are read from
pub record IsChange (slots new : List Slot) (p : ℕ) (change : Node → Node) : Type 0 where
  pub here : change (has slots p) ≡ has new p
  pub kept : (i : ℕ) → i ≢ p → i < length slots → properties slots i ≡ properties new i
  pub behind : (s : ℕ) → s ≤ length slots → IsChanged s p (drop s slots) (drop s new)

-- the node at the start of a path to p is read with the end of the path changed
pub changed_on_way : (slots new : List Slot) (p : ℕ) (change : Node → Node) → IsRooted slots → IsChange slots new p change → (q : Path) (i : ℕ) → i < length slots → node_from slots i q ≡ Some p → changed_below change q (has slots i) ≡ has new i
changed_on_way slots new p change rooted is [] i lt e =
    let same : i ≡ p = cc in
    ap (λ (k : ℕ). change (has slots k)) same ∙ is.here ∙ ap (has new) (sym same)
changed_on_way slots new p change rooted is (x ∷ q) i lt e = by (child_of (named_children slots i) x) refl e (λ j l h. changed_on_way slots new p change rooted is q j l h)
  where
    by : (o : Option ℕ) → child_of (named_children slots i) x ≡ o → option_and_then (λ c. node_from slots c q) o ≡ Some p → ((j : ℕ) → j < length slots → node_from slots j q ≡ Some p → changed_below change q (has slots j) ≡ has new j)
        → record { properties = properties slots i; children = changed_sibling (changed_below change q) (below slots i) x } ≡ has new i
    by None found e f = absurd cc
    by (Some j) found e f =
        let at = edge slots i x j found in
        let pos : 0 < j = omega (arith, at.after) in
        let leads = path-leads slots q j p rooted e in
        let deeper : depth_of slots j ≡ depth_of slots i + 1 = rooted.deeper j pos at.within ∙ ap (λ (k : ℕ). depth_of slots k + 1) at.parent in
        let ne : i ≢ p = λ same. omega (arith, leads.deep, ap (depth_of slots) same, deeper) in
        let own = is.kept i ne lt in
        let children = changed_among slots new p i j x (changed_below change q) rooted ne at.parent pos at.within leads (f j at.within e) (suc i) (drop (suc i) slots) (drop (suc i) new) (is.behind (suc i) (omega arith)) refl refl (omega arith) found in
        λ t. record { properties = own t; children = children t }

-- ---- a property set

-- nodes that stay the same are changed nowhere
changed-itself : (s p : ℕ) (ns : List Slot) → IsChanged s p ns ns
changed-itself s p [] = tt
changed-itself s p (n ∷ ns) = (refl, refl, (λ ne. refl), changed-itself (suc s) p ns)

-- a property set at number p is a change of p
property-changed : (s k p : ℕ) (ns : List Slot) (name : Name) (value : List ℕ) → s + k ≡ p → IsChanged s p ns (with_property ns k name value)
property-changed s k p [] name value at = tt
property-changed s zero p (n ∷ ns) name value at = (refl, refl, (λ ne. absurd (ne (omega arith))), changed-itself (suc s) p ns)
property-changed s (suc k) p (n ∷ ns) name value at = (refl, refl, (λ ne. refl), property-changed (suc s) k p ns name value (omega arith))

-- and so it is from each number on
property-behind : (d p k : ℕ) (ns : List Slot) (name : Name) (value : List ℕ) → d + k ≡ p → (s : ℕ) → IsChanged (d + s) p (drop s ns) (drop s (with_property ns k name value))
property-behind d p k ns name value at zero = let e : d + 0 ≡ d = omega arith in subst (λ (i : ℕ). IsChanged i p ns (with_property ns k name value)) (sym e) (property-changed d k p ns name value at)
property-behind d p k [] name value at (suc s) = tt
property-behind d p zero (n ∷ ns) name value at (suc s) = changed-itself (d + suc s) p (drop s ns)
property-behind d p (suc k) (n ∷ ns) name value at (suc s) =
    let e : suc d + s ≡ d + suc s = omega arith in
    subst (λ (i : ℕ). IsChanged i p (drop s ns) (drop s (with_property ns k name value))) e (property-behind (suc d) p k ns name value (omega arith) s)

-- nothing behind the node differs
drop-property : (ns : List Slot) (k : ℕ) (name : Name) (value : List ℕ) → drop (suc k) (with_property ns k name value) ≡ drop (suc k) ns
drop-property [] k name value = refl
drop-property (n ∷ ns) zero name value = refl
drop-property (n ∷ ns) (suc k) name value = drop-property ns k name value

-- a property that is set by number is set at the path
pub property_by_path : (a : Arena) (q : Path) (p : ℕ) (name : Name) (value : List ℕ) → IsRooted a.slots → node_from a.slots 0 q ≡ Some p → reading (record a { slots = with_property a.slots p name value }) ≡ with_property_at q name value (reading a)
property_by_path a q p name value rooted e =
    let slots = a.slots in
    let new = with_property slots p name value in
    let change : Node → Node = λ n. record { properties = set_property n.properties name value; children = n.children } in
    let lt : p < length slots = path-within slots q 0 p rooted.some e in
    let is : IsChange slots new p change = record {
      here = λ t. record { properties = sym (properties-same slots p name value lt) t; children = forest_among (suc p) (sym (drop-property slots p name value) t) p };
      kept = λ i ne l. sym (properties-other slots p name value i ne);
      behind = λ s le. subst (λ (k : ℕ). IsChanged k p (drop s slots) (drop s new)) (plus s) (property-behind 0 p p slots name value (plus p) s);
    } in
    let changed = changed_on_way slots new p change rooted is q 0 rooted.some e in
    λ t. record { boot_cpu = a.boot_cpu; reservations = a.reservations; properties = (sym changed t).properties; children = (sym changed t).children }
  where
    plus : (s : ℕ) → 0 + s ≡ s
    plus s = omega arith

-- ---- a child added

-- a child of p at the end is a change of p
child-changed : (s p : ℕ) (ns : List Slot) (m : Slot) → m.parent ≡ p → IsChanged s p ns (ns ++ m ∷ [])
child-changed s p [] m at = (at, refl)
child-changed s p (n ∷ ns) m at = (refl, refl, (λ ne. refl), child-changed (suc s) p ns m at)

-- the children of p, when one more of a new name is added at the end
child-added : (slots : List Slot) (p : ℕ) (m : Slot) → IsRooted slots → p < length slots → m.parent ≡ p → m.properties ≡ [] → (s : ℕ) (ns : List Slot) → drop s slots ≡ ns → p < s → child_of (named_among s ns p) m.name ≡ None
    → with_child_below (forest_among s ns p) m.name [] (λ nodes. nodes) ≡ forest_among s (ns ++ m ∷ []) p
child-added slots p m rooted plt up none s [] at lt fresh =
    sym (ap (λ (b : Bool). cond b (branch m.name m.properties no_nodes no_nodes) no_nodes) (same up) ∙ ap (λ (ps : List Property). branch m.name ps no_nodes no_nodes) none)
  where
    same : m.parent ≡ p → eqb m.parent p ≡ true
    same e = tested m.parent p e
child-added slots p m rooted plt up none s (n ∷ ns) at lt fresh =
    by (eqb n.parent p) refl fresh (λ f. child-added slots p m rooted plt up none (suc s) ns (first_of_rest slots s n ns at).2 (omega arith) f)
  where
    by : (b : Bool) → eqb n.parent p ≡ b → child_of (cond b (record { name = n.name; node = s } ∷ named_among (suc s) ns p) (named_among (suc s) ns p)) m.name ≡ None
        → (child_of (named_among (suc s) ns p) m.name ≡ None → with_child_below (forest_among (suc s) ns p) m.name [] (λ nodes. nodes) ≡ forest_among (suc s) (ns ++ m ∷ []) p)
        → with_child_below (cond b (branch n.name n.properties (forest_among (suc s) ns s) (forest_among (suc s) ns p)) (forest_among (suc s) ns p)) m.name [] (λ nodes. nodes)
        ≡ cond b (branch n.name n.properties (forest_among (suc s) (ns ++ m ∷ []) s) (forest_among (suc s) (ns ++ m ∷ []) p)) (forest_among (suc s) (ns ++ m ∷ []) p)
    by false e f rest = rest f
    by true e f rest = named (bytes_eq m.name n.name) f
      where
        first : (parent_of slots s ≡ n.parent) × (s < length slots) × (drop (suc s) slots ≡ ns)
        first = first_of_rest slots s n ns at

        -- p isn't below its child
        off : Leads slots s p → ⊥
        off leads =
            let deeper : depth_of slots s ≡ depth_of slots p + 1 = rooted.deeper s (omega arith) first.1 ∙ ap (λ (k : ℕ). depth_of slots k + 1) (first.0 ∙ eqb-true n.parent p e) in
            omega (arith, leads.deep, deeper)

        under : forest_among (suc s) ns s ≡ forest_among (suc s) (ns ++ m ∷ []) s
        under = unchanged slots p (suc s) ns (ns ++ m ∷ []) s rooted (child-changed (suc s) p ns m up) first.2 (omega arith) (λ same. omega (arith, same)) (λ t le l above leads. off (leads-parent slots t s p rooted (omega arith) l above leads))

        named : (t : Bool) → cond t (Some s) (child_of (named_among (suc s) ns p) m.name) ≡ None
            → cond t (branch n.name n.properties (forest_among (suc s) ns s) (forest_among (suc s) ns p)) (branch n.name n.properties (forest_among (suc s) ns s) (with_child_below (forest_among (suc s) ns p) m.name [] (λ nodes. nodes)))
            ≡ branch n.name n.properties (forest_among (suc s) (ns ++ m ∷ []) s) (forest_among (suc s) (ns ++ m ∷ []) p)
        named true f = absurd cc
        named false f = let rests = rest f in λ t. branch n.name n.properties (under t) (rests t)

-- a child that is added by number is added at the path
pub child_by_path : (a : Arena) (q : Path) (p : ℕ) (name : Name) → IsRooted a.slots → node_from a.slots 0 q ≡ Some p → child_of (named_children a.slots p) name ≡ None → reading (record a { slots = with_child a.slots p name }) ≡ with_child_at q name (reading a)
child_by_path a q p name rooted e fresh =
    let slots = a.slots in
    let m : Slot = record { parent = p; depth = depth_of slots p + 1; name = name; properties = [] } in
    let new = with_child slots p name in
    let change : Node → Node = λ n. record { properties = n.properties; children = with_child_below n.children name [] (λ nodes. nodes) } in
    let lt : p < length slots = path-within slots q 0 p rooted.some e in
    let added = child-added slots p m rooted lt refl refl (suc p) (drop (suc p) slots) refl (omega arith) fresh in
    let split = drop-append-le (suc p) slots (m ∷ []) (omega arith) in
    let is : IsChange slots new p change = record {
      here = λ t. record { properties = sym (properties-push slots m p refl) t; children = (added ∙ ap (λ (ns : List Slot). forest_among (suc p) ns p) (sym split)) t };
      kept = λ i ne l. sym (properties-push slots m i refl);
      behind = λ s le. subst (λ (ms : List Slot). IsChanged s p (drop s slots) ms) (sym (drop-append-le s slots (m ∷ []) le)) (child-changed s p (drop s slots) m refl);
    } in
    let changed = changed_on_way slots new p change rooted is q 0 rooted.some e in
    λ t. record { boot_cpu = a.boot_cpu; reservations = a.reservations; properties = (sym changed t).properties; children = (sym changed t).children }
