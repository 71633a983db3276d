-- Numbers, parents and depths stay in order, and within the limits; so does what the arena is read as.
use Rattle.std.proofs.Common.{◌≡◌, ◌≢◌, ℕ, zero, suc, ◌+◌, ◌<◌, ◌≤◌, Bool, true, false, cond, eqb, List, [], ◌∷◌, ◌++◌, length, drop, refl, sym, ap, subst, ◌∙◌, arith, inl, inr}
use Rattle.std.proofs.lemmas.Bool.{cases_eq, cases_lt, eqb-true}
use Rattle.std.proofs.lemmas.List.{length-drop}
use Rattle.dt_model.specs.Names.{Name}
use Rattle.dt_model.specs.Tree.{branch}
use Rattle.dt_model.specs.Valid.{node_count, IsNoDeeper, IsWithinLimits}
use Rattle.dt_flat.specs.Arena.{Arena, Slot, parent_of, depth_of, name_of, forest_among, with_child, with_property, reading, IsRooted}
use Rattle.dt_flat.proofs.AfterChild.{tested, differs, length-with_child}
use Rattle.dt_flat.proofs.AfterProperty.{length-with_property}

-- ---- a node at the end

parent-append : (ns ms : List Slot) (i : ℕ) → i < length ns → parent_of (ns ++ ms) i ≡ parent_of ns i
parent-append [] ms i h = absurd (omega arith)
parent-append (n ∷ ns) ms zero h = refl
parent-append (n ∷ ns) ms (suc i) h = parent-append ns ms i (omega arith)

pub depth-append : (ns ms : List Slot) (i : ℕ) → i < length ns → depth_of (ns ++ ms) i ≡ depth_of ns i
depth-append [] ms i h = absurd (omega arith)
depth-append (n ∷ ns) ms zero h = refl
depth-append (n ∷ ns) ms (suc i) h = depth-append ns ms i (omega arith)

name-append : (ns ms : List Slot) → 0 < length ns → name_of (ns ++ ms) 0 ≡ name_of ns 0
name-append [] ms h = absurd (omega arith)
name-append (n ∷ ns) ms h = refl

parent-last : (ns : List Slot) (m : Slot) → parent_of (ns ++ m ∷ []) (length ns) ≡ m.parent
parent-last [] m = refl
parent-last (n ∷ ns) m = parent-last ns m

pub depth-last : (ns : List Slot) (m : Slot) → depth_of (ns ++ m ∷ []) (length ns) ≡ m.depth
depth-last [] m = refl
depth-last (n ∷ ns) m = depth-last ns m

pub IsRooted-child : (slots : List Slot) (p : ℕ) (name : Name) → p < length slots → length slots < 65536 → depth_of slots p < 64 → IsRooted slots → IsRooted (with_child slots p name)
IsRooted-child slots p name lt few shallow h = record {
  some = omega (arith, length-with_child slots p name);
  few = omega (arith, length-with_child slots p name);
  unnamed = name-append slots (m ∷ []) h.some ∙ h.unnamed;
  top = depth-append slots (m ∷ []) 0 h.some ∙ h.top;
  above = λ i pos l. elim (cases_lt i (length slots)) [
    | inl old ↦ subst (λ (k : ℕ). k < i) (sym (parent-append slots (m ∷ []) i old)) (h.above i pos old)
    | inr past ↦ let e = last i past l in subst (λ (k : ℕ). k < i) (sym (parent-is i e)) (omega arith)
  ];
  deeper = λ i pos l. elim (cases_lt i (length slots)) [
    | inl old ↦
        let up : parent_of slots i < length slots = omega (arith, h.above i pos old) in
        depth-append slots (m ∷ []) i old ∙ h.deeper i pos old ∙ ap (λ (k : ℕ). k + 1) (sym (depth-append slots (m ∷ []) (parent_of slots i) up))
        ∙ ap (λ (k : ℕ). depth_of (slots ++ m ∷ []) k + 1) (sym (parent-append slots (m ∷ []) i old))
    | inr past ↦
        let e = last i past l in
        depth-is i e ∙ ap (λ (k : ℕ). k + 1) (sym (depth-append slots (m ∷ []) p lt)) ∙ ap (λ (k : ℕ). depth_of (slots ++ m ∷ []) k + 1) (sym (parent-is i e))
  ];
  shallow = λ i l. elim (cases_lt i (length slots)) [
    | inl old ↦ subst (λ (k : ℕ). k ≤ 64) (sym (depth-append slots (m ∷ []) i old)) (h.shallow i old)
    | inr past ↦ let e = last i past l in subst (λ (k : ℕ). k ≤ 64) (sym (depth-is i e)) (omega arith)
  ];
}
  where
    m : Slot
    m = record { parent = p; depth = depth_of slots p + 1; name = name; properties = [] }

    last : (i : ℕ) → length slots ≤ i → i < length (with_child slots p name) → i ≡ length slots
    last i past l = omega (arith, length-with_child slots p name)

    parent-is : (i : ℕ) → i ≡ length slots → parent_of (slots ++ m ∷ []) i ≡ p
    parent-is i e = ap (parent_of (slots ++ m ∷ [])) e ∙ parent-last slots m

    depth-is : (i : ℕ) → i ≡ length slots → depth_of (slots ++ m ∷ []) i ≡ depth_of slots p + 1
    depth-is i e = ap (depth_of (slots ++ m ∷ [])) e ∙ depth-last slots m

-- ---- a property set

parent-property : (ns : List Slot) (p : ℕ) (name : Name) (value : List ℕ) (i : ℕ) → parent_of (with_property ns p name value) i ≡ parent_of ns i
parent-property [] p name value i = refl
parent-property (n ∷ ns) zero name value zero = refl
parent-property (n ∷ ns) zero name value (suc i) = refl
parent-property (n ∷ ns) (suc p) name value zero = refl
parent-property (n ∷ ns) (suc p) name value (suc i) = parent-property ns p name value i

depth-property : (ns : List Slot) (p : ℕ) (name : Name) (value : List ℕ) (i : ℕ) → depth_of (with_property ns p name value) i ≡ depth_of ns i
depth-property [] p name value i = refl
depth-property (n ∷ ns) zero name value zero = refl
depth-property (n ∷ ns) zero name value (suc i) = refl
depth-property (n ∷ ns) (suc p) name value zero = refl
depth-property (n ∷ ns) (suc p) name value (suc i) = depth-property ns p name value i

name-property : (ns : List Slot) (p : ℕ) (name : Name) (value : List ℕ) → name_of (with_property ns p name value) 0 ≡ name_of ns 0
name-property [] p name value = refl
name-property (n ∷ ns) zero name value = refl
name-property (n ∷ ns) (suc p) name value = refl

pub IsRooted-property : (slots : List Slot) (p : ℕ) (name : Name) (value : List ℕ) → IsRooted slots → IsRooted (with_property slots p name value)
IsRooted-property slots p name value h = record {
  some = omega (arith, length-with_property slots p name value, h.some);
  few = omega (arith, length-with_property slots p name value, h.few);
  unnamed = name-property slots p name value ∙ h.unnamed;
  top = depth-property slots p name value 0 ∙ h.top;
  above = λ i pos l. subst (λ (k : ℕ). k < i) (sym (parent-property slots p name value i)) (h.above i pos (old i l));
  deeper = λ i pos l. depth-property slots p name value i ∙ h.deeper i pos (old i l)
      ∙ ap (λ (k : ℕ). k + 1) (sym (depth-property slots p name value (parent_of slots i)))
      ∙ ap (λ (k : ℕ). depth_of (with_property slots p name value) k + 1) (sym (parent-property slots p name value i));
  shallow = λ i l. subst (λ (k : ℕ). k ≤ 64) (sym (depth-property slots p name value i)) (h.shallow i (old i l));
}
  where
    old : (i : ℕ) → i < length (with_property slots p name value) → i < length slots
    old i l = omega (arith, length-with_property slots p name value)

-- ---- how many nodes there are: no node is below two parents

abbrev pub sum_below : ℕ → (ℕ → ℕ) → ℕ
sum_below zero f = 0
sum_below (suc i) f = f i + sum_below i f

pub sum-none : (i : ℕ) → sum_below i (λ p. 0) ≡ 0
sum-none zero = refl
sum-none (suc i) = omega (arith, sum-none i)

pub sum-same : (i : ℕ) (f g : ℕ → ℕ) → ((p : ℕ) → p < i → f p ≡ g p) → sum_below i f ≡ sum_below i g
sum-same zero f g h = refl
sum-same (suc i) f g h = omega (arith, h i (omega arith), sum-same i f g (λ p l. h p (omega arith)))

-- where they differ at one place alone
sum-one : (i k x : ℕ) (f g : ℕ → ℕ) → ((p : ℕ) → p ≢ k → f p ≡ g p) → f k ≡ g k + x → sum_below i f ≤ sum_below i g + x
sum-one zero k x f g same more = omega arith
sum-one (suc i) k x f g same more =
    let rest = sum-one i k x f g same more in
    elim (cases_eq i k) [
      | inl e ↦
          let here : f i ≡ g i + x = subst (λ (q : ℕ). f q ≡ g q + x) (sym e) more in
          let before : sum_below i f ≡ sum_below i g = sum-same i f g (λ p l. same p (omega arith)) in
          omega arith
      | inr d ↦
          let here : f i ≡ g i = same i d in
          omega arith
    ]

abbrev pub under : ℕ → List Slot → ℕ → ℕ
under i ns p = node_count (forest_among i ns p)

pub under-other : (i : ℕ) (n : Slot) (ns : List Slot) (p : ℕ) → p ≢ n.parent → under i (n ∷ ns) p ≡ under (suc i) ns p
under-other i n ns p d =
    ap (λ (b : Bool). node_count (cond b (branch n.name n.properties (forest_among (suc i) ns i) (forest_among (suc i) ns p)) (forest_among (suc i) ns p))) (differs n.parent p (omega arith))

pub under-parent : (i : ℕ) (n : Slot) (ns : List Slot) → under i (n ∷ ns) n.parent ≡ under (suc i) ns n.parent + (1 + under (suc i) ns i)
under-parent i n ns =
    let p = n.parent in
    let swap : 1 + under (suc i) ns i + under (suc i) ns p ≡ under (suc i) ns p + (1 + under (suc i) ns i) = omega arith in
    ap (λ (b : Bool). node_count (cond b (branch n.name n.properties (forest_among (suc i) ns i) (forest_among (suc i) ns p)) (forest_among (suc i) ns p))) (tested p p refl) ∙ swap

total : (i : ℕ) (ns : List Slot) → sum_below i (under i ns) ≤ length ns
total i [] = omega (arith, sum-none i)
total i (n ∷ ns) =
    let rest : under (suc i) ns i + sum_below i (under (suc i) ns) ≤ length ns = total (suc i) ns in
    let here = sum-one i n.parent (1 + under (suc i) ns i) (under i (n ∷ ns)) (under (suc i) ns) (λ p d. under-other i n ns p d) (under-parent i n ns) in
    omega arith

-- ---- how deep they are

pub first_of_rest : (slots : List Slot) (k : ℕ) (n : Slot) (ns : List Slot) → drop k slots ≡ n ∷ ns → (parent_of slots k ≡ n.parent) × (k < length slots) × (drop (suc k) slots ≡ ns)
first_of_rest [] zero n ns e = absurd cc
first_of_rest [] (suc k) n ns e = absurd cc
first_of_rest (m ∷ ms) zero n ns e =
    let same : m ≡ n = cc in
    let rest : ms ≡ ns = cc in
    (ap (λ (x : Slot). x.parent) same, omega arith, rest)
first_of_rest (m ∷ ms) (suc k) n ns e = let r = first_of_rest ms k n ns e in (r.0, omega (arith, r.1), r.2)

no_deeper : (slots : List Slot) (i : ℕ) (ns : List Slot) (p d : ℕ) → IsRooted slots → drop i slots ≡ ns → 0 < i → d ≡ depth_of slots p + 1 → IsNoDeeper 64 d (forest_among i ns p)
no_deeper slots i [] p d h at pos is = tt
no_deeper slots i (n ∷ ns) p d h at pos is =
    let first = first_of_rest slots i n ns at in
    by (eqb n.parent p) refl first.0 first.1 (no_deeper slots (suc i) ns i (depth_of slots i + 1) h first.2 (omega arith) refl) (no_deeper slots (suc i) ns p d h first.2 (omega arith) is)
  where
    by : (b : Bool) → eqb n.parent p ≡ b → parent_of slots i ≡ n.parent → i < length slots → IsNoDeeper 64 (depth_of slots i + 1) (forest_among (suc i) ns i) → IsNoDeeper 64 d (forest_among (suc i) ns p)
        → IsNoDeeper 64 d (cond b (branch n.name n.properties (forest_among (suc i) ns i) (forest_among (suc i) ns p)) (forest_among (suc i) ns p))
    by false e up l children siblings = siblings
    by true e up l children siblings =
        let here : depth_of slots i ≡ d = h.deeper i pos l ∙ ap (λ (k : ℕ). depth_of slots k + 1) (up ∙ eqb-true n.parent p e) ∙ sym is in
        let deep : depth_of slots i ≤ 64 = h.shallow i l in
        (omega arith, subst (λ (k : ℕ). IsNoDeeper 64 (k + 1) (forest_among (suc i) ns i)) here children, siblings)

-- what an arena is read as is within the limits
pub IsWithinLimits-reading : (a : Arena) → IsRooted a.slots → IsWithinLimits (reading a)
IsWithinLimits-reading a h =
    let count : under 1 (drop 1 a.slots) 0 + 0 ≤ length (drop 1 a.slots) = total 1 (drop 1 a.slots) in
    let one : 1 ≡ depth_of a.slots 0 + 1 = ap (λ (k : ℕ). k + 1) (sym h.top) in
    record {
      count = omega (arith, count, length-drop 1 a.slots, h.some, h.few);
      depth = no_deeper a.slots 1 (drop 1 a.slots) 0 1 h refl (omega arith) one;
    }
