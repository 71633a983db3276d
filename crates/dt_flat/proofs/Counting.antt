-- An arena has as many nodes as it is read as.
use Rattle.std.proofs.Common.{◌≡◌, ◌≢◌, ℕ, zero, suc, ◌+◌, ◌<◌, List, [], ◌∷◌, length, drop, refl, sym, subst, arith, inl, inr}
use Rattle.std.proofs.lemmas.Bool.{cases_eq}
use Rattle.std.proofs.lemmas.List.{length-drop}
use Rattle.dt_model.specs.Valid.{node_count}
use Rattle.dt_flat.specs.Arena.{Arena, Slot, IsRooted, parent_of, reading}
use Rattle.dt_flat.proofs.Rooting.{sum_below, sum-none, sum-same, under, under-other, under-parent, first_of_rest}

-- where they differ at one place alone, which is among those that are summed
sum-one-there : (i k x : ℕ) (f g : ℕ → ℕ) → k < i → ((p : ℕ) → p ≢ k → f p ≡ g p) → f k ≡ g k + x → sum_below i f ≡ sum_below i g + x
sum-one-there zero k x f g lt same more = absurd (omega arith)
sum-one-there (suc i) k x f g lt same more =
    elim (cases_eq i k) [
      | inl e ↦
          let here : f i ≡ g i + x = subst (λ (q : ℕ). f q ≡ g q + x) (sym e) more in
          let before : sum_below i f ≡ sum_below i g = sum-same i f g (λ p l. same p (omega arith)) in
          omega arith
      | inr d ↦
          let here : f i ≡ g i = same i d in
          let rest = sum-one-there i k x f g (omega arith) same more in
          omega arith
    ]

-- nodes that stand behind their parents are all below one of the nodes before them
counted : (slots : List Slot) (i : ℕ) (ns : List Slot) → IsRooted slots → 0 < i → drop i slots ≡ ns → sum_below i (under i ns) ≡ length ns
counted slots i [] rooted pos at = sum-none i
counted slots i (n ∷ ns) rooted pos at =
    let first = first_of_rest slots i n ns at in
    let above : parent_of slots i < i = rooted.above i pos first.1 in
    let parent : n.parent < i = omega (arith, first.0) in
    let rest : under (suc i) ns i + sum_below i (under (suc i) ns) ≡ length ns = counted slots (suc i) ns rooted (omega arith) first.2 in
    let here = sum-one-there i n.parent (1 + under (suc i) ns i) (under i (n ∷ ns)) (under (suc i) ns) parent (λ p d. under-other i n ns p d) (under-parent i n ns) in
    omega arith

-- the nodes of the reading, and the root
pub nodes-counted : (a : Arena) → IsRooted a.slots → 1 + node_count (reading a).children ≡ length a.slots
nodes-counted a rooted =
    let whole : under 1 (drop 1 a.slots) 0 + 0 ≡ length (drop 1 a.slots) = counted a.slots 1 (drop 1 a.slots) rooted (omega arith) refl in
    omega (arith, whole, length-drop 1 a.slots, rooted.some)
