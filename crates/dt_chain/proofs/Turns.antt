-- Objects applied one after another, and the one at which that stops.
use Rattle.std.proofs.Common.{◌≡◌, ℕ, suc, zero, ◌+◌, ◌<◌, ◌≤◌, List, [], ◌∷◌, ◌++◌, Bor, length, map, take, drop, get_or, refl, sym, ap, subst, arith}
use Rattle.dt_names.specs.declared.fault.Fault.{Fault}
use Rattle.dt_model.specs.Tree.{Reading}
use Rattle.dt_chain_promises.specs.Apply.{IsStep, AreSteps, WhyNoStep, IsStopped}

-- the inputs of a slice
abbrev pub inputs_of : List (Bor (List ℕ)) → List (List ℕ)
inputs_of xs = map (λ (x : Bor (List ℕ)). x.now) xs

-- ---- the inputs up to one of them, and those behind it

parted : (xs : List (Bor (List ℕ))) (k : ℕ) (x : Bor (List ℕ)) → k < length xs → inputs_of xs ≡ take k (inputs_of xs) ++ (get_or xs k x).now ∷ drop (suc k) (inputs_of xs)
parted [] k x lt = absurd (omega arith)
parted (y ∷ xs) zero x lt = refl
parted (y ∷ xs) (suc k) x lt = ap (λ (l : List (List ℕ)). y.now ∷ l) (parted xs k x (omega arith))

one_more : (xs : List (Bor (List ℕ))) (k : ℕ) (x : Bor (List ℕ)) → k < length xs → take (suc k) (inputs_of xs) ≡ take k (inputs_of xs) ++ (get_or xs k x).now ∷ []
one_more [] k x lt = absurd (omega arith)
one_more (y ∷ xs) zero x lt = refl
one_more (y ∷ xs) (suc k) x lt = ap (λ (l : List (List ℕ)). y.now ∷ l) (one_more xs k x (omega arith))

length_up_to : (xs : List (Bor (List ℕ))) (k : ℕ) → k ≤ length xs → length (take k (inputs_of xs)) ≡ k
length_up_to xs zero le = refl
length_up_to [] (suc k) le = absurd (omega arith)
length_up_to (y ∷ xs) (suc k) le = ap suc (length_up_to xs k (omega arith))

up_to_end : (xs : List (Bor (List ℕ))) (k : ℕ) → length xs ≤ k → take k (inputs_of xs) ≡ inputs_of xs
up_to_end [] zero le = refl
up_to_end [] (suc k) le = refl
up_to_end (y ∷ xs) zero le = absurd (omega arith)
up_to_end (y ∷ xs) (suc k) le = ap (λ (l : List (List ℕ)). y.now ∷ l) (up_to_end xs k (omega arith))

pub length_inputs : (xs : List (Bor (List ℕ))) → length (inputs_of xs) ≡ length xs
length_inputs [] = refl
length_inputs (x ∷ xs) = ap suc (length_inputs xs)

-- ---- turn by turn

-- the input has an object that is applied to the tree
abbrev pub Goes : (List ℕ → Reading → Type 0) → List ℕ → Reading → Reading → Type 0
Goes has_object x t next = (object : Reading) × has_object x object × IsStep t object next

module _ (has_object : List ℕ → Reading → Type 0) where
  behind : (t : Reading) (front : List (List ℕ)) (x : List ℕ) (now next : Reading) → AreSteps has_object t front now → Goes has_object x now next → AreSteps has_object t (front ++ x ∷ []) next
  behind t [] x now next h s = (s.0, next, s.1, subst (λ (u : Reading). IsStep u s.0 next) h s.2, refl)
  behind t (y ∷ front) x now next h s = (h.0, h.1, h.2, h.3, behind h.1 front x now next h.4 s)

  pub turn : (t : Reading) (xs : List (Bor (List ℕ))) (k : ℕ) (x : Bor (List ℕ)) (now next : Reading) → k < length xs → AreSteps has_object t (take k (inputs_of xs)) now → Goes has_object (get_or xs k x).now now next
      → AreSteps has_object t (take (k + 1) (inputs_of xs)) next
  turn t xs k x now next lt h s =
      let more : take (k + 1) (inputs_of xs) ≡ take k (inputs_of xs) ++ (get_or xs k x).now ∷ [] = let e : k + 1 ≡ suc k = omega arith in rw e (one_more xs k x lt) in
      subst (λ (front : List (List ℕ)). AreSteps has_object t front next) (sym more) (behind t (take k (inputs_of xs)) (get_or xs k x).now now next h s)

  pub whole : (t : Reading) (xs : List (Bor (List ℕ))) (k : ℕ) (now : Reading) → length xs ≤ k → AreSteps has_object t (take k (inputs_of xs)) now → AreSteps has_object t (inputs_of xs) now
  whole t xs k now le h = subst (λ (front : List (List ℕ)). AreSteps has_object t front now) (up_to_end xs k le) h

  pub stopped_at : (lacks_object : List ℕ → Fault → Type 0) (t : Reading) (xs : List (Bor (List ℕ))) (k : ℕ) (x : Bor (List ℕ)) (now : Reading) (e : Fault) → k < length xs
      → AreSteps has_object t (take k (inputs_of xs)) now → WhyNoStep has_object lacks_object now (get_or xs k x).now e → IsStopped has_object lacks_object t (inputs_of xs) (k + 1) e
  stopped_at lacks_object t xs k x now e lt h why = record {
    front = take k (inputs_of xs);
    input = (get_or xs k x).now;
    back = drop (suc k) (inputs_of xs);
    are = parted xs k x lt;
    number = let size = length_up_to xs k (omega arith) in omega (arith, size);
    before = now;
    steps = h;
    why = why;
  }
