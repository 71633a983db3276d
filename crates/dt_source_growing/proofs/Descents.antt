-- A walk from the root down.
use Rattle.std.proofs.Common.{◌≡◌, ℕ, List, [], ◌∷◌, ◌++◌, Option, Some, None, reverse, refl, sym, ◌∙◌, ap, append_assoc}
use Rattle.std.specs.Option.{option_and_then}
use Rattle.std.proofs.lemmas.List.{append-nil, reverse-append}
use Rattle.dt_model.specs.Names.{Name}
use Rattle.dt_model.specs.Event.{Stack}
use Rattle.dt_source_growing.specs.Shape.{Shape, node_at}

-- the node to which names lead down from a node
abbrev pub descend : (ℕ → Name → Option ℕ) → ℕ → List Name → Option ℕ
descend child i [] = Some i
descend child i (x ∷ xs) = option_and_then (λ j. descend child j xs) (child i x)

turn : (x : Name) (xs q : List Name) → reverse (x ∷ xs) ++ q ≡ reverse xs ++ x ∷ q
turn x xs q = ap (λ r. r ++ q) (reverse-append (x ∷ []) xs) ∙ append_assoc (reverse xs) (x ∷ []) q

module _ {V : Type 0} where
  none_below : (s : Shape V) (q r : Stack) → node_at s q ≡ None → node_at s (r ++ q) ≡ None
  none_below s q [] h = h
  none_below s q (x ∷ r) h = ap (option_and_then (λ i. s.child i x)) (none_below s q r h)

  one_down : (s : Shape V) (q : Stack) (i : ℕ) → node_at s q ≡ Some i → (x : Name) (xs : List Name)
      → ((j : ℕ) → node_at s (x ∷ q) ≡ Some j → node_at s (reverse xs ++ x ∷ q) ≡ descend s.child j xs) → node_at s (reverse xs ++ x ∷ q) ≡ descend s.child i (x ∷ xs)
  one_down s q i at x xs rest = by (s.child i x) refl
    where
      next : node_at s (x ∷ q) ≡ s.child i x
      next = ap (option_and_then (λ i. s.child i x)) at

      by : (o : Option ℕ) → s.child i x ≡ o → node_at s (reverse xs ++ x ∷ q) ≡ option_and_then (λ j. descend s.child j xs) o
      by None e = none_below s (x ∷ q) (reverse xs) (next ∙ e)
      by (Some j) e = rest j (next ∙ e)

  pub descend_is : (s : Shape V) (q : Stack) (i : ℕ) → node_at s q ≡ Some i → (xs : List Name) → node_at s (reverse xs ++ q) ≡ descend s.child i xs
  descend_is s q i at [] = at
  descend_is s q i at (x ∷ xs) = ap (node_at s) (turn x xs q) ∙ one_down s q i at x xs (λ j there. descend_is s (x ∷ q) j there xs)

  -- from the root
  pub descend_root : (s : Shape V) → node_at s [] ≡ Some 0 → (xs : List Name) → descend s.child 0 xs ≡ node_at s (reverse xs)
  descend_root s at xs = sym (ap (node_at s) (sym (append-nil (reverse xs))) ∙ descend_is s [] 0 at xs)
