-- The places of nodes: their places among rows.
use Rattle.std.proofs.Common.{◌≡◌, ℕ, ◌+◌, ◌<◌, ◌≤◌, List, length, Option, Some, set, slice_get, ap, subst, ◌∙◌, ◌⊎◌, inl, inr, arith}
use Rattle.std.proofs.lemmas.Bool.{cases_lt}
use Rattle.std.proofs.lemmas.List.{length-set}
use Rattle.std.proofs.lemmas.Option.{slice_get_within}
use Rattle.dt_source_nodes.specs.declared.listing.Row.{Row}
use Rattle.dt_source_nodes.specs.Listing.{ArePlaces}
use Rattle.dt_source_nodes.proofs.Lookups.{slice_get-set_same, slice_get-set, slice_get-set_there}

-- the places of the first n rows
pub record AreFirstPlaces (rows : List Row) (n count : ℕ) (places : List (Option ℕ)) : Type 0 where
  pub size : length places ≡ count
  pub sound : (k j : ℕ) → slice_get places k ≡ Some (Some j) → (r : Row) × (slice_get rows j ≡ Some r) × (r.node ≡ k)
  pub complete : (j : ℕ) (r : Row) → j < n → slice_get rows j ≡ Some r → r.node < count → (i : ℕ) × (slice_get places r.node ≡ Some (Some i))

-- and those of one more
pub ordered-more : (rows : List Row) (n count : ℕ) (places : List (Option ℕ)) (r : Row) → slice_get rows n ≡ Some r →
    AreFirstPlaces rows n count places → AreFirstPlaces rows (n + 1) count (set places r.node (Some n))
ordered-more rows n count places r there old = record {
  size = length-set places r.node (Some n) ∙ old.size;
  sound = λ k j h. sound k j (slice_get-set places r.node k (Some n) (Some j) h);
  complete = λ j s near at within. complete j s at within near (cases_lt j n);
}
  where
    sound : (k j : ℕ) → ((r.node ≡ k) × (Some n ≡ Some j)) ⊎ (slice_get places k ≡ Some (Some j)) → (q : Row) × (slice_get rows j ≡ Some q) × (q.node ≡ k)
    sound k j (inl e) = (r, subst (λ (m : ℕ). slice_get rows m ≡ Some r) (let f : Some n ≡ Some j = e.1 in cc) there, e.0)
    sound k j (inr h) = old.sound k j h

    Ordered : ℕ → Type 0
    Ordered k = (i : ℕ) × (slice_get (set places r.node (Some n)) k ≡ Some (Some i))

    kept : (k i : ℕ) → (slice_get (set places r.node (Some n)) k ≡ Some (Some n)) ⊎ (slice_get (set places r.node (Some n)) k ≡ Some (Some i)) → Ordered k
    kept k i (inl e) = (n, e)
    kept k i (inr e) = (i, e)

    complete : (j : ℕ) (s : Row) → slice_get rows j ≡ Some s → s.node < count → j < n + 1 → (j < n) ⊎ (n ≤ j) → Ordered s.node
    complete j s at within near (inl before) = let found = old.complete j s before at within in kept s.node found.0 (slice_get-set_there places r.node s.node (Some n) (Some found.0) found.1)
    complete j s at within near (inr last) =
        let same : n ≡ j = omega arith in
        let at_n : slice_get rows n ≡ Some s = ap (slice_get rows) same ∙ at in
        let row : r ≡ s = cc in
        let node : r.node ≡ s.node = ap (λ (q : Row). q.node) row in
        let size = old.size in
        subst Ordered node (n, slice_get-set_same places r.node (Some n) (omega arith))

-- all have theirs
pub all_ordered : (rows : List Row) (n count : ℕ) (places : List (Option ℕ)) → length rows ≤ n → AreFirstPlaces rows n count places → ArePlaces rows count places
all_ordered rows n count places all first = record {
  size = first.size;
  sound = first.sound;
  complete = λ j r at within. let inside = slice_get_within rows j r at in first.complete j r (omega arith) at within;
}
