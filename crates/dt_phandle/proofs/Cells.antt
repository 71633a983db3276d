-- The bytes of values, in which references are the numbers of their nodes.
use Rattle.std.proofs.Common.{◌≡◌, ℕ, ◌≤◌, List, [], ◌∷◌, ◌++◌, length, map, drop, refl, sym, ap, ◌∙◌, append_assoc}
use Rattle.std.proofs.lemmas.List.{drop_all}
use Rattle.dt_model.specs.Meaning.{Item, byte, reference, cell, value_bytes}
use Rattle.dt_model.specs.Named.{NodeReference}
use Rattle.dt_source_named_tree.specs.Said.{pieces_said}
use Rattle.dt_source_named_tree.specs.declared.named.NamedPiece.{NamedPiece}

bytes_behind : (number : NodeReference → ℕ) (before : List ℕ) (n : NodeReference) (rest : List (Item NodeReference))
    → value_bytes number (map byte before ++ reference n ∷ rest) ≡ before ++ (cell (number n) ++ value_bytes number rest)
bytes_behind number [] n rest = refl
bytes_behind number (b ∷ before) n rest = ap (λ (bs : List ℕ). b ∷ bs) (bytes_behind number before n rest)

pub bytes_alone : (number : NodeReference → ℕ) (bytes : List ℕ) → value_bytes number (map byte bytes) ≡ bytes
bytes_alone number [] = refl
bytes_alone number (b ∷ bytes) = ap (λ (bs : List ℕ). b ∷ bs) (bytes_alone number bytes)

-- one piece written
pub piece_written : (number : NodeReference → ℕ) (v w : List (Item NodeReference)) (before : List ℕ) (n : NodeReference) (old middle new : List ℕ) → v ≡ map byte before ++ reference n ∷ w
    → middle ≡ old ++ before → new ≡ middle ++ cell (number n) → new ++ value_bytes number w ≡ old ++ value_bytes number v
piece_written number v w before n old middle new is first second =
    ap (λ (bs : List ℕ). bs ++ value_bytes number w) (second ∙ ap (λ (bs : List ℕ). bs ++ cell (number n)) first)
    ∙ append_assoc (old ++ before) (cell (number n)) (value_bytes number w)
    ∙ append_assoc old before (cell (number n) ++ value_bytes number w)
    ∙ ap (λ (bs : List ℕ). old ++ bs) (sym (bytes_behind number before n w))
    ∙ ap (λ (u : List (Item NodeReference)). old ++ value_bytes number u) (sym is)

-- the bytes behind the last piece written
pub last_written : (number : NodeReference → ℕ) (items : List NamedPiece) (bytes : List ℕ) (i : ℕ) (old new whole : List ℕ) → length items ≤ i → new ≡ old ++ bytes
    → old ++ value_bytes number (pieces_said (drop i items) ++ map byte bytes) ≡ whole → new ≡ whole
last_written number items bytes i old new whole past is so_far =
    is ∙ ap (λ (bs : List ℕ). old ++ bs) (sym (ap (λ (ps : List NamedPiece). value_bytes number (pieces_said ps ++ map byte bytes)) (drop_all i items past) ∙ bytes_alone number bytes))
    ∙ so_far
