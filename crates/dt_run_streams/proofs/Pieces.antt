-- Texts that are written one behind the other.
use Rattle.std.proofs.Common.{◌≡◌, ℕ, ◌+◌, ◌<◌, List, ◌++◌, drop, length, get_or, sym, ap, ◌∙◌, append_assoc, Bor}
use Rattle.std.proofs.lemmas.List.{at_drop_more}
use Rattle.dt_names.specs.Sink.{joined}

module _ (pieces : List (Bor (List ℕ))) (i : ℕ) (d : Bor (List ℕ)) (inside : i < length pieces) (front bytes : List ℕ) where
  -- behind what went before stands the text at the index
  pub next : joined pieces ≡ front ++ joined (drop i pieces) → bytes ≡ (get_or pieces i d).now → joined pieces ≡ front ++ (bytes ++ joined (drop (i + 1) pieces))
  next split same =
      split ∙ ap (λ (l : List ℕ). front ++ l) (at_drop_more joined pieces i d inside ∙ ap (λ (l : List ℕ). l ++ joined (drop (i + 1) pieces)) (sym same))

  pub grown : joined pieces ≡ front ++ joined (drop i pieces) → bytes ≡ (get_or pieces i d).now → joined pieces ≡ (front ++ bytes) ++ joined (drop (i + 1) pieces)
  grown split same = next split same ∙ sym (append_assoc front bytes (joined (drop (i + 1) pieces)))
