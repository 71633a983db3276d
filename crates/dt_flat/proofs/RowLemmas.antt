-- The nodes of rows.
use Rattle.std.proofs.Common.{◌≡◌, ℕ, suc, true, false, List, [], ◌∷◌, ◌++◌, length, Option, Some, None, refl, sym, ap, true≢false}
use Rattle.std.specs.Prelude.{is_some, IsSome}
use Rattle.dt_flat.specs.Rows.{Row, nodes_of, place_of, IsEntered}

-- it was none of them, or it was
pub entered-last : (p k : ℕ) (old new : List Row) (o : Option ℕ) → false ≡ is_some o → IsEntered p k old new o → IsEntered p k old new None
entered-last p k old new None e h = h
entered-last p k old new (Some j) e h = absurd (true≢false (sym e))

pub entered-before : (p k : ℕ) (old new : List Row) (o : Option ℕ) → true ≡ is_some o → IsEntered p k old new o → IsSome (place_of p k old) × (new ≡ old)
entered-before p k old new None e h = absurd (true≢false e)
entered-before p k old new (Some j) e h = (ap is_some h.0, h.1)

pub nodes-push : (rs : List Row) (r : Row) → nodes_of (rs ++ r ∷ []) ≡ nodes_of rs ++ r.0 ∷ []
nodes-push [] r = refl
nodes-push (x ∷ xs) r = ap (λ (ps : List ℕ). x.0 ∷ ps) (nodes-push xs r)

pub length-nodes : (rs : List Row) → length (nodes_of rs) ≡ length rs
length-nodes [] = refl
length-nodes (r ∷ rs) = ap suc (length-nodes rs)
