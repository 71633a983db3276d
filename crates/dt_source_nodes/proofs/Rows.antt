-- The rows of a listing: how a node's are made of those of its children.
use Rattle.std.proofs.Common.{◌≡◌, ℕ, zero, suc, ◌-◌, ◌<◌, ◌≤◌, List, [], ◌∷◌, ◌++◌, length, sym, ap, ◌∙◌, arith, append-nil, append_assoc, length-append}
use Rattle.dt_source_nodes.specs.declared.listing.Row.{Row}
use Rattle.dt_source_nodes.specs.Listing.{rows_below, rows_each, rows_of}

-- all children of the row's node were added behind it
pub children_added : (children : ℕ → List ℕ) (old pushed rows : List Row) (r : Row) (depth : ℕ) → 0 < depth → pushed ≡ old ++ r ∷ [] →
    rows ++ [] ≡ pushed ++ rows_each (rows_below children (depth - 1)) (length pushed) (length old) (children r.node) →
    rows ≡ old ++ rows_of children depth r (length old)
unfolding rows_below
children_added children old pushed rows r zero deep e f = absurd (omega arith)
children_added children old pushed rows r (suc d) deep e f =
    let size : length pushed ≡ suc (length old) = ap length e ∙ length-append old (r ∷ []) ∙ omega arith in
    let less : suc d - 1 ≡ d = omega arith in
    let each : ℕ → ℕ → List Row = λ m n. rows_each (rows_below children m) n (length old) (children r.node) in
    sym (append-nil rows) ∙ f ∙ ap (λ (n : ℕ). pushed ++ each (suc d - 1) n) size ∙ ap (λ (m : ℕ). pushed ++ each m (suc (length old))) less
    ∙ ap (λ (xs : List Row). xs ++ each d (suc (length old))) e ∙ append_assoc old (r ∷ []) (each d (suc (length old)))

-- at the depth 0 the row stands alone
pub none_added : (children : ℕ → List ℕ) (old pushed : List Row) (r : Row) (depth : ℕ) → depth ≤ 0 → pushed ≡ old ++ r ∷ [] →
    pushed ≡ old ++ rows_of children depth r (length old)
unfolding rows_below
none_added children old pushed r zero flat e = e
none_added children old pushed r (suc d) flat e = absurd (omega arith)
