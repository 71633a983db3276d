-- How deep a tree is.
use Rattle.std.proofs.Common.{◌≡◌, ℕ, ◌+◌, ◌≤◌, Bool, true, false, ◌∷◌, [], length, refl, sym, true≢false, arith}
use Rattle.std.specs.Prelude.{is_some, option_and_then}
use Rattle.std.specs.Str.{bytes_eq}
use Rattle.dt_model.specs.Limits.{most_names}
use Rattle.dt_model.specs.Names.{Name}
use Rattle.dt_model.specs.Path.{Path}
use Rattle.dt_model.specs.Tree.{Forest, no_nodes, branch, Reading, sibling, node_below, stands_in}
use Rattle.dt_model.specs.Valid.{IsNoDeeper, IsWithinLimits}

no_deeper : (limit d : ℕ) (fs : Forest) (x : Name) (r : Path) → IsNoDeeper limit d fs → is_some (option_and_then (λ c. node_below c r) (sibling fs x)) ≡ true → d + length r ≤ limit
no_deeper limit d no_nodes x r h e = absurd (true≢false (sym e))
no_deeper limit d (branch name ps children siblings) x r h e =
    step (λ y r' k. no_deeper limit (d + 1) children y r' h.1 k) (λ r' k. no_deeper limit d siblings x r' h.2 k) r (bytes_eq x name) refl e
  where
    step : ((y : Name) (r' : Path) → is_some (option_and_then (λ c. node_below c r') (sibling children y)) ≡ true → (d + 1) + length r' ≤ limit)
        → ((r' : Path) → is_some (option_and_then (λ c. node_below c r') (sibling siblings x)) ≡ true → d + length r' ≤ limit)
        → (r' : Path) (b : Bool) → bytes_eq x name ≡ b → is_some (option_and_then (λ c. node_below c r') (sibling (branch name ps children siblings) x)) ≡ true → d + length r' ≤ limit
    step inner more [] true k l = let low : d ≤ limit = h.0 in omega arith
    step inner more (y ∷ r') true k l = let le = inner y r' (rw k at l) in omega (arith, le)
    step inner more r' false k l = more r' (rw k at l)

-- no node of a tree within the limits is deeper than they allow
pub within_depth : (t : Reading) (p : Path) → IsWithinLimits t → stands_in t p ≡ true → length p ≤ most_names
within_depth t [] within h = omega arith
within_depth t (x ∷ p) within h = let le = no_deeper most_names 1 t.children x p within.depth h in omega (arith, le)
