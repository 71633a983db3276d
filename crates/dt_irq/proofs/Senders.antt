-- Where an interrupt is sent, by `interrupts`.
use Rattle.std.proofs.Common.{◌≡◌, ℕ, ◌+◌, List, Option, Some, None, sym, ap, subst, ◌∙◌, arith}
use Rattle.std.specs.Prelude.{option_map, codes}
use Rattle.dt_model.specs.Path.{Path}
use Rattle.dt_model.specs.Tree.{Reading, value_in}
use Rattle.dt_resolve_model.specs.Answers.{Answer, answer, ◌>>=◌}
use Rattle.dt_resolve_model.specs.World.{Quad, Value, tree_world, value_of_bytes}
use Rattle.dt_resolve_model.specs.Interrupts.{Sent, Route, IsInterruptParent, IsSentBy, IsSent, IsRoute, listed_at, most_hops, routed, unit_of}
use Rattle.dt_irq.specs.Cells.{unit_at}

pub sent_to_parent : (t : Reading) (p : Path) (index : ℕ) (list : List ℕ) (q : Answer Path) (r : Answer Sent) → None ≡ value_in t p (codes "interrupts-extended") → Some list ≡ value_in t p (codes "interrupts")
    → IsInterruptParent (tree_world t) p q → r ≡ (q >>= listed_at (tree_world t) index (value_of_bytes list)) → IsSent (tree_world t) p index r
sent_to_parent t p index list q r none some parent is =
    let told : Option (List ℕ) → Answer (Option Value) = λ o. answer (option_map value_of_bytes o) in
    subst (λ o. IsSentBy (tree_world t) p index (told o) (told (value_in t p (codes "interrupts"))) r) none
    (subst (λ o. IsSentBy (tree_world t) p index (told None) (told o) r) some (q, parent, is))

-- the entries of a list at the interrupt parent
pub sent_from : (t : Reading) (p q : Path) (list : List ℕ) (k : ℕ) (r : Answer Sent) → None ≡ value_in t p (codes "interrupts-extended") → Some list ≡ value_in t p (codes "interrupts") → IsInterruptParent (tree_world t) p (answer q)
    → listed_at (tree_world t) k (value_of_bytes list) q ≡ r → IsSent (tree_world t) p (0 + k) r
sent_from t p q list k r none some parent is =
    sent_to_parent t p (0 + k) list (answer q) r none some parent (sym is ∙ ap (λ j. listed_at (tree_world t) j (value_of_bytes list) q) (let e : k ≡ 0 + k = omega arith in e))

one_answer : (a b : List Quad) → answer a ≡ answer b → a ≡ b
one_answer a b e = cc

-- the route of an interrupt, by where it is sent
pub route_by : (t : Reading) (p : Path) (i : ℕ) (sent : Sent) (unit : List Quad) (r : Answer Route) → IsSent (tree_world t) p i (answer sent) → unit_at (tree_world t) p ≡ answer unit
    → r ≡ routed (tree_world t) most_hops 0 (record { node = sent.node; unit = unit; specifier = sent.specifier }) → IsRoute (tree_world t) p i r
route_by t p i sent unit r is of_reg e =
    let reg = option_map value_of_bytes (value_in t p (codes "reg")) in
    let same : unit_of reg ≡ unit = one_answer (unit_of reg) unit of_reg in
    (answer sent, is, e ∙ ap (λ cells. routed (tree_world t) most_hops 0 (record { node = sent.node; unit = cells; specifier = sent.specifier })) (sym same))
