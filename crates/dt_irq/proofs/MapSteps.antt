-- Hops through maps, one after another.
use Rattle.std.proofs.Common.{◌≡◌, ℕ, suc, zero, ◌+◌, ◌<◌, ◌≤◌, List, ◌++◌, take, length, refl, ap, ◌∙◌, Option, Some, None}
use Rattle.std.specs.Prelude.{if◌then◌else◌, nat_lt, codes}
use Rattle.std.proofs.lemmas.Bool.{le-ltb, lt-ltb}
use Rattle.dt_model.specs.Path.{Path}
use Rattle.dt_names.specs.declared.fault.FaultKind.TheVariants.{BadMap, Loop, NoUnitAddress}
use Rattle.dt_resolve_model.specs.Answers.{Answer, refuse, answer, ◌>>=◌}
use Rattle.dt_resolve_model.specs.World.{Quad, Value, World}
use Rattle.dt_resolve_model.specs.Regions.{address_count}
use Rattle.dt_resolve_model.specs.Interrupts.{Interrupt, MapRow, Route, as_numbers, first_match, hop, interrupt_row_cells, is_ragged, led, mask_of, routed, specifier_count, at_node}

-- a row leads to its parent
abbrev pub goes_to : MapRow → Interrupt
goes_to r = record { node = r.parent; unit = r.unit; specifier = r.specifier }

abbrev pub by_row : Answer MapRow → Answer Interrupt
by_row x = x >>= λ r. answer (goes_to r)

-- what a mask that was read leads to
pub led_by : (w : World) (nexus : Path) (unit specifier mask : List Quad) (v : Value) (n k : ℕ) → (w.value nexus (codes "interrupt-map-mask") >>= mask_of (n + k)) ≡ answer mask
    → led w nexus unit specifier v n k ≡ by_row (first_match w (interrupt_row_cells w) (is_ragged v) (n + k) (take n unit ++ specifier) mask 0 v.cells)
led_by w nexus unit specifier mask v n k e =
    ap (λ (x : Answer (List Quad)). x >>= λ m. by_row (first_match w (interrupt_row_cells w) (is_ragged v) (n + k) (take n unit ++ specifier) m 0 v.cells)) e

-- the counts of a nexus
hop_of : (w : World) (at : Interrupt) (v : Value) (n k : ℕ) → address_count w at.node 2 ≡ answer n → specifier_count w at.node ≡ answer k
    → hop w at v ≡ (if nat_lt (length at.unit) n then refuse NoUnitAddress else led w at.node at.unit at.specifier v n k)
hop_of w at v n k address specifier =
    ap (λ (x : Answer ℕ). x >>= λ a. specifier_count w at.node >>= λ s. if nat_lt (length at.unit) a then refuse NoUnitAddress else led w at.node at.unit at.specifier v a s) address
    ∙ ap (λ (x : Answer ℕ). x >>= λ s. if nat_lt (length at.unit) n then refuse NoUnitAddress else led w at.node at.unit at.specifier v n s) specifier

pub too_short : (w : World) (at : Interrupt) (v : Value) (n k : ℕ) → address_count w at.node 2 ≡ answer n → specifier_count w at.node ≡ answer k → length at.unit < n → hop w at v ≡ refuse NoUnitAddress
too_short w at v n k address specifier lt = hop_of w at v n k address specifier ∙ (rw (lt-ltb (length at.unit) n lt) refl)

pub hop_is : (w : World) (at : Interrupt) (v : Value) (n k : ℕ) → address_count w at.node 2 ≡ answer n → specifier_count w at.node ≡ answer k → n ≤ length at.unit → hop w at v ≡ led w at.node at.unit at.specifier v n k
hop_is w at v n k address specifier le = hop_of w at v n k address specifier ∙ (rw (le-ltb (length at.unit) n le) refl)

-- ---- where an interrupt has come to

-- what comes of the properties of its node
came : (w : World) (through : Value → Answer Route) (hops : ℕ) (at : Interrupt) (controller map : Option Value) → w.value at.node (codes "interrupt-controller") ≡ answer controller → w.value at.node (codes "interrupt-map") ≡ answer map
    → (w.value at.node (codes "interrupt-controller") >>= λ c. w.value at.node (codes "interrupt-map") >>= at_node through hops at c) ≡ at_node through hops at controller map
came w through hops at controller map e f =
    ap (λ (x : Answer (Option Value)). x >>= λ c. w.value at.node (codes "interrupt-map") >>= at_node through hops at c) e
    ∙ ap (λ (x : Answer (Option Value)). x >>= at_node through hops at controller) f

pub arrives : (w : World) (left hops : ℕ) (at : Interrupt) (v : Value) (map : Option Value) (ns : List ℕ) → w.value at.node (codes "interrupt-controller") ≡ answer (Some v) → w.value at.node (codes "interrupt-map") ≡ answer map → as_numbers at.specifier ≡ answer ns
    → routed w left hops at ≡ answer (record { controller = at.node; cells = ns; hops = hops })
unfolding routed
arrives w zero hops at v map ns e f g = came w (λ z. refuse Loop) hops at (Some v) map e f ∙ ap (λ (x : Answer (List ℕ)). x >>= λ ms. answer (let r : Route = record { controller = at.node; cells = ms; hops = hops } in r)) g
arrives w (suc left) hops at v map ns e f g =
    came w (λ z. hop w at z >>= routed w left (hops + 1)) hops at (Some v) map e f ∙ ap (λ (x : Answer (List ℕ)). x >>= λ ms. answer (let r : Route = record { controller = at.node; cells = ms; hops = hops } in r)) g

pub no_map : (w : World) (left hops : ℕ) (at : Interrupt) → w.value at.node (codes "interrupt-controller") ≡ answer None → w.value at.node (codes "interrupt-map") ≡ answer None → routed w left hops at ≡ refuse BadMap
unfolding routed
no_map w zero hops at e f = came w (λ z. refuse Loop) hops at None None e f
no_map w (suc left) hops at e f = came w (λ z. hop w at z >>= routed w left (hops + 1)) hops at None None e f

pub too_far : (w : World) (hops : ℕ) (at : Interrupt) (v : Value) → w.value at.node (codes "interrupt-controller") ≡ answer None → w.value at.node (codes "interrupt-map") ≡ answer (Some v) → routed w 0 hops at ≡ refuse Loop
unfolding routed
too_far w hops at v e f = came w (λ z. refuse Loop) hops at None (Some v) e f

pub goes_on : (w : World) (left hops : ℕ) (at : Interrupt) (v : Value) → w.value at.node (codes "interrupt-controller") ≡ answer None → w.value at.node (codes "interrupt-map") ≡ answer (Some v) → routed w (suc left) hops at ≡ (hop w at v >>= routed w left (hops + 1))
unfolding routed
goes_on w left hops at v e f = came w (λ z. hop w at z >>= routed w left (hops + 1)) hops at None (Some v) e f
