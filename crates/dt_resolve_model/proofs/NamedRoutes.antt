-- The route of an interrupt is refused for the faults that its rules name.
use Rattle.std.proofs.Common.{◌≡◌, ℕ, suc, zero, ◌+◌, List, ◌++◌, take, length, refl, sym, subst, inl, inr, Option, Some, None}
use Rattle.std.specs.Prelude.{codes, nat_lt, option_map}
use Rattle.dt_names.specs.declared.fault.FaultKind.TheVariants.{NoInterrupts, NoParent, Loop}
use Rattle.dt_model.specs.Path.{Path}
use Rattle.dt_model.specs.Tree.{Reading, value_in}
use Rattle.dt_resolve_model.specs.Answers.{Answer, undetermined, refused, answer, refuse, ◌>>=◌}
use Rattle.dt_resolve_model.specs.World.{Quad, Value, World, tree_world, value_of_bytes}
use Rattle.dt_resolve_model.specs.Regions.{only_cell, address_count, entries_of, entry_at}
use Rattle.dt_resolve_model.specs.Interrupts.{step_by, step_of, Lead, nowhere, arrived, onward, step_to, steps_from, after_step, ended, IsInterruptParent, specifier_count, Sent, first_entry, is_ragged, cells_from, listed_at, IsSentBy, IsSent, Interrupt, interrupt_row_cells, as_numbers, mask_of, first_match, led, hop, Route, at_node, arrival, routed, most_hops, IsRoute, extended_at, interrupt_at}
use Rattle.dt_resolve_model.specs.Faults.{IsRouteFault, IsRefusedFor, AreNamed}
use Rattle.dt_resolve_model.proofs.Named.{bound, chosen, of_numbers, of_entry, of_count, of_size, of_entries, of_cell, AreListFaults, of_node, of_first, of_sent, of_mask, of_match, region_named, dma_region_named, specifier_named, specifier_at_named}

abbrev route_faults : AreListFaults IsRouteFault
route_faults = record { cells = tt; absent = tt; unknown = tt; broken = tt; unmatched = tt }

module _ (t : Reading) where
  abbrev w : World
  w = tree_world t

  abbrev Fine : {A : Type 0} → Answer A → Type 0
  Fine = IsRefusedFor IsRouteFault

  abbrev at_in : Path → List ℕ → Option Value
  at_in p name = option_map value_of_bytes (value_in t p name)

  -- ---- the interrupt parent

  of_step : (p : Path) → Fine (step_of w p)
  of_step p = by (at_in p (codes "interrupt-parent"))
    where
      by : (o : Option Value) → Fine (step_by w p o)
      by None = tt
      by (Some v) = bound IsRouteFault (only_cell v >>= w.node) _ (bound IsRouteFault (only_cell v) _ (of_cell IsRouteFault tt v) (of_node IsRouteFault route_faults t)) (λ q. tt)

  of_steps : (p : Path) → Fine (steps_from w p)
  of_steps p = bound IsRouteFault (step_of w p) _ (of_step p) to
    where
      to : (o : Option Path) → Fine (step_to w o)
      to None = tt
      to (Some q) = tt

  after : (more : Path → Option (Answer Path)) → ((q : Path) (r : Answer Path) → more q ≡ Some r → Fine r) → (s : Answer Lead) → Fine s → (r : Answer Path) → after_step more s ≡ Some r → Fine r
  after more h undetermined fine r e = let same : undetermined ≡ r = cc in subst Fine same tt
  after more h (refused fault) fine r e = let same : refused fault ≡ r = cc in subst Fine same fine
  after more h (answer nowhere) fine r e = let same : refuse NoParent ≡ r = cc in subst Fine same (tt, refl)
  after more h (answer (arrived q)) fine r e = let same : answer q ≡ r = cc in subst Fine same tt
  after more h (answer (onward q)) fine r e = h q r e

  of_ended : (n : ℕ) (p : Path) (r : Answer Path) → ended w n p ≡ Some r → Fine r
  of_ended zero p r e = absurd cc
  of_ended (suc n) p r e = after (ended w n) (of_ended n) (steps_from w p) (of_steps p) r e

  of_parent : (p : Path) (r : Answer Path) → IsInterruptParent w p r → Fine r
  of_parent p r (inl some) = of_ended some.0 p r some.1
  of_parent p r (inr none) = subst Fine (sym none.0) (tt, refl)

  -- ---- where it is sent

  of_count_at : (q : Path) → Fine (specifier_count w q)
  of_count_at q = of_size IsRouteFault tt 1 (at_in q (codes "#interrupt-cells"))

  of_listed : (index : ℕ) (v : Value) (q : Path) → Fine (listed_at w index v q)
  of_listed index v q =
      bound IsRouteFault (specifier_count w q) _ (of_count_at q)
      (λ n. bound IsRouteFault (entries_of n v >>= entry_at NoInterrupts index) _
      (bound IsRouteFault (entries_of n v) _ (of_entries IsRouteFault tt n v) (of_entry IsRouteFault NoInterrupts tt index)) (λ e. tt))

  of_is_sent : (p : Path) (index : ℕ) (r : Answer Sent) → IsSent w p index r → Fine r
  of_is_sent p index r = by (at_in p (codes "interrupts-extended")) (at_in p (codes "interrupts"))
    where
      by : (extended plain : Option Value) → IsSentBy w p index (answer extended) (answer plain) r → Fine r
      by (Some v) plain h = subst Fine (sym h) (of_sent IsRouteFault route_faults t (specifier_count w) of_count_at (is_ragged v) index v.cells)
      by None None h = subst Fine (sym h) (tt, refl)
      by None (Some v) h = subst Fine (sym h.2) (bound IsRouteFault h.0 _ (of_parent p h.0 h.1) (of_listed index v))

  -- ---- the way through maps

  of_row_cells : (q : Path) → Fine (interrupt_row_cells w q)
  of_row_cells q =
      bound IsRouteFault (address_count w q 0) _ (of_count IsRouteFault tt 0 (at_in q (codes "#address-cells")))
      (λ a. bound IsRouteFault (specifier_count w q) _ (of_count_at q) (λ s. tt))

  of_led : (nexus : Path) (unit specifier : List Quad) (v : Value) (n k : ℕ) → Fine (led w nexus unit specifier v n k)
  of_led nexus unit specifier v n k =
      bound IsRouteFault (w.value nexus (codes "interrupt-map-mask") >>= mask_of (n + k)) _ (of_mask IsRouteFault route_faults t (n + k) (at_in nexus (codes "interrupt-map-mask")))
      (λ mask. bound IsRouteFault (first_match w (interrupt_row_cells w) (is_ragged v) (n + k) (take n unit ++ specifier) mask 0 v.cells) _
      (of_match IsRouteFault route_faults t (interrupt_row_cells w) of_row_cells (is_ragged v) (n + k) (take n unit ++ specifier) mask 0 v.cells) (λ r. tt))

  of_hop : (at : Interrupt) (v : Value) → Fine (hop w at v)
  of_hop at v =
      bound IsRouteFault (address_count w at.node 2) _ (of_count IsRouteFault tt 2 (at_in at.node (codes "#address-cells")))
      (λ n. bound IsRouteFault (specifier_count w at.node) _ (of_count_at at.node)
      (λ k. chosen IsRouteFault (nat_lt (length at.unit) n) _ _ (tt, refl) (of_led at.node at.unit at.specifier v n k)))

  of_arrival : (through : Value → Answer Route) → ((m : Value) → Fine (through m)) → (hops : ℕ) (at : Interrupt) → Fine (arrival w through hops at)
  of_arrival through h hops at = by (at_in at.node (codes "interrupt-controller")) (at_in at.node (codes "interrupt-map"))
    where
      by : (c m : Option Value) → Fine (at_node through hops at c m)
      by (Some c) m = bound IsRouteFault (as_numbers at.specifier) _ (of_numbers IsRouteFault at.specifier) (λ ns. tt)
      by None None = (tt, refl)
      by None (Some v) = h v

  of_routed : (left hops : ℕ) (at : Interrupt) → Fine (routed w left hops at)
  unfolding routed
  of_routed zero hops at = of_arrival (λ v. refuse Loop) (λ v. (tt, refl)) hops at
  of_routed (suc left) hops at =
      of_arrival (λ v. hop w at v >>= routed w left (hops + 1)) (λ v. bound IsRouteFault (hop w at v) _ (of_hop at v) (of_routed left (hops + 1))) hops at

  route_named : (p : Path) (index : ℕ) (r : Answer Route) → IsRoute w p index r → Fine r
  route_named p index r h =
      subst Fine (sym h.2)
      (bound IsRouteFault h.0 _ (of_is_sent p index h.0 h.1)
      (λ sent. of_routed most_hops 0 _))

  interrupt_at_named : (p : Path) (at : ℕ) → Fine (interrupt_at w p at)
  interrupt_at_named p at =
      bound IsRouteFault (w.value p (codes "interrupts-extended") >>= extended_at w at) _ (by (at_in p (codes "interrupts-extended"))) (λ sent. of_routed most_hops 0 _)
    where
      by : (o : Option Value) → Fine (extended_at w at o)
      by None = (tt, refl)
      by (Some v) =
          bound IsRouteFault (first_entry w (specifier_count w) (is_ragged v) (cells_from at v.cells)) _
          (of_first IsRouteFault route_faults t (specifier_count w) of_count_at (is_ragged v) (cells_from at v.cells)) (λ x. tt)

pub are_named : (t : Reading) → AreNamed t
are_named t = record {
  regions = region_named t;
  dma_regions = dma_region_named t;
  routes = route_named t;
  specifiers = λ p property kind index. specifier_named t kind p property index;
  interrupts_at = interrupt_at_named t;
  specifiers_at = λ p property kind at. specifier_at_named t kind p property at;
}
