-- Routes of specifiers, map by map.
use Rattle.std.proofs.Common.{◌≡◌, ℕ, suc, zero, ◌+◌, List, length, ap, ◌∙◌, Option, Some, None}
use Rattle.dt_model.specs.Names.{Name}
use Rattle.dt_names.specs.declared.fault.Fault.{Fault}
use Rattle.dt_names.specs.declared.fault.FaultKind.TheVariants.{Loop}
use Rattle.dt_resolve_model.specs.Answers.{Answer, refused, refuse, answer, ◌>>=◌}
use Rattle.dt_resolve_model.specs.World.{Quad, Value, World}
use Rattle.dt_resolve_model.specs.Interrupts.{Sent, Route, as_numbers, first_match, is_ragged, mask_of}
use Rattle.dt_resolve_model.specs.Specifiers.{map_name, mask_name, pass_name, provider_row_cells, led_by, provider_hop, provided_at, provision, provided}

-- ---- a hop

-- what comes of a mask that was read
abbrev masked : World → Name → Sent → Value → List Quad → Answer Sent
masked w kind at v mask = w.value at.node (pass_name kind) >>= mask_of (length at.specifier) >>= λ pass. first_match w (provider_row_cells w kind) (is_ragged v) (length at.specifier) at.specifier mask 0 v.cells >>= led_by at pass

module _ (w : World) (kind : Name) (at : Sent) (v : Value) where
  pub no_mask : (e : Fault) → (w.value at.node (mask_name kind) >>= mask_of (length at.specifier)) ≡ refused e → provider_hop w kind at v ≡ refused e
  no_mask e mask = ap (λ (x : Answer (List Quad)). x >>= masked w kind at v) mask

  pub no_pass : (ms : List Quad) (e : Fault) → (w.value at.node (mask_name kind) >>= mask_of (length at.specifier)) ≡ answer ms → (w.value at.node (pass_name kind) >>= mask_of (length at.specifier)) ≡ refused e → provider_hop w kind at v ≡ refused e
  no_pass ms e mask pass =
      ap (λ (x : Answer (List Quad)). x >>= masked w kind at v) mask
      ∙ ap (λ (x : Answer (List Quad)). x >>= λ ps. first_match w (provider_row_cells w kind) (is_ragged v) (length at.specifier) at.specifier ms 0 v.cells >>= led_by at ps) pass

  pub hop_is : (ms ps : List Quad) → (w.value at.node (mask_name kind) >>= mask_of (length at.specifier)) ≡ answer ms → (w.value at.node (pass_name kind) >>= mask_of (length at.specifier)) ≡ answer ps
      → provider_hop w kind at v ≡ (first_match w (provider_row_cells w kind) (is_ragged v) (length at.specifier) at.specifier ms 0 v.cells >>= led_by at ps)
  hop_is ms ps mask pass =
      ap (λ (x : Answer (List Quad)). x >>= masked w kind at v) mask
      ∙ ap (λ (x : Answer (List Quad)). x >>= λ qs. first_match w (provider_row_cells w kind) (is_ragged v) (length at.specifier) at.specifier ms 0 v.cells >>= led_by at qs) pass

-- ---- where a specifier has come to

-- what comes of its node's map
came : (w : World) (kind : Name) (through : Value → Answer Route) (hops : ℕ) (at : Sent) (map : Option Value) → w.value at.node (map_name kind) ≡ answer map → provision w kind through hops at ≡ provided_at through hops at map
came w kind through hops at map e = ap (λ (x : Answer (Option Value)). x >>= provided_at through hops at) e

pub arrives : (w : World) (kind : Name) (left hops : ℕ) (at : Sent) (ns : List ℕ) → w.value at.node (map_name kind) ≡ answer None → as_numbers at.specifier ≡ answer ns
    → provided w kind left hops at ≡ answer (record { controller = at.node; cells = ns; hops = hops })
unfolding provided
arrives w kind zero hops at ns e f = came w kind (λ v. refuse Loop) hops at None e ∙ ap (λ (x : Answer (List ℕ)). x >>= λ ms. answer (let r : Route = record { controller = at.node; cells = ms; hops = hops } in r)) f
arrives w kind (suc left) hops at ns e f =
    came w kind (λ v. provider_hop w kind at v >>= provided w kind left (hops + 1)) hops at None e ∙ ap (λ (x : Answer (List ℕ)). x >>= λ ms. answer (let r : Route = record { controller = at.node; cells = ms; hops = hops } in r)) f

pub too_far : (w : World) (kind : Name) (hops : ℕ) (at : Sent) (v : Value) → w.value at.node (map_name kind) ≡ answer (Some v) → provided w kind 0 hops at ≡ refuse Loop
unfolding provided
too_far w kind hops at v e = came w kind (λ v. refuse Loop) hops at (Some v) e

pub goes_on : (w : World) (kind : Name) (left hops : ℕ) (at : Sent) (v : Value) → w.value at.node (map_name kind) ≡ answer (Some v) → provided w kind (suc left) hops at ≡ (provider_hop w kind at v >>= provided w kind left (hops + 1))
unfolding provided
goes_on w kind left hops at v e = came w kind (λ v. provider_hop w kind at v >>= provided w kind left (hops + 1)) hops at (Some v) e
