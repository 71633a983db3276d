-- What a device puts on its bus.
use Rattle.std.proofs.Common.{◌≡◌, ◌≢◌, ℕ, ◌*◌, ◌^◌, Bool, true, [], ◌∷◌, refl, sym, ap, ◌∙◌}
use Rattle.std.specs.Prelude.{codes, nat_lt, if◌then◌else◌}
use Rattle.dt_names.specs.declared.fault.FaultKind.TheVariants.{Overflow}
use Rattle.dt_resolve_model.specs.declared.regions.BusCells.{BusCells}
use Rattle.dt_resolve_model.specs.declared.regions.BusAddress.{BusAddress}
use Rattle.dt_model.specs.Path.{Path}
use Rattle.dt_resolve_model.specs.Above.{front}
use Rattle.dt_resolve_model.specs.Answers.{Answer, refuse, answer, ◌>>=◌}
use Rattle.dt_resolve_model.specs.World.{World}
use Rattle.dt_resolve_model.specs.Regions.{bus_cells, region_at, sent, dma_region}

-- a device on a bus with these cells
pub sent_on : (w : World) (p q : Path) (address size : ℕ) (own : BusCells) → p ≢ [] → q ≡ front p → answer own ≡ bus_cells w q → dma_region w p address size ≡ sent w q address size own
sent_on w [] q address size own some is has = absurd (some refl)
sent_on w (n ∷ names) q address size own some is has =
    ap (λ (z : Path). bus_cells w z >>= sent w z address size) (sym is) ∙ ap (λ (x : Answer BusCells). x >>= sent w q address size) (sym has)

module _ (w : World) (q : Path) (address size : ℕ) (own : BusCells) where
  abbrev if_it_fits : Bool → Answer BusAddress
  if_it_fits b = if b then answer (record { address = address; whole = true }) else refuse Overflow

  -- an address that the bus has cells for goes up
  pub sent_up : nat_lt address (2 ^ (32 * own.address)) ≡ true → sent w q address size own ≡ region_at w (codes "dma-ranges") q address size
  sent_up fits = ap (λ (b : Bool). if_it_fits b >>= λ at. region_at w (codes "dma-ranges") q at.address size) fits
