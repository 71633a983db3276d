use Rattle.std.proofs.Common.{◌∙◌, sym, ap, ℕ, List, Option, option_map, arith}
use Rattle.std.specs.Borrow.{Bor}
use Rattle.dt_flat.specs.Rows.{value_held}
use Rattle.dt_flat.proofs.TableLemmas.{place-within, value-none, value-place}
use Rattle.dt_flat.proofs.properties.PropertyTable.get.Goals as goal

pub returns-in_err-place : goal.returns-in_err-place
returns-in_err-place c =
    ap (λ (o : Option (Bor (List ℕ))). option_map (λ v. v.now) o) c.from_residual.ensures
    ∙ sym (value-none c.args.node c.args.name c.self.inside.rows c.self.inside.values c.self.invariant (sym c.in_err-place.ensures))
    ∙ ap (value_held c.args.node c.args.name) c.self.view_is

pub at-requires : goal.at-requires
at-requires c = omega (arith, place-within c.args.node c.args.name c.in_ok-place.place c.self.inside.rows (sym c.in_ok-place.ensures), c.self.invariant)

pub returns : goal.returns
returns c =
    sym (value-place c.args.node c.args.name c.in_ok-place.place c.self.inside.rows c.self.inside.values c.at.result.now (sym c.in_ok-place.ensures) c.at.ensures)
    ∙ ap (value_held c.args.node c.args.name) c.self.view_is
