use Rattle.std.proofs.Common.{◌≡◌, ◌∙◌, sym, ap, List, length, Option, Some, option_map, slice_get, arith}
use Rattle.dt_flat.specs.Rows.{Held}
use Rattle.dt_flat.proofs.TableLemmas.{length-held, held-at}
use Rattle.dt_flat.proofs.properties.PropertyTable.at.Goals as goal

pub at-name-requires : goal.at-name-requires
at-name-requires c = omega (arith, c.requires, length-held c.self.inside.rows c.self.inside.values c.self.invariant, ap (λ (hs : List Held). length hs) c.self.view_is)

pub at-requires : goal.at-requires
at-requires c = omega (arith, c.requires, c.self.invariant, length-held c.self.inside.rows c.self.inside.values c.self.invariant, ap (λ (hs : List Held). length hs) c.self.view_is)

-- the property at the place
there : (c : goal.After-at) → slice_get c.args.self.now c.args.place ≡ Some (record { node = c.at-name.result.0; name = c.at-name.result.1; value = c.at.result.now })
there c = ap (λ (hs : List Held). slice_get hs c.args.place) (sym c.self.view_is) ∙ held-at c.self.inside.rows c.self.inside.values c.args.place c.at-name.result c.at.result.now c.at-name.ensures c.at.ensures

pub returns-clause-name : goal.returns-clause-name
returns-clause-name c = ap (λ (o : Option Held). option_map (λ h. h.name) o) (there c)

pub returns-clause-value : goal.returns-clause-value
returns-clause-value c = ap (λ (o : Option Held). option_map (λ h. h.value) o) (there c)
