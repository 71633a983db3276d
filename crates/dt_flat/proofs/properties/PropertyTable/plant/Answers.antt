use Rattle.std.proofs.Common.{◌∙◌, ap, List}
use Rattle.dt_flat.specs.Rows.{Held, held, put, value_held}
use Rattle.dt_flat.proofs.TableLemmas.{place-none, put-push}
use Rattle.dt_flat.proofs.properties.PropertyTable.plant.Goals as goal

pub push-requires-2 : goal.push-requires-2
push-requires-2 c =
    place-none c.args.node c.args.name c.self.inside.rows c.self.inside.values c.self.invariant (ap (value_held c.args.node c.args.name) c.self.view_is ∙ c.requires)

pub returns-clause-ok : goal.returns-clause-ok
returns-clause-ok c =
    let v = c.args.value.now in
    let none = place-none c.args.node c.args.name c.self.inside.rows c.self.inside.values c.self.invariant (ap (value_held c.args.node c.args.name) c.self.view_is ∙ c.requires) in
    (λ i. held (c.in_default.ensures.ok i) (c.in_ok-push.ensures.ok i))
    ∙ put-push c.args.node c.args.name c.self.inside.rows c.self.inside.values v c.self.invariant none
    ∙ ap (λ (hs : List Held). put hs c.args.node c.args.name v) c.self.view_is
