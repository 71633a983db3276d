use Rattle.std.proofs.Common.{Some, refl, sym, subst, ◌∙◌, ap}
use Rattle.std.specs.Prelude.{nat_eq, if◌then◌else◌}
use Rattle.indexmap.specs.IndexMap.{get}
use Rattle.dt_model.specs.Numbers.{numbers_of}
use Rattle.dt_model.specs.Path.{Path}
use Rattle.dt_overlay_base.specs.Known.{Known, IsKnown, IsNext}
use Rattle.dt_overlay_base.proofs.PlacesKept.{kept_after, given_more}
use Rattle.dt_overlay_base.proofs.places.Places.give.Goals as goal

pub returns-clause-known : goal.returns-clause-known
returns-clause-known c base given landed known there bare next =
    given_more base given landed _ (subst (IsKnown base given landed) (sym c.self.view_is) known) c.args.path.now c.requires c.args.number there bare
    (subst (λ (a : Known). IsNext (numbers_of base) a.last c.args.number) (sym c.self.view_is) next) _
    (λ q named. kept_after c.self.inside.numbers c.insert.new.self c.in_ok-text.text (Some c.args.number) c.args.path.now q c.requires named c.in_ok-text.ensures c.in_ok-insert.ensures.updates)
    (λ m. c.in_ok-insert-2.ensures.updates.0 m ∙ ap (λ (r : Path). if nat_eq c.args.number m then Some r else get nat_eq c.self.inside.paths m) c.in_ok-place.ensures) refl
