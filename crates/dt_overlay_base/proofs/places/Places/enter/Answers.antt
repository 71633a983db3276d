use Rattle.std.proofs.Common.{rules, ◌≡◌, true, false, None, refl, sym, subst}
use Rattle.std.specs.Prelude.{is_some}
use Rattle.dt_overlay_base.specs.Known.{Known, IsKnown, kept_at}
use Rattle.dt_overlay_base.proofs.PlacesKept.{kept_after, entered, entered_there}
use Rattle.dt_overlay_base.proofs.places.Places.enter.Goals as goal

pub returns-clause-known : goal.returns-clause-known
returns-clause-known c base given landed known =
    let nothing : is_some (kept_at c.self.inside.numbers.entries c.args.path.now) ≡ false = search rules in
    entered base given landed _ (subst (IsKnown base given landed) (sym c.self.view_is) known) c.args.path.now c.requires _ nothing
    (λ q named. kept_after c.self.inside.numbers c.insert.new.self c.in_ok-text.text None c.args.path.now q c.requires named c.in_ok-text.ensures c.in_ok-insert.ensures.updates) (λ m. refl) refl

pub returns-in-Some-clause-known : goal.returns-in-Some-clause-known
returns-in-Some-clause-known c base given landed known =
    let there : is_some (kept_at c.self.inside.numbers.entries c.args.path.now) ≡ true = search rules in
    entered_there base given landed c.args.self.now known c.args.path.now c.requires (subst (λ (a : Known). is_some (kept_at a.landed c.args.path.now) ≡ true) c.self.view_is there)
