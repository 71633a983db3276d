use Rattle.std.proofs.Common.{◌∙◌, sym, ap, ℕ, Option, option_map}
use Rattle.std.specs.Global.{Vec}
use Rattle.dt_overlay_landing.proofs.ValuesKept.{kept_found}
use Rattle.dt_overlay_landing.proofs.values.Values.get.Goals as goal

pub returns-in-Some : goal.returns-in-Some
returns-in-Some c =
    rw (c.as_slice.ensures.value, ← c.self.view_is)
    (ap (λ (o : Option (Vec ℕ)). option_map (λ v. v.items) o) c.in-Some.ensures.value ∙ sym (kept_found c.self.inside.map.entries c.args.node c.args.name.now))

pub returns-in-None : goal.returns-in-None
returns-in-None c =
    rw (← c.self.view_is)
    (ap (λ (o : Option (Vec ℕ)). option_map (λ v. v.items) o) c.in-None.ensures.value ∙ sym (kept_found c.self.inside.map.entries c.args.node c.args.name.now))
