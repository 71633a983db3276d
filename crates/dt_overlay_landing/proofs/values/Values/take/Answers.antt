use Rattle.std.proofs.Common.{◌∙◌, sym, ap, subst, ℕ, List, Option, None, option_map}
use Rattle.std.specs.Global.{Vec}
use Rattle.dt_overlay_landing.specs.Values.{Kept, Keeps, values_kept}
use Rattle.dt_overlay_landing.proofs.ValuesKept.{kept_found, kept_after}
use Rattle.dt_overlay_landing.proofs.values.Values.take.Goals as goal

pub returns-clause-value : goal.returns-clause-value
returns-clause-value c =
    rw (← c.self.view_is)
    (ap (λ (o : Option (Vec ℕ)). option_map (λ v. v.items) o) c.remove.ensures.value ∙ sym (kept_found c.self.inside.map.entries c.args.node c.args.name.now))

pub returns-clause-others : goal.returns-clause-others
returns-clause-others c =
    subst (λ (a : List Kept). Keeps a (values_kept c.remove.new.self.entries) c.args.node c.args.name.now None) c.self.view_is
    (kept_after c.self.inside.map c.remove.new.self (c.args.node, c.args.name) None c.remove.ensures.updates)
