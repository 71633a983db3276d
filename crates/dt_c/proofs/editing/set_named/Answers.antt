use Rattle.std.proofs.Common.{◌≡◌, List, ℕ, None, refl, subst}
use Rattle.std.specs.Result.{IfErr}
use Rattle.dt_names.specs.declared.fault.Fault.{Fault}
use Rattle.dt_c.specs.Edits.{WhyNotSetNamed}
use Rattle.dt_c.proofs.Named.{if_err, set_named}
use Rattle.dt_edit.specs.Editable.{WhyNotSetIn}
use Rattle.dt_c.proofs.editing.set_named.Goals as goal

pub returns-clause-refused : goal.returns-clause-refused
returns-clause-refused c =
    let old = c.args.bytes.now in
    let why = subst (λ (n : List ℕ). IfErr c.set_prop.result (λ e. WhyNotSetIn e.kind old c.args.node n c.args.value.now × (e.at ≡ None))) c.in_ok-name.ensures.value c.set_prop.ensures.refused in
    if_err c.set_prop.result (λ e. WhyNotSetIn e.kind old c.args.node c.args.name.now c.args.value.now × (e.at ≡ None)) (λ e. WhyNotSetNamed e.kind old c.args.node c.args.name.now c.args.value.now × (e.at ≡ None))
    (λ e why. (set_named e.kind old c.args.node c.args.name.now c.args.value.now (c.in_ok-name.ensures.valid.0 refl) why.0, why.1)) why
