use Rattle.std.proofs.Common.{◌≡◌, List, ℕ, None, refl, subst}
use Rattle.std.specs.Result.{IfErr}
use Rattle.dt_names.specs.declared.fault.Fault.{Fault}
use Rattle.dt_c.specs.Edits.{WhyNotAddedNamed}
use Rattle.dt_c.proofs.Named.{if_err, added_named}
use Rattle.dt_edit.specs.Editable.{WhyNotAddedIn}
use Rattle.dt_c.proofs.editing.add_named.Goals as goal

pub returns-clause-refused : goal.returns-clause-refused
returns-clause-refused c =
    let old = c.args.bytes.now in
    let why = subst (λ (n : List ℕ). IfErr c.add_node.result (λ e. WhyNotAddedIn e.kind old c.args.parent n × (e.at ≡ None))) c.in_ok-name.ensures.value c.add_node.ensures.refused in
    if_err c.add_node.result (λ e. WhyNotAddedIn e.kind old c.args.parent c.args.name.now × (e.at ≡ None)) (λ e. WhyNotAddedNamed e.kind old c.args.parent c.args.name.now × (e.at ≡ None))
    (λ e why. (added_named e.kind old c.args.parent c.args.name.now (c.in_ok-name.ensures.valid.0 refl) why.0, why.1)) why
