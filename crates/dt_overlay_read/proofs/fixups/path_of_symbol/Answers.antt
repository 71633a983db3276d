use Rattle.std.proofs.Common.{rules, ◌≡◌, inr, subst}
use Rattle.dt_names.specs.declared.fault.FaultKind.{FaultKind}
use Rattle.dt_names.specs.declared.fault.FaultKind.TheVariants.{Limit}
use Rattle.dt_overlay_texts.specs.Texts.{WhyNoSymbolPath}
use Rattle.dt_overlay_read.proofs.FixupsNumbers.{long_alone}
use Rattle.dt_overlay_read.proofs.fixups.path_of_symbol.Goals as goal

pub returns-in-Err-clause-refused : goal.returns-in-Err-clause-refused
returns-in-Err-clause-refused c =
    let value = c.args.value.now in
    let limit : c.in-Err.fault.kind ≡ Limit = search rules in
    let long = subst (λ (k : FaultKind). WhyNoSymbolPath k value) limit c.in-Err.ensures.refused.0 in
    (c.of.ensures.at, inr (c.of.ensures.kind, λ path is. long_alone value long.0 path long.1 long.2 is))
