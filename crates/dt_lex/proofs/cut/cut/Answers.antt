use Rattle.std.proofs.Common.{◌<◌, length, ◌∙◌, ap, arith}
use Rattle.std.specs.List.{filter}
use Rattle.dt_lex.specs.declared.leader.Leader.{Leader}
use Rattle.dt_lex.specs.Rules.{rules}
use Rattle.dt_lex.specs.Leaders.{leads}
use Rattle.dt_lex.proofs.Cuts.{at_place, place_below, tried_more, cut_here, no_cut_here}
use Rattle.dt_lex.proofs.cut.cut.Goals as goal

pub returns-in-Some-clause-exact : goal.returns-in-Some-clause-exact
returns-in-Some-clause-exact c =
    let k = c.loop-rule.rule-index in
    let tried = c.candidates-tried.result.now in
    let found = c.in-Some.ensures.exact in
    let below : k < length tried = omega (arith, c.loop-rule-test.true) in
    let kept = c.candidates-tried.ensures ∙ ap (λ (x : Leader). filter (leads x) rules) c.leader_of.ensures in
    (found.0, cut_here c.args.mode c.args.fresh c.args.text.now tried kept k _ (at_place tried k _ below) c.loop-rule.invariant found.0 c.in-Some.rest.now found.1 c.in-Some.ensures.shorter)

pub loop-rule-preserved : goal.loop-rule-preserved
loop-rule-preserved c =
    let k = c.loop-rule.rule-index in
    let tried = c.candidates-tried.result.now in
    let below : k < length tried = omega (arith, c.loop-rule-test.true) in
    tried_more c.args.mode c.args.fresh c.args.text.now tried k _ c.loop-rule.invariant (at_place tried k _ below) c.in_default.ensures.exact

pub returns-clause-exact : goal.returns-clause-exact
returns-clause-exact c =
    let tried = c.candidates-tried.result.now in
    let kept = c.candidates-tried.ensures ∙ ap (λ (x : Leader). filter (leads x) rules) c.leader_of.ensures in
    no_cut_here c.args.mode c.args.fresh c.args.text.now tried kept (λ i q e. let below : i < length tried = place_below tried i q e in c.loop-rule.invariant i q (omega arith) e)
