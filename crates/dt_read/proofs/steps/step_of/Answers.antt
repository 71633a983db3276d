use Rattle.std.proofs.Common.{◌≡◌, ◌∷◌, sym, ap, subst, ◌∙◌}
use Rattle.dt_read.specs.StepsLeft.{steps_left}
use Rattle.dt_read.specs.View.{tag_mark, HasToken}
use Rattle.dt_read.specs.Walked.{holds}
use Rattle.dt_read.proofs.steps.step_of.Goals as goal

pub returns-in_err-name-in-Property-clause-step : goal.returns-in_err-name-in-Property-clause-step
returns-in_err-name-in-Property-clause-step c = λ p marks t.
    let own = subst (λ tag. HasToken c.args.names.now tag p) c.in-Property.is t in
    absurd (let z = c.in_err-name-in-Property.ensures.name p own.0 own.1 in cc)

pub value_of-requires : goal.value_of-requires
value_of-requires c = let own = subst (λ tag. HasToken c.args.names.now tag c.requires.token.0) c.in-Property.is c.requires.token.1 in (c.args.names.now, c.requires.token.0, own.0, own.1)

pub returns-in_ok-name-in-Property-clause-step : goal.returns-in_ok-name-in-Property-clause-step
returns-in_ok-name-in-Property-clause-step c = λ p marks t.
    let own = subst (λ tag. HasToken c.args.names.now tag p) c.in-Property.is t in
    let named = c.in_ok-name-in-Property.ensures.name p own.0 own.1 in
    let name : p.name ≡ c.in_ok-name-in-Property.name.now = cc in
    let value = sym (c.value_of.ensures c.args.names.now p own.0 own.1) in
    ap (λ tag. steps_left (tag_mark c.args.at tag p ∷ marks)) c.in-Property.is ∙ (λ i. holds (record { name = name i; value = value i }) ∷ steps_left marks)
