use Rattle.std.proofs.Common.{◌≡◌, ◌∷◌, refl, sym, ap, subst, ◌∙◌}
use Rattle.dt_read.specs.StepsLeft.{steps_left}
use Rattle.dt_read.specs.TreeTokens.{marks_in}
use Rattle.dt_read.specs.View.{tag_mark, HasToken}
use Rattle.dt_read.specs.Walked.{holds, leading}
use Rattle.dt_read.proofs.StepLemmas.{none_leads}
use Rattle.dt_read.proofs.steps.Steps.next_property.Goals as goal

pub returns-then-begins_a_node : goal.returns-then-begins_a_node
returns-then-begins_a_node c =
    let at = c.self.inside in
    (ap leading (sym c.self.view_is) ∙ none_leads at.names at.at at.rest.now c.self.invariant (c.if-begins_a_node.ensures refl), refl)

pub returns-in_err-name : goal.returns-in_err-name
returns-in_err-name c =
    let next = c.in_ok-found.ensures.next c.self.inside.names c.self.invariant in
    let own = subst (λ tag. HasToken c.self.inside.names tag next.0) c.in-Property.is next.2 in
    absurd (let z = c.in_err-name.ensures.name next.0 own.0 own.1 in cc)

pub returns : goal.returns
returns c =
    let next = c.in_ok-found.ensures.next c.self.inside.names c.self.invariant in
    let own = subst (λ tag. HasToken c.self.inside.names tag next.0) c.in-Property.is next.2 in
    let left = marks_in c.self.inside.names c.in_ok-found.found.behind c.in_ok-found.found.rest.now in
    let named = c.in_ok-name.ensures.name next.0 own.0 own.1 in
    let name : next.0.name ≡ c.in_ok-name.name.now = cc in
    let value = sym (c.value_of.ensures c.self.inside.names next.0 own.0 own.1) in
    sym c.self.view_is ∙ ap steps_left next.1 ∙ ap (λ tag. steps_left (tag_mark c.in_ok-found.found.at tag next.0 ∷ left)) c.in-Property.is
    ∙ (λ i. holds (record { name = name i; value = value i }) ∷ steps_left left)
    ∙ ap (λ strings. holds (record { name = c.in_ok-name.name.now; value = c.value_of.result.now }) ∷ steps_left (marks_in strings c.in_ok-found.found.behind c.in_ok-found.found.rest.now)) (sym c.name_of.ensures.strings)
