use Rattle.std.proofs.Common.{◌∷◌, Err, sym, ap, ◌∙◌}
use Rattle.dt_names.specs.declared.fault.FaultKind.TheVariants.{BadFixup}
use Rattle.dt_names.proofs.Faults.{is_placeless}
use Rattle.dt_marks_read.specs.FixupsLeft.{behind_label, fixups_left}
use Rattle.dt_marks_read.proofs.ToldFixups.{nothing_left, value_fault, next_told}
use Rattle.dt_marks_read.proofs.listed_fixups.Labels.next_label.Goals as goal

pub returns-in_err-rest : goal.returns-in_err-rest
returns-in_err-rest c =
    let s = c.args.self.now in
    rw c.from_residual.ensures (
      nothing_left s.blob.now s.rest s.label.now s.texts c.requires (ap behind_label (sym c.in_err-rest.ensures.value)),
      nothing_left s.blob.now c.take.new.self s.label.now s.texts c.requires (ap behind_label c.in_err-rest.ensures.after),
    )

pub returns-in_err-label : goal.returns-in_err-label
returns-in_err-label c =
    let s = c.args.self.now in
    rw c.from_residual-in_err-label.ensures (
      nothing_left s.blob.now s.rest s.label.now s.texts c.requires (ap behind_label (sym c.in_ok-rest.ensures.value) ∙ c.in_err-label.ensures.steps.0),
      nothing_left s.blob.now c.take.new.self s.label.now s.texts c.requires (ap behind_label c.in_ok-rest.ensures.after),
    )

pub returns-in_default : goal.returns-in_default
returns-in_default c =
    let s = c.args.self.now in
    value_fault s.blob.now s.rest (record { name = c.in_ok-label.label.now; value = c.in_ok-label.value.now }) c.next.new.self s.label.now c.of.result s.texts c.requires
    (ap behind_label (sym c.in_ok-rest.ensures.value) ∙ c.in_ok-label.ensures.steps) (is_placeless c.of.result BadFixup c.of.ensures.kind c.of.ensures.at) c.in_default.ensures
    ∙ ap (λ rest. Err c.of.result ∷ fixups_left s.blob.now rest s.label.now s.texts) (sym c.in_ok-rest.ensures.after)

pub returns : goal.returns
returns c =
    let s = c.args.self.now in
    next_told s.blob.now s.rest (record { name = c.in_ok-label.label.now; value = c.in_ok-label.value.now }) c.next.new.self s.label.now s.texts c.in-Some.texts c.in_ok-text.text.now c.next-2.new.self c.requires
    (ap behind_label (sym c.in_ok-rest.ensures.value) ∙ c.in_ok-label.ensures.steps) c.in-Some.ensures.0 c.in-Some.ensures.1 c.in_ok-text.ensures.steps
    ∙ c.tell.ensures
