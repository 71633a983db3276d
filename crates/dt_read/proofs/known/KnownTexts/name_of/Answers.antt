use Rattle.std.proofs.Common.{ap, drop, ◌∙◌}
use Rattle.dt_model.specs.Lexing.{text_in}
use Rattle.dt_read.proofs.PropertyTokens.{parts_of, text_is}
use Rattle.dt_read.proofs.known.KnownTexts.name_of.Goals as goal

pub returns-clause-name : goal.returns-clause-name
returns-clause-name c = λ p n t.
    let parts = parts_of c.args.self.now c.args.property.now p n t in
    c.text_at.ensures.text ∙ ap (λ k. text_in (drop k c.args.self.now)) c.number.ensures.value ∙ text_is c.args.self.now _ p.name parts.name
