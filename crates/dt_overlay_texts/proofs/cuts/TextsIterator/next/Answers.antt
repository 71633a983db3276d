use Rattle.std.proofs.Common.{◌≡◌, ◌∷◌, [], length, sym, ap, ◌∙◌, arith}
use Rattle.dt_overlay_texts.specs.Cuts.{texts_in}
use Rattle.dt_overlay_texts.proofs.TextCuts.{texts_front, texts_none}
use Rattle.dt_overlay_texts.proofs.cuts.TextsIterator.next.Goals as goal

pub returns-in_err-text-clause-steps : goal.returns-in_err-text-clause-steps
returns-in_err-text-clause-steps c =
    let none : c.args.self.now ≡ [] = sym c.self.view_is ∙ texts_none c.self.inside.rest.now c.in_err-text.ensures in
    rw c.from_residual.ensures (none, none)

pub returns-clause-steps : goal.returns-clause-steps
returns-clause-steps c =
    let parts = c.in_ok-text.ensures in
    sym c.self.view_is ∙ ap texts_in parts.whole ∙ texts_front c.in_ok-text.text.now c.in_ok-text.rest.now parts.lacks

pub returns-clause-goes : goal.returns-clause-goes
returns-clause-goes c =
    let parts = c.in_ok-text.ensures in
    let gives : c.args.self.now ≡ c.in_ok-text.text.now ∷ texts_in c.in_ok-text.rest.now =
    sym c.self.view_is ∙ ap texts_in parts.whole ∙ texts_front c.in_ok-text.text.now c.in_ok-text.rest.now parts.lacks in
    record { on = λ _. (tt, tt, omega (arith, ap length gives)); keeps = tt; rests = λ _. tt }
