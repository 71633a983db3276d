use Rattle.std.proofs.Common.{Some, take, drop, sym, ap, ◌∙◌, arith}
use Rattle.dt_read.proofs.KnownLemmas.{one_known, text_front}
use Rattle.dt_read.proofs.known.KnownTexts.text_at.Goals as goal

pub invariant_of-self : goal.invariant_of-self
invariant_of-self c =
    one_known c.self.inside.strings.now c.self.inside.texts _ _ (record {
      within = omega (arith, c.in_ok-text.ensures.within, c.in-Ok.ensures.1);
      text = sym c.in_ok-text.ensures.text ∙ ap Some (sym (text_front _ _ (sym c.in_ok-text.ensures.text)) ∙ ap (λ n. take n (drop c.args.offset c.self.inside.strings.now)) (sym c.in-Ok.ensures.1));
    }) c.self.invariant
