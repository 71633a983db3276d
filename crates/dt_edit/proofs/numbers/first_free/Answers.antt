use Rattle.std.proofs.Common.{false, ℕ, inl, inr, ap, ◌∙◌, arith}
use Rattle.std.specs.Prelude.{get_or}
use Rattle.std.proofs.lemmas.Bool.{cases_lt}
use Rattle.dt_edit.proofs.numbers.first_free.Goals as goal

pub loop-free-preserved : goal.loop-free-preserved
loop-free-preserved c =
    let here = c.if-taken-free.true in
    let less = c.loop-free-test.true in
    record {
      front = λ k lt. elim (cases_lt k c.loop-free.free) [
        | inl before ↦ c.loop-free.invariant.front k before
        | inr past ↦ ap (λ (j : ℕ). get_or c.args.taken.now j false) (omega (arith, lt, past)) ∙ here
      ];
      within = omega (arith, less);
    }
