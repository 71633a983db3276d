use Rattle.std.proofs.Common.{Bor, List, ℕ, ◌∙◌, ap, map}
use Rattle.dt_run.proofs.Runs.{unmade_here, unmade_of}
use Rattle.dt_run.proofs.running.answer.Goals as goal

pub returns-in-Ok-clause-refused : goal.returns-in-Ok-clause-refused
returns-in-Ok-clause-refused g c =
    let same = ap (λ (xs : List (Bor (List ℕ))). map (λ input. input.now) xs) c.as_slice.ensures.value ∙ c.in-Ok.ensures in
    unmade_of _ _ _ _ _ c.perform.result same c.perform.ensures.refused

pub returns-in-Err-clause-refused : goal.returns-in-Err-clause-refused
returns-in-Err-clause-refused g c = unmade_here _ _ _ c.of.result c.of.ensures.kind c.of.ensures.at
