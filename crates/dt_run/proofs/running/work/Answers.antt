use Rattle.std.proofs.Common.{Bor, List, ℕ, Vec, Global, ap, map}
use Rattle.std.proofs.lemmas.Result.{err_from_is_err_and}
use Rattle.dt_run.proofs.Runs.{not_loaded, undone_of}
use Rattle.dt_run.proofs.running.work.Goals as goal

pub returns-in_err-texts-clause-refused : goal.returns-in_err-texts-clause-refused
returns-in_err-texts-clause-refused g c =
    let p = err_from_is_err_and c.from_residual.result c.from_residual.ensures.1 in
    let (why, at) = c.in_err-texts.ensures.refused in
    let own = ap (λ (xs : List (Bor (List ℕ))). map (λ name. name.now) xs) c.as_slice.ensures.value in
    rw (p.1, p.2) (not_loaded _ _ _ _ _ _ _ _ own why at)

pub returns-clause-refused : goal.returns-clause-refused
returns-clause-refused g c =
    let own = ap (λ (xs : List (Bor (List ℕ))). map (λ name. name.now) xs) c.as_slice.ensures.value in
    let same = ap (λ (xs : List (Vec ℕ Global)). map (λ text. text.items) xs) c.as_slice-2.ensures.value in
    undone_of _ _ _ _ _ _ _ _ _ c.answer.result own same c.in_ok-texts.ensures.texts c.answer.ensures.refused
