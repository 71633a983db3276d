use Rattle.std.proofs.Common.{◌≡◌, [], ◌∷◌, codes, refl, ap, true≢false}
use Rattle.dt_model.specs.Path.{path_eq}
use Rattle.dt_model.specs.Source.{base, unresolved, bad_phandle, duplicate_phandle}
use Rattle.dt_model.specs.Refused.{at_end, IsRefusedFor}
use Rattle.dt_model.specs.Rows.{events, number, phandle_of}
use Rattle.dt_model_laws.specs.Premises.{unresolved_and_bad, bad_and_duplicate, duplicate_numbers}
use Rattle.dt_model_laws.proofs.CheckedRefusals.{none_unresolved, none_bad}
use Rattle.dt_model_laws.proofs.SourceRefusals.{one_refusal}
use Rattle.dt_model_laws.proofs.premises.late_refusals_are_told_in_turn.Goals as goal

is_unresolved : IsRefusedFor base unresolved_and_bad (at_end unresolved)
is_unresolved = (_, refl, ([], codes "p", phandle_of (codes "nope"), refl, refl))

is_bad : IsRefusedFor base bad_and_duplicate (at_end bad_phandle)
is_bad = (_, refl, (none_unresolved (events bad_and_duplicate) refl, (codes "c" ∷ [], number 0, refl, refl)))

is_duplicate : IsRefusedFor base duplicate_numbers (at_end duplicate_phandle)
is_duplicate = (_, refl, (none_unresolved (events duplicate_numbers) refl, none_bad (events duplicate_numbers) refl, (codes "a" ∷ [], codes "b" ∷ [], 1, (λ e. true≢false (ap (path_eq (codes "a" ∷ [])) e)), refl, refl)))

pub returns-clause-unresolved : goal.returns-clause-unresolved
returns-clause-unresolved c = is_unresolved

pub returns-clause-not_bad : goal.returns-clause-not_bad
returns-clause-not_bad c h = let e : at_end unresolved ≡ at_end bad_phandle = one_refusal base unresolved_and_bad (at_end unresolved) (at_end bad_phandle) is_unresolved h in cc

pub returns-clause-bad : goal.returns-clause-bad
returns-clause-bad c = is_bad

pub returns-clause-not_duplicate : goal.returns-clause-not_duplicate
returns-clause-not_duplicate c h = let e : at_end bad_phandle ≡ at_end duplicate_phandle = one_refusal base bad_and_duplicate (at_end bad_phandle) (at_end duplicate_phandle) is_bad h in cc

pub returns-clause-duplicate : goal.returns-clause-duplicate
returns-clause-duplicate c = is_duplicate
