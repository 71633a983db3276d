use Rattle.std.proofs.Common.{ℕ, ◌≤◌, length, refl, arith}
use Rattle.dt_names.specs.Fault.{IsExclusive, IsOneRefusal}
use Rattle.dt_names.specs.declared.fault.FaultKind.TheVariants.{NoMemory, Limit}
use Rattle.dt_write.specs.Refusals.{WhyNoBytes}
use Rattle.dt_write.specs.Written.{written}
use Rattle.dt_write.proofs.laws.one_outcome.Goals as goal

fits_or_not : (size : ℕ) → IsExclusive (size ≤ 16777216) (λ kind. WhyNoBytes kind size)
fits_or_not size NoMemory is why = refl
fits_or_not size Limit is why = absurd (omega (arith, is, why))
fits_or_not size _ is why = absurd why

one_reason : (size : ℕ) → IsOneRefusal (λ kind. WhyNoBytes kind size)
one_reason size NoMemory other ne ne' why why' = absurd (ne refl)
one_reason size Limit NoMemory ne ne' why why' = absurd (ne' refl)
one_reason size Limit Limit ne ne' why why' = refl
one_reason size Limit _ ne ne' why why' = absurd why'
one_reason size _ other ne ne' why why' = absurd why

pub returns-clause-written : goal.returns-clause-written
returns-clause-written c = λ t. fits_or_not (length (written t))

pub returns-clause-not_written : goal.returns-clause-not_written
returns-clause-not_written c = λ t. one_reason (length (written t))
