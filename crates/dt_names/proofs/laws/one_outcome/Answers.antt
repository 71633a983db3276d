use Rattle.std.proofs.Common.{◌≡◌, ℕ, ◌<◌, ◌≤◌, List, length, refl, sym, ap, ◌∙◌, arith}
use Rattle.dt_model.specs.Path.{Path}
use Rattle.dt_names.specs.Fault.{IsExclusive, IsOneRefusal}
use Rattle.dt_names.specs.Paths.{IsPathOf, WhyNoPath, WhyNotPushed}
use Rattle.dt_names.specs.declared.fault.FaultKind.TheVariants.{NoMemory, Limit, BadName}
use Rattle.dt_names.proofs.PathTexts.{same_path}
use Rattle.dt_names.proofs.laws.one_outcome.Goals as goal

one_length : (text : List ℕ) (p q : Path) → IsPathOf text p → IsPathOf text q → length p ≡ length q
one_length text p q a b = ap length (same_path p q a.named b.named (sym a.written ∙ b.written))

read : (text : List ℕ) (path : Path) → IsExclusive (IsPathOf text path × (length path ≤ 64)) (λ kind. WhyNoPath kind text)
read text path NoMemory is why = refl
read text path Limit is why = absurd (omega (arith, is.1, why.2, one_length text path why.0 is.0 why.1))
read text path BadName is why = absurd (why path is.0)
read text path _ is why = absurd why

unread : (text : List ℕ) → IsOneRefusal (λ kind. WhyNoPath kind text)
unread text NoMemory other ne ne' why why' = absurd (ne refl)
unread text Limit NoMemory ne ne' why why' = absurd (ne' refl)
unread text Limit Limit ne ne' why why' = refl
unread text Limit BadName ne ne' why why' = absurd (why' why.0 why.1)
unread text Limit _ ne ne' why why' = absurd why'
unread text BadName NoMemory ne ne' why why' = absurd (ne' refl)
unread text BadName Limit ne ne' why why' = absurd (why why'.0 why'.1)
unread text BadName BadName ne ne' why why' = refl
unread text BadName _ ne ne' why why' = absurd why'
unread text _ other ne ne' why why' = absurd why

pushed : (path : Path) → IsExclusive (length path < 64) (λ kind. WhyNotPushed kind path)
pushed path NoMemory is why = refl
pushed path Limit is why = absurd (omega (arith, is, why))
pushed path _ is why = absurd why

not_pushed : (path : Path) → IsOneRefusal (λ kind. WhyNotPushed kind path)
not_pushed path NoMemory other ne ne' why why' = absurd (ne refl)
not_pushed path Limit NoMemory ne ne' why why' = absurd (ne' refl)
not_pushed path Limit Limit ne ne' why why' = refl
not_pushed path Limit _ ne ne' why why' = absurd why'
not_pushed path _ other ne ne' why why' = absurd why

pub returns-clause-read : goal.returns-clause-read
returns-clause-read c = read

pub returns-clause-unread : goal.returns-clause-unread
returns-clause-unread c = unread

pub returns-clause-pushed : goal.returns-clause-pushed
returns-clause-pushed c = pushed

pub returns-clause-not_pushed : goal.returns-clause-not_pushed
returns-clause-not_pushed c = not_pushed
