use Rattle.std.proofs.Common.{rules, ◌≡◌, ℕ, List, Option, Some, None, IsSome, inl, inr, refl, arith}
use Rattle.dt_model.specs.Names.{Name}
use Rattle.dt_names.specs.Fault.{IsExclusive, IsOneRefusal}
use Rattle.dt_names.specs.declared.fault.FaultKind.TheVariants.{NoMemory, Limit, OutOfRange, Duplicate, BlobPhandle}
use Rattle.dt_flat.specs.Arena.{Slot}
use Rattle.dt_flat.specs.Refusals.{MayAdd, MaySet, WhyNoNode, WhyNotReserved, WhyNotSet}
use Rattle.dt_flat.proofs.laws.one_outcome.Goals as goal

none_some : {X : Type 0} (o : Option X) → o ≡ None → IsSome o → ⊥
none_some None e i = search rules
none_some (Some x) e i = search rules

reserved : (address size : ℕ) → IsExclusive (¬ ((address ≡ 0) × (size ≡ 0))) (λ kind. WhyNotReserved kind address size)
reserved address size NoMemory is why = refl
reserved address size OutOfRange is why = absurd (is why)
reserved address size _ is why = absurd why

not_reserved : (address size : ℕ) → IsOneRefusal (λ kind. WhyNotReserved kind address size)
not_reserved address size NoMemory other ne ne' why why' = absurd (ne refl)
not_reserved address size OutOfRange NoMemory ne ne' why why' = absurd (ne' refl)
not_reserved address size OutOfRange OutOfRange ne ne' why why' = refl
not_reserved address size OutOfRange _ ne ne' why why' = absurd why'
not_reserved address size _ other ne ne' why why' = absurd why

added : (slots : List Slot) (p : ℕ) (name : Name) → IsExclusive (MayAdd slots p name) (λ kind. WhyNoNode kind slots p name)
added slots p name NoMemory is why = refl
added slots p name Duplicate is why = absurd (none_some _ is.fresh why)
added slots p name Limit is (_, inl many) = absurd (omega (arith, is.few, many))
added slots p name Limit is (_, inr deep) = absurd (omega (arith, is.shallow, deep))
added slots p name _ is why = absurd why

not_added : (slots : List Slot) (p : ℕ) (name : Name) → IsOneRefusal (λ kind. WhyNoNode kind slots p name)
not_added slots p name NoMemory other ne ne' why why' = absurd (ne refl)
not_added slots p name Duplicate NoMemory ne ne' why why' = absurd (ne' refl)
not_added slots p name Duplicate Duplicate ne ne' why why' = refl
not_added slots p name Duplicate Limit ne ne' why why' = absurd (none_some _ why'.0 why)
not_added slots p name Duplicate _ ne ne' why why' = absurd why'
not_added slots p name Limit NoMemory ne ne' why why' = absurd (ne' refl)
not_added slots p name Limit Duplicate ne ne' why why' = absurd (none_some _ why.0 why')
not_added slots p name Limit Limit ne ne' why why' = refl
not_added slots p name Limit _ ne ne' why why' = absurd why'
not_added slots p name _ other ne ne' why why' = absurd why

set : (slots : List Slot) (p : ℕ) (name : Name) (value : List ℕ) → IsExclusive (MaySet slots p name value) (λ kind. WhyNotSet kind slots p name value)
set slots p name value NoMemory is why = refl
set slots p name value BlobPhandle is why = absurd (why is)
set slots p name value _ is why = absurd why

not_set : (slots : List Slot) (p : ℕ) (name : Name) (value : List ℕ) → IsOneRefusal (λ kind. WhyNotSet kind slots p name value)
not_set slots p name value NoMemory other ne ne' why why' = absurd (ne refl)
not_set slots p name value BlobPhandle NoMemory ne ne' why why' = absurd (ne' refl)
not_set slots p name value BlobPhandle BlobPhandle ne ne' why why' = refl
not_set slots p name value BlobPhandle _ ne ne' why why' = absurd why'
not_set slots p name value _ other ne ne' why why' = absurd why

pub returns-clause-reserved : goal.returns-clause-reserved
returns-clause-reserved c = reserved

pub returns-clause-not_reserved : goal.returns-clause-not_reserved
returns-clause-not_reserved c = not_reserved

pub returns-clause-added : goal.returns-clause-added
returns-clause-added c = added

pub returns-clause-not_added : goal.returns-clause-not_added
returns-clause-not_added c = not_added

pub returns-clause-set : goal.returns-clause-set
returns-clause-set c = set

pub returns-clause-not_set : goal.returns-clause-not_set
returns-clause-not_set c = not_set
