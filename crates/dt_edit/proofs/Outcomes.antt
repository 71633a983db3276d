-- An edit's outcome is one.
use Rattle.std.proofs.Common.{◌≤◌, ℕ, List, refl, sym, ◌∙◌, true≢false, inl, inr}
use Rattle.dt_model.specs.Limits.{most_bytes}
use Rattle.dt_model.specs.Names.{Name}
use Rattle.dt_names.specs.Fault.{IsExclusive, IsOneRefusal}
use Rattle.dt_names.specs.declared.fault.FaultKind.TheVariants.{NoMemory, Limit, BlobPhandle, Duplicate}
use Rattle.dt_edit.specs.Editable.{Fits, MayAddWithin, MayPatchIn, MaySetWithin, WhyNotAddedOwned, WhyNotAddedWithin, WhyNotOpened, WhyNotOwned, WhyNotPatchedIn, WhyNotSetOwned, WhyNotSetWithin}

pub opened_or : (bytes : List ℕ) (size : ℕ) → IsExclusive (Fits bytes size) (λ kind. WhyNotOpened kind bytes size)
opened_or bytes size Limit fits why = absurd (why fits)
opened_or bytes size _ fits why = absurd why

pub one_opening : (bytes : List ℕ) (size : ℕ) → IsOneRefusal (λ kind. WhyNotOpened kind bytes size)
one_opening bytes size Limit Limit a b why other = refl
one_opening bytes size Limit _ a b why other = absurd other
one_opening bytes size _ other-kind a b why other = absurd why

pub owned_or : (size : ℕ) → IsExclusive (size ≤ most_bytes) (λ kind. WhyNotOwned kind size)
owned_or size NoMemory fits why = refl
owned_or size Limit fits why = absurd (why fits)
owned_or size _ fits why = absurd why

pub one_owning : (size : ℕ) → IsOneRefusal (λ kind. WhyNotOwned kind size)
one_owning size NoMemory other-kind a b why other = absurd (a refl)
one_owning size Limit NoMemory a b why other = absurd (b refl)
one_owning size Limit Limit a b why other = refl
one_owning size Limit _ a b why other = absurd other
one_owning size _ other-kind a b why other = absurd why

pub set_or : (room : ℕ) (bytes : List ℕ) (node : ℕ) (name : Name) (value : List ℕ) → IsExclusive (MaySetWithin room bytes node name value) (λ kind. WhyNotSetWithin room kind bytes node name value)
set_or room bytes node name value BlobPhandle may why = absurd (why may.may)
set_or room bytes node name value Limit may why = absurd (why.1 may.fits)
set_or room bytes node name value _ may why = absurd why

pub one_setting : (room : ℕ) (bytes : List ℕ) (node : ℕ) (name : Name) (value : List ℕ) → IsOneRefusal (λ kind. WhyNotSetWithin room kind bytes node name value)
one_setting room bytes node name value BlobPhandle BlobPhandle a b why other = refl
one_setting room bytes node name value Limit Limit a b why other = refl
one_setting room bytes node name value BlobPhandle Limit a b why other = absurd (why other.0)
one_setting room bytes node name value Limit BlobPhandle a b why other = absurd (other why.0)
one_setting room bytes node name value BlobPhandle _ a b why other = absurd other
one_setting room bytes node name value Limit _ a b why other = absurd other
one_setting room bytes node name value _ kind a b why other = absurd why

pub set_owned_or : (bytes : List ℕ) (node : ℕ) (name : Name) (value : List ℕ) → IsExclusive (MaySetWithin most_bytes bytes node name value) (λ kind. WhyNotSetOwned kind bytes node name value)
set_owned_or bytes node name value NoMemory may why = refl
set_owned_or bytes node name value BlobPhandle may why = absurd (why may.may)
set_owned_or bytes node name value Limit may why = absurd (why.1 may.fits)
set_owned_or bytes node name value _ may why = absurd why

pub one_setting_owned : (bytes : List ℕ) (node : ℕ) (name : Name) (value : List ℕ) → IsOneRefusal (λ kind. WhyNotSetOwned kind bytes node name value)
one_setting_owned bytes node name value NoMemory kind a b why other = absurd (a refl)
one_setting_owned bytes node name value BlobPhandle NoMemory a b why other = absurd (b refl)
one_setting_owned bytes node name value BlobPhandle BlobPhandle a b why other = refl
one_setting_owned bytes node name value BlobPhandle Limit a b why other = absurd (why other.0)
one_setting_owned bytes node name value BlobPhandle _ a b why other = absurd other
one_setting_owned bytes node name value Limit NoMemory a b why other = absurd (b refl)
one_setting_owned bytes node name value Limit BlobPhandle a b why other = absurd (other why.0)
one_setting_owned bytes node name value Limit Limit a b why other = refl
one_setting_owned bytes node name value Limit _ a b why other = absurd other
one_setting_owned bytes node name value _ kind a b why other = absurd why

pub patched_or : (bytes : List ℕ) (node : ℕ) (name : Name) (offset n : ℕ) → IsExclusive (MayPatchIn bytes node name offset n) (λ kind. WhyNotPatchedIn kind bytes node name offset n)
patched_or bytes node name offset n BlobPhandle may why = absurd (why may)
patched_or bytes node name offset n _ may why = absurd why

pub one_patching : (bytes : List ℕ) (node : ℕ) (name : Name) (offset n : ℕ) → IsOneRefusal (λ kind. WhyNotPatchedIn kind bytes node name offset n)
one_patching bytes node name offset n BlobPhandle BlobPhandle a b why other = refl
one_patching bytes node name offset n BlobPhandle _ a b why other = absurd other
one_patching bytes node name offset n _ kind a b why other = absurd why

pub added_or : (room : ℕ) (bytes : List ℕ) (node : ℕ) (name : Name) → IsExclusive (MayAddWithin room bytes node name) (λ kind. WhyNotAddedWithin room kind bytes node name)
added_or room bytes node name Duplicate may why = absurd (true≢false (sym why ∙ may.fresh))
added_or room bytes node name Limit may (fresh, inl deep) = absurd (deep (may.shallow, may.few))
added_or room bytes node name Limit may (fresh, inr long) = absurd (long may.fits)
added_or room bytes node name _ may why = absurd why

pub one_adding : (room : ℕ) (bytes : List ℕ) (node : ℕ) (name : Name) → IsOneRefusal (λ kind. WhyNotAddedWithin room kind bytes node name)
one_adding room bytes node name Duplicate Duplicate a b why other = refl
one_adding room bytes node name Limit Limit a b why other = refl
one_adding room bytes node name Duplicate Limit a b why other = absurd (true≢false (sym why ∙ other.0))
one_adding room bytes node name Limit Duplicate a b why other = absurd (true≢false (sym other ∙ why.0))
one_adding room bytes node name Duplicate _ a b why other = absurd other
one_adding room bytes node name Limit _ a b why other = absurd other
one_adding room bytes node name _ kind a b why other = absurd why

pub added_owned_or : (bytes : List ℕ) (node : ℕ) (name : Name) → IsExclusive (MayAddWithin most_bytes bytes node name) (λ kind. WhyNotAddedOwned kind bytes node name)
added_owned_or bytes node name NoMemory may why = refl
added_owned_or bytes node name Duplicate may why = absurd (true≢false (sym why ∙ may.fresh))
added_owned_or bytes node name Limit may (fresh, inl deep) = absurd (deep (may.shallow, may.few))
added_owned_or bytes node name Limit may (fresh, inr long) = absurd (long may.fits)
added_owned_or bytes node name _ may why = absurd why

pub one_adding_owned : (bytes : List ℕ) (node : ℕ) (name : Name) → IsOneRefusal (λ kind. WhyNotAddedOwned kind bytes node name)
one_adding_owned bytes node name NoMemory kind a b why other = absurd (a refl)
one_adding_owned bytes node name Duplicate NoMemory a b why other = absurd (b refl)
one_adding_owned bytes node name Duplicate Duplicate a b why other = refl
one_adding_owned bytes node name Duplicate Limit a b why other = absurd (true≢false (sym why ∙ other.0))
one_adding_owned bytes node name Duplicate _ a b why other = absurd other
one_adding_owned bytes node name Limit NoMemory a b why other = absurd (b refl)
one_adding_owned bytes node name Limit Duplicate a b why other = absurd (true≢false (sym other ∙ why.0))
one_adding_owned bytes node name Limit Limit a b why other = refl
one_adding_owned bytes node name Limit _ a b why other = absurd other
one_adding_owned bytes node name _ kind a b why other = absurd why
