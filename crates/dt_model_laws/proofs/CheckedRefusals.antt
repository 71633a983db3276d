-- What isn't wrong after the last place, by tests on the definitions.
use Rattle.std.proofs.Common.{◌≡◌, Bool, true, ◌||◌, codes, List, Option, Some, None, is_some}
use Rattle.std.specs.List.{list_all}
use Rattle.std.specs.Str.{bytes_eq}
use Rattle.dt_model.specs.Event.{Event, opening, giving, definition, undefinition, deletion, defines, drops}
use Rattle.dt_model.specs.Source.{Part, Events, all_bound, number_of_parts, HasUnresolved, HasBadPhandle}
use Rattle.dt_model.proofs.Cases.{all_pass}
use Rattle.dt_model_laws.proofs.CheckedWords.{implies, implied}
use Rattle.dt_model.proofs.Lasts.{last_each, value_by}
use Rattle.dt_model.proofs.Tests.{bytes_eq_refl}

-- the references of a definition's value name nodes
abbrev pub is_bound : Events → Event (List Part) → Bool
is_bound es (opening p) = true
is_bound es (giving l p) = true
is_bound es (definition p n v) = is_some (all_bound es v)
is_bound es (undefinition p n) = true
is_bound es (deletion p) = true

-- a definition of `phandle` writes a number
abbrev pub is_numbered : Event (List Part) → Bool
is_numbered (opening p) = true
is_numbered (giving l p) = true
is_numbered (definition p n v) = implies (bytes_eq n (codes "phandle")) (is_some (number_of_parts v))
is_numbered (undefinition p n) = true
is_numbered (deletion p) = true

not_none : {A : Type 0} (o : Option A) → is_some o ≡ true → o ≡ None → ⊥
not_none None h e = cc
not_none (Some x) h e = cc

pub none_unresolved : (es : Events) → list_all (is_bound es) es ≡ true → HasUnresolved es → ⊥
none_unresolved es h u =
    not_none (all_bound es u.2)
    (last_each (λ e. is_bound es e ≡ true) (λ e. defines u.0 u.1 e || drops u.0 u.1 e) es (definition u.0 u.1 u.2) (all_pass (is_bound es) es h) (value_by es u.0 u.1 u.2 u.3)) u.4

pub none_bad : (es : Events) → list_all is_numbered es ≡ true → HasBadPhandle es → ⊥
none_bad es h u =
    not_none (number_of_parts u.1)
    (implied (bytes_eq (codes "phandle") (codes "phandle")) (is_some (number_of_parts u.1))
    (last_each (λ e. is_numbered e ≡ true) (λ e. defines u.0 (codes "phandle") e || drops u.0 (codes "phandle") e) es (definition u.0 (codes "phandle") u.1) (all_pass is_numbered es h) (value_by es u.0 (codes "phandle") u.1 u.2))
    (bytes_eq_refl (codes "phandle"))) u.3
