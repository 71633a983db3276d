-- Phandles (Devicetree Specification v0.4, 2.3.3), by the tokens.
use Rattle.std.specs.Prelude.{ℕ, List, [], ◌∷◌, if◌then◌else◌, codes}
use Rattle.std.specs.List.{AllByRecursion}
use Rattle.std.specs.Str.{bytes_eq}
use Rattle.dt_model.specs.Valid.{AreDistinct, IsPhandle}
use Rattle.dt_read.specs.Marks.{Mark, begin_mark, end_mark, prop_mark, nop_mark, last_mark}

-- the values of the properties `phandle`, in order
abbrev pub phandles_in : List Mark → List (List ℕ)
phandles_in [] = []
phandles_in (begin_mark place name ∷ marks) = phandles_in marks
phandles_in (end_mark ∷ marks) = phandles_in marks
phandles_in (prop_mark p ∷ marks) = if bytes_eq (codes "phandle") p.name then p.value ∷ phandles_in marks else phandles_in marks
phandles_in (nop_mark ∷ marks) = phandles_in marks
phandles_in (last_mark ∷ marks) = phandles_in marks

-- each is a phandle, and no two are the same
pub record ArePhandles (values : List (List ℕ)) : Type 0 where
  pub each : AllByRecursion IsPhandle values
  pub distinct : AreDistinct values
