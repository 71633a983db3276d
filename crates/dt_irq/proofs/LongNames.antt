-- A name that is too long is no property's.
use Rattle.std.proofs.Common.{◌≡◌, ℕ, ◌<◌, ◌≤◌, List, length, Option, Some, None, refl, sym, arith}
use Rattle.dt_model.specs.Names.{Name}
use Rattle.dt_model.specs.Path.{Path}
use Rattle.dt_model.specs.Tree.{Reading, value_in}
use Rattle.dt_model.specs.Valid.{IsValid}
use Rattle.dt_model.proofs.Listed.{value_has_name}

pub too_long : (t : Reading) (p : Path) (name : Name) → IsValid t → 255 < length name → None ≡ value_in t p name
too_long t p name valid long = by (value_in t p name) refl
  where
    by : (o : Option (List ℕ)) → value_in t p name ≡ o → None ≡ value_in t p name
    by None e = sym e
    by (Some v) e = absurd (let short : length name ≤ 255 = (value_has_name t p name v valid e).short in omega arith)
