-- Values that are there, or aren't.
use Rattle.std.proofs.Common.{◌≡◌, ℕ, true, false, true≢false, List, Option, Some, None, Bor, refl, sym}
use Rattle.std.specs.Prelude.{is_some, option_map}
use Rattle.std.specs.Option.{option_copied}
use Rattle.dt_resolve_model.specs.World.{Value, value_of_bytes}

-- a value that was asked for is there, or isn't
pub some_value : (o : Option (List ℕ)) → is_some o ≡ true → (v : Value) × (option_map value_of_bytes o ≡ Some v)
some_value None e = absurd (true≢false (sym e))
some_value (Some v) e = (value_of_bytes v, refl)

pub no_value : (o : Option (List ℕ)) → is_some o ≡ false → option_map value_of_bytes o ≡ None
no_value None e = refl
no_value (Some v) e = absurd (true≢false e)

pub copied_some : (o : Option (Bor (List ℕ))) → is_some (option_copied o) ≡ is_some o
copied_some None = refl
copied_some (Some v) = refl
