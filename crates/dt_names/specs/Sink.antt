-- What is said of a sink before and after some calls.
use Rattle.std.specs.Prelude.{◌≡◌, ◌<◌, ℕ, List, [], ◌∷◌, ◌++◌, Bool, true, Option, None, length, take}
use Rattle.std.specs.Borrow.{Bor}
use Rattle.std.specs.Io.KnownBytes.{Appends}
use Rattle.dt_names.specs.declared.fault.Fault.{Fault}
use Rattle.dt_names.specs.declared.fault.FaultKind.TheVariants.{WriteFault}

-- what pieces come to, one behind the other
abbrev pub joined : List (Bor (List ℕ)) → List ℕ
joined [] = []
joined (piece ∷ pieces) = piece.now ++ joined pieces

-- what a sink has taken: the bytes that it holds, where they are known, and whether it has failed
pub record Taken : Type 0 where
  pub contents : Option (List ℕ)
  pub has_failed : Bool

-- it took all of some bytes, and works as before
pub record Takes (bytes : List ℕ) (old new : Taken) : Type 0 where
  pub appended : Appends old.contents new.contents bytes
  pub works : new.has_failed ≡ old.has_failed

-- it was left alone
abbrev pub IsUntouched : (old new : Taken) → Type 0
IsUntouched old new = new ≡ old

-- it took a front of some bytes, and not all of them, and has failed
pub record IsCutShort (bytes : List ℕ) (old new : Taken) : Type 0 where
  pub failed : new.has_failed ≡ true
  pub count : ℕ
  pub shorter : count < length bytes
  pub appended : Appends old.contents new.contents (take count bytes)

-- The fault of a call that was to write some bytes to a sink, which failed at them. It has no place.
pub record IsRefused (fault : Fault) (bytes : List ℕ) (old new : Taken) : Type 0 where
  pub kind : fault.kind ≡ WriteFault
  pub nowhere : fault.at ≡ None
  pub cut : IsCutShort bytes old new
