-- Lines that were given to a writer.
use Rattle.std.specs.Prelude.{ℕ, List}
use Rattle.std.specs.List.{concat}
use Rattle.dt_names.specs.declared.fault.Fault.{Fault}
use Rattle.dt_names.specs.Sink.{Taken}
use Rattle.dt_text_writer.specs.declared.writer.Writer.{Writer}
use Rattle.dt_text_writer.specs.Written.{Written, IsWritten, IsCutOff, state}

-- such lines were written
pub record AreWritten (Are : List (List ℕ) → Type 0) (old new : Written) : Type 0 where
  pub lines : List (List ℕ)
  pub are : Are lines
  pub written : IsWritten (concat lines) old new

-- the sink failed at such lines
pub record AreCutOff (Are : List (List ℕ) → Type 0) (fault : Fault) (old new : Written) : Type 0 where
  pub lines : List (List ℕ)
  pub are : Are lines
  pub cut : IsCutOff fault (concat lines) old new

-- where a sink's bytes are known, as its trait says
module _ {S : Type 0} (taken : S → Taken) where
  -- a writer wrote such lines
  abbrev pub PutsLines : (Are : List (List ℕ) → Type 0) (old new : Writer S) → Type 0
  PutsLines Are old new = AreWritten Are (state taken old) (state taken new)

  -- its sink failed at them
  abbrev pub FailsAtLines : (Are : List (List ℕ) → Type 0) (fault : Fault) (old new : Writer S) → Type 0
  FailsAtLines Are fault old new = AreCutOff Are fault (state taken old) (state taken new)
