-- What a run of the program does.
use Rattle.std.specs.Prelude.{◌≡◌, ◌⊎◌, ℕ, List, Option, Result, Ok, Err, IfSome, map}
use Rattle.clap.specs.declared.error.Error.{Error}
use Rattle.dt_names.specs.Fault.{placeless}
use Rattle.dt_names.specs.Sink.{Taken, Takes, IsUntouched, IsCutShort}
use Rattle.dt_names.specs.declared.fault.Fault.{Fault}
use Rattle.dt_names.specs.declared.fault.FaultKind.{FaultKind}
use Rattle.dt_names.specs.declared.fault.FaultKind.TheVariants.{NoMemory}
use Rattle.dt_run_streams.specs.Files.{Loads, AreLoaded, WhyNotLoaded}
use Rattle.dt_run.specs.Job.{IsWritten, WhyNotPerformed}
use Rattle.dt_run_streams.specs.Report.{fault_line}
use Rattle.dt_run_words.specs.declared.command_line.Line.{Line}
use Rattle.dt_run_words.specs.declared.words.LineFault.{LineFault}
use Rattle.dt_run_words.specs.declared.words.LineFault.TheVariants.{Memory, Words}

-- the names of a line's files
abbrev pub file_names : Line → List (List ℕ)
file_names line = map (λ file. file.now) line.files.items

-- what the line's job makes of these texts was written
pub record IsMadeOf (line : Line) (texts : List (List ℕ)) (old new : Taken) : Type 0 where
  pub bytes : List ℕ
  pub made : IsWritten line.job line.hex texts bytes
  pub written : Takes bytes old new

-- why it wasn't, and of which input
pub data WhyNotMadeOf (line : Line) (texts : List (List ℕ)) (old new : Taken) : ℕ → Fault → Type 0 where
  -- memory was refused, and nothing was written
  no_memory : IsUntouched old new → WhyNotMadeOf line texts old new 0 (placeless NoMemory)
  -- the job isn't done on them
  unperformed : (k : ℕ) (fault : Fault) → WhyNotPerformed k fault.kind fault.at line.job line.hex texts old new →
      WhyNotMadeOf line texts old new k fault

-- the line's job was done on what is loaded for its files
pub record IsDone {F : Type 0} (loads : Loads F) (before behind : F) (line : Line) (old new : Taken) : Type 0 where
  pub texts : List (List ℕ)
  pub loaded : AreLoaded loads (file_names line) before texts behind
  pub made : IsMadeOf line texts old new

-- why it wasn't, and of which input
pub data WhyNotDone {F : Type 0} (loads : Loads F) (before behind : F) (line : Line) (old new : Taken) : ℕ → Fault → Type 0 where
  -- a file isn't loaded, and nothing was written
  unloaded : (k : ℕ) (kind : FaultKind) → WhyNotLoaded loads (file_names line) k before kind behind → IsUntouched old new →
      WhyNotDone loads before behind line old new k (placeless kind)
  -- all are, but the job isn't done on them
  unmade : (texts : List (List ℕ)) (k : ℕ) (fault : Fault) → AreLoaded loads (file_names line) before texts behind →
      WhyNotMadeOf line texts old new k fault → WhyNotDone loads before behind line old new k fault

-- how a run ends
pub data Ending : Type 0 where
  -- all was done
  done : Ending
  -- an input, counted from 0, has a fault
  faulty : (input : ℕ) (fault : Fault) → Ending
  -- the words are no command
  no_command : Error → Ending

-- the exit status
abbrev pub status_of : Ending → ℕ
status_of done = 0
status_of (faulty input fault) = 1
status_of (no_command error) = 2

-- A run on this answer to the words of the command line, and on these files, ends so, and writes this: nothing where a file isn't loaded,
-- and none is asked for where the words are no command.
abbrev pub Ends : {F : Type 0} → Loads F → (before behind : F) → Result Line LineFault → (old new : Taken) → Ending → Type 0
Ends loads before behind line old new done = (asked : Line) × (line ≡ Ok asked) × IsDone loads before behind asked old new
Ends loads before behind line old new (faulty k fault) =
    ((line ≡ Err Memory) × (k ≡ 0) × (fault ≡ placeless NoMemory) × IsUntouched old new × (behind ≡ before))
    ⊎ ((asked : Line) × (line ≡ Ok asked) × WhyNotDone loads before behind asked old new k fault)
Ends loads before behind line old new (no_command error) = (line ≡ Err (Words error)) × IsUntouched old new × (behind ≡ before)

-- a sink got all of a text, and works as before; or a front of it, and has failed
abbrev pub IsSaid : List ℕ → (old new : Taken) → Type 0
IsSaid text old new = Takes text old new ⊎ IsCutShort text old new

-- What is printed at an ending: nothing where all was done; the line of a fault; or a text, which is that of clap's error where that is
-- known, unless memory is refused for it.
abbrev pub IsReported : (Error → Option (List ℕ)) → Ending → (old new : Taken) → Type 0
IsReported text_of done old new = IsUntouched old new
IsReported text_of (faulty k fault) old new = IsSaid (fault_line k fault) old new
IsReported text_of (no_command error) old new =
    ((text : List ℕ) × IfSome (text_of error) (λ known. text ≡ known) × IsSaid text old new)
    ⊎ IsUntouched old new
