-- What is true of what a job writes, and of why it doesn't.
use Rattle.std.specs.Prelude.{◌≡◌, ◌≢◌, ℕ, List, Bool}
use Rattle.dt_names.specs.declared.fault.Fault.{Fault}
use Rattle.dt_names.specs.declared.fault.FaultKind.TheVariants.{NoMemory}
use Rattle.dt_run.specs.Job.{IsWritten}
use Rattle.dt_run.specs.Task.{IsTaskOf, WhyRefusedBy}
use Rattle.dt_run.specs.declared.task.Task.{Task}
use Rattle.dt_run_words.specs.declared.command_line.Job.{Job}

-- the job's task refuses an input, counted from 0
abbrev pub WhyRefused : Job → List (List ℕ) → ℕ → Fault → Type 0
WhyRefused job inputs k e = (t : Task) × IsTaskOf job t × WhyRefusedBy t k e inputs

-- a job writes one thing of its inputs
abbrev pub OneOutput : Type 0
OneOutput = (job : Job) (hex : Bool) (inputs : List (List ℕ)) (bytes other : List ℕ) → IsWritten job hex inputs bytes
    → IsWritten job hex inputs other → bytes ≡ other

-- or refuses one, and not both, unless memory is wanted
abbrev pub WrittenIsNotRefused : Type 0
WrittenIsNotRefused = (job : Job) (hex : Bool) (inputs : List (List ℕ)) (bytes : List ℕ) (k : ℕ) (e : Fault)
    → IsWritten job hex inputs bytes → WhyRefused job inputs k e → e.kind ≡ NoMemory

-- memory aside, there is one refusal: of one input, for one fault
abbrev pub OneRefusal : Type 0
OneRefusal = (job : Job) (inputs : List (List ℕ)) (k j : ℕ) (e f : Fault)
    → WhyRefused job inputs k e → WhyRefused job inputs j f → e.kind ≢ NoMemory → f.kind ≢ NoMemory → (k ≡ j) × (e ≡ f)
