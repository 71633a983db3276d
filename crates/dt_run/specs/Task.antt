-- The task that a job is, what it writes of its inputs, and why it doesn't.
use Rattle.std.specs.Prelude.{◌≡◌, ◌++◌, ◌∷◌, [], ℕ, List, Bool, if◌then◌else◌}
use Rattle.std.specs.List.{concat}
use Rattle.hex.specs.Hex.{encode_lower}
use Rattle.dt_model.specs.Source.{raw}
use Rattle.dt_names.specs.declared.fault.Fault.{Fault}
use Rattle.dt_chain_promises.specs.Apply.{IsBlobApplied, WhyNoBlobApplied}
use Rattle.dt_chain_promises.specs.Compile as compile
use Rattle.dt_chain_promises.specs.Build.{IsBlobBuilt, WhyNoBlobBuilt}
use Rattle.dt_chain_promises.specs.Compile.{IsCompiled, WhyNotCompiled, IsCompilerFault}
use Rattle.dt_resolve_model.specs.Answers.{answer}
use Rattle.dt_resolve_model.specs.declared.questions.Question.{Question}
use Rattle.dt_resolve_model.specs.declared.questions.Question.TheVariants as ask
use Rattle.dt_resolve_lines.specs.Asked.{IsAnswer, WhyUnanswered}
use Rattle.dt_resolve_lines.specs.Listed.{AreLinesOf, AreFirstOf}
use Rattle.dt_resolve_lines.specs.declared.listing.Listing.{Listing}
use Rattle.dt_resolve_lines.specs.declared.listing.Listing.TheVariants.{Regions, Routes}
use Rattle.dt_run_streams.specs.Told.{IsPrinted, IsCounted, HasBlobFault}
use Rattle.dt_run_words.specs.declared.command_line.Job.{Job}
use Rattle.dt_run_words.specs.declared.command_line.Job.TheVariants as job
use Rattle.dt_run.specs.declared.task.Making.{Making}
use Rattle.dt_run.specs.declared.task.Making.TheVariants.{Compile, CompileRaw, Apply, Build}
use Rattle.dt_run.specs.declared.task.Report.{Report}
use Rattle.dt_run.specs.declared.task.Report.TheVariants.{Print, Check, Regs, Irqs}
use Rattle.dt_run.specs.declared.task.Task.{Task}
use Rattle.dt_run.specs.declared.task.Task.TheVariants as task

-- ---- the task

-- the question of a specifier, by the texts of a property and of a kind
abbrev pub IsOfSpecifier : (property kind : List ℕ) → ℕ → Question → Type 0
IsOfSpecifier property kind index (ask.Dma address size) = ⊥
IsOfSpecifier property kind index (ask.Specifier p k i) = (p.now ≡ property) × (k.now ≡ kind) × (i ≡ index)

-- the task asks the node of a path something
abbrev pub Asks : (path : List ℕ) → (Question → Type 0) → Task → Type 0
Asks path Is (task.Ask p question) = (p.now ≡ path) × Is question
Asks path Is _ = ⊥

abbrev pub IsTaskOf : Job → Task → Type 0
IsTaskOf job.Compile t = t ≡ task.Make Compile
IsTaskOf job.CompileRaw t = t ≡ task.Make CompileRaw
IsTaskOf job.Apply t = t ≡ task.Make Apply
IsTaskOf job.Build t = t ≡ task.Make Build
IsTaskOf job.Print t = t ≡ task.Report Print
IsTaskOf job.Check t = t ≡ task.Report Check
IsTaskOf job.Regs t = t ≡ task.Report Regs
IsTaskOf job.Irqs t = t ≡ task.Report Irqs
IsTaskOf (job.Dma path address size) t = Asks path.now (λ question. question ≡ ask.Dma address size) t
IsTaskOf (job.Spec path property kind index) t = Asks path.now (IsOfSpecifier property.now kind.now index) t

-- ---- inputs

-- there is one input, and this holds of it
abbrev pub OfOne : (List ℕ → Type 0) → List (List ℕ) → Type 0
OfOne P (x ∷ []) = P x
OfOne P _ = ⊥

-- there is a first input, and this holds of it and of the others
abbrev pub OfFirst : (List ℕ → List (List ℕ) → Type 0) → List (List ℕ) → Type 0
OfFirst P [] = ⊥
OfFirst P (x ∷ xs) = P x xs

-- ---- blobs

-- how a blob is written: as it is, or as hexadecimal and a line feed
abbrev pub encoded : Bool → List ℕ → List ℕ
encoded hex blob = if hex then encode_lower blob ++ 10 ∷ [] else blob

-- The blob that is made of the inputs: that of a base or of an overlay; that of a source as it is; that of a base with objects applied, or
-- with the overlays of sources.
abbrev pub IsMade : Making → List (List ℕ) → (blob : List ℕ) → Type 0
IsMade Compile inputs blob = OfOne (λ text. compile.IsBlobOf text blob) inputs
IsMade CompileRaw inputs blob = OfOne (λ text. IsCompiled raw text blob) inputs
IsMade Apply inputs blob = OfFirst (λ base objects. IsBlobApplied base objects blob) inputs
IsMade Build inputs blob = OfFirst (λ text overlays. IsBlobBuilt text overlays blob) inputs

-- why an input, counted from 0, is refused
abbrev pub WhyNotMade : Making → ℕ → Fault → List (List ℕ) → Type 0
WhyNotMade Compile k e inputs = OfOne (λ text. (k ≡ 0) × compile.WhyNoBlob text e × IsCompilerFault e.kind) inputs
WhyNotMade CompileRaw k e inputs = OfOne (λ text. (k ≡ 0) × WhyNotCompiled raw text e × IsCompilerFault e.kind) inputs
WhyNotMade Apply k e inputs = OfFirst (λ base objects. WhyNoBlobApplied base objects k e) inputs
WhyNotMade Build k e inputs = OfFirst (λ text overlays. WhyNoBlobBuilt text overlays k e) inputs

-- ---- reports

-- the lines of a blob's regions, or of its routes
abbrev pub IsListed : Listing → (blob bytes : List ℕ) → Type 0
IsListed listing blob bytes = (lines : List (List ℕ)) × AreLinesOf listing blob lines × (bytes ≡ concat lines)

-- some of them, the first ones
abbrev pub IsListedFirst : Listing → (blob bytes : List ℕ) → Type 0
IsListedFirst listing blob bytes = (lines : List (List ℕ)) × AreFirstOf listing blob lines × (bytes ≡ concat lines)

-- what is reported of a blob
abbrev pub IsReport : Report → (blob bytes : List ℕ) → Type 0
IsReport Print = IsPrinted
IsReport Check = IsCounted
IsReport Regs = IsListed Regions
IsReport Irqs = IsListed Routes

-- what there was to write when the sink failed: all of it, or the first lines
abbrev pub IsReportBegun : Report → (blob bytes : List ℕ) → Type 0
IsReportBegun Print = IsPrinted
IsReportBegun Check = IsCounted
IsReportBegun Regs = IsListedFirst Regions
IsReportBegun Irqs = IsListedFirst Routes

-- the report takes memory
abbrev pub ReportTakesMemory : Report → Type 0
ReportTakesMemory Print = ⊥
ReportTakesMemory Check = ⊥
ReportTakesMemory _ = Unit {0}

-- ---- all tasks

-- what the task writes of the inputs: a blob, a report of a blob, or the line of what one of its nodes answers
abbrev pub IsWrittenBy : Task → Bool → List (List ℕ) → List ℕ → Type 0
IsWrittenBy (task.Make making) hex inputs bytes = (blob : List ℕ) × IsMade making inputs blob × (bytes ≡ encoded hex blob)
IsWrittenBy (task.Report report) hex inputs bytes = OfOne (λ blob. IsReport report blob bytes) inputs
IsWrittenBy (task.Ask path question) hex inputs bytes = OfOne (λ blob. IsAnswer question blob path.now (answer bytes)) inputs

-- what a task has to write when its sink fails
abbrev pub IsBegunBy : Task → Bool → List (List ℕ) → List ℕ → Type 0
IsBegunBy (task.Report report) hex inputs bytes = OfOne (λ blob. IsReportBegun report blob bytes) inputs
IsBegunBy t hex inputs bytes = IsWrittenBy t hex inputs bytes

-- why an input, counted from 0, is refused
abbrev pub WhyRefusedBy : Task → ℕ → Fault → List (List ℕ) → Type 0
WhyRefusedBy (task.Make making) k e inputs = WhyNotMade making k e inputs
WhyRefusedBy (task.Report report) k e inputs = OfOne (λ blob. (k ≡ 0) × HasBlobFault e.kind e.at blob) inputs
WhyRefusedBy (task.Ask path question) k e inputs = OfOne (λ blob. (k ≡ 0) × WhyUnanswered question blob path.now e) inputs

-- the task takes memory
abbrev pub TakesMemory : Task → Type 0
TakesMemory (task.Report report) = ReportTakesMemory report
TakesMemory _ = Unit {0}
