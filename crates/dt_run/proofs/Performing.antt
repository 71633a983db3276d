-- What a task writes, and why it doesn't.
use Rattle.std.proofs.Common.{◌≡◌, ◌-◌, ◌<◌, ◌≤◌, ℕ, List, ◌∷◌, [], length, map, take, drop, get_or, take_all, Bor, Bool, Option, Result, Ok, Err, OnOk, IfOk, IfErr, MatchResult, Vec, Global, refl, sym, ap, subst, arith}
use Rattle.std.specs.List.{concat}
use Rattle.dt_model.specs.Checks as checks
use Rattle.dt_model.specs.Checks.{BlobFault, IsFirstFault}
use Rattle.dt_model.specs.Source.{raw}
use Rattle.dt_model.specs.Tree.{nodes_of}
use Rattle.dt_names.specs.Sink.{Taken, Takes, IsUntouched}
use Rattle.dt_names.specs.declared.fault.Fault.{Fault}
use Rattle.dt_names.specs.declared.fault.FaultKind.{FaultKind}
use Rattle.dt_names.specs.declared.fault.FaultKind.TheVariants.{NoMemory, WriteFault}
use Rattle.dt_read.specs.Kinds.{kind_of}
use Rattle.dt_chain_promises.specs.Apply.{WhyNoBlobApplied}
use Rattle.dt_chain_promises.specs.Build.{WhyNoBlobBuilt}
use Rattle.dt_chain_promises.specs.Compile as compile
use Rattle.dt_chain_promises.specs.Compile.{WhyNotCompiled, IsCompilerFault}
use Rattle.dt_chain_promises.proofs.Places.{memory_unplaced, blob_unplaced}
use Rattle.dt_resolve_lines.specs.Asked as asked
use Rattle.dt_resolve_lines.specs.Asked.{IsAnswer, WhyNotAsked}
use Rattle.dt_resolve_lines.specs.Listed as listed
use Rattle.dt_resolve_lines.specs.Listed.{AreLinesOf, AreOwn, AreOwnBegun, WhyNotListed}
use Rattle.dt_resolve_lines.specs.declared.listing.Listing.{Listing}
use Rattle.dt_resolve_lines.specs.declared.listing.Listing.TheVariants.{Regions, Routes}
use Rattle.dt_resolve_lines.proofs.Nodes.{all_are_begun}
use Rattle.dt_resolve_model.specs.declared.questions.Question.{Question}
use Rattle.dt_resolve_model.specs.Answers.{answer}
use Rattle.dt_run.specs.Job.{IsWritten, WhyNotDoneBy}
use Rattle.dt_run.specs.Showing.{HasInputs, WhyInput, WhyNotShown}
use Rattle.dt_run.specs.Task.{IsListed, IsListedFirst, IsMade, IsReport, IsReportBegun, IsTaskOf, IsWrittenBy, ReportTakesMemory, encoded}
use Rattle.dt_run.specs.declared.task.Making.{Making}
use Rattle.dt_run.specs.declared.task.Making.TheVariants.{Compile, CompileRaw, Apply, Build}
use Rattle.dt_run.specs.declared.task.Report.{Report}
use Rattle.dt_run.specs.declared.task.Report.TheVariants.{Print, Check, Regs, Irqs}
use Rattle.dt_run.specs.declared.task.Task.{Task}
use Rattle.dt_run.specs.declared.task.Task.TheVariants as task
use Rattle.dt_run_streams.specs.Told.{HasBlobFault, WhyNotTold, no_blob, cut}
use Rattle.dt_run_words.specs.Asked.{IsAsked}
use Rattle.dt_run_words.specs.declared.command_line.Job.{Job}
use Rattle.dt_run_words.specs.declared.command_line.Job.TheVariants as job
use Rattle.dt_run.proofs.InputFaults.{blob_not_applied, compiler_only, inside, not_answered, text_not_built}

-- ---- a fault of the first input

module _ {T : Type 0} (done : Result T Fault) (made : Result T (ℕ × Fault)) where
  pub first_made : (P : T → Type 0) → MatchResult done (λ x. made ≡ Ok x) (λ fault. made ≡ Err (0, fault)) → IfOk done P → IfOk made P
  first_made P same is = made_of done made same is where
    made_of : (done : Result T Fault) (made : Result T (ℕ × Fault)) → MatchResult done (λ x. made ≡ Ok x) (λ fault. made ≡ Err (0, fault)) → IfOk done P → IfOk made P
    made_of (Ok x) made same is = subst (λ (r : Result T (ℕ × Fault)). IfOk r P) (sym same) is
    made_of (Err fault) made same is = subst (λ (r : Result T (ℕ × Fault)). IfOk r P) (sym same) tt

  pub first_done : (P : Type 0) → MatchResult done (λ x. made ≡ Ok x) (λ fault. made ≡ Err (0, fault)) → OnOk done P → OnOk made P
  first_done P same is = done_of done made same is where
    done_of : (done : Result T Fault) (made : Result T (ℕ × Fault)) → MatchResult done (λ x. made ≡ Ok x) (λ fault. made ≡ Err (0, fault)) → OnOk done P → OnOk made P
    done_of (Ok x) made same is = subst (λ (r : Result T (ℕ × Fault)). OnOk r P) (sym same) is
    done_of (Err fault) made same is = subst (λ (r : Result T (ℕ × Fault)). OnOk r P) (sym same) tt

  pub first_refused : (Q : ℕ → Fault → Type 0) → MatchResult done (λ x. made ≡ Ok x) (λ fault. made ≡ Err (0, fault)) → IfErr done (λ fault. Q 0 fault) →
      IfErr made (λ e. Q e.0 e.1)
  first_refused Q same why = why_of done made same why where
    why_of : (done : Result T Fault) (made : Result T (ℕ × Fault)) → MatchResult done (λ x. made ≡ Ok x) (λ fault. made ≡ Err (0, fault)) →
        IfErr done (λ fault. Q 0 fault) → IfErr made (λ e. Q e.0 e.1)
    why_of (Ok x) made same why = subst (λ (r : Result T (ℕ × Fault)). IfErr r (λ e. Q e.0 e.1)) (sym same) tt
    why_of (Err fault) made same why = subst (λ (r : Result T (ℕ × Fault)). IfErr r (λ e. Q e.0 e.1)) (sym same) why

-- ---- the inputs of a task

pub only_first : (d : Bor (List ℕ)) (xs : List (Bor (List ℕ))) → length xs ≡ 1 → map (λ x. x.now) xs ≡ (get_or xs 0 d).now ∷ []
only_first d [] one = cc
only_first d (x ∷ []) one = refl
only_first d (x ∷ y ∷ xs) one = absurd (omega (arith, one))

pub first_and_others : (d : Bor (List ℕ)) (xs : List (Bor (List ℕ))) → 1 ≤ length xs →
    map (λ x. x.now) xs ≡ (get_or xs 0 d).now ∷ map (λ x. x.now) (take (length xs - 1) (drop 1 xs))
first_and_others d [] some = absurd (omega (arith, some))
first_and_others d (x ∷ xs) some = ap (λ (ys : List (Bor (List ℕ))). x.now ∷ map (λ y. y.now) ys) (sym (take_all (length (x ∷ xs) - 1) xs (omega arith)))

pub some_inputs : (making : Making) (count : ℕ) → HasInputs making count → 1 ≤ count
some_inputs Compile count has = omega (arith, has)
some_inputs CompileRaw count has = omega (arith, has)
some_inputs Apply count has = has
some_inputs Build count has = has

-- a task that has so many inputs
abbrev HasTaskInputs : Task → ℕ → Type 0
HasTaskInputs (task.Make making) count = HasInputs making count
HasTaskInputs (task.Report report) count = count ≡ 1
HasTaskInputs (task.Ask path question) count = count ≡ 1

pub task_inputs : (j : Job) (t : Task) (count : ℕ) → IsTaskOf j t → IsAsked j count → HasTaskInputs t count
task_inputs job.Compile t count is asked = subst (λ (t : Task). HasTaskInputs t count) (sym is) asked
task_inputs job.CompileRaw t count is asked = subst (λ (t : Task). HasTaskInputs t count) (sym is) asked
task_inputs job.Apply t count is asked = subst (λ (t : Task). HasTaskInputs t count) (sym is) asked
task_inputs job.Build t count is asked = subst (λ (t : Task). HasTaskInputs t count) (sym is) asked
task_inputs job.Print t count is asked = subst (λ (t : Task). HasTaskInputs t count) (sym is) asked
task_inputs job.Check t count is asked = subst (λ (t : Task). HasTaskInputs t count) (sym is) asked
task_inputs job.Regs t count is asked = subst (λ (t : Task). HasTaskInputs t count) (sym is) asked
task_inputs job.Irqs t count is asked = subst (λ (t : Task). HasTaskInputs t count) (sym is) asked
task_inputs (job.Dma path address size) (task.Ask p question) count is asked = asked
task_inputs (job.Dma path address size) (task.Make making) count is asked = absurd is
task_inputs (job.Dma path address size) (task.Report report) count is asked = absurd is
task_inputs (job.Spec path property kind index) (task.Ask p question) count is asked = asked
task_inputs (job.Spec path property kind index) (task.Make making) count is asked = absurd is
task_inputs (job.Spec path property kind index) (task.Report report) count is asked = absurd is

-- ---- a blob that is made

module _ (text : List ℕ) where
  pub not_compiled : (r : Result (Vec ℕ Global) Fault) → IfErr r (λ e. compile.WhyNoBlob text e) → IfErr r (λ e. IsCompilerFault e.kind) →
      IfErr r (λ e. WhyInput Compile (text ∷ []) 0 e)
  not_compiled (Ok blob) why own = tt
  not_compiled (Err e) why own = (omega arith, (compiler_only e.kind own, blob_unplaced text e why), (refl, why, own))

  pub not_compiled_raw : (r : Result (Vec ℕ Global) Fault) → IfErr r (λ e. WhyNotCompiled raw text e) → IfErr r (λ e. IsCompilerFault e.kind) →
      IfErr r (λ e. WhyInput CompileRaw (text ∷ []) 0 e)
  not_compiled_raw (Ok blob) why own = tt
  not_compiled_raw (Err e) why own = (omega arith, (compiler_only e.kind own, memory_unplaced raw text e why), (refl, why, own))

module _ (first : List ℕ) (others : List (List ℕ)) where
  pub not_applied : (r : Result (Vec ℕ Global) (ℕ × Fault)) → IfErr r (λ e. WhyNoBlobApplied first others e.0 e.1) →
      IfErr r (λ e. WhyInput Apply (first ∷ others) e.0 e.1)
  not_applied (Ok blob) why = tt
  not_applied (Err e) why = (omega (arith, inside first others e.0 e.1 why), blob_not_applied first others e.0 e.1 why, why)

  pub not_built : (r : Result (Vec ℕ Global) (ℕ × Fault)) → IfErr r (λ e. WhyNoBlobBuilt first others e.0 e.1) →
      IfErr r (λ e. WhyInput Build (first ∷ others) e.0 e.1)
  not_built (Ok blob) why = tt
  not_built (Err e) why = (omega (arith, inside first others e.0 e.1 why), text_not_built first others e.0 e.1 why, why)

-- ---- a blob that is shown

module _ (making : Making) (hex : Bool) (inputs : List (List ℕ)) (old new : Taken) where
  -- what is said of a blob that was made, and of one that wasn't
  abbrev Shown : Result (Vec ℕ Global) (ℕ × Fault) → Result (Unit {0}) (ℕ × Fault) → Type 0
  Shown made r = IfOk made
      (λ blob. MatchResult r (λ _. Takes (encoded hex blob.items) old new)
      (λ e. (e.0 ≡ 0) × WhyNotShown e.1.kind e.1.at (encoded hex blob.items) old new))

  abbrev Refused : Result (Vec ℕ Global) (ℕ × Fault) → Result (Unit {0}) (ℕ × Fault) → Type 0
  Refused made r = IfErr made (λ e. (r ≡ Err e) × IsUntouched old new)

  pub blob_written : (made : Result (Vec ℕ Global) (ℕ × Fault)) (r : Result (Unit {0}) (ℕ × Fault)) → IfOk made (λ blob. IsMade making inputs blob.items) →
      Shown made r → Refused made r → OnOk r ((bytes : List ℕ) × IsWrittenBy (task.Make making) hex inputs bytes × Takes bytes old new)
  blob_written (Ok blob) (Ok done) is shown refused = (encoded hex blob.items, (blob.items, is, refl), shown)
  blob_written (Ok blob) (Err e) is shown refused = tt
  blob_written (Err e) r is shown refused =
      subst (λ (r : Result (Unit {0}) (ℕ × Fault)). OnOk r ((bytes : List ℕ) × IsWrittenBy (task.Make making) hex inputs bytes × Takes bytes old new)) (sym refused.0) tt

  not_shown : (k : ℕ) (kind : FaultKind) (at : Option ℕ) (blob : List ℕ) → k ≡ 0 → 0 < length inputs → IsMade making inputs blob →
      WhyNotShown kind at (encoded hex blob) old new → WhyNotDoneBy (task.Make making) k kind at hex inputs old new
  not_shown k NoMemory at blob here some is why = (tt, omega (arith, here, some), why.0, why.1)
  not_shown k WriteFault at blob here some is why = (here, why.0, encoded hex blob, (blob, is, refl), why.1)
  not_shown k _ at blob here some is why = absurd why

  not_made : (k : ℕ) (kind : FaultKind) (at : Option ℕ) → WhyInput making inputs k (record { kind = kind; at = at }) → IsUntouched old new →
      WhyNotDoneBy (task.Make making) k kind at hex inputs old new
  not_made k NoMemory at why same = (tt, why.0, why.1.1 refl, same)
  not_made k WriteFault at why same = absurd why.1.0
  not_made k _ at why same = (why.2, same)

  pub blob_refused : (made : Result (Vec ℕ Global) (ℕ × Fault)) (r : Result (Unit {0}) (ℕ × Fault)) → 0 < length inputs →
      IfOk made (λ blob. IsMade making inputs blob.items) → IfErr made (λ e. WhyInput making inputs e.0 e.1) → Shown made r → Refused made r →
      IfErr r (λ e. WhyNotDoneBy (task.Make making) e.0 e.1.kind e.1.at hex inputs old new)
  blob_refused (Ok blob) (Ok done) some is why shown refused = tt
  blob_refused (Ok blob) (Err e) some is why shown refused = not_shown e.0 e.1.kind e.1.at blob.items shown.0 some is shown.1
  blob_refused (Err e) r some is why shown refused =
      subst (λ (r : Result (Unit {0}) (ℕ × Fault)). IfErr r (λ e. WhyNotDoneBy (task.Make making) e.0 e.1.kind e.1.at hex inputs old new)) (sym refused.0)
      (not_made e.0 e.1.kind e.1.at why refused.1)

-- ---- what is reported of a blob

all_listed : (listing : Listing) (blob bytes : List ℕ) → IsListed listing blob bytes → IsListedFirst listing blob bytes
all_listed listing blob bytes (lines, are, is) = (
  lines,
  record {
    tree = are.tree;
    reads = are.reads;
    within = are.within;
    are = all_are_begun (AreOwn listing are.tree) (AreOwnBegun listing are.tree) (nodes_of are.tree) lines are.are;
  },
  is,
)

-- all that is reported is begun
begins : (report : Report) (blob bytes : List ℕ) → IsReport report blob bytes → IsReportBegun report blob bytes
begins Print blob bytes is = is
begins Check blob bytes is = is
begins Regs blob bytes is = all_listed Regions blob bytes is
begins Irqs blob bytes is = all_listed Routes blob bytes is

module _ (report : Report) (hex : Bool) (blob : List ℕ) (old new : Taken) where
  of_fault : (f : BlobFault) (at : Option ℕ) → IsFirstFault blob f at → IsUntouched old new → WhyNotDoneBy (task.Report report) 0 (kind_of f) at hex (blob ∷ []) old new
  of_fault checks.short_header at first same = ((refl, (checks.short_header, refl, first)), same)
  of_fault f at first same = ((refl, (f, refl, first)), same)

  of_kind : (kind : FaultKind) (at : Option ℕ) → HasBlobFault kind at blob → IsUntouched old new → WhyNotDoneBy (task.Report report) 0 kind at hex (blob ∷ []) old new
  of_kind kind at (f, is, first) same = subst (λ (k : FaultKind). WhyNotDoneBy (task.Report report) 0 k at hex (blob ∷ []) old new) (sym is) (of_fault f at first same)

  pub not_told : (Is : List ℕ → Type 0) (fault : Fault) → ((text : List ℕ) → Is text → IsReport report blob text) → WhyNotTold fault blob Is old new →
      WhyNotDoneBy (task.Report report) 0 fault.kind fault.at hex (blob ∷ []) old new
  not_told Is fault written (no_blob why same) = of_kind fault.kind fault.at why same
  not_told Is fault written (cut text is refused) =
      subst (λ (kind : FaultKind). WhyNotDoneBy (task.Report report) 0 kind fault.at hex (blob ∷ []) old new) (sym refused.kind)
      (refl, refused.nowhere, text, begins report blob text (written text is), refused.cut)

  -- the lines of a blob
  pub not_listed : (listing : Listing) (fault : Fault) → ReportTakesMemory report → ((text : List ℕ) → IsListedFirst listing blob text → IsReportBegun report blob text) →
      WhyNotListed listing blob old new fault → WhyNotDoneBy (task.Report report) 0 fault.kind fault.at hex (blob ∷ []) old new
  not_listed listing fault takes begun (listed.no_blob f kind first same) = of_kind fault.kind fault.at (f, kind, first) same
  not_listed listing fault takes begun (listed.no_memory is same) =
      subst (λ (e : Fault). WhyNotDoneBy (task.Report report) 0 e.kind e.at hex (blob ∷ []) old new) (sym is) (takes, omega arith, refl, same)
  not_listed listing fault takes begun (listed.cut lines are refused) =
      subst (λ (kind : FaultKind). WhyNotDoneBy (task.Report report) 0 kind fault.at hex (blob ∷ []) old new) (sym refused.kind)
      (refl, refused.nowhere, concat lines, begun (concat lines) (lines, are, refl), refused.cut)

pub lines_written : (blob : List ℕ) (old new : Taken) (listing : Listing) (r : Result (Unit {0}) Fault) → OnOk r ((lines : List (List ℕ)) × AreLinesOf listing blob lines × Takes (concat lines) old new) →
    OnOk r ((bytes : List ℕ) × IsListed listing blob bytes × Takes bytes old new)
lines_written blob old new listing (Ok done) (lines, are, taken) = (concat lines, (lines, are, refl), taken)
lines_written blob old new listing (Err e) written = tt

-- ---- what one node answers

module _ (path : Bor (List ℕ)) (question : Question) (hex : Bool) (blob : List ℕ) (old new : Taken) where
  unanswered : (kind : FaultKind) (at : Option ℕ) → asked.WhyUnanswered question blob path.now (record { kind = kind; at = at }) → IsUntouched old new →
      WhyNotDoneBy (task.Ask path question) 0 kind at hex (blob ∷ []) old new
  unanswered NoMemory at why same = (tt, omega arith, (not_answered question blob path.now (record { kind = NoMemory; at = at }) why).1 refl, same)
  unanswered WriteFault at why same = absurd (not_answered question blob path.now (record { kind = WriteFault; at = at }) why).0
  unanswered _ at why same = ((refl, why), same)

  pub not_asked : (fault : Fault) → WhyNotAsked question blob path.now old new fault → WhyNotDoneBy (task.Ask path question) 0 fault.kind fault.at hex (blob ∷ []) old new
  not_asked fault (asked.unanswered why same) = unanswered fault.kind fault.at why same
  not_asked fault (asked.no_memory is same) =
      subst (λ (e : Fault). WhyNotDoneBy (task.Ask path question) 0 e.kind e.at hex (blob ∷ []) old new) (sym is) (tt, omega arith, refl, same)
  not_asked fault (asked.cut line is refused) =
      subst (λ (kind : FaultKind). WhyNotDoneBy (task.Ask path question) 0 kind fault.at hex (blob ∷ []) old new) (sym refused.kind)
      (refl, refused.nowhere, line, is, refused.cut)

pub answered : (j : Job) (path : Bor (List ℕ)) (question : Question) (hex : Bool) (blob : List ℕ) (old new : Taken) → IsTaskOf j (task.Ask path question) → (r : Result (Unit {0}) Fault) →
    OnOk r ((line : List ℕ) × IsAnswer question blob path.now (answer line) × Takes line old new) → OnOk r ((bytes : List ℕ) × IsWritten j hex (blob ∷ []) bytes × Takes bytes old new)
answered j path question hex blob old new of_job (Ok done) (line, is, taken) = (line, (task.Ask path question, of_job, is), taken)
answered j path question hex blob old new of_job (Err e) written = tt
