-- A task has one outcome.
use Rattle.std.proofs.Common.{◌≡◌, ◌≢◌, ℕ, List, ◌∷◌, [], Bool, Option, refl, sym, subst, ap, ◌∙◌}
use Rattle.std.specs.List.{concat}
use Rattle.dt_model.specs.Path.{Path}
use Rattle.dt_names.specs.declared.fault.Fault.{Fault}
use Rattle.dt_names.specs.declared.fault.FaultKind.{FaultKind}
use Rattle.dt_names.specs.declared.fault.FaultKind.TheVariants.{NoMemory}
use Rattle.dt_resolve_model.specs.Answers.{Answer, answer}
use Rattle.dt_resolve_model.specs.World.{World}
use Rattle.dt_resolve_model.specs.declared.questions.Question.{Question}
use Rattle.dt_resolve_model.specs.declared.questions.Question.TheVariants as ask
use Rattle.dt_resolve_lines.specs.Asked as asked
use Rattle.dt_resolve_lines.specs.Asked.{IsAnswer, WhyUnanswered, answer_words, specifier_words}
use Rattle.dt_resolve_lines.specs.Listed.{AreLinesOf}
use Rattle.dt_resolve_lines.specs.declared.listing.Listing.{Listing}
use Rattle.dt_resolve_lines.specs.declared.listing.Listing.TheVariants.{Regions, Routes}
use Rattle.dt_run_streams.specs.Told.{HasBlobFault}
use Rattle.dt_run.specs.Outcomes.{MakesOne, ReportsOne}
use Rattle.dt_run.specs.Task.{IsMade, IsOfSpecifier, IsReport, IsTaskOf, IsWrittenBy, OfFirst, OfOne, WhyNotMade, WhyRefusedBy, encoded}
use Rattle.dt_run.specs.declared.task.Making.{Making}
use Rattle.dt_run.specs.declared.task.Making.TheVariants.{Compile, CompileRaw, Apply, Build}
use Rattle.dt_run.specs.declared.task.Report.{Report}
use Rattle.dt_run.specs.declared.task.Report.TheVariants.{Print, Check, Regs, Irqs}
use Rattle.dt_run.specs.declared.task.Task.{Task}
use Rattle.dt_run.specs.declared.task.Task.TheVariants as task
use Rattle.dt_run_words.specs.declared.command_line.Job.{Job}
use Rattle.dt_run_words.specs.declared.command_line.Job.TheVariants as job

-- ---- two tasks of one job

-- questions that have the same words are answered alike
module _ (q r : Question) (bytes text : List ℕ) (same : (w : World) (p : Path) → answer_words q w p ≡ answer_words r w p) where
  answered_as : (told : Answer (List ℕ)) → IsAnswer q bytes text told → IsAnswer r bytes text told
  answered_as told is = record {
    tree = is.tree;
    reads = is.reads;
    within = is.within;
    path = is.path;
    written = is.written;
    stands = is.stands;
    is = sym (same _ _) ∙ is.is;
  }

  unanswered_as : (e : Fault) → WhyUnanswered q bytes text e → WhyUnanswered r bytes text e
  unanswered_as e (asked.no_blob f kind first) = asked.no_blob f kind first
  unanswered_as e (asked.no_node t reads within why at) = asked.no_node t reads within why at
  unanswered_as e (asked.no_answer is) = asked.no_answer (answered_as _ is)

words_of : (property kind : List ℕ) (index : ℕ) (q : Question) → IsOfSpecifier property kind index q → (w : World) (p : Path) → answer_words q w p ≡ specifier_words w p property kind index
words_of property kind index (ask.Dma address size) is w p = absurd is
words_of property kind index (ask.Specifier o k i) is w p = rw (is.0, is.1, is.2) refl

same_words : (property kind : List ℕ) (index : ℕ) (q r : Question) → IsOfSpecifier property kind index q → IsOfSpecifier property kind index r → (w : World) (p : Path) →
    answer_words q w p ≡ answer_words r w p
same_words property kind index q r is also w p = words_of property kind index q is w p ∙ sym (words_of property kind index r also w p)

one_more : {P Q : List ℕ → Type 0} → ((x : List ℕ) → P x → Q x) → (inputs : List (List ℕ)) → OfOne P inputs → OfOne Q inputs
one_more f [] is = absurd is
one_more f (x ∷ []) is = f x is
one_more f (x ∷ y ∷ xs) is = absurd is

module _ (hex : Bool) (inputs : List (List ℕ)) (bytes : List ℕ) where
  pub written_as : (j : Job) (t u : Task) → IsTaskOf j t → IsTaskOf j u → IsWrittenBy t hex inputs bytes → IsWrittenBy u hex inputs bytes
  written_as job.Compile t u is also w = subst (λ (t : Task). IsWrittenBy t hex inputs bytes) (is ∙ sym also) w
  written_as job.CompileRaw t u is also w = subst (λ (t : Task). IsWrittenBy t hex inputs bytes) (is ∙ sym also) w
  written_as job.Apply t u is also w = subst (λ (t : Task). IsWrittenBy t hex inputs bytes) (is ∙ sym also) w
  written_as job.Build t u is also w = subst (λ (t : Task). IsWrittenBy t hex inputs bytes) (is ∙ sym also) w
  written_as job.Print t u is also w = subst (λ (t : Task). IsWrittenBy t hex inputs bytes) (is ∙ sym also) w
  written_as job.Check t u is also w = subst (λ (t : Task). IsWrittenBy t hex inputs bytes) (is ∙ sym also) w
  written_as job.Regs t u is also w = subst (λ (t : Task). IsWrittenBy t hex inputs bytes) (is ∙ sym also) w
  written_as job.Irqs t u is also w = subst (λ (t : Task). IsWrittenBy t hex inputs bytes) (is ∙ sym also) w
  written_as (job.Dma path address size) (task.Ask p q) (task.Ask o r) is also w =
      one_more (λ blob told. subst (λ (q : Question). IsAnswer q blob o.now (answer bytes)) (is.1 ∙ sym also.1) (subst (λ (text : List ℕ). IsAnswer q blob text (answer bytes)) (is.0 ∙ sym also.0) told)) inputs w
  written_as (job.Dma path address size) (task.Make m) u is also w = absurd is
  written_as (job.Dma path address size) (task.Report m) u is also w = absurd is
  written_as (job.Dma path address size) (task.Ask p q) (task.Make m) is also w = absurd also
  written_as (job.Dma path address size) (task.Ask p q) (task.Report m) is also w = absurd also
  written_as (job.Spec path property kind index) (task.Ask p q) (task.Ask o r) is also w =
      one_more (λ blob told. answered_as q r blob o.now (same_words property.now kind.now index q r is.1 also.1) (answer bytes) (subst (λ (text : List ℕ). IsAnswer q blob text (answer bytes)) (is.0 ∙ sym also.0) told)) inputs w
  written_as (job.Spec path property kind index) (task.Make m) u is also w = absurd is
  written_as (job.Spec path property kind index) (task.Report m) u is also w = absurd is
  written_as (job.Spec path property kind index) (task.Ask p q) (task.Make m) is also w = absurd also
  written_as (job.Spec path property kind index) (task.Ask p q) (task.Report m) is also w = absurd also

module _ (k : ℕ) (e : Fault) (inputs : List (List ℕ)) where
  pub refused_as : (j : Job) (t u : Task) → IsTaskOf j t → IsTaskOf j u → WhyRefusedBy t k e inputs → WhyRefusedBy u k e inputs
  refused_as job.Compile t u is also w = subst (λ (t : Task). WhyRefusedBy t k e inputs) (is ∙ sym also) w
  refused_as job.CompileRaw t u is also w = subst (λ (t : Task). WhyRefusedBy t k e inputs) (is ∙ sym also) w
  refused_as job.Apply t u is also w = subst (λ (t : Task). WhyRefusedBy t k e inputs) (is ∙ sym also) w
  refused_as job.Build t u is also w = subst (λ (t : Task). WhyRefusedBy t k e inputs) (is ∙ sym also) w
  refused_as job.Print t u is also w = subst (λ (t : Task). WhyRefusedBy t k e inputs) (is ∙ sym also) w
  refused_as job.Check t u is also w = subst (λ (t : Task). WhyRefusedBy t k e inputs) (is ∙ sym also) w
  refused_as job.Regs t u is also w = subst (λ (t : Task). WhyRefusedBy t k e inputs) (is ∙ sym also) w
  refused_as job.Irqs t u is also w = subst (λ (t : Task). WhyRefusedBy t k e inputs) (is ∙ sym also) w
  refused_as (job.Dma path address size) (task.Ask p q) (task.Ask o r) is also w =
      one_more (λ blob why. (why.0, subst (λ (q : Question). WhyUnanswered q blob o.now e) (is.1 ∙ sym also.1) (subst (λ (text : List ℕ). WhyUnanswered q blob text e) (is.0 ∙ sym also.0) why.1))) inputs w
  refused_as (job.Dma path address size) (task.Make m) u is also w = absurd is
  refused_as (job.Dma path address size) (task.Report m) u is also w = absurd is
  refused_as (job.Dma path address size) (task.Ask p q) (task.Make m) is also w = absurd also
  refused_as (job.Dma path address size) (task.Ask p q) (task.Report m) is also w = absurd also
  refused_as (job.Spec path property kind index) (task.Ask p q) (task.Ask o r) is also w =
      one_more (λ blob why. (why.0, unanswered_as q r blob o.now (same_words property.now kind.now index q r is.1 also.1) e (subst (λ (text : List ℕ). WhyUnanswered q blob text e) (is.0 ∙ sym also.0) why.1))) inputs w
  refused_as (job.Spec path property kind index) (task.Make m) u is also w = absurd is
  refused_as (job.Spec path property kind index) (task.Report m) u is also w = absurd is
  refused_as (job.Spec path property kind index) (task.Ask p q) (task.Make m) is also w = absurd also
  refused_as (job.Spec path property kind index) (task.Ask p q) (task.Report m) is also w = absurd also

-- ---- the inputs

of_one : {P Q : List ℕ → Type 0} {R : Type 0} → ((x : List ℕ) → P x → Q x → R) → (inputs : List (List ℕ)) → OfOne P inputs → OfOne Q inputs → R
of_one f [] p q = absurd p
of_one f (x ∷ []) p q = f x p q
of_one f (x ∷ y ∷ xs) p q = absurd p

of_first : {P Q : List ℕ → List (List ℕ) → Type 0} {R : Type 0} → ((x : List ℕ) (xs : List (List ℕ)) → P x xs → Q x xs → R) → (inputs : List (List ℕ)) → OfFirst P inputs → OfFirst Q inputs → R
of_first f [] p q = absurd p
of_first f (x ∷ xs) p q = f x xs p q

-- ---- a blob that is made

module _ (one : MakesOne) where
  one_made : (m : Making) (inputs : List (List ℕ)) (a b : List ℕ) → IsMade m inputs a → IsMade m inputs b → a ≡ b
  one_made Compile inputs a b is also = of_one (λ x. one.blob x a b) inputs is also
  one_made CompileRaw inputs a b is also = of_one (λ x. one.raw_blob x a b) inputs is also
  one_made Apply inputs a b is also = of_first (λ x xs. one.applied x xs a b) inputs is also
  one_made Build inputs a b is also = of_first (λ x xs. one.built x xs a b) inputs is also

  made_only : (m : Making) (inputs : List (List ℕ)) (blob : List ℕ) (k : ℕ) (e : Fault) → IsMade m inputs blob → WhyNotMade m k e inputs → e.kind ≡ NoMemory
  made_only Compile inputs blob k e is why = of_one (λ x made no. one.only x blob e made no.1) inputs is why
  made_only CompileRaw inputs blob k e is why = of_one (λ x made no. one.raw_only x blob e made no.1) inputs is why
  made_only Apply inputs blob k e is why = of_first (λ x xs. one.applied_only x xs blob k e) inputs is why
  made_only Build inputs blob k e is why = of_first (λ x xs. one.built_only x xs blob k e) inputs is why

  one_refusal_made : (m : Making) (inputs : List (List ℕ)) (k j : ℕ) (e f : Fault) → e.kind ≢ NoMemory → f.kind ≢ NoMemory → WhyNotMade m k e inputs → WhyNotMade m j f inputs →
      (k ≡ j) × (e ≡ f)
  one_refusal_made Compile inputs k j e f w v why also = of_one (λ x a b. (a.0 ∙ sym b.0, one.refusal x e f a.1 b.1 w v)) inputs why also
  one_refusal_made CompileRaw inputs k j e f w v why also = of_one (λ x a b. (a.0 ∙ sym b.0, one.raw_refusal x e f a.1 b.1 w v)) inputs why also
  one_refusal_made Apply inputs k j e f w v why also = of_first (λ x xs a b. one.not_applied x xs k j e f a b w v) inputs why also
  one_refusal_made Build inputs k j e f w v why also = of_first (λ x xs a b. one.not_built x xs k j e f a b w v) inputs why also

-- ---- what is reported of a blob, and what one node answers

abbrev fault_of : FaultKind → Option ℕ → Fault
fault_of kind at = record { kind = kind; at = at }

same_fault : (kind other : FaultKind) (at place : Option ℕ) → kind ≡ other → at ≡ place → fault_of kind at ≡ fault_of other place
same_fault kind other at place same here = cc

module _ (one : ReportsOne) where
  one_listed : (listing : Listing) (blob : List ℕ) (a b : List ℕ) (lines others : List (List ℕ)) → AreLinesOf listing blob lines → AreLinesOf listing blob others → a ≡ concat lines → b ≡ concat others → a ≡ b
  one_listed listing blob a b lines others are also is it = is ∙ ap concat (one.lines listing blob lines others are also) ∙ sym it

  one_reported : (r : Report) (blob a b : List ℕ) → IsReport r blob a → IsReport r blob b → a ≡ b
  one_reported Print blob a b is also = one.text blob a b is also
  one_reported Check blob a b is also = one.line blob a b is also
  one_reported Regs blob a b (lines, are, is) (others, also, it) = one_listed Regions blob a b lines others are also is it
  one_reported Irqs blob a b (lines, are, is) (others, also, it) = one_listed Routes blob a b lines others are also is it

  reported_only : (r : Report) (blob bytes : List ℕ) (kind : FaultKind) (at : Option ℕ) → IsReport r blob bytes → HasBlobFault kind at blob → ⊥
  reported_only Print blob bytes kind at is why = one.printed blob bytes kind at is why
  reported_only Check blob bytes kind at is why = one.counted blob bytes kind at is why
  reported_only Regs blob bytes kind at (lines, are, is) (f, same, first) = one.listed Regions blob lines f at are first
  reported_only Irqs blob bytes kind at (lines, are, is) (f, same, first) = one.listed Routes blob lines f at are first

  one_line : (q : Question) (blob text a b : List ℕ) → IsAnswer q blob text (answer a) → IsAnswer q blob text (answer b) → a ≡ b
  one_line q blob text a b is also = let same : answer a ≡ answer b = one.told q blob text (answer a) (answer b) is also in cc

-- ---- a task

module _ (makes : MakesOne) (reports : ReportsOne) where
  pub one_written : (t : Task) (hex : Bool) (inputs : List (List ℕ)) (a b : List ℕ) → IsWrittenBy t hex inputs a → IsWrittenBy t hex inputs b → a ≡ b
  one_written (task.Make m) hex inputs a b (blob, made, is) (other, also, it) = is ∙ ap (encoded hex) (one_made makes m inputs blob other made also) ∙ sym it
  one_written (task.Report r) hex inputs a b is also = of_one (λ blob. one_reported reports r blob a b) inputs is also
  one_written (task.Ask p q) hex inputs a b is also = of_one (λ blob. one_line reports q blob p.now a b) inputs is also

  pub written_only : (t : Task) (hex : Bool) (inputs : List (List ℕ)) (bytes : List ℕ) (k : ℕ) (e : Fault) → IsWrittenBy t hex inputs bytes → WhyRefusedBy t k e inputs → e.kind ≡ NoMemory
  written_only (task.Make m) hex inputs bytes k e (blob, made, is) why = made_only makes m inputs blob k e made why
  written_only (task.Report r) hex inputs bytes k e is why = of_one (λ blob told no. absurd (reported_only reports r blob bytes e.kind e.at told no.1)) inputs is why
  written_only (task.Ask p q) hex inputs bytes k e is why = of_one (λ blob told no. absurd (reports.answered q blob p.now bytes e told no.1)) inputs is why

  pub one_refused : (t : Task) (inputs : List (List ℕ)) (k j : ℕ) (e f : Fault) → WhyRefusedBy t k e inputs → WhyRefusedBy t j f inputs → e.kind ≢ NoMemory → f.kind ≢ NoMemory →
      (k ≡ j) × (e ≡ f)
  one_refused (task.Make m) inputs k j e f why also w v = one_refusal_made makes m inputs k j e f w v why also
  one_refused (task.Report r) inputs k j e f why also w v =
      of_one (λ blob a b. (a.0 ∙ sym b.0, let same = reports.fault blob e.kind f.kind e.at f.at a.1 b.1 in same_fault e.kind f.kind e.at f.at same.0 same.1)) inputs why also
  one_refused (task.Ask p q) inputs k j e f why also w v = of_one (λ blob a b. (a.0 ∙ sym b.0, reports.unanswered q blob p.now e f a.1 b.1)) inputs why also
