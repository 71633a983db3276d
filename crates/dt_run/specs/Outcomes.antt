-- What makes a task have one outcome.
use Rattle.std.specs.Prelude.{◌≡◌, ℕ, List, Option}
use Rattle.dt_model.specs.Checks.{BlobFault, IsFirstFault}
use Rattle.dt_names.specs.declared.fault.Fault.{Fault}
use Rattle.dt_names.specs.declared.fault.FaultKind.{FaultKind}
use Rattle.dt_chain_promises.specs.Laws as chain
use Rattle.dt_resolve_model.specs.Answers.{Answer, answer}
use Rattle.dt_resolve_model.specs.declared.questions.Question.{Question}
use Rattle.dt_resolve_lines.specs.Asked.{IsAnswer, WhyUnanswered}
use Rattle.dt_resolve_lines.specs.Listed.{AreLinesOf}
use Rattle.dt_resolve_lines.specs.declared.listing.Listing.{Listing}
use Rattle.dt_run_streams.specs.Told.{HasBlobFault, IsCounted, IsPrinted}

-- what is known of compiling, applying and building
pub record MakesOne : Type 0 where
  pub blob : chain.OneBlob
  pub raw_blob : chain.OneRawBlob
  pub applied : chain.OneBlobApplied
  pub built : chain.OneBlobBuilt
  pub only : chain.CompiledIsNotRefused
  pub raw_only : chain.RawIsNotRefused
  pub applied_only : chain.AppliedIsNotRefused
  pub built_only : chain.BuiltIsNotRefused
  pub refusal : chain.OneRefusal
  pub raw_refusal : chain.OneRawRefusal
  pub not_applied : chain.OneRefusalToApply
  pub not_built : chain.OneRefusalToBuild

-- what is known of reports and answers
pub record ReportsOne : Type 0 where
  pub text : (bytes text other : List ℕ) → IsPrinted bytes text → IsPrinted bytes other → text ≡ other
  pub line : (bytes line other : List ℕ) → IsCounted bytes line → IsCounted bytes other → line ≡ other
  pub printed : (bytes text : List ℕ) (kind : FaultKind) (at : Option ℕ) → IsPrinted bytes text → HasBlobFault kind at bytes → ⊥
  pub counted : (bytes line : List ℕ) (kind : FaultKind) (at : Option ℕ) → IsCounted bytes line → HasBlobFault kind at bytes → ⊥
  pub fault : (bytes : List ℕ) (kind other : FaultKind) (at place : Option ℕ) → HasBlobFault kind at bytes → HasBlobFault other place bytes
      → (kind ≡ other) × (at ≡ place)
  pub lines : (listing : Listing) (bytes : List ℕ) (lines others : List (List ℕ)) → AreLinesOf listing bytes lines
      → AreLinesOf listing bytes others → lines ≡ others
  pub listed : (listing : Listing) (bytes : List ℕ) (lines : List (List ℕ)) (f : BlobFault) (at : Option ℕ) → AreLinesOf listing bytes lines
      → IsFirstFault bytes f at → ⊥
  pub told : (question : Question) (bytes text : List ℕ) (a b : Answer (List ℕ)) → IsAnswer question bytes text a → IsAnswer question bytes text b → a ≡ b
  pub answered : (question : Question) (bytes text line : List ℕ) (fault : Fault) → IsAnswer question bytes text (answer line)
      → WhyUnanswered question bytes text fault → ⊥
  pub unanswered : (question : Question) (bytes text : List ℕ) (fault other : Fault) → WhyUnanswered question bytes text fault
      → WhyUnanswered question bytes text other → fault ≡ other
