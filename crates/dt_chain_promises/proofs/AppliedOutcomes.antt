-- Applying objects' blobs to a base's blob answers one blob, or refuses for one fault, and not both.
use Rattle.std.proofs.Common.{◌≡◌, ℕ, List, sym, ap, ◌∙◌}
use Rattle.dt_model.specs.Format.{Reads}
use Rattle.dt_model.specs.Tree.{Reading}
use Rattle.dt_model_format.specs.Laws.{FirstFaultIsOne, BlobHasNoFault}
use Rattle.dt_overlay_laws.specs.Outcomes as landing
use Rattle.dt_overlay_laws.specs.Outcomes.{LimitIsExceeded, OneRefusal}
use Rattle.dt_overlay_model.specs.InTurn.{AppliedIsOne}
use Rattle.dt_read.specs.Kinds.{kind_of}
use Rattle.dt_chain_promises.specs.Apply.{IsRead, IsNoBlob}
use Rattle.dt_chain_promises.specs.Laws.{OneBlobApplied, AppliedIsNotRefused, OneRefusalToApply}
use Rattle.dt_chain_promises.proofs.ChainOutcomes as chain
use Rattle.dt_chain_promises.proofs.ChainOutcomes.{HasOne, HasFine, HasOrLacks, LacksOnce}

-- bytes are a blob of one tree
abbrev pub OneReading : Type 0
OneReading = (bytes : List ℕ) (t u : Reading) → Reads bytes t → Reads bytes u → t ≡ u

pub read_once : OneReading → HasOne IsRead
read_once one bytes t u h k = one bytes t u h.reads k.reads

pub read_fine : HasFine IsRead
read_fine bytes t h = record { valid = h.reads.valid; within = h.within.tree }

pub read_has_no_fault : BlobHasNoFault → HasOrLacks IsRead IsNoBlob
read_has_no_fault none bytes t e h k = absurd (none bytes t k.fault e.at h.reads h.within k.first)

pub fault_once : FirstFaultIsOne → LacksOnce IsNoBlob
fault_once one bytes e f h k wanted wanted' =
    let same = one bytes h.fault k.fault e.at f.at h.first k.first in
    let kind : e.kind ≡ f.kind = h.kind ∙ ap kind_of same.0 ∙ sym k.kind in
    λ i. record { kind = kind i; at = same.1 i }

module _ (one : OneReading) (applied : AppliedIsOne) where
  pub blob_once : OneBlobApplied
  blob_once = chain.blob_once IsRead IsRead (read_once one) (read_once one) applied

  module _ (none : BlobHasNoFault) (not : landing.AppliedIsNotRefused) (limit : LimitIsExceeded) where
    pub blob_not_refused : AppliedIsNotRefused
    blob_not_refused =
        chain.blob_not_refused IsRead IsRead IsNoBlob IsNoBlob (read_once one) (read_once one) applied read_fine read_fine
        (read_has_no_fault none) (read_has_no_fault none) not limit

    pub refused_once : FirstFaultIsOne → OneRefusal → OneRefusalToApply
    refused_once first refusal =
        chain.refused_once IsRead IsRead IsNoBlob IsNoBlob (read_once one) (read_once one) applied read_fine read_fine
        (read_has_no_fault none) (read_has_no_fault none) not limit (fault_once first) (fault_once first) refusal
