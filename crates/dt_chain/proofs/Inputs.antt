-- Why there is nothing that comes of all inputs.
use Rattle.std.proofs.Common.{◌≡◌, ◌⊎◌, ℕ, List, None, inl, inr, length, subst, sym, arith}
use Rattle.dt_names.specs.declared.fault.Fault.{Fault}
use Rattle.dt_names.specs.declared.fault.FaultKind.{FaultKind}
use Rattle.dt_names.specs.declared.fault.FaultKind.TheVariants.{NoMemory, Limit}
use Rattle.dt_model.specs.Tree.{Reading}
use Rattle.dt_write.specs.Written.{written}
use Rattle.dt_write.specs.Refusals.{WhyNoBytes}
use Rattle.dt_names.specs.Fault.{placeless}
use Rattle.dt_chain_promises.specs.Apply.{IsOutcome, WhyNoneOfAll, no_memory, no_base, big}
use Rattle.dt_chain.proofs.Stages.{fault_is}

module _ (has_base has_object : List ℕ → Reading → Type 0) (lacks_base lacks_object : List ℕ → Fault → Type 0) where
  unwritten : (base : List ℕ) (inputs : List (List ℕ)) (t : Reading) (kind : FaultKind) → IsOutcome has_base has_object base inputs t → WhyNoBytes kind (length (written t))
      → WhyNoneOfAll has_base has_object lacks_base lacks_object base inputs (length inputs) (placeless kind)
  unwritten base inputs t NoMemory o why = no_memory (length inputs) (omega arith)
  unwritten base inputs t Limit o why = big t o why
  unwritten base inputs t _ o why = absurd why

  -- a base that has no tree
  pub base_refused : (base : List ℕ) (inputs : List (List ℕ)) (fault : Fault) → (fault ≡ placeless NoMemory) ⊎ lacks_base base fault
      → WhyNoneOfAll has_base has_object lacks_base lacks_object base inputs 0 fault
  base_refused base inputs fault (inl e) = subst (WhyNoneOfAll has_base has_object lacks_base lacks_object base inputs 0) (sym e) (no_memory 0 (omega arith))
  base_refused base inputs fault (inr why) = no_base fault why

  -- the blob of what comes of all isn't written
  pub not_written : (base : List ℕ) (inputs : List (List ℕ)) (t : Reading) (k : ℕ) (fault : Fault) → IsOutcome has_base has_object base inputs t → length inputs ≡ k
      → WhyNoBytes fault.kind (length (written t)) × (fault.at ≡ None) → WhyNoneOfAll has_base has_object lacks_base lacks_object base inputs k fault
  not_written base inputs t k fault o last why =
      subst (λ (n : ℕ). WhyNoneOfAll has_base has_object lacks_base lacks_object base inputs n fault) last
      (subst (WhyNoneOfAll has_base has_object lacks_base lacks_object base inputs (length inputs)) (fault_is fault None why.1) (unwritten base inputs t fault.kind o why.0))
