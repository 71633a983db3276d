-- What `build` answers: the inputs are texts, a base's and overlays'.
use Rattle.std.specs.Prelude.{◌⊎◌, ℕ, ◌≤◌, List, length}
use Rattle.dt_model.specs.Limits.{most_bytes}
use Rattle.dt_model.specs.Source.{base}
use Rattle.dt_model.specs.Tree.{Reading}
use Rattle.dt_model.specs.Valid.{IsValid, IsWithinLimits}
use Rattle.dt_names.specs.declared.fault.Fault.{Fault}
use Rattle.dt_grammar.specs.Parsed.{WhyNotParsed}
use Rattle.dt_write.specs.Written.{written}
use Rattle.dt_chain_promises.specs.Apply.{IsBlobOfAll, WhyNoneOfAll}
use Rattle.dt_chain_promises.specs.Compile.{TextHasTree, OverlayTextHasTree, WhyNoTree, WhyNotCompiledOverlay}

-- a base's text is compiled to this tree
pub record HasBaseTree (text : List ℕ) (t : Reading) : Type 0 where
  pub of_text : TextHasTree base text t
  pub valid : IsValid t
  pub within : IsWithinLimits t

-- an overlay's text is compiled to the blob of this object
pub record HasObject (text : List ℕ) (t : Reading) : Type 0 where
  pub of_text : OverlayTextHasTree text t
  pub valid : IsValid t
  pub within : IsWithinLimits t
  pub size : length (written t) ≤ most_bytes

-- it isn't: it is no source, or is not compiled as an overlay's
abbrev pub WhyNoObject : List ℕ → Fault → Type 0
WhyNoObject text e = WhyNotParsed text e ⊎ WhyNotCompiledOverlay text e

-- the blob is that of the base with the overlays applied
abbrev pub IsBlobBuilt : (base : List ℕ) (overlays : List (List ℕ)) (blob : List ℕ) → Type 0
IsBlobBuilt = IsBlobOfAll HasBaseTree HasObject

-- why there is none
abbrev pub WhyNoBlobBuilt : (base : List ℕ) (overlays : List (List ℕ)) → ℕ → Fault → Type 0
WhyNoBlobBuilt = WhyNoneOfAll HasBaseTree HasObject (WhyNoTree base) WhyNoObject
