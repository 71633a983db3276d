-- What `decompile` answers.
use Rattle.std.specs.Prelude.{◌≡◌, ◌⊎◌, ℕ, List}
use Rattle.dt_model.specs.Printed.{printed}
use Rattle.dt_model.specs.Tree.{Reading}
use Rattle.dt_names.specs.Fault.{placeless}
use Rattle.dt_names.specs.declared.fault.Fault.{Fault}
use Rattle.dt_names.specs.declared.fault.FaultKind.TheVariants.{NoMemory}
use Rattle.dt_chain_promises.specs.Apply.{IsRead, IsNoBlob}

-- the bytes are a blob within the limits, and the text is that of its tree
pub record IsDecompiled (bytes text : List ℕ) : Type 0 where
  pub tree : Reading
  pub read : IsRead bytes tree
  pub is : text ≡ printed tree

-- there is none: memory may be refused at any time, or the bytes are no blob
abbrev pub WhyNotDecompiled : List ℕ → Fault → Type 0
WhyNotDecompiled bytes e = (e ≡ placeless NoMemory) ⊎ IsNoBlob bytes e
