-- What is printed of a blob, and why it isn't.
use Rattle.std.specs.Prelude.{◌≡◌, ◌++◌, ◌∷◌, [], ℕ, List, Option, length, codes, decimal}
use Rattle.std.specs.List.{sum_by}
use Rattle.dt_model.specs.Checks.{BlobFault, IsFirstFault}
use Rattle.dt_model.specs.Format.{Reads, IsWithin}
use Rattle.dt_model.specs.Printed.{printed}
use Rattle.dt_model.specs.Tree.{Reading, nodes_of}
use Rattle.dt_names.specs.Sink.{Taken, IsUntouched, IsRefused}
use Rattle.dt_names.specs.declared.fault.Fault.{Fault}
use Rattle.dt_names.specs.declared.fault.FaultKind.{FaultKind}
use Rattle.dt_read.specs.Kinds.{kind_of}
use Rattle.dt_read.specs.declared.counts.Counts.{Counts}

-- the source of a blob's tree
pub record IsPrinted (blob text : List ℕ) : Type 0 where
  pub tree : Reading
  pub reads : Reads blob tree
  pub within : IsWithin blob tree
  pub is : text ≡ printed tree

-- `ok nodes N properties P reservations R`, and a line feed
abbrev pub counts_line : Reading → List ℕ
counts_line t =
    codes "ok nodes " ++ decimal (length (nodes_of t)) ++ codes " properties "
    ++ decimal (sum_by (λ n. length n.properties) (nodes_of t)) ++ codes " reservations " ++ decimal (length t.reservations) ++ 10 ∷ []

-- the line of a blob's tree
pub record IsCounted (blob bytes : List ℕ) : Type 0 where
  pub tree : Reading
  pub reads : Reads blob tree
  pub within : IsWithin blob tree
  pub line : bytes ≡ counts_line tree

-- the line of these counts
abbrev pub line_of : Counts → List ℕ
line_of c =
    codes "ok nodes " ++ decimal c.nodes ++ codes " properties " ++ decimal c.properties ++ codes " reservations "
    ++ decimal c.reservations ++ 10 ∷ []

-- the fault is the first one of bytes that are no blob
abbrev pub HasBlobFault : FaultKind → Option ℕ → List ℕ → Type 0
HasBlobFault kind at bytes = (f : BlobFault) × (kind ≡ kind_of f) × IsFirstFault bytes f at

-- The bytes are no blob, and nothing was written; or the sink failed, and took a front of that text.
pub data WhyNotTold (fault : Fault) (bytes : List ℕ) (Is : List ℕ → Type 0) (old new : Taken) : Type 0 where
  no_blob : HasBlobFault fault.kind fault.at bytes → IsUntouched old new → WhyNotTold fault bytes Is old new
  cut : (text : List ℕ) → Is text → IsRefused fault text old new → WhyNotTold fault bytes Is old new
