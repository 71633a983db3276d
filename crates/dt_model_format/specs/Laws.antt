-- What is true of the faults of bytes that are no blob.
use Rattle.std.specs.Prelude.{◌≡◌, ◌↔◌, ℕ, true, List, Option}
use Rattle.dt_model.specs.Names.{Name, IsNodeName, IsPropertyName, is_node_name, is_property_name}
use Rattle.dt_model.specs.Tree.{Reading}
use Rattle.dt_model.specs.Format.{Reads, IsWithin}
use Rattle.dt_model.specs.Checks.{BlobFault, IsFirstFault}

abbrev pub FirstFaultIsOne : Type 0
FirstFaultIsOne = (bytes : List ℕ) (f g : BlobFault) (at at' : Option ℕ) → IsFirstFault bytes f at → IsFirstFault bytes g at' → (f ≡ g) × (at ≡ at')

abbrev pub BlobHasNoFault : Type 0
BlobHasNoFault = (bytes : List ℕ) (t : Reading) (f : BlobFault) (at : Option ℕ) → Reads bytes t → IsWithin bytes t → IsFirstFault bytes f at → ⊥

pub record NameTests : Type 0 where
  pub nodes : (name : Name) → (is_node_name name ≡ true) ↔ IsNodeName name
  pub properties : (name : Name) → (is_property_name name ≡ true) ↔ IsPropertyName name
