-- What a base, an object and the numbers of an application give.
use Rattle.std.proofs.Common.{◌≡◌, ◌↔◌, ℕ, List, ◌∷◌, [], codes, subst}
use Rattle.std.specs.Prelude.{IsSome}
use Rattle.dt_model.specs.Names.{Name}
use Rattle.dt_model.specs.Path.{Path}
use Rattle.dt_model.specs.Lists.{IsIn}
use Rattle.dt_model.specs.Meaning.{Meaning}
use Rattle.dt_model.specs.Overlay.{outside, Overlay}
use Rattle.dt_model.specs.Merged.{Site, IsGiven, IsDefined}
use Rattle.dt_model.specs.Object.{Cell, IsCellOf, HasFixups, properties_of}
use Rattle.dt_model.specs.Tree.{Reading, node_at}
use Rattle.dt_model_laws.specs.Applying.{AreOf}
use Rattle.dt_model_laws.proofs.CellTexts.{one_fixups}
use Rattle.dt_model.proofs.Inside.{each_at}

module _ (base object : Reading) (m : Meaning) (o : Overlay) (number local : Path → ℕ) where
  -- any list of an object's fixups is the list of the cells that wait for labels
  pub exact : (fixups : List (Name × Cell)) → AreOf base object m o number local → HasFixups object fixups → (l : Name) (c : Cell) → IsIn (l, c) fixups ↔ IsCellOf o c (outside l)
  exact fixups are has l c =
      let same : are.encoded.fixups ≡ fixups = one_fixups (properties_of (node_at object (codes "__fixups__" ∷ []))) are.encoded.fixups fixups are.encoded.fixups_listed has in
      subst (λ z. IsIn (l, c) z ↔ IsCellOf o c (outside l)) same (are.encoded.fixups_exact l c)

  -- the labels that cells wait for are the base's, where the overlay is defined
  pub given_each : (fixups : List (Name × Cell)) (sites : List Site) → AreOf base object m o number local → HasFixups object fixups → IsDefined m o sites → (l : Name) (c : Cell) → IsIn (l, c) fixups → IsSome (m.label l)
  given_each fixups sites are has defined l c i =
      let w = (exact fixups are has l c).0 i in
      each_at (IsGiven m) 0 w.0 c.offset (outside l) (defined.given c.path c.property w.0 w.1) w.2
