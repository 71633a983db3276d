-- What a source means, as a tree; an overlay's source with its fragments.
use Rattle.std.specs.Prelude.{◌≡◌, true, false, List, []}
use Rattle.dt_model.specs.Named.{NodeReference, Named, NamedList}
use Rattle.dt_model.specs.NamedOf.{IsNamed, IsNamedOf}
use Rattle.dt_model.specs.NamedOverlay.{NamedFragment, IsNamedOverlayOf}
use Rattle.dt_model.specs.Source.{Mode}
use Rattle.dt_grammar.specs.Grammar.{Says}

-- the source is no overlay's, and means this tree, which is one that a source may mean
pub record HasTree (mode : Mode) (s : Says) (t : Named NodeReference) : Type 0 where
  pub plain : s.plugin ≡ false
  pub means : IsNamedOf mode s.reservations s.places t
  pub named : IsNamed t

-- an overlay's tree as a list, and its fragments
pub record ListedOverlay : Type 0 where
  pub tree : NamedList NodeReference
  pub fragments : List NamedFragment

-- the source is an overlay's, without memory reservations, and means this tree, which is one that a source may mean, with these
-- fragments
pub record HasOverlay (s : Says) (t : Named NodeReference) (fragments : List NamedFragment) : Type 0 where
  pub plugin : s.plugin ≡ true
  pub reservations : s.reservations ≡ []
  pub means : IsNamedOverlayOf s.places t fragments
  pub named : IsNamed t
