-- What a fragment's node says of its target.
use Rattle.std.proofs.Common.{◌≡◌, ◌∷◌, [], ℕ, List, Option, None, Some, inl, inr, length, refl, sym, ap, ◌∙◌}
use Rattle.std.specs.Prelude.{codes}
use Rattle.dt_model.specs.Names.{Name}
use Rattle.dt_model.specs.Path.{Path, path_value}
use Rattle.dt_model.specs.Tree.{value_in}
use Rattle.dt_overlay_laws.specs.Objects.{HoldsNumber, HasTarget}
use Rattle.dt_overlay_texts.specs.Texts.{IsPathValue}
use Rattle.dt_trees.specs.Placed.{PlacedTree, reading_of, path_at, HasPlacesApart, IsAt}
use Rattle.dt_trees.proofs.NodePlaces.{path_is}

module _ (t : PlacedTree) (apart : HasPlacesApart t) (f : Name) (i : ℕ) (at : IsAt t (f ∷ []) i) where
  -- a value of the node is the fragment's
  pub value_there : (name read : Name) (o : Option (List ℕ)) → read ≡ name → o ≡ value_in (reading_of t) (path_at t i) read → value_in (reading_of t) (f ∷ []) name ≡ o
  value_there name read o same is = sym (is ∙ λ j. value_in (reading_of t) (path_is t apart (f ∷ []) i at j) (same j))

  -- four bytes as `target`
  pub number_target : (value : List ℕ) → value_in (reading_of t) (f ∷ []) (codes "target") ≡ Some value → length value ≡ 4 → HoldsNumber (reading_of t) f
  number_target value is four = (value, is, four)

  -- any other `target` is no target
  pub no_number : (value : List ℕ) → value_in (reading_of t) (f ∷ []) (codes "target") ≡ Some value → ¬ (length value ≡ 4) → ¬ HasTarget (reading_of t) f
  no_number value is other (inl holds) =
      let same : Some value ≡ Some holds.0 = sym is ∙ holds.1 in
      let v : value ≡ holds.0 = cc in
      other (ap length v ∙ holds.2)
  no_number value is other (inr holds) =
      let same : Some value ≡ None = sym is ∙ holds.0 in
      absurd cc

  -- without a `target`, what is no text of a path as `target-path` is none
  pub no_path : (o : Option (List ℕ)) → value_in (reading_of t) (f ∷ []) (codes "target") ≡ None → value_in (reading_of t) (f ∷ []) (codes "target-path") ≡ o
      → ((p : Path) → ¬ ((value : List ℕ) × (o ≡ Some value) × IsPathValue value p)) → ¬ HasTarget (reading_of t) f
  no_path o none is other (inl holds) =
      let same : None ≡ Some holds.0 = sym none ∙ holds.1 in
      absurd cc
  no_path o none is other (inr holds) =
      let (p, value, named) = holds.1 in
      other p (path_value p, sym is ∙ value, record { text = refl; named = named })
