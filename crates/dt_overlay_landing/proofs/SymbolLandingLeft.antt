-- What is left to set of the labels, as one after another is.
use Rattle.std.proofs.Common.{◌≡◌, true, List, [], ◌∷◌, codes, length, refl, sym, subst, ◌∙◌, ◌⊎◌, inl, inr, arith}
use Rattle.dt_model.specs.Changes.{with_child_at, with_property_at}
use Rattle.dt_model.specs.Path.{Path, path_value}
use Rattle.dt_model.specs.Tree.{Property, Reading, stands_in}
use Rattle.dt_model.specs.Applied.{with_symbols_merged}
use Rattle.dt_trees.specs.Placed.{PlacedTree}
use Rattle.dt_overlay_laws.specs.Steps.{land_properties, FullAtProperties, FullAtSymbols}
use Rattle.dt_overlay_laws.proofs.LandedNodes.{symbols_are_merged}
use Rattle.dt_overlay_laws.proofs.SingleChanges.{child_stands, property_kept}
use Rattle.dt_overlay_object.specs.declared.brought.Brought.{Brought}
use Rattle.dt_overlay_object.specs.declared.kept.Symbol.{Symbol}
use Rattle.dt_overlay_landing.specs.SymbolLanding.{LandsAt, LandsAs, AreLanding}

abbrev symbols_path : Path
symbols_path = codes "__symbols__" ∷ []

module _ (full : Reading → Reading → Type 0) (o : PlacedTree) (b : Brought) (sites : List Path) where
  -- What is left of the labels does to the tree so far what all of them do to the first one; where there is no room for one of them, there is
  -- none for the whole.
  pub record LabelsLeft (left : List Symbol) (t whole : Reading) (crowded : Type 0) : Type 0 where
    pub properties : List Property
    pub landing : AreLanding o b sites left properties
    pub lands : land_properties symbols_path properties t ≡ whole
    pub stands : stands_in t symbols_path ≡ true
    pub stuck : FullAtProperties full symbols_path properties t → crowded

  -- no label, no symbol
  pub none_set : (labels : List Symbol) (ps : List Property) (t : Reading) → length labels ≡ 0 → AreLanding o b sites labels ps → with_symbols_merged ps t ≡ t
  none_set [] [] t none h = refl
  none_set [] (p ∷ ps) t none h = absurd h
  none_set (x ∷ xs) ps t none h = absurd (omega (arith, none))

  -- there is no room for `__symbols__`, or for a label in it
  pub labels_stuck : (labels : List Symbol) (ps : List Property) (t : Reading) → ¬ (length labels ≡ 0) → AreLanding o b sites labels ps
      → full t (with_child_at [] (codes "__symbols__") t) ⊎ FullAtProperties full symbols_path ps (with_child_at [] (codes "__symbols__") t) → FullAtSymbols full ps t
  labels_stuck [] ps t some h k = absurd (some refl)
  labels_stuck (x ∷ xs) [] t some h k = absurd h
  labels_stuck (x ∷ xs) (p ∷ ps) t some h k = k

  -- `__symbols__` is there
  pub labels_begin : (labels : List Symbol) (ps : List Property) (t t' : Reading) → ¬ (length labels ≡ 0) → AreLanding o b sites labels ps → t' ≡ with_child_at [] (codes "__symbols__") t
      → LabelsLeft labels t' (with_symbols_merged ps t) (FullAtSymbols full ps t)
  labels_begin labels ps t t' some h added =
      subst (λ (r : Reading). LabelsLeft labels r (with_symbols_merged ps t) (FullAtSymbols full ps t)) (sym added)
      (record { properties = ps; landing = h; lands = by labels ps some h; stands = child_stands [] (codes "__symbols__") t refl; stuck = λ k. labels_stuck labels ps t some h (inr k) })
    where
      by : (xs : List Symbol) (ps : List Property) → ¬ (length xs ≡ 0) → AreLanding o b sites xs ps → land_properties symbols_path ps (with_child_at [] (codes "__symbols__") t) ≡ with_symbols_merged ps t
      by [] ps some h = absurd (some refl)
      by (x ∷ xs) [] some h = absurd h
      by (x ∷ xs) (p ∷ ps) some h = symbols_are_merged p ps t

  -- the first of the labels that are left lands as the first property that is
  record Starts (x : Symbol) (rest : List Symbol) (t whole : Reading) (crowded : Type 0) : Type 0 where
    property : Property
    properties : List Property
    first : LandsAs o b sites x property
    landing : AreLanding o b sites rest properties
    lands : land_properties symbols_path properties (with_property_at symbols_path property.name property.value t) ≡ whole
    stands : stands_in t symbols_path ≡ true
    stuck : FullAtProperties full symbols_path (property ∷ properties) t → crowded

  starts : (left rest : List Symbol) (x : Symbol) (t whole : Reading) (crowded : Type 0) → left ≡ x ∷ rest → LabelsLeft left t whole crowded → Starts x rest t whole crowded
  starts left rest x t whole crowded e so_far = by so_far.properties (subst (λ (xs : List Symbol). AreLanding o b sites xs so_far.properties) e so_far.landing) so_far.lands so_far.stuck
    where
      by : (ps : List Property) → AreLanding o b sites (x ∷ rest) ps → land_properties symbols_path ps t ≡ whole → (FullAtProperties full symbols_path ps t → crowded) → Starts x rest t whole crowded
      by [] h lands stuck = absurd h
      by (p ∷ ps) h lands stuck = record { property = p; properties = ps; first = h.0; landing = h.1; lands = lands; stands = so_far.stands; stuck = stuck }

  pub next_label : (left rest : List Symbol) (x : Symbol) (t whole : Reading) (crowded : Type 0) → left ≡ x ∷ rest → LabelsLeft left t whole crowded → (q : Path) × LandsAt o b sites x q
  next_label left rest x t whole crowded e so_far = let w = starts left rest x t whole crowded e so_far in (w.first.at, w.first.lands)

  -- there is no room for the next one
  pub label_stuck : (left rest : List Symbol) (x : Symbol) (t whole : Reading) (crowded : Type 0) → left ≡ x ∷ rest → LabelsLeft left t whole crowded
      → (q : Path) × LandsAt o b sites x q × (full t (with_property_at symbols_path x.label.now (path_value q) t) → crowded)
  label_stuck left rest x t whole crowded e so_far =
      let w = starts left rest x t whole crowded e so_far in (
        w.first.at,
        w.first.lands,
        λ h. w.stuck (inl (subst (full t) (λ i. with_property_at symbols_path (sym w.first.name i) (sym w.first.value i) t) h)),
      )

  -- one label is set
  pub labels_step : (left rest : List Symbol) (x : Symbol) (t t' whole : Reading) (crowded : Type 0) → left ≡ x ∷ rest → LabelsLeft left t whole crowded
      → ((q : Path) → LandsAt o b sites x q → t' ≡ with_property_at symbols_path x.label.now (path_value q) t) → LabelsLeft rest t' whole crowded
  labels_step left rest x t t' whole crowded e so_far set =
      let w = starts left rest x t whole crowded e so_far in
      let is : t' ≡ with_property_at symbols_path w.property.name w.property.value t =
      set w.first.at w.first.lands ∙ (λ i. with_property_at symbols_path (sym w.first.name i) (sym w.first.value i) t) in
      subst (λ (r : Reading). LabelsLeft rest r whole crowded) (sym is)
      (record { properties = w.properties; landing = w.landing; lands = w.lands; stands = property_kept symbols_path w.property.name w.property.value t symbols_path w.stands; stuck = λ h. w.stuck (inr h) })

  -- none is left
  pub labels_over : (left : List Symbol) (t whole : Reading) (crowded : Type 0) → left ≡ [] → LabelsLeft left t whole crowded → t ≡ whole
  labels_over left t whole crowded none so_far = by so_far.properties (subst (λ (xs : List Symbol). AreLanding o b sites xs so_far.properties) none so_far.landing) so_far.lands
    where
      by : (ps : List Property) → AreLanding o b sites [] ps → land_properties symbols_path ps t ≡ whole → t ≡ whole
      by [] h lands = lands
      by (p ∷ ps) h lands = absurd h
