-- While nodes land, each phandle of the tree comes from where the result's do.
use Rattle.std.proofs.Common.{◌≡◌, ℕ, ◌<◌, Bool, true, false, List, [], ◌∷◌, ◌++◌, length, codes, refl, sym, ap, subst, ◌∙◌, ◌⊎◌, inl, inr, Option, Some, None, append-nil}
use Rattle.std.specs.Prelude.{option_and_then}
use Rattle.std.specs.Option.{option_or}
use Rattle.std.specs.List.{AllByRecursion}
use Rattle.std.specs.Str.{bytes_eq}
use Rattle.dt_model.specs.Limits.{most_names}
use Rattle.dt_model.specs.Names.{Name}
use Rattle.dt_model.specs.Path.{Path, below}
use Rattle.dt_model.specs.Tree.{Property, Forest, no_nodes, branch, Reading, value_in}
use Rattle.dt_model.specs.Valid.{IsPhandle}
use Rattle.dt_model.specs.Changes.{set_property, with_child, with_child_at, with_property_at}
use Rattle.dt_model.proofs.Tests.{bytes_eq_true}
use Rattle.dt_model_laws.proofs.Lands.{append-below}
use Rattle.dt_model_laws.proofs.Merging.{value_below}
use Rattle.dt_overlay_laws.specs.Steps.{land_properties, land_nodes, MaySetValue, MayLandProperties, MayLandNodes}
use Rattle.dt_overlay_laws.proofs.SingleChanges.{only_child, only_property, nothing_there, stands_or_not, value-with_child, value-with_property}

-- ---- what one change does to values

-- a node that has a child and nothing else has no value
child_has_none : (name key : Name) (r : Path) → value_below (only_child name) r key ≡ None
child_has_none name key [] = refl
child_has_none name key (x ∷ r) = step r (bytes_eq x name) refl
  where
    step : (r : Path) (b : Bool) → bytes_eq x name ≡ b → value_below (only_child name) (x ∷ r) key ≡ None
    step [] true e = rw e refl
    step (y ∷ r) true e = rw e refl
    step r false e = rw e refl

-- a child that is added changes no value
pub child_values : (q : Path) (name : Name) (t : Reading) (p : Path) (key : Name) → value_in (with_child_at q name t) p key ≡ value_in t p key
child_values q name t p key = elim (stands_or_not t q) [
  | inl there ↦ value-with_child q name t there p key ∙ step (below q p)
  | inr not ↦ ap (λ z. value_in z p key) (nothing_there (λ n. record { properties = n.properties; children = with_child n.children name [] (λ nodes. nodes) }) q t not)
]
  where
    step : (y : Option Path) → option_or (option_and_then (λ r. value_below (only_child name) r key) y) (value_in t p key) ≡ value_in t p key
    step None = refl
    step (Some r) = ap (λ z. option_or z (value_in t p key)) (child_has_none name key r)

-- a value after a property is set was there before, or is that property's
pub property_values : (q : Path) (name : Name) (value : List ℕ) (t : Reading) (p : Path) (key : Name) (v : List ℕ) → value_in (with_property_at q name value t) p key ≡ Some v
    → (value_in t p key ≡ Some v) ⊎ ((p ≡ q) × (name ≡ key) × (value ≡ v))
property_values q name value t p key v h = elim (stands_or_not t q) [
  | inl there ↦ step (below q p) refl (sym (value-with_property q name value t there p key) ∙ h)
  | inr not ↦ inl (sym (ap (λ z. value_in z p key) (nothing_there (λ n. record { properties = set_property n.properties name value; children = n.children }) q t not)) ∙ h)
]
  where
    own : (r : Path) (b : Bool) → bytes_eq key name ≡ b → below q p ≡ Some r → option_or (value_below (only_property name value) r key) (value_in t p key) ≡ Some v
        → (value_in t p key ≡ Some v) ⊎ ((p ≡ q) × (name ≡ key) × (value ≡ v))
    own (x ∷ r) b e k z = inl z
    own [] false e k z = inl (rw e at z)
    own [] true e k z =
        let y : Some value ≡ Some v = rw e at z in
        inr (append-below q p [] k ∙ append-nil q, sym (bytes_eq_true key name e), cc)

    step : (y : Option Path) → below q p ≡ y → option_or (option_and_then (λ r. value_below (only_property name value) r key) y) (value_in t p key) ≡ Some v
        → (value_in t p key ≡ Some v) ⊎ ((p ≡ q) × (name ≡ key) × (value ≡ v))
    step None k z = inl z
    step (Some r) k z = own r (bytes_eq key name) refl k z

-- ---- where phandles come from

-- a phandle comes to a path from somewhere: it is one, and comes to one path alone
module _ (From : Path → List ℕ → Type 0) (is_phandle : (q : Path) (v : List ℕ) → From q v → IsPhandle v) (one_path : (q r : Path) (v : List ℕ) → From q v → From r v → q ≡ r) where
  -- each phandle of the tree comes from there
  abbrev pub IsHeld : Reading → Type 0
  IsHeld t = (q : Path) (v : List ℕ) → value_in t q (codes "phandle") ≡ Some v → From q v

  held_child : (q : Path) (name : Name) (t : Reading) → IsHeld t → IsHeld (with_child_at q name t)
  held_child q name t held p v h = held p v (sym (child_values q name t p (codes "phandle")) ∙ h)

  held_property : (q : Path) (name : Name) (value : List ℕ) (t : Reading) → IsHeld t → (name ≡ codes "phandle" → From q value) → IsHeld (with_property_at q name value t)
  held_property q name value t held from p v h = elim (property_values q name value t p (codes "phandle") v h) [
    | inl old ↦ held p v old
    | inr w ↦ subst (λ r. From r v) (sym w.0) (subst (From q) w.2 (from w.1))
  ]

  may_set : (q : Path) (name : Name) (value : List ℕ) (t : Reading) → IsHeld t → (name ≡ codes "phandle" → From q value) → MaySetValue q name value t
  may_set q name value t held from is = (is_phandle q value (from is), λ p h. one_path p q value (held p value h) (from is))

  -- a phandle among properties comes from there
  abbrev pub AreFrom : Path → List Property → Type 0
  AreFrom q ps = AllByRecursion (λ (x : Property). x.name ≡ codes "phandle" → From q x.value) ps

  pub may_land_properties : (q : Path) (ps : List Property) (t : Reading) → IsHeld t → AreFrom q ps → MayLandProperties q ps t × IsHeld (land_properties q ps t)
  may_land_properties q [] t held from = (tt, held)
  may_land_properties q (x ∷ ps) t held from =
      let w = may_land_properties q ps (with_property_at q x.name x.value t) (held_property q x.name x.value t held from.0) from.1 in
      ((may_set q x.name x.value t held from.0, w.0), w.1)

  -- so do those of nodes below a path, none of which is too deep
  abbrev pub AreNodesFrom : Path → Forest → Type 0
  AreNodesFrom q no_nodes = Unit {0}
  AreNodesFrom q (branch name properties children siblings) =
      (length q < most_names) × AreFrom (q ++ name ∷ []) properties × AreNodesFrom (q ++ name ∷ []) children × AreNodesFrom q siblings

  pub may_land_nodes : (q : Path) (f : Forest) (t : Reading) → IsHeld t → AreNodesFrom q f → MayLandNodes q f t × IsHeld (land_nodes q f t)
  may_land_nodes q no_nodes t held from = (tt, held)
  may_land_nodes q (branch name properties children siblings) t held from =
      let t1 = with_child_at q name t in
      let t2 = land_properties (q ++ name ∷ []) properties t1 in
      let t3 = land_nodes (q ++ name ∷ []) children t2 in
      let a = may_land_properties (q ++ name ∷ []) properties t1 (held_child q name t held) from.1 in
      let b = may_land_nodes (q ++ name ∷ []) children t2 a.1 from.2 in
      let c = may_land_nodes q siblings t3 b.1 from.3 in
      ((from.0, a.0, b.0, c.0), c.1)
