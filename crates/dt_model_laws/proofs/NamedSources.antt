-- A named tree beside the events of the places that mean it.
use Rattle.std.proofs.Common.{◌≡◌, ℕ, ◌<◌, true, List, [], ◌∷◌, ◌++◌, length, map, reverse, codes, is_some, refl, sym, ap, ◌∙◌, inl, inr, Option, Some, None, arith}
use Rattle.std.specs.List.{AllByRecursion}
use Rattle.std.specs.Option.{option_map, option_map_or, option_and_then}
use Rattle.dt_model.specs.Names.{Name}
use Rattle.dt_model.specs.Path.{Path}
use Rattle.dt_model.specs.Meaning.{Item, item_renamed}
use Rattle.dt_model.specs.Event.{stands, value_at, age}
use Rattle.dt_model.specs.Source.{Part, Place, IsPlace, Mode, Events, all_bound, number_of_parts, written_number, IsResolved}
use Rattle.dt_model.specs.Valid.{AreDistinct}
use Rattle.dt_model.specs.Named.{NodeReference, NamedForest, no_nodes, branch, Named, NamedNode, root_of, node_at, value_of, number_of, written_in, names, paths_of}
use Rattle.dt_model.specs.NamedOf.{IsNamedBy, IsNamedOf, bound_values, meant, path_among}
use Rattle.dt_model.specs.Overlay.{OverlayReference, inside, reference_renamed}
use Rattle.dt_model.proofs.Cases.{map_some, then_some, some_there, all_map}
use Rattle.dt_model_laws.proofs.Orders.{falls_distinct}
use Rattle.dt_model_laws.proofs.Bound.{named_rules, named_obeys}
use Rattle.dt_model_laws.proofs.Holding.{Holds, Obeys}
use Rattle.dt_model_laws.proofs.ReadAll.{holds-source}
use Rattle.dt_model_laws.proofs.NamedListed.{AreApart, IsApart, IsSibling, sibling_found, child_at}
use Rattle.dt_model_laws.proofs.NamedValues.{number_renamed, number_written}

-- ---- siblings

-- siblings differ everywhere where they differ at each node
apart_below : (t : Named NodeReference) → ((p : Path) (c : NamedNode NodeReference) → node_at t p ≡ Some c → AreDistinct (names c.children))
    → (path : Path) (f : NamedForest NodeReference) → ((x : Name) (c : NamedNode NodeReference) → IsSibling x c f → node_at t (path ++ x ∷ []) ≡ Some c) → AreApart f
apart_below t distinct path no_nodes at = tt
apart_below t distinct path (branch name content children siblings) at =
    let n : NamedNode NodeReference = record { content = content; children = children } in
    let here = at name n (inl (refl, refl)) in
    let d = distinct (path ++ name ∷ []) n here in (
      d,
      apart_below t distinct (path ++ name ∷ []) children (λ x c i. child_at (root_of t) c n (path ++ name ∷ []) x here (sibling_found children x c d i)),
      apart_below t distinct path siblings (λ x c i. at x c (inr i)),
    )

pub is_apart : (t : Named NodeReference) → ((p : Path) (c : NamedNode NodeReference) → node_at t p ≡ Some c → AreDistinct (names c.children)) → IsApart t
is_apart t distinct =
    let d = distinct [] (root_of t) refl in
    (d, apart_below t distinct [] t.children (λ x c i. child_at (root_of t) c (root_of t) [] x refl (sibling_found t.children x c d i)))

-- the number that a value of the property `phandle` writes in a path's node
abbrev pub number_in : (Path → Name → Option (List (Item OverlayReference))) → Path → Option ℕ
number_in value p = option_and_then number_of (value p (codes "phandle"))

module _ (es : Events) (value : Path → Name → Option (List (Item OverlayReference))) (t : Named NodeReference) (n : IsNamedBy es value t) where
  pub apart : IsApart t
  apart = is_apart t (λ p c e. let o = n.order.children p c e in falls_distinct (λ x. age es (x ∷ reverse p)) (names c.children) o.sorted)

  -- ---- nodes

  pub node_stands : (p : Path) (c : NamedNode NodeReference) → node_at t p ≡ Some c → stands es (reverse p) ≡ true
  node_stands p c e = sym (n.nodes p) ∙ ap is_some e

  pub stands_node : (p : Path) → stands es (reverse p) ≡ true → (c : NamedNode NodeReference) × (node_at t p ≡ Some c)
  stands_node p h = some_there (node_at t p) (n.nodes p ∙ h)

  -- ---- values

  pub value_same : (p : Path) (c : NamedNode NodeReference) (x : Name) → node_at t p ≡ Some c
      → option_map (meant t) (value_of c.content.properties x) ≡ value p x
  value_same p c x e =
      ap (λ (o : Option (NamedNode NodeReference)). option_map (meant t) (value_of (option_map_or (λ n. n.content) o (record { labels = []; properties = [] })).properties x)) (sym e) ∙ n.values p x

  pub number_same : (p : Path) (c : NamedNode NodeReference) → node_at t p ≡ Some c → written_in c.content ≡ number_in value p
  number_same p c e = step (value_of c.content.properties (codes "phandle")) ∙ ap (option_and_then number_of) (value_same p c (codes "phandle") e)
    where
      step : (o : Option (List (Item NodeReference))) → option_and_then number_of o ≡ option_and_then number_of (option_map (meant t) o)
      step None = refl
      step (Some v) = sym (number_renamed (reference_renamed (path_among (paths_of t))) v)

-- ---- of a base

-- the parts of a base's value
pub record AreParts (es : Events) (parts : List Part) (value : List (Item OverlayReference)) : Type 0 where
  pub items : List (Item Path)
  pub bound : all_bound es parts ≡ Some items
  pub same : map (item_renamed inside) items ≡ value

module _ (es : Events) where
  pub bound_parts : (p : Path) (x : Name) (value : List (Item OverlayReference)) → bound_values es p x ≡ Some value → (parts : List Part) × (value_at es (reverse p) x ≡ Some parts) × AreParts es parts value
  bound_parts p x value e =
      let all = map_some (map (item_renamed inside)) (option_and_then (all_bound es) (value_at es (reverse p) x)) value e in
      let w = then_some (all_bound es) (value_at es (reverse p) x) all.0 all.1 in
      (w.0, w.1, record { items = all.0; bound = w.2; same = all.2 })

  -- the number that a property `phandle` writes is the one that its parts write
  pub number_bound : IsResolved es → (p : Path) → number_in (bound_values es) p ≡ written_number es (reverse p)
  number_bound resolved p = step (value_at es (reverse p) (codes "phandle")) refl
    where
      step : (o : Option (List Part)) → value_at es (reverse p) (codes "phandle") ≡ o
          → option_and_then number_of (option_map (map (item_renamed inside)) (option_and_then (all_bound es) o)) ≡ option_and_then number_of_parts o
      step None e = refl
      step (Some parts) e =
          let bound = some_there (all_bound es parts) (resolved.bound_to (reverse p) (codes "phandle") parts e) in
          let k = some_there (number_of_parts parts) (resolved.numbered (reverse p) parts e) in
          ap (λ o. option_and_then number_of (option_map (map (item_renamed inside)) o)) bound.1 ∙ number_written es parts bound.0 k.0 k.1 bound.1 ∙ sym k.1

module _ (mode : Mode) (reservations : List (ℕ × ℕ)) (places : List Place) (t : Named NodeReference) (n : IsNamedOf mode reservations places t) where
  abbrev pub events : Events
  events = n.means.so_far.events

  -- what is true after all places
  pub holds : 0 < length places → AllByRecursion IsPlace places → Holds named_rules n.means.so_far
  holds some valid =
      elim (holds-source named_rules mode n.means.so_far places tt (all_map IsPlace (Obeys named_rules mode) (named_obeys mode) places valid) n.means.all_read) [
        | inl none ↦ let l : length places ≡ 0 = ap length none.0 in absurd (omega arith)
        | inr h ↦ h
      ]

  -- the parts of a value that the tree has
  pub value_parts : (p : Path) (c : NamedNode NodeReference) (x : Name) (v : List (Item NodeReference)) → node_at t p ≡ Some c → value_of c.content.properties x ≡ Some v
      → (parts : List Part) × (value_at events (reverse p) x ≡ Some parts) × AreParts events parts (meant t v)
  value_parts p c x v e k = bound_parts events p x (meant t v) (sym (value_same events (bound_values events) t n.tree p c x e) ∙ ap (option_map (meant t)) k)

  -- the value that the tree has of some parts
  pub parts_value : (p : Path) (c : NamedNode NodeReference) (x : Name) (parts : List Part) → node_at t p ≡ Some c → value_at events (reverse p) x ≡ Some parts
      → (v : List (Item NodeReference)) × (value_of c.content.properties x ≡ Some v) × AreParts events parts (meant t v)
  parts_value p c x parts e k =
      let bound = some_there (all_bound events parts) (n.means.resolved.bound_to (reverse p) x parts k) in
      let w = map_some (meant t) (value_of c.content.properties x) (map (item_renamed inside) bound.0)
      (value_same events (bound_values events) t n.tree p c x e ∙ ap (λ o. option_map (map (item_renamed inside)) (option_and_then (all_bound events) o)) k ∙ ap (option_map (map (item_renamed inside))) bound.1) in
      (w.0, w.1, record { items = bound.0; bound = bound.1; same = sym w.2 })

  pub written_same : (p : Path) (c : NamedNode NodeReference) → node_at t p ≡ Some c → written_in c.content ≡ written_number events (reverse p)
  written_same p c e = number_same events (bound_values events) t n.tree p c e ∙ number_bound events n.means.resolved p
