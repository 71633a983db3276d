-- The cells of a named tree's references are those of the overlay that the tree is named by.
use Rattle.std.proofs.Common.{◌≡◌, ℕ, ◌+◌, ◌<◌, ◌^◌, map, refl, sym, ap, subst, ◌∙◌, arith, is_some}
use Rattle.std.specs.Option.{option_map}
use Rattle.dt_model.specs.Names.{Name, IsLabel}
use Rattle.dt_model.specs.Path.{Path}
use Rattle.dt_model.specs.Lists.{IsIn}
use Rattle.dt_model.specs.Meaning.{EachReference}
use Rattle.dt_model.specs.Object.{Cell, references_from, IsCellOf}
use Rattle.dt_model.specs.Overlay.{OverlayReference, inside, outside, reference_renamed, Overlay, IsOverlay}
use Rattle.dt_model.specs.Source.{Events}
use Rattle.dt_model.specs.Fixups.{outside_cells}
use Rattle.dt_model.specs.Named.{NodeReference, NamedProperty, Named, NamedPlaced, content_in, value_of, node_count, nodes_of, paths_of}
use Rattle.dt_model.specs.NamedOf.{IsBelow, IsNamedBy, IsNamed, path_among, meant}
use Rattle.dt_model.proofs.Cases.{map_some}
use Rattle.dt_model.proofs.Tests.{each_in, in_map, in_map_from}
use Rattle.dt_model.proofs.Flat.{from_flat}
use Rattle.dt_model.proofs.Inside.{each_at}
use Rattle.dt_model_laws.proofs.AskedNumbers.{named_apart, content_is}
use Rattle.dt_model_laws.proofs.ReferenceCells.{renamed_references, cell_at, cells_of_property, cells_of_node, cells_in, HaveOneEach, cell_from, cell_in}
use Rattle.dt_model_laws.proofs.ObjectCells.{inside_cells, waiting_from, waiting_in, local_from, local_in}
use Rattle.dt_model_laws.proofs.MirroredCells.{HasLowOffsets}
use Rattle.dt_model_laws.proofs.FixupGroups.{HasText}

module _ (es : Events) (o : Overlay) (t : Named NodeReference) (n : IsNamedBy es o.value t) (is_named : IsNamed t) where
  pub one_each : HaveOneEach t
  one_each x i = (content_is t is_named x i).distinct

  -- the reference as the overlay has it
  abbrev renamed : NodeReference → OverlayReference
  renamed r = reference_renamed (path_among (paths_of t)) r

  with_path : ℕ × NodeReference → ℕ × OverlayReference
  with_path r = (r.0, renamed r.1)

  cell_meant : (c : Cell) (r : NodeReference) → IsIn (c, r) (cells_in t) → IsCellOf o c (renamed r)
  unfolding with_path
  cell_meant c r i =
      let h = cell_from t (named_apart t is_named) one_each (c, r) i in (
        meant t h.0,
        sym (n.values c.path c.property) ∙ ap (option_map (meant t)) h.1,
        subst (IsIn (c.offset, renamed r)) (sym (renamed_references renamed 0 h.0)) (in_map with_path (references_from 0 h.0) (c.offset, r) h.2),
      )

  -- a reference of the overlay is one of the tree
  meant_cell : (c : Cell) (q : OverlayReference) → IsCellOf o c q → (r : NodeReference) × (renamed r ≡ q) × IsIn (c, r) (cells_in t)
  unfolding with_path
  meant_cell c q h =
      let v = map_some (meant t) (value_of (content_in t c.path).properties c.property) h.0 (n.values c.path c.property ∙ h.1) in
      let there : IsIn (c.offset, q) (map with_path (references_from 0 v.0)) =
      subst (IsIn (c.offset, q)) (renamed_references renamed 0 v.0) (subst (λ items. IsIn (c.offset, q) (references_from 0 items)) (sym v.2) h.2) in
      let r = in_map_from with_path (references_from 0 v.0) (c.offset, q) there in
      let offset : c.offset ≡ r.0.0 = ap (λ (x : ℕ × OverlayReference). x.0) r.2 in
      (r.0.1, sym (ap (λ (x : ℕ × OverlayReference). x.1) r.2), cell_in t c r.0.1 (v.0, v.1, subst (λ k. IsIn (k, r.0.1) (references_from 0 v.0)) (sym offset) r.1))

  -- ---- by labels

  pub waiting_meant : (l : Name) (c : Cell) → IsIn (l, c) (outside_cells t) → IsCellOf o c (outside l)
  waiting_meant l c i = cell_meant c (outside l) (waiting_from t l c i)

  by_label_only : (r : NodeReference) (l : Name) → renamed r ≡ outside l → r ≡ outside l
  by_label_only (inside k) l e = cc
  by_label_only (outside m) l e = let same : m ≡ l = cc in ap (λ z. outside z) same

  pub meant_waiting : (l : Name) (c : Cell) → IsCellOf o c (outside l) → IsIn (l, c) (outside_cells t)
  meant_waiting l c h =
      let w = meant_cell c (outside l) h in
      waiting_in t l c (subst (λ r. IsIn (c, r) (cells_in t)) (by_label_only w.0 l w.1) w.2)

  -- ---- to nodes of the overlay

  pub local_meant : (c : Cell) → IsIn c (inside_cells t) → (p : Path) × IsCellOf o c (inside p)
  local_meant c i = let w = local_from t c i in (path_among (paths_of t) w.0, cell_meant c (inside w.0) w.1)

  by_node_only : (r : NodeReference) (p : Path) → renamed r ≡ inside p → (k : ℕ) × (r ≡ inside k)
  by_node_only (inside k) p e = (k, refl)
  by_node_only (outside l) p e = cc

  pub meant_local : (c : Cell) (p : Path) → IsCellOf o c (inside p) → IsIn c (inside_cells t)
  meant_local c p h =
      let w = meant_cell c (inside p) h in
      let k = by_node_only w.0 p w.1 in
      local_in t c k.0 (subst (λ r. IsIn (c, r) (cells_in t)) k.1 w.2)

  -- ---- what is true of each

  -- what a reference is to is below the count of nodes, or a label
  reference_below : (c : Cell) (r : NodeReference) → IsIn (c, r) (cells_in t) → IsBelow (1 + node_count t.children) r
  reference_below c r i =
      let x = from_flat cells_of_node (nodes_of t) (c, r) i in
      let p = from_flat (cells_of_property x.0.path) x.0.content.properties (c, r) x.2 in
      let k = in_map_from (cell_at x.0.path p.0.name) (references_from 0 p.0.value) (c, r) p.2 in
      let referred = each_in (λ (p : NamedProperty NodeReference). EachReference (IsBelow (1 + node_count t.children)) p.value) x.0.content.properties p.0 (content_is t is_named x.0 x.1).referred p.1 in
      let same : r ≡ k.0.1 = ap (λ (y : Cell × NodeReference). y.1) k.2 in
      subst (IsBelow (1 + node_count t.children)) (sym same) (each_at (IsBelow (1 + node_count t.children)) 0 p.0.value k.0.0 k.0.1 referred k.1)

  pub waiting_label : (l : Name) (c : Cell) → IsIn (l, c) (outside_cells t) → IsLabel l
  waiting_label l c i = reference_below c (outside l) (waiting_from t l c i)

  module _ (overlay : IsOverlay o) (low : (x : NamedPlaced NodeReference) → IsIn x (nodes_of t) → HasLowOffsets x.content) where
    low_offset : (c : Cell) (r : NodeReference) → IsIn (c, r) (cells_in t) → c.offset < 2 ^ 32
    low_offset c r i =
        let x = from_flat cells_of_node (nodes_of t) (c, r) i in
        let p = from_flat (cells_of_property x.0.path) x.0.content.properties (c, r) x.2 in
        let k = in_map_from (cell_at x.0.path p.0.name) (references_from 0 p.0.value) (c, r) p.2 in
        let same : c.offset ≡ k.0.0 = ap (λ (y : Cell × NodeReference). (y.0).offset) k.2 in
        subst (λ y. y < 2 ^ 32) (sym same) (low x.0 x.1 p.0 p.1 k.0 k.1)

    pub waiting_text : (l : Name) (c : Cell) → IsIn (l, c) (outside_cells t) → HasText c
    waiting_text l c i =
        let h = waiting_meant l c i in
        let there = ap is_some h.1 in
        let small = low_offset c (outside l) (waiting_from t l c i) in
        record {
          path = overlay.named c.path (overlay.values_stand c.path c.property there);
          property = (overlay.values_named c.path c.property there).0;
          offset = omega (arith, small);
        }
