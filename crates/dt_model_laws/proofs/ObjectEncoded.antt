-- The instance of an overlay's named tree, with its labels and its cells, is an object of the overlay, where the offsets of its
-- cells are 32-bit numbers.
use Rattle.std.proofs.Common.{◌≡◌, ℕ, ◌≤◌, ◌%◌, Bool, true, false, List, [], ◌∷◌, ◌++◌, length, map, codes, is_some, refl, sym, ap, subst, ◌∙◌, inl, inr, Option, Some, None, true≢false}
use Rattle.std.specs.Prelude.{option_and_then, IsSome, if◌then◌else◌}
use Rattle.std.specs.List.{AllByRecursion, flat_map}
use Rattle.std.specs.Option.{option_map}
use Rattle.std.specs.Str.{bytes_eq}
use Rattle.std.proofs.lemmas.Grind.{flat_map-append}
use Rattle.dt_model.specs.Names.{Name}
use Rattle.dt_model.specs.Path.{Path, path_value, is_bookkeeping_name, is_bookkeeping}
use Rattle.dt_model.specs.Lists.{IsIn}
use Rattle.dt_model.specs.Meaning.{Item, cell, value_bytes}
use Rattle.dt_model.specs.Source.{Events}
use Rattle.dt_model.specs.Fixups.{outside_cells, fixups, local_properties, mirror}
use Rattle.dt_model.specs.Object.{Cell, AreFixups, HasFixups, local_cells, fragment_names, object_value, Encodes}
use Rattle.dt_model.specs.Overlay.{OverlayReference, object_number, Fragment, Overlay, IsOverlay}
use Rattle.dt_model.specs.Tree as tree
use Rattle.dt_model.specs.Tree.{Property, Forest, no_nodes, Reading, Node, sibling, value_of, stands_in, value_in}
use Rattle.dt_model.specs.Valid as valid
use Rattle.dt_model.specs.Valid.{AreDistinct}
use Rattle.dt_model.specs.Named as named
use Rattle.dt_model.specs.Named.{NodeReference, Named, NamedNode, NamedPlaced, root_of, node_at, nodes_of, preorder}
use Rattle.dt_model.specs.NamedOf.{IsNamedBy, IsNamed, meant}
use Rattle.dt_model.proofs.Cases.{some_there, then_some}
use Rattle.dt_model.proofs.Tests.{bytes_eq_true, each_from}
use Rattle.dt_model_laws.proofs.NamedSources.{value_same}
use Rattle.dt_model_laws.proofs.AskedNumbers.{named_apart}
use Rattle.dt_model_laws.proofs.ReferenceCells.{only_cell, cells_of_node, cells_in, cells_once}
use Rattle.dt_model_laws.proofs.ObjectCells.{inside_of, inside_cells, waiting_once, local_once}
use Rattle.dt_model_laws.proofs.MirroredCells.{HasLowOffsets, node_cells, mirrored_cells}
use Rattle.dt_model_laws.proofs.MirroredNodes.{mirrored, below_mirrored, local_value}
use Rattle.dt_model_laws.proofs.FixupGroups.{label_from, grouped, grouped_from, grouped_in, grouped_once, HasText, are_fixups, names_of_fixups}
use Rattle.dt_model_laws.proofs.NodesUnlessEmpty.{IsUnlessEmpty, properties_there, value_there, below_there, cells_there, node_found}
use Rattle.dt_model_laws.proofs.ObjectTrees.{with_nodes, AreBookkeeping, HasNone, stands_elsewhere, value_elsewhere, node_added, same_fragments, object_nodes, are_bookkeeping, symbols_found, fixups_found, locals_found}
use Rattle.dt_model_laws.proofs.CellsMeant.{one_each, waiting_meant, meant_waiting, local_meant, meant_local, waiting_text}

-- a property that is found is one of the list
value_name : (ps : List Property) (x : Name) → is_some (value_of ps x) ≡ true → IsIn x (map (λ (p : Property). p.name) ps)
value_name [] x h = absurd (true≢false (sym h))
value_name (p ∷ ps) x h = step (bytes_eq x p.name) refl (value_name ps x)
  where
    step : (b : Bool) → bytes_eq x p.name ≡ b → (is_some (value_of ps x) ≡ true → IsIn x (map (λ (p : Property). p.name) ps)) → IsIn x (map (λ (p : Property). p.name) (p ∷ ps))
    step true e more = inl (bytes_eq_true x p.name e)
    step false e more = inr (more (rw e at h))

module _ (o : Overlay) (overlay : IsOverlay o) (es : Events) (t : Named NodeReference) (n : IsNamedBy es o.value t) (nodes : (p : Path) → is_some (node_at t p) ≡ o.stands p)
    (no_phandle : (p : Path) (c : NamedNode NodeReference) → node_at t p ≡ Some c → named.value_of c.content.properties (codes "phandle") ≡ None) (is_named : IsNamed t)
    (r : Reading) (number : Path → ℕ) (none : HasNone r.children) (stands : (p : Path) → stands_in r p ≡ o.stands p) (values : (p : Path) (x : Name) → value_in r p x ≡ object_value o number p x)
    (symbols : List Property) (label_value : (l : Name) → value_of symbols l ≡ option_map path_value (o.label l))
    (low : (x : NamedPlaced NodeReference) → IsIn x (nodes_of t) → HasLowOffsets x.content) where
  abbrev added : Forest
  added = object_nodes symbols t

  abbrev object : Reading
  object = with_nodes r added

  abbrev cells : List (Name × Cell)
  cells = outside_cells t

  plain : AreBookkeeping (valid.names added)
  plain = are_bookkeeping symbols t

  object_stands : (p : Path) → is_bookkeeping p ≡ false → stands_in object p ≡ o.stands p
  object_stands p h = stands_elsewhere r added plain none p h ∙ stands p

  object_values : (p : Path) (x : Name) → is_bookkeeping p ≡ false → value_in object p x ≡ object_value o number p x
  object_values p x h = value_elsewhere r added plain none p x h ∙ values p x

  -- a bookkeeping node, found or left out
  added_node : (x : Name) (ps : List Property) (children : Forest) → is_bookkeeping_name x ≡ true → IsUnlessEmpty ps children (sibling added x) → IsUnlessEmpty ps children (tree.node_at object (x ∷ []))
  added_node x ps children h is = subst (IsUnlessEmpty ps children) (sym (node_added r added plain none x [] h)) (node_found ps children (sibling added x) is)

  -- ---- labels

  symbols_there : (l : Name) → value_in object (codes "__symbols__" ∷ []) l ≡ option_map path_value (o.label l)
  symbols_there l =
      value_there symbols no_nodes (tree.node_at object (codes "__symbols__" ∷ [])) (added_node (codes "__symbols__") symbols no_nodes refl (symbols_found symbols t)) l ∙ label_value l

  -- ---- cells that wait

  fixups_node : IsUnlessEmpty (fixups cells) no_nodes (tree.node_at object (codes "__fixups__" ∷ []))
  fixups_node = added_node (codes "__fixups__") (fixups cells) no_nodes refl (fixups_found symbols t)

  have_texts : AllByRecursion (λ (x : Name × Cell). HasText x.1) cells
  have_texts = each_from (λ (x : Name × Cell). HasText x.1) cells (λ x i. waiting_text es o t n is_named overlay low x.0 x.1 i)

  fixups_listed : HasFixups object (grouped cells)
  fixups_listed =
      subst (λ ps. AreFixups ps (grouped cells)) (sym (properties_there (fixups cells) no_nodes (tree.node_at object (codes "__fixups__" ∷ [])) fixups_node)) (are_fixups cells have_texts)

  cells_differ : AreDistinct (map only_cell (cells_in t))
  cells_differ = cells_once t (named_apart t is_named) (one_each es o t n is_named)

  fixups_used : (l : Name) → IsSome (value_in object (codes "__fixups__" ∷ []) l) → (c : Cell) × IsIn (l, c) (grouped cells)
  fixups_used l h =
      let there : is_some (value_of (fixups cells) l) ≡ true = ap is_some (sym (value_there (fixups cells) no_nodes (tree.node_at object (codes "__fixups__" ∷ [])) fixups_node l)) ∙ h in
      let w = label_from cells l (subst (IsIn l) (names_of_fixups cells) (value_name (fixups cells) l there)) in
      (w.0, grouped_in cells l w.0 w.1)

  nothing_below : (x : Name) (p : Path) → stands_in object (codes "__fixups__" ∷ x ∷ p) ≡ false
  nothing_below x p = ap is_some (node_added r added plain none (codes "__fixups__") (x ∷ p) refl) ∙ step (sibling added (codes "__fixups__")) (fixups_found symbols t)
    where
      step : (y : Option Node) → IsUnlessEmpty (fixups cells) no_nodes y → is_some (option_and_then (λ c. tree.node_below c (x ∷ p)) y) ≡ false
      step y (inl h) = ap (λ y. is_some (option_and_then (λ c. tree.node_below c (x ∷ p)) y)) h
      step y (inr h) = ap (λ y. is_some (option_and_then (λ c. tree.node_below c (x ∷ p)) y)) h.0

  -- ---- cells that hold numbers of the overlay's own nodes

  locals_node : IsUnlessEmpty (local_properties t.content) (mirror t.children) (tree.node_at object (codes "__local_fixups__" ∷ []))
  locals_node = added_node (codes "__local_fixups__") (local_properties t.content) (mirror t.children) refl (locals_found symbols t)

  local_same : local_cells object ≡ inside_cells t
  local_same =
      cells_there (local_properties t.content) (mirror t.children) (tree.node_at object (codes "__local_fixups__" ∷ [])) locals_node
      ∙ (λ i. node_cells (record { path = []; content = t.content }) (low (record { path = []; content = t.content }) (inl refl)) i ++ mirrored_cells [] t.children (λ x j. low x (inr j)) i)
      ∙ sym (flat_map-append inside_of (cells_of_node (record { path = []; content = t.content })) (flat_map cells_of_node (preorder [] t.children)))

  -- a node of the mirror is one of the tree
  mirrored_node : (p : Path) (m : Node) → tree.node_at object (codes "__local_fixups__" ∷ p) ≡ Some m → (c : NamedNode NodeReference) × (node_at t p ≡ Some c) × (m ≡ mirrored c)
  mirrored_node p m e =
      below_mirrored (root_of t) p m (named_apart t is_named).0 (named_apart t is_named).1
      (below_there (local_properties t.content) (mirror t.children) (sibling added (codes "__local_fixups__")) (locals_found symbols t) p m (sym (node_added r added plain none (codes "__local_fixups__") p refl) ∙ e))

  local_property : (p : Path) (x : Name) (v : List ℕ) → value_in object (codes "__local_fixups__" ∷ p) x ≡ Some v
      → (c : NamedNode NodeReference) × (node_at t p ≡ Some c) × (is_some (named.value_of c.content.properties x) ≡ true) × (length v % 4 ≡ 0)
  local_property p x v e =
      let m = then_some (λ (m : Node). value_of m.properties x) (tree.node_at object (codes "__local_fixups__" ∷ p)) v e in
      let c = mirrored_node p m.0 m.1 in
      let w = local_value (c.0).content x v (ap (λ (m : Node). value_of m.properties x) (sym c.2) ∙ m.2) in
      (c.0, c.1, w.0, w.1)

  locals_stand : (p : Path) → stands_in object (codes "__local_fixups__" ∷ p) ≡ true → stands_in object p ≡ true
  locals_stand p h =
      let m = some_there (tree.node_at object (codes "__local_fixups__" ∷ p)) h in
      let c = mirrored_node p m.0 m.1 in
      let there : o.stands p ≡ true = sym (nodes p) ∙ ap is_some c.1 in
      object_stands p (overlay.plain p there) ∙ there

  locals_have : (p : Path) (x : Name) → IsSome (value_in object (codes "__local_fixups__" ∷ p) x) → IsSome (value_in object p x)
  locals_have p x h =
      let v = some_there (value_in object (codes "__local_fixups__" ∷ p) x) h in
      let w = local_property p x v.0 v.1 in
      let there : o.stands p ≡ true = sym (nodes p) ∙ ap is_some w.1 in
      let items = some_there (named.value_of (w.0).content.properties x) w.2 in
      let value : o.value p x ≡ Some (meant t items.0) = sym (value_same es o.value t n p w.0 x w.1) ∙ ap (option_map (meant t)) items.1 in
      let other : bytes_eq x (codes "phandle") ≡ false = (overlay.values_named p x (ap is_some value)).1 in
      ap is_some (object_values p x (overlay.plain p there))
      ∙ ap (λ b. is_some (if b then (if o.keyed p then Some (cell (number p)) else None) else option_map (value_bytes (object_number number)) (o.value p x))) other
      ∙ ap (λ (y : Option (List (Item OverlayReference))). is_some (option_map (value_bytes (object_number number)) y)) value

  -- ---- the object

  pub encoded : ((p : Path) → o.keyed p ≡ true → 1 ≤ number p) → ((p : Path) → o.keyed p ≡ true → number p ≤ 0xfffffffe)
      → ((p q : Path) → o.keyed p ≡ true → o.keyed q ≡ true → number p ≡ number q → p ≡ q)
      → fragment_names r.children ≡ map (λ (f : Fragment). f.name) o.fragments → Encodes object o number
  encoded numbers_low numbers_high numbers_own fragments = record {
    low = numbers_low;
    high = numbers_high;
    own = numbers_own;
    nodes = object_stands;
    values = object_values;
    fragments = same_fragments r added plain none ∙ fragments;
    symbols = symbols_there;
    fixups = grouped cells;
    fixups_listed = fixups_listed;
    fixups_once = grouped_once cells (waiting_once t cells_differ);
    fixups_exact = λ l c. (λ i. waiting_meant es o t n is_named l c (grouped_from cells l c i), λ h. grouped_in cells l c (meant_waiting es o t n is_named l c h));
    fixups_used = fixups_used;
    no_nodes_of_fixups = nothing_below;
    locals_once = subst AreDistinct (sym local_same) (local_once t cells_differ);
    locals_exact = λ c. (λ i. local_meant es o t n is_named c (subst (IsIn c) local_same i), λ h. subst (IsIn c) (sym local_same) (meant_local es o t n is_named c h.0 h.1));
    locals_words = λ p x v e. (local_property p x v e).3;
    locals_nodes = locals_stand;
    locals_values = locals_have;
  }
