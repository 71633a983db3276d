-- The instance of an overlay's named tree, with its labels and its cells: what it has of labels, and that a blob may hold it.
use Rattle.std.proofs.Common.{◌≡◌, ◌≢◌, ℕ, ◌+◌, true, List, [], ◌∷◌, ◌++◌, map, codes, is_some, refl, sym, ap, subst, ◌∙◌, inl, inr, Option, Some, None, true≢false}
use Rattle.std.specs.Prelude.{option_and_then}
use Rattle.std.specs.List.{AllByRecursion}
use Rattle.std.specs.Option.{option_map}
use Rattle.dt_model.specs.Names.{Name, IsPropertyName, IsLabel}
use Rattle.dt_model.specs.Path.{Path, path_value}
use Rattle.dt_model.specs.Lists.{IsIn}
use Rattle.dt_model.specs.Source.{Events}
use Rattle.dt_model.specs.Fixups.{outside_cells, first_labels, fixups}
use Rattle.dt_model.specs.Object.{Cell}
use Rattle.dt_model.specs.Overlay.{Fragment, Overlay}
use Rattle.dt_model.specs.OverlaySource.{overlay_of}
use Rattle.dt_model.specs.Ordered.{AreLabelsInOrder}
use Rattle.dt_model.specs.Tree as tree
use Rattle.dt_model.specs.Tree.{Property, Reading, Node, sibling, value_of, stands_in}
use Rattle.dt_model.specs.Valid.{AreDistinct, AreProperties, IsValid}
use Rattle.dt_model.specs.Numbering.{IsNumbering}
use Rattle.dt_model.specs.Named as named
use Rattle.dt_model.specs.Named.{NodeReference, Content, Named, NamedPlaced, node_count, nodes_of, paths_of}
use Rattle.dt_model.specs.NamedOf.{IsNamed, asked_in}
use Rattle.dt_model.specs.Instance.{symbol, AreSymbols, symbols_of, instance_of}
use Rattle.dt_model.proofs.Tests.{each_from, in_map}
use Rattle.dt_model_laws.proofs.Merging.{no_value}
use Rattle.dt_model_laws.proofs.LabelSymbols as labels
use Rattle.dt_model_laws.proofs.LabelSymbols.{label_is_name, symbol_value}
use Rattle.dt_model_laws.proofs.NamedListed.{listed_at, at_listed}
use Rattle.dt_model_laws.proofs.NamedPaths.{paths_distinct}
use Rattle.dt_model_laws.proofs.NamedSources.{stands_node}
use Rattle.dt_model_laws.proofs.AskedNumbers.{named_apart}
use Rattle.dt_model_laws.proofs.InstanceValid as instances
use Rattle.dt_model_laws.proofs.KeyedInOverlays.{IsNamedIn, no_phandle}
use Rattle.dt_model_laws.proofs.ObjectInstances.{stands_same}
use Rattle.dt_model_laws.proofs.MirroredNodes.{local_are, mirror_distinct, mirror_nodes, no_local_phandle, mirror_phandles}
use Rattle.dt_model_laws.proofs.FixupGroups.{label_from, labels_once, names_of_fixups}
use Rattle.dt_model_laws.proofs.ObjectTrees.{with_nodes, HasNone, object_nodes, valid_object}
use Rattle.dt_model_laws.proofs.CellsMeant.{waiting_label}

-- ---- labels

-- the labels of these nodes with their paths
abbrev symbols_among : List (NamedPlaced NodeReference) → List Property
symbols_among [] = []
symbols_among (n ∷ ns) = map (symbol n.path) n.content.labels ++ symbols_among ns

symbols_are : (es : Events) (ns : List (NamedPlaced NodeReference)) → ((n : NamedPlaced NodeReference) → IsIn n ns → AreLabelsInOrder es n.path n.content.labels)
    → AreSymbols es (map (λ (n : NamedPlaced NodeReference). n.path) ns) (symbols_among ns)
symbols_are es [] order = refl
symbols_are es (n ∷ ns) order = (n.content.labels, symbols_among ns, refl, order n (inl refl), symbols_are es ns (λ x i. order x (inr i)))

symbols_same : (t : Named NodeReference) → symbols_among (nodes_of t) ≡ symbols_of t
symbols_same t = refl

-- ---- properties by their names

all_named : (P : Name → Type 0) (ps : List Property) → AllByRecursion P (map (λ (p : Property). p.name) ps) → AllByRecursion (λ (p : Property). P p.name) ps
all_named P [] h = tt
all_named P (p ∷ ps) h = (h.0, all_named P ps h.1)

module _ (es : Events) (fs : List Fragment) (t : Named NodeReference) (by : IsNamedIn es fs t) (is_named : IsNamed t) (numbers : List (Option ℕ)) (given : IsNumbering (asked_in t) numbers) where
  abbrev pub o : Overlay
  o = overlay_of es fs

  abbrev bare : Reading
  bare = instance_of numbers t

  abbrev symbols : List Property
  symbols = symbols_of t

  abbrev pub object : Reading
  object = with_nodes bare (object_nodes symbols t)

  abbrev cells : List (Name × Cell)
  cells = outside_cells t

  bare_stands : (p : Path) → stands_in bare p ≡ o.stands p
  bare_stands p = stands_same es fs t by is_named numbers given p

  -- the tree has no bookkeeping nodes
  pub has_none : HasNone bare.children
  has_none x h = step (sibling bare.children x) refl
    where
      step : (y : Option Node) → sibling bare.children x ≡ y → y ≡ None
      step None e = refl
      step (Some c) e =
          let there : stands_in bare (x ∷ []) ≡ true = ap (λ y. is_some (option_and_then (λ c. tree.node_below c []) y)) e in
          absurd (true≢false (sym h ∙ by.overlay.plain (x ∷ []) (sym (bare_stands (x ∷ [])) ∙ there)))

  -- ---- labels

  symbols_by : AreSymbols es (paths_of t) symbols
  symbols_by =
      subst (AreSymbols es (paths_of t)) (symbols_same t) (symbols_are es (nodes_of t)
      (λ x i.
      let a = listed_at t x (named_apart t is_named) i in
      subst (λ (c : Content NodeReference). AreLabelsInOrder es x.path c.labels) a.same (by.tree.order.labels x.path a.node a.is)))

  apart_paths : AreDistinct (paths_of t)
  apart_paths = paths_distinct t (named_apart t is_named)

  pub label_value : (l : Name) → value_of symbols l ≡ option_map path_value (o.label l)
  label_value l =
      symbol_value es by.sound (paths_of t) symbols apart_paths symbols_by
      (λ p there.
      let c = stands_node es o.value t by.tree p there in
      in_map (λ (x : NamedPlaced NodeReference). x.path) (nodes_of t) (record { path = p; content = (c.0).content }) (at_listed t p c.0 c.1)) l

  -- ---- cells that wait for labels

  label_of : (l : Name) → IsIn l (first_labels cells) → IsLabel l
  label_of l i = let w = label_from cells l i in waiting_label es o t by.tree is_named l w.0 w.1

  fixups_are : AreProperties (fixups cells)
  fixups_are = record {
    named = all_named IsPropertyName (fixups cells) (subst (AllByRecursion IsPropertyName) (sym (names_of_fixups cells)) (each_from IsPropertyName (first_labels cells) (λ l i. label_is_name l (label_of l i))));
    distinct = subst AreDistinct (sym (names_of_fixups cells)) (labels_once cells);
  }

  no_fixup_phandle : value_of (fixups cells) (codes "phandle") ≡ None
  no_fixup_phandle =
      no_value (fixups cells) (codes "phandle")
      (subst (AllByRecursion (λ y. y ≢ codes "phandle")) (sym (names_of_fixups cells)) (each_from (λ y. y ≢ codes "phandle") (first_labels cells) (λ l i. (label_of l i).not_phandle)))

  -- ---- a blob may hold it

  none_written : (x : NamedPlaced NodeReference) → IsIn x (nodes_of t) → named.value_of x.content.properties (codes "phandle") ≡ None
  none_written x i =
      let a = listed_at t x (named_apart t is_named) i in
      ap (λ (c : Content NodeReference). named.value_of c.properties (codes "phandle")) (sym a.same) ∙ no_phandle es fs t by x.path a.node a.is

  pub object_valid : IsValid object
  object_valid =
      valid_object symbols t bare has_none (instances.valid t numbers is_named given)
      (labels.symbols_are es by.sound (paths_of t) symbols apart_paths symbols_by by.labels) (labels.no_phandle es by.sound (paths_of t) symbols apart_paths symbols_by by.labels)
      fixups_are no_fixup_phandle
      (local_are (1 + node_count t.children) t.content is_named.root) (no_local_phandle t.content (none_written (record { path = []; content = t.content }) (inl refl)))
      (mirror_nodes (1 + node_count t.children) 1 t.children is_named.nodes) (mirror_distinct t.children is_named.siblings) (mirror_phandles [] t.children (λ x i. none_written x (inr i)))
