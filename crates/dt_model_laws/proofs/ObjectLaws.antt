-- The tree that an overlay's source is compiled to: a blob may hold it, and it is an object of what the source means, where
-- its values aren't too long.
use Rattle.std.proofs.Common.{◌≡◌, ℕ, ◌+◌, ◌<◌, ◌≤◌, ◌^◌, List, [], ◌∷◌, length, map, is_some, refl, sym, ap, subst, ◌∙◌, Some, None, arith}
use Rattle.std.specs.Prelude.{if◌then◌else◌}
use Rattle.std.specs.List.{AllByRecursion}
use Rattle.std.specs.Option.{option_map}
use Rattle.dt_model.specs.Limits.{most_nodes}
use Rattle.dt_model.specs.Path.{Path}
use Rattle.dt_model.specs.Lists.{IsIn, FallBy, AreInOrder}
use Rattle.dt_model.specs.Meaning.{cell, value_bytes}
use Rattle.dt_model.specs.Event.{age}
use Rattle.dt_model.specs.Source.{Events, Place, IsPlace}
use Rattle.dt_model.specs.Fixups.{IsObjectOf}
use Rattle.dt_model.specs.Instance.{followed_by, symbols_of, instance_of}
use Rattle.dt_model.specs.Object.{references_from, Encodes}
use Rattle.dt_model.specs.Overlay.{OverlayReference, object_number, reference_renamed, Fragment, Overlay, IsOverlay, content}
use Rattle.dt_model.specs.OverlaySource.{root_children, OverlayMeans, overlay_of}
use Rattle.dt_model.specs.Tree.{Forest, no_nodes, branch, Reading, value_in}
use Rattle.dt_model.specs.Valid as valid
use Rattle.dt_model.specs.Valid.{IsValid}
use Rattle.dt_model.specs.Named as named
use Rattle.dt_model.specs.Named.{NodeReference, Named, NamedPlaced, root_of, nodes_of, paths_of}
use Rattle.dt_model.specs.NamedOf.{IsNamedBy, IsNamed, path_among, meant}
use Rattle.dt_model_laws.specs.OverlayTrees.{ObjectIsValid}
use Rattle.dt_model_laws.specs.ShortValues.{HasShortValues, ShortObjectEncodes}
use Rattle.dt_model.proofs.Tests.{in_map}
use Rattle.dt_model_laws.proofs.Holding.{Holds, label_follows}
use Rattle.dt_model_laws.proofs.OverlayHolding.{overlay_rules, holds-overlay_start, holds-overlay}
use Rattle.dt_model_laws.proofs.Overlays.{source_overlay}
use Rattle.dt_model_laws.proofs.NamedListed.{listed_at}
use Rattle.dt_model_laws.proofs.NamedValues.{listed_value}
use Rattle.dt_model_laws.proofs.NamedSources.{value_same}
use Rattle.dt_model_laws.proofs.NamedOverlays.{overlay_is_named}
use Rattle.dt_model_laws.proofs.AskedNumbers.{named_apart, content_is}
use Rattle.dt_model_laws.proofs.NumberedTrees.{names_same, count_same}
use Rattle.dt_model_laws.proofs.OverlayParts.{parts_left}
use Rattle.dt_model_laws.proofs.KeyedInOverlays.{IsNamedIn, no_phandle}
use Rattle.dt_model_laws.proofs.ObjectInstances.{number, numbers_low, numbers_high, numbers_own, stands_same, values_same}
use Rattle.dt_model_laws.proofs.FragmentOrder.{fragments_in_order}
use Rattle.dt_model_laws.proofs.ReferenceCells.{renamed_references, offset_within}
use Rattle.dt_model_laws.proofs.MirroredCells.{HasLowOffsets}
use Rattle.dt_model_laws.proofs.ObjectTrees.{with_nodes, value_elsewhere, object_nodes, are_bookkeeping, object_is}
use Rattle.dt_model_laws.proofs.ObjectMeant as meaning
use Rattle.dt_model_laws.proofs.ObjectEncoded.{encoded}

-- there are no fewer nodes with some behind them
no_fewer : (fs gs : Forest) → valid.node_count fs ≤ valid.node_count (followed_by fs gs)
no_fewer no_nodes gs = omega arith
no_fewer (branch x ps c s) gs = let more = no_fewer s gs in omega (arith, more)

module _ (places : List Place) (valid_places : AllByRecursion IsPlace places) (u : Reading) (i : IsObjectOf places u) (few : 1 + valid.node_count u.children ≤ most_nodes) where
  abbrev t : Named NodeReference
  t = i.named

  abbrev means : OverlayMeans places i.of_places.overlay
  means = i.of_places.means

  abbrev es : Events
  es = means.so_far.source.events

  abbrev fs : List Fragment
  fs = i.of_places.overlay.fragments

  abbrev o : Overlay
  o = overlay_of es fs

  is : i.of_places.overlay ≡ o
  is = means.means

  holds : Holds overlay_rules means.so_far.source
  holds = holds-overlay (root_children None places) _ means.so_far places holds-overlay_start valid_places means.all_read

  by : IsNamedIn es fs t
  by = record {
    tree = subst (λ (q : Overlay). IsNamedBy es q.value t) is i.of_places.tree;
    sound = holds.sound;
    overlay = subst IsOverlay is (source_overlay places i.of_places.overlay valid_places means);
    left = parts_left (root_children None places) means.so_far places means.all_read;
    labels = λ l p h. label_follows overlay_rules es l p holds.each h;
  }

  abbrev bare : Reading
  bare = instance_of i.numbers t

  abbrev object : Reading
  object = with_nodes bare (object_nodes (symbols_of t) t)

  same : u ≡ object
  same = i.is ∙ object_is (symbols_of t) t bare

  fewer : 1 + named.node_count t.children ≤ most_nodes
  fewer =
      let all : 1 + valid.node_count object.children ≤ most_nodes = subst (λ (r : Reading). 1 + valid.node_count r.children ≤ most_nodes) same few in
      let a = no_fewer bare.children (object_nodes (symbols_of t) t) in
      let b = count_same i.numbers 1 t.children in
      omega (arith, all, a, b)

  is_named : IsNamed t
  is_named = overlay_is_named places t i.fragments valid_places fewer i.of_places

  may_hold : IsValid u
  may_hold = subst IsValid (sym same) (meaning.object_valid es fs t by is_named i.numbers i.numbering)

  abbrev numbered : Path → ℕ
  numbered = number es fs t by is_named i.numbers i.numbering

  -- ---- where values are short

  module _ (short : HasShortValues u) where
    low : (x : NamedPlaced NodeReference) → IsIn x (nodes_of t) → HasLowOffsets x.content
    low x j p k r l =
        let a = listed_at t x (named_apart t is_named) j in
        let v = listed_value x.content.properties p (content_is t is_named x j).distinct k in
        let value : o.value x.path p.name ≡ Some (meant t p.value) =
        sym (value_same es o.value t by.tree x.path a.node p.name a.is) ∙ ap (λ c. option_map (meant t) (named.value_of c.properties p.name)) a.same ∙ ap (option_map (meant t)) v in
        let there = ap is_some value in
        let bytes : List ℕ = value_bytes (object_number numbered) (meant t p.value) in
        let in_bare : value_in bare x.path p.name ≡ Some bytes =
        values_same es fs t by is_named i.numbers i.numbering x.path p.name
        ∙ ap (λ b. if b then (if o.keyed x.path then Some (cell (numbered x.path)) else None) else option_map (value_bytes (object_number numbered)) (o.value x.path p.name)) (by.overlay.values_named x.path p.name there).1
        ∙ ap (option_map (value_bytes (object_number numbered))) value in
        let in_object : value_in object x.path p.name ≡ Some bytes =
        value_elsewhere bare (object_nodes (symbols_of t) t) (are_bookkeeping (symbols_of t) t) (meaning.has_none es fs t by is_named i.numbers i.numbering) x.path p.name
        (by.overlay.plain x.path (by.overlay.values_stand x.path p.name there)) ∙ in_bare in
        let fits : length bytes < 2 ^ 32 = short x.path p.name bytes (ap (λ (r : Reading). value_in r x.path p.name) same ∙ in_object) in
        let renamed : NodeReference → OverlayReference = reference_renamed (path_among (paths_of t)) in
        let cell_there : IsIn (r.0, renamed r.1) (references_from 0 (meant t p.value)) =
        subst (IsIn (r.0, renamed r.1)) (sym (renamed_references renamed 0 p.value)) (in_map (λ (y : ℕ × NodeReference). (y.0, renamed y.1)) (references_from 0 p.value) r l) in
        let within : r.0 + 4 ≤ 0 + length bytes = offset_within (object_number numbered) 0 (meant t p.value) (r.0, renamed r.1) cell_there in
        omega (arith, fits, within)

    falls : FallBy (λ f. age es (f ∷ [])) (valid.names bare.children)
    falls = subst (FallBy (λ f. age es (f ∷ []))) (sym (names_same i.numbers 1 t.children)) (by.tree.order.children [] (root_of t) refl).sorted

    ordered : AreInOrder (λ f. age es (f ∷ [])) (λ f. o.stands (content f)) (map (λ (f : Fragment). f.name) fs)
    ordered = subst (λ (q : Overlay). AreInOrder (λ f. age es (f ∷ [])) (λ f. q.stands (content f)) (map (λ (f : Fragment). f.name) fs)) is means.ordered

    of_object : Encodes object o numbered
    of_object =
        encoded o by.overlay es t by.tree by.tree.nodes (no_phandle es fs t by) is_named bare numbered (meaning.has_none es fs t by is_named i.numbers i.numbering)
        (stands_same es fs t by is_named i.numbers i.numbering) (values_same es fs t by is_named i.numbers i.numbering)
        (symbols_of t) (meaning.label_value es fs t by is_named i.numbers i.numbering) low
        (numbers_low es fs t by is_named i.numbers i.numbering) (numbers_high es fs t by is_named i.numbers i.numbering)
        (numbers_own es fs t by is_named i.numbers i.numbering)
        (fragments_in_order (λ f. age es (f ∷ [])) bare o by.overlay (λ f. stands_same es fs t by is_named i.numbers i.numbering (content f)) falls ordered)

    pub of_source : (q : Overlay) × (number : Path → ℕ) × OverlayMeans places q × Encodes u q number
    of_source = (i.of_places.overlay, numbered, means, subst (λ (r : Reading). Encodes r i.of_places.overlay numbered) (sym same) (subst (λ (q : Overlay). Encodes object q numbered) (sym is) of_object))

pub object_valid : ObjectIsValid
object_valid places t valid_places i few = may_hold places valid_places t i few

pub short_object_encodes : ShortObjectEncodes
short_object_encodes places t valid_places i few short = of_source places valid_places t i few short
