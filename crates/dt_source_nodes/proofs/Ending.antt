-- The nodes that were listed are those of the events; and why none were.
use Rattle.std.proofs.Common.{◌≡◌, ◌≢◌, ℕ, zero, suc, ◌<◌, Bool, true, false, not, ◌&&◌, cond, List, [], ◌∷◌, map, length, reverse, Option, None, Some, IsSome, is_some, option_map, slice_get, codes, refl, sym, ap, subst, ◌∙◌, ◌⊎◌, inl, inr, arith}
use Rattle.std.specs.List.{AllByRecursion}
use Rattle.std.specs.Option.{option_and_then}
use Rattle.std.specs.Str.{bytes_eq}
use Rattle.std.proofs.lemmas.Option.{slice_get-map}
use Rattle.dt_model.specs.Limits.{most_names}
use Rattle.dt_model.specs.Names.{Name}
use Rattle.dt_model.specs.Event.{Stack, stands, value_at}
use Rattle.dt_model.specs.Path.{Path}
use Rattle.dt_model.specs.Meaning.{Item, item_renamed}
use Rattle.dt_model.specs.Overlay.{inside, OverlayReference}
use Rattle.dt_model.specs.NamedOf.{bound_values}
use Rattle.dt_model.specs.Source.{Part, one, number_of, text_of, Events, all_bound, number_of_parts, written_number, IsResolved, HasUnresolved, HasBadPhandle, HasDuplicatePhandle}
use Rattle.dt_model.specs.Lists.{IsIn}
use Rattle.dt_model.specs.Named.{NodeReference, Content, Listed, Named, nodes_of}
use Rattle.dt_model.proofs.Tests.{and_left, and_right, and_both, bytes_eq_true, bytes_eq_refl, in_map}
use Rattle.dt_model.proofs.Cases.{map_some, then_some, some_there}
use Rattle.dt_names.specs.declared.fault.Fault.{Fault}
use Rattle.dt_names.specs.declared.fault.FaultKind.{FaultKind}
use Rattle.dt_names.specs.declared.fault.FaultKind.TheVariants as fault
use Rattle.dt_source_growing.specs.declared.growing.Node.{Node}
use Rattle.dt_source_growing.specs.declared.growing.Property.{Property}
use Rattle.dt_source_growing.specs.declared.growing.Growing.{Growing}
use Rattle.dt_source_nodes.specs.declared.belongings.Belongings.{Belongings}
use Rattle.dt_source_nodes.specs.declared.listing.Row.{Row}
use Rattle.dt_source_growing.specs.Grown.{StandsUnder, HasValue, value_held}
use Rattle.dt_source_nodes.specs.Owned.{group_of}
use Rattle.dt_source_nodes.specs.Listing.{name_of, AreRows, ArePlaces, tree_with, listed_row}
use Rattle.dt_source_growing.specs.declared.referring.Unnamed.{Unnamed}
use Rattle.dt_source_growing.specs.declared.referring.Unnamed.TheVariants.{Refused, Kept}
use Rattle.dt_source_nodes.specs.Contents.{property_owner, AreNamedBy, IsLabelledPart, AreLabelled, all_read, read_values, AreResolved}
use Rattle.dt_source_nodes.specs.Resolving.{IsGrownBy, EachNaming, AreRead, AreRowsRead, content_by, WhyUnreadAmong, Belong}
use Rattle.dt_source_nodes.specs.Phandles.{has_place, is_phandle, phandle_written, AreWritten, AreOwn, HasUnwritten, HasTwice, WhyUnnumbered}
use Rattle.dt_source_nodes.specs.Nodes.{AreFilled, IsUnfilled, AreNodes, WhyNoNodes, HasUnread, AreNodesBy, AreNodesAfter, WhyNotAfter}
use Rattle.dt_source_nodes.proofs.ChildrenLed.{AreChildren, are_children, leads_once, leads_root, leads_within}
use Rattle.dt_source_nodes.proofs.Walking.{walk, rows-nodes}
use Rattle.dt_source_nodes.proofs.Placing.{Pairwise, IsPlacedAt, forest-placed}
use Rattle.dt_source_nodes.proofs.Binding.{map_keeps, parts_bound}
use Rattle.dt_source_nodes.proofs.Filling.{owner_stands}
use Rattle.dt_source_nodes.proofs.Meant.{place_by, named_by, list_is, named_after}

-- ---- lists

pair_of : {X Y : Type 0} (R : X → Y → Type 0) (xs : List X) (ys : List Y) (y : Y) → Pairwise R xs ys → IsIn y ys → (x : X) × R x y
pair_of R [] [] y h i = absurd i
pair_of R [] (z ∷ ys) y h i = absurd h
pair_of R (x ∷ xs) [] y h i = absurd h
pair_of R (x ∷ xs) (z ∷ ys) y h (inl e) = (x, subst (R x) (sym e) h.0)
pair_of R (x ∷ xs) (z ∷ ys) y h (inr i) = pair_of R xs ys y h.1 i

in_from : {X : Type 0} (xs : List X) (j : ℕ) (x : X) → slice_get xs j ≡ Some x → IsIn x xs
in_from [] j x h = cc
in_from (y ∷ xs) zero x h = let same : y ≡ x = cc in inl (sym same)
in_from (y ∷ xs) (suc j) x h = inr (in_from xs j x h)

-- ---- tests

not_none : {X : Type 0} (o : Option X) → is_some o ≡ true → o ≡ None → ⊥
not_none None h e = cc
not_none (Some x) h e = cc

some_or_none : {X : Type 0} (o : Option X) → is_some o ≡ false → o ≡ None
some_or_none None h = refl
some_or_none (Some x) h = cc

not_false : (b : Bool) → not b ≡ false → b ≡ true
not_false true h = refl
not_false false h = cc

not_true : (b : Bool) → not b ≡ true → b ≡ false
not_true true h = cc
not_true false h = refl

and_false : (a b : Bool) → a ≡ true → (a && b) ≡ false → b ≡ false
and_false true b h e = e
and_false false b h e = cc

cond_some : {X : Type 0} (b : Bool) (o : Option X) (x : X) → cond b o None ≡ Some x → (b ≡ true) × (o ≡ Some x)
cond_some true o x h = (refl, h)
cond_some false o x h = cc

-- ---- a base's values

bound_some : (es : Events) (v : List Part) → is_some (all_bound es v) ≡ is_some (all_read Refused es v)
bound_some es v = sym (map_keeps (map (item_renamed inside)) (all_bound es v)) ∙ ap is_some (parts_bound es v)

unbound : (es : Events) (v : List Part) → all_read Refused es v ≡ None → all_bound es v ≡ None
unbound es v none = some_or_none (all_bound es v) (bound_some es v ∙ ap is_some none)

bound_read : (es : Events) (p : Path) (x : Name) → read_values Refused es p x ≡ bound_values es p x
bound_read es p x = step (value_at es (reverse p) x)
  where
    step : (o : Option (List Part)) → option_and_then (all_read Refused es) o ≡ option_map (map (item_renamed inside)) (option_and_then (all_bound es) o)
    step None = refl
    step (Some v) = sym (parts_bound es v)

none_kept : (v : List Part) → AllByRecursion (IsLabelledPart Refused) v
none_kept [] = tt
none_kept (one b ∷ v) = (tt, none_kept v)
none_kept (number_of r ∷ v) = (λ l e. cc, none_kept v)
none_kept (text_of r ∷ v) = (tt, none_kept v)

-- nodes of values that are the same
nodes_same : (es : Events) (value other : Path → Name → Option (List (Item OverlayReference))) (ns : List (Listed NodeReference)) → ((p : Path) (x : Name) → value p x ≡ other p x) →
    AreNodesBy es value ns → AreNodesBy es other ns
nodes_same es value other ns same h = record {
  tree = h.tree;
  reservations = h.reservations;
  list = h.list;
  named = λ rs. let named = h.named rs in record { nodes = named.nodes; values = λ p x. named.values p x ∙ same p x; referred = named.referred; order = named.order };
}

module _ (g : Growing) (b : Belongings) (rows : List Row) (are : AreRows g.nodes.items rows) (belong : Belong g b)
    (ordered : ArePlaces rows (length g.nodes.items) b.places.items) (es : Events) (grown : IsGrownBy g es) (root : stands es [] ≡ true) where
  abbrev nodes : List Node
  nodes = g.nodes.items

  abbrev properties : List Property
  properties = g.properties.items

  abbrev places : List (Option ℕ)
  places = b.places.items

  rooted : StandsUnder g.nodes.items [] 0
  rooted = let w = grown.nodes_are [] root in (refl, leads_root nodes [] w.0 w.1)

  children_are : AreChildren g.nodes.items are.children
  children_are = are_children nodes are.children are.owned

  abbrev place : Stack → ℕ
  place = place_by (name_of g.nodes.items) are.children b.places.items

  all_nodes : map (λ (r : Row). r.node) rows ≡ 0 ∷ walk are.children most_names 0
  all_nodes = ap (map (λ (r : Row). r.node)) are.are ∙ ap (λ (ks : List ℕ). 0 ∷ ks) (rows-nodes are.children most_names 0 0)

  named : AreNamedBy g.nodes.items b.places.items (length rows) place
  named = named_by nodes are.children children_are grown.one_node rows all_nodes grown.shallow places ordered

  -- the row of a node that stands
  row_of : (p : Stack) (k : ℕ) → StandsUnder g.nodes.items p k → (r : Row) × IsIn r rows × (r.node ≡ k)
  row_of p k h = let w = ordered.sound k (place p) (named.there p k h) in (w.0, in_from rows (place p) w.0 w.1, w.2)

  -- the names that lead to the node of a row
  led_to : (r : Row) → IsIn r rows → (p : Stack) × StandsUnder g.nodes.items p r.node
  led_to r among =
      let none : ℕ → Content NodeReference = λ k. record { labels = []; properties = [] } in
      let at_row = IsPlacedAt nodes are.children children_are none in
      let all : Pairwise at_row (nodes_of (tree_with [] (name_of nodes) none are.children)) (0 ∷ walk are.children most_names 0) =
      ((rooted, refl), forest-placed nodes are.children children_are none most_names 0 [] rooted) in
      let here : IsIn r.node (0 ∷ walk are.children most_names 0) = subst (IsIn r.node) all_nodes (in_map (λ (q : Row). q.node) rows r among) in
      let pair = pair_of at_row (nodes_of (tree_with [] (name_of nodes) none are.children)) (0 ∷ walk are.children most_names 0) r.node all here in
      (reverse pair.0.path, pair.1.0)

  -- a property at an index that belongs to a node that stands
  value_in : (p : Stack) (k i : ℕ) (q : Property) → StandsUnder g.nodes.items p k → IsIn i (group_of b.properties k) → slice_get g.properties.items i ≡ Some q →
      HasValue g.nodes.items g.properties.items p q.name.now (value_held q.value) i
  value_in p k i q h among there =
      let found = map_some property_owner (slice_get properties i) (Some k) (sym (slice_get-map property_owner properties i) ∙ belong.properties.sound k i among) in
      let at = found.1 in
      let same : found.0 ≡ q = cc in
      let owner = owner_stands q k (ap property_owner (sym same) ∙ found.2) in
      record { property = q; there = there; stands = owner.0; named = refl; value = refl; node = subst (StandsUnder nodes p) (sym owner.1) h }

  place_of : (p : Stack) (i : ℕ) (q : Property) → slice_get g.properties.items i ≡ Some q → q.stands ≡ true → StandsUnder g.nodes.items p q.node → IsIn i (group_of b.properties q.node)
  place_of p i q there stood h =
      let owner : property_owner q ≡ Some q.node = ap (λ (t : Bool). cond t (Some q.node) None) stood in
      let at : slice_get (map property_owner properties) i ≡ Some (Some q.node) =
      slice_get-map property_owner properties i ∙ (ap (option_map property_owner) there ∙ ap (λ (o : Option ℕ). Some o) owner) in
      belong.properties.complete q.node i (leads_within nodes p q.node h) at

  -- ---- the property `phandle`

  abbrev phandle : Name
  phandle = codes "phandle"

  -- it is found by its test
  phandle_there : (p : Stack) (v : List Part) (i : ℕ) (h : HasValue g.nodes.items g.properties.items p (codes "phandle") v i) → is_phandle b.places.items h.property ≡ true
  phandle_there p v i h =
      let given : has_place places h.property.node ≡ true =
      ap (λ (o : Option (Option ℕ)). is_some (option_and_then (λ n. n) o)) (named.there p h.property.node h.node) in
      let name : bytes_eq h.property.name.now phandle ≡ true = ap (λ (x : Name). bytes_eq x phandle) h.named ∙ bytes_eq_refl phandle in
      and_both (h.property.stands && has_place places h.property.node) (bytes_eq h.property.name.now phandle)
      (and_both h.property.stands (has_place places h.property.node) h.stands given) name

  -- and what the test finds is one of a node that stands
  phandle_found : (i : ℕ) (q : Property) → slice_get g.properties.items i ≡ Some q → is_phandle b.places.items q ≡ true →
      (p : Stack) × HasValue g.nodes.items g.properties.items p (codes "phandle") (value_held q.value) i × StandsUnder g.nodes.items p q.node
  phandle_found i q there h =
      let name_is = and_right (q.stands && has_place places q.node) (bytes_eq q.name.now phandle) h in
      let rest = and_left (q.stands && has_place places q.node) (bytes_eq q.name.now phandle) h in
      let stood = and_left q.stands (has_place places q.node) rest in
      let given = some_there (option_and_then (λ n. n) (slice_get places q.node)) (and_right q.stands (has_place places q.node) rest) in
      let inner = then_some (λ (n : Option ℕ). n) (slice_get places q.node) given.0 given.1 in
      let at : slice_get places q.node ≡ Some (Some given.0) = inner.1 ∙ ap (λ (o : Option ℕ). Some o) inner.2 in
      let row = ordered.sound q.node given.0 at in
      let led = led_to row.0 (in_from rows given.0 row.0 row.1) in
      let node : StandsUnder nodes led.0 q.node = subst (StandsUnder nodes led.0) row.2 led.1 in
      (led.0, record { property = q; there = there; stands = stood; named = bytes_eq_true q.name.now phandle name_is; value = refl; node = node }, node)

  -- ---- what is read is resolved

  pub resolved : (unnamed : Unnamed) → ((r : Row) → IsIn r rows → AreRead unnamed es g.properties.items (group_of b.properties r.node)) →
      AreResolved unnamed g.nodes.items g.properties.items es
  resolved unnamed read i q p there stood h =
      let row = row_of p q.node h in
      read row.0 row.1 i q (subst (λ (k : ℕ). IsIn i (group_of b.properties k)) (sym row.2) (place_of p i q there stood h)) there

  no_unresolved : AreResolved Refused g.nodes.items g.properties.items es → HasUnresolved es → ⊥
  no_unresolved all h =
      let value = grown.values_are h.0 h.1 h.2 h.3 in
      let w = value.1 in
      let some : is_some (all_bound es (value_held w.property.value)) ≡ true =
      bound_some es (value_held w.property.value) ∙ all value.0 w.property h.0 w.there w.stands w.node in
      not_none (all_bound es h.2) (ap (λ (v : List Part). is_some (all_bound es v)) (sym w.value) ∙ some) h.4

  written_there : AreWritten b.places.items g.properties.items → (p : Stack) (v : List Part) → value_at es p (codes "phandle") ≡ Some v → is_some (number_of_parts v) ≡ true
  written_there all p v e =
      let value = grown.values_are p phandle v e in
      let w = value.1 in
      let here = phandle_there p v value.0 w in
      let some : not (is_some (number_of_parts (value_held w.property.value))) ≡ false = and_false (is_phandle places w.property) (not (is_some (number_of_parts (value_held w.property.value)))) here (all value.0 w.property w.there) in
      ap (λ (u : List Part). is_some (number_of_parts u)) (sym w.value) ∙ not_false (is_some (number_of_parts (value_held w.property.value))) some

  written_here : (p : Stack) (n : ℕ) → written_number es p ≡ Some n → (i : ℕ) × (q : Property) × (slice_get g.properties.items i ≡ Some q) × (phandle_written b.places.items q ≡ Some n) × StandsUnder g.nodes.items p q.node
  written_here p n e =
      let v = then_some number_of_parts (value_at es p phandle) n e in
      let value = grown.values_are p phandle v.0 v.1 in
      let w = value.1 in
      let here = phandle_there p v.0 value.0 w in (
        value.0,
        w.property,
        w.there,
        ap (λ (t : Bool). cond t (number_of_parts (value_held w.property.value)) None) here ∙ (ap number_of_parts w.value ∙ v.2),
        w.node,
      )

  pub is_resolved : AreResolved Refused g.nodes.items g.properties.items es → AreWritten b.places.items g.properties.items → AreOwn b.places.items g.properties.items → IsResolved es
  is_resolved all written_all own = record {
    bound_to = λ p x v e.
        let value = grown.values_are p x v e in
        let w = value.1 in
        subst (λ (u : List Part). IsSome (all_bound es u)) w.value (bound_some es (value_held w.property.value) ∙ all value.0 w.property p w.there w.stands w.node);
    numbered = λ p v e. written_there written_all p v e;
    own = λ p q n e f.
        let first = written_here p n e in
        let second = written_here q n f in
        let same : first.0 ≡ second.0 = own first.0 second.0 first.1 second.1 n first.2 second.2 first.3 second.3 in
        let at : slice_get properties first.0 ≡ Some second.1 = ap (slice_get properties) same ∙ second.2 in
        let there = first.2 in
        let one : first.1 ≡ second.1 = cc in
        leads_once nodes p q first.1.node first.4 (subst (λ (r : Property). StandsUnder nodes q r.node) (sym one) second.4);
  }

  -- ---- refusals

  -- a reference that isn't read
  pub unread_refused : (r : Row) → IsIn r rows → (kind : FaultKind) → WhyUnreadAmong Refused es g.properties.items (group_of b.properties r.node) kind → WhyNotAfter es kind
  unread_refused r among fault.NoMemory h = tt
  unread_refused r among fault.UnresolvedReference h =
      let led = led_to r among in
      let q = h.1 in
      let value = value_in led.0 r.node h.0 q led.1 h.2 h.3 in
      (led.0, q.name.now, value_held q.value, grown.values_stand led.0 q.name.now (value_held q.value) h.0 value, unbound es (value_held q.value) h.4)
  unread_refused r among kind h = absurd h

  pub unread_there : (unnamed : Unnamed) (r : Row) → IsIn r rows → (kind : FaultKind) → WhyUnreadAmong unnamed es g.properties.items (group_of b.properties r.node) kind →
      (kind ≡ fault.NoMemory) ⊎ HasUnread unnamed es
  unread_there unnamed r among fault.NoMemory h = inl refl
  unread_there unnamed r among fault.UnresolvedReference h =
      let led = led_to r among in
      let q = h.1 in
      let value = value_in led.0 r.node h.0 q led.1 h.2 h.3 in
      inr (led.0, q.name.now, value_held q.value, grown.values_stand led.0 q.name.now (value_held q.value) h.0 value, h.4)
  unread_there unnamed r among kind h = absurd h

  -- a `phandle` that writes none
  bad_there : HasUnwritten b.places.items g.properties.items → HasBadPhandle es
  bad_there h =
      let q = h.1 in
      let here = and_left (is_phandle places q) (not (is_some (number_of_parts (value_held q.value)))) h.3 in
      let none = not_true (is_some (number_of_parts (value_held q.value))) (and_right (is_phandle places q) (not (is_some (number_of_parts (value_held q.value)))) h.3) in
      let found = phandle_found h.0 q h.2 here in
      (found.0, value_held q.value, grown.values_stand found.0 phandle (value_held q.value) h.0 found.1, some_or_none (number_of_parts (value_held q.value)) none)

  no_bad : AreWritten b.places.items g.properties.items → HasBadPhandle es → ⊥
  no_bad all h = not_none (number_of_parts h.1) (written_there all h.0 h.1 h.2) h.3

  -- a phandle that is written twice
  twice_there : HasTwice b.places.items g.properties.items → HasDuplicatePhandle es
  twice_there h =
      let i = h.0 in
      let j = h.1 in
      let p = h.2 in
      let q = h.3 in
      let n = h.4 in
      let first = cond_some (is_phandle places p) (number_of_parts (value_held p.value)) n h.8 in
      let second = cond_some (is_phandle places q) (number_of_parts (value_held q.value)) n h.9 in
      let here = phandle_found i p h.6 first.0 in
      let there = phandle_found j q h.7 second.0 in (
        here.0,
        there.0,
        n,
        differ i j here.0 there.0 (value_held p.value) (value_held q.value) h.5 here.1 there.1,
        ap (option_and_then number_of_parts) (grown.values_stand here.0 phandle (value_held p.value) i here.1) ∙ first.1,
        ap (option_and_then number_of_parts) (grown.values_stand there.0 phandle (value_held q.value) j there.1) ∙ second.1,
      )
    where
      differ : (i j : ℕ) (p q : Stack) (v w : List Part) → i < j → HasValue g.nodes.items g.properties.items p (codes "phandle") v i →
          HasValue g.nodes.items g.properties.items q (codes "phandle") w j → p ≢ q
      differ i j p q v w below a c same =
          let at : HasValue g.nodes.items g.properties.items p (codes "phandle") w j = subst (λ (s : Stack). HasValue g.nodes.items g.properties.items s (codes "phandle") w j) (sym same) c in
          let one : i ≡ j = grown.one_value p (codes "phandle") v w i j a at in
          omega arith

  pub unnumbered_refused : AreResolved Refused g.nodes.items g.properties.items es → (kind : FaultKind) → WhyUnnumbered b.places.items g.properties.items kind → WhyNotAfter es kind
  unnumbered_refused all fault.NoMemory h = tt
  unnumbered_refused all fault.BadPhandle h = (no_unresolved all, bad_there h)
  unnumbered_refused all fault.DuplicatePhandle h = (no_unresolved all, no_bad h.0, twice_there h.1)
  unnumbered_refused all kind h = absurd h

  -- ---- the tree

  abbrev tree : Unnamed → List (ℕ × ℕ) → Named NodeReference
  tree unnamed reservations = tree_with reservations (name_of g.nodes.items) (content_by unnamed es place g b) are.children

  pub listed_by : (unnamed : Unnamed) → AreLabelled unnamed es → (ns : List (Listed NodeReference)) → EachNaming g b.places.items (λ es place. AreRowsRead unnamed es place g b rows ns) →
      AreNodesBy es (read_values unnamed es) ns
  listed_by unnamed labelled ns each = record {
    tree = tree unnamed;
    reservations = λ rs. refl;
    list = λ rs. read.0 ∙ (ap (map (listed_row (name_of nodes) (content_by unnamed es place g b))) are.are
        ∙ list_is nodes properties g.givings.items es grown rooted are.children children_are (group_of b.properties) (group_of b.labels)
        belong.properties belong.labels unnamed place rs);
    named = λ rs. named_after nodes properties g.givings.items es grown rooted are.children children_are (group_of b.properties) (group_of b.labels)
        belong.properties belong.labels unnamed place rs places (subst (λ (rs' : List Row). ArePlaces rs' (length nodes) places) are.are ordered)
        (subst (λ (rs' : List Row). AreNamedBy nodes places (length rs') place) are.are named) (resolved unnamed read.1) labelled;
  }
    where
      read : AreRowsRead unnamed es (place_by (name_of g.nodes.items) are.children b.places.items) g b rows ns
      read = each es place (length rows) grown named

  listed_after : (ns : List (Listed NodeReference)) → AreFilled Refused g b rows ns → AreNodesAfter es ns
  listed_after ns filled =
      let read = filled.read es place (length rows) grown named in record {
        resolved = is_resolved (resolved Refused read.1) (filled.written refl) (filled.own refl);
        nodes = nodes_same es (read_values Refused es) (bound_values es) ns (bound_read es) (listed_by Refused (λ p x v there. none_kept v) ns filled.read);
      }

  unlisted_after : (e : Fault) → IsUnfilled Refused g b rows e → WhyNotAfter es e.kind
  unlisted_after e (inl h) = unread_refused h.0 h.1 e.kind (h.2.1 es grown)
  unlisted_after e (inr h) = unnumbered_refused (resolved Refused (h.1 es place (length rows) grown named)) e.kind h.2.1

  -- a base's nodes and an overlay's
  pub nodes_listed : (unnamed : Unnamed) (ns : List (Listed NodeReference)) → AreFilled unnamed g b rows ns → AreNodes unnamed es ns
  nodes_listed Refused ns filled = listed_after ns filled
  nodes_listed Kept ns filled = λ labelled. listed_by Kept labelled ns filled.read

  pub nodes_unlisted : (unnamed : Unnamed) (e : Fault) → IsUnfilled unnamed g b rows e → WhyNoNodes unnamed es e.kind
  nodes_unlisted Refused e h = unlisted_after e h
  nodes_unlisted Kept e (inl h) = unread_there Kept h.0 h.1 e.kind (h.2.1 es grown)
  nodes_unlisted Kept e (inr h) = absurd (let z : Kept ≡ Refused = h.0 in cc)

-- no place is told
pub unplaced : (unnamed : Unnamed) (g : Growing) (b : Belongings) (rows : List Row) (e : Fault) → IsUnfilled unnamed g b rows e → e.at ≡ None
unplaced unnamed g b rows e (inl h) = h.2.0
unplaced unnamed g b rows e (inr h) = h.2.0
