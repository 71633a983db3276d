-- The instance of the named tree that places mean is the instance of their meaning.
use Rattle.std.proofs.Common.{◌≡◌, ℕ, suc, ◌+◌, ◌<◌, Bool, true, false, nat_lt, not, ◌&&◌, ◌||◌, List, [], ◌∷◌, ◌++◌, map, length, reverse, codes, is_some, refl, sym, ap, subst, ◌∙◌, Option, Some, None, true≢false, arith}
use Rattle.std.specs.Prelude.{unwrap_or, if◌then◌else◌}
use Rattle.std.specs.List.{AllByRecursion, list_any}
use Rattle.std.specs.Option.{option_map, option_and_then}
use Rattle.std.specs.Str.{bytes_eq}
use Rattle.std.proofs.lemmas.List.{length-map}
use Rattle.dt_model.specs.Names.{Name}
use Rattle.dt_model.specs.Path.{Path}
use Rattle.dt_model.specs.Meaning.{Item, byte, reference, item_renamed, EachReference, cell, value_bytes, Meaning, IsMeaning, IsNaming, instance_value}
use Rattle.dt_model.specs.Event.{value_at}
use Rattle.dt_model.specs.Source.{Place, IsPlace, Mode, Events, all_bound, meaning_of, SourceMeans}
use Rattle.dt_model.specs.Tree as tree
use Rattle.dt_model.specs.Tree.{Reading, Placed, Property, Node, value_of, stands_in, value_in}
use Rattle.dt_model.specs.Valid.{IsReservation}
use Rattle.dt_model.specs.Numbering.{Asked, IsNumberFor, IsNumbering, asked_by, numbers_by, HasLeastNumbers}
use Rattle.dt_model.specs.Ordered.{AreChildrenInOrder, ArePropertiesInOrder, unwritten, IsInOrder}
use Rattle.dt_model.specs.Named as named
use Rattle.dt_model.specs.Named.{NodeReference, Content, Named, NamedNode, NamedPlaced, NamedProperty, node_at, node_count, nodes_of, paths_of, written_in}
use Rattle.dt_model.specs.Overlay.{inside, outside, object_number, reference_renamed}
use Rattle.dt_model.specs.NamedOf.{IsBelow, bound_values, IsNamedOf, IsNamed, path_among, meant, has_reference_to, asked, asked_from, contents_of, asked_in}
use Rattle.dt_model.specs.Instance.{number_for, number_at, numbered_properties, instance_of, IsInstance, IsInstanceOf}
use Rattle.dt_model_laws.specs.NamedTrees.{InstanceIsMeant}
use Rattle.dt_model.proofs.Cases.{some_there}
use Rattle.dt_model.proofs.Tests.{bytes_eq_true, each_in}
use Rattle.dt_model_laws.proofs.Meanings.{source_meaning}
use Rattle.dt_model.proofs.Listed as listed
use Rattle.dt_model_laws.proofs.NamedListed.{listed_at, at_listed, length-nodes}
use Rattle.dt_model_laws.proofs.NamedPaths.{paths_distinct}
use Rattle.dt_model_laws.proofs.NamedValues.{property_names, value_listed}
use Rattle.dt_model_laws.proofs.NamedSources.{events, holds, stands_node, value_same, written_same}
use Rattle.dt_model_laws.proofs.Places.{HasAt, at_in, in_at, at_map, at_path, place, place_is, one_place, same_at}
use Rattle.dt_model_laws.proofs.AskedNumbers.{named_apart, content_is, length-numbered, distinct_numbers, in_range, number_is, written_is}
use Rattle.dt_model_laws.proofs.NumberedProperties.{numbered_value, other_value, phandle_value, phandle_names, phandle_names_are, phandle_written, names_numbered}
use Rattle.dt_model_laws.proofs.NumberedTrees.{instance_node, node_from, node_in, node_same, paths_numbered}
use Rattle.dt_model_laws.proofs.InstanceValid.{valid}
use Rattle.dt_model_laws.proofs.KeyedNodes.{same_tests, keyed_same}

or_first : (a b c : Bool) → a ≡ true → (a || b || c) ≡ true
or_first true b c h = refl
or_first false b c h = cc

-- ---- numbers of nodes

-- a node has a number exactly where it is keyed
number_if : (before : List ℕ) (written : Option ℕ) (keyed : Bool) (number : Option ℕ) → IsNumberFor before written keyed number → (is_some written ≡ true → keyed ≡ true)
    → (if keyed then Some (unwrap_or number 0) else None) ≡ number
number_if before (Some n) true number h k = rw h refl
number_if before (Some n) false number h k = absurd (true≢false (sym (k refl)))
number_if before None false number h k = sym h
number_if before None true None h k = absurd h
number_if before None true (Some n) h k = refl

-- a value whose references are renamed
abbrev IsNumberedBy : (numbers : List (Option ℕ)) (f : ℕ → Path) (number : Path → ℕ) → NodeReference → Type 0
IsNumberedBy numbers f number r = object_number number (reference_renamed f r) ≡ number_for numbers r

value_renamed : (numbers : List (Option ℕ)) (f : ℕ → Path) (number : Path → ℕ) (v : List (Item NodeReference)) → EachReference (IsNumberedBy numbers f number) v
    → value_bytes (object_number number) (map (item_renamed (reference_renamed f)) v) ≡ numbered_value numbers v
value_renamed numbers f number [] h = refl
value_renamed numbers f number (byte b ∷ v) h = ap (λ bs. b ∷ bs) (value_renamed numbers f number v h)
value_renamed numbers f number (reference r ∷ v) h =
    ap (λ y. cell y ++ value_bytes (object_number number) (map (item_renamed (reference_renamed f)) v)) h.0 ∙ ap (λ bs. cell (number_for numbers r) ++ bs) (value_renamed numbers f number v h.1)

-- a base's value has no other references
value_inside : (number : Path → ℕ) (items : List (Item Path)) → value_bytes (object_number number) (map (item_renamed inside) items) ≡ value_bytes number items
value_inside number [] = refl
value_inside number (byte b ∷ items) = ap (λ bs. b ∷ bs) (value_inside number items)
value_inside number (reference p ∷ items) = ap (λ bs. cell (number p) ++ bs) (value_inside number items)

all_inside : (number : Path → ℕ) (o : Option (List (Item Path))) → option_map (value_bytes (object_number number)) (option_map (map (item_renamed inside)) o) ≡ option_map (value_bytes number) o
all_inside number None = refl
all_inside number (Some items) = ap (λ (bs : List ℕ). Some bs) (value_inside number items)

each_mapped : (P Q : NodeReference → Type 0) → ((k : NodeReference) → P k → Q k) → (v : List (Item NodeReference)) → EachReference P v → EachReference Q v
each_mapped P Q f [] h = tt
each_mapped P Q f (byte b ∷ v) h = each_mapped P Q f v h
each_mapped P Q f (reference k ∷ v) h = (f k h.0, each_mapped P Q f v h.1)

-- ---- lists of what is asked

-- what is asked of the nodes' paths is what is asked of the nodes
asked_same : (m : Meaning) (all : List (Content NodeReference)) (k : ℕ) (ns : List (NamedPlaced NodeReference))
    → ((j i : ℕ) (n : NamedPlaced NodeReference) → i ≡ k + j → HasAt j n ns → ◌≡◌ {A = Asked} (record { written = m.number n.path; keyed = m.keyed n.path }) (asked all i n.content))
    → asked_by m (map (λ (n : NamedPlaced NodeReference). n.path) ns) ≡ asked_from all k (map (λ (n : NamedPlaced NodeReference). n.content) ns)
asked_same m all k [] same = refl
asked_same m all k (n ∷ ns) same =
    ap (λ a. a ∷ asked_by m (map (λ (n : NamedPlaced NodeReference). n.path) ns)) (same 0 k n (omega arith) refl)
    ∙ ap (λ xs. asked all k n.content ∷ xs) (asked_same m all (suc k) ns (λ j i x e h. same (suc j) i x (omega arith) h))

-- a list whose elements are those of other places
listed_same : (f : Path → Option ℕ) (ns : List (NamedPlaced NodeReference)) (numbers : List (Option ℕ)) → length numbers ≡ length ns
    → ((j : ℕ) (n : NamedPlaced NodeReference) → HasAt j n ns → f n.path ≡ number_at numbers j) → map f (map (λ (n : NamedPlaced NodeReference). n.path) ns) ≡ numbers
listed_same f [] [] e same = refl
listed_same f [] (o ∷ numbers) e same = absurd (omega arith)
listed_same f (n ∷ ns) [] e same = absurd (omega arith)
listed_same f (n ∷ ns) (o ∷ numbers) e same =
    let first = same 0 n refl in
    let rest = listed_same f ns numbers (omega arith) (λ j x h. same (suc j) x h) in
    λ i. first i ∷ rest i

module _ (mode : Mode) (reservations : List (ℕ × ℕ)) (places : List Place) (t : Named NodeReference) (numbers : List (Option ℕ)) (some : 0 < length places)
    (valid_places : AllByRecursion IsPlace places) (reserved : AllByRecursion IsReservation reservations) (n : IsNamedOf mode reservations places t) (is_named : IsNamed t)
    (given : IsNumbering (asked_in t) numbers) where
  abbrev pub es : Events
  es = events mode reservations places t n

  abbrev pub m : Meaning
  m = meaning_of reservations es

  abbrev pub instance : Reading
  instance = instance_of numbers t

  abbrev pub means : SourceMeans mode reservations places m
  means = record { so_far = n.means.so_far; all_read = n.means.all_read; closed = n.means.closed; resolved = n.means.resolved; means = refl }

  is_meaning : IsMeaning m
  is_meaning = source_meaning mode reservations places m some valid_places reserved means

  -- ---- the naming

  -- the number at the place of the path
  abbrev pub number : Path → ℕ
  number p = unwrap_or (number_at numbers (place (paths_of t) p)) 0

  number_here : (k : ℕ) (p : Path) → HasAt k p (paths_of t) → number p ≡ unwrap_or (number_at numbers k) 0
  number_here k p h = ap (λ j. unwrap_or (number_at numbers j) 0) (place_is k p (paths_of t) (paths_distinct t (named_apart t is_named)) h)

  path_of : (k : ℕ) (x : NamedPlaced NodeReference) → HasAt k x (nodes_of t) → HasAt k x.path (paths_of t)
  path_of k x h = at_map (λ (x : NamedPlaced NodeReference). x.path) k x (nodes_of t) h

  asked_here : (k : ℕ) (x : NamedPlaced NodeReference) → HasAt k x (nodes_of t) → ◌≡◌ {A = Asked} (record { written = m.number x.path; keyed = m.keyed x.path }) (asked (contents_of t) k x.content)
  asked_here k x h =
      let a = listed_at t x (named_apart t is_named) (at_in k x (nodes_of t) h) in
      let w : m.number x.path ≡ written_in x.content = sym (written_same mode reservations places t n x.path a.node a.is) ∙ ap written_in a.same in
      let keyed : m.keyed x.path ≡ (asked (contents_of t) k x.content).keyed =
      sym (keyed_same mode reservations places t n (holds mode reservations places t n some valid_places) k x.path a.node (path_of k x h) a.is) ∙ ap (λ c. (asked (contents_of t) k c).keyed) a.same in
      λ i. record { written = w i; keyed = keyed i }

  numbered_here : (k : ℕ) (x : NamedPlaced NodeReference) → HasAt k x (nodes_of t) → (if m.keyed x.path then Some (number x.path) else None) ≡ number_at numbers k
  numbered_here k x h =
      let is = number_is t is_named numbers given k x h in
      ap (λ y. if m.keyed x.path then Some y else None) (number_here k x.path (path_of k x h))
      ∙ ap (λ (a : Asked). if a.keyed then Some (unwrap_or (number_at numbers k) 0) else None) (asked_here k x h)
      ∙ number_if is.0 (written_in x.content) (asked (contents_of t) k x.content).keyed (number_at numbers k) is.1
      (or_first (is_some (written_in x.content)) (nat_lt 0 (length x.content.labels)) (list_any (has_reference_to k) (contents_of t)))

  -- a keyed node's place
  record IsKeyedAt (p : Path) : Type 0 where
    index : ℕ
    node : NamedPlaced NodeReference
    at : HasAt index node (nodes_of t)
    path : node.path ≡ p
    has : number_at numbers index ≡ Some (number p)

  keyed_at : (p : Path) → m.keyed p ≡ true → IsKeyedAt p
  keyed_at p keyed =
      let c = stands_node es (bound_values es) t n.tree p (is_meaning.keyed_stand p keyed) in
      let x : NamedPlaced NodeReference = record { path = p; content = (c.0).content } in
      let k = in_at x (nodes_of t) (at_listed t p c.0 c.1) in
      record {
        index = k.0;
        node = x;
        at = k.1;
        path = refl;
        has = sym (numbered_here k.0 x k.1) ∙ ap (λ b. if b then Some (number p) else None) keyed;
      }

  naming : IsNaming m number
  naming = record {
    low = λ p k. let a = keyed_at p k in (in_range t is_named numbers given a.index (number p) a.has).0;
    high = λ p k. let a = keyed_at p k in (in_range t is_named numbers given a.index (number p) a.has).1;
    own = λ p q k l e.
        let a = keyed_at p k in
        let b = keyed_at q l in
        let same = one_place numbers a.index b.index (number q) (distinct_numbers t is_named numbers given) (a.has ∙ ap (λ (y : ℕ). Some y) e) b.has in
        sym a.path ∙ ap (λ (x : NamedPlaced NodeReference). x.path) (same_at b.index a.node b.node (nodes_of t) (subst (λ j. HasAt j a.node (nodes_of t)) same a.at) b.at) ∙ b.path;
    written = λ p y e.
        let a = keyed_at p (is_meaning.numbered p y e).0 in
        let w : written_in a.node.content ≡ Some y = sym (ap (λ (z : Asked). z.written) (asked_here a.index a.node a.at)) ∙ ap m.number a.path ∙ e in
        let z : Some (number p) ≡ Some y = sym a.has ∙ written_is t is_named numbers given a.index a.node y a.at w in
        cc;
  }

  -- ---- nodes

  node_placed : (p : Path) (c : NamedNode NodeReference) → node_at t p ≡ Some c → (k : ℕ) × HasAt k (record { path = p; content = c.content }) (nodes_of t)
  node_placed p c e = in_at (record { path = p; content = c.content }) (nodes_of t) (at_listed t p c e)

  stands_same : (p : Path) → stands_in instance p ≡ is_some (node_at t p)
  stands_same p =
      same_tests (stands_in instance p) (is_some (node_at t p))
      (λ h. let m = some_there (tree.node_at instance p) h in let c = node_same numbers t p m.0 m.1 in ap is_some c.1)
      (λ h.
      let c = some_there (node_at t p) h in
      let k = node_placed p c.0 c.1 in
      listed.listed_stands instance (instance_node numbers k.0 (record { path = p; content = (c.0).content })) (valid t numbers is_named given) (node_in numbers t k.0 _ k.1))

  -- ---- values

  value_here : (k : ℕ) (x : NamedPlaced NodeReference) (name : Name) → HasAt k x (nodes_of t) → value_in instance x.path name ≡ value_of (numbered_properties numbers k x.content) name
  value_here k x name h = listed.listed_value instance (instance_node numbers k x) name (valid t numbers is_named given) (node_in numbers t k x h)

  abbrev AreNumbered : List (Item NodeReference) → Type 0
  AreNumbered v = EachReference (IsNumberedBy numbers (path_among (paths_of t)) number) v

  one_number : (r : NodeReference) → IsBelow (1 + node_count t.children) r → IsNumberedBy numbers (path_among (paths_of t)) number r
  one_number (inside k) below =
      let a = length-nodes t in
      let b = length-map (nodes_of t) (λ (x : NamedPlaced NodeReference). x.path) in
      number_here k (path_among (paths_of t) k) (at_path k (paths_of t) (omega (arith, below, a, b)))
  one_number (outside l) below = refl

  each_number : (v : List (Item NodeReference)) → EachReference (IsBelow (1 + node_count t.children)) v → AreNumbered v
  each_number v h = each_mapped (IsBelow (1 + node_count t.children)) (IsNumberedBy numbers (path_among (paths_of t)) number) one_number v h

  phandle_same : (k : ℕ) (x : NamedPlaced NodeReference) → HasAt k x (nodes_of t)
      → value_of (numbered_properties numbers k x.content) (codes "phandle") ≡ (if m.keyed x.path then Some (cell (number x.path)) else None)
  phandle_same k x h =
      phandle_value numbers k x.content (1 + node_count t.children) (content_is t is_named x (at_in k x (nodes_of t) h)) (λ y e. written_is t is_named numbers given k x y h e)
      ∙ ap (option_map cell) (sym (numbered_here k x h)) ∙ through (m.keyed x.path)
    where
      through : (b : Bool) → option_map cell (if b then Some (number x.path) else None) ≡ (if b then Some (cell (number x.path)) else None)
      through true = refl
      through false = refl

  renamed_same : (v : Option (List (Item NodeReference))) → ((w : List (Item NodeReference)) → v ≡ Some w → AreNumbered w)
      → option_map (numbered_value numbers) v ≡ option_map (value_bytes (object_number number)) (option_map (meant t) v)
  renamed_same None each = refl
  renamed_same (Some w) each = ap (λ (z : List ℕ). Some z) (sym (value_renamed numbers (path_among (paths_of t)) number w (each w refl)))

  other_same : (k : ℕ) (x : NamedPlaced NodeReference) (name : Name) → HasAt k x (nodes_of t) → bytes_eq name (codes "phandle") ≡ false
      → value_of (numbered_properties numbers k x.content) name ≡ option_map (value_bytes number) (option_and_then (all_bound es) (value_at es (reverse x.path) name))
  other_same k x name h other =
      let i = at_in k x (nodes_of t) h in
      let a = listed_at t x (named_apart t is_named) i in
      other_value numbers k x.content name other
      ∙ renamed_same (named.value_of x.content.properties name)
      (λ w e.
      each_number w
      (each_in (λ (p : NamedProperty NodeReference). EachReference (IsBelow (1 + node_count t.children)) p.value) x.content.properties (record { name = name; value = w })
      (content_is t is_named x i).referred (value_listed x.content.properties name w e)))
      ∙ ap (λ (c : Content NodeReference). option_map (value_bytes (object_number number)) (option_map (meant t) (named.value_of c.properties name))) (sym a.same)
      ∙ ap (option_map (value_bytes (object_number number))) (value_same es (bound_values es) t n.tree x.path a.node name a.is)
      ∙ all_inside number (option_and_then (all_bound es) (value_at es (reverse x.path) name))

  values_here : (k : ℕ) (x : NamedPlaced NodeReference) (name : Name) → HasAt k x (nodes_of t) → value_in instance x.path name ≡ instance_value m number x.path name
  values_here k x name h = value_here k x name h ∙ step (bytes_eq name (codes "phandle")) refl
    where
      step : (b : Bool) → bytes_eq name (codes "phandle") ≡ b → value_of (numbered_properties numbers k x.content) name ≡ instance_value m number x.path name
      step true e = ap (value_of (numbered_properties numbers k x.content)) (bytes_eq_true name (codes "phandle") e) ∙ phandle_same k x h ∙ rw e refl
      step false e = other_same k x name h e ∙ rw e refl

  -- where no node stands, there is no value
  none_there : (p : Path) (name : Name) → node_at t p ≡ None → instance_value m number p name ≡ None
  none_there p name e = step (bytes_eq name (codes "phandle")) refl (m.keyed p) refl (m.value p name) refl
    where
      not_there : m.stands p ≡ true → ⊥
      not_there h = let c = stands_node es (bound_values es) t n.tree p h in let z : None ≡ Some c.0 = sym e ∙ c.1 in cc

      step : (b : Bool) → bytes_eq name (codes "phandle") ≡ b → (k : Bool) → m.keyed p ≡ k → (v : Option (List (Item Path))) → m.value p name ≡ v → instance_value m number p name ≡ None
      step true h true k v w = absurd (not_there (is_meaning.keyed_stand p k))
      step true h false k v w = rw h (rw k refl)
      step false h k l (Some v) w = absurd (not_there (is_meaning.values_stand p name (ap is_some w)))
      step false h k l None w = ap (λ b. if b then (if m.keyed p then Some (cell (number p)) else None) else option_map (value_bytes number) (m.value p name)) h ∙ ap (option_map (value_bytes number)) w

  values_same : (p : Path) (name : Name) → value_in instance p name ≡ instance_value m number p name
  values_same p name = step (node_at t p) refl
    where
      none_in : (o : Option Node) → tree.node_at instance p ≡ o → node_at t p ≡ None → value_in instance p name ≡ None
      none_in None h e = ap (option_and_then (λ (c : Node). value_of c.properties name)) h
      none_in (Some c) h e = let w = node_same numbers t p c h in absurd (let z : None ≡ Some w.0 = sym e ∙ w.1 in cc)

      step : (o : Option (NamedNode NodeReference)) → node_at t p ≡ o → value_in instance p name ≡ instance_value m number p name
      step None e = none_in (tree.node_at instance p) refl e ∙ sym (none_there p name e)
      step (Some c) e = let k = node_placed p c e in values_here k.0 (record { path = p; content = c.content }) name k.1

  pub is_instance : IsInstance instance m number
  is_instance = record {
    naming = naming;
    reservations = n.same_reservations;
    nodes = λ p. stands_same p ∙ n.tree.nodes p;
    values = values_same;
  }

  -- ---- the least numbers

  pub least : HasLeastNumbers instance m number
  least =
      let same = sym (paths_numbered numbers t) in
      subst (λ ps. IsNumbering (asked_by m ps) (numbers_by m number ps)) same
      (subst (λ xs. IsNumbering xs (numbers_by m number (paths_of t)))
      (sym (asked_same m (contents_of t) 0 (nodes_of t) (λ j i x e h. let back : i ≡ j = omega arith in asked_here j x h ∙ ap (λ k. asked (contents_of t) k x.content) (sym back))))
      (subst (IsNumbering (asked_in t))
      (sym (listed_same (λ p. if m.keyed p then Some (number p) else None) (nodes_of t) numbers (length-numbered t is_named numbers given) numbered_here))
      given))

  -- ---- the order

  -- a number that isn't written stands last
  phandle_last : (k : ℕ) (x : NamedPlaced NodeReference) → HasAt k x (nodes_of t) → phandle_names numbers k x.content ≡ unwritten m x.path
  phandle_last k x h =
      let ok = content_is t is_named x (at_in k x (nodes_of t) h) in
      let written : is_some (m.number x.path) ≡ is_some (written_in x.content) = ap (λ (a : Asked). is_some a.written) (asked_here k x h) in
      let keyed : is_some (number_at numbers k) ≡ m.keyed x.path = ap is_some (sym (numbered_here k x h)) ∙ through (m.keyed x.path) in
      phandle_names_are numbers k x.content (is_some (m.number x.path)) (phandle_written numbers k x.content (1 + node_count t.children) ok ∙ sym written)
      ∙ ap (λ b. if b && not (is_some (m.number x.path)) then codes "phandle" ∷ [] else []) keyed
    where
      through : (b : Bool) → is_some (if b then Some (number x.path) else None) ≡ b
      through true = refl
      through false = refl

  pub in_order : IsInOrder es m instance
  in_order = record {
    children = λ p c e.
        let w = node_same numbers t p c e in
        subst (AreChildrenInOrder es p) (sym w.2) (n.tree.order.children p w.0 w.1);
    properties = λ p c e.
        let w = node_from numbers t (record { path = p; properties = c.properties }) (listed.at_listed instance p c e) in
        let k = w.0 in
        let x = w.1 in
        let at : p ≡ x.path = ap (λ (y : Placed). y.path) w.3 in
        let has : c.properties ≡ numbered_properties numbers k x.content = ap (λ (y : Placed). y.properties) w.3 in
        let a = listed_at t x (named_apart t is_named) (at_in k x (nodes_of t) w.2) in
        let names : map (λ (y : Property). y.name) c.properties ≡ property_names x.content.properties ++ unwritten m p =
        ap (map (λ (y : Property). y.name)) has ∙ names_numbered numbers k x.content
        ∙ ap (λ ls. property_names x.content.properties ++ ls) (phandle_last k x w.2 ∙ ap (unwritten m) (sym at)) in (
          property_names x.content.properties,
          names,
          subst (λ q. ArePropertiesInOrder es q (property_names x.content.properties)) (sym at)
              (subst (λ (d : Content NodeReference). ArePropertiesInOrder es x.path (property_names d.properties)) a.same (n.tree.order.properties x.path a.node a.is)),
        );
  }

  -- its events are those of the places
  abbrev pub is_instance_of : IsInstanceOf mode reservations places instance
  is_instance_of = record {
    meaning = m;
    means = means;
    number = number;
    instance = is_instance;
    least = least;
    order = in_order;
    valid = valid t numbers is_named given;
    boot_cpu = refl;
  }

pub instance_is_meant : InstanceIsMeant
instance_is_meant mode reservations places t numbers some valid_places reserved n is_named given = is_instance_of mode reservations places t numbers some valid_places reserved n is_named given
