-- The instance of the named tree of an overlay's source is the overlay's tree: its numbers, its nodes, its values, and the
-- order of its fragments.
use Rattle.std.proofs.Common.{◌≡◌, ℕ, ◌+◌, ◌≤◌, Bool, true, false, nat_lt, ◌||◌, List, [], ◌∷◌, ◌++◌, map, length, codes, is_some, refl, sym, ap, subst, ◌∙◌, Option, Some, None, true≢false, arith}
use Rattle.std.specs.Prelude.{unwrap_or, if◌then◌else◌}
use Rattle.std.specs.List.{list_any}
use Rattle.std.specs.Option.{option_map, option_and_then}
use Rattle.std.specs.Str.{bytes_eq}
use Rattle.std.proofs.lemmas.List.{length-map}
use Rattle.dt_model.specs.Names.{Name}
use Rattle.dt_model.specs.Path.{Path}
use Rattle.dt_model.specs.Meaning.{Item, byte, reference, item_renamed, EachReference, cell, value_bytes}
use Rattle.dt_model.specs.Source.{Events}
use Rattle.dt_model.specs.Object.{object_value}
use Rattle.dt_model.specs.Overlay.{OverlayReference, inside, outside, object_number, reference_renamed, Fragment, Overlay}
use Rattle.dt_model.specs.OverlaySource.{overlay_of}
use Rattle.dt_model.specs.Tree as tree
use Rattle.dt_model.specs.Tree.{Reading, Node, value_of, stands_in, value_in}
use Rattle.dt_model.specs.Numbering.{IsNumberFor, IsNumbering}
use Rattle.dt_model.specs.Named as named
use Rattle.dt_model.specs.Named.{NodeReference, Content, Named, NamedNode, NamedPlaced, NamedProperty, node_at, node_count, nodes_of, paths_of, written_in}
use Rattle.dt_model.specs.NamedOf.{IsBelow, IsNamed, path_among, meant, has_reference_to, asked, contents_of, asked_in}
use Rattle.dt_model.specs.Instance.{number_for, number_at, numbered_properties, instance_of}
use Rattle.dt_model.proofs.Cases.{some_there}
use Rattle.dt_model.proofs.Tests.{bytes_eq_true, each_in}
use Rattle.dt_model.proofs.Listed as listed
use Rattle.dt_model_laws.proofs.NamedListed.{listed_at, at_listed, length-nodes}
use Rattle.dt_model_laws.proofs.NamedPaths.{paths_distinct}
use Rattle.dt_model_laws.proofs.NamedValues.{value_listed}
use Rattle.dt_model_laws.proofs.NamedSources.{stands_node, value_same}
use Rattle.dt_model_laws.proofs.Places.{HasAt, at_in, in_at, at_map, at_path, place, place_is, one_place, same_at}
use Rattle.dt_model_laws.proofs.AskedNumbers.{named_apart, content_is, distinct_numbers, in_range, number_is, written_is}
use Rattle.dt_model_laws.proofs.NumberedProperties.{numbered_value, other_value, phandle_value}
use Rattle.dt_model_laws.proofs.NumberedTrees.{instance_node, node_in, node_same}
use Rattle.dt_model_laws.proofs.InstanceValid.{valid}
use Rattle.dt_model_laws.proofs.KeyedNodes.{same_tests}
use Rattle.dt_model_laws.proofs.KeyedInOverlays.{IsNamedIn, keyed_same}

-- ---- numbers of nodes

or_first : (a b c : Bool) → a ≡ true → (a || b || c) ≡ true
or_first true b c h = refl
or_first false b c h = cc

-- a node has a number exactly where it is keyed
number_if : (before : List ℕ) (written : Option ℕ) (keyed : Bool) (number : Option ℕ) → IsNumberFor before written keyed number → (is_some written ≡ true → keyed ≡ true)
    → (if keyed then Some (unwrap_or number 0) else None) ≡ number
number_if before (Some n) true number h k = rw h refl
number_if before (Some n) false number h k = absurd (true≢false (sym (k refl)))
number_if before None false number h k = sym h
number_if before None true None h k = absurd h
number_if before None true (Some n) h k = refl

-- ---- values whose references are renamed

abbrev IsNumberedBy : (numbers : List (Option ℕ)) (f : ℕ → Path) (number : Path → ℕ) → NodeReference → Type 0
IsNumberedBy numbers f number r = object_number number (reference_renamed f r) ≡ number_for numbers r

value_renamed : (numbers : List (Option ℕ)) (f : ℕ → Path) (number : Path → ℕ) (v : List (Item NodeReference)) → EachReference (IsNumberedBy numbers f number) v
    → value_bytes (object_number number) (map (item_renamed (reference_renamed f)) v) ≡ numbered_value numbers v
value_renamed numbers f number [] h = refl
value_renamed numbers f number (byte b ∷ v) h = ap (λ bs. b ∷ bs) (value_renamed numbers f number v h)
value_renamed numbers f number (reference r ∷ v) h =
    ap (λ y. cell y ++ value_bytes (object_number number) (map (item_renamed (reference_renamed f)) v)) h.0 ∙ ap (λ bs. cell (number_for numbers r) ++ bs) (value_renamed numbers f number v h.1)

each_mapped : (P Q : NodeReference → Type 0) → ((r : NodeReference) → P r → Q r) → (v : List (Item NodeReference)) → EachReference P v → EachReference Q v
each_mapped P Q f [] h = tt
each_mapped P Q f (byte b ∷ v) h = each_mapped P Q f v h
each_mapped P Q f (reference r ∷ v) h = (f r h.0, each_mapped P Q f v h.1)

module _ (es : Events) (fs : List Fragment) (t : Named NodeReference) (by : IsNamedIn es fs t) (is_named : IsNamed t) (numbers : List (Option ℕ)) (given : IsNumbering (asked_in t) numbers) where
  abbrev pub o : Overlay
  o = overlay_of es fs

  abbrev instance : Reading
  instance = instance_of numbers t

  -- the number at the place of the path
  abbrev pub number : Path → ℕ
  number p = unwrap_or (number_at numbers (place (paths_of t) p)) 0

  number_here : (k : ℕ) (p : Path) → HasAt k p (paths_of t) → number p ≡ unwrap_or (number_at numbers k) 0
  number_here k p h = ap (λ j. unwrap_or (number_at numbers j) 0) (place_is k p (paths_of t) (paths_distinct t (named_apart t is_named)) h)

  path_of : (k : ℕ) (x : NamedPlaced NodeReference) → HasAt k x (nodes_of t) → HasAt k x.path (paths_of t)
  path_of k x h = at_map (λ (x : NamedPlaced NodeReference). x.path) k x (nodes_of t) h

  keyed_here : (k : ℕ) (x : NamedPlaced NodeReference) → HasAt k x (nodes_of t) → o.keyed x.path ≡ (asked (contents_of t) k x.content).keyed
  keyed_here k x h =
      let a = listed_at t x (named_apart t is_named) (at_in k x (nodes_of t) h) in
      sym (keyed_same es fs t by k x.path a.node (path_of k x h) a.is) ∙ ap (λ c. (asked (contents_of t) k c).keyed) a.same

  numbered_here : (k : ℕ) (x : NamedPlaced NodeReference) → HasAt k x (nodes_of t) → (if o.keyed x.path then Some (number x.path) else None) ≡ number_at numbers k
  numbered_here k x h =
      let is = number_is t is_named numbers given k x h in
      ap (λ y. if o.keyed x.path then Some y else None) (number_here k x.path (path_of k x h))
      ∙ ap (λ (b : Bool). if b then Some (unwrap_or (number_at numbers k) 0) else None) (keyed_here k x h)
      ∙ number_if is.0 (written_in x.content) (asked (contents_of t) k x.content).keyed (number_at numbers k) is.1
      (or_first (is_some (written_in x.content)) (nat_lt 0 (length x.content.labels)) (list_any (has_reference_to k) (contents_of t)))

  -- a keyed node's place
  record IsKeyedAt (p : Path) : Type 0 where
    index : ℕ
    node : NamedPlaced NodeReference
    at : HasAt index node (nodes_of t)
    path : node.path ≡ p
    has : number_at numbers index ≡ Some (number p)

  keyed_at : (p : Path) → o.keyed p ≡ true → IsKeyedAt p
  keyed_at p keyed =
      let c = stands_node es o.value t by.tree p (by.overlay.keyed_stand p keyed) in
      let x : NamedPlaced NodeReference = record { path = p; content = (c.0).content } in
      let k = in_at x (nodes_of t) (at_listed t p c.0 c.1) in
      record {
        index = k.0;
        node = x;
        at = k.1;
        path = refl;
        has = sym (numbered_here k.0 x k.1) ∙ ap (λ b. if b then Some (number p) else None) keyed;
      }

  pub numbers_low : (p : Path) → o.keyed p ≡ true → 1 ≤ number p
  numbers_low p k = let a = keyed_at p k in (in_range t is_named numbers given a.index (number p) a.has).0

  pub numbers_high : (p : Path) → o.keyed p ≡ true → number p ≤ 0xfffffffe
  numbers_high p k = let a = keyed_at p k in (in_range t is_named numbers given a.index (number p) a.has).1

  pub numbers_own : (p q : Path) → o.keyed p ≡ true → o.keyed q ≡ true → number p ≡ number q → p ≡ q
  numbers_own p q k l e =
      let a = keyed_at p k in
      let b = keyed_at q l in
      let same = one_place numbers a.index b.index (number q) (distinct_numbers t is_named numbers given) (a.has ∙ ap (λ (y : ℕ). Some y) e) b.has in
      sym a.path ∙ ap (λ (x : NamedPlaced NodeReference). x.path) (same_at b.index a.node b.node (nodes_of t) (subst (λ j. HasAt j a.node (nodes_of t)) same a.at) b.at) ∙ b.path

  -- ---- nodes

  node_placed : (p : Path) (c : NamedNode NodeReference) → node_at t p ≡ Some c → (k : ℕ) × HasAt k (record { path = p; content = c.content }) (nodes_of t)
  node_placed p c e = in_at (record { path = p; content = c.content }) (nodes_of t) (at_listed t p c e)

  pub stands_same : (p : Path) → stands_in instance p ≡ o.stands p
  stands_same p =
      same_tests (stands_in instance p) (is_some (node_at t p))
      (λ h. let m = some_there (tree.node_at instance p) h in let c = node_same numbers t p m.0 m.1 in ap is_some c.1)
      (λ h.
      let c = some_there (node_at t p) h in
      let k = node_placed p c.0 c.1 in
      listed.listed_stands instance (instance_node numbers k.0 (record { path = p; content = (c.0).content })) (valid t numbers is_named given) (node_in numbers t k.0 _ k.1))
      ∙ by.tree.nodes p

  -- ---- values

  value_here : (k : ℕ) (x : NamedPlaced NodeReference) (name : Name) → HasAt k x (nodes_of t) → value_in instance x.path name ≡ value_of (numbered_properties numbers k x.content) name
  value_here k x name h = listed.listed_value instance (instance_node numbers k x) name (valid t numbers is_named given) (node_in numbers t k x h)

  abbrev AreNumbered : List (Item NodeReference) → Type 0
  AreNumbered v = EachReference (IsNumberedBy numbers (path_among (paths_of t)) number) v

  one_number : (r : NodeReference) → IsBelow (1 + node_count t.children) r → IsNumberedBy numbers (path_among (paths_of t)) number r
  one_number (inside k) below =
      let a = length-nodes t in
      let b = length-map (nodes_of t) (λ (x : NamedPlaced NodeReference). x.path) in
      number_here k (path_among (paths_of t) k) (at_path k (paths_of t) (omega (arith, below, a, b)))
  one_number (outside l) below = refl

  each_number : (v : List (Item NodeReference)) → EachReference (IsBelow (1 + node_count t.children)) v → AreNumbered v
  each_number v h = each_mapped (IsBelow (1 + node_count t.children)) (IsNumberedBy numbers (path_among (paths_of t)) number) one_number v h

  phandle_same : (k : ℕ) (x : NamedPlaced NodeReference) → HasAt k x (nodes_of t)
      → value_of (numbered_properties numbers k x.content) (codes "phandle") ≡ (if o.keyed x.path then Some (cell (number x.path)) else None)
  phandle_same k x h =
      phandle_value numbers k x.content (1 + node_count t.children) (content_is t is_named x (at_in k x (nodes_of t) h)) (λ y e. written_is t is_named numbers given k x y h e)
      ∙ ap (option_map cell) (sym (numbered_here k x h)) ∙ through (o.keyed x.path)
    where
      through : (b : Bool) → option_map cell (if b then Some (number x.path) else None) ≡ (if b then Some (cell (number x.path)) else None)
      through true = refl
      through false = refl

  renamed_same : (v : Option (List (Item NodeReference))) → ((w : List (Item NodeReference)) → v ≡ Some w → AreNumbered w)
      → option_map (numbered_value numbers) v ≡ option_map (value_bytes (object_number number)) (option_map (meant t) v)
  renamed_same None each = refl
  renamed_same (Some w) each = ap (λ (z : List ℕ). Some z) (sym (value_renamed numbers (path_among (paths_of t)) number w (each w refl)))

  other_same : (k : ℕ) (x : NamedPlaced NodeReference) (name : Name) → HasAt k x (nodes_of t) → bytes_eq name (codes "phandle") ≡ false
      → value_of (numbered_properties numbers k x.content) name ≡ option_map (value_bytes (object_number number)) (o.value x.path name)
  other_same k x name h other =
      let i = at_in k x (nodes_of t) h in
      let a = listed_at t x (named_apart t is_named) i in
      other_value numbers k x.content name other
      ∙ renamed_same (named.value_of x.content.properties name)
      (λ w e.
      each_number w
      (each_in (λ (p : NamedProperty NodeReference). EachReference (IsBelow (1 + node_count t.children)) p.value) x.content.properties (record { name = name; value = w })
      (content_is t is_named x i).referred (value_listed x.content.properties name w e)))
      ∙ ap (λ (c : Content NodeReference). option_map (value_bytes (object_number number)) (option_map (meant t) (named.value_of c.properties name))) (sym a.same)
      ∙ ap (option_map (value_bytes (object_number number))) (value_same es o.value t by.tree x.path a.node name a.is)

  values_here : (k : ℕ) (x : NamedPlaced NodeReference) (name : Name) → HasAt k x (nodes_of t) → value_in instance x.path name ≡ object_value o number x.path name
  values_here k x name h = value_here k x name h ∙ step (bytes_eq name (codes "phandle")) refl
    where
      step : (b : Bool) → bytes_eq name (codes "phandle") ≡ b → value_of (numbered_properties numbers k x.content) name ≡ object_value o number x.path name
      step true e = ap (value_of (numbered_properties numbers k x.content)) (bytes_eq_true name (codes "phandle") e) ∙ phandle_same k x h ∙ rw e refl
      step false e = other_same k x name h e ∙ rw e refl

  -- where no node stands, there is no value
  none_there : (p : Path) (name : Name) → node_at t p ≡ None → object_value o number p name ≡ None
  none_there p name e = step (bytes_eq name (codes "phandle")) refl (o.keyed p) refl (o.value p name) refl
    where
      not_there : o.stands p ≡ true → ⊥
      not_there h = let c = stands_node es o.value t by.tree p h in let z : None ≡ Some c.0 = sym e ∙ c.1 in cc

      step : (b : Bool) → bytes_eq name (codes "phandle") ≡ b → (k : Bool) → o.keyed p ≡ k → (v : Option (List (Item OverlayReference))) → o.value p name ≡ v → object_value o number p name ≡ None
      step true h true k v w = absurd (not_there (by.overlay.keyed_stand p k))
      step true h false k v w = rw h (rw k refl)
      step false h k l (Some v) w = absurd (not_there (by.overlay.values_stand p name (ap is_some w)))
      step false h k l None w =
          ap (λ b. if b then (if o.keyed p then Some (cell (number p)) else None) else option_map (value_bytes (object_number number)) (o.value p name)) h ∙ ap (option_map (value_bytes (object_number number))) w

  pub values_same : (p : Path) (name : Name) → value_in instance p name ≡ object_value o number p name
  values_same p name = step (node_at t p) refl
    where
      none_in : (y : Option Node) → tree.node_at instance p ≡ y → node_at t p ≡ None → value_in instance p name ≡ None
      none_in None h e = ap (option_and_then (λ (c : Node). value_of c.properties name)) h
      none_in (Some c) h e = let w = node_same numbers t p c h in absurd (let z : None ≡ Some w.0 = sym e ∙ w.1 in cc)

      step : (y : Option (NamedNode NodeReference)) → node_at t p ≡ y → value_in instance p name ≡ object_value o number p name
      step None e = none_in (tree.node_at instance p) refl e ∙ sym (none_there p name e)
      step (Some c) e = let k = node_placed p c e in values_here k.0 (record { path = p; content = c.content }) name k.1
