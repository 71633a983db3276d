-- A tree's nodes and properties stand in the order of its events.
use Rattle.std.proofs.Common.{◌≡◌, ℕ, ◌<◌, Bool, true, false, List, [], ◌∷◌, ◌++◌, length, map, reverse, is_some, refl, sym, ap, subst, ◌∙◌, inl, inr, Option, Some, None, append_assoc, cond}
use Rattle.std.specs.List.{AllByRecursion, flat_map}
use Rattle.std.specs.Option.{option_map, option_and_then}
use Rattle.std.specs.Str.{bytes_eq}
use Rattle.std.proofs.lemmas.List.{append-nil}
use Rattle.dt_model.specs.Names.{Name}
use Rattle.dt_model.specs.Path.{Path}
use Rattle.dt_model.specs.Lists.{IsIn, FallBy}
use Rattle.dt_model.specs.Event.{Stack, Event, opens, takes, defines, drops, from_first, age_by, age, property_age, stands, value_at}
use Rattle.dt_model.specs.Source.{Part, one, Events}
use Rattle.dt_model.specs.Ordered.{AreChildrenInOrder, ArePropertiesInOrder}
use Rattle.dt_model.specs.Tree.{Property, Forest, no_nodes, branch, Reading, Node, sibling, node_below, root_of, node_at, value_of, value_in, Placed, preorder, nodes_of}
use Rattle.dt_model.specs.Valid.{IsValid, names}
use Rattle.dt_model.proofs.Cases.{then_some, some_there}
use Rattle.dt_model.proofs.Listed.{at_listed, properties_listed}
use Rattle.dt_model.proofs.Preorder.{paths_distinct}
use Rattle.dt_model.proofs.Tests.{each_from, in_map, in_map_from, bytes_eq_refl, bytes_eq_true}
use Rattle.dt_decompile_laws.proofs.TreeEvents.{own, reverse_child, event_of, stands_same, value_same, listed_property, property_listed}
use Rattle.dt_decompile_laws.proofs.TreeOrder.{PassNone, since_none, falls_same, blocks_fall, node_blocks, properties_fall}

-- ---- children and their paths

and_then_some : {X : Type 0} (o : Option X) → option_and_then (λ (x : X). Some x) o ≡ o
and_then_some None = refl
and_then_some (Some x) = refl

node_child : (n m : Node) (p : Path) (x : Name) → node_below n p ≡ Some m → node_below n (p ++ x ∷ []) ≡ sibling m.children x
node_child n m [] x e = let same : n ≡ m = cc in and_then_some (sibling n.children x) ∙ ap (λ (z : Node). sibling z.children x) same
node_child n m (y ∷ p) x e =
    let w = then_some (λ (c : Node). node_below c p) (sibling n.children y) m e in
    ap (option_and_then (λ (c : Node). node_below c (p ++ x ∷ []))) w.1 ∙ node_child w.0 m p x w.2

sibling_named : (f : Forest) (x : Name) → is_some (sibling f x) ≡ true → IsIn x (names f)
sibling_named no_nodes x h = absurd (let z : false ≡ true = h in cc)
sibling_named (branch y properties children siblings) x h = step (sibling_named siblings x) (bytes_eq x y) refl h
  where
    step : (is_some (sibling siblings x) ≡ true → IsIn x (names siblings)) → (b : Bool) → bytes_eq x y ≡ b
        → is_some (cond b (Some (record { properties = properties; children = children })) (sibling siblings x)) ≡ true → IsIn x (y ∷ names siblings)
    step later true e k = inl (bytes_eq_true x y e)
    step later false e k = inr (later k)

named_sibling : (f : Forest) (x : Name) → IsIn x (names f) → is_some (sibling f x) ≡ true
named_sibling no_nodes x i = absurd i
named_sibling (branch y properties children siblings) x (inl same) = rw same (rw (bytes_eq_refl y) refl)
named_sibling (branch y properties children siblings) x (inr i) = step (bytes_eq x y) (named_sibling siblings x i)
  where
    step : (b : Bool) → is_some (sibling siblings x) ≡ true → is_some (cond b (Some (record { properties = properties; children = children })) (sibling siblings x)) ≡ true
    step true later = refl
    step false later = later

-- ---- what falls over all nodes falls over the children of each

falls_left : {X : Type 0} (f : X → ℕ) (xs ys : List X) → FallBy f (xs ++ ys) → FallBy f xs
falls_left f [] ys h = tt
falls_left f (x ∷ xs) ys h = (all_left xs h.0, falls_left f xs ys h.1)
  where
    all_left : (zs : List _) → AllByRecursion (λ y. f y < f x) (zs ++ ys) → AllByRecursion (λ y. f y < f x) zs
    all_left [] k = tt
    all_left (z ∷ zs) k = (k.0, all_left zs k.1)

falls_right : {X : Type 0} (f : X → ℕ) (xs ys : List X) → FallBy f (xs ++ ys) → FallBy f ys
falls_right f [] ys h = h
falls_right f (x ∷ xs) ys h = falls_right f xs ys h.1

falls_map : {X Y : Type 0} (f : Y → ℕ) (g : X → Y) (xs : List X) → FallBy (λ x. f (g x)) xs → FallBy f (map g xs)
falls_map f g [] h = tt
falls_map f g (x ∷ xs) h = (all_mapped xs h.0, falls_map f g xs h.1)
  where
    all_mapped : (zs : List _) → AllByRecursion (λ y. f (g y) < f (g x)) zs → AllByRecursion (λ y. f y < f (g x)) (map g zs)
    all_mapped [] k = tt
    all_mapped (z ∷ zs) k = (k.0, all_mapped zs k.1)

all_right : (P : Placed → Type 0) (xs ys : List Placed) → AllByRecursion P (xs ++ ys) → AllByRecursion P ys
all_right P [] ys h = h
all_right P (x ∷ xs) ys h = all_right P xs ys h.1

names_each : (P : Path → Type 0) (path : Path) (f : Forest) → AllByRecursion (λ (n : Placed). P n.path) (preorder path f) → AllByRecursion (λ x. P (path ++ x ∷ [])) (names f)
names_each P path no_nodes h = tt
names_each P path (branch x properties children siblings) h =
    (h.0, names_each P path siblings (all_right (λ (n : Placed). P n.path) (preorder (path ++ x ∷ []) children) (preorder path siblings) h.1))

module _ (g : Path → ℕ) where
  abbrev NodesFall : List Placed → Type 0
  NodesFall ns = FallBy (λ (n : Placed). g n.path) ns

  siblings_fall : (path : Path) (f : Forest) → NodesFall (preorder path f) → FallBy (λ x. g (path ++ x ∷ [])) (names f)
  siblings_fall path no_nodes h = tt
  siblings_fall path (branch x properties children siblings) h =
      let inner = preorder (path ++ x ∷ []) children in
      let outer = preorder path siblings in (
        names_each (λ p. g p < g (path ++ x ∷ [])) path siblings (all_right (λ (n : Placed). g n.path < g (path ++ x ∷ [])) inner outer h.0),
        siblings_fall path siblings (falls_right (λ (n : Placed). g n.path) inner outer h.1),
      )

  sibling_falls : (path : Path) (f : Forest) (x : Name) (c : Node) → NodesFall (preorder path f) → sibling f x ≡ Some c → NodesFall (preorder (path ++ x ∷ []) c.children)
  sibling_falls path no_nodes x c h e = absurd (let z : None ≡ Some c = e in cc)
  sibling_falls path (branch y properties children siblings) x c h e =
      step (sibling_falls path siblings x c (falls_right (λ (n : Placed). g n.path) (preorder (path ++ y ∷ []) children) (preorder path siblings) h.1)) (bytes_eq x y) refl e
    where
      step : (sibling siblings x ≡ Some c → NodesFall (preorder (path ++ x ∷ []) c.children)) → (b : Bool) → bytes_eq x y ≡ b
          → cond b (Some (record { properties = properties; children = children })) (sibling siblings x) ≡ Some c → NodesFall (preorder (path ++ x ∷ []) c.children)
      step later true k z =
          let same : ◌≡◌ {A = Node} (record { properties = properties; children = children }) c = cc in
          subst (λ (w : Name). NodesFall (preorder (path ++ w ∷ []) c.children)) (sym (bytes_eq_true x y k))
          (subst (λ (w : Node). NodesFall (preorder (path ++ y ∷ []) w.children)) same
          (falls_left (λ (n : Placed). g n.path) (preorder (path ++ y ∷ []) children) (preorder path siblings) h.1))
      step later false k z = later z

  node_falls : (path : Path) (n m : Node) (p : Path) → NodesFall (preorder path n.children) → node_below n p ≡ Some m → NodesFall (preorder (path ++ p) m.children)
  node_falls path n m [] h e =
      let same : n ≡ m = cc in
      subst (λ (w : Path). NodesFall (preorder w m.children)) (sym (append-nil path)) (subst (λ (w : Node). NodesFall (preorder path w.children)) same h)
  node_falls path n m (x ∷ p) h e =
      let w = then_some (λ (c : Node). node_below c p) (sibling n.children x) m e in
      subst (λ (z : Path). NodesFall (preorder z m.children)) (append_assoc path (x ∷ []) p)
      (node_falls (path ++ x ∷ []) w.0 m p (sibling_falls path n.children x w.0 h w.1) w.2)

  pub children_fall : (t : Reading) (p : Path) (n : Node) → NodesFall (nodes_of t) → node_at t p ≡ Some n → FallBy (λ x. g (p ++ x ∷ [])) (names n.children)
  children_fall t p n h e = siblings_fall p n.children (node_falls [] (root_of t) n p h.1 e)

-- ---- in order

module _ (t : Reading) (valid : IsValid t) where
  abbrev es : Events
  es = flat_map own (nodes_of t)

  none_takes : (q : Stack) → PassNone (takes q) es
  none_takes q = each_from (λ e. takes q e ≡ false) es (λ e i.
      elim (event_of t valid e i).2 as (λ z. takes q e ≡ false) [
        | inl same ↦ ap (takes q) same
        | inr d ↦ ap (takes q) d.2
      ])

  none_drops : (q : Stack) (x : Name) → PassNone (drops q x) es
  none_drops q x = each_from (λ e. drops q x e ≡ false) es (λ e i.
      elim (event_of t valid e i).2 as (λ z. drops q x e ≡ false) [
        | inl same ↦ ap (drops q x) same
        | inr d ↦ ap (drops q x) d.2
      ])

  age_is : (starts resets : Event (List Part) → Bool) → PassNone resets es → age_by starts resets es ≡ length (from_first starts es)
  unfolding age_by
  age_is starts resets h = ap (λ (z : Events). length (from_first starts z)) (since_none resets es h).0

  nodes_fall : FallBy (λ (n : Placed). age es (reverse n.path)) (nodes_of t)
  nodes_fall =
      falls_same _ (λ (n : Placed). age es (reverse n.path)) (nodes_of t)
      (λ n i. ap (λ (z : Events). length (from_first (opens (reverse n.path)) z)) (append-nil es) ∙ sym (age_is (opens (reverse n.path)) (takes (reverse n.path)) (none_takes (reverse n.path))))
      (blocks_fall (λ (n : Placed). n.path) (λ p. opens (reverse p)) own node_blocks (nodes_of t) [] (paths_distinct t valid))

  child_stands : (p : Path) (n : Node) (x : Name) → node_at t p ≡ Some n → stands es (x ∷ reverse p) ≡ is_some (sibling n.children x)
  child_stands p n x e =
      ap (stands es) (sym (reverse_child p x)) ∙ sym (stands_same t valid (p ++ x ∷ [])) ∙ ap is_some (node_child (root_of t) n p x e)

  pub children_in_order : (p : Path) (n : Node) → node_at t p ≡ Some n → AreChildrenInOrder es p (names n.children)
  children_in_order p n e = record {
    sound = each_from (λ x. stands es (x ∷ reverse p) ≡ true) (names n.children) (λ x i. child_stands p n x e ∙ named_sibling n.children x i);
    complete = λ x h. sibling_named n.children x (sym (child_stands p n x e) ∙ h);
    sorted = falls_same (λ x. age es (reverse (p ++ x ∷ []))) (λ x. age es (x ∷ reverse p)) (names n.children) (λ x i. ap (age es) (reverse_child p x))
        (children_fall (λ r. age es (reverse r)) t p n nodes_fall e);
  }

  -- whether a property is defined
  property_stands : (p : Path) (n : Node) (x : Name) → node_at t p ≡ Some n → is_some (value_at es (reverse p) x) ≡ is_some (value_of n.properties x)
  property_stands p n x e =
      ap is_some (value_same t valid p x) ∙ through (value_in t p x) ∙ ap (λ o. is_some (option_and_then (λ (c : Node). value_of c.properties x) o)) e
    where
      through : (o : Option (List ℕ)) → is_some (option_map (map one) o) ≡ is_some o
      through None = refl
      through (Some v) = refl

  pub properties_in_order : (p : Path) (n : Node) → node_at t p ≡ Some n → ArePropertiesInOrder es p (map (λ (x : Property). x.name) n.properties)
  properties_in_order p n e =
      let here : Placed = record { path = p; properties = n.properties } in
      let listed = at_listed t p n e in
      let d = (properties_listed t here valid listed).distinct in
      record {
        sound = each_from (λ x. is_some (value_at es (reverse p) x) ≡ true) (map (λ (x : Property). x.name) n.properties)
            (λ x i.
            let w = in_map_from (λ (y : Property). y.name) n.properties x i in
            property_stands p n x e ∙ ap (λ y. is_some (value_of n.properties y)) w.2 ∙ ap is_some (listed_property n.properties w.0 d w.1));
        complete = λ x h.
            let v = some_there (value_of n.properties x) (sym (property_stands p n x e) ∙ h) in
            in_map (λ (y : Property). y.name) n.properties (record { name = x; value = v.0 }) (property_listed n.properties x v.0 v.1);
        sorted = falls_map (property_age es (reverse p)) (λ (y : Property). y.name) n.properties
            (falls_same (λ (y : Property). length (from_first (defines (reverse p) y.name) es)) (λ (y : Property). property_age es (reverse p) y.name) n.properties
            (λ y i. sym (age_is (defines (reverse p) y.name) (drops (reverse p) y.name) (none_drops (reverse p) y.name)))
            (properties_fall (nodes_of t) here (paths_distinct t valid) listed d));
      }
