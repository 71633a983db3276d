-- A tree whose nodes, properties and labels stand in the order of events, by tests at its nodes.
use Rattle.std.proofs.Common.{◌≡◌, ◌-◌, Bool, true, ◌&&◌, List, [], ◌∷◌, ◌++◌, map, length, take, reverse, Option, Some, is_some, refl, sym, ap, subst, ◌∙◌}
use Rattle.std.specs.List.{list_all, filter, flat_map}
use Rattle.std.specs.Option.{option_map_or}
use Rattle.std.specs.Str.{bytes_eq}
use Rattle.dt_model.specs.Names.{Name}
use Rattle.dt_model.specs.Path.{Path, path_eq, path_value}
use Rattle.dt_model.specs.Lists.{AreInOrder}
use Rattle.dt_model.specs.Meaning.{Meaning}
use Rattle.dt_model.specs.Event as event
use Rattle.dt_model.specs.Event.{Stack, stands, value_at, age, property_age, label_age}
use Rattle.dt_model.specs.Source.{Events}
use Rattle.dt_model.specs.Tree.{Property, Reading, Node, node_at}
use Rattle.dt_model.specs.Valid.{names}
use Rattle.dt_model.specs.Numbers.{paths_of}
use Rattle.dt_model.specs.Ordered.{IsInOrder, AreChildrenInOrder, unwritten}
use Rattle.dt_model.specs.Instance.{symbol, AreSymbols}
use Rattle.dt_model_laws.proofs.InOrder.{opens_among, defines_among, gives_among, falls, children_in_order, properties_in_order, labels_in_order}
use Rattle.dt_model_laws.proofs.StandingNodes.{stands_among}
use Rattle.dt_model.proofs.Tests.{and_left, and_right, all_at, path_eq_true}

-- ---- children and properties

abbrev children_at : Reading → Path → List Name
children_at t p = option_map_or (λ (n : Node). names n.children) (node_at t p) []

abbrev properties_at : Reading → Path → List Name
properties_at t p = option_map_or (λ (n : Node). map (λ (x : Property). x.name) n.properties) (node_at t p) []

-- those that are defined
abbrev defined_at : Meaning → Reading → Path → List Name
defined_at m t p = take (length (properties_at t p) - length (unwritten m p)) (properties_at t p)

abbrev children_fit : Events → Stack → List Name → Bool
children_fit es q xs = list_all (opens_among q xs) es && (list_all (λ x. stands es (x ∷ q)) xs && falls (λ x. age es (x ∷ q)) xs)

abbrev properties_fit : Events → Stack → List Name → Bool
properties_fit es q xs = list_all (defines_among q xs) es && (list_all (λ x. is_some (value_at es q x)) xs && falls (property_age es q) xs)

-- the children and the properties of the path's node fit
abbrev node_fits : Events → Meaning → Reading → Path → Bool
node_fits es m t p =
    children_fit es (reverse p) (children_at t p)
    && (path_eq (properties_at t p) (defined_at m t p ++ unwritten m p) && properties_fit es (reverse p) (defined_at m t p))

abbrev pub is_ordered : Events → Meaning → Reading → Bool
is_ordered es m t = list_all (node_fits es m t) (paths_of t)

children_ordered : (es : Events) (q : Stack) (xs : List Name) → children_fit es q xs ≡ true → AreInOrder (λ x. age es (x ∷ q)) (λ x. stands es (x ∷ q)) xs
children_ordered es q xs h =
    let s : Bool = list_all (λ x. stands es (x ∷ q)) xs in
    let f : Bool = falls (λ x. age es (x ∷ q)) xs in
    let sf = and_right (list_all (opens_among q xs) es) (s && f) h in
    children_in_order es q xs (and_left (list_all (opens_among q xs) es) (s && f) h) (and_left s f sf) (and_right s f sf)

properties_ordered : (es : Events) (q : Stack) (xs : List Name) → properties_fit es q xs ≡ true → AreInOrder (property_age es q) (λ x. is_some (value_at es q x)) xs
properties_ordered es q xs h =
    let s : Bool = list_all (λ x. is_some (value_at es q x)) xs in
    let f : Bool = falls (property_age es q) xs in
    let sf = and_right (list_all (defines_among q xs) es) (s && f) h in
    properties_in_order es q xs (and_left (list_all (defines_among q xs) es) (s && f) h) (and_left s f sf) (and_right s f sf)

module _ (es : Events) (m : Meaning) (t : Reading) (h : is_ordered es m t ≡ true) where
  fits : (p : Path) (n : Node) → node_at t p ≡ Some n → node_fits es m t p ≡ true
  fits p n e = all_at (node_fits es m t) (paths_of t) p h (stands_among t p (ap is_some e))

  abbrev ends : Path → Bool
  ends p = path_eq (properties_at t p) (defined_at m t p ++ unwritten m p)

  abbrev defined_fit : Path → Bool
  defined_fit p = properties_fit es (reverse p) (defined_at m t p)

  pub ordered : IsInOrder es m t
  ordered = record {
    children = λ p n e.
        subst (AreChildrenInOrder es p) (ap (λ (o : Option Node). option_map_or (λ (n : Node). names n.children) o []) e)
        (children_ordered es (reverse p) (children_at t p) (and_left (children_fit es (reverse p) (children_at t p)) (ends p && defined_fit p) (fits p n e)));
    properties = λ p n e.
        let both = and_right (children_fit es (reverse p) (children_at t p)) (ends p && defined_fit p) (fits p n e) in
        let all : properties_at t p ≡ map (λ (x : Property). x.name) n.properties =
        ap (λ (o : Option Node). option_map_or (λ (n : Node). map (λ (x : Property). x.name) n.properties) o []) e in (
          defined_at m t p,
          sym all ∙ path_eq_true (properties_at t p) (defined_at m t p ++ unwritten m p) (and_left (ends p) (defined_fit p) both),
          properties_ordered es (reverse p) (defined_at m t p) (and_right (ends p) (defined_fit p) both),
        );
  }

-- ---- labels

-- the labels of a path among those that are listed
abbrev labels_at : List Property → Path → List Name
labels_at symbols p = map (λ (x : Property). x.name) (filter (λ (x : Property). bytes_eq x.value (path_value p)) symbols)

abbrev pub listed_by : List Property → List Path → List Property
listed_by symbols ps = flat_map (λ p. map (symbol p) (labels_at symbols p)) ps

abbrev labels_fit : Events → Stack → List Name → Bool
labels_fit es q ls = list_all (gives_among q ls) es && (list_all (λ l. event.names es l q) ls && falls (λ l. label_age es l q) ls)

abbrev pub are_labels : Events → List Property → List Path → Bool
are_labels es symbols ps = list_all (λ p. labels_fit es (reverse p) (labels_at symbols p)) ps

labels_ordered : (es : Events) (q : Stack) (ls : List Name) → labels_fit es q ls ≡ true → AreInOrder (λ l. label_age es l q) (λ l. event.names es l q) ls
labels_ordered es q ls h =
    let s : Bool = list_all (λ l. event.names es l q) ls in
    let f : Bool = falls (λ l. label_age es l q) ls in
    let sf = and_right (list_all (gives_among q ls) es) (s && f) h in
    labels_in_order es q ls (and_left (list_all (gives_among q ls) es) (s && f) h) (and_left s f sf) (and_right s f sf)

pub symbols_listed : (es : Events) (symbols : List Property) (ps : List Path) → are_labels es symbols ps ≡ true → AreSymbols es ps (listed_by symbols ps)
symbols_listed es symbols [] h = refl
symbols_listed es symbols (p ∷ ps) h =
    let here : Bool = labels_fit es (reverse p) (labels_at symbols p) in (
      labels_at symbols p,
      listed_by symbols ps,
      refl,
      labels_ordered es (reverse p) (labels_at symbols p) (and_left here (are_labels es symbols ps) h),
      symbols_listed es symbols ps (and_right here (are_labels es symbols ps) h),
    )
