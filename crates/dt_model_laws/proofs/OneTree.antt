-- Places are compiled to one tree.
use Rattle.std.proofs.Common.{◌≡◌, ℕ, Bool, true, false, ◌||◌, List, [], ◌∷◌, ◌++◌, map, reverse, codes, refl, sym, ap, subst, ◌∙◌, inl, inr, Option, Some, None, is_some, Ok}
use Rattle.std.specs.Prelude.{option_and_then, if◌then◌else◌}
use Rattle.std.specs.List.{list_any}
use Rattle.std.specs.Option.{option_map}
use Rattle.std.specs.Str.{bytes_eq}
use Rattle.dt_model.specs.Names.{Name}
use Rattle.dt_model.specs.Path.{Path}
use Rattle.dt_model.specs.Meaning.{Item, cell, EachReference, value_bytes, Meaning, instance_value}
use Rattle.dt_model.specs.Event.{stands, value_at}
use Rattle.dt_model.specs.Source.{Events, Part, Place, Mode, SoFar, read_all, nothing, all_bound, written_number, labels_there, refers_there, meaning_of}
use Rattle.dt_model.specs.Tree.{Property, Reading, Node, node_at, root_of, value_of, value_in}
use Rattle.dt_model.specs.Valid as valid
use Rattle.dt_model.specs.Valid.{IsValid}
use Rattle.dt_model.specs.Numbers.{paths_of}
use Rattle.dt_model.specs.Numbering.{asked_by, numbers_by, written_numbers, IsNumbering, HasLeastNumbers}
use Rattle.dt_model.specs.Ordered.{IsInOrder, unwritten}
use Rattle.dt_model.specs.Instance.{IsInstance, IsInstanceOf, symbol, AreSymbols, added}
use Rattle.dt_model_laws.specs.CompiledTrees.{OneTree}
use Rattle.dt_model.proofs.Cases.{all_from, then_some, either_right}
use Rattle.dt_model_laws.proofs.Orders.{one_order}
use Rattle.dt_model_laws.proofs.Bound.{all_each_bound}
use Rattle.dt_model_laws.proofs.Brought.{apart_below, root_apart}
use Rattle.dt_model_laws.proofs.Keyed.{references_stand, referred_there}
use Rattle.dt_model_laws.proofs.Holding.{Obeys}
use Rattle.dt_model_laws.proofs.Meanings.{at_path}
use Rattle.dt_model_laws.proofs.Merge.{same_value}
use Rattle.dt_model_laws.proofs.OneNumbering.{one_numbering, numbers_agree}
use Rattle.dt_model_laws.proofs.ReadAll.{no_rules, any_obeys, holds-source}
use Rattle.dt_model_laws.proofs.SameTrees.{Alike, alike, alike_paths, alike_same, same_properties}
use Rattle.dt_model_laws.proofs.Sound.{Sound}
use Rattle.dt_model_laws.proofs.SourceRefusals.{one_end}
use Rattle.dt_model_laws.proofs.StandingNodes.{stands_among}

-- the tree is the one that events mean
pub record IsMeant (reservations : List (ℕ × ℕ)) (es : Events) (t : Reading) : Type 0 where
  pub number : Path → ℕ
  pub instance : IsInstance t (meaning_of reservations es) number
  pub least : HasLeastNumbers t (meaning_of reservations es) number
  pub order : IsInOrder es (meaning_of reservations es) t
  pub valid : IsValid t
  pub boot_cpu : t.boot_cpu ≡ 0

pub is_meant : (mode : Mode) (reservations : List (ℕ × ℕ)) (places : List Place) (t : Reading) (i : IsInstanceOf mode reservations places t) → IsMeant reservations i.means.so_far.events t
is_meant mode reservations places t i = record {
  number = i.number;
  instance = subst (λ (m : Meaning). IsInstance t m i.number) i.means.means i.instance;
  least = subst (λ (m : Meaning). HasLeastNumbers t m i.number) i.means.means i.least;
  order = subst (λ (m : Meaning). IsInOrder i.means.so_far.events m t) i.means.means i.order;
  valid = i.valid;
  boot_cpu = i.boot_cpu;
}

module _ (reservations : List (ℕ × ℕ)) (es : Events) (s : Sound es) (t u : Reading) (a : IsMeant reservations es t) (b : IsMeant reservations es u) where
  abbrev m : Meaning
  m = meaning_of reservations es

  -- ---- the same paths

  names_same : (p : Path) (n k : Node) → node_at t p ≡ Some n → node_at u p ≡ Some k → valid.names n.children ≡ valid.names k.children
  names_same p n k e f = one_order _ _ _ _ (a.order.children p n e) (b.order.children p k f)

  paths_same : paths_of t ≡ paths_of u
  paths_same =
      let shape : Alike (λ ps qs. Unit {0}) t.children u.children =
      alike (λ ps qs. Unit {0}) t.children u.children (names_same [] (root_of t) (root_of u) refl refl) a.valid.nodes b.valid.nodes a.valid.siblings b.valid.siblings
      (λ x p n k e f. (tt, names_same (x ∷ p) n k e f)) in
      ap (λ (ps : List Path). [] ∷ ps) (alike_paths [] [] t.children u.children refl shape)

  -- ---- the same numbers

  numbers_same : numbers_by m a.number (paths_of u) ≡ numbers_by m b.number (paths_of u)
  numbers_same =
      let least : IsNumbering (asked_by m (paths_of u)) (numbers_by m a.number (paths_of u)) = subst (λ ps. IsNumbering (asked_by m ps) (numbers_by m a.number ps)) paths_same a.least in
      one_numbering (written_numbers (asked_by m (paths_of u))) (asked_by m (paths_of u)) _ _ least b.least

  number_same : (p : Path) → stands es (reverse p) ≡ true → m.keyed p ≡ true → a.number p ≡ b.number p
  number_same p there keyed = numbers_agree m a.number b.number (paths_of u) p numbers_same (stands_among u p (b.instance.nodes p ∙ there)) keyed

  -- ---- the same values

  referred_same : (p : Path) (n : Name) (v : List Part) (items : List (Item Path)) → value_at es (reverse p) n ≡ Some v → all_bound es v ≡ Some items → EachReference (λ q. a.number q ≡ b.number q) items
  referred_same p n v items there is =
      all_each_bound es (λ q. a.number q ≡ b.number q) v items
      (λ q r.
      let refers_to : list_any (refers_there es q) es ≡ true = referred_there es (reverse p) n v q there r in
      let again : list_any (refers_there es (reverse (reverse q))) es ≡ true = at_path (λ x. list_any (refers_there es x) es ≡ true) (reverse q) q refl refers_to in
      number_same (reverse q) (references_stand es s (reverse (reverse q)) again)
      (either_right (is_some (written_number es (reverse (reverse q))) || list_any (labels_there es (reverse (reverse q))) es) (list_any (refers_there es (reverse (reverse q))) es) again)) is

  bytes_same : (p : Path) (n : Name) (o : Option (List (Item Path))) → option_and_then (all_bound es) (value_at es (reverse p) n) ≡ o → option_map (value_bytes a.number) o ≡ option_map (value_bytes b.number) o
  bytes_same p n None e = refl
  bytes_same p n (Some items) e =
      let v = then_some (all_bound es) (value_at es (reverse p) n) items e in
      ap Some (same_value a.number b.number items (referred_same p n v.0 items v.1 v.2))

  phandle_same : (p : Path) (c : Bool) → stands es (reverse p) ≡ true → m.keyed p ≡ c → ◌≡◌ {A = Option (List ℕ)} (if c then Some (cell (a.number p)) else None) (if c then Some (cell (b.number p)) else None)
  phandle_same p true there keyed = ap (λ k. Some (cell k)) (number_same p there keyed)
  phandle_same p false there keyed = refl

  instance_same : (p : Path) (n : Name) → stands es (reverse p) ≡ true → instance_value m a.number p n ≡ instance_value m b.number p n
  instance_same p n there = step (bytes_eq n (codes "phandle")) refl
    where
      step : (c : Bool) → bytes_eq n (codes "phandle") ≡ c → instance_value m a.number p n ≡ instance_value m b.number p n
      step true e = rw e (phandle_same p (m.keyed p) there refl)
      step false e = rw e (bytes_same p n (option_and_then (all_bound es) (value_at es (reverse p) n)) refl)

  value_same : (p : Path) (n k : Node) (x : Name) → node_at t p ≡ Some n → node_at u p ≡ Some k → value_of n.properties x ≡ value_of k.properties x
  value_same p n k x e f =
      let there : stands es (reverse p) ≡ true = sym (a.instance.nodes p) ∙ ap is_some e in
      let values : value_in t p x ≡ value_in u p x = a.instance.values p x ∙ instance_same p x there ∙ sym (b.instance.values p x) in
      let left : value_in t p x ≡ value_of n.properties x = ap (option_and_then (λ (c : Node). value_of c.properties x)) e in
      let right : value_in u p x ≡ value_of k.properties x = ap (option_and_then (λ (c : Node). value_of c.properties x)) f in
      sym left ∙ values ∙ right

  properties_same : (p : Path) (n k : Node) → node_at t p ≡ Some n → node_at u p ≡ Some k → n.properties ≡ k.properties
  properties_same p n k e f =
      let of_t = a.order.properties p n e in
      let of_u = b.order.properties p k f in
      let defined : of_t.0 ≡ of_u.0 = one_order _ _ _ _ of_t.2 of_u.2 in
      same_properties n.properties k.properties (of_t.1 ∙ ap (λ xs. xs ++ unwritten m p) defined ∙ sym of_u.1)
      (apart_below p (root_of t) n (root_apart t a.valid) e).properties (λ x. value_same p n k x e f)

  -- ---- the same tree

  children_same : t.children ≡ u.children
  children_same =
      alike_same t.children u.children
      (alike (λ ps qs. ps ≡ qs) t.children u.children (names_same [] (root_of t) (root_of u) refl refl) a.valid.nodes b.valid.nodes a.valid.siblings b.valid.siblings
      (λ x p n k e f. (properties_same (x ∷ p) n k e f, names_same (x ∷ p) n k e f)))

  pub one_instance : t ≡ u
  one_instance =
      let boot_cpu : t.boot_cpu ≡ u.boot_cpu = a.boot_cpu ∙ sym b.boot_cpu in
      let kept : t.reservations ≡ u.reservations = a.instance.reservations ∙ sym b.instance.reservations in
      let properties : t.properties ≡ u.properties = properties_same [] (root_of t) (root_of u) refl refl in
      λ i. record { boot_cpu = boot_cpu i; reservations = kept i; properties = properties i; children = children_same i }

-- ---- with the labels

one_symbols : (es : Events) (ps : List Path) (xs ys : List Property) → AreSymbols es ps xs → AreSymbols es ps ys → xs ≡ ys
one_symbols es [] xs ys a b = a ∙ sym b
one_symbols es (p ∷ ps) xs ys a b =
    let labels : a.0 ≡ b.0 = one_order _ _ _ _ a.3 b.3 in
    let others : a.1 ≡ b.1 = one_symbols es ps a.1 b.1 a.4 b.4 in
    a.2 ∙ (λ i. map (symbol p) (labels i) ++ others i) ∙ sym b.2

-- events after which a tree's nodes stand
sound_events : (mode : Mode) (places : List Place) (s : SoFar) → read_all mode nothing places ≡ Ok s → stands s.events [] ≡ true → Sound s.events
sound_events mode places s read there =
    elim (holds-source no_rules mode s places tt (all_from (Obeys no_rules mode) (any_obeys mode) places) read) [
      | inl none ↦ let z : false ≡ true = ap (λ (x : SoFar). stands x.events []) (sym none.1) ∙ there in cc
      | inr holds ↦ holds.sound
    ]

pub meant_sound : (mode : Mode) (reservations : List (ℕ × ℕ)) (places : List Place) (t : Reading) (i : IsInstanceOf mode reservations places t) → Sound i.means.so_far.events
meant_sound mode reservations places t i =
    let root : true ≡ stands i.means.so_far.events [] = (is_meant mode reservations places t i).instance.nodes [] in
    sound_events mode places i.means.so_far i.means.all_read (sym root)

pub one_tree : OneTree
one_tree mode reservations places t u a b =
    let end : a.instance.means.so_far ≡ b.instance.means.so_far = one_end _ _ a.instance.means.all_read b.instance.means.all_read in
    let es : Events = b.instance.means.so_far.events in
    let first : IsMeant reservations es a.bare = subst (λ (s : SoFar). IsMeant reservations s.events a.bare) end (is_meant mode reservations places a.bare a.instance) in
    let second : IsMeant reservations es b.bare = is_meant mode reservations places b.bare b.instance in
    let bare : a.bare ≡ b.bare = one_instance reservations es (meant_sound mode reservations places b.bare b.instance) a.bare b.bare first second in
    let of_a : AreSymbols es (paths_of b.bare) a.symbols =
    subst (λ (x : Reading). AreSymbols es (paths_of x) a.symbols) bare (subst (λ (s : SoFar). AreSymbols s.events (paths_of a.bare) a.symbols) end a.labels) in
    let symbols : a.symbols ≡ b.symbols = one_symbols es (paths_of b.bare) a.symbols b.symbols of_a b.labels in
    a.is ∙ (λ i. added mode (symbols i) (bare i)) ∙ sym b.is
