-- What stands after the events of a tree's places, and what its properties hold: the tree's nodes and values.
use Rattle.std.proofs.Common.{◌≡◌, ◌≢◌, ℕ, Bool, true, false, ◌||◌, List, [], ◌∷◌, ◌++◌, map, reverse, refl, sym, ap, subst, ◌∙◌, ◌⊎◌, inl, inr, Option, Some, None, append_assoc, true≢false, cond}
use Rattle.std.specs.List.{flat_map}
use Rattle.std.specs.Option.{option_map, option_or}
use Rattle.std.specs.Str.{bytes_eq}
use Rattle.std.proofs.lemmas.List.{reverse-append, reverse-reverse}
use Rattle.dt_model.specs.Names.{Name}
use Rattle.dt_model.specs.Path.{Path}
use Rattle.dt_model.specs.Lists.{IsIn}
use Rattle.dt_model.specs.Event.{Stack, Event, opening, giving, definition, opens, takes, defines, drops, last_where, is_opening, defined, stands, value_at, names}
use Rattle.dt_model.specs.Source.{Part, one, Events}
use Rattle.dt_model.specs.Tree.{Property, Forest, no_nodes, branch, Reading, value_of, stands_in, value_in, Placed, preorder, nodes_of}
use Rattle.dt_model.specs.Valid.{AreDistinct, IsValid}
use Rattle.dt_model.proofs.Distinct.{in_flat}
use Rattle.dt_model.proofs.Flat.{from_flat}
use Rattle.dt_model.proofs.Lasts.{last_passes, stands_by, names_by, value_by}
use Rattle.dt_model.proofs.Listed.{listed_stands, stands_listed, listed_value, value_listed, properties_listed}
use Rattle.dt_model_laws.proofs.Meanings.{no_twice}
use Rattle.dt_model.proofs.Tests.{in_map, each_in, bytes_eq_refl, bytes_eq_true, path_eq_refl}
use Rattle.dt_decompile_laws.proofs.ReadPlaces.{property_events, node_events, events_of}

-- ---- the events node by node

-- those of one node
abbrev pub own : Placed → Events
own n = opening (reverse n.path) ∷ property_events (reverse n.path) n.properties

pub reverse_child : (p : Path) (x : Name) → reverse (p ++ x ∷ []) ≡ x ∷ reverse p
reverse_child p x = reverse-append p (x ∷ [])

flat_append : (xs ys : List Placed) → flat_map own (xs ++ ys) ≡ flat_map own xs ++ flat_map own ys
flat_append [] ys = refl
flat_append (x ∷ xs) ys = ap (λ (es : Events). own x ++ es) (flat_append xs ys) ∙ sym (append_assoc (own x) (flat_map own xs) (flat_map own ys))

nodes_listed : (path : Path) (f : Forest) → node_events (reverse path) f ≡ flat_map own (preorder path f)
nodes_listed path no_nodes = refl
nodes_listed path (branch x properties children siblings) =
    let here : Events = own (record { path = path ++ x ∷ []; properties = properties }) in
    let inner = preorder (path ++ x ∷ []) children in
    ap (λ (q : Stack). opening q ∷ (property_events q properties ++ (node_events q children ++ node_events (reverse path) siblings))) (sym (reverse_child path x))
    ∙ ap (λ (es : Events). here ++ (es ++ node_events (reverse path) siblings)) (nodes_listed (path ++ x ∷ []) children)
    ∙ ap (λ (es : Events). here ++ (flat_map own inner ++ es)) (nodes_listed path siblings)
    ∙ ap (λ (es : Events). here ++ es) (sym (flat_append inner (preorder path siblings)))

pub events_listed : (t : Reading) → events_of t ≡ flat_map own (nodes_of t)
events_listed t = ap (λ (es : Events). own (record { path = []; properties = t.properties }) ++ es) (nodes_listed [] t.children)

-- ---- which events there are

-- the event opens a node, or defines a property of it
abbrev pub IsOf : Placed → Event (List Part) → Type 0
IsOf n e = (e ≡ opening (reverse n.path)) ⊎ ((p : Property) × IsIn p n.properties × (e ≡ definition (reverse n.path) p.name (map one p.value)))

defined_of : (q : Stack) (ps : List Property) (e : Event (List Part)) → IsIn e (property_events q ps) → (p : Property) × IsIn p ps × (e ≡ definition q p.name (map one p.value))
defined_of q [] e i = absurd i
defined_of q (p ∷ ps) e (inl same) = (p, inl refl, same)
defined_of q (p ∷ ps) e (inr i) = let w = defined_of q ps e i in (w.0, inr w.1, w.2)

own_of : (n : Placed) (e : Event (List Part)) → IsIn e (own n) → IsOf n e
own_of n e (inl same) = inl same
own_of n e (inr i) = inr (defined_of (reverse n.path) n.properties e i)

in_defined : (q : Stack) (ps : List Property) (p : Property) → IsIn p ps → IsIn (definition q p.name (map one p.value)) (property_events q ps)
in_defined q [] p i = absurd i
in_defined q (x ∷ ps) p (inl same) = inl (ap (λ (z : Property). definition q z.name (map one z.value)) same)
in_defined q (x ∷ ps) p (inr i) = inr (in_defined q ps p i)

-- ---- the last of some events

or_in : {X : Type 0} (o : Option X) (x y : X) → option_or o (Some x) ≡ Some y → (o ≡ Some y) ⊎ (x ≡ y)
or_in None x y e = inr (let z : Some x ≡ Some y = e in cc)
or_in (Some z) x y e = inl e

last_in : (test : Event (List Part) → Bool) (es : Events) (e : Event (List Part)) → last_where test es ≡ Some e → IsIn e es
last_in test [] e h = absurd (let z : None ≡ Some e = h in cc)
last_in test (d ∷ es) e h = step (last_where test es) (test d) (λ k. last_in test es e k) h
  where
    step : (o : Option (Event (List Part))) (b : Bool) → (o ≡ Some e → IsIn e es) → option_or o (cond b (Some d) None) ≡ Some e → IsIn e (d ∷ es)
    step None true later k = inl (let z : Some d ≡ Some e = k in let same : d ≡ e = cc in sym same)
    step None false later k = absurd (let z : None ≡ Some e = k in cc)
    step (Some x) b later k = inr (later k)

-- where one passes, there is a last one
last_there : (test : Event (List Part) → Bool) (es : Events) (e : Event (List Part)) → IsIn e es → test e ≡ true → (d : Event (List Part)) × (last_where test es ≡ Some d)
last_there test [] e i h = absurd i
last_there test (x ∷ es) e (inl same) h = step (last_where test es)
  where
    step : (o : Option (Event (List Part))) → (d : Event (List Part)) × (option_or o (cond (test x) (Some x) None) ≡ Some d)
    step None = (x, ap (λ b. cond b (Some x) None) (ap test (sym same) ∙ h))
    step (Some d) = (d, refl)
last_there test (x ∷ es) e (inr i) h = let w = last_there test es e i h in (w.0, ap (λ o. option_or o (cond (test x) (Some x) None)) w.1)

-- ---- properties by their names

pub listed_property : (ps : List Property) (p : Property) → AreDistinct (map (λ (x : Property). x.name) ps) → IsIn p ps → value_of ps p.name ≡ Some p.value
listed_property [] p d i = absurd i
listed_property (x ∷ ps) p d (inl same) = ap (λ (z : Property). value_of (x ∷ ps) z.name) same ∙ rw (bytes_eq_refl x.name) (ap (λ (z : Property). Some z.value) (sym same))
listed_property (x ∷ ps) p d (inr i) = step (listed_property ps p d.1 i) (bytes_eq p.name x.name) refl
  where
    step : value_of ps p.name ≡ Some p.value → (b : Bool) → bytes_eq p.name x.name ≡ b → (cond b (Some x.value) (value_of ps p.name)) ≡ Some p.value
    step later true e = absurd (each_in (λ y. y ≢ x.name) (map (λ (z : Property). z.name) ps) p.name d.0 (in_map (λ (z : Property). z.name) ps p i) (bytes_eq_true p.name x.name e))
    step later false e = later

pub property_listed : (ps : List Property) (x : Name) (v : List ℕ) → value_of ps x ≡ Some v → IsIn (record { name = x; value = v }) ps
property_listed [] x v e = absurd (let z : None ≡ Some v = e in cc)
property_listed (p ∷ ps) x v e = step (property_listed ps x v) (bytes_eq x p.name) refl e
  where
    step : (value_of ps x ≡ Some v → IsIn (record { name = x; value = v }) ps) → (b : Bool) → bytes_eq x p.name ≡ b → (cond b (Some p.value) (value_of ps x)) ≡ Some v → IsIn (record { name = x; value = v }) (p ∷ ps)
    step later true k h = let same : p.value ≡ v = (let z : Some p.value ≡ Some v = h in cc) in inl (ap (λ y. record { name = y; value = v }) (bytes_eq_true x p.name k) ∙ ap (λ w. record { name = p.name; value = w }) (sym same))
    step later false k h = inr (later h)

-- ---- what stands

same_answers : (a b : Bool) → (a ≡ true → b ≡ true) → (b ≡ true → a ≡ true) → a ≡ b
same_answers true b f g = sym (f refl)
same_answers false true f g = g refl
same_answers false false f g = refl

module _ (t : Reading) (valid : IsValid t) where
  abbrev es : Events
  es = flat_map own (nodes_of t)

  pub event_of : (e : Event (List Part)) → IsIn e es → (n : Placed) × IsIn n (nodes_of t) × IsOf n e
  event_of e i = let w = from_flat own (nodes_of t) e i in (w.0, w.1, own_of w.0 e w.2)

  opened_is : (q : Stack) → stands es q ≡ true → (n : Placed) × IsIn n (nodes_of t) × (reverse n.path ≡ q)
  opened_is q h =
      let w = event_of (opening q) (last_in _ es (opening q) (stands_by es q h)) in
      elim w.2 as (λ z. (n : Placed) × IsIn n (nodes_of t) × (reverse n.path ≡ q)) [
        | inl same ↦ (w.0, w.1, (let z : ◌≡◌ {A = Event (List Part)} (opening q) (opening (reverse (w.0).path)) = same in let e : q ≡ reverse (w.0).path = cc in sym e))
        | inr d ↦ absurd (let z : ◌≡◌ {A = Event (List Part)} (opening q) (definition (reverse (w.0).path) (d.0).name (map one (d.0).value)) = d.2 in cc)
      ]

  listed_is_opened : (n : Placed) → IsIn n (nodes_of t) → stands es (reverse n.path) ≡ true
  listed_is_opened n i =
      let q = reverse n.path in
      let test : Event (List Part) → Bool = λ e. opens q e || takes q e in
      let last = last_there test es (opening q) (in_flat own (nodes_of t) n (opening q) i (inl refl)) (ap (λ b. b || false) (path_eq_refl q)) in
      let w = event_of last.0 (last_in test es last.0 last.1) in
      ap is_opening last.1 ∙ (elim w.2 as (λ z. is_opening (Some last.0) ≡ true) [
        | inl same ↦ ap (λ e. is_opening (Some e)) same
        | inr d ↦ absurd (true≢false (sym (last_passes test es last.0 last.1) ∙ ap test d.2))
      ])

  pub stands_same : (p : Path) → stands_in t p ≡ stands es (reverse p)
  stands_same p = same_answers (stands_in t p) (stands es (reverse p)) to from
    where
      to : stands_in t p ≡ true → stands es (reverse p) ≡ true
      to h = let w = stands_listed t p h in subst (λ q. stands es (reverse q) ≡ true) w.2 (listed_is_opened w.0 w.1)

      from : stands es (reverse p) ≡ true → stands_in t p ≡ true
      from h = let w = opened_is (reverse p) h in subst (λ q. stands_in t q ≡ true) (no_twice (w.0).path p w.2) (listed_stands t w.0 valid w.1)

  -- ---- values

  defined_is : (q : Stack) (x : Name) (v : List Part) → value_at es q x ≡ Some v → (w : List ℕ) × (value_in t (reverse q) x ≡ Some w) × (v ≡ map one w)
  defined_is q x v h =
      let w = event_of (definition q x v) (last_in _ es (definition q x v) (value_by es q x v h)) in
      let n = w.0 in
      elim w.2 as (λ z. (w : List ℕ) × (value_in t (reverse q) x ≡ Some w) × (v ≡ map one w)) [
        | inl same ↦ absurd (let z : ◌≡◌ {A = Event (List Part)} (definition q x v) (opening (reverse n.path)) = same in cc)
        | inr d ↦
            let p = d.0 in
            let z : ◌≡◌ {A = Event (List Part)} (definition q x v) (definition (reverse n.path) p.name (map one p.value)) = d.2 in
            let eq : q ≡ reverse n.path = cc in
            let ex : x ≡ p.name = cc in
            let ev : v ≡ map one p.value = cc in
            let there = listed_value t n p.name valid w.1 ∙ listed_property n.properties p (properties_listed t n valid w.1).distinct d.1 in
            (p.value, ap (λ r. value_in t (reverse r) x) eq ∙ ap (λ r. value_in t r x) (reverse-reverse n.path) ∙ ap (value_in t n.path) ex ∙ there, ev)
      ]

  -- where an event defines a property or drops it, the last such event defines it
  last_defines : (q : Stack) (x : Name) (e : Event (List Part)) → IsIn e es → (defines q x e || drops q x e) ≡ true → (v : List Part) × (value_at es q x ≡ Some v)
  last_defines q x e i h =
      let last = last_there (λ d. defines q x d || drops q x d) es e i h in
      let w = event_of last.0 (last_in (λ d. defines q x d || drops q x d) es last.0 last.1) in
      step w.0 last.0 w.2 last.1 (last_passes (λ d. defines q x d || drops q x d) es last.0 last.1)
    where
      step : (n : Placed) (d : Event (List Part)) → IsOf n d → last_where (λ d. defines q x d || drops q x d) es ≡ Some d → (defines q x d || drops q x d) ≡ true
          → (v : List Part) × (value_at es q x ≡ Some v)
      step n d (inl same) is passes = absurd (true≢false (sym passes ∙ ap (λ d. defines q x d || drops q x d) same))
      step n d (inr p) is passes = (map one (p.0).value, ap defined is ∙ ap (λ d. defined (Some d)) p.2)

  -- a property that a node has is defined
  listed_is_defined : (n : Placed) (p : Property) → IsIn n (nodes_of t) → IsIn p n.properties → (v : List Part) × (value_at es (reverse n.path) p.name ≡ Some v)
  listed_is_defined n p i j =
      last_defines (reverse n.path) p.name (definition (reverse n.path) p.name (map one p.value))
      (in_flat own (nodes_of t) n (definition (reverse n.path) p.name (map one p.value)) i (inr (in_defined (reverse n.path) n.properties p j)))
      (rw (path_eq_refl (reverse n.path), bytes_eq_refl p.name) refl)

  pub value_same : (p : Path) (x : Name) → value_at es (reverse p) x ≡ option_map (map one) (value_in t p x)
  value_same p x = step (value_in t p x) refl
    where
      back : (v : List Part) → value_at es (reverse p) x ≡ Some v → (w : List ℕ) × (value_in t p x ≡ Some w) × (v ≡ map one w)
      back v h = let d = defined_is (reverse p) x v h in (d.0, ap (λ r. value_in t r x) (sym (reverse-reverse p)) ∙ d.1, d.2)

      none : value_in t p x ≡ None → (o : Option (List Part)) → value_at es (reverse p) x ≡ o → value_at es (reverse p) x ≡ None
      none e None h = h
      none e (Some v) h = let w = back v h in absurd (let z : None ≡ Some w.0 = sym e ∙ w.1 in cc)

      step : (o : Option (List ℕ)) → value_in t p x ≡ o → value_at es (reverse p) x ≡ option_map (map one) o
      step None e = none e (value_at es (reverse p) x) refl
      step (Some v) e =
          let n = value_listed t p x v e in
          let d = listed_is_defined n.0 (record { name = x; value = v }) n.1 (property_listed (n.0).properties x v n.3) in
          let there : value_at es (reverse p) x ≡ Some d.0 = ap (λ r. value_at es (reverse r) x) (sym n.2) ∙ d.1 in
          let w = back d.0 there in
          let same : v ≡ w.0 = (let z : Some v ≡ Some w.0 = sym e ∙ w.1 in cc) in
          there ∙ ap Some (w.2 ∙ ap (map one) (sym same))

  -- ---- labels

  pub no_names : (l : Name) (q : Stack) → names es l q ≡ false
  no_names l q = step (names es l q) refl
    where
      step : (b : Bool) → names es l q ≡ b → b ≡ false
      step false h = refl
      step true h =
          let w = event_of (giving l q) (last_in _ es (giving l q) (names_by es l q h)) in
          elim w.2 as (λ z. true ≡ false) [
            | inl same ↦ absurd (let z : ◌≡◌ {A = Event (List Part)} (giving l q) (opening (reverse (w.0).path)) = same in cc)
            | inr d ↦ absurd (let z : ◌≡◌ {A = Event (List Part)} (giving l q) (definition (reverse (w.0).path) (d.0).name (map one (d.0).value)) = d.2 in cc)
          ]
