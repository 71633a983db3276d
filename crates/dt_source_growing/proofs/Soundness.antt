-- A change of a tree under construction keeps what its tables say.
use Rattle.std.proofs.Common.{◌≡◌, ℕ, ◌+◌, ◌<◌, ◌≤◌, Bool, true, false, List, [], ◌∷◌, ◌++◌, Option, Some, None, cond, nat_eq, suc, zero, length, slice_get, slice_set, refl, sym, ◌∙◌, ap, subst, arith, length-append}
use Rattle.std.specs.Option.{option_and_then, option_map_or}
use Rattle.std.specs.Str.{bytes_eq}
use Rattle.std.proofs.lemmas.Option.{option_and_then_some, slice_get_within}
use Rattle.std.proofs.lemmas.Bool.{eqb-true, eq-eqb}
use Rattle.dt_model.specs.Names.{Name}
use Rattle.dt_model.specs.Event.{Stack}
use Rattle.dt_model.specs.Source.{Part}
use Rattle.dt_model.proofs.EventSteps.{bytes_eq-is, bytes_eq-refl}
use Rattle.dt_names.specs.declared.key.NameKey.{NameKey}
use Rattle.dt_source_growing.specs.Grown.{name_said}
use Rattle.dt_source_growing.specs.Table.{Key, Puts, name_entry, PutsName}
use Rattle.dt_source_growing.specs.Shape.{Shape, node_at, given_at, IsForest}
use Rattle.dt_source_growing.specs.Growing.{found, nodes_listed, properties_listed, HasNodes, HasProperties, HasLabels, to_node, given_to, shape, IsSoundGrowing}
use Rattle.dt_source_growing.specs.declared.table.Last.{Last}
use Rattle.dt_source_growing.specs.declared.growing.Node.{Node}
use Rattle.dt_source_growing.specs.declared.growing.Property.{Property}
use Rattle.dt_source_growing.specs.declared.growing.Giving.{Giving}
use Rattle.dt_source_growing.specs.declared.growing.Growing.{Growing}
use Rattle.dt_model.proofs.Cases.{bool_cases}
use Rattle.dt_source_growing.proofs.Listings.{giving_of, label_of, found_is, indexed-added, indexed-dropped, indexed-kept, listed-push, listed-drop, listed-again, listed-written, slice_get-push_old, slice_get-push_new, slice_get-set_same, slice_get-set_other, length-set}

beyond : {X : Type 0} (xs : List X) (k : ℕ) → k < length xs → slice_get xs k ≡ None → ⊥
beyond [] k less none = omega arith
beyond (x ∷ xs) zero less none = cc
beyond (x ∷ xs) (suc k) less none = beyond xs k (omega arith) none

inside_cases : {X : Type 0} (o : Option X) → (o ≡ None → ⊥) → (x : X) × (o ≡ Some x)
inside_cases (Some x) h = (x, refl)
inside_cases None h = absurd (h refl)

-- an element inside a list
pub element : {X : Type 0} (xs : List X) (k : ℕ) → k < length xs → (x : X) × (slice_get xs k ≡ Some x)
element xs k h = inside_cases (slice_get xs k) (beyond xs k h)

-- an element of a list that got one more, or one in the place of another
pub pushed_cases : {X : Type 0} (xs : List X) (y : X) (k : ℕ) (x : X) (P : Type 0) → slice_get (xs ++ y ∷ []) k ≡ Some x
    → (k < length xs → slice_get xs k ≡ Some x → P) → (k ≡ length xs → y ≡ x → P) → P
pushed_cases xs y k x P h f g =
    let within : k < length (xs ++ y ∷ []) = slice_get_within (xs ++ y ∷ []) k x h in
    let len : length (xs ++ y ∷ []) ≡ length xs + 1 = length-append xs (y ∷ []) in
    bool_cases (nat_eq k (length xs)) P
    (λ t. let e : k ≡ length xs = eqb-true k (length xs) t in g e (let s : Some y ≡ Some x = sym (slice_get-push_new xs y k e) ∙ h in let z : y ≡ x = cc in z))
    (λ n.
    let ne : k ≡ length xs → ⊥ = λ e. let t : nat_eq k (length xs) ≡ true = eq-eqb k (length xs) e in cc in
    let old : k < length xs = omega arith in
    f old (sym (slice_get-push_old xs y k old) ∙ h))

pub set_cases : {X : Type 0} (xs : List X) (j : ℕ) (y : X) (k : ℕ) (x : X) (P : Type 0) → slice_get (slice_set xs j y) k ≡ Some x
    → (slice_get xs k ≡ Some x → P) → (j ≡ k → k < length xs → y ≡ x → P) → P
set_cases xs j y k x P h f g =
    bool_cases (nat_eq j k) P
    (λ t.
    let e : j ≡ k = eqb-true j k t in
    let within : k < length xs = omega (arith, slice_get_within (slice_set xs j y) k x h, length-set xs j y) in
    let was = element xs k within in
    let now : slice_get (slice_set xs j y) k ≡ Some y = subst (λ i. slice_get (slice_set xs i y) k ≡ Some y) (sym e) (slice_get-set_same xs k y was.0 was.1) in
    g e within (let s : Some y ≡ Some x = sym now ∙ h in let z : y ≡ x = cc in z))
    (λ n. f (sym (slice_get-set_other xs j k y (λ e. let t : nat_eq j k ≡ true = eq-eqb j k e in cc)) ∙ h))

-- ---- nodes

-- what is found as a child
pub record IsChild (nodes : List Node) (i : ℕ) (x : Name) (j : ℕ) : Type 0 where
  pub node : Node
  pub there : slice_get nodes j ≡ Some node
  pub parent : node.parent ≡ i
  pub name : name_said node.name ≡ x
  pub stands : node.stands ≡ true
  pub below : i < j
  pub inside : j < length nodes

pub is_child : (nodes : List Node) (entries : List (Key × Last)) → HasNodes nodes entries → (i : ℕ) (x : Name) (j : ℕ) → found (nodes_listed nodes entries) i x ≡ Some j → IsChild nodes i x j
is_child nodes entries h i x j e =
    let f = found_is (nodes_listed nodes entries) i x j e in
    let g = h.indexed.sound i x j f.0 in
    let n = element nodes j g.1 in
    let parent : n.0.parent ≡ i = sym (ap (λ (o : Option Node). option_map_or (λ n. n.parent) o 0) n.1) ∙ g.2 in
    record {
      node = n.0;
      there = n.1;
      parent = parent;
      name = sym (ap (λ (o : Option Node). option_map_or (λ n. name_said n.name) o []) n.1) ∙ g.3;
      stands = sym (ap (λ (o : Option Node). option_map_or (λ n. n.stands) o false) n.1) ∙ f.1;
      below = rw (← parent) (h.above j n.0 (omega (arith, g.0)) n.1);
      inside = g.1;
    }

pub root-made : (n : Node) (entries : List (Key × Last)) → HasNodes [] entries → HasNodes (n ∷ []) entries
root-made n entries h = record {
  indexed = record {
    sound = λ i x k e. absurd (omega (arith, (h.indexed.sound i x k e).1));
    complete = λ k from below stands. absurd (omega arith);
  };
  above = λ k m from there. let b : k < length (n ∷ []) = slice_get_within (n ∷ []) k m there in absurd (omega arith);
}

nil : {X : Type 0} (xs : List X) → length xs ≡ 0 → xs ≡ []
nil [] h = refl
nil (x ∷ xs) h = absurd (omega arith)

pub root-pushed : (nodes new : List Node) (n : Node) (entries : List (Key × Last)) → HasNodes nodes entries → length nodes ≡ 0 → new ≡ nodes ++ n ∷ [] → HasNodes new entries
root-pushed nodes new n entries h none e =
    let empty : nodes ≡ [] = nil nodes none in
    subst (λ xs. HasNodes xs entries) (sym (e ∙ ap (λ xs. xs ++ n ∷ []) empty)) (root-made n entries (subst (λ xs. HasNodes xs entries) empty h))

pub child-added : (nodes : List Node) (n : Node) (old new : List (Key × Last)) (w : Last) → HasNodes nodes old → n.parent < length nodes
    → found (nodes_listed nodes old) n.parent (name_said n.name) ≡ None → Puts old new n.parent (name_said n.name) w → w.index ≡ length nodes → n.stands ≡ true → HasNodes (nodes ++ n ∷ []) new
child-added nodes n old new w h inside none puts index here = record {
  indexed = indexed-added 1 (nodes_listed nodes old) (nodes_listed (nodes ++ n ∷ []) new) n.parent (name_said n.name) (omega arith) h.indexed none
      (listed-push (λ (m : Node). m.parent) (λ (m : Node). name_said m.name) (λ (m : Node). m.stands) nodes n old new w puts index here);
  above = λ k m from there. pushed_cases nodes n k m _ there (λ b e. h.above k m from e) (λ e s. rw (e, ← s) inside);
}

pub nodes-pushed : (nodes more : List Node) (n : Node) (old new : List (Key × Last)) (w : Last) → HasNodes nodes old → more ≡ nodes ++ n ∷ [] → n.parent < length nodes
    → found (nodes_listed nodes old) n.parent (name_said n.name) ≡ None → Puts old new n.parent (name_said n.name) w → w.index ≡ length nodes → n.stands ≡ true → HasNodes more new
nodes-pushed nodes more n old new w h e inside none puts index here = subst (λ xs. HasNodes xs new) (sym e) (child-added nodes n old new w h inside none puts index here)

pub node-fallen : (nodes : List Node) (k : ℕ) (n m : Node) (entries : List (Key × Last)) → HasNodes nodes entries → slice_get nodes k ≡ Some n → m.parent ≡ n.parent → name_said m.name ≡ name_said n.name → m.stands ≡ false
    → HasNodes (slice_set nodes k m) entries
node-fallen nodes k n m entries h there parent name fell = record {
  indexed = indexed-dropped 1 (nodes_listed nodes entries) (nodes_listed (slice_set nodes k m) entries) k h.indexed
      (listed-drop (λ (m : Node). m.parent) (λ (m : Node). name_said m.name) (λ (m : Node). m.stands) nodes k n m entries there parent name fell);
  above = λ j o from at. set_cases nodes k m j o _ at (λ e. h.above j o from e)
      (λ e b s. rw (← s, parent) (h.above j n from (subst (λ i. slice_get nodes i ≡ Some n) e there)));
}

pub child-again : (nodes : List Node) (old new : List (Key × Last)) (i : ℕ) (x : Name) (w : Last) → HasNodes nodes old → Puts old new i x w → found (nodes_listed nodes old) i x ≡ Some w.index → HasNodes nodes new
child-again nodes old new i x w h puts there = record {
  indexed = indexed-kept 1 (nodes_listed nodes old) (nodes_listed nodes new) h.indexed
      (listed-again (λ (m : Node). m.parent) (λ (m : Node). name_said m.name) (λ (m : Node). m.stands) nodes old new i x w puts there);
  above = h.above;
}

-- ---- properties

-- what is found as a property
pub record IsProperty (properties : List Property) (i : ℕ) (x : Name) (k : ℕ) : Type 0 where
  pub property : Property
  pub there : slice_get properties k ≡ Some property
  pub node : property.node ≡ i
  pub name : property.name.now ≡ x
  pub stands : property.stands ≡ true

pub is_property : (size : ℕ) (properties : List Property) (entries : List (Key × Last)) → HasProperties size properties entries → (i : ℕ) (x : Name) (k : ℕ)
    → found (properties_listed properties entries) i x ≡ Some k → IsProperty properties i x k
is_property size properties entries h i x k e =
    let f = found_is (properties_listed properties entries) i x k e in
    let g = h.indexed.sound i x k f.0 in
    let q = element properties k g.1 in
    record {
      property = q.0;
      there = q.1;
      node = sym (ap (λ (o : Option Property). option_map_or (λ n. n.node) o 0) q.1) ∙ g.2;
      name = sym (ap (λ (o : Option Property). option_map_or (λ n. n.name.now) o []) q.1) ∙ g.3;
      stands = sym (ap (λ (o : Option Property). option_map_or (λ n. n.stands) o false) q.1) ∙ f.1;
    }

pub properties-kept : (size more : ℕ) (properties : List Property) (entries : List (Key × Last)) → size ≤ more → HasProperties size properties entries → HasProperties more properties entries
properties-kept size more properties entries le h = record { indexed = h.indexed; owned = λ k q there. omega (arith, h.owned k q there, le) }

pub property-added : (size : ℕ) (properties : List Property) (q : Property) (old new : List (Key × Last)) (w : Last) → HasProperties size properties old → q.node < size
    → found (properties_listed properties old) q.node q.name.now ≡ None → Puts old new q.node q.name.now w → w.index ≡ length properties → q.stands ≡ true
    → HasProperties size (properties ++ q ∷ []) new
property-added size properties q old new w h inside none puts index here = record {
  indexed = indexed-added 0 (properties_listed properties old) (properties_listed (properties ++ q ∷ []) new) q.node q.name.now (omega arith) h.indexed none
      (listed-push (λ (m : Property). m.node) (λ (m : Property). m.name.now) (λ (m : Property). m.stands) properties q old new w puts index here);
  owned = λ k r there. pushed_cases properties q k r _ there (λ b e. h.owned k r e) (λ e s. rw (← s) inside);
}

pub properties-pushed : (size : ℕ) (properties more : List Property) (q : Property) (old new : List (Key × Last)) (w : Last) → HasProperties size properties old → more ≡ properties ++ q ∷ [] → q.node < size
    → found (properties_listed properties old) q.node q.name.now ≡ None → Puts old new q.node q.name.now w → w.index ≡ length properties → q.stands ≡ true → HasProperties size more new
properties-pushed size properties more q old new w h e inside none puts index here = subst (λ xs. HasProperties size xs new) (sym e) (property-added size properties q old new w h inside none puts index here)

pub property-written : (size : ℕ) (properties : List Property) (k : ℕ) (q r : Property) (old new : List (Key × Last)) (i : ℕ) (x : Name) (w : Last) → HasProperties size properties old
    → slice_get properties k ≡ Some q → r.node ≡ q.node → r.name.now ≡ q.name.now → r.stands ≡ q.stands → Puts old new i x w
    → found (properties_listed properties old) i x ≡ Some w.index → HasProperties size (slice_set properties k r) new
property-written size properties k q r old new i x w h there node name stands puts last = record {
  indexed = indexed-kept 0 (properties_listed properties old) (properties_listed (slice_set properties k r) new) h.indexed
      (listed-written (λ (m : Property). m.node) (λ (m : Property). m.name.now) (λ (m : Property). m.stands) properties k q r old new i x w there node name stands puts last);
  owned = λ j o at. set_cases properties k r j o _ at (λ e. h.owned j o e) (λ e b s. rw (← s, node) (h.owned k q there));
}

pub property-fallen : (size : ℕ) (properties : List Property) (k : ℕ) (q r : Property) (entries : List (Key × Last)) → HasProperties size properties entries
    → slice_get properties k ≡ Some q → r.node ≡ q.node → r.name.now ≡ q.name.now → r.stands ≡ false → HasProperties size (slice_set properties k r) entries
property-fallen size properties k q r entries h there node name fell = record {
  indexed = indexed-dropped 0 (properties_listed properties entries) (properties_listed (slice_set properties k r) entries) k h.indexed
      (listed-drop (λ (m : Property). m.node) (λ (m : Property). m.name.now) (λ (m : Property). m.stands) properties k q r entries there node name fell);
  owned = λ j o at. set_cases properties k r j o _ at (λ e. h.owned j o e) (λ e b s. rw (← s, node) (h.owned k q there));
}

pub properties-written : (size : ℕ) (properties new : List Property) (k : ℕ) (q r : Property) (old more : List (Key × Last)) (i : ℕ) (x : Name) (w : Last) → HasProperties size properties old
    → slice_get properties k ≡ Some q → r.node ≡ q.node → r.name.now ≡ q.name.now → r.stands ≡ q.stands → Puts old more i x w
    → found (properties_listed properties old) i x ≡ Some w.index → new ≡ slice_set properties k r → HasProperties size new more
properties-written size properties new k q r old more i x w h there node name stands puts last e =
    subst (λ xs. HasProperties size xs more) (sym e) (property-written size properties k q r old more i x w h there node name stands puts last)

pub properties-fallen : (size : ℕ) (properties new : List Property) (k : ℕ) (q r : Property) (entries : List (Key × Last)) → HasProperties size properties entries
    → slice_get properties k ≡ Some q → r.node ≡ q.node → r.name.now ≡ q.name.now → r.stands ≡ false → new ≡ slice_set properties k r → HasProperties size new entries
properties-fallen size properties new k q r entries h there node name fell e = subst (λ xs. HasProperties size xs entries) (sym e) (property-fallen size properties k q r entries h there node name fell)

-- ---- labels

to_node_is : (givings : List Giving) (i j k : ℕ) → to_node givings i j ≡ Some k → (j ≡ k) × ((g : Giving) × (slice_get givings j ≡ Some g) × (g.node ≡ i))
to_node_is givings i j k h = by (slice_get givings j) refl h
  where
    test : (g : Giving) (b : Bool) → nat_eq g.node i ≡ b → cond b (Some j) None ≡ Some k → (j ≡ k) × (g.node ≡ i)
    test g true e h = (cc, eqb-true g.node i e)
    test g false e h = cc

    by : (o : Option Giving) → slice_get givings j ≡ o → option_and_then (λ (g : Giving). cond (nat_eq g.node i) (Some j) None) o ≡ Some k
        → (j ≡ k) × ((g : Giving) × (slice_get givings j ≡ Some g) × (g.node ≡ i))
    by None e h = cc
    by (Some g) e h = let t = test g (nat_eq g.node i) refl h in (t.0, (g, e, t.1))

-- what is found as the giving of a label to a node
pub record IsGiven (givings : List Giving) (entries : List (NameKey × ℕ)) (i : ℕ) (l : Name) (k : ℕ) : Type 0 where
  pub giving : Giving
  pub there : slice_get givings k ≡ Some giving
  pub node : giving.node ≡ i
  pub label : giving.label.now ≡ l
  pub found : name_entry entries l ≡ Some k

pub is_given : (s : Shape (List Part)) (givings : List Giving) (entries : List (NameKey × ℕ)) → HasLabels s givings entries → (i : ℕ) (l : Name) (k : ℕ)
    → given_to givings entries i l ≡ Some k → IsGiven givings entries i l k
is_given s givings entries h i l k e =
    option_and_then_some (to_node givings i) (name_entry entries l) k e
    (λ j e1 e2.
    let t = to_node_is givings i j k e2 in
    let g = giving_of givings j l (h.sound l j e1) in
    let same : Some t.1.0 ≡ Some g.0 = sym t.1.1 ∙ g.1 in
    let tg : t.1.0 ≡ g.0 = cc in
    record {
      giving = t.1.0;
      there = ap (slice_get givings) (sym t.0) ∙ t.1.1;
      node = t.1.2;
      label = ap (λ (g : Giving). g.label.now) tg ∙ g.2;
      found = e1 ∙ ap Some t.0;
    })

-- and the other way round
pub given_is : (givings : List Giving) (entries : List (NameKey × ℕ)) (l : Name) (k : ℕ) (g : Giving) → name_entry entries l ≡ Some k → slice_get givings k ≡ Some g
    → given_to givings entries g.node l ≡ Some k
given_is givings entries l k g e there =
    ap (option_and_then (to_node givings g.node)) e ∙ ap (option_and_then (λ (h : Giving). cond (nat_eq h.node g.node) (Some k) None)) there
    ∙ ap (λ b. cond b (Some k) None) (eq-eqb g.node g.node refl)

-- where the nodes that stand stood, the labels stay
pub labels-kept : (s t : Shape (List Part)) (givings : List Giving) (entries : List (NameKey × ℕ)) → s.size ≤ t.size
    → ((p : Stack) (i : ℕ) → i < s.size → node_at t p ≡ Some i → node_at s p ≡ Some i) → HasLabels s givings entries → HasLabels t givings entries
labels-kept s t givings entries le stood h = record {
  sound = h.sound;
  owned = λ k g there. omega (arith, h.owned k g there, le);
  latest = λ p k g there at. h.latest p k g there (stood p g.node (h.owned k g there) at);
}

-- a label that no node has is given
pub label-given : (s t : Shape (List Part)) (givings : List Giving) (g : Giving) (old new : List (NameKey × ℕ)) (w : ℕ) → t.size ≡ s.size → ((p : Stack) → node_at t p ≡ node_at s p)
    → s.given ≡ given_to givings old → HasLabels s givings old → g.node < s.size → ((p : Stack) → given_at s (p, g.label.now) ≡ None) → PutsName old new g.label.now w → w ≡ length givings
    → HasLabels t (givings ++ g ∷ []) new
label-given s t givings g old new w size same given h inside alone puts index = record {
  sound = λ l k e.
      let x = put_there l k (bytes_eq g.label.now l) refl (sym (puts l) ∙ e) in label_of (givings ++ g ∷ []) k l x.0 x.1 x.2;
  owned = λ k x there. rw size (pushed_cases givings g k x _ there (λ b e. h.owned k x e) (λ e z. rw (← z) inside));
  latest = λ p k x there at.
      pushed_cases givings g k x _ there
      (λ b e. stays p k x e (sym (same p) ∙ at))
      (λ e z.
      let test : bytes_eq g.label.now x.label.now ≡ true = rw (← z) (bytes_eq-refl g.label.now) in
      puts x.label.now ∙ ap (λ c. cond c (Some w) (name_entry old x.label.now)) test ∙ ap Some (index ∙ sym e));
}
  where
    put_there : (l : Name) (k : ℕ) (b : Bool) → bytes_eq g.label.now l ≡ b → cond b (Some w) (name_entry old l) ≡ Some k → (x : Giving) × (slice_get (givings ++ g ∷ []) k ≡ Some x) × (x.label.now ≡ l)
    put_there l k true t e = let wk : w ≡ k = cc in (g, slice_get-push_new givings g k (sym wk ∙ index), bytes_eq-is g.label.now l t)
    put_there l k false f e = let x = giving_of givings k l (h.sound l k e) in (x.0, slice_get-push_old givings g k (slice_get_within givings k x.0 x.1) ∙ x.1, x.2)

    stays : (p : Stack) (k : ℕ) (x : Giving) → slice_get givings k ≡ Some x → node_at s p ≡ Some x.node → name_entry new x.label.now ≡ Some k
    stays p k x there at = by (bytes_eq g.label.now x.label.now) refl
      where
        was : name_entry old x.label.now ≡ Some k
        was = h.latest p k x there at

        by : (b : Bool) → bytes_eq g.label.now x.label.now ≡ b → name_entry new x.label.now ≡ Some k
        by true t =
            let same_label : g.label.now ≡ x.label.now = bytes_eq-is g.label.now x.label.now t in
            let has : given_at s (p, x.label.now) ≡ Some k =
            ap (λ (f : ℕ → Name → Option ℕ). option_and_then (λ i. f i x.label.now) (node_at s p)) given ∙ ap (option_and_then (λ i. given_to givings old i x.label.now)) at ∙ given_is givings old x.label.now k x was there in
            let none : given_at s (p, x.label.now) ≡ None = subst (λ (l : Name). given_at s (p, l) ≡ None) same_label (alone p) in
            let clash : None ≡ Some k = sym none ∙ has in
            cc
        by false f = puts x.label.now ∙ ap (λ c. cond c (Some w) (name_entry old x.label.now)) f ∙ was

pub labels-given : (s t : Shape (List Part)) (givings more : List Giving) (g : Giving) (old new : List (NameKey × ℕ)) (w : ℕ) → t.size ≡ s.size → ((p : Stack) → node_at t p ≡ node_at s p)
    → s.given ≡ given_to givings old → HasLabels s givings old → g.node < s.size → ((p : Stack) → given_at s (p, g.label.now) ≡ None) → PutsName old new g.label.now w → w ≡ length givings
    → more ≡ givings ++ g ∷ [] → HasLabels t more new
labels-given s t givings more g old new w size same given h inside alone puts index e =
    subst (λ xs. HasLabels t xs new) (sym e) (label-given s t givings g old new w size same given h inside alone puts index)

-- ---- a sound tree is a forest

pub forest : (g : Growing) → IsSoundGrowing g → IsForest (shape g)
forest g h = record {
  edge = λ i x j e. let c = is_child g.nodes.items g.children h.has_nodes i x j e in (c.below, c.inside);
  once = λ i x k y j e e'.
      let c = is_child g.nodes.items g.children h.has_nodes i x j e in
      let d = is_child g.nodes.items g.children h.has_nodes k y j e' in
      let same : Some c.node ≡ Some d.node = sym c.there ∙ d.there in
      let cd : c.node ≡ d.node = cc in
      (sym c.parent ∙ ap (λ (n : Node). n.parent) cd ∙ d.parent, sym c.name ∙ ap (λ (n : Node). name_said n.name) cd ∙ d.name);
  placed = λ i n k e.
      let c = is_property (length g.nodes.items) g.properties.items g.indices h.has_properties i n k e in
      (rw (← c.node) (h.has_properties.owned k c.property c.there), slice_get_within g.properties.items k c.property c.there);
  placed_once = λ i n j m k e e'.
      let c = is_property (length g.nodes.items) g.properties.items g.indices h.has_properties i n k e in
      let d = is_property (length g.nodes.items) g.properties.items g.indices h.has_properties j m k e' in
      let same : Some c.property ≡ Some d.property = sym c.there ∙ d.there in
      let cd : c.property ≡ d.property = cc in
      (sym c.node ∙ ap (λ (q : Property). q.node) cd ∙ d.node, sym c.name ∙ ap (λ (q : Property). q.name.now) cd ∙ d.name);
  labelled = λ i l k e.
      let c = is_given (shape g) g.givings.items g.labels.map.entries h.has_labels i l k e in
      (rw (← c.node) (h.has_labels.owned k c.giving c.there), slice_get_within g.givings.items k c.giving c.there);
}
