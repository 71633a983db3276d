-- What a tree shows after the change that one more event makes.
use Rattle.std.proofs.Common.{◌≡◌, ℕ, ◌<◌, Bool, true, false, List, [], ◌∷◌, ◌++◌, Option, Some, None, ◌&&◌, ◌||◌, cond, nat_eq, is_some, refl, sym, ◌∙◌, ap, subst, arith}
use Rattle.std.specs.Option.{option_and_then}
use Rattle.std.specs.Str.{bytes_eq}
use Rattle.std.proofs.lemmas.Option.{option_and_then_some}
use Rattle.std.proofs.lemmas.Bool.{eqb-true, eq-eqb}
use Rattle.dt_model.specs.Names.{Name}
use Rattle.dt_model.specs.Path.{path_eq}
use Rattle.dt_model.specs.Event.{Stack, Event, opening, giving, definition, undefinition, deletion, is_within, takes, opens, gives, defines, drops, defined, stands, names, age, property_age, label_age}
use Rattle.dt_model.proofs.EventSteps.{path_eq-is, path_eq-refl, bytes_eq-is, bytes_eq-refl, value_at-push, age-push, property_age-push}
use Rattle.dt_source_growing.specs.Shape.{Shape, begun, index_after, node_at, property_at, given_at, IsForest, Shows, MakesRoot, AddsChild, Cuts, Defines, Undefines, Gives}
use Rattle.dt_model.proofs.Cases.{bool_cases}
use Rattle.dt_source_growing.proofs.TableLemmas.{both, key-refl}
use Rattle.dt_source_growing.proofs.Walks.{option_cases, same_then, node_at-same, node_at-added, node_at-cut, node_at_once, node_at_below, before_root, after_root}
use Rattle.dt_source_growing.proofs.Indices.{begun-keeps, begun-not, aged-after, some_after, stands-after, names-after, label_age-push}

through_none : {A B : Type 0} (f : A → Option B) (b : Bool) (o : Option A) → option_and_then f (cond b None o) ≡ cond b None (option_and_then f o)
through_none f true o = refl
through_none f false o = refl

then_none : {A B : Type 0} (f : A → Option B) (o : Option A) → o ≡ None → option_and_then f o ≡ None
then_none f o h = ap (option_and_then f) h

or_false : (b : Bool) → (b || false) ≡ b
or_false true = refl
or_false false = refl

begun_some : (next : ℕ) (o : Option ℕ) → (k : ℕ) × (begun true next o ≡ Some k)
begun_some next None = (next, refl)
begun_some next (Some i) = (i, refl)

and_not : (b c : Bool) → b ≡ false → (b && c) ≡ false
and_not b c h = ap (λ t. t && c) h

and_not_right : (b c : Bool) → c ≡ false → (b && c) ≡ false
and_not_right true c h = h
and_not_right false c h = refl

put_test : (q p : Stack) (m n : Name) → (path_eq q p && bytes_eq m n) ≡ true → (q ≡ p) × (m ≡ n)
put_test q p m n h = let b = both (path_eq q p) (bytes_eq m n) h in (path_eq-is q p b.0, bytes_eq-is m n b.1)

put_test-refl : (q : Stack) (m : Name) → (path_eq q q && bytes_eq m m) ≡ true
put_test-refl q m = rw (path_eq-refl q) (bytes_eq-refl m)

module _ {V : Type 0} where
  -- the numbers and the values go on as the event wants
  pub record GoesOn (s t : Shape V) (e : Event V) : Type 0 where
    pub nodes : (p : Stack) → node_at t p ≡ index_after (takes p e) (opens p e) s.size (node_at s p)
    pub properties : (x : Stack × Name) → property_at t x ≡ index_after (drops x.0 x.1 e) (defines x.0 x.1 e) s.count (property_at s x)
    pub values : (p : Stack) (n : Name) → option_and_then t.value (property_at t (p, n)) ≡ cond (defines p n e || drops p n e) (defined (Some e)) (option_and_then s.value (property_at s (p, n)))
    pub labels : (x : Stack × Name) → given_at t x ≡ index_after (takes x.0 e) (gives x.1 x.0 e) s.givings (given_at s x)

  pub property_below : (s : Shape V) → IsForest s → (x : Stack × Name) (k : ℕ) → property_at s x ≡ Some k → k < s.count
  property_below s f x k h = option_and_then_some (λ i. s.property i x.1) (node_at s x.0) k h (λ i e1 e2. (f.placed i x.1 k e2).1)

  pub given_below : (s : Shape V) → IsForest s → (x : Stack × Name) (k : ℕ) → given_at s x ≡ Some k → k < s.givings
  given_below s f x k h = option_and_then_some (λ i. s.given i x.1) (node_at s x.0) k h (λ i e1 e2. (f.labelled i x.1 k e2).1)

  -- what goes on as the event wants shows what stands after it
  shows-after : (s t : Shape V) (es : List (Event V)) (e : Event V) → IsForest s → Shows s es → GoesOn s t e → Shows t (es ++ e ∷ [])
  shows-after s t es e f h g = record {
    nodes = λ p. ap is_some (g.nodes p) ∙ some_after (takes p e) (opens p e) s.size (node_at s p) (stands es p) (h.nodes p) ∙ sym (stands-after es e p);
    values = λ p n. g.values p n ∙ ap (cond (defines p n e || drops p n e) (defined (Some e))) (h.values p n) ∙ sym (value_at-push es e p n);
    labels = λ p l. ap is_some (g.labels (p, l)) ∙ some_after (takes p e) (gives l p e) s.givings (given_at s (p, l)) (names es l p) (h.labels p l) ∙ sym (names-after es e l p);
    node_ages = aged-after (node_at s) (node_at t) (age es) (age (es ++ e ∷ [])) s.size (λ p. takes p e) (λ p. opens p e) h.node_ages (node_at_below s f) g.nodes (age-push es e);
    property_ages = aged-after (property_at s) (property_at t) (λ x. property_age es x.0 x.1) (λ x. property_age (es ++ e ∷ []) x.0 x.1) s.count (λ x. drops x.0 x.1 e) (λ x. defines x.0 x.1 e)
        h.property_ages (property_below s f) g.properties (λ x. property_age-push es e x.0 x.1);
    label_ages = aged-after (given_at s) (given_at t) (λ x. label_age es x.1 x.0) (λ x. label_age (es ++ e ∷ []) x.1 x.0) s.givings (λ x. takes x.0 e) (λ x. gives x.1 x.0 e)
        h.label_ages (given_below s f) g.labels (λ x. label_age-push es e x.1 x.0);
  }

  -- ---- what the nodes have, where the nodes change

  -- a new node has nothing
  attached-new : (s t : Shape V) (f : ℕ → Name → Option ℕ) → ((i : ℕ) (n : Name) (k : ℕ) → f i n ≡ Some k → i < s.size) → (q : Stack) → node_at s q ≡ None
      → (p : Stack) → node_at t p ≡ cond (path_eq q p) (Some s.size) (node_at s p) → (n : Name) → option_and_then (λ i. f i n) (node_at t p) ≡ option_and_then (λ i. f i n) (node_at s p)
  attached-new s t f below q none p now n =
      bool_cases (path_eq q p) _
      (λ y.
      let n1 : node_at t p ≡ Some s.size = rw y at now in
      let was : node_at s p ≡ None = subst (λ (r : Stack). node_at s r ≡ None) (path_eq-is q p y) none in
      let fresh : f s.size n ≡ None = option_cases (f s.size n) _ (λ e. e) (λ k e. let b : s.size < s.size = below s.size n k e in absurd (omega arith)) in
      ap (option_and_then (λ i. f i n)) n1 ∙ fresh ∙ sym (then_none (λ i. f i n) (node_at s p) was))
      (λ d.
      let n1 : node_at t p ≡ node_at s p = rw d at now in
      ap (option_and_then (λ i. f i n)) n1)

  goes_on-new : (s t : Shape V) → IsForest s → (q : Stack) → node_at s q ≡ None → ((p : Stack) → node_at t p ≡ cond (path_eq q p) (Some s.size) (node_at s p))
      → t.property ≡ s.property → t.value ≡ s.value → t.given ≡ s.given → GoesOn s t (opening q)
  goes_on-new s t f q none now property value given =
      let properties : (x : Stack × Name) → property_at t x ≡ property_at s x =
      λ x. ap (λ (g : ℕ → Name → Option ℕ). option_and_then (λ i. g i x.1) (node_at t x.0)) property ∙ attached-new s t s.property (λ i n k e. (f.placed i n k e).0) q none x.0 (now x.0) x.1 in
      record {
        nodes = λ p. now p ∙ bool_cases (path_eq q p) (cond (path_eq q p) (Some s.size) (node_at s p) ≡ begun (path_eq q p) s.size (node_at s p))
            (λ y. let was : node_at s p ≡ None = subst (λ (r : Stack). node_at s r ≡ None) (path_eq-is q p y) none in rw (y, was) refl)
            (λ d. rw d (sym (begun-not s.size (node_at s p))));
        properties = λ x. properties x ∙ sym (begun-not s.count (property_at s x));
        values = λ p n. ap (λ (v : ℕ → Option V). option_and_then v (property_at t (p, n))) value ∙ ap (option_and_then s.value) (properties (p, n));
        labels = λ x. ap (λ (g : ℕ → Name → Option ℕ). option_and_then (λ i. g i x.1) (node_at t x.0)) given
            ∙ attached-new s t s.given (λ i n k e. (f.labelled i n k e).0) q none x.0 (now x.0) x.1 ∙ sym (begun-not s.givings (given_at s x));
      }

  -- ---- nodes

  -- the root is made
  pub shows-root : (s t : Shape V) (es : List (Event V)) → IsForest s → Shows s es → MakesRoot s t → Shows t (es ++ opening [] ∷ [])
  shows-root s t es f h o =
      shows-after s t es (opening []) f h
      (goes_on-new s t f [] (before_root s o.none [])
      (λ p. after_root s t f o p ∙ ap (λ i. cond (path_eq [] p) (Some i) None) (sym o.none) ∙ ap (cond (path_eq [] p) (Some s.size)) (sym (before_root s o.none p)))
      o.properties.property o.properties.value o.labels.given)

  -- a child is made
  pub shows-child : (s t : Shape V) (es : List (Event V)) → IsForest s → Shows s es → (q : Stack) (a : ℕ) (y : Name) (item : ℕ) → node_at s q ≡ Some a
      → s.child a y ≡ None → AddsChild s t a y item → Shows t (es ++ opening (y ∷ q) ∷ [])
  shows-child s t es f h q a y item at none o =
      shows-after s t es (opening (y ∷ q)) f h
      (goes_on-new s t f (y ∷ q) (ap (option_and_then (λ i. s.child i y)) at ∙ none) (node_at-added s t f q a y at none item o) o.properties.property o.properties.value o.labels.given)

  -- a node that stands is opened again
  pub shows-again : (s t : Shape V) (es : List (Event V)) → IsForest s → Shows s es → (q : Stack) (a : ℕ) → node_at s q ≡ Some a → ((p : Stack) → node_at t p ≡ node_at s p)
      → t.property ≡ s.property → t.value ≡ s.value → t.given ≡ s.given → Shows t (es ++ opening q ∷ [])
  shows-again s t es f h q a at same property value given =
      let properties : (x : Stack × Name) → property_at t x ≡ property_at s x =
      λ x. ap (λ (g : ℕ → Name → Option ℕ). option_and_then (λ i. g i x.1) (node_at t x.0)) property ∙ ap (option_and_then (λ i. s.property i x.1)) (same x.0) in
      shows-after s t es (opening q) f h
      record {
        nodes = λ p. same p ∙ bool_cases (path_eq q p) (node_at s p ≡ begun (path_eq q p) s.size (node_at s p))
            (λ y. let there : node_at s p ≡ Some a = subst (λ (r : Stack). node_at s r ≡ Some a) (path_eq-is q p y) at in there ∙ sym (begun-keeps (path_eq q p) s.size a (node_at s p) there))
            (λ d. rw d (sym (begun-not s.size (node_at s p))));
        properties = λ x. properties x ∙ sym (begun-not s.count (property_at s x));
        values = λ p n. ap (λ (v : ℕ → Option V). option_and_then v (property_at t (p, n))) value ∙ ap (option_and_then s.value) (properties (p, n));
        labels = λ x. ap (λ (g : ℕ → Name → Option ℕ). option_and_then (λ i. g i x.1) (node_at t x.0)) given ∙ ap (option_and_then (λ i. s.given i x.1)) (same x.0) ∙ sym (begun-not s.givings (given_at s x));
      }

  -- a node that may stand is deleted, with all below it
  pub shows-cut : (s t : Shape V) (es : List (Event V)) → IsForest s → Shows s es → (q : Stack) (a : ℕ) (y : Name) → node_at s q ≡ Some a
      → Cuts s t a y → Shows t (es ++ deletion (y ∷ q) ∷ [])
  shows-cut s t es f h q a y at o =
      let now : (p : Stack) → node_at t p ≡ cond (is_within (y ∷ q) p) None (node_at s p) = node_at-cut s t f q a y at o in
      let properties : (x : Stack × Name) → property_at t x ≡ cond (is_within (y ∷ q) x.0) None (property_at s x) =
      λ x. ap (λ (g : ℕ → Name → Option ℕ). option_and_then (λ i. g i x.1) (node_at t x.0)) o.properties.property ∙ ap (option_and_then (λ i. s.property i x.1)) (now x.0) ∙ through_none (λ i. s.property i x.1) (is_within (y ∷ q) x.0) (node_at s x.0) in
      shows-after s t es (deletion (y ∷ q)) f h
      record {
        nodes = λ p. now p ∙ ap (cond (is_within (y ∷ q) p) None) (sym (begun-not s.size (node_at s p)));
        properties = λ x. properties x ∙ ap (cond (is_within (y ∷ q) x.0) None) (sym (begun-not s.count (property_at s x)));
        values = λ p n. ap (λ (v : ℕ → Option V). option_and_then v (property_at t (p, n))) o.properties.value ∙ ap (option_and_then s.value) (properties (p, n)) ∙ through_none s.value (is_within (y ∷ q) p) (property_at s (p, n));
        labels = λ x. ap (λ (g : ℕ → Name → Option ℕ). option_and_then (λ i. g i x.1) (node_at t x.0)) o.labels.given ∙ ap (option_and_then (λ i. s.given i x.1)) (now x.0)
            ∙ through_none (λ i. s.given i x.1) (is_within (y ∷ q) x.0) (node_at s x.0) ∙ ap (cond (is_within (y ∷ q) x.0) None) (sym (begun-not s.givings (given_at s x)));
      }

  -- ---- what one node has

  -- the node of q alone has q's index
  same_node : (s : Shape V) → IsForest s → (q : Stack) (a : ℕ) → node_at s q ≡ Some a → (p : Stack) (i : ℕ) → node_at s p ≡ Some i → nat_eq a i ≡ path_eq q p
  same_node s f q a at p i there =
      bool_cases (path_eq q p) _
      (λ y.
      let qp : q ≡ p = path_eq-is q p y in
      let ai : Some a ≡ Some i = sym at ∙ ap (node_at s) qp ∙ there in
      eq-eqb a i (let z : a ≡ i = cc in z) ∙ sym y)
      (λ d.
      let other : nat_eq a i ≡ false = bool_cases (nat_eq a i) _
      (λ y. let z : a ≡ i = eqb-true a i y in
      let qp : q ≡ p = node_at_once s f q p a at (there ∙ ap Some (sym z)) in
      let y2 : path_eq q p ≡ true = rw (← qp) (path_eq-refl q) in
      cc)
      (λ e. e) in
      other ∙ sym d)

  -- where no node is, it isn't q's
  no_node : (s : Shape V) (q : Stack) (a : ℕ) → node_at s q ≡ Some a → (p : Stack) → node_at s p ≡ None → path_eq q p ≡ false
  no_node s q a at p none = bool_cases (path_eq q p) _ (λ y. let qp : q ≡ p = path_eq-is q p y in let c : Some a ≡ None = sym at ∙ ap (node_at s) qp ∙ none in cc) (λ e. e)

  -- one thing is put at a node
  attached-put : (s : Shape V) (f g : ℕ → Name → Option ℕ) (next : ℕ) → IsForest s → (q : Stack) (a : ℕ) (m : Name) → node_at s q ≡ Some a
      → ((i : ℕ) (n : Name) → g i n ≡ begun (nat_eq a i && bytes_eq m n) next (f i n))
      → (p : Stack) (n : Name) → option_and_then (λ i. g i n) (node_at s p) ≡ begun (path_eq q p && bytes_eq m n) next (option_and_then (λ i. f i n) (node_at s p))
  attached-put s f g next w q a m at puts p n =
      option_cases (node_at s p) _
      (λ none. rw none (sym (ap (λ b. cond b (Some next) None) (and_not (path_eq q p) (bytes_eq m n) (no_node s q a at p none)))))
      (λ i there. rw there (puts i n ∙ ap (λ b. begun (b && bytes_eq m n) next (f i n)) (same_node s w q a at p i there)))

  abbrev define_places : (s t : Shape V) → Stack → Name → Type 0
  define_places s t q m = (p : Stack) (n : Name) → property_at t (p, n) ≡ begun (path_eq q p && bytes_eq m n) s.count (property_at s (p, n))

  -- the value of the property that is defined
  defined_here : (s t : Shape V) (q : Stack) (a : ℕ) (m : Name) (v : V) (item : ℕ) → node_at t q ≡ Some a → Defines s t a m v item
      → option_and_then t.value (property_at t (q, m)) ≡ Some v
  defined_here s t q a m v item at o =
      let k = begun_some s.count (s.property a m) in
      let put : t.property a m ≡ Some k.0 = o.property a m ∙ ap (λ b. begun b s.count (s.property a m)) (key-refl a m) ∙ k.1 in
      ap (λ (i : Option ℕ). option_and_then t.value (option_and_then (λ i. t.property i m) i)) at ∙ ap (option_and_then t.value) put ∙ o.value k.0 put

  -- and of any other
  defined_elsewhere : (s t : Shape V) → IsForest s → (q : Stack) (a : ℕ) (m : Name) (v : V) (item : ℕ) → node_at s q ≡ Some a → Defines s t a m v item
      → (p : Stack) (n : Name) → (path_eq q p && bytes_eq m n) ≡ false → (k : ℕ) → property_at s (p, n) ≡ Some k → t.value k ≡ s.value k
  defined_elsewhere s t f q a m v item at o p n other k there =
      option_and_then_some (λ i. s.property i n) (node_at s p) k there
      (λ i e1 e2.
      let below : k < s.count = (f.placed i n k e2).1 in
      o.others k below
      (λ same.
      let put : begun true s.count (s.property a m) ≡ Some k = sym (o.property a m ∙ ap (λ b. begun b s.count (s.property a m)) (key-refl a m)) ∙ same in
      option_cases (s.property a m) ⊥
      (λ none. let e : Some s.count ≡ Some k = sym (ap (begun true s.count) none) ∙ put in let z : s.count ≡ k = cc in omega arith)
      (λ j e. let e' : Some j ≡ Some k = sym (ap (begun true s.count) e) ∙ put in
      let c : (a ≡ i) × (m ≡ n) = f.placed_once a m i n k (e ∙ e') e2 in
      let qp : q ≡ p = node_at_once s f q p a at (e1 ∙ ap Some (sym c.0)) in
      let yes2 : (path_eq q p && bytes_eq m n) ≡ true = rw (← qp, ← c.1) (put_test-refl q m) in
      cc)))

  defined_values : (s t : Shape V) → IsForest s → (q : Stack) (a : ℕ) (m : Name) (v : V) (item : ℕ) → node_at s q ≡ Some a → node_at t q ≡ Some a → Defines s t a m v item
      → define_places s t q m → (p : Stack) (n : Name)
      → option_and_then t.value (property_at t (p, n)) ≡ cond ((path_eq q p && bytes_eq m n) || false) (Some v) (option_and_then s.value (property_at s (p, n)))
  defined_values s t f q a m v item at at' o properties p n =
      bool_cases (path_eq q p && bytes_eq m n) _
      (λ y.
      let c = put_test q p m n y in
      rw (or_false (path_eq q p && bytes_eq m n), y)
      (subst (λ (x : Stack × Name). option_and_then t.value (property_at t x) ≡ Some v) (let e : (q, m) ≡ (p, n) = cc in e) (defined_here s t q a m v item at' o)))
      (λ d.
      let same : property_at t (p, n) ≡ property_at s (p, n) = properties p n ∙ ap (λ b. begun b s.count (property_at s (p, n))) d ∙ begun-not s.count (property_at s (p, n)) in
      rw (or_false (path_eq q p && bytes_eq m n), d)
      (ap (option_and_then t.value) same
      ∙ option_cases (property_at s (p, n)) _
      (λ none. then_none t.value (property_at s (p, n)) none ∙ sym (then_none s.value (property_at s (p, n)) none))
      (λ k there. ap (option_and_then t.value) there ∙ defined_elsewhere s t f q a m v item at o p n d k there ∙ sym (ap (option_and_then s.value) there))))

  pub shows-define : (s t : Shape V) (es : List (Event V)) → IsForest s → Shows s es → (q : Stack) (a : ℕ) (m : Name) (v : V) (item : ℕ) → node_at s q ≡ Some a
      → Defines s t a m v item → Shows t (es ++ definition q m v ∷ [])
  shows-define s t es f h q a m v item at o =
      let same : (p : Stack) → node_at t p ≡ node_at s p = node_at-same s t o.nodes.size (λ i x. ap (λ (g : ℕ → Name → Option ℕ). g i x) o.nodes.child) in
      let properties : define_places s t q m =
      λ p n. ap (option_and_then (λ i. t.property i n)) (same p) ∙ attached-put s s.property t.property s.count f q a m at o.property p n in
      shows-after s t es (definition q m v) f h
      record {
        nodes = λ p. same p ∙ sym (begun-not s.size (node_at s p));
        properties = λ x. properties x.0 x.1;
        values = defined_values s t f q a m v item at (same q ∙ at) o properties;
        labels = λ x. ap (λ (g : ℕ → Name → Option ℕ). option_and_then (λ i. g i x.1) (node_at t x.0)) o.labels.given ∙ ap (option_and_then (λ i. s.given i x.1)) (same x.0) ∙ sym (begun-not s.givings (given_at s x));
      }

  -- one thing is taken from a node
  attached-cut : (s : Shape V) (f g : ℕ → Name → Option ℕ) → IsForest s → (q : Stack) (a : ℕ) (m : Name) → node_at s q ≡ Some a
      → ((i : ℕ) (n : Name) → g i n ≡ cond (nat_eq a i && bytes_eq m n) None (f i n))
      → (p : Stack) (n : Name) → option_and_then (λ i. g i n) (node_at s p) ≡ cond (path_eq q p && bytes_eq m n) None (option_and_then (λ i. f i n) (node_at s p))
  attached-cut s f g w q a m at puts p n =
      option_cases (node_at s p) _
      (λ none. rw none (sym (ap (λ b. cond b None None) (and_not (path_eq q p) (bytes_eq m n) (no_node s q a at p none)))))
      (λ i there. rw there (puts i n ∙ ap (λ b. cond (b && bytes_eq m n) None (f i n)) (same_node s w q a at p i there)))

  pub shows-undefine : (s t : Shape V) (es : List (Event V)) → IsForest s → Shows s es → (q : Stack) (a : ℕ) (m : Name) → node_at s q ≡ Some a
      → Undefines s t a m → Shows t (es ++ undefinition q m ∷ [])
  shows-undefine s t es f h q a m at o =
      let same : (p : Stack) → node_at t p ≡ node_at s p = node_at-same s t o.nodes.size (λ i x. ap (λ (g : ℕ → Name → Option ℕ). g i x) o.nodes.child) in
      let properties : (p : Stack) (n : Name) → property_at t (p, n) ≡ cond (path_eq q p && bytes_eq m n) None (property_at s (p, n)) =
      λ p n. ap (option_and_then (λ i. t.property i n)) (same p) ∙ attached-cut s s.property t.property f q a m at o.property p n in
      shows-after s t es (undefinition q m) f h
      record {
        nodes = λ p. same p ∙ sym (begun-not s.size (node_at s p));
        properties = λ x. properties x.0 x.1 ∙ ap (cond (path_eq q x.0 && bytes_eq m x.1) None) (sym (begun-not s.count (property_at s x)));
        values = λ p n. same_then t.value s.value o.value (property_at t (p, n)) ∙ ap (option_and_then s.value) (properties p n) ∙ through_none s.value (path_eq q p && bytes_eq m n) (property_at s (p, n));
        labels = λ x. ap (λ (g : ℕ → Name → Option ℕ). option_and_then (λ i. g i x.1) (node_at t x.0)) o.labels.given ∙ ap (option_and_then (λ i. s.given i x.1)) (same x.0) ∙ sym (begun-not s.givings (given_at s x));
      }

  -- ---- labels

  given_labels : (s t : Shape V) → IsForest s → (q : Stack) (a : ℕ) (k : Name) → node_at s q ≡ Some a → ((p : Stack) → given_at s (p, k) ≡ None) → Gives s t k a
      → (p : Stack) (l : Name) → option_and_then (λ i. t.given i l) (node_at s p) ≡ begun (bytes_eq k l && path_eq q p) s.givings (given_at s (p, l))
  given_labels s t f q a k at alone o p l =
      option_cases (node_at s p) _
      (λ none. rw none (sym (ap (λ b. cond b (Some s.givings) None) (and_not_right (bytes_eq k l) (path_eq q p) (no_node s q a at p none)))))
      (λ i there.
      let test = same_node s f q a at p i there in
      bool_cases (bytes_eq k l) _
      (λ y.
      let kl : k ≡ l = bytes_eq-is k l y in
      let was : given_at s (p, l) ≡ None = subst (λ (l : Name). given_at s (p, l) ≡ None) kl (alone p) in
      let left : option_and_then (λ i. t.given i l) (node_at s p) ≡ cond (nat_eq a i) (Some s.givings) None = rw there (o.given i l ∙ ap (λ b. cond b (cond (nat_eq a i) (Some s.givings) None) (s.given i l)) y) in
      left ∙ ap (λ b. cond b (Some s.givings) None) test ∙ sym (ap (λ b. begun (b && path_eq q p) s.givings (given_at s (p, l))) y ∙ ap (begun (path_eq q p) s.givings) was))
      (λ d.
      let left : option_and_then (λ i. t.given i l) (node_at s p) ≡ given_at s (p, l) =
      rw there (o.given i l ∙ ap (λ b. cond b (cond (nat_eq a i) (Some s.givings) None) (s.given i l)) d) in
      left ∙ sym (ap (λ b. begun (b && path_eq q p) s.givings (given_at s (p, l))) d ∙ begun-not s.givings (given_at s (p, l)))))

  -- a label that names no node is given
  pub shows-give : (s t : Shape V) (es : List (Event V)) → IsForest s → Shows s es → (q : Stack) (a : ℕ) (k : Name) → node_at s q ≡ Some a
      → ((p : Stack) → given_at s (p, k) ≡ None) → Gives s t k a → Shows t (es ++ giving k q ∷ [])
  shows-give s t es f h q a k at alone o =
      let same : (p : Stack) → node_at t p ≡ node_at s p = node_at-same s t o.nodes.size (λ i x. ap (λ (g : ℕ → Name → Option ℕ). g i x) o.nodes.child) in
      let properties : (x : Stack × Name) → property_at t x ≡ property_at s x =
      λ x. ap (λ (g : ℕ → Name → Option ℕ). option_and_then (λ i. g i x.1) (node_at t x.0)) o.properties.property ∙ ap (option_and_then (λ i. s.property i x.1)) (same x.0) in
      shows-after s t es (giving k q) f h
      record {
        nodes = λ p. same p ∙ sym (begun-not s.size (node_at s p));
        properties = λ x. properties x ∙ sym (begun-not s.count (property_at s x));
        values = λ p n. ap (λ (v : ℕ → Option V). option_and_then v (property_at t (p, n))) o.properties.value ∙ ap (option_and_then s.value) (properties (p, n));
        labels = λ x. ap (option_and_then (λ i. t.given i x.1)) (same x.0) ∙ given_labels s t f q a k at alone o x.0 x.1;
      }

  -- a label that the node has is given again
  pub shows-give-again : (s : Shape V) (es : List (Event V)) → IsForest s → Shows s es → (q : Stack) (k : Name) (g : ℕ) → given_at s (q, k) ≡ Some g → Shows s (es ++ giving k q ∷ [])
  shows-give-again s es f h q k g there =
      shows-after s s es (giving k q) f h
      record {
        nodes = λ p. sym (begun-not s.size (node_at s p));
        properties = λ x. sym (begun-not s.count (property_at s x));
        values = λ p n. refl;
        labels = λ x. bool_cases (bytes_eq k x.1 && path_eq q x.0) (given_at s x ≡ begun (bytes_eq k x.1 && path_eq q x.0) s.givings (given_at s x))
            (λ y.
            let b = both (bytes_eq k x.1) (path_eq q x.0) y in
            let kl : k ≡ x.1 = bytes_eq-is k x.1 b.0 in
            let qp : q ≡ x.0 = path_eq-is q x.0 b.1 in
            let here : given_at s x ≡ Some g = rw (kl, qp) at there in
            here ∙ sym (begun-keeps (bytes_eq k x.1 && path_eq q x.0) s.givings g (given_at s x) here))
            (λ d. rw d (sym (begun-not s.givings (given_at s x))));
      }
