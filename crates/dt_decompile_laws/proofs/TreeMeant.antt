-- What the text of a tree says means the tree.
use Rattle.std.proofs.Common.{◌≡◌, ℕ, ◌≤◌, Bool, true, false, not, ◌||◌, ◌&&◌, List, [], ◌∷◌, ◌++◌, length, map, reverse, codes, is_some, unwrap_or, refl, sym, ap, subst, ◌∙◌, inl, inr, Option, Some, None, arith, true≢false, Ok}
use Rattle.std.specs.Prelude.{if◌then◌else◌, nat_le}
use Rattle.std.specs.List.{list_any, flat_map}
use Rattle.std.specs.Option.{option_map, option_and_then, option_map_or, option_to_list}
use Rattle.std.specs.Int.{w32, from_be_bytes}
use Rattle.std.specs.Str.{bytes_eq}
use Rattle.std.proofs.lemmas.Bool.Decides.{nat_tests}
use Rattle.std.proofs.lemmas.List.{append-nil, reverse-reverse}
use Rattle.dt_model.specs.Names.{Name}
use Rattle.dt_model.specs.Path.{Path}
use Rattle.dt_model.specs.Lists.{IsIn}
use Rattle.dt_model.specs.Meaning.{byte, cell, value_bytes, Meaning, IsNaming, instance_value}
use Rattle.dt_model.specs.Numbering.{IsNumberFor, AreNumbersFor, asked_by, numbers_by}
use Rattle.dt_model.specs.Numbers.{paths_of}
use Rattle.dt_model.specs.Event.{Stack, value_at}
use Rattle.dt_model.specs.Source.{Part, one, Events, raw, all_bound, in_range, number_of_parts, refers, refers_there, labels_there, written_number, meaning_of, IsResolved, SourceMeans}
use Rattle.dt_model.specs.Ordered.{IsInOrder, unwritten}
use Rattle.dt_model.specs.Instance.{IsInstance, AreSymbols, IsTreeOf}
use Rattle.dt_model.specs.Tree.{Property, Forest, no_nodes, branch, Reading, value_in, Placed, preorder, nodes_of}
use Rattle.dt_model.specs.Valid.{IsPhandle, IsValid, IsWithinLimits, phandle_values, phandles}
use Rattle.dt_grammar.specs.WordBytes.{AreBytes}
use Rattle.dt_model_laws.proofs.Bound.{written_range}
use Rattle.dt_model.proofs.Cases.{then_some, some_there}
use Rattle.dt_model.proofs.Distinct.{in_flat}
use Rattle.dt_model.proofs.Listed.{value_listed}
use Rattle.dt_model_laws.proofs.Meanings.{no_twice}
use Rattle.dt_model.proofs.Preorder.{phandle_list, all_phandles, value_in_list, own_phandle}
use Rattle.dt_model.proofs.Tests.{each_in, in_append, bytes_eq_true}
use Rattle.dt_decompile_laws.specs.Laws.{TextIsTree}
use Rattle.dt_decompile_laws.specs.Said.{places_of, HoldBytes, NodesHoldBytes, HasBytes}
use Rattle.dt_decompile_laws.proofs.ReadPlaces.{state, tree_read}
use Rattle.dt_decompile_laws.proofs.SpelledValues.{four_back}
use Rattle.dt_decompile_laws.proofs.TreeEvents.{own, events_listed, event_of, property_listed, stands_same, value_same, no_names}
use Rattle.dt_decompile_laws.proofs.TreeInOrder.{children_in_order, properties_in_order}

-- ---- values of bytes

nodes_held : (path : Path) (f : Forest) (n : Placed) → NodesHoldBytes f → IsIn n (preorder path f) → HoldBytes n.properties
nodes_held path no_nodes n h i = absurd i
nodes_held path (branch x properties children siblings) n h (inl same) = subst (λ (z : Placed). HoldBytes z.properties) (sym same) h.0
nodes_held path (branch x properties children siblings) n h (inr i) =
    elim (in_append n (preorder (path ++ x ∷ []) children) (preorder path siblings) i) [
      | inl k ↦ nodes_held (path ++ x ∷ []) children n h.1 k
      | inr k ↦ nodes_held path siblings n h.2 k
    ]

tree_held : (t : Reading) (n : Placed) → HasBytes t → IsIn n (nodes_of t) → HoldBytes n.properties
tree_held t n h (inl same) = subst (λ (z : Placed). HoldBytes z.properties) (sym same) h.properties
tree_held t n h (inr i) = nodes_held [] t.children n h.nodes i

value_held : (t : Reading) (p : Path) (x : Name) (v : List ℕ) → HasBytes t → value_in t p x ≡ Some v → AreBytes v
value_held t p x v h e =
    let n = value_listed t p x v e in
    each_in (λ (y : Property). AreBytes y.value) (n.0).properties (record { name = x; value = v }) (tree_held t n.0 h n.1) (property_listed (n.0).properties x v n.3)

-- bytes name no node
bytes_bound : (es : Events) (v : List ℕ) → all_bound es (map one v) ≡ Some (map byte v)
bytes_bound es [] = refl
bytes_bound es (b ∷ v) = ap (option_map (λ others. byte b ∷ others)) (bytes_bound es v)

bytes_refer : (es : Events) (q : Stack) (v : List ℕ) → refers es q (map one v) ≡ false
bytes_refer es q [] = refl
bytes_refer es q (b ∷ v) = bytes_refer es q v

bytes_same : (number : Path → ℕ) (v : List ℕ) → value_bytes number (map byte v) ≡ v
bytes_same number [] = refl
bytes_same number (b ∷ v) = ap (λ (z : List ℕ). b ∷ z) (bytes_same number v)

-- ---- phandles

-- a phandle's number, which is written
record IsNumberOf (v : List ℕ) : Type 0 where
  n : ℕ
  is_written : number_of_parts (map one v) ≡ Some n
  back : AreBytes v → cell n ≡ v

number_in_range : (n : ℕ) → 1 ≤ n → n ≤ 0xfffffffe → in_range n ≡ Some n
number_in_range n low high =
    let a : nat_le 1 n ≡ true = grind (arith, nat_tests, low) in
    let b : nat_le n 0xfffffffe ≡ true = grind (arith, nat_tests, high) in
    rw (a, b) refl

phandle_number : (v : List ℕ) → IsPhandle v → IsNumberOf v
phandle_number [] h = absurd (let z : 0 ≡ 4 = h.four in omega arith)
phandle_number (a ∷ []) h = absurd (let z : 1 ≡ 4 = h.four in omega arith)
phandle_number (a ∷ b ∷ []) h = absurd (let z : 2 ≡ 4 = h.four in omega arith)
phandle_number (a ∷ b ∷ c ∷ []) h = absurd (let z : 3 ≡ 4 = h.four in omega arith)
phandle_number (a ∷ b ∷ c ∷ d ∷ []) h = record {
  n = from_be_bytes w32 (a ∷ b ∷ c ∷ d ∷ []);
  is_written = number_in_range (from_be_bytes w32 (a ∷ b ∷ c ∷ d ∷ [])) h.low h.high;
  back = λ k. four_back a b c d k;
}
phandle_number (a ∷ b ∷ c ∷ d ∷ e ∷ v) h = absurd (let z : length (a ∷ b ∷ c ∷ d ∷ e ∷ v) ≡ 4 = h.four in omega (arith, z))

any_none : {X : Type 0} (test : X → Bool) (xs : List X) → ((x : X) → IsIn x xs → test x ≡ false) → list_any test xs ≡ false
any_none test [] h = refl
any_none test (x ∷ xs) h = ap (λ b. b || list_any test xs) (h x (inl refl)) ∙ any_none test xs (λ y i. h y (inr i))

-- a node is keyed exactly where its number is written, so none is left to be chosen
number_for : (taken : List ℕ) (o : Option ℕ) (keyed : Bool) → keyed ≡ is_some o → IsNumberFor taken o keyed (if keyed then Some (unwrap_or o 0) else None)
number_for taken None true e = absurd (true≢false e)
number_for taken None false e = refl
number_for taken (Some n) true e = refl
number_for taken (Some n) false e = absurd (true≢false (sym e))

-- ---- what the events mean

module _ (t : Reading) (valid : IsValid t) (held : HasBytes t) where
  abbrev es : Events
  es = flat_map own (nodes_of t)

  abbrev m : Meaning
  m = meaning_of t.reservations es

  abbrev number : Path → ℕ
  number p = unwrap_or (written_number es (reverse p)) 0

  -- what is written in a node
  number_same : (p : Path) → written_number es (reverse p) ≡ option_and_then (λ v. number_of_parts (map one v)) (value_in t p (codes "phandle"))
  number_same p = ap (option_and_then number_of_parts) (value_same t valid p (codes "phandle")) ∙ through (value_in t p (codes "phandle"))
    where
      through : (o : Option (List ℕ)) → option_and_then number_of_parts (option_map (map one) o) ≡ option_and_then (λ v. number_of_parts (map one v)) o
      through None = refl
      through (Some v) = refl

  a_phandle : (p : Path) (v : List ℕ) → value_in t p (codes "phandle") ≡ Some v → IsNumberOf v
  a_phandle p v e =
      let n = value_listed t p (codes "phandle") v e in
      let i = in_flat phandle_list (nodes_of t) n.0 v n.1 (value_in_list (n.0).properties v n.3) in
      phandle_number v (each_in IsPhandle (phandle_values t.properties ++ phandles t.children) v valid.phandles_valid (subst (IsIn v) (all_phandles t) i))

  -- each value that is left is made of bytes
  value_is : (q : Stack) (x : Name) (v : List Part) → value_at es q x ≡ Some v → (w : List ℕ) × (value_in t (reverse q) x ≡ Some w) × (v ≡ map one w)
  value_is q x v e = step (value_in t (reverse q) x) refl
    where
      same : option_map (map one) (value_in t (reverse q) x) ≡ Some v
      same = sym (value_same t valid (reverse q) x) ∙ ap (λ r. value_at es r x) (reverse-reverse q) ∙ e

      step : (o : Option (List ℕ)) → value_in t (reverse q) x ≡ o → (w : List ℕ) × (value_in t (reverse q) x ≡ Some w) × (v ≡ map one w)
      step None k = absurd (let z : None ≡ Some v = sym (ap (option_map (map one)) k) ∙ same in cc)
      step (Some w) k = (w, k, (let z : Some (map one w) ≡ Some v = sym (ap (option_map (map one)) k) ∙ same in let is : map one w ≡ v = cc in sym is))

  pub resolved : IsResolved es
  resolved = record {
    bound_to = λ q x v e.
        let w = value_is q x v e in
        ap (λ z. is_some (all_bound es z)) w.2 ∙ ap is_some (bytes_bound es w.0);
    numbered = λ q v e.
        let w = value_is q (codes "phandle") v e in
        ap (λ z. is_some (number_of_parts z)) w.2 ∙ ap is_some (a_phandle (reverse q) w.0 w.1).is_written;
    own = λ q r n h k.
        let a = then_some number_of_parts (value_at es q (codes "phandle")) n h in
        let b = then_some number_of_parts (value_at es r (codes "phandle")) n k in
        let v = value_is q (codes "phandle") a.0 a.1 in
        let w = value_is r (codes "phandle") b.0 b.1 in
        let x = a_phandle (reverse q) v.0 v.1 in
        let y = a_phandle (reverse r) w.0 w.1 in
        let first : Some x.n ≡ Some n = sym x.is_written ∙ ap number_of_parts (sym v.2) ∙ a.2 in
        let second : Some y.n ≡ Some n = sym y.is_written ∙ ap number_of_parts (sym w.2) ∙ b.2 in
        let same : x.n ≡ y.n = cc in
        let bytes = sym (x.back (value_held t (reverse q) (codes "phandle") v.0 held v.1)) ∙ ap cell same ∙ y.back (value_held t (reverse r) (codes "phandle") w.0 held w.1) in
        no_twice q r (own_phandle t (reverse q) (reverse r) w.0 valid (v.1 ∙ ap Some bytes) w.1);
  }

  -- ---- keyed nodes are those with a number

  labels_none : (q : Stack) → list_any (labels_there es q) es ≡ false
  labels_none q = any_none (labels_there es q) es (λ e i.
      elim (event_of t valid e i).2 as (λ z. labels_there es q e ≡ false) [
        | inl same ↦ ap (labels_there es q) same
        | inr d ↦ ap (labels_there es q) d.2
      ])

  refers_none : (q : Stack) → list_any (refers_there es q) es ≡ false
  refers_none q = any_none (refers_there es q) es (λ e i.
      elim (event_of t valid e i).2 as (λ z. refers_there es q e ≡ false) [
        | inl same ↦ ap (refers_there es q) same
        | inr d ↦ ap (refers_there es q) d.2 ∙ at (reverse ((event_of t valid e i).0).path) (d.0).name (value_at es (reverse ((event_of t valid e i).0).path) (d.0).name) refl
      ])
    where
      at : (r : Stack) (x : Name) (o : Option (List Part)) → value_at es r x ≡ o → option_map_or (refers es q) (value_at es r x) false ≡ false
      at r x None e = ap (λ o. option_map_or (refers es q) o false) e
      at r x (Some v) e = let w = value_is r x v e in ap (λ o. option_map_or (refers es q) o false) e ∙ ap (refers es q) w.2 ∙ bytes_refer es q w.0

  keyed_is : (p : Path) → m.keyed p ≡ is_some (written_number es (reverse p))
  keyed_is p =
      ap (λ b. (is_some (written_number es (reverse p)) || b) || list_any (refers_there es (reverse p)) es) (labels_none (reverse p))
      ∙ ap (λ b. (is_some (written_number es (reverse p)) || false) || b) (refers_none (reverse p))
      ∙ through (is_some (written_number es (reverse p)))
    where
      through : (b : Bool) → ((b || false) || false) ≡ b
      through true = refl
      through false = refl

  keyed_number : (p : Path) → m.keyed p ≡ true → written_number es (reverse p) ≡ Some (number p)
  keyed_number p h =
      let w = some_there (written_number es (reverse p)) (sym (keyed_is p) ∙ h) in
      w.1 ∙ ap (λ o. Some (unwrap_or o 0)) (sym w.1)

  number_range : (p : Path) → m.keyed p ≡ true → (1 ≤ number p) × (number p ≤ 0xfffffffe)
  number_range p h = let w = then_some number_of_parts (value_at es (reverse p) (codes "phandle")) (number p) (keyed_number p h) in written_range w.0 (number p) w.2

  naming : IsNaming m number
  naming = record {
    low = λ p h. (number_range p h).0;
    high = λ p h. (number_range p h).1;
    own = λ p q h k e. no_twice p q (resolved.own (reverse p) (reverse q) (number q) (keyed_number p h ∙ ap Some e) (keyed_number q k));
    written = λ p n e. ap (λ o. unwrap_or o 0) e;
  }

  -- ---- the tree is its instance

  phandle_same : (p : Path) (o : Option (List ℕ)) → value_in t p (codes "phandle") ≡ o → value_in t p (codes "phandle") ≡ (if m.keyed p then Some (cell (number p)) else None)
  phandle_same p None e =
      let none : written_number es (reverse p) ≡ None = number_same p ∙ ap (option_and_then (λ v. number_of_parts (map one v))) e in
      let unkeyed : m.keyed p ≡ false = keyed_is p ∙ ap is_some none in
      e ∙ sym (ap (λ b. if b then Some (cell (number p)) else None) unkeyed)
  phandle_same p (Some v) e =
      let x = a_phandle p v e in
      let some : written_number es (reverse p) ≡ Some x.n = number_same p ∙ ap (option_and_then (λ v. number_of_parts (map one v))) e ∙ x.is_written in
      let keyed : m.keyed p ≡ true = keyed_is p ∙ ap is_some some in
      e ∙ ap Some (sym (x.back (value_held t p (codes "phandle") v held e)) ∙ ap (λ o. cell (unwrap_or o 0)) (sym some)) ∙ sym (ap (λ b. if b then Some (cell (number p)) else None) keyed)

  other_same : (p : Path) (x : Name) → value_in t p x ≡ option_map (value_bytes number) (option_and_then (all_bound es) (value_at es (reverse p) x))
  other_same p x = sym (through (value_in t p x)) ∙ ap (λ o. option_map (value_bytes number) (option_and_then (all_bound es) o)) (sym (value_same t valid p x))
    where
      through : (o : Option (List ℕ)) → option_map (value_bytes number) (option_and_then (all_bound es) (option_map (map one) o)) ≡ o
      through None = refl
      through (Some v) = ap (option_map (value_bytes number)) (bytes_bound es v) ∙ ap Some (bytes_same number v)

  values_same : (p : Path) (x : Name) → value_in t p x ≡ instance_value m number p x
  values_same p x = step (bytes_eq x (codes "phandle")) refl
    where
      step : (b : Bool) → bytes_eq x (codes "phandle") ≡ b → value_in t p x
          ≡ (if b then (if m.keyed p then Some (cell (number p)) else None) else option_map (value_bytes number) (if b then None else option_and_then (all_bound es) (value_at es (reverse p) x)))
      step true e = ap (value_in t p) (bytes_eq_true x (codes "phandle") e) ∙ phandle_same p (value_in t p (codes "phandle")) refl
      step false e = other_same p x

  instance : IsInstance t m number
  instance = record { naming = naming; reservations = refl; nodes = stands_same t valid; values = values_same }

  -- ---- numbers and order

  least_numbers : (taken : List ℕ) (ps : List Path) → AreNumbersFor taken (asked_by m ps) (numbers_by m number ps)
  least_numbers taken [] = tt
  least_numbers taken (p ∷ ps) = (
    number_for taken (written_number es (reverse p)) (m.keyed p) (keyed_is p),
    least_numbers (option_to_list (if m.keyed p then Some (number p) else None) ++ taken) ps,
  )

  none_unwritten : (p : Path) → unwritten m p ≡ []
  none_unwritten p =
      ap (λ b. if b && not (is_some (m.number p)) then codes "phandle" ∷ [] else []) (keyed_is p) ∙ through (is_some (written_number es (reverse p)))
    where
      through : (b : Bool) → ◌≡◌ {A = List Name} (if b && not b then codes "phandle" ∷ [] else []) []
      through true = refl
      through false = refl

  in_order : IsInOrder es m t
  in_order = record {
    children = children_in_order t valid;
    properties = λ p n e.
        let ns = map (λ (x : Property). x.name) n.properties in
        (ns, sym (append-nil ns) ∙ ap (λ (z : List Name). ns ++ z) (sym (none_unwritten p)), properties_in_order t valid p n e);
  }

  no_symbols : (ps : List Path) → AreSymbols es ps []
  no_symbols [] = refl
  no_symbols (p ∷ ps) = (
    [],
    [],
    refl,
    record {
      sound = tt;
      complete = λ l h. true≢false (sym h ∙ no_names t valid l (reverse p));
      sorted = tt;
    },
    no_symbols ps,
  )

  abbrev means : IsWithinLimits t → SourceMeans raw t.reservations (places_of t) m
  means within = record {
    so_far = state es [] [];
    all_read = tree_read t valid within ∙ ap (λ (z : Events). Ok (state z [] [])) (events_listed t);
    closed = refl;
    resolved = resolved;
    means = refl;
  }

  pub meant : IsWithinLimits t → t.boot_cpu ≡ 0 → IsTreeOf raw t.reservations (places_of t) t
  meant within zero_cpu = record {
    bare = t;
    instance = record {
      meaning = m;
      means = means within;
      number = number;
      instance = instance;
      least = least_numbers _ (paths_of t);
      order = in_order;
      valid = valid;
      boot_cpu = zero_cpu;
    };
    symbols = [];
    labels = no_symbols (paths_of t);
    is = refl;
  }

pub text_is_tree : TextIsTree
text_is_tree t valid held within =
    let bare : Reading = record t { boot_cpu = 0 } in
    let ok : IsValid bare = record {
      boot_cpu = omega arith;
      reservations = valid.reservations;
      properties = valid.properties;
      nodes = valid.nodes;
      siblings = valid.siblings;
      phandles_valid = valid.phandles_valid;
      phandles_distinct = valid.phandles_distinct;
    } in
    meant bare ok (record { properties = held.properties; nodes = held.nodes }) (record { count = within.count; depth = within.depth }) refl
