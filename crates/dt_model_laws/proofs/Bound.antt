-- What a value means after all events: its bytes are bytes, and its references are of nodes that it refers to.
use Rattle.std.proofs.Common.{◌≡◌, ℕ, ◌≤◌, true, false, ◌&&◌, nat_le, List, [], ◌∷◌, ◌++◌, map, reverse, Option, Some, sym, ap, subst, ◌∙◌}
use Rattle.std.specs.List.{AllByRecursion}
use Rattle.std.specs.Int.{w32, from_be_bytes}
use Rattle.std.specs.Option.{option_map, option_map_or}
use Rattle.std.proofs.lemmas.Bool.{and_parts, leb-true}
use Rattle.std.proofs.lemmas.Grind.{reverse_onto}
use Rattle.std.proofs.lemmas.List.{reverse-reverse}
use Rattle.std.proofs.lemmas.Option.{cond_some}
use Rattle.dt_model.specs.Names.{IsNodeName, IsPropertyName, IsLabel}
use Rattle.dt_model.specs.Path.{Path, path_eq, path_value}
use Rattle.dt_model.specs.Meaning.{Item, byte, reference, AreBytes, EachReference}
use Rattle.dt_model.specs.Event.{Stack}
use Rattle.dt_model.specs.Source.{Reference, Part, one, number_of, text_of, IsPart, Mode, Place, root, block, delete_node, child, label, property, delete_property, delete_child, close, IsPlace, Events, referent, bound, all_bound, refers, in_range, number_of_parts}
use Rattle.dt_model.proofs.EventSteps.{path_eq-refl}
use Rattle.dt_model.proofs.Cases.{map_some, then_some, either_left, either_right}
use Rattle.dt_model.proofs.Tests.{each_append}
use Rattle.dt_model_laws.proofs.Holding.{Rules, Obeys}
use Rattle.dt_model_laws.proofs.Bytes.{path_bytes, are_bytes-append, are_bytes-map, each-append, each-map}

-- ---- the rules of names

abbrev pub named_rules : Rules
named_rules = record { node = λ p. AllByRecursion IsNodeName p; label = IsLabel; value = λ n v. IsPropertyName n × AllByRecursion IsPart v }

pub named_obeys : (mode : Mode) (place : Place) → IsPlace place → Obeys named_rules mode place
named_obeys mode root h = tt
named_obeys mode (block b) h = tt
named_obeys mode (delete_node b) h = tt
named_obeys mode (child n) h = λ p k e. (h, k)
named_obeys mode (label l) h = h
named_obeys mode (property n v) h = h
named_obeys mode (delete_property n) h = tt
named_obeys mode (delete_child n) h = tt
named_obeys mode close h = tt

pub all_reverse : {X : Type 0} (P : X → Type 0) (xs : List X) → AllByRecursion P xs → AllByRecursion P (reverse xs)
all_reverse P [] h = tt
all_reverse P (x ∷ xs) h = subst (AllByRecursion P) (sym (reverse_onto xs x [])) (each_append P (reverse xs) (x ∷ []) (all_reverse P xs h.1) (h.0, tt))

-- the names of what stands under a path are names
pub path_named : (p : Path) → AllByRecursion IsNodeName (reverse p) → AllByRecursion IsNodeName p
path_named p h = subst (AllByRecursion IsNodeName) (reverse-reverse p) (all_reverse IsNodeName (reverse p) h)

-- ---- bytes

bound_bytes : (es : Events) (nodes : (r : Reference) (p : Stack) → referent es r ≡ Some p → AllByRecursion IsNodeName p) (x : Part) (items : List (Item Path))
    → IsPart x → bound es x ≡ Some items → AreBytes items
bound_bytes es nodes (one b) items h e = let same : byte b ∷ [] ≡ items = cc in subst AreBytes same (h, tt)
bound_bytes es nodes (number_of r) items h e = let m = map_some (λ p. reference (reverse p) ∷ []) (referent es r) items e in subst AreBytes m.2 tt
bound_bytes es nodes (text_of r) items h e =
    let m = map_some (λ p. map byte (path_value (reverse p))) (referent es r) items e in
    subst AreBytes m.2 (are_bytes-map Path (path_value (reverse m.0)) (path_bytes (reverse m.0) (all_reverse IsNodeName m.0 (nodes r m.0 m.1))))

pub all_bound_bytes : (es : Events) (nodes : (r : Reference) (p : Stack) → referent es r ≡ Some p → AllByRecursion IsNodeName p) (v : List Part) (items : List (Item Path))
    → AllByRecursion IsPart v → all_bound es v ≡ Some items → AreBytes items
all_bound_bytes es nodes [] items h e = let same : [] ≡ items = cc in subst AreBytes same tt
all_bound_bytes es nodes (x ∷ xs) items h e =
    let first = then_some (λ front. option_map (λ others. front ++ others) (all_bound es xs)) (bound es x) items e in
    let rest = map_some (λ others. first.0 ++ others) (all_bound es xs) items first.2 in
    subst AreBytes rest.2 (are_bytes-append first.0 rest.0 (bound_bytes es nodes x first.0 h.0 first.1) (all_bound_bytes es nodes xs rest.0 h.1 rest.1))

-- ---- references

pub refers_later : (es : Events) (x : Part) (xs : List Part) (q : Stack) → refers es q xs ≡ true → refers es q (x ∷ xs) ≡ true
refers_later es (one b) xs q h = h
refers_later es (number_of r) xs q h = either_right (option_map_or (path_eq q) (referent es r) false) (refers es q xs) h
refers_later es (text_of r) xs q h = h

module _ (es : Events) (K : Path → Type 0) where
  each_bound : (x : Part) (xs : List Part) (items : List (Item Path)) → ((q : Stack) → refers es q (x ∷ xs) ≡ true → K (reverse q)) → bound es x ≡ Some items → EachReference K items
  each_bound (one b) xs items to e = let same : byte b ∷ [] ≡ items = cc in subst (EachReference K) same tt
  each_bound (number_of r) xs items to e =
      let m = map_some (λ p. reference (reverse p) ∷ []) (referent es r) items e in
      let here : option_map_or (path_eq m.0) (referent es r) false ≡ true = ap (λ (o : Option Stack). option_map_or (path_eq m.0) o false) m.1 ∙ path_eq-refl m.0 in
      subst (EachReference K) m.2 (to m.0 (either_left (option_map_or (path_eq m.0) (referent es r) false) (refers es m.0 xs) here), tt)
  each_bound (text_of r) xs items to e =
      let m = map_some (λ p. map byte (path_value (reverse p))) (referent es r) items e in
      subst (EachReference K) m.2 (each-map K (path_value (reverse m.0)))

  pub all_each_bound : (v : List Part) (items : List (Item Path)) → ((q : Stack) → refers es q v ≡ true → K (reverse q)) → all_bound es v ≡ Some items → EachReference K items
  all_each_bound [] items to e = let same : [] ≡ items = cc in subst (EachReference K) same tt
  all_each_bound (x ∷ xs) items to e =
      let first = then_some (λ front. option_map (λ others. front ++ others) (all_bound es xs)) (bound es x) items e in
      let rest = map_some (λ others. first.0 ++ others) (all_bound es xs) items first.2 in
      subst (EachReference K) rest.2
      (each-append K first.0 rest.0 (each_bound x xs first.0 to first.1) (all_each_bound xs rest.0 (λ q h. to q (refers_later es x xs q h)) rest.1))

-- ---- written numbers

in_range-is : (m n : ℕ) → in_range m ≡ Some n → (1 ≤ n) × (n ≤ 0xfffffffe)
in_range-is m n h =
    let c = cond_some (nat_le 1 m && nat_le m 0xfffffffe) m n h in
    let both = and_parts (nat_le 1 m) (nat_le m 0xfffffffe) c.0 in
    let low : 1 ≤ m = leb-true 1 m both.0 in
    let high : m ≤ 0xfffffffe = leb-true m 0xfffffffe both.1 in
    (subst (λ k. 1 ≤ k) c.1 low, subst (λ k. k ≤ 0xfffffffe) c.1 high)

pub written_range : (v : List Part) (n : ℕ) → number_of_parts v ≡ Some n → (1 ≤ n) × (n ≤ 0xfffffffe)
written_range (one a ∷ one b ∷ one c ∷ one d ∷ []) n h = in_range-is (from_be_bytes w32 (a ∷ b ∷ c ∷ d ∷ [])) n h
written_range _ n h = cc
