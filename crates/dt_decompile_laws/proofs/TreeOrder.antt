-- A tree's events are as old as its nodes and properties stand in order.
use Rattle.std.proofs.Common.{◌≡◌, ◌≢◌, ℕ, ◌+◌, ◌≤◌, ◌<◌, Bool, true, false, ◌||◌, ◌&&◌, List, [], ◌∷◌, ◌++◌, length, length-append, map, reverse, refl, sym, ap, ◌∙◌, inl, inr, append_assoc, cond, arith}
use Rattle.std.specs.List.{AllByRecursion, flat_map, list_any}
use Rattle.std.specs.Str.{bytes_eq}
use Rattle.dt_model.specs.Names.{Name}
use Rattle.dt_model.specs.Path.{Path, path_eq}
use Rattle.dt_model.specs.Lists.{IsIn, FallBy}
use Rattle.dt_model.specs.Event.{Stack, Event, opening, definition, opens, defines, since, from_first}
use Rattle.dt_model.specs.Source.{Part, one, Events}
use Rattle.dt_model.specs.Tree.{Property, Placed}
use Rattle.dt_model.specs.Valid.{AreDistinct}
use Rattle.dt_model_laws.proofs.Meanings.{no_twice}
use Rattle.dt_model.proofs.Preorder.{paths_of}
use Rattle.dt_model.proofs.Tests.{each_in, each_from, in_map, bytes_eq_refl, bytes_eq_other, path_eq_refl, path_eq_true}
use Rattle.dt_decompile_laws.proofs.ReadPlaces.{property_events}
use Rattle.dt_decompile_laws.proofs.TreeEvents.{own}

-- no event passes the test
abbrev pub PassNone : (Event (List Part) → Bool) → Events → Type 0
PassNone test es = AllByRecursion (λ e. test e ≡ false) es

-- ---- the first that passes

pub since_none : (test : Event (List Part) → Bool) (es : Events) → PassNone test es → (since test es ≡ es) × (list_any test es ≡ false)
since_none test [] h = (refl, refl)
since_none test (e ∷ es) h =
    let rest = since_none test es h.1 in
    (ap (λ b. cond b (since test es) (cond (test e) es (e ∷ es))) rest.1 ∙ ap (λ b. cond b es (e ∷ es)) h.0, ap (λ b. b || list_any test es) h.0 ∙ rest.1)

first_behind : (test : Event (List Part) → Bool) (before es : Events) → PassNone test before → from_first test (before ++ es) ≡ from_first test es
first_behind test [] es h = refl
first_behind test (e ∷ before) es h = ap (λ b. cond b (e ∷ (before ++ es)) (from_first test (before ++ es))) h.0 ∙ first_behind test before es h.1

first_short : (test : Event (List Part) → Bool) (es : Events) → length (from_first test es) ≤ length es
first_short test [] = omega arith
first_short test (e ∷ es) = step (test e) (first_short test es)
  where
    step : (b : Bool) → length (from_first test es) ≤ length es → length (cond b (e ∷ es) (from_first test es)) ≤ length (e ∷ es)
    step true h = omega arith
    step false h = omega (arith, h)

-- ---- falling numbers

pub falls_same : {X : Type 0} (f g : X → ℕ) (xs : List X) → ((x : X) → IsIn x xs → f x ≡ g x) → FallBy f xs → FallBy g xs
falls_same f g [] same h = tt
falls_same f g (x ∷ xs) same h = (
  each_from (λ y. g y < g x) xs (λ y i.
      let l : f y < f x = each_in (λ y. f y < f x) xs y h.0 i in
      let a = same y (inr i) in
      let b = same x (inl refl) in
      omega (arith, l, a, b)),
  falls_same f g xs (λ y i. same y (inr i)) h.1,
)

-- things in order, each with its events, the first of which starts it and no other thing
pub record AreBlocks {X K : Type 0} (key : X → K) (starts : K → Event (List Part) → Bool) (block : X → Events) : Type 0 where
  pub first : (x : X) → (e : Event (List Part)) × (es : Events) × (block x ≡ e ∷ es) × (starts (key x) e ≡ true)
  pub other : (x y : X) → key y ≢ key x → PassNone (starts (key y)) (block x)

module _ {X K : Type 0} (key : X → K) (starts : K → Event (List Part) → Bool) (block : X → Events) (are : AreBlocks key starts block) where
  -- from where a thing starts
  abbrev left : List X → Events → X → ℕ
  left xs behind x = length (from_first (starts (key x)) (flat_map block xs ++ behind))

  left_first : (x : X) (xs : List X) (behind : Events) → left (x ∷ xs) behind x ≡ length (block x) + length (flat_map block xs ++ behind)
  left_first x xs behind =
      let w = are.first x in
      let start = starts (key x) in
      ap (λ (es : Events). length (from_first start es)) (append_assoc (block x) (flat_map block xs) behind)
      ∙ ap (λ (es : Events). length (from_first start (es ++ (flat_map block xs ++ behind)))) w.2
      ∙ ap (λ b. length (cond b (w.0 ∷ (w.1 ++ (flat_map block xs ++ behind))) (from_first start (w.1 ++ (flat_map block xs ++ behind))))) w.3
      ∙ length-append (w.0 ∷ w.1) (flat_map block xs ++ behind)
      ∙ ap (λ (es : Events). length es + length (flat_map block xs ++ behind)) (sym w.2)

  left_later : (x y : X) (xs : List X) (behind : Events) → key y ≢ key x → left (x ∷ xs) behind y ≡ left xs behind y
  left_later x y xs behind ne =
      ap (λ (es : Events). length (from_first (starts (key y)) es)) (append_assoc (block x) (flat_map block xs) behind)
      ∙ ap (λ (es : Events). length es) (first_behind (starts (key y)) (block x) (flat_map block xs ++ behind) (are.other x y ne))

  not_empty : (x : X) → 0 < length (block x)
  not_empty x = let w = are.first x in let l : length (block x) ≡ length (w.0 ∷ w.1) = ap (λ (es : Events). length es) w.2 in omega (arith, l)

  pub blocks_fall : (xs : List X) (behind : Events) → AreDistinct (map key xs) → FallBy (left xs behind) xs
  blocks_fall [] behind d = tt
  blocks_fall (x ∷ xs) behind d = (
    each_from (λ y. left (x ∷ xs) behind y < left (x ∷ xs) behind x) xs (λ y i.
        let later = left_later x y xs behind (other y i) in
        let first = left_first x xs behind in
        let short = first_short (starts (key y)) (flat_map block xs ++ behind) in
        let some = not_empty x in
        omega (arith, later, first, short, some)),
    falls_same (left xs behind) (left (x ∷ xs) behind) xs (λ y i. sym (left_later x y xs behind (other y i))) (blocks_fall xs behind d.1),
  )
    where
      other : (y : X) → IsIn y xs → key y ≢ key x
      other y i = each_in (λ k. k ≢ key x) (map key xs) (key y) d.0 (in_map key xs y i)

-- ---- nodes

path_eq_other : (p q : Path) → p ≢ q → path_eq p q ≡ false
path_eq_other p q ne = step (path_eq p q) refl
  where
    step : (b : Bool) → path_eq p q ≡ b → b ≡ false
    step true e = absurd (ne (path_eq_true p q e))
    step false e = refl

opened_by_none : (q r : Stack) (ps : List Property) → PassNone (opens q) (property_events r ps)
opened_by_none q r [] = tt
opened_by_none q r (p ∷ ps) = (refl, opened_by_none q r ps)

pub node_blocks : AreBlocks (λ (n : Placed). n.path) (λ p. opens (reverse p)) own
node_blocks = record {
  first = λ n. (opening (reverse n.path), property_events (reverse n.path) n.properties, refl, path_eq_refl (reverse n.path));
  other = λ n m ne.
      (path_eq_other (reverse n.path) (reverse m.path) (λ e. ne (sym (no_twice n.path m.path e))), opened_by_none (reverse m.path) (reverse n.path) n.properties);
}

-- ---- properties

abbrev property_block : Stack → Property → Events
property_block q p = definition q p.name (map one p.value) ∷ []

property_blocks : (q : Stack) → AreBlocks (λ (p : Property). p.name) (defines q) (property_block q)
property_blocks q = record {
  first = λ p. (definition q p.name (map one p.value), [], refl, rw (path_eq_refl q, bytes_eq_refl p.name) refl);
  other = λ p r ne. (rw (path_eq_refl q) (bytes_eq_other p.name r.name (λ e. ne (sym e))), tt);
}

blocks_of : (q : Stack) (ps : List Property) → property_events q ps ≡ flat_map (property_block q) ps
blocks_of q [] = refl
blocks_of q (p ∷ ps) = ap (λ (es : Events). definition q p.name (map one p.value) ∷ es) (blocks_of q ps)

defined_by_none : (q r : Stack) (x : Name) (ps : List Property) → r ≢ q → PassNone (defines q x) (property_events r ps)
defined_by_none q r x [] ne = tt
defined_by_none q r x (p ∷ ps) ne = (ap (λ b. b && bytes_eq p.name x) (path_eq_other r q ne), defined_by_none q r x ps ne)

-- the properties of one of the nodes
pub properties_fall : (ns : List Placed) (n : Placed) → AreDistinct (paths_of ns) → IsIn n ns → AreDistinct (map (λ (p : Property). p.name) n.properties)
    → FallBy (λ (p : Property). length (from_first (defines (reverse n.path) p.name) (flat_map own ns))) n.properties
properties_fall [] n d i own_names = absurd i
properties_fall (m ∷ ns) n d (inl same) own_names =
    let q = reverse n.path in
    falls_same (left (λ (p : Property). p.name) (defines q) (property_block q) (property_blocks q) n.properties (flat_map own ns))
    (λ (p : Property). length (from_first (defines q p.name) (flat_map own (m ∷ ns)))) n.properties
    (λ p i.
    ap (λ (es : Events). length (from_first (defines q p.name) (es ++ flat_map own ns))) (sym (blocks_of q n.properties))
    ∙ ap (λ (z : Placed). length (from_first (defines q p.name) (own z ++ flat_map own ns))) same)
    (blocks_fall (λ (p : Property). p.name) (defines q) (property_block q) (property_blocks q) n.properties (flat_map own ns) own_names)
properties_fall (m ∷ ns) n d (inr i) own_names =
    let q = reverse n.path in
    let ne : reverse m.path ≢ q = λ e. each_in (λ p. p ≢ m.path) (paths_of ns) n.path d.0 (in_map (λ (z : Placed). z.path) ns n i) (sym (no_twice m.path n.path e)) in
    falls_same (λ (p : Property). length (from_first (defines q p.name) (flat_map own ns))) (λ (p : Property). length (from_first (defines q p.name) (flat_map own (m ∷ ns)))) n.properties
    (λ p k. ap (λ (es : Events). length es) (sym (first_behind (defines q p.name) (own m) (flat_map own ns) (refl, defined_by_none q (reverse m.path) p.name m.properties ne))))
    (properties_fall ns n d.1 i own_names)
