-- Labels set one after another.
use Rattle.std.proofs.Common.{◌≡◌, ℕ, suc, ◌+◌, ◌<◌, Bool, ◌||◌, IsTrue, List, [], ◌∷◌, ◌++◌, length, map, drop, get_or, None, Bor, codes, sym, ap, ◌∙◌, subst, inl, inr, arith}
use Rattle.std.specs.Prelude.{nat_eq}
use Rattle.std.specs.List.{AllByRecursion}
use Rattle.std.proofs.lemmas.Bool.{or_cases, or_right}
use Rattle.std.proofs.lemmas.List.{drop_more, length_push}
use Rattle.std.proofs.lemmas.List.Elements.{All-weaker}
use Rattle.std.specs.Cow.{cow_slice_items}
use Rattle.dt_model.specs.Names.{Name, IsLabel, IsPropertyName, is_letter, is_digit, is_name_byte}
use Rattle.dt_model.specs.Tree.{Property, value_of}
use Rattle.dt_flat.specs.Arena.{Arena, Slot, properties, with_property}
use Rattle.dt_flat.specs.Planted.{with_properties, MaySetAll}
use Rattle.dt_flat.proofs.AfterProperty.{length-with_property}
use Rattle.dt_flat.proofs.Plantable.{may_set_parts}
use Rattle.dt_flat.proofs.ManyProperties.{length-with_properties, properties-append}
use Rattle.dt_source_named_tree.specs.Said.{node_said}
use Rattle.dt_source_named_tree.specs.declared.named.NamedNode.{NamedNode}
use Rattle.dt_marks.specs.Paths.{text_behind, label_property, symbols_behind, all_symbols, MayFollow}

-- ---- a label is the name of a property

label_byte : (b : ℕ) → IsTrue (is_letter b || is_digit b || nat_eq b 95) → IsTrue (is_name_byte b)
label_byte b h =
    elim (or_cases (is_letter b || is_digit b) (nat_eq b 95) h) [
      | inl e ↦ ap (λ (x : Bool). x || nat_eq b 44 || nat_eq b 46 || nat_eq b 95 || nat_eq b 43 || nat_eq b 45 || nat_eq b 42 || nat_eq b 35 || nat_eq b 63) e
      | inr e ↦ ap (λ (x : Bool). x || nat_eq b 43 || nat_eq b 45 || nat_eq b 42 || nat_eq b 35 || nat_eq b 63)
          (or_right (is_letter b || is_digit b || nat_eq b 44 || nat_eq b 46) (nat_eq b 95) e)
    ]

pub label_is_name : (x : Name) → IsLabel x → IsPropertyName x
label_is_name x h = record {
  not_empty = h.not_empty;
  short = h.short;
  allowed = All-weaker (λ b. IsTrue (is_letter b || is_digit b || nat_eq b 95)) (λ b. IsTrue (is_name_byte b)) label_byte x h.allowed;
}

-- ---- one of several

-- the first of those that are left
pub first_label : (labels : List (Bor Name)) (i : ℕ) (d : Bor Name) → i < length labels → AllByRecursion IsLabel (map (λ b. b.now) (drop i labels))
    → IsLabel (get_or labels i d).now × AllByRecursion IsLabel (map (λ b. b.now) (drop (i + 1) labels))
first_label labels i d lt h = subst (λ (ls : List (Bor Name)). AllByRecursion IsLabel (map (λ b. b.now) ls)) (drop_more labels i d lt) h

pub label_turn : (old new : Arena) (k : ℕ) (path : List ℕ) (labels : List (Bor Name)) (i : ℕ) (d : Bor Name) (name : Name) → k < length old.slots → i < length labels
    → name ≡ (get_or labels i d).now → new ≡ record old { slots = with_property old.slots k name path }
    → (k < length new.slots)
    × (record new { slots = with_properties new.slots k (map (label_property path) (map (λ b. b.now) (drop (i + 1) labels))) }
    ≡ record old { slots = with_properties old.slots k (map (label_property path) (map (λ b. b.now) (drop i labels))) })
label_turn old new k path labels i d name there lt named is =
    let rest = map (label_property path) (map (λ (b : Bor Name). b.now) (drop (i + 1) labels)) in
    let same : new ≡ record old { slots = with_property old.slots k (get_or labels i d).now path } = is ∙ (λ j. record old { slots = with_property old.slots k (named j) path }) in (
      omega (arith, ap (λ (a : Arena). length a.slots) same, length-with_property old.slots k (get_or labels i d).now path),
      ap (λ (a : Arena). record a { slots = with_properties a.slots k rest }) same
          ∙ ap (λ (ls : List (Bor Name)). record old { slots = with_properties old.slots k (map (label_property path) (map (λ b. b.now) ls)) }) (sym (drop_more labels i d lt)),
    )

-- it has no property of that label yet, nor one of the others
pub label_new : (old new : Arena) (k : ℕ) (path : List ℕ) (labels : List (Bor Name)) (i : ℕ) (d : Bor Name) (name : Name) → i < length labels → name ≡ (get_or labels i d).now
    → MaySetAll old.slots k (map (label_property path) (map (λ b. b.now) (drop i labels))) → new ≡ record old { slots = with_property old.slots k name path }
    → MaySetAll new.slots k (map (label_property path) (map (λ b. b.now) (drop (i + 1) labels)))
label_new old new k path labels i d name lt named may is =
    let rest = map (label_property path) (map (λ (b : Bor Name). b.now) (drop (i + 1) labels)) in
    let parts = subst (λ (ls : List (Bor Name)). MaySetAll old.slots k (map (label_property path) (map (λ b. b.now) ls))) (drop_more labels i d lt) may in
    let same : new ≡ record old { slots = with_property old.slots k (get_or labels i d).now path } = is ∙ (λ j. record old { slots = with_property old.slots k (named j) path }) in
    subst (λ (a : Arena). MaySetAll a.slots k rest) (sym same) parts.1

pub label_fresh : (slots : List Slot) (k : ℕ) (path : List ℕ) (labels : List (Bor Name)) (i : ℕ) (d : Bor Name) (name : Name) → i < length labels → name ≡ (get_or labels i d).now
    → MaySetAll slots k (map (label_property path) (map (λ b. b.now) (drop i labels))) → value_of (properties slots k) name ≡ None
label_fresh slots k path labels i d name lt named may =
    let parts = subst (λ (ls : List (Bor Name)). MaySetAll slots k (map (label_property path) (map (λ b. b.now) ls))) (drop_more labels i d lt) may in
    ap (value_of (properties slots k)) named ∙ parts.0.fresh

-- ---- one node after another

-- some properties are new, and others behind them
pub both_new : (old new : Arena) (k : ℕ) (xs ys zs : List Property) → zs ≡ xs ++ ys → MaySetAll old.slots k zs → new ≡ record old { slots = with_properties old.slots k xs } → MaySetAll new.slots k ys
both_new old new k xs ys zs parts may is =
    subst (λ (a : Arena). MaySetAll a.slots k ys) (sym is) (may_set_parts old.slots k xs ys (subst (MaySetAll old.slots k) parts may)).1

pub still_there : (old new : Arena) (k : ℕ) (xs : List Property) → k < length old.slots → new ≡ record old { slots = with_properties old.slots k xs } → k < length new.slots
still_there old new k xs there is = omega (arith, ap (λ (a : Arena). length a.slots) is, length-with_properties old.slots k xs)

-- some labels, and others behind them
pub both_set : (old new : Arena) (k : ℕ) (xs ys zs : List Property) → zs ≡ xs ++ ys → new ≡ record old { slots = with_properties old.slots k xs }
    → record new { slots = with_properties new.slots k ys } ≡ record old { slots = with_properties old.slots k zs }
both_set old new k xs ys zs parts is =
    ap (λ (a : Arena). record a { slots = with_properties a.slots k ys }) is
    ∙ ap (λ (slots : List Slot). record old { slots = slots }) (sym (properties-append old.slots k xs ys) ∙ ap (with_properties old.slots k) (sym parts))

-- what is left of the nodes
pub next_node : (nodes : List NamedNode) (i : ℕ) (n : NamedNode) → i < length nodes → n ≡ get_or nodes i n → drop i nodes ≡ n ∷ drop (i + 1) nodes
next_node nodes i n lt is = drop_more nodes i n lt ∙ ap (λ (m : NamedNode). m ∷ drop (i + 1) nodes) (sym is)

-- the labels of a node, and those of the nodes that follow
pub node_turn : (left rest : List NamedNode) (n : NamedNode) (name : Name) (value lengths here after path : List ℕ) (labels : List (Bor Name)) → left ≡ n ∷ rest
    → name ≡ cow_slice_items n.name → here ≡ text_behind value lengths n.parent name ++ 0 ∷ [] → after ≡ lengths ++ length (text_behind value lengths n.parent name) ∷ []
    → path ≡ here → labels ≡ n.labels.items
    → symbols_behind value lengths (map node_said left) ≡ map (label_property path) (map (λ b. b.now) labels) ++ symbols_behind here after (map node_said rest)
node_turn left rest n name value lengths here after path labels first named valued counted is are =
    let text : Name → List ℕ = text_behind value lengths n.parent in
    ap (λ (ns : List NamedNode). symbols_behind value lengths (map node_said ns)) first
    ∙ ap (λ (x : Name). map (label_property (text x ++ 0 ∷ [])) (map (λ (b : Bor Name). b.now) n.labels.items) ++ symbols_behind (text x ++ 0 ∷ []) (lengths ++ length (text x) ∷ []) (map node_said rest)) (sym named)
    ∙ (λ i. map (label_property (sym (is ∙ valued) i)) (map (λ (b : Bor Name). b.now) (sym are i)) ++ symbols_behind (sym valued i) (sym counted i) (map node_said rest))

pub follow_turn : (left rest : List NamedNode) (n : NamedNode) (lengths after : List ℕ) (size : ℕ) → left ≡ n ∷ rest → after ≡ lengths ++ size ∷ []
    → MayFollow (length lengths) (map node_said left) → MayFollow (length after) (map node_said rest)
follow_turn left rest n lengths after size first counted may =
    let now = subst (λ (ns : List NamedNode). MayFollow (length lengths) (map node_said ns)) first may in
    let more : suc (length lengths) ≡ length after = omega (arith, length_push lengths size, ap length counted) in
    subst (λ (k : ℕ). MayFollow k (map node_said rest)) more now.2

-- one of several properties
pub property_turn_left : (old new : Arena) (k : ℕ) (xs : List Property) (i : ℕ) (x : Property) (name : Name) → k < length old.slots → name ≡ x.name
    → drop i xs ≡ x ∷ drop (i + 1) xs → new ≡ record old { slots = with_property old.slots k name x.value }
    → (k < length new.slots) × (record new { slots = with_properties new.slots k (drop (i + 1) xs) } ≡ record old { slots = with_properties old.slots k (drop i xs) })
property_turn_left old new k xs i x name there named next is =
    let rest = drop (i + 1) xs in (
      omega (arith, there, ap (λ (a : Arena). length a.slots) is, length-with_property old.slots k name x.value),
      ap (λ (a : Arena). record a { slots = with_properties a.slots k rest }) (is ∙ ap (λ (n : Name). record old { slots = with_property old.slots k n x.value }) named)
          ∙ ap (λ (ys : List Property). record old { slots = with_properties old.slots k ys }) (sym next),
    )

-- the labels of all nodes, those of the root in front
pub all_parts : (nodes others : List NamedNode) (root : NamedNode) (text value lengths : List ℕ) (labels : List (Bor Name)) → nodes ≡ root ∷ others → text ≡ codes "/" ++ 0 ∷ []
    → labels ≡ root.labels.items → value ≡ [] → lengths ≡ 0 ∷ []
    → all_symbols (map node_said nodes) ≡ map (label_property text) (map (λ (b : Bor Name). b.now) labels) ++ symbols_behind value lengths (map node_said others)
all_parts nodes others root text value lengths labels first rooted are none one =
    ap (λ (ns : List NamedNode). all_symbols (map node_said ns)) first
    ∙ (λ i. map (label_property (sym rooted i)) (map (λ (b : Bor Name). b.now) (sym are i)) ++ symbols_behind (sym none i) (sym one i) (map node_said others))
