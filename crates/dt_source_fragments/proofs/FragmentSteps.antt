-- What values have to be to name targets, and fragments one after another.
use Rattle.std.proofs.Common.{◌≡◌, ℕ, zero, suc, ◌+◌, ◌<◌, ◌≤◌, Bool, true, false, not, ◌&&◌, ◌==◌, vec_len, cond, nat_eq, codes, Option, List, [], ◌∷◌, ◌++◌, map, drop, length, length-append, get_or, slice_get, Some, None, inl, inr, refl, sym, ap, subst, ◌∙◌, append_assoc, arith}
use Rattle.std.specs.Global.{Vec}
use Rattle.std.specs.List.{AllByRecursion}
use Rattle.std.specs.Str.{bytes_eq}
use Rattle.std.specs.Option.{option_map, option_map_or}
use Rattle.std.proofs.lemmas.List.{append-nil, drop_all, drop_more, length-map, map-append}
use Rattle.std.proofs.lemmas.Bool.Decides.{eqb_tells}
use Rattle.std.proofs.lemmas.Option.{slice_get-map, slice_get-get_or, slice_get_within}
use Rattle.std.specs.Cow.{cow_slice_items}
use Rattle.dt_model.specs.Lists.{IsIn}
use Rattle.dt_model.specs.Meaning.{Item, byte, reference}
use Rattle.dt_model.specs.Path.{Path}
use Rattle.dt_model.specs.Named.{NodeReference, Listed}
use Rattle.dt_model.specs.NamedOverlay.{NamedTarget, NamedFragment}
use Rattle.dt_model_laws.specs.OverlayChecks.{is_first, is_content, fragments_among, IsPathText, HoldTarget, properties_at, is_within, refers_within, AreFragmentsAmong}
use Rattle.dt_names.specs.Paths.{IsPathOf}
use Rattle.dt_names.specs.declared.fault.FaultKind.{FaultKind}
use Rattle.dt_names.specs.declared.fault.FaultKind.TheVariants.{NoMemory, BadFragment}
use Rattle.dt_source_fragments.specs.Fragments.{WhyNoTarget, WhyUnchecked}
use Rattle.dt_source_named_tree.specs.Said.{reference_said, pieces_said, value_said, property_said, node_said}
use Rattle.dt_source_named_tree.specs.declared.named.NamedPiece.{NamedPiece}
use Rattle.dt_source_named_tree.specs.declared.named.NamedValue.{NamedValue}
use Rattle.dt_source_named_tree.specs.declared.named.NamedNode.{NamedNode}

-- ---- values

abbrev references : List (Item NodeReference) → ℕ
references [] = 0
references (byte b ∷ v) = references v
references (reference r ∷ v) = suc (references v)

references-append : (v w : List (Item NodeReference)) → references (v ++ w) ≡ references v + references w
references-append [] w = omega arith
references-append (byte b ∷ v) w = references-append v w
references-append (reference r ∷ v) w = let e = references-append v w in omega (arith, e)

no_references : (bs : List ℕ) → references (map byte bs) ≡ 0
no_references [] = refl
no_references (b ∷ bs) = no_references bs

references_said : (ps : List NamedPiece) → references (pieces_said ps) ≡ length ps
references_said [] = refl
references_said (p ∷ ps) =
    let e = references-append (map byte (cow_slice_items p.before)) (reference (reference_said p.reference) ∷ pieces_said ps) in
    let rest = references_said ps in
    let none = no_references (cow_slice_items p.before) in
    omega (arith, e, rest, none)

value_references : (v : NamedValue) → references (value_said v) ≡ length v.pieces.items
value_references v =
    let e = references-append (pieces_said v.pieces.items) (map byte (cow_slice_items v.bytes)) in
    let n = references_said v.pieces.items in
    let none = no_references (cow_slice_items v.bytes) in
    omega (arith, e, n, none)

length_said : (ps : List NamedPiece) → length ps ≤ length (pieces_said ps)
length_said [] = omega arith
length_said (p ∷ ps) =
    let e = length-append (map byte (cow_slice_items p.before)) (reference (reference_said p.reference) ∷ pieces_said ps) in
    let rest = length_said ps in
    omega (arith, e, rest)

pub one_piece : (v : NamedValue) (r : NodeReference) → value_said v ≡ reference r ∷ [] → length v.pieces.items ≡ 1
one_piece v r e = sym (value_references v) ∙ ap references e

pub no_bytes : (v : NamedValue) (r : NodeReference) → value_said v ≡ reference r ∷ [] → length (cow_slice_items v.bytes) ≡ 0
no_bytes v r e =
    let one = one_piece v r e in
    let l = length-append (pieces_said v.pieces.items) (map byte (cow_slice_items v.bytes)) in
    let whole : length (value_said v) ≡ 1 = ap length e in
    let more = length_said v.pieces.items in
    let bytes : length (map {B = Item NodeReference} byte (cow_slice_items v.bytes)) ≡ length (cow_slice_items v.bytes) = length-map (cow_slice_items v.bytes) byte in
    omega (arith, one, l, whole, more, bytes)

pub no_pieces : (v : NamedValue) (bs : List ℕ) → value_said v ≡ map byte bs → length v.pieces.items ≡ 0
no_pieces v bs e = sym (value_references v) ∙ ap references e ∙ no_references bs

bytes_back : (bs cs : List ℕ) → map {B = Item NodeReference} byte bs ≡ map byte cs → bs ≡ cs
bytes_back [] [] e = refl
bytes_back [] (c ∷ cs) e = cc
bytes_back (b ∷ bs) [] e = cc
bytes_back (b ∷ bs) (c ∷ cs) e =
    let head : b ≡ c = cc in
    let tail = bytes_back bs cs cc in
    λ i. head i ∷ tail i

last_back : (xs ys : List ℕ) (x y : ℕ) → xs ++ x ∷ [] ≡ ys ++ y ∷ [] → xs ≡ ys
last_back [] [] x y e = refl
last_back [] (b ∷ []) x y e = cc
last_back [] (b ∷ c ∷ ys) x y e = cc
last_back (a ∷ []) [] x y e = cc
last_back (a ∷ b ∷ xs) [] x y e = cc
last_back (a ∷ xs) (b ∷ ys) x y e =
    let head : a ≡ b = cc in
    let tail = last_back xs ys x y cc in
    λ i. head i ∷ tail i

-- a value without references, whose bytes end with this one, is no path's text with its NUL where the rest is none
pub no_path_text : (v : NamedValue) (text own : List ℕ) (last : ℕ) → v.pieces.items ≡ [] → (cow_slice_items v.bytes) ≡ own ++ last ∷ [] → ((p : Path) → IsPathOf own p → ⊥)
    → IsPathText text → value_said v ≡ map byte (text ++ 0 ∷ []) → ⊥
no_path_text v text own last none ends other is e =
    let bytes : map {B = Item NodeReference} byte (own ++ last ∷ []) ≡ map byte (text ++ 0 ∷ []) =
    ap (λ bs. map byte bs) (sym ends) ∙ ap (λ ps. pieces_said ps ++ map byte (cow_slice_items v.bytes)) (sym none) ∙ e in
    let same : own ≡ text = last_back own text last 0 (bytes_back (own ++ last ∷ []) (text ++ 0 ∷ []) bytes) in
    other is.0 (record { written = same ∙ is.1; named = is.2 })

-- ---- fragments

-- the node of a number
pub node_there : (nodes : List NamedNode) (k : ℕ) (n : NamedNode) → k < length nodes → n ≡ get_or nodes k n → slice_get (map node_said nodes) k ≡ Some (node_said n)
node_there nodes k n l is = slice_get-map node_said nodes k ∙ ap (option_map node_said) (slice_get-get_or nodes k n l ∙ ap (λ m. Some m) (sym is))

pub properties_there : (nodes : List NamedNode) (k : ℕ) (n : NamedNode) → k < length nodes → n ≡ get_or nodes k n → properties_at (map node_said nodes) k ≡ map property_said n.properties.items
properties_there nodes k n l is = ap (λ o. option_map_or (λ (m : Listed NodeReference). m.content.properties) o []) (node_there nodes k n l is)

-- the parent of a content is a node of the list
pub content_parent : (nodes : List NamedNode) (n : Listed NodeReference) → is_content (map node_said nodes) n ≡ true → n.parent < length nodes
content_parent nodes n h = by (slice_get (map node_said nodes) n.parent) refl
  where
    by : (o : Option (Listed NodeReference)) → slice_get (map node_said nodes) n.parent ≡ o → n.parent < length nodes
    by (Some m) e = let l = slice_get_within (map node_said nodes) n.parent m e in let same : length (map node_said nodes) ≡ length nodes = length-map nodes node_said in omega (arith, l, same)
    by None e = absurd (no_content (ap (λ o. option_map_or (λ (m : Listed NodeReference). nat_eq m.parent 0) o false) e))
      where
        neither : (x y : Bool) → ((x && false) && y) ≡ false
        neither true y = refl
        neither false y = refl

        no_content : is_first (map node_said nodes) n.parent ≡ false → ⊥
        no_content f =
            let no : false ≡ true =
            sym (neither (not (nat_eq n.parent 0)) (bytes_eq n.name (codes "__overlay__"))) ∙ ap (λ z. (not (nat_eq n.parent 0) && z) && bytes_eq n.name (codes "__overlay__")) (sym f) ∙ h in
            cc

-- what is left of the fragments, by the first node that is left
pub first_left : (nodes : List NamedNode) (k : ℕ) (n : NamedNode) → k < length nodes → n ≡ get_or nodes k n
    → fragments_among (map node_said nodes) (map node_said (drop k nodes))
    ≡ cond (is_content (map node_said nodes) (node_said n)) (n.parent ∷ fragments_among (map node_said nodes) (map node_said (drop (k + 1) nodes)))
    (fragments_among (map node_said nodes) (map node_said (drop (k + 1) nodes)))
first_left nodes k n l is = ap (λ ms. fragments_among (map node_said nodes) (map node_said ms)) (drop_more nodes k n l ∙ ap (λ m. m ∷ drop (k + 1) nodes) (sym is))

-- ---- what values refer to

-- what is left of a value refers to marked nodes alone, by its first piece
pub left_within : (marks : List Bool) (v : NamedValue) (i : ℕ) (p : NamedPiece) → i < length v.pieces.items → p ≡ get_or v.pieces.items i p
    → refers_within marks (pieces_said (drop i v.pieces.items) ++ map byte (cow_slice_items v.bytes))
    ≡ (is_within marks (reference_said p.reference) && refers_within marks (pieces_said (drop (i + 1) v.pieces.items) ++ map byte (cow_slice_items v.bytes)))
left_within marks v i p l is =
    let split : drop i v.pieces.items ≡ p ∷ drop (i + 1) v.pieces.items = drop_more v.pieces.items i p l ∙ ap (λ (q : NamedPiece). q ∷ drop (i + 1) v.pieces.items) (sym is) in
    ap (λ (qs : List NamedPiece). refers_within marks (pieces_said qs ++ map byte (cow_slice_items v.bytes))) split
    ∙ ap (refers_within marks) (append_assoc (map byte (cow_slice_items p.before)) (reference (reference_said p.reference) ∷ pieces_said (drop (i + 1) v.pieces.items)) (map byte (cow_slice_items v.bytes)))
    ∙ passed (cow_slice_items p.before) (reference (reference_said p.reference) ∷ (pieces_said (drop (i + 1) v.pieces.items) ++ map byte (cow_slice_items v.bytes)))
  where
    passed : (bs : List ℕ) (w : List (Item NodeReference)) → refers_within marks (map byte bs ++ w) ≡ refers_within marks w
    passed [] w = refl
    passed (b ∷ bs) w = passed bs w

pub bytes_within : (marks : List Bool) (bs : List ℕ) → refers_within marks (map byte bs) ≡ true
bytes_within marks [] = refl
bytes_within marks (b ∷ bs) = bytes_within marks bs

pub item_in : {X Y : Type 0} (f : X → Y) (xs : List X) (i : ℕ) (x : X) → i < length xs → x ≡ get_or xs i x → IsIn (f x) (map f xs)
item_in f [] i x l is = absurd (omega arith)
item_in f (y ∷ xs) zero x l is = inl (ap f is)
item_in f (y ∷ xs) (suc i) x l is = inr (item_in f xs i x (omega arith) is)

no_length : {X : Type 0} (xs : List X) → length xs ≡ 0 → xs ≡ []
no_length [] e = refl
no_length (x ∷ xs) e = absurd (omega (arith, e))

pub no_items : {X : Type 0} (v : Vec X) → (vec_len v == 0) ≡ true → v.items ≡ []
no_items v e = elim (eqb_tells (vec_len v) 0) [
  | inl h ↦ no_length v.items (let same : vec_len v ≡ length v.items = omega arith in omega (arith, same, h.1))
  | inr h ↦ let no : true ≡ false = sym e ∙ h.0 in cc
]

pub some_items : {X : Type 0} (v : Vec X) → (vec_len v == 0) ≡ false → length v.items ≡ 0 → ⊥
some_items v e z =
    let same : vec_len v ≡ length v.items = omega arith in
    let none : vec_len v ≡ 0 = omega (arith, same, z) in
    let no : true ≡ false = ap (λ k. k == 0) (sym none) ∙ e in
    cc

-- ---- one more node

module _ (nodes : List NamedNode) where
  abbrev ns : List (Listed NodeReference)
  ns = map node_said nodes

  -- the fragments so far, and those of the nodes that are left
  pub record AreSoFar (fs : List NamedFragment) (i : ℕ) : Type 0 where
    pub nodes_are : map (λ (f : NamedFragment). f.node) fs ++ fragments_among ns (map node_said (drop i nodes)) ≡ fragments_among ns ns
    pub held : AllByRecursion (λ (f : NamedFragment). HoldTarget (properties_at ns f.node) f.target) fs

  all_push : (fs : List NamedFragment) (f : NamedFragment) → AllByRecursion (λ (g : NamedFragment). HoldTarget (properties_at ns g.node) g.target) fs → HoldTarget (properties_at ns f.node) f.target
      → AllByRecursion (λ (g : NamedFragment). HoldTarget (properties_at ns g.node) g.target) (fs ++ f ∷ [])
  all_push [] f h p = (p, tt)
  all_push (g ∷ fs) f h p = (h.0, all_push fs f h.1 p)

  pub no_fragment : (fs : List NamedFragment) (i : ℕ) (n : NamedNode) → i < length nodes → n ≡ get_or nodes i n → is_content ns (node_said n) ≡ false → AreSoFar fs i → AreSoFar fs (i + 1)
  no_fragment fs i n l is other h = record {
    nodes_are = ap (λ ks. map (λ (f : NamedFragment). f.node) fs ++ ks)
        (sym (first_left nodes i n l is ∙ ap (λ b. cond b (n.parent ∷ fragments_among ns (map node_said (drop (i + 1) nodes))) (fragments_among ns (map node_said (drop (i + 1) nodes)))) other)) ∙ h.nodes_are;
    held = h.held;
  }

  pub one_fragment : (fs more : List NamedFragment) (i : ℕ) (n : NamedNode) (target : NamedTarget) → i < length nodes → n ≡ get_or nodes i n → is_content ns (node_said n) ≡ true → AreSoFar fs i
      → more ≡ fs ++ (record { node = n.parent; target = target }) ∷ [] → HoldTarget (properties_at ns n.parent) target → AreSoFar more (i + 1)
  one_fragment fs more i n target l is content h e held = subst (λ gs. AreSoFar gs (i + 1)) (sym e) (record {
    nodes_are = ap (λ ks. ks ++ rest) (map-append (λ (f : NamedFragment). f.node) fs (one ∷ [])) ∙ append_assoc (map (λ (f : NamedFragment). f.node) fs) (n.parent ∷ []) rest
        ∙ ap (λ ks. map (λ (f : NamedFragment). f.node) fs ++ ks) (sym (first_left nodes i n l is ∙ ap (λ b. cond b (n.parent ∷ rest) rest) content)) ∙ h.nodes_are;
    held = all_push fs one h.held held;
  })
    where
      one : NamedFragment
      one = record { node = n.parent; target = target }

      rest : List ℕ
      rest = fragments_among ns (map node_said (drop (i + 1) nodes))

  in_behind : (ks js : List ℕ) (k : ℕ) → IsIn k (ks ++ k ∷ js)
  in_behind [] js k = inl refl
  in_behind (x ∷ ks) js k = inr (in_behind ks js k)

  -- a content whose fragment holds no target
  pub not_targeted : (fs : List NamedFragment) (i : ℕ) (n : NamedNode) (kind : FaultKind) → i < length nodes → n ≡ get_or nodes i n → is_content ns (node_said n) ≡ true → AreSoFar fs i
      → WhyNoTarget (properties_at ns n.parent) kind → WhyUnchecked ns kind
  not_targeted fs i n NoMemory l is content h why = tt
  not_targeted fs i n BadFragment l is content h why = (
    n.parent,
    subst (λ ks. IsIn n.parent ks)
        (ap (λ ks. map (λ (f : NamedFragment). f.node) fs ++ ks) (sym (first_left nodes i n l is ∙ ap (λ b. cond b (n.parent ∷ rest) rest) content)) ∙ h.nodes_are)
        (in_behind (map (λ (f : NamedFragment). f.node) fs) rest n.parent),
    why,
  )
    where
      rest : List ℕ
      rest = fragments_among ns (map node_said (drop (i + 1) nodes))
  not_targeted fs i n _ l is content h why = absurd why

  pub all_fragments : (fs : List NamedFragment) (i : ℕ) → length nodes ≤ i → AreSoFar fs i → AreFragmentsAmong ns fs
  all_fragments fs i l h = record {
    nodes = sym (append-nil (map (λ (f : NamedFragment). f.node) fs)) ∙ ap (λ ms. map (λ (f : NamedFragment). f.node) fs ++ fragments_among ns (map node_said ms)) (sym (drop_all i nodes l)) ∙ h.nodes_are;
    held = h.held;
  }
