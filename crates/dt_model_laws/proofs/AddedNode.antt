-- A tree with its labels as a last child of the root: what look-ups find in it, and that a blob may hold it.
use Rattle.std.proofs.Common.{◌≡◌, ℕ, Bool, true, false, List, [], ◌∷◌, ◌++◌, codes, refl, sym, ap, subst, ◌∙◌, inl, inr, Option, Some, None, append_assoc, append-nil, is_some, true≢false}
use Rattle.std.specs.Prelude.{option_and_then}
use Rattle.std.specs.List.{AllByRecursion}
use Rattle.std.specs.Option.{option_or, option_to_list}
use Rattle.std.specs.Str.{bytes_eq}
use Rattle.dt_model.specs.Names.{Name}
use Rattle.dt_model.specs.Path.{Path, is_bookkeeping_name, is_bookkeeping}
use Rattle.dt_model.specs.Lists.{IsIn}
use Rattle.dt_model.specs.Tree.{Property, Forest, no_nodes, branch, Reading, Node, sibling, node_below, value_of, node_at, stands_in, value_in}
use Rattle.dt_model.specs.Valid.{AreDistinct, AreProperties, AreNodes, IsPhandle, IsValid, names, phandle_values, phandles}
use Rattle.dt_model.specs.Instance.{followed_by, with_symbols}
use Rattle.dt_model_laws.proofs.CheckedNames.{node_name}
use Rattle.dt_model.proofs.Distinct.{distinct_append}
use Rattle.dt_model.proofs.Tests.{bytes_eq_refl}

-- ---- siblings behind others

sibling_followed_by : (fs gs : Forest) (x : Name) → sibling (followed_by fs gs) x ≡ option_or (sibling fs x) (sibling gs x)
sibling_followed_by no_nodes gs x = refl
sibling_followed_by (branch y ps c s) gs x = step (sibling_followed_by s gs x) (bytes_eq x y) refl
  where
    step : sibling (followed_by s gs) x ≡ option_or (sibling s x) (sibling gs x) → (b : Bool) → bytes_eq x y ≡ b
        → sibling (followed_by (branch y ps c s) gs) x ≡ option_or (sibling (branch y ps c s) x) (sibling gs x)
    step more true e = rw e refl
    step more false e = rw e more

names_followed_by : (fs gs : Forest) → names (followed_by fs gs) ≡ names fs ++ names gs
names_followed_by no_nodes gs = refl
names_followed_by (branch y ps c s) gs = ap (λ xs. y ∷ xs) (names_followed_by s gs)

phandles_followed_by : (fs gs : Forest) → phandles (followed_by fs gs) ≡ phandles fs ++ phandles gs
phandles_followed_by no_nodes gs = refl
phandles_followed_by (branch y ps c s) gs = ap (λ vs. phandle_values ps ++ phandles c ++ vs) (phandles_followed_by s gs) ∙ sym (append_assoc (phandle_values ps ++ phandles c) (phandles s) (phandles gs))

nodes_followed_by : (fs gs : Forest) → AreNodes fs → AreNodes gs → AreNodes (followed_by fs gs)
nodes_followed_by no_nodes gs h k = k
nodes_followed_by (branch y ps c s) gs h k = (h.0, h.1, h.2, h.3, nodes_followed_by s gs h.4 k)

-- ---- look-ups

abbrev symbols_node : List Property → Forest
symbols_node symbols = branch (codes "__symbols__") symbols no_nodes no_nodes

-- the value of a property of a child of the root
abbrev value_of_child : Option Node → Name → Option (List ℕ)
value_of_child o l = option_and_then (λ (c : Node). value_of c.properties l) (option_and_then (λ c. node_below c []) o)

no_sibling : (o : Option Node) → is_some (option_and_then (λ c. node_below c []) o) ≡ false → o ≡ None
no_sibling None h = refl
no_sibling (Some n) h = cc

none_or : (o : Option Node) → option_or o None ≡ o
none_or None = refl
none_or (Some n) = refl

other_name : (x : Name) → is_bookkeeping_name x ≡ false → bytes_eq x (codes "__symbols__") ≡ false
other_name x h = step (bytes_eq x (codes "__symbols__")) refl
  where
    step : (b : Bool) → bytes_eq x (codes "__symbols__") ≡ b → b ≡ false
    step true e = absurd (true≢false (rw e at h))
    step false e = refl

module _ (t : Reading) (none : stands_in t (codes "__symbols__" ∷ []) ≡ false) where
  no_symbols : sibling t.children (codes "__symbols__") ≡ None
  no_symbols = no_sibling (sibling t.children (codes "__symbols__")) none

  pub value_of_label : (symbols : List Property) (l : Name) → value_in (with_symbols symbols t) (codes "__symbols__" ∷ []) l ≡ value_of symbols l
  value_of_label [] l = ap (λ (o : Option Node). value_of_child o l) no_symbols
  value_of_label (s ∷ symbols) l =
      ap (λ (o : Option Node). value_of_child o l)
      (sibling_followed_by t.children (symbols_node (s ∷ symbols)) (codes "__symbols__") ∙ ap (λ (o : Option Node). option_or o (sibling (symbols_node (s ∷ symbols)) (codes "__symbols__"))) no_symbols)

node_elsewhere : (t : Reading) (symbols : List Property) (x : Name) (p : Path) → is_bookkeeping_name x ≡ false → node_at (with_symbols symbols t) (x ∷ p) ≡ node_at t (x ∷ p)
node_elsewhere t [] x p h = refl
node_elsewhere t (s ∷ symbols) x p h =
    let none : sibling (symbols_node (s ∷ symbols)) x ≡ None = rw (other_name x h) refl in
    ap (λ (o : Option Node). option_and_then (λ c. node_below c p) o)
    (sibling_followed_by t.children (symbols_node (s ∷ symbols)) x ∙ ap (option_or (sibling t.children x)) none ∙ none_or (sibling t.children x))

pub stands_elsewhere : (t : Reading) (symbols : List Property) (p : Path) → is_bookkeeping p ≡ false → stands_in (with_symbols symbols t) p ≡ stands_in t p
stands_elsewhere t [] [] h = refl
stands_elsewhere t (s ∷ symbols) [] h = refl
stands_elsewhere t symbols (x ∷ p) h = ap is_some (node_elsewhere t symbols x p h)

pub value_elsewhere : (t : Reading) (symbols : List Property) (p : Path) (n : Name) → is_bookkeeping p ≡ false → value_in (with_symbols symbols t) p n ≡ value_in t p n
value_elsewhere t [] [] n h = refl
value_elsewhere t (s ∷ symbols) [] n h = refl
value_elsewhere t symbols (x ∷ p) n h = ap (option_and_then (λ (c : Node). value_of c.properties n)) (node_elsewhere t symbols x p h)

-- ---- a blob may hold it

sibling_named : (fs : Forest) (x : Name) → IsIn x (names fs) → is_some (sibling fs x) ≡ true
sibling_named no_nodes x i = absurd i
sibling_named (branch y ps c s) x (inl same) = rw (same, bytes_eq_refl y) refl
sibling_named (branch y ps c s) x (inr i) = step (sibling_named s x i) (bytes_eq x y) refl
  where
    step : is_some (sibling s x) ≡ true → (b : Bool) → bytes_eq x y ≡ b → is_some (sibling (branch y ps c s) x) ≡ true
    step more true e = rw e refl
    step more false e = rw e more

phandles_kept : (t : Reading) (symbols : List Property) → value_of symbols (codes "phandle") ≡ None → phandles (followed_by t.children (symbols_node symbols)) ≡ phandles t.children
phandles_kept t symbols none =
    let of_node : phandles (symbols_node symbols) ≡ [] = ap (λ (o : Option (List ℕ)). option_to_list o ++ [] ++ []) none in
    phandles_followed_by t.children (symbols_node symbols) ∙ ap (λ vs. phandles t.children ++ vs) of_node ∙ append-nil (phandles t.children)

names_distinct : (t : Reading) (symbols : List Property) → stands_in t (codes "__symbols__" ∷ []) ≡ false → AreDistinct (names t.children) → AreDistinct (names (followed_by t.children (symbols_node symbols)))
names_distinct t symbols none d =
    subst AreDistinct (sym (names_followed_by t.children (symbols_node symbols)))
    (distinct_append (names t.children) (codes "__symbols__" ∷ []) d (tt, tt)
    (λ x i j. elim j [
      | inl same ↦
          let there = sibling_named t.children (codes "__symbols__") (subst (λ y. IsIn y (names t.children)) same i) in
          true≢false (sym there ∙ ap is_some (no_symbols t none))
      | inr k ↦ k
    ]))

pub valid_with_symbols : (t : Reading) (symbols : List Property) → stands_in t (codes "__symbols__" ∷ []) ≡ false → IsValid t → AreProperties symbols → value_of symbols (codes "phandle") ≡ None
    → IsValid (with_symbols symbols t)
valid_with_symbols t [] none valid are no_number = valid
valid_with_symbols t (s ∷ symbols) none valid are no_number = record {
  boot_cpu = valid.boot_cpu;
  reservations = valid.reservations;
  properties = valid.properties;
  nodes = nodes_followed_by t.children (symbols_node (s ∷ symbols)) valid.nodes (node_name (codes "__symbols__") refl, are, tt, tt, tt);
  siblings = names_distinct t (s ∷ symbols) none valid.siblings;
  phandles_valid = subst (λ vs. AllByRecursion IsPhandle (phandle_values t.properties ++ vs)) (sym (phandles_kept t (s ∷ symbols) no_number)) valid.phandles_valid;
  phandles_distinct = subst (λ vs. AreDistinct (phandle_values t.properties ++ vs)) (sym (phandles_kept t (s ∷ symbols) no_number)) valid.phandles_distinct;
}
