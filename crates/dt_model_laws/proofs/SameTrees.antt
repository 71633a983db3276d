-- Trees that look-ups don't tell apart: with the same names of children and the same properties at each path they are the same.
use Rattle.std.proofs.Common.{◌≡◌, ◌≢◌, ℕ, Bool, true, false, List, [], ◌∷◌, ◌++◌, map, refl, sym, ap, subst, ◌∙◌, Option, Some}
use Rattle.std.specs.List.{AllByRecursion}
use Rattle.std.specs.Str.{bytes_eq}
use Rattle.std.proofs.lemmas.List.{map-append}
use Rattle.dt_model.specs.Names.{Name}
use Rattle.dt_model.specs.Path.{Path}
use Rattle.dt_model.specs.Tree.{Property, Forest, no_nodes, branch, value_of, Node, Placed, preorder}
use Rattle.dt_model.specs.Valid.{AreDistinct, names, AreNodes}
use Rattle.dt_model.proofs.Tests.{bytes_eq_refl, bytes_eq_true}
use Rattle.dt_model_laws.proofs.Merging.{no_value}
use Rattle.dt_model.proofs.Listed.{found, other_sibling, found_some}

-- ---- properties

abbrev names_of : List Property → List Name
names_of ps = map (λ (x : Property). x.name) ps

-- the values behind a first property whose name no other has
later_values : (p q : Property) (ps qs : List Property) → p.name ≡ q.name → names_of ps ≡ names_of qs → AllByRecursion (λ y. y ≢ p.name) (names_of ps)
    → ((x : Name) → value_of (p ∷ ps) x ≡ value_of (q ∷ qs) x) → (x : Name) → value_of ps x ≡ value_of qs x
later_values p q ps qs same rest other values x = step (bytes_eq x p.name) refl
  where
    none : value_of ps p.name ≡ value_of qs p.name
    none = no_value ps p.name other ∙ sym (no_value qs p.name (subst (AllByRecursion (λ y. y ≢ p.name)) rest other))

    step : (b : Bool) → bytes_eq x p.name ≡ b → value_of ps x ≡ value_of qs x
    step true e = subst (λ y. value_of ps y ≡ value_of qs y) (sym (bytes_eq_true x p.name e)) none
    step false e =
        let e' : bytes_eq x q.name ≡ false = ap (bytes_eq x) (sym same) ∙ e in
        let left : value_of (p ∷ ps) x ≡ value_of ps x = rw e refl in
        let right : value_of (q ∷ qs) x ≡ value_of qs x = rw e' refl in
        sym left ∙ values x ∙ right

pub same_properties : (ps qs : List Property) → names_of ps ≡ names_of qs → AreDistinct (names_of ps) → ((x : Name) → value_of ps x ≡ value_of qs x) → ps ≡ qs
same_properties [] [] e d values = refl
same_properties [] (q ∷ qs) e d values = cc
same_properties (p ∷ ps) [] e d values = cc
same_properties (p ∷ ps) (q ∷ qs) e d values =
    let name : p.name ≡ q.name = cc in
    let rest : names_of ps ≡ names_of qs = cc in
    let left : value_of (p ∷ ps) p.name ≡ Some p.value = rw (bytes_eq_refl p.name) refl in
    let right : value_of (q ∷ qs) p.name ≡ Some q.value = ap (value_of (q ∷ qs)) name ∙ rw (bytes_eq_refl q.name) refl in
    let here : ◌≡◌ {A = Option (List ℕ)} (Some p.value) (Some q.value) = sym left ∙ values p.name ∙ right in
    let value : p.value ≡ q.value = cc in
    let first : p ≡ q = λ i. record { name = name i; value = value i } in
    let others = same_properties ps qs rest d.1 (later_values p q ps qs name rest d.0 values) in
    λ i. first i ∷ others i

-- ---- forests

module _ (R : List Property → List Property → Type 0) where
  -- the forests have the same names, and properties that R relates
  abbrev pub Alike : Forest → Forest → Type 0
  Alike no_nodes no_nodes = Unit {0}
  Alike no_nodes (branch name properties children siblings) = ⊥
  Alike (branch name properties children siblings) no_nodes = ⊥
  Alike (branch x ps c s) (branch y qs d r) = (x ≡ y) × R ps qs × Alike c d × Alike s r

  -- nodes that are found at one path have the same children's names, and properties that R relates
  abbrev pub FoundAlike : Forest → Forest → Type 0
  FoundAlike fs gs = (x : Name) (p : Path) (n m : Node) → found fs x p ≡ Some n → found gs x p ≡ Some m → R n.properties m.properties × (names n.children ≡ names m.children)

  pub alike : (fs gs : Forest) → names fs ≡ names gs → AreNodes fs → AreNodes gs → AreDistinct (names fs) → AreDistinct (names gs) → FoundAlike fs gs → Alike fs gs
  alike no_nodes no_nodes e ok ok' d d' h = tt
  alike no_nodes (branch y qs c s) e ok ok' d d' h = cc
  alike (branch x ps c s) no_nodes e ok ok' d d' h = cc
  alike (branch x ps c s) (branch y qs c' s') e ok ok' d d' h =
      let name : x ≡ y = cc in
      let rest : names s ≡ names s' = cc in
      let first = h x [] (record { properties = ps; children = c }) (record { properties = qs; children = c' }) (rw (bytes_eq_refl x) refl) (rw (name, bytes_eq_refl y) refl) in (
        name,
        first.0,
        alike c c' first.1 ok.2 ok'.2 ok.3 ok'.3 (λ z p n m is is'. h x (z ∷ p) n m (rw (bytes_eq_refl x) is) (rw (name, bytes_eq_refl y) is')),
        alike s s' rest ok.4 ok'.4 d.1 d'.1 (λ z p n m is is'. h z p n m (beside x ps c s z p n d.0 is) (beside y qs c' s' z p m d'.0 is')),
      )
    where
      beside : (x : Name) (ps : List Property) (c s : Forest) (z : Name) (p : Path) (n : Node) → AllByRecursion (λ y. y ≢ x) (names s) → found s z p ≡ Some n → found (branch x ps c s) z p ≡ Some n
      beside x ps c s z p n d is = let w = found_some s z p n is in rw (other_sibling s z x w.0 d w.1) is

-- ---- paths

pub alike_paths : (path path' : Path) (fs gs : Forest) → path ≡ path' → Alike (λ ps qs. Unit {0}) fs gs
    → map (λ (n : Placed). n.path) (preorder path fs) ≡ map (λ (n : Placed). n.path) (preorder path' gs)
alike_paths path path' no_nodes no_nodes e h = refl
alike_paths path path' no_nodes (branch y qs d r) e h = absurd h
alike_paths path path' (branch x ps c s) no_nodes e h = absurd h
alike_paths path path' (branch x ps c s) (branch y qs d r) e h =
    let here : path ++ x ∷ [] ≡ path' ++ y ∷ [] = λ i. e i ++ h.0 i ∷ [] in
    let inner = alike_paths (path ++ x ∷ []) (path' ++ y ∷ []) c d here h.2 in
    let outer = alike_paths path path' s r e h.3 in
    let all : paths (preorder (path ++ x ∷ []) c ++ preorder path s) ≡ paths (preorder (path' ++ y ∷ []) d ++ preorder path' r) =
    map-append (λ (n : Placed). n.path) (preorder (path ++ x ∷ []) c) (preorder path s)
    ∙ (λ i. inner i ++ outer i)
    ∙ sym (map-append (λ (n : Placed). n.path) (preorder (path' ++ y ∷ []) d) (preorder path' r)) in
    λ i. here i ∷ all i
  where
    paths : List Placed → List Path
    paths ns = map (λ (n : Placed). n.path) ns

pub alike_same : (fs gs : Forest) → Alike (λ ps qs. ps ≡ qs) fs gs → fs ≡ gs
alike_same no_nodes no_nodes h = refl
alike_same no_nodes (branch y qs d r) h = absurd h
alike_same (branch x ps c s) no_nodes h = absurd h
alike_same (branch x ps c s) (branch y qs d r) h =
    let name : x ≡ y = h.0 in
    let properties : ps ≡ qs = h.1 in
    let children : c ≡ d = alike_same c d h.2 in
    let siblings : s ≡ r = alike_same s r h.3 in
    λ i. branch (name i) (properties i) (children i) (siblings i)
