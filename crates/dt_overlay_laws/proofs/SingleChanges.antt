-- What one change to the node of a path does to a tree: a child added there, or a property set.
use Rattle.std.proofs.Common.{◌≡◌, ℕ, ◌+◌, ◌≤◌, Bool, true, false, ◌||◌, List, [], ◌∷◌, ◌++◌, refl, sym, ap, ◌∙◌, ◌⊎◌, inl, inr, Option, Some, None, true≢false, arith}
use Rattle.std.specs.Prelude.{is_some, option_and_then}
use Rattle.std.specs.Option.{option_or}
use Rattle.std.specs.Str.{bytes_eq}
use Rattle.dt_model.specs.Names.{Name}
use Rattle.dt_model.specs.Path.{Path, below}
use Rattle.dt_model.specs.Tree.{Property, Forest, no_nodes, branch, Reading, Node, sibling, node_below, root_of, node_at, stands_in, value_in}
use Rattle.dt_model.specs.Valid.{node_count}
use Rattle.dt_model.specs.Changes.{set_properties, with_child, changed_sibling, changed_below, with_root, changed_at, with_child_at, with_property_at}
use Rattle.dt_overlay_laws.specs.Steps.{land_properties, land_nodes}
use Rattle.dt_model.proofs.Tests.{bytes_eq_refl, or_right, or_left}
use Rattle.dt_model_laws.proofs.Lands.{below-append}
use Rattle.dt_model_laws.proofs.Merging.{IsApart, value_below}
use Rattle.dt_model_laws.proofs.Changing.{below_both, value-changed, stands-changed}

-- ---- the same tree

-- a sibling that the change leaves as it is
same_sibling : (change : Node → Node) (fs : Forest) (x : Name) → ((s : Node) → sibling fs x ≡ Some s → change s ≡ s) → changed_sibling change fs x ≡ fs
same_sibling change no_nodes x same = refl
same_sibling change (branch name properties children siblings) x same = step (same_sibling change siblings x) (bytes_eq x name) refl
  where
    step : (((s : Node) → sibling siblings x ≡ Some s → change s ≡ s) → changed_sibling change siblings x ≡ siblings) → (b : Bool) → bytes_eq x name ≡ b
        → changed_sibling change (branch name properties children siblings) x ≡ branch name properties children siblings
    step more true e = rw e (ap (λ (n : Node). branch name n.properties n.children siblings) (same (record { properties = properties; children = children }) (rw e refl)))
    step more false e = rw e (ap (branch name properties children) (more (λ s k. same s (rw e k))))

-- a change that leaves the node of the path as it is
pub unchanged : (change : Node → Node) (p : Path) (n : Node) → ((s : Node) → node_below n p ≡ Some s → change s ≡ s) → changed_below change p n ≡ n
unchanged change [] n same = same n refl
unchanged change (x ∷ p) n same =
    ap (λ fs. record { properties = n.properties; children = fs })
    (same_sibling (changed_below change p) n.children x (λ s k. unchanged change p s (λ c h. same c (ap (option_and_then (λ c. node_below c p)) k ∙ h))))

-- where the path isn't there, nothing changes
pub nothing_there : (change : Node → Node) (p : Path) (t : Reading) → stands_in t p ≡ false → changed_at change p t ≡ t
nothing_there change p t h = ap (with_root t) (unchanged change p (root_of t) (λ s k. absurd (true≢false (sym (ap is_some k) ∙ h))))

-- a child that is there isn't added
same_child : (fs : Forest) (name : Name) → is_some (sibling fs name) ≡ true → with_child fs name [] (λ nodes. nodes) ≡ fs
same_child no_nodes name h = absurd (true≢false (sym h))
same_child (branch x properties children siblings) name h = step (same_child siblings name) (bytes_eq name x) refl
  where
    step : (is_some (sibling siblings name) ≡ true → with_child siblings name [] (λ nodes. nodes) ≡ siblings) → (b : Bool) → bytes_eq name x ≡ b
        → with_child (branch x properties children siblings) name [] (λ nodes. nodes) ≡ branch x properties children siblings
    step more true e = rw e refl
    step more false e = rw e (ap (branch x properties children) (more (rw e at h)))

-- ---- how many nodes there are

abbrev pub count : Node → ℕ
count n = node_count n.children

counted_sibling : (change : Node → Node) (d : ℕ) (fs : Forest) (x : Name) (s : Node) → sibling fs x ≡ Some s → count (change s) ≡ d + count s → node_count (changed_sibling change fs x) ≡ d + node_count fs
counted_sibling change d no_nodes x s e h = absurd (let z : None ≡ Some s = e in cc)
counted_sibling change d (branch name properties children siblings) x s e h = step (λ k. counted_sibling change d siblings x s k h) (bytes_eq x name) refl
  where
    step : (sibling siblings x ≡ Some s → node_count (changed_sibling change siblings x) ≡ d + node_count siblings) → (b : Bool) → bytes_eq x name ≡ b
        → node_count (changed_sibling change (branch name properties children siblings) x) ≡ d + node_count (branch name properties children siblings)
    step more true k =
        let z : ◌≡◌ {A = Option Node} (Some (record { properties = properties; children = children })) (Some s) = rw k at e in
        let is : ◌≡◌ {A = Node} (record { properties = properties; children = children }) s = cc in
        let inner : count (change (record { properties = properties; children = children })) ≡ d + count (record { properties = properties; children = children }) = ap (λ z. count (change z)) is ∙ h ∙ ap (λ z. d + count z) (sym is) in
        rw k (omega (arith, inner))
    step more false k =
        let rest = more (rw k at e) in
        rw k (omega (arith, rest))

-- the nodes after a change that adds d of them to the node of the path
pub counted : (change : Node → Node) (d : ℕ) (p : Path) (n s : Node) → node_below n p ≡ Some s → count (change s) ≡ d + count s → count (changed_below change p n) ≡ d + count n
counted change d [] n s e h = let is : n ≡ s = cc in ap (λ z. count (change z)) is ∙ h ∙ ap (λ z. d + count z) (sym is)
counted change d (x ∷ p) n s e h = step (λ c k. counted change d p c s k h) (sibling n.children x) refl
  where
    step : ((c : Node) → node_below c p ≡ Some s → count (changed_below change p c) ≡ d + count c) → (y : Option Node) → sibling n.children x ≡ y → count (changed_below change (x ∷ p) n) ≡ d + count n
    step more None k = absurd (let z : None ≡ Some s = sym (ap (option_and_then (λ c. node_below c p)) k) ∙ e in cc)
    step more (Some c) k = counted_sibling (changed_below change p) d n.children x c k (more c (sym (ap (option_and_then (λ c. node_below c p)) k) ∙ e))

-- a child that is new is one more
one_more : (fs : Forest) (name : Name) → is_some (sibling fs name) ≡ false → node_count (with_child fs name [] (λ nodes. nodes)) ≡ 1 + node_count fs
one_more no_nodes name h = refl
one_more (branch x properties children siblings) name h = step (one_more siblings name) (bytes_eq name x) refl
  where
    step : (is_some (sibling siblings name) ≡ false → node_count (with_child siblings name [] (λ nodes. nodes)) ≡ 1 + node_count siblings) → (b : Bool) → bytes_eq name x ≡ b
        → node_count (with_child (branch x properties children siblings) name [] (λ nodes. nodes)) ≡ 1 + node_count (branch x properties children siblings)
    step more true e = absurd (true≢false (rw e at h))
    step more false e =
        let rest = more (rw e at h) in
        rw e (omega (arith, rest))

-- ---- a child added, a property set

-- a child added is a node merged that has it and nothing else
abbrev pub only_child : Name → Node
only_child name = record { properties = []; children = branch name [] no_nodes no_nodes }

abbrev pub only_property : Name → List ℕ → Node
only_property name value = record { properties = record { name = name; value = value } ∷ []; children = no_nodes }

child_apart : (name : Name) → IsApart (only_child name)
child_apart name = record { properties = tt; children = (tt, tt, tt, tt); names = (tt, tt) }

property_apart : (name : Name) (value : List ℕ) → IsApart (only_property name value)
property_apart name value = record { properties = (tt, tt); children = tt; names = tt }

pub stands-with_child : (q : Path) (name : Name) (t : Reading) → stands_in t q ≡ true → (p : Path) → stands_in (with_child_at q name t) p ≡ is_some (option_and_then (λ r. node_below (only_child name) r) (below q p)) || stands_in t p
stands-with_child q name t h p = stands-changed t q (only_child name) (child_apart name) h p

pub stands-with_property : (q : Path) (name : Name) (value : List ℕ) (t : Reading) → stands_in t q ≡ true → (p : Path)
    → stands_in (with_property_at q name value t) p ≡ is_some (option_and_then (λ r. node_below (only_property name value) r) (below q p)) || stands_in t p
stands-with_property q name value t h p = stands-changed t q (only_property name value) (property_apart name value) h p

pub value-with_child : (q : Path) (name : Name) (t : Reading) → stands_in t q ≡ true → (p : Path) (key : Name)
    → value_in (with_child_at q name t) p key ≡ option_or (option_and_then (λ r. value_below (only_child name) r key) (below q p)) (value_in t p key)
value-with_child q name t h p key = value-changed t q (only_child name) (child_apart name) h p key

pub value-with_property : (q : Path) (name : Name) (value : List ℕ) (t : Reading) → stands_in t q ≡ true → (p : Path) (key : Name)
    → value_in (with_property_at q name value t) p key ≡ option_or (option_and_then (λ r. value_below (only_property name value) r key) (below q p)) (value_in t p key)
value-with_property q name value t h p key = value-changed t q (only_property name value) (property_apart name value) h p key

-- a path stands, or doesn't
pub stands_or_not : (t : Reading) (p : Path) → (stands_in t p ≡ true) ⊎ (stands_in t p ≡ false)
stands_or_not t p = step (stands_in t p) refl
  where
    step : (b : Bool) → stands_in t p ≡ b → (stands_in t p ≡ true) ⊎ (stands_in t p ≡ false)
    step true e = inl e
    step false e = inr e

pub child_kept : (q : Path) (name : Name) (t : Reading) (p : Path) → stands_in t p ≡ true → stands_in (with_child_at q name t) p ≡ true
child_kept q name t p h = elim (stands_or_not t q) [
  | inl there ↦ stands-with_child q name t there p ∙ or_right (is_some (option_and_then (λ r. node_below (only_child name) r) (below q p))) (stands_in t p) h
  | inr not ↦ ap (λ z. stands_in z p) (nothing_there (λ n. record { properties = n.properties; children = with_child n.children name [] (λ nodes. nodes) }) q t not) ∙ h
]

pub property_kept : (q : Path) (name : Name) (value : List ℕ) (t : Reading) (p : Path) → stands_in t p ≡ true → stands_in (with_property_at q name value t) p ≡ true
property_kept q name value t p h = elim (stands_or_not t q) [
  | inl there ↦ stands-with_property q name value t there p ∙ or_right (is_some (option_and_then (λ r. node_below (only_property name value) r) (below q p))) (stands_in t p) h
  | inr not ↦ ap (λ z. stands_in z p) (nothing_there (λ n. record { properties = set_properties n.properties (record { name = name; value = value } ∷ []); children = n.children }) q t not) ∙ h
]

pub child_stands : (q : Path) (name : Name) (t : Reading) → stands_in t q ≡ true → stands_in (with_child_at q name t) (q ++ name ∷ []) ≡ true
child_stands q name t h =
    stands-with_child q name t h (q ++ name ∷ [])
    ∙ or_left (is_some (option_and_then (λ r. node_below (only_child name) r) (below q (q ++ name ∷ [])))) (stands_in t (q ++ name ∷ []))
    (ap (λ y. is_some (option_and_then (λ r. node_below (only_child name) r) y)) (below-append q (name ∷ [])) ∙ own)
  where
    own : is_some (node_below (only_child name) (name ∷ [])) ≡ true
    own = rw (bytes_eq_refl name) refl

node_there : (t : Reading) (p : Path) → stands_in t p ≡ true → (at : Node) × (node_at t p ≡ Some at)
node_there t p h = step (node_at t p) refl
  where
    step : (y : Option Node) → node_at t p ≡ y → (at : Node) × (node_at t p ≡ Some at)
    step None e = absurd (true≢false (sym (rw e at h)))
    step (Some c) e = (c, e)

-- whether a child is there
child_at : (t : Reading) (q : Path) (name : Name) (at : Node) → node_at t q ≡ Some at → stands_in t (q ++ name ∷ []) ≡ is_some (sibling at.children name)
child_at t q name at e = ap is_some (below_both q (name ∷ []) (root_of t) at e) ∙ step (sibling at.children name)
  where
    step : (y : Option Node) → is_some (option_and_then (λ c. node_below c []) y) ≡ is_some y
    step None = refl
    step (Some c) = refl

pub child_counted : (q : Path) (name : Name) (t : Reading) → stands_in t q ≡ true → stands_in t (q ++ name ∷ []) ≡ false → node_count (with_child_at q name t).children ≡ 1 + node_count t.children
child_counted q name t h new =
    let w = node_there t q h in
    counted (λ n. record { properties = n.properties; children = with_child n.children name [] (λ nodes. nodes) }) 1 q (root_of t) w.0 w.1
    (one_more w.0.children name (sym (child_at t q name w.0 w.1) ∙ new))

pub child_there : (q : Path) (name : Name) (t : Reading) → stands_in t (q ++ name ∷ []) ≡ true → with_child_at q name t ≡ t
child_there q name t h =
    ap (with_root t) (unchanged (λ n. record { properties = n.properties; children = with_child n.children name [] (λ nodes. nodes) }) q (root_of t)
    (λ s k. ap (λ fs. record { properties = s.properties; children = fs }) (same_child s.children name (sym (child_at t q name s k) ∙ h))))

pub property_counted : (q : Path) (name : Name) (value : List ℕ) (t : Reading) → node_count (with_property_at q name value t).children ≡ node_count t.children
property_counted q name value t = elim (stands_or_not t q) [
  | inl there ↦
      let w = node_there t q there in
      let e = counted (λ n. record { properties = set_properties n.properties (record { name = name; value = value } ∷ []); children = n.children }) 0 q (root_of t) w.0 w.1 (omega arith) in
      omega (arith, e)
  | inr not ↦ ap (λ z. node_count z.children) (nothing_there (λ n. record { properties = set_properties n.properties (record { name = name; value = value } ∷ []); children = n.children }) q t not)
]

-- adding a child takes no node away
pub child_counts : (q : Path) (name : Name) (t : Reading) → node_count t.children ≤ node_count (with_child_at q name t).children
child_counts q name t = elim (stands_or_not t q) [
  | inl there ↦ elim (stands_or_not t (q ++ name ∷ [])) [
    | inl old ↦ let e = ap (λ (z : Reading). node_count z.children) (child_there q name t old) in omega (arith, e)
    | inr new ↦ let e = child_counted q name t there new in omega (arith, e)
  ]
  | inr not ↦ let e = ap (λ (z : Reading). node_count z.children) (nothing_there (λ n. record { properties = n.properties; children = with_child n.children name [] (λ nodes. nodes) }) q t not) in omega (arith, e)
]

-- ---- many changes

pub properties_kept : (q : Path) (ps : List Property) (t : Reading) (p : Path) → stands_in t p ≡ true → stands_in (land_properties q ps t) p ≡ true
properties_kept q [] t p h = h
properties_kept q (x ∷ ps) t p h = properties_kept q ps (with_property_at q x.name x.value t) p (property_kept q x.name x.value t p h)

pub nodes_kept : (q : Path) (f : Forest) (t : Reading) (p : Path) → stands_in t p ≡ true → stands_in (land_nodes q f t) p ≡ true
nodes_kept q no_nodes t p h = h
nodes_kept q (branch name properties children siblings) t p h =
    let t1 = land_properties (q ++ name ∷ []) properties (with_child_at q name t) in
    nodes_kept q siblings (land_nodes (q ++ name ∷ []) children t1) p
    (nodes_kept (q ++ name ∷ []) children t1 p (properties_kept (q ++ name ∷ []) properties (with_child_at q name t) p (child_kept q name t p h)))

pub properties_counted : (q : Path) (ps : List Property) (t : Reading) → node_count (land_properties q ps t).children ≡ node_count t.children
properties_counted q [] t = refl
properties_counted q (x ∷ ps) t = properties_counted q ps (with_property_at q x.name x.value t) ∙ property_counted q x.name x.value t

pub nodes_counted : (q : Path) (f : Forest) (t : Reading) → node_count t.children ≤ node_count (land_nodes q f t).children
nodes_counted q no_nodes t = omega arith
nodes_counted q (branch name properties children siblings) t =
    let t1 = land_properties (q ++ name ∷ []) properties (with_child_at q name t) in
    let t2 = land_nodes (q ++ name ∷ []) children t1 in
    let a = child_counts q name t in
    let b = properties_counted (q ++ name ∷ []) properties (with_child_at q name t) in
    let c = nodes_counted (q ++ name ∷ []) children t1 in
    let d = nodes_counted q siblings t2 in
    omega (arith, a, b, c, d)
