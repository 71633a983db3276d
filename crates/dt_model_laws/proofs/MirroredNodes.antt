-- The nodes of `__local_fixups__` are nodes of the tree, with some of their properties, and a blob may hold them.
use Rattle.std.proofs.Common.{◌≡◌, ◌≢◌, ℕ, suc, ◌%◌, Bool, true, false, List, [], ◌∷◌, ◌++◌, length, map, codes, refl, sym, ap, subst, ◌∙◌, inl, inr, Option, Some, None, is_some, true≢false}
use Rattle.std.specs.Prelude.{option_and_then}
use Rattle.std.specs.List.{AllByRecursion, flat_map}
use Rattle.std.specs.Str.{bytes_eq}
use Rattle.dt_model.specs.Names.{Name, IsPropertyName}
use Rattle.dt_model.specs.Path.{Path}
use Rattle.dt_model.specs.Lists.{IsIn}
use Rattle.dt_model.specs.Object.{references_from}
use Rattle.dt_model.specs.Fixups.{inside_offset, offsets_as, local_properties, mirror}
use Rattle.dt_model.specs.Tree as tree
use Rattle.dt_model.specs.Tree.{Property, Node}
use Rattle.dt_model.specs.Valid as valid
use Rattle.dt_model.specs.Valid.{AreDistinct, AreProperties, AreNodes, phandles}
use Rattle.dt_model.specs.Named.{NodeReference, NamedProperty, Content, NamedForest, no_nodes, branch, NamedNode, NamedPlaced, sibling, node_below, value_of, names, preorder}
use Rattle.dt_model.specs.NamedOf.{IsContent, AreNamedNodes}
use Rattle.dt_model.proofs.Tests.{bytes_eq_refl, bytes_eq_true, each_in, in_left, in_right}
use Rattle.dt_model.proofs.Flat.{from_flat}
use Rattle.dt_model_laws.proofs.NamedListed.{AreApart, IsSibling, found_sibling}
use Rattle.dt_model_laws.proofs.NamedValues.{property_names}
use Rattle.dt_model_laws.proofs.MirroredCells.{four_each}
use Rattle.dt_model_laws.proofs.NodesUnlessEmpty.{node_of, found_either, nodes_unless_empty, each_name, distinct_unless_empty, phandles_unless_empty}

-- a node of the tree as it is mirrored
abbrev pub mirrored : NamedNode NodeReference → Node
mirrored c = node_of (local_properties c.content) (mirror c.children)

-- ---- nodes

sibling_name : (f : NamedForest NodeReference) (x : Name) (c : NamedNode NodeReference) → IsSibling x c f → IsIn x (names f)
sibling_name no_nodes x c i = absurd i
sibling_name (branch name content children siblings) x c (inl here) = inl here.0
sibling_name (branch name content children siblings) x c (inr i) = inr (sibling_name siblings x c i)

sibling_mirrored : (f : NamedForest NodeReference) (x : Name) (m : Node) → AreDistinct (names f) → tree.sibling (mirror f) x ≡ Some m
    → (c : NamedNode NodeReference) × (sibling f x ≡ Some c) × (m ≡ mirrored c)
sibling_mirrored no_nodes x m d e = absurd (let z : None ≡ Some m = e in cc)
sibling_mirrored (branch name content children siblings) x m d e =
    elim (found_either name (local_properties content) (mirror children) (mirror siblings) x m e) [
      | inl here ↦ (record { content = content; children = children }, rw here.0 refl, here.1)
      | inr later ↦ beside (sibling_mirrored siblings x m d.1 later)
    ]
  where
    beside : (c : NamedNode NodeReference) × (sibling siblings x ≡ Some c) × (m ≡ mirrored c)
        → (c : NamedNode NodeReference) × (sibling (branch name content children siblings) x ≡ Some c) × (m ≡ mirrored c)
    beside w = step (bytes_eq x name) refl
      where
        step : (b : Bool) → bytes_eq x name ≡ b → (c : NamedNode NodeReference) × (sibling (branch name content children siblings) x ≡ Some c) × (m ≡ mirrored c)
        step true k =
            let i = sibling_name siblings x w.0 (found_sibling siblings x w.0 w.1) in
            absurd (each_in (λ y. y ≢ name) (names siblings) x d.0 i (bytes_eq_true x name k))
        step false k = (w.0, rw k w.1, w.2)

apart_below : (f : NamedForest NodeReference) (x : Name) (c : NamedNode NodeReference) → AreApart f → IsSibling x c f → AreDistinct (names c.children) × AreApart c.children
apart_below no_nodes x c apart i = absurd i
apart_below (branch name content children siblings) x c apart (inl here) = subst (λ (n : NamedNode NodeReference). AreDistinct (names n.children) × AreApart n.children) (sym here.1) (apart.0, apart.1)
apart_below (branch name content children siblings) x c apart (inr i) = apart_below siblings x c apart.2 i

-- a node of the mirror is one of the tree
pub below_mirrored : (n : NamedNode NodeReference) (p : Path) (m : Node) → AreDistinct (names n.children) → AreApart n.children → tree.node_below (mirrored n) p ≡ Some m
    → (c : NamedNode NodeReference) × (node_below n p ≡ Some c) × (m ≡ mirrored c)
below_mirrored n [] m d apart e = let same : mirrored n ≡ m = cc in (n, refl, sym same)
below_mirrored n (x ∷ p) m d apart e = step (λ c h k. below_mirrored c p m h.0 h.1 k) (tree.sibling (mirror n.children) x) refl
  where
    step : ((c : NamedNode NodeReference) → AreDistinct (names c.children) × AreApart c.children → tree.node_below (mirrored c) p ≡ Some m → (b : NamedNode NodeReference) × (node_below c p ≡ Some b) × (m ≡ mirrored b))
        → (o : Option Node) → tree.sibling (mirror n.children) x ≡ o → (c : NamedNode NodeReference) × (node_below n (x ∷ p) ≡ Some c) × (m ≡ mirrored c)
    step more None k = absurd (let z : None ≡ Some m = rw k at e in cc)
    step more (Some s) k =
        let w = sibling_mirrored n.children x s d k in
        let below : tree.node_below s p ≡ Some m = rw k at e in
        let v = more w.0 (apart_below n.children x w.0 apart (found_sibling n.children x w.0 w.1)) (ap (λ y. tree.node_below y p) (sym w.2) ∙ below) in
        (v.0, ap (option_and_then (λ y. node_below y p)) w.1 ∙ v.1, v.2)

-- ---- properties

value_in_list : (ps : List Property) (x : Name) (v : List ℕ) → tree.value_of ps x ≡ Some v → (p : Property) × IsIn p ps × (x ≡ p.name) × (v ≡ p.value)
value_in_list [] x v e = absurd (let z : None ≡ Some v = e in cc)
value_in_list (p ∷ ps) x v e = step (value_in_list ps x v) (bytes_eq x p.name) refl
  where
    step : (tree.value_of ps x ≡ Some v → (q : Property) × IsIn q ps × (x ≡ q.name) × (v ≡ q.value)) → (b : Bool) → bytes_eq x p.name ≡ b → (q : Property) × IsIn q (p ∷ ps) × (x ≡ q.name) × (v ≡ q.value)
    step more true k = let z : Some p.value ≡ Some v = rw k at e in (p, inl refl, bytes_eq_true x p.name k, cc)
    step more false k = let w = more (rw k at e) in (w.0, inr w.1, w.2, w.3)

has_value : (ps : List (NamedProperty NodeReference)) (p : NamedProperty NodeReference) → IsIn p ps → is_some (value_of ps p.name) ≡ true
has_value [] p i = absurd i
has_value (q ∷ ps) p (inl same) = ap (λ (z : NamedProperty NodeReference). is_some (value_of (q ∷ ps) z.name)) same ∙ rw (bytes_eq_refl q.name) refl
has_value (q ∷ ps) p (inr i) = step (has_value ps p i) (bytes_eq p.name q.name) refl
  where
    step : is_some (value_of ps p.name) ≡ true → (b : Bool) → bytes_eq p.name q.name ≡ b → is_some (value_of (q ∷ ps) p.name) ≡ true
    step more true k = rw k refl
    step more false k = rw k more

offsets_of : NamedProperty NodeReference → List ℕ
offsets_of p = flat_map inside_offset (references_from 0 p.value)

as_offsets : (name : Name) (bytes : List ℕ) (p : Property) → IsIn p (offsets_as name bytes) → (p.name ≡ name) × (p.value ≡ bytes)
as_offsets name [] p i = absurd i
as_offsets name (b ∷ bytes) p (inl same) = (ap (λ (q : Property). q.name) same, ap (λ (q : Property). q.value) same)
as_offsets name (b ∷ bytes) p (inr i) = absurd i

-- a property of the mirror is one of the node's, and holds 32-bit numbers
pub local_value : (c : Content NodeReference) (x : Name) (v : List ℕ) → tree.value_of (local_properties c) x ≡ Some v → (is_some (value_of c.properties x) ≡ true) × (length v % 4 ≡ 0)
unfolding offsets_of
local_value c x v e =
    let w = value_in_list (local_properties c) x v e in
    let p = from_flat (λ (p : NamedProperty NodeReference). offsets_as p.name (offsets_of p)) c.properties w.0 w.1 in
    let same = as_offsets p.0.name (offsets_of p.0) w.0 p.2 in
    (ap (λ y. is_some (value_of c.properties y)) (w.2 ∙ same.0) ∙ has_value c.properties p.0 p.1, ap (λ y. length y % 4) (w.3 ∙ same.1) ∙ four_each (references_from 0 p.0.value))

-- ---- a blob may hold them

each_local : (P : Name → Type 0) (ps : List (NamedProperty NodeReference)) → AllByRecursion P (property_names ps)
    → AllByRecursion P (map (λ (p : Property). p.name) (flat_map (λ (p : NamedProperty NodeReference). offsets_as p.name (flat_map inside_offset (references_from 0 p.value))) ps))
each_local P [] h = tt
each_local P (p ∷ ps) h = step (flat_map inside_offset (references_from 0 p.value)) (each_local P ps h.1)
  where
    rest : List Property
    rest = flat_map (λ (p : NamedProperty NodeReference). offsets_as p.name (flat_map inside_offset (references_from 0 p.value))) ps

    step : (bytes : List ℕ) → AllByRecursion P (map (λ (p : Property). p.name) rest) → AllByRecursion P (map (λ (p : Property). p.name) (offsets_as p.name bytes ++ rest))
    step [] more = more
    step (b ∷ bytes) more = (h.0, more)

distinct_local : (ps : List (NamedProperty NodeReference)) → AreDistinct (property_names ps)
    → AreDistinct (map (λ (p : Property). p.name) (flat_map (λ (p : NamedProperty NodeReference). offsets_as p.name (flat_map inside_offset (references_from 0 p.value))) ps))
distinct_local [] d = tt
distinct_local (p ∷ ps) d = step (flat_map inside_offset (references_from 0 p.value)) (each_local (λ y. y ≢ p.name) ps d.0) (distinct_local ps d.1)
  where
    rest : List Property
    rest = flat_map (λ (p : NamedProperty NodeReference). offsets_as p.name (flat_map inside_offset (references_from 0 p.value))) ps

    step : (bytes : List ℕ) → AllByRecursion (λ y. y ≢ p.name) (map (λ (p : Property). p.name) rest) → AreDistinct (map (λ (p : Property). p.name) rest)
        → AreDistinct (map (λ (p : Property). p.name) (offsets_as p.name bytes ++ rest))
    step [] none more = more
    step (b ∷ bytes) none more = (none, more)

all_named : (P : Name → Type 0) (ps : List Property) → AllByRecursion P (map (λ (p : Property). p.name) ps) → AllByRecursion (λ (p : Property). P p.name) ps
all_named P [] h = tt
all_named P (p ∷ ps) h = (h.0, all_named P ps h.1)

named_all : (P : Name → Type 0) (ps : List (NamedProperty NodeReference)) → AllByRecursion (λ (p : NamedProperty NodeReference). P p.name) ps → AllByRecursion P (property_names ps)
named_all P [] h = tt
named_all P (p ∷ ps) h = (h.0, named_all P ps h.1)

pub local_are : (nodes : ℕ) (c : Content NodeReference) → IsContent nodes c → AreProperties (local_properties c)
local_are nodes c h = record {
  named = all_named IsPropertyName (local_properties c) (each_local IsPropertyName c.properties (named_all IsPropertyName c.properties h.named));
  distinct = distinct_local c.properties h.distinct;
}

each_mirrored : (P : Name → Type 0) (f : NamedForest NodeReference) → AllByRecursion P (names f) → AllByRecursion P (valid.names (mirror f))
each_mirrored P no_nodes h = tt
each_mirrored P (branch name content children siblings) h = each_name P name (local_properties content) (mirror children) (mirror siblings) h.0 (each_mirrored P siblings h.1)

pub mirror_distinct : (f : NamedForest NodeReference) → AreDistinct (names f) → AreDistinct (valid.names (mirror f))
mirror_distinct no_nodes d = tt
mirror_distinct (branch name content children siblings) d =
    distinct_unless_empty name (local_properties content) (mirror children) (mirror siblings) (each_mirrored (λ y. y ≢ name) siblings d.0) (mirror_distinct siblings d.1)

pub mirror_nodes : (nodes depth : ℕ) (f : NamedForest NodeReference) → AreNamedNodes nodes depth f → AreNodes (mirror f)
mirror_nodes nodes depth no_nodes h = tt
mirror_nodes nodes depth (branch name content children siblings) h =
    nodes_unless_empty name (local_properties content) (mirror children) (mirror siblings) h.0 (local_are nodes content h.1) (mirror_nodes nodes (suc depth) children h.4)
    (mirror_distinct children h.3) (mirror_nodes nodes depth siblings h.5)

-- a node without a phandle has none where it is mirrored
pub no_local_phandle : (c : Content NodeReference) → value_of c.properties (codes "phandle") ≡ None → tree.value_of (local_properties c) (codes "phandle") ≡ None
no_local_phandle c none = step (tree.value_of (local_properties c) (codes "phandle")) refl
  where
    step : (o : Option (List ℕ)) → tree.value_of (local_properties c) (codes "phandle") ≡ o → o ≡ None
    step None e = refl
    step (Some v) e = absurd (true≢false (sym (local_value c (codes "phandle") v e).0 ∙ ap is_some none))

pub mirror_phandles : (path : Path) (f : NamedForest NodeReference) → ((n : NamedPlaced NodeReference) → IsIn n (preorder path f) → value_of n.content.properties (codes "phandle") ≡ None) → phandles (mirror f) ≡ []
mirror_phandles path no_nodes none = refl
mirror_phandles path (branch name content children siblings) none =
    let at : Path = path ++ name ∷ [] in
    phandles_unless_empty name (local_properties content) (mirror children) (mirror siblings) (no_local_phandle content (none (record { path = at; content = content }) (inl refl)))
    (mirror_phandles at children (λ n i. none n (inr (in_left n (preorder at children) (preorder path siblings) i))))
    (mirror_phandles path siblings (λ n i. none n (inr (in_right n (preorder at children) (preorder path siblings) i))))
