-- The properties and nodes of a mirror have names, which differ.
use Rattle.std.proofs.Common.{◌≡◌, ◌≢◌, ℕ, suc, Bool, true, false, cond, List, [], ◌∷◌, ◌++◌, map, Some, IsSome, refl, sym, subst, ◌∙◌, codes}
use Rattle.std.specs.List.{AllByRecursion, flat_map}
use Rattle.std.specs.Str.{bytes_eq}
use Rattle.std.proofs.lemmas.Slice.Eq.{bytes_eq-Decides}
use Rattle.dt_model.specs.Fixups.{inside_offset, offsets_as, local_properties, mirror, unless_empty}
use Rattle.dt_model.specs.Meaning.{Item, byte, reference}
use Rattle.dt_model.specs.Names.{Name, IsNodeName, IsPropertyName}
use Rattle.dt_model.specs.Named as named
use Rattle.dt_model.specs.Named.{NodeReference, NamedProperty, NamedForest, value_of, number_of}
use Rattle.dt_model.specs.NamedOf.{IsContent, AreNamedNodes}
use Rattle.dt_model.specs.Object.{references_from}
use Rattle.dt_model.specs.Tree.{Property, Forest, no_nodes, branch}
use Rattle.dt_model.specs.Valid.{AreDistinct, AreProperties, AreNodes, names}
use Rattle.dt_marks.specs.Cells.{cells_of}
use Rattle.dt_marks.specs.Mirrored.{IsNoPhandle}

-- ---- properties

-- a value that writes a number has no references
no_reference : (v : List (Item NodeReference)) → IsSome (number_of v) → flat_map inside_offset (references_from 0 v) ≡ []
no_reference [] h = refl
no_reference (reference r ∷ v) h = absurd cc
no_reference (byte a ∷ []) h = refl
no_reference (byte a ∷ reference r ∷ v) h = absurd cc
no_reference (byte a ∷ byte b ∷ []) h = refl
no_reference (byte a ∷ byte b ∷ reference r ∷ v) h = absurd cc
no_reference (byte a ∷ byte b ∷ byte c ∷ []) h = refl
no_reference (byte a ∷ byte b ∷ byte c ∷ reference r ∷ v) h = absurd cc
no_reference (byte a ∷ byte b ∷ byte c ∷ byte d ∷ []) h = refl
no_reference (byte a ∷ byte b ∷ byte c ∷ byte d ∷ x ∷ v) h = absurd cc

-- the offsets in front of others
plain_offsets : (name : Name) (offsets : List ℕ) (others : List Property) → IsPropertyName name → name ≢ codes "phandle" → AllByRecursion IsNoPhandle others → AllByRecursion IsNoPhandle (offsets_as name offsets ++ others)
plain_offsets name [] others named plain h = h
plain_offsets name (b ∷ bs) others named plain h = (record { named = named; plain = plain }, h)

plain_others : (ps : List (NamedProperty NodeReference)) → AllByRecursion (λ (p : NamedProperty NodeReference). IsPropertyName p.name) ps
    → AllByRecursion (λ y. y ≢ codes "phandle") (map (λ (p : NamedProperty NodeReference). p.name) ps) → AllByRecursion IsNoPhandle (cells_of ps)
plain_others [] named d = tt
plain_others (p ∷ ps) named d = plain_offsets p.name (flat_map inside_offset (references_from 0 p.value)) (cells_of ps) named.0 d.0 (plain_others ps named.1 d.1)

plain_cells : (ps : List (NamedProperty NodeReference)) → AllByRecursion (λ (p : NamedProperty NodeReference). IsPropertyName p.name) ps → AreDistinct (map (λ (p : NamedProperty NodeReference). p.name) ps)
    → ((value : List (Item NodeReference)) → value_of ps (codes "phandle") ≡ Some value → IsSome (number_of value)) → AllByRecursion IsNoPhandle (cells_of ps)
plain_cells [] named d h = tt
plain_cells (p ∷ ps) named d h = by (bytes_eq (codes "phandle") p.name) refl h (plain_cells ps named.1 d.1)
  where
    moved : (x : Name) (ys : List Name) → x ≡ p.name → AllByRecursion (λ y. y ≢ p.name) ys → AllByRecursion (λ y. y ≢ x) ys
    moved x [] e a = tt
    moved x (y ∷ ys) e a = ((λ f. a.0 (f ∙ e)), moved x ys e a.1)

    by : (b : Bool) → bytes_eq (codes "phandle") p.name ≡ b → ((value : List (Item NodeReference)) → cond b (Some p.value) (value_of ps (codes "phandle")) ≡ Some value → IsSome (number_of value))
        → (((value : List (Item NodeReference)) → value_of ps (codes "phandle") ≡ Some value → IsSome (number_of value)) → AllByRecursion IsNoPhandle (cells_of ps))
        → AllByRecursion IsNoPhandle (cells_of (p ∷ ps))
    by true e h rest =
        let same = (bytes_eq-Decides (codes "phandle") p.name).0 e in
        subst (λ (offsets : List ℕ). AllByRecursion IsNoPhandle (offsets_as p.name offsets ++ cells_of ps)) (sym (no_reference p.value (h p.value refl)))
        (plain_others ps named.1 (moved (codes "phandle") (map (λ (q : NamedProperty NodeReference). q.name) ps) same d.0))
    by false e h rest =
        let other : p.name ≢ codes "phandle" = λ f. let t : bytes_eq (codes "phandle") p.name ≡ true = (bytes_eq-Decides (codes "phandle") p.name).1 (sym f) in absurd cc in
        plain_offsets p.name (flat_map inside_offset (references_from 0 p.value)) (cells_of ps) named.0 other (rest h)

pub plain_local : (n : ℕ) (c : named.Content NodeReference) → IsContent n c → AllByRecursion IsNoPhandle (local_properties c)
plain_local n c h = plain_cells c.properties h.named h.distinct h.numbered

-- ---- they differ

differ_offsets : (x name : Name) (offsets : List ℕ) (others : List Property) → name ≢ x → AllByRecursion (λ y. y ≢ x) (map (λ (p : Property). p.name) others)
    → AllByRecursion (λ y. y ≢ x) (map (λ (p : Property). p.name) (offsets_as name offsets ++ others))
differ_offsets x name [] others d h = h
differ_offsets x name (b ∷ bs) others d h = (d, h)

differ_cells : (x : Name) (ps : List (NamedProperty NodeReference)) → AllByRecursion (λ y. y ≢ x) (map (λ (p : NamedProperty NodeReference). p.name) ps)
    → AllByRecursion (λ y. y ≢ x) (map (λ (p : Property). p.name) (cells_of ps))
differ_cells x [] h = tt
differ_cells x (p ∷ ps) h = differ_offsets x p.name (flat_map inside_offset (references_from 0 p.value)) (cells_of ps) h.0 (differ_cells x ps h.1)

distinct_offsets : (name : Name) (offsets : List ℕ) (others : List Property) → AllByRecursion (λ y. y ≢ name) (map (λ (p : Property). p.name) others) → AreDistinct (map (λ (p : Property). p.name) others)
    → AreDistinct (map (λ (p : Property). p.name) (offsets_as name offsets ++ others))
distinct_offsets name [] others d h = h
distinct_offsets name (b ∷ bs) others d h = (d, h)

distinct_cells : (ps : List (NamedProperty NodeReference)) → AreDistinct (map (λ (p : NamedProperty NodeReference). p.name) ps) → AreDistinct (map (λ (p : Property). p.name) (cells_of ps))
distinct_cells [] h = tt
distinct_cells (p ∷ ps) h = distinct_offsets p.name (flat_map inside_offset (references_from 0 p.value)) (cells_of ps) (differ_cells p.name ps h.0) (distinct_cells ps h.1)

all_named : (xs : List Property) → AllByRecursion IsNoPhandle xs → AllByRecursion (λ (p : Property). IsPropertyName p.name) xs
all_named [] h = tt
all_named (x ∷ xs) h = (h.0.named, all_named xs h.1)

pub are_properties : (n : ℕ) (c : named.Content NodeReference) → IsContent n c → AreProperties (local_properties c)
are_properties n c h = record { named = all_named (local_properties c) (plain_local n c h); distinct = distinct_cells c.properties h.distinct }

-- ---- nodes

differ_nodes : (x name : Name) (ps : List Property) (children siblings : Forest) → name ≢ x → AllByRecursion (λ y. y ≢ x) (names siblings) → AllByRecursion (λ y. y ≢ x) (names (unless_empty name ps children siblings))
differ_nodes x name [] no_nodes siblings d h = h
differ_nodes x name [] (branch y qs cs os) siblings d h = (d, h)
differ_nodes x name (p ∷ ps) children siblings d h = (d, h)

differ_mirror : (x : Name) (f : NamedForest NodeReference) → AllByRecursion (λ y. y ≢ x) (named.names f) → AllByRecursion (λ y. y ≢ x) (names (mirror f))
differ_mirror x named.no_nodes h = tt
differ_mirror x (named.branch name content children siblings) h = differ_nodes x name (local_properties content) (mirror children) (mirror siblings) h.0 (differ_mirror x siblings h.1)

distinct_nodes : (name : Name) (ps : List Property) (children siblings : Forest) → AllByRecursion (λ y. y ≢ name) (names siblings) → AreDistinct (names siblings) → AreDistinct (names (unless_empty name ps children siblings))
distinct_nodes name [] no_nodes siblings d h = h
distinct_nodes name [] (branch y qs cs os) siblings d h = (d, h)
distinct_nodes name (p ∷ ps) children siblings d h = (d, h)

pub distinct_mirror : (f : NamedForest NodeReference) → AreDistinct (named.names f) → AreDistinct (names (mirror f))
distinct_mirror named.no_nodes h = tt
distinct_mirror (named.branch name content children siblings) h =
    distinct_nodes name (local_properties content) (mirror children) (mirror siblings) (differ_mirror name siblings h.0) (distinct_mirror siblings h.1)

pub are_nodes_unless : (name : Name) (ps : List Property) (children siblings : Forest) → IsNodeName name → AreProperties ps → AreNodes children → AreDistinct (names children) → AreNodes siblings
    → AreNodes (unless_empty name ps children siblings)
are_nodes_unless name [] no_nodes siblings a b c d e = e
are_nodes_unless name [] (branch y qs cs os) siblings a b c d e = (a, b, c, d, e)
are_nodes_unless name (p ∷ ps) children siblings a b c d e = (a, b, c, d, e)

pub are_nodes_mirror : (n depth : ℕ) (f : NamedForest NodeReference) → AreNamedNodes n depth f → AreNodes (mirror f)
are_nodes_mirror n depth named.no_nodes h = tt
are_nodes_mirror n depth (named.branch name content children siblings) h =
    are_nodes_unless name (local_properties content) (mirror children) (mirror siblings) h.0 (are_properties n content h.1) (are_nodes_mirror n (suc depth) children h.4)
    (distinct_mirror children h.3) (are_nodes_mirror n depth siblings h.5)
