-- Which nodes of a list are needed, found from its end.
use Rattle.std.proofs.Common.{◌≡◌, ℕ, zero, suc, ◌+◌, ◌<◌, Bool, ◌||◌, ◌&&◌, List, [], ◌∷◌, ◌++◌, length, map, drop, get_or, refl, sym, ap, ◌∙◌, arith}
use Rattle.std.specs.Prelude.{nat_eq}
use Rattle.std.specs.List.{flat_map, list_any}
use Rattle.std.proofs.lemmas.List.{drop_more}
use Rattle.std.specs.Cow.{cow_slice_items}
use Rattle.dt_model.specs.Fixups.{inside_offset, offsets_as, local_properties}
use Rattle.dt_model.specs.Names.{Name}
use Rattle.dt_model.specs.Named.{NodeReference}
use Rattle.dt_model.specs.Object.{references_from}
use Rattle.dt_model.specs.Overlay.{inside, outside}
use Rattle.dt_source_named_tree.specs.Said.{reference_said, value_said, property_said, node_said}
use Rattle.dt_source_named_tree.specs.declared.named.NamedPiece.{NamedPiece}
use Rattle.dt_source_named_tree.specs.declared.named.NamedProperty.{NamedProperty}
use Rattle.dt_source_named_tree.specs.declared.named.NamedNode.{NamedNode}
use Rattle.dt_marks.specs.Cells.{is_inside, has_cells, cells_of}
use Rattle.dt_marks.specs.Mirrored.{has_some, marked_at, needed_by}
use Rattle.dt_marks.specs.Paths.{MayFollow}
use Rattle.dt_marks.proofs.Listing.{references_left, none_left, first_left}

-- ---- whether a node holds cells

some_of_both : {X : Type 0} (xs ys : List X) → has_some (xs ++ ys) ≡ (has_some xs || has_some ys)
some_of_both [] ys = refl
some_of_both (x ∷ xs) ys = refl

some_offset : (k : ℕ) (r : NodeReference) → has_some (inside_offset (k, r)) ≡ is_inside r
some_offset k (inside j) = refl
some_offset k (outside l) = refl

some_offsets : (ps : List NamedPiece) (bytes : List ℕ) (k : ℕ) → list_any (λ (p : NamedPiece). is_inside (reference_said p.reference)) ps ≡ has_some (flat_map inside_offset (references_left k ps bytes))
some_offsets [] bytes k = ap (λ (rs : List (ℕ × NodeReference)). has_some (flat_map inside_offset rs)) (sym (none_left k bytes))
some_offsets (p ∷ ps) bytes k =
    let at = k + length (cow_slice_items p.before) in
    (λ i. sym (some_offset at (reference_said p.reference)) i || some_offsets ps bytes (at + 4) i)
    ∙ sym (some_of_both (inside_offset (at, reference_said p.reference)) (flat_map inside_offset (references_left (at + 4) ps bytes)))
    ∙ ap (λ (rs : List (ℕ × NodeReference)). has_some (flat_map inside_offset rs)) (sym (first_left k (p ∷ ps) bytes 0 p (omega arith) refl))

some_property : (name : Name) (offsets : List ℕ) → has_some (offsets_as name offsets) ≡ has_some offsets
some_property name [] = refl
some_property name (b ∷ bs) = refl

some_cells : (ps : List NamedProperty) → has_cells ps ≡ has_some (cells_of (map property_said ps))
some_cells [] = refl
some_cells (p ∷ ps) =
    let offsets = flat_map inside_offset (references_from 0 (value_said p.value)) in
    (λ i. (some_offsets p.value.pieces.items (cow_slice_items p.value.bytes) 0 ∙ sym (some_property p.name.now offsets)) i || some_cells ps i)
    ∙ sym (some_of_both (offsets_as p.name.now offsets) (cells_of (map property_said ps)))

pub holds_local : (n : NamedNode) → has_cells n.properties.items ≡ has_some (local_properties (node_said n).content)
holds_local n = some_cells n.properties.items

-- ---- one node

-- each node stands behind its parent
pub parent_before : (k : ℕ) (ns : List NamedNode) (i : ℕ) (n : NamedNode) → i < length ns → n ≡ get_or ns i n → MayFollow k (map node_said ns) → n.parent < k + i
parent_before k [] i n lt is h = absurd (omega arith)
parent_before k (m ∷ ns) zero n lt is h = let same = ap (λ (x : NamedNode). x.parent) is in omega (arith, h.0, same)
parent_before k (m ∷ ns) (suc i) n lt is h = let rest = parent_before (suc k) ns i n (omega arith) is h.2 in omega (arith, rest)

pub mark_turn : (others : List NamedNode) (i next : ℕ) (n : NamedNode) (old new : List Bool) (holds : Bool) → i < length others → next ≡ suc i → n ≡ get_or others i n
    → holds ≡ has_cells n.properties.items
    → ((j : ℕ) → marked_at old j ≡ needed_by (1 + next) (map node_said (drop next others)) j)
    → ((j : ℕ) → marked_at new j ≡ (marked_at old j || ((nat_eq n.parent j || nat_eq (1 + i) j) && (holds || marked_at old (1 + i)))))
    → (j : ℕ) → marked_at new j ≡ needed_by (1 + i) (map node_said (drop i others)) j
mark_turn others i next n old new holds lt after is held before step j =
    let rest = drop (i + 1) others in
    let left : drop i others ≡ n ∷ rest = drop_more others i n lt ∙ ap (λ (m : NamedNode). m ∷ rest) (sym is) in
    let further : next ≡ i + 1 = omega arith in
    let there : (q : ℕ) → marked_at old q ≡ needed_by (suc (1 + i)) (map node_said rest) q =
    λ q. before q ∙ ap (λ (m : ℕ). needed_by (1 + m) (map node_said (drop m others)) q) further ∙ (let e : 1 + (i + 1) ≡ suc (1 + i) = omega arith in ap (λ (m : ℕ). needed_by m (map node_said rest) q) e) in
    step j
    ∙ (λ t. there j t || ((nat_eq n.parent j || nat_eq (1 + i) j) && ((held ∙ holds_local n) t || there (1 + i) t)))
    ∙ ap (λ (ns : List NamedNode). needed_by (1 + i) (map node_said ns) j) (sym left)
