-- Cells listed one after another.
use Rattle.std.proofs.Common.{◌≡◌, ℕ, suc, ◌+◌, ◌<◌, List, [], ◌∷◌, ◌++◌, length, map, drop, get_or, refl, sym, ap, ◌∙◌, arith, append_assoc}
use Rattle.std.specs.List.{flat_map}
use Rattle.std.specs.Cow.{cow_slice_items}
use Rattle.std.proofs.lemmas.List.{append-nil, drop_more}
use Rattle.std.specs.Cow.{cow_slice_items}
use Rattle.dt_model.specs.Fixups.{inside_offset}
use Rattle.dt_model.specs.Meaning.{Item, byte, reference}
use Rattle.dt_model.specs.Names.{Name}
use Rattle.dt_model.specs.Named.{NodeReference}
use Rattle.dt_model.specs.Object.{references_from}
use Rattle.dt_model.specs.Tree.{Property}
use Rattle.dt_source_named_tree.specs.Said.{reference_said, pieces_said, property_said, node_said}
use Rattle.dt_source_named_tree.specs.declared.named.NamedPiece.{NamedPiece}
use Rattle.dt_source_named_tree.specs.declared.named.NamedProperty.{NamedProperty}
use Rattle.dt_source_named_tree.specs.declared.named.NamedNode.{NamedNode}
use Rattle.dt_marks.specs.Paths.{text_behind}
use Rattle.dt_marks.specs.Waiting.{with_text, with_texts, reference_text, property_texts, texts_behind}

pub texts-append : (ps : List Property) (xs ys : List (Name × List ℕ)) → with_texts ps (xs ++ ys) ≡ with_texts (with_texts ps xs) ys
texts-append ps xs ys = by xs ps
  where
    by : (xs : List (Name × List ℕ)) (ps : List Property) → with_texts ps (xs ++ ys) ≡ with_texts (with_texts ps xs) ys
    by [] ps = refl
    by (x ∷ xs) ps = by xs (with_text ps x.0 x.1)

-- ---- references behind bytes

pub behind_bytes : (k : ℕ) (bs : List ℕ) (rest : List (Item NodeReference)) → references_from k (map byte bs ++ rest) ≡ references_from (k + length bs) rest
behind_bytes k [] rest = let e : k ≡ k + 0 = omega arith in ap (λ (m : ℕ). references_from m rest) e
behind_bytes k (b ∷ bs) rest =
    let e : k + 1 + length bs ≡ k + suc (length bs) = omega arith in
    behind_bytes (k + 1) bs rest ∙ ap (λ (m : ℕ). references_from m rest) e

-- those of the pieces from an offset on
abbrev pub references_left : ℕ → List NamedPiece → List ℕ → List (ℕ × NodeReference)
references_left k pieces bytes = references_from k (pieces_said pieces ++ map byte bytes)

pub none_left : (k : ℕ) (bytes : List ℕ) → references_left k [] bytes ≡ []
none_left k bytes = ap (references_from k) (sym (append-nil (map byte bytes))) ∙ behind_bytes k bytes []

pub first_left : (k : ℕ) (pieces : List NamedPiece) (bytes : List ℕ) (i : ℕ) (p : NamedPiece) → i < length pieces → p ≡ get_or pieces i p
    → references_left k (drop i pieces) bytes ≡ (k + length (cow_slice_items p.before), reference_said p.reference) ∷ references_left (k + length (cow_slice_items p.before) + 4) (drop (i + 1) pieces) bytes
first_left k pieces bytes i p lt is =
    let rest = drop (i + 1) pieces in
    let next : drop i pieces ≡ p ∷ rest = drop_more pieces i p lt ∙ ap (λ (m : NamedPiece). m ∷ rest) (sym is) in
    ap (λ (ps : List NamedPiece). references_left k ps bytes) next
    ∙ ap (references_from k) (regrouped (map byte (cow_slice_items p.before)) (reference (reference_said p.reference)) (pieces_said rest) (map byte bytes))
    ∙ behind_bytes k (cow_slice_items p.before) (reference (reference_said p.reference) ∷ (pieces_said rest ++ map byte bytes))
  where
    regrouped : (xs : List (Item NodeReference)) (y : Item NodeReference) (ys zs : List (Item NodeReference)) → (xs ++ y ∷ ys) ++ zs ≡ xs ++ y ∷ (ys ++ zs)
    regrouped [] y ys zs = refl
    regrouped (x ∷ xs) y ys zs = ap (λ (l : List (Item NodeReference)). x ∷ l) (regrouped xs y ys zs)

-- ---- a table, turn by turn

-- one more reference is listed
pub reference_turn : (old new : List Property) (path : List ℕ) (name : Name) (k cell next : ℕ) (pieces : List NamedPiece) (bytes : List ℕ) (i : ℕ) (p : NamedPiece) (goal : List Property)
    → i < length pieces → p ≡ get_or pieces i p → cell ≡ k + length (cow_slice_items p.before) → next ≡ cell + 4
    → new ≡ with_texts old (reference_text path name (cell, reference_said p.reference))
    → with_texts old (flat_map (reference_text path name) (references_left k (drop i pieces) bytes)) ≡ goal
    → with_texts new (flat_map (reference_text path name) (references_left next (drop (i + 1) pieces) bytes)) ≡ goal
reference_turn old new path name k cell next pieces bytes i p goal lt is at later listed so_far =
    let here : ℕ × NodeReference = (k + length (cow_slice_items p.before), reference_said p.reference) in
    let left = references_left (k + length (cow_slice_items p.before) + 4) (drop (i + 1) pieces) bytes in
    let text = reference_text path name in
    let after : next ≡ k + length (cow_slice_items p.before) + 4 = omega arith in
    (λ j. with_texts (listed j) (flat_map text (references_left (after j) (drop (i + 1) pieces) bytes)))
    ∙ ap (λ (m : ℕ). with_texts (with_texts old (text (m, reference_said p.reference))) (flat_map text left)) at
    ∙ sym (texts-append old (text here) (flat_map text left))
    ∙ ap (λ (rs : List (ℕ × NodeReference)). with_texts old (flat_map text rs)) (sym (first_left k pieces bytes i p lt is))
    ∙ so_far

pub property_turn : (old new : List Property) (path : List ℕ) (properties : List NamedProperty) (i : ℕ) (p : NamedProperty) (goal : List Property) → i < length properties → p ≡ get_or properties i p
    → new ≡ with_texts old (property_texts path (property_said p))
    → with_texts old (flat_map (property_texts path) (map property_said (drop i properties))) ≡ goal
    → with_texts new (flat_map (property_texts path) (map property_said (drop (i + 1) properties))) ≡ goal
property_turn old new path properties i p goal lt is listed so_far =
    let left = drop (i + 1) properties in
    let next : drop i properties ≡ p ∷ left = drop_more properties i p lt ∙ ap (λ (m : NamedProperty). m ∷ left) (sym is) in
    let texts = property_texts path in
    ap (λ (ps : List Property). with_texts ps (flat_map texts (map property_said left))) listed
    ∙ sym (texts-append old (texts (property_said p)) (flat_map texts (map property_said left)))
    ∙ ap (λ (ps : List NamedProperty). with_texts old (flat_map texts (map property_said ps))) (sym next)
    ∙ so_far

-- the cells of a node, and those of the nodes that follow
pub texts_turn : (left rest : List NamedNode) (n : NamedNode) (name : Name) (value lengths here after path : List ℕ) (properties : List NamedProperty) (old new goal : List Property) → left ≡ n ∷ rest
    → name ≡ cow_slice_items n.name → here ≡ text_behind value lengths n.parent name ++ 0 ∷ [] → after ≡ lengths ++ length (text_behind value lengths n.parent name) ∷ []
    → path ≡ text_behind value lengths n.parent name → properties ≡ n.properties.items
    → new ≡ with_texts old (flat_map (property_texts path) (map property_said properties))
    → with_texts old (texts_behind value lengths (map node_said left)) ≡ goal
    → with_texts new (texts_behind here after (map node_said rest)) ≡ goal
texts_turn left rest n name value lengths here after path properties old new goal first named valued counted is are listed so_far =
    let text : Name → List ℕ = text_behind value lengths n.parent in
    let own : List ℕ → List (Name × List ℕ) = λ t. flat_map (property_texts t) (map property_said n.properties.items) in
    ap (λ (ps : List Property). with_texts ps (texts_behind here after (map node_said rest))) listed
    ∙ (λ i. with_texts (with_texts old (flat_map (property_texts (is i)) (map property_said (are i)))) (texts_behind (valued i) (counted i) (map node_said rest)))
    ∙ sym (texts-append old (own (text name)) (texts_behind (text name ++ 0 ∷ []) (lengths ++ length (text name) ∷ []) (map node_said rest)))
    ∙ ap (λ (x : Name). with_texts old (own (text x) ++ texts_behind (text x ++ 0 ∷ []) (lengths ++ length (text x) ∷ []) (map node_said rest))) named
    ∙ ap (λ (ns : List NamedNode). with_texts old (texts_behind value lengths (map node_said ns))) (sym first)
    ∙ so_far

-- one more offset is put
pub offset_turn : (old new : List ℕ) (k cell next : ℕ) (pieces : List NamedPiece) (bytes : List ℕ) (i : ℕ) (p : NamedPiece) (goal : List ℕ)
    → i < length pieces → p ≡ get_or pieces i p → cell ≡ k + length (cow_slice_items p.before) → next ≡ cell + 4
    → new ≡ old ++ inside_offset (cell, reference_said p.reference)
    → old ++ flat_map inside_offset (references_left k (drop i pieces) bytes) ≡ goal
    → new ++ flat_map inside_offset (references_left next (drop (i + 1) pieces) bytes) ≡ goal
offset_turn old new k cell next pieces bytes i p goal lt is at later put so_far =
    let here : ℕ × NodeReference = (k + length (cow_slice_items p.before), reference_said p.reference) in
    let left = references_left (k + length (cow_slice_items p.before) + 4) (drop (i + 1) pieces) bytes in
    let after : next ≡ k + length (cow_slice_items p.before) + 4 = omega arith in
    (λ j. put j ++ flat_map inside_offset (references_left (after j) (drop (i + 1) pieces) bytes))
    ∙ ap (λ (m : ℕ). (old ++ inside_offset (m, reference_said p.reference)) ++ flat_map inside_offset left) at
    ∙ append_assoc old (inside_offset here) (flat_map inside_offset left)
    ∙ ap (λ (rs : List (ℕ × NodeReference)). old ++ flat_map inside_offset rs) (sym (first_left k pieces bytes i p lt is))
    ∙ so_far

-- what is left of the properties
pub next_property : (properties : List NamedProperty) (i : ℕ) (p : NamedProperty) → i < length properties → p ≡ get_or properties i p → drop i properties ≡ p ∷ drop (i + 1) properties
next_property properties i p lt is = drop_more properties i p lt ∙ ap (λ (m : NamedProperty). m ∷ drop (i + 1) properties) (sym is)
