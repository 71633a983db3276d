-- Values by their pieces: one piece more.
use Rattle.std.proofs.Common.{◌≡◌, ℕ, List, [], ◌∷◌, ◌++◌, map, refl, sym, ap, ◌∙◌, append_assoc, append-nil}
use Rattle.std.specs.Cow.{cow_slice_items}
use Rattle.dt_model.specs.Meaning.{Item, byte, reference}
use Rattle.dt_model.specs.Named.{NodeReference}
use Rattle.dt_source_named_tree.specs.declared.named.NamedPiece.{NamedPiece}
use Rattle.dt_source_named_tree.specs.declared.named.NamedValue.{NamedValue}
use Rattle.dt_source_named_tree.specs.Said.{reference_said, pieces_said, value_said}

pieces_said-push : (ps : List NamedPiece) (p : NamedPiece) → pieces_said (ps ++ p ∷ []) ≡ pieces_said ps ++ (map byte (cow_slice_items p.before) ++ reference (reference_said p.reference) ∷ [])
pieces_said-push [] p = refl
pieces_said-push (q ∷ ps) p =
    ap (λ (xs : List (Item NodeReference)). map byte (cow_slice_items q.before) ++ reference (reference_said q.reference) ∷ xs) (pieces_said-push ps p)
    ∙ sym (append_assoc (map byte (cow_slice_items q.before)) (reference (reference_said q.reference) ∷ pieces_said ps) (map byte (cow_slice_items p.before) ++ reference (reference_said p.reference) ∷ []))

-- the bytes behind the last piece and a reference make a piece
pub piece_ended : (old new : NamedValue) (p : NamedPiece) → new.pieces.items ≡ old.pieces.items ++ p ∷ [] → cow_slice_items new.bytes ≡ [] → cow_slice_items p.before ≡ cow_slice_items old.bytes →
    value_said new ≡ value_said old ++ reference (reference_said p.reference) ∷ []
piece_ended old new p pieces bytes before =
    ap (λ (bs : List ℕ). pieces_said new.pieces.items ++ map byte bs) bytes
    ∙ (append-nil (pieces_said new.pieces.items)
    ∙ (ap pieces_said pieces ∙ (pieces_said-push old.pieces.items p
    ∙ (sym (append_assoc (pieces_said old.pieces.items) (map byte (cow_slice_items p.before)) (reference (reference_said p.reference) ∷ []))
    ∙ ap (λ (bs : List ℕ). (pieces_said old.pieces.items ++ map byte bs) ++ reference (reference_said p.reference) ∷ []) before))))
