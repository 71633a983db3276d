use Rattle.std.proofs.Common.{rules, ◌≡◌, ℕ, List, ◌++◌, length, map, sym, ap, ◌∙◌}
use Rattle.std.proofs.lemmas.List.{nil_from_length}
use Rattle.std.specs.Cow.{cow_slice_items}
use Rattle.dt_model.specs.Instance.{number_for}
use Rattle.dt_model.specs.Meaning.{byte, value_bytes}
use Rattle.dt_model.specs.Named.{NodeReference}
use Rattle.dt_source_named_tree.specs.declared.named.NamedPiece.{NamedPiece}
use Rattle.dt_source_named_tree.specs.Said.{pieces_said}
use Rattle.dt_phandle.proofs.Cells.{bytes_alone}
use Rattle.dt_phandle.proofs.numbered.value_in.Goals as goal

pub returns-then-is_empty : goal.returns-then-is_empty
returns-then-is_empty c =
    let v = c.args.value.now in
    let own = cow_slice_items v.bytes in
    let number : NodeReference → ℕ = number_for c.args.numbering.now in
    let none : length v.pieces.items ≡ 0 = search rules in
    c.as_slice.ensures.value ∙ sym (bytes_alone number own) ∙ ap (λ (ps : List NamedPiece). value_bytes number (pieces_said ps ++ map byte own)) (sym (nil_from_length v.pieces.items none))
