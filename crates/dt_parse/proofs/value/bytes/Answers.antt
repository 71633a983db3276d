use Rattle.std.proofs.Common.{refl, ap, sym, ◌∙◌, ◌++◌, ◌∷◌, []}
use Rattle.dt_grammar.specs.Unchecked.{label_cell, byte_cell}
use Rattle.dt_grammar.specs.Wanted.{made_cells, SomeBytes, bytes_at}
use Rattle.dt_grammar.specs.Descent.{first}
use Rattle.dt_grammar.specs.Faults.{Around}
use Rattle.dt_parse.specs.Reading.{IsBroken}
use Rattle.dt_parse.specs.Openings.{byte_opening}
use Rattle.dt_parse.proofs.Leading.{handed_on, goes_on, goes_to_end, goes_stop}
use Rattle.dt_parse.proofs.ReadCells.{byte_label, byte_byte, no_bytes_read, byte_label_goes, byte_label_stop, byte_goes, said_more, nothing_more}
use Rattle.dt_parse.proofs.value.bytes.Goals as goal

pub returns-in_err-label-in-Label-clause-err : goal.returns-in_err-label-in-Label-clause-err
returns-in_err-label-in-Label-clause-err c =
    let e = c.in_err-label-in-Label.ensures in
    let k = sym c.kind.ensures ∙ byte_label c.kind.result (sym c.byte_opening.ensures ∙ c.in-Label.is) in
    handed_on c.from_residual.result c.in_err-label-in-Label.field-0.0 (λ stop. (a : Around) → IsBroken a SomeBytes c.args.cursor.now stop) c.from_residual.ensures.1
    (goes_stop made_cells SomeBytes (λ a. a) _ _ c.bytes.invariant.0 _ c.bytes.invariant.1 (byte_label_stop _ _ k e.0 e.1 e.2))

pub bytes-preserved-in-Label : goal.bytes-preserved-in-Label
bytes-preserved-in-Label c =
    let i = c.bytes.invariant in
    let k = sym c.kind.ensures ∙ byte_label c.kind.result (sym c.byte_opening.ensures ∙ c.in-Label.is) in (
      i.0 ++ label_cell (bytes_at (first c.bytes.cursor)) ∷ [],
      goes_on made_cells SomeBytes (λ a. a) c.args.cursor.now c.bytes.cursor c.advance.new.self i.0 _ i.1 (byte_label_goes _ _ k c.in_ok-label-in-Label.ensures.0 c.advance.ensures),
      said_more 8 c.args.items.now i.0 (label_cell (bytes_at (first c.bytes.cursor))) c.bytes.items c.bytes.items [] i.2 (nothing_more _) refl,
    )

pub bytes-preserved : goal.bytes-preserved
bytes-preserved c =
    let i = c.bytes.invariant in
    let k = sym c.kind.ensures ∙ byte_byte _ c.kind.result (sym c.byte_opening.ensures ∙ c.in-Byte.is) in (
      i.0 ++ byte_cell c.in-Byte.byte ∷ [],
      goes_on made_cells SomeBytes (λ a. a) c.args.cursor.now c.bytes.cursor c.advance-in-Byte.new.self i.0 _ i.1 (byte_goes c.in-Byte.byte _ _ k c.advance-in-Byte.ensures),
      said_more 8 c.args.items.now i.0 (byte_cell c.in-Byte.byte) c.bytes.items c.push_byte.new.self _ i.2 c.in_ok-push_byte-in-Byte.ensures refl,
    )

pub returns-in-Nothing-clause-ok : goal.returns-in-Nothing-clause-ok
returns-in-Nothing-clause-ok c =
    let i = c.bytes.invariant in
    (i.0, goes_to_end made_cells SomeBytes (λ a. a) c.args.cursor.now c.bytes.cursor i.0 c.bytes.cursor i.1 (no_bytes_read _ (sym (c.byte_opening.ensures ∙ ap byte_opening c.kind.ensures) ∙ c.in-Nothing.is)), i.2)
