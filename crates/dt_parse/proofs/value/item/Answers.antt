use Rattle.std.proofs.Common.{sym, ◌∙◌, ap}
use Rattle.std.proofs.lemmas.Result.{IfErr-weaker, on_ok_weaker}
use Rattle.dt_grammar.specs.Unchecked.{cell_item}
use Rattle.dt_parse.specs.Openings.{opening_of}
use Rattle.dt_parse.proofs.ReadItems.{at_cell_list, at_sized_list, item_stop, plain_read, plain_stop, bits_read, bits_stop}
use Rattle.dt_parse.proofs.value.item.Goals as goal

pub returns-in-Cells-clause-ok : goal.returns-in-Cells-clause-ok
returns-in-Cells-clause-ok c =
    let k = sym c.kind.ensures ∙ at_cell_list c.kind.result (sym c.opening_of.ensures ∙ c.in-Cells.is) in
    on_ok_weaker c.cell_list.result (λ r. (cell_item 32 r.0, plain_read _ _ (cell_item 32 r.0) k r.1, r.2)) c.cell_list.ensures.ok

pub returns-in-Cells-clause-err : goal.returns-in-Cells-clause-err
returns-in-Cells-clause-err c =
    let k = sym c.kind.ensures ∙ at_cell_list c.kind.result (sym c.opening_of.ensures ∙ c.in-Cells.is) in
    IfErr-weaker c.cell_list.result _ _ (λ stop d. plain_stop _ stop k d) c.cell_list.ensures.err

pub returns-in-SizedCells-clause-ok : goal.returns-in-SizedCells-clause-ok
returns-in-SizedCells-clause-ok c =
    let k = sym c.kind.ensures ∙ at_sized_list c.kind.result (sym c.opening_of.ensures ∙ c.in-SizedCells.is) in
    on_ok_weaker c.sized_cells.result (λ r. (r.0, bits_read _ _ _ r.0 k c.advance.ensures r.1, r.2)) c.sized_cells.ensures.ok

pub returns-in-SizedCells-clause-err : goal.returns-in-SizedCells-clause-err
returns-in-SizedCells-clause-err c =
    let k = sym c.kind.ensures ∙ at_sized_list c.kind.result (sym c.opening_of.ensures ∙ c.in-SizedCells.is) in
    IfErr-weaker c.sized_cells.result _ _ (λ stop d. bits_stop _ _ stop k c.advance.ensures d) c.sized_cells.ensures.err

pub returns-in-Nothing-clause-err : goal.returns-in-Nothing-clause-err
returns-in-Nothing-clause-err c =
    let k = ap opening_of (sym c.kind.ensures) ∙ (sym c.opening_of.ensures ∙ c.in-Nothing.is) in
    item_stop _ _ k c.stop.ensures.kind c.stop.ensures.left

pub text-requires : goal.text-requires
text-requires c = sym (c.opening_of.ensures ∙ ap opening_of c.kind.ensures) ∙ c.in-Text.is

pub byte_list-requires : goal.byte_list-requires
byte_list-requires c = sym (c.opening_of.ensures ∙ ap opening_of c.kind.ensures) ∙ c.in-Bytes.is

pub path_text-requires : goal.path_text-requires
path_text-requires c = sym (c.opening_of.ensures ∙ ap opening_of c.kind.ensures) ∙ c.in-Reference.is

pub returns-in-Text-clause-ok : goal.returns-in-Text-clause-ok
returns-in-Text-clause-ok c = c.text.ensures.ok

pub returns-in-Text-clause-err : goal.returns-in-Text-clause-err
returns-in-Text-clause-err c = c.text.ensures.err

pub returns-in-Bytes-clause-ok : goal.returns-in-Bytes-clause-ok
returns-in-Bytes-clause-ok c = c.byte_list.ensures.ok

pub returns-in-Bytes-clause-err : goal.returns-in-Bytes-clause-err
returns-in-Bytes-clause-err c = c.byte_list.ensures.err

pub returns-in-Reference-clause-ok : goal.returns-in-Reference-clause-ok
returns-in-Reference-clause-ok c = c.path_text.ensures.ok

pub returns-in-Reference-clause-err : goal.returns-in-Reference-clause-err
returns-in-Reference-clause-err c = c.path_text.ensures.err
