use Rattle.std.proofs.Common.{refl, sym, true≢false, ◌≡◌, false, true}
use Rattle.dt_marks_read.proofs.ToldLocalFixups.{offset_told, offset_off}
use Rattle.dt_marks_read.proofs.listed_locals.Mirror.next_offset.Goals as goal

pub returns-then-not-has_cell-clause-told : goal.returns-then-not-has_cell-clause-told
returns-then-not-has_cell-clause-told c =
    let s = c.args.self.now in
    offset_off s.blob.now s.node s.property.now s.value.now s.offsets.now c.in_ok-offset.rest.now c.in_ok-offset.offset s.open_nodes s.steps c.refuse.result _ c.in_ok-offset.ensures
    (λ within. let never : false ≡ true = c.if-not-has_cell.ensures.1 within in true≢false (sym never)) c.refuse.ensures.fault c.refuse.ensures.nothing

pub returns-clause-told : goal.returns-clause-told
returns-clause-told c =
    let s = c.args.self.now in
    offset_told s.blob.now s.node s.property.now s.value.now s.offsets.now c.in_ok-offset.rest.now c.in_ok-offset.offset s.open_nodes s.steps c.in_ok-offset.ensures (c.if-not-has_cell.ensures.0 refl)
