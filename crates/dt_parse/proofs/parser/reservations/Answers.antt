use Rattle.std.proofs.Common.{ap, ◌++◌, ◌∷◌, [], map, arith}
use Rattle.dt_grammar.specs.Faults.{outside}
use Rattle.dt_parse.specs.Reading.{IsBroken}
use Rattle.dt_source_items.specs.Said.{reservation_said}
use Rattle.dt_grammar.specs.Wanted.{Top}
use Rattle.dt_parse.proofs.Leading.{handed_on}
use Rattle.dt_parse.proofs.ReadCells.{no_more}
use Rattle.dt_parse.proofs.ReadReserves.{none_read, top_stop, reserve_stop, another_read, statements_follow, statements_break, said_more}
use Rattle.dt_parse.proofs.parser.reservations.Goals as goal

pub reservations-init : goal.reservations-init
reservations-init c = ([], none_read c.args.cursor.now, ap (map reservation_said) c.new-list.ensures.items)

pub returns-in_err-names-clause-err : goal.returns-in_err-names-clause-err
returns-in_err-names-clause-err c =
    let i = c.reservations.invariant in
    handed_on c.from_residual.result c.in_err-names.field-0.0 (λ stop. IsBroken outside Top c.args.cursor.now stop) c.from_residual.ensures.1
    (top_stop c.args.cursor.now c.reservations.cursor i.0 _ i.1 c.in_err-names.ensures.err)

pub returns-in-Some-clause-ok : goal.returns-in-Some-clause-ok
returns-in-Some-clause-ok c =
    let i = c.reservations.invariant in
    let r = c.in_ok-names.ensures.ok in
    let named = rw c.in-Some.is at r.2 in
    (i.0, r.0, i.1.sound, (r.1 outside).fine, i.2, named.0, statements_follow _ _ c.statement_labels.new.cursor i.0 r.0 i.1 r.1 named.1, statements_break _ _ c.statement_labels.new.cursor i.0 r.0 i.1 r.1 named.1)

pub returns-in_err-next-clause-err : goal.returns-in_err-next-clause-err
returns-in_err-next-clause-err c =
    let i = c.reservations.invariant in
    let r = c.in_ok-names.ensures.ok in
    handed_on c.from_residual-in_err-next.result c.in_err-next.field-0.0 (λ stop. IsBroken outside Top c.args.cursor.now stop) c.from_residual-in_err-next.ensures.1
    (reserve_stop c.args.cursor.now c.reservations.cursor c.statement_labels.new.cursor i.0 r.0 _ i.1 r.1 c.in_err-next.ensures.err)

pub reservations-smaller : goal.reservations-smaller
reservations-smaller c =
    let r = c.in_ok-names.ensures.ok in
    let least = no_more (r.1 outside).read in
    let less = c.in_ok-next.ensures.shorter in
    omega (arith, least, less)

pub reservations-preserved : goal.reservations-preserved
reservations-preserved c =
    let i = c.reservations.invariant in
    let r = c.in_ok-names.ensures.ok in
    let q = c.in_ok-next.ensures.ok r.0 (r.1 outside).fine in (
      i.0 ++ q.reserve ∷ [],
      another_read c.args.cursor.now c.reservations.cursor c.statement_labels.new.cursor c.reservation.new.cursor i.0 r.0 _ i.1 r.1 q,
      said_more c.reservations.list.items c.push.new.self.items i.0 c.in_ok-next.next q.reserve i.2 c.in_ok-push.ensures.items q.said,
    )
