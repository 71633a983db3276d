use Rattle.std.proofs.Common.{Some, sym, ap, subst, ◌∙◌, arith}
use Rattle.dt_read.specs.Scan.{MovesTo}
use Rattle.dt_read.specs.View.{position_of}
use Rattle.dt_read.proofs.Scanning.{known_moves}
use Rattle.dt_read.proofs.scan.known_property.Goals as goal

pub returns-clause-moves : goal.returns-clause-moves
returns-clause-moves c =
    let strings = c.args.names.now in
    let rest = c.args.rest.now in
    let size = c.in_ok-value_len.field-0 in
    let tag = sym c.in_ok-be32.ensures ∙ ap Some c.if-branch-ne-PROP.false in
    let len = c.padded_len-len.ensures in
    let long = c.if-rest-len.false in
    subst (MovesTo strings (position_of c.args.place) rest (position_of c.args.place)) (sym len)
    (known_moves strings (position_of c.args.place) rest size c.in_ok-offset.offset (λ i. omega (arith, c.type_inv.rest i)) tag (sym c.in_ok-value_len.ensures) (sym c.in_ok-offset.ensures) (omega arith) (c.is_at.ensures.name.0 c.if-not-is_at.false) c.if-place-eq0.false c.if-place.false)
