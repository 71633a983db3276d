use Rattle.std.proofs.Common.{◌-◌, ◌^◌, sym, subst}
use Rattle.dt_flat.specs.Numbers.{Table, table_of, IsFirstFree}
use Rattle.dt_flat.proofs.FirstFree.{given_elsewhere, given_first, most_given}
use Rattle.dt_flat.proofs.phandles.Phandles.put.Goals as goal

pub invariant_of-self : goal.invariant_of-self
invariant_of-self c =
    let old : Table = table_of c.self.inside.holders in
    let new : Table = table_of c.insert.new.holders in
    let first : IsFirstFree old c.args.number = subst (IsFirstFree old) (sym c.if-number-self.true) c.self.invariant.1 in
    let next = c.free_from-self-inside in (
      most_given old new c.args.number c.args.node (2 ^ 32 - 1) c.insert.ensures c.requires.small c.self.invariant.0,
      given_first old new c.args.number c.args.node next.result c.insert.ensures first next.ensures.above next.ensures.free next.ensures.taken,
    )

pub invariant_of-self-else-number-self : goal.invariant_of-self-else-number-self
invariant_of-self-else-number-self c =
    let old : Table = table_of c.self.inside.holders in
    let new : Table = table_of c.insert.new.holders in (
      most_given old new c.args.number c.args.node (2 ^ 32 - 1) c.insert.ensures c.requires.small c.self.invariant.0,
      given_elsewhere old new c.args.number c.args.node c.self.inside.first_free c.insert.ensures c.if-number-self.false c.self.invariant.1,
    )
