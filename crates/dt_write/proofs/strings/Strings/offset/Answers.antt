use Rattle.std.proofs.Common.{◌∙◌, List, [], length, get_or, ap, arith}
use Rattle.dt_model.specs.Names.{Name}
use Rattle.dt_write.specs.Written.{offset_of}
use Rattle.dt_write.proofs.Stored.{IsOffset, offset_by}
use Rattle.dt_write.proofs.strings.Strings.offset.Goals as goal

found : (c : goal.After-as_slice) → IsOffset c.self.inside.names c.args.name.now c.index.result.now (length (get_or c.as_slice.result.now c.index-holder.result.now (record { ref_ptr = (0, 0); now = [] })).now)
found c =
    offset_by c.self.inside.names c.self.inside.holders.items c.self.inside.starts.items c.as_slice.result.now c.in-Some.number c.index-holder.result.now c.index.result.now c.args.name.now
    c.self.invariant.texts c.self.invariant.holders c.self.invariant.starts c.as_slice.ensures.names c.in-Some.ensures.is.0 c.in-Some.ensures.is.1 c.index-holder.ensures c.index.ensures

pub overflow_add-result : goal.overflow_add-result
overflow_add-result c = omega (arith, (found c).inside, c.self.invariant.size, c.self.invariant.short)

pub overflow_sub-result : goal.overflow_sub-result
overflow_sub-result c = omega (arith, (found c).longer)

pub returns-clause-is : goal.returns-clause-is
returns-clause-is c = (found c).is ∙ ap (λ (ns : List Name). offset_of ns c.args.name.now) c.self.view_is

pub returns-clause-within : goal.returns-clause-within
returns-clause-within c = omega (arith, (found c).inside, c.self.invariant.size, c.self.invariant.short)
