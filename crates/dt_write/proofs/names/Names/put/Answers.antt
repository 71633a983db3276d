use Rattle.std.proofs.Common.{◌∙◌, sym, ap, subst, List}
use Rattle.dt_model.specs.Names.{Name}
use Rattle.dt_model.specs.Valid.{AreDistinct}
use Rattle.dt_write.specs.Written.{used}
use Rattle.dt_write.proofs.TreeNames.{one_more_key, distinct_used}
use Rattle.dt_write.proofs.names.Names.put.Goals as goal

pub invariant_of-self-2 : goal.invariant_of-self-2
invariant_of-self-2 c =
    let more = one_more_key c.self.inside.set.keys c.insert_full.new.self.keys c.args.name c.in_ok-number.ensures.keys in
    subst AreDistinct (sym more) (distinct_used _ c.args.name.now c.self.invariant)

pub returns : goal.returns
returns c = one_more_key c.self.inside.set.keys c.insert_full.new.self.keys c.args.name c.in_ok-number.ensures.keys ∙ ap (λ (ns : List Name). used ns c.args.name.now) c.self.view_is
