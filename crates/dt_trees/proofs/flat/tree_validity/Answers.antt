use Rattle.std.proofs.Common.{sym, subst}
use Rattle.dt_model.specs.Valid.{IsValid, IsWithinLimits}
use Rattle.dt_trees.proofs.Numbers.{reads_same, apart}
use Rattle.dt_trees.proofs.flat.tree_validity.Goals as goal

pub returns-clause-valid : goal.returns-clause-valid
returns-clause-valid c = subst IsValid (sym (reads_same c.args.tree.now)) c.validity.ensures.valid

pub returns-clause-within : goal.returns-clause-within
returns-clause-within c = subst IsWithinLimits (sym (reads_same c.args.tree.now)) c.validity.ensures.within

pub returns-clause-places : goal.returns-clause-places
returns-clause-places c = apart c.args.tree.now c.validity.ensures.rooted
