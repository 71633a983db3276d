use Rattle.std.proofs.Common.{length, sym, subst, List, ℕ, arith}
use Rattle.dt_read.specs.Keys.{AreShallow}
use Rattle.dt_read.proofs.KeyCounts.{length-keys_in}
use Rattle.dt_read.proofs.Shallow.{shallow_for}
use Rattle.dt_read.proofs.keys.Keys.of.Goals as goal

pub invariant_of-result : goal.invariant_of-result
invariant_of-result c =
    shallow_for c.args.wanted (length c.new.result) c.start.result
    (subst (λ (open_nodes : List ℕ). AreShallow (length open_nodes) c.start.result) (sym c.new.ensures) c.start.ensures.shallow)

pub returns-clause-few : goal.returns-clause-few
returns-clause-few c = let few = length-keys_in c.args.wanted c.new.result c.start.result in omega (arith, c.start.ensures.few)
