use Rattle.std.proofs.Common.{ℕ, List, [], Bor}
use Rattle.dt_flat.specs.Arena.{reading}
use Rattle.dt_chain.proofs.Turns.{turn, stopped_at}
use Rattle.dt_chain.proofs.in_turn.apply_all.Goals as goal

abbrev none : Bor (List ℕ)
none = record { ref_ptr = (0, 0); now = [] }

pub returns-in-Err-clause-refused : goal.returns-in-Err-clause-refused
returns-in-Err-clause-refused g c =
    stopped_at g.I.Inputs.has_object g.I.Inputs.lacks_object (reading c.args.tree.now) c.args.inputs.now c.loop-k.k none (reading c.loop-k.tree) c.in-Err.fault
    c.loop-k-test.true c.loop-k.invariant c.in-Err.ensures.refused

pub loop-k-preserved : goal.loop-k-preserved
loop-k-preserved g c =
    turn g.I.Inputs.has_object (reading c.args.tree.now) c.args.inputs.now c.loop-k.k none (reading c.loop-k.tree) (reading c.apply_to.new.tree) c.loop-k-test.true
    c.loop-k.invariant c.in_default.ensures.applied
