use Rattle.std.proofs.Common.{Bor, List, ℕ, []}
use Rattle.dt_run_streams.proofs.Loading.{name_at, none_again, why_not_next}
use Rattle.dt_run_streams.proofs.files.load_one.Goals as goal

none : Bor (List ℕ)
none = record { ref_ptr = (0, 0); now = [] }

pub returns-clause-refused : goal.returns-clause-refused
unfolding none
returns-clause-refused g c =
    why_not_next _ _ _ _ _ _ _ c.load.result (none_again _ c.if-is_again.false c.is_again.ensures.again) (name_at c.args.names.now c.args.k none c.requires)
    c.load.ensures.answered c.load.ensures.refused
