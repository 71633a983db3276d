use Rattle.std.proofs.Common.{Bor, List, ℕ, arith}
use Rattle.std.proofs.lemmas.List.{length-map}
use Rattle.dt_run_streams.proofs.Loading.{one_more}
use Rattle.dt_run_streams.proofs.files.load_all.Goals as goal

pub loop-k-preserved : goal.loop-k-preserved
loop-k-preserved g c =
    let (text, grown, one) = c.in_default.ensures.loaded in
    one_more _ _ _ _ _ _ _ _ text c.loop-k.invariant grown one

pub returns-in-Err-clause-refused : goal.returns-in-Err-clause-refused
returns-in-Err-clause-refused g c =
    let (why, at) = c.in-Err.ensures.refused in (
      record { early = omega (arith, c.loop-k-test.true, length-map c.args.names.now (λ (name : Bor (List ℕ)). name.now)); texts = _; next = _; loaded = c.loop-k.invariant; why = why },
      at,
    )
