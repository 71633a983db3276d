use Rattle.std.proofs.Common.{◌≡◌, ◌<◌, ℕ, zero, suc, false, length, sym, arith}
use Rattle.std.specs.Prelude.{◌==◌}
use Rattle.dt_source_nodes.proofs.Written.{pieces_unwritten}
use Rattle.dt_source_nodes.proofs.phandles.written_number.Goals as goal

positive : (n : ℕ) → false ≡ (n == 0) → 0 < n
positive zero e = cc
positive (suc n) e = omega arith

pub returns-then-not-is_empty : goal.returns-then-not-is_empty
returns-then-not-is_empty c =
    let v = c.args.value in
    sym (pieces_unwritten v (positive (length v.pieces.now) c.if-not-is_empty.ensures))
