use Rattle.std.proofs.Common.{ap, ℕ, List, Global}
use Rattle.std.specs.Cow.{cow_slice_items}
use Rattle.std.specs.declared.borrow.CowSlice.{CowSlice}
use Rattle.dt_source_nodes.proofs.Pieces.{piece_ended}
use Rattle.dt_source_nodes.proofs.values.end_piece.Goals as goal

pub returns : goal.returns
returns c =
    let items : CowSlice ℕ Global → List ℕ = λ b. cow_slice_items b in
    piece_ended c.args.value.now (record { pieces = c.push.new.self; bytes = c.replace-before.new.dest }) (record { before = c.replace-before.result; reference = c.args.named })
    c.in_ok-push.ensures.items (ap items c.replace-before.ensures.after) (ap items c.replace-before.ensures.value)
