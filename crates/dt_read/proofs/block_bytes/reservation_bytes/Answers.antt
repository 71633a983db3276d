use Rattle.std.proofs.Common.{◌+◌, ◌*◌, sym, arith}
use Rattle.std.proofs.lemmas.List.{length-take-le}
use Rattle.dt_read.proofs.BlockBytes.{reserved_bytes}
use Rattle.dt_read.proofs.block_bytes.reservation_bytes.Goals as goal

pub overflow_mul-size : goal.overflow_mul-size
overflow_mul-size c = let r = reserved_bytes c.args.bytes.now c.blocks-found.result c.count_pairs.result c.blocks-found.ensures c.count_pairs.ensures in omega (arith, r.inside, c.blocks-found.type_inv)

pub overflow_add-size : goal.overflow_add-size
overflow_add-size c = let r = reserved_bytes c.args.bytes.now c.blocks-found.result c.count_pairs.result c.blocks-found.ensures c.count_pairs.ensures in omega (arith, r.inside, c.blocks-found.type_inv)

pub returns : goal.returns
returns c = (reserved_bytes c.args.bytes.now c.blocks-found.result c.count_pairs.result c.blocks-found.ensures c.count_pairs.ensures).are

pub slice_bounds-result-end : goal.slice_bounds-result-end
slice_bounds-result-end c =
    let r = reserved_bytes c.args.bytes.now c.blocks-found.result c.count_pairs.result c.blocks-found.ensures c.count_pairs.ensures in
    sym (length-take-le (16 * c.count_pairs.result + 16) c.blocks-found.result.reservations.now r.inside)
