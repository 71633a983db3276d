use Rattle.std.proofs.Common.{arith}
use Rattle.dt_read.proofs.Numbers.{IsBytes}
use Rattle.dt_read.proofs.Wholes.{number_small}
use Rattle.dt_read.proofs.CheckedBytes.{placed_is, structure_again, well_placed}
use Rattle.dt_read.proofs.blob.Blob.of.Goals as goal

pub of-requires : goal.of-requires
of-requires c = structure_again c.args.bytes.now c.in-Ok.blocks c.in-Ok.ensures.blocks c.requires

pub invariant_of-result : goal.invariant_of-result
invariant_of-result c =
    let fits : IsBytes c.args.bytes.now = λ i. omega (arith, c.type_inv.bytes i) in
    let small = number_small c.args.bytes.now 28 fits in
    let cpu = c.in-Ok.ensures.blocks.boot_cpu in
    well_placed c.args.bytes.now c.in-Ok.blocks _ fits c.in-Ok.ensures.blocks (omega arith) c.of.ensures c.requires

pub returns : goal.returns
returns c = placed_is c.args.bytes.now c.in-Ok.blocks _ c.in-Ok.ensures.blocks c.of.ensures

pub unreachable-requires : goal.unreachable-requires
unreachable-requires c =
    let f = c.in-Err.ensures.fault in
    c.blob_has_no_fault.ensures c.args.bytes.now _ f.0 _ c.requires.1 c.requires.2 f.2
