use Rattle.std.proofs.Common.{◌∙◌, ap}
use Rattle.dt_flat.specs.Arena.{reading}
use Rattle.dt_read.specs.Growth.{reading_with}
use Rattle.dt_read.specs.Pairs.{pairs_of}
use Rattle.dt_read.proofs.Growing.{may_tree, may_follow, copied}
use Rattle.dt_read.proofs.flatten.fill.Goals as goal

pub plant-requires : goal.plant-requires
plant-requires c =
    let t = c.args.structure.now in
    let new = c.args.tree.now in
    let pairs = pairs_of c.args.reservations.now in
    let copy = c.requires.copy in
    let may = c.may_be_planted.ensures (reading_with new.boot_cpu pairs t) copy.valid copy.within copy.numbers in
    may_follow t new.boot_cpu pairs new c.reserve.new.tree c.start.result c.requires.alone c.in_ok-reserve.ensures.tree c.start.ensures.tokens
    (may_tree t new.boot_cpu pairs copy may)

pub returns-clause-reads : goal.returns-clause-reads
returns-clause-reads c =
    let t = c.args.structure.now in
    let new = c.args.tree.now in
    let pairs = pairs_of c.args.reservations.now in
    ap reading c.index.ensures.same
    ∙ copied t new.boot_cpu pairs new c.reserve.new.tree c.plant.new.tree c.start.result c.requires.alone c.in_ok-reserve.ensures.tree c.start.ensures.tokens c.in_ok-plant.ensures.tree
    (c.planted_reads.ensures (reading_with new.boot_cpu pairs t) c.requires.copy.valid)
