use Rattle.std.proofs.Common.{ap}
use Rattle.std.proofs.lemmas.Result.{on_ok_weaker}
use Rattle.dt_flat.specs.Arena.{Arena}
use Rattle.dt_model.specs.Instance.{instance_of}
use Rattle.dt_model.specs.Named.{tree_of}
use Rattle.dt_phandle.proofs.Growing.{may_follow, made, as_many}
use Rattle.dt_phandle.proofs.numbered.fill.Goals as goal

pub grow-requires : goal.grow-requires
grow-requires c =
    let l = c.args.named.now in
    let numbers = c.args.numbering.now in
    let t = instance_of numbers (tree_of l) in
    let good = c.instance_is_valid.ensures (tree_of l) numbers c.validity.ensures.named c.requires.numbers in
    may_follow numbers l c.nodes.result.now c.reservations.result.now c.args.tree.now c.reserve.new.tree c.validity.ensures.preorder c.nodes.ensures
    c.requires.alone c.in_ok-reserve.ensures.tree good.0 (c.may_be_planted.ensures t good.0 good.1 good.2)

pub returns-clause-reads : goal.returns-clause-reads
returns-clause-reads c =
    let l = c.args.named.now in
    let numbers = c.args.numbering.now in
    let good = c.instance_is_valid.ensures (tree_of l) numbers c.validity.ensures.named c.requires.numbers in
    on_ok_weaker c.grow.result
    (λ done. made numbers l c.nodes.result.now c.reservations.result.now c.args.tree.now c.reserve.new.tree c.grow.new.tree c.validity.ensures.preorder c.nodes.ensures
    c.requires.alone c.reservations.ensures c.in_ok-reserve.ensures.tree done (c.planted_reads.ensures (instance_of numbers (tree_of l)) good.0))
    c.grow.ensures.tree

pub returns-clause-count : goal.returns-clause-count
returns-clause-count c =
    on_ok_weaker c.grow.result
    (λ done. as_many c.args.numbering.now c.args.named.now c.nodes.result.now c.args.tree.now c.reserve.new.tree c.grow.new.tree c.validity.ensures.preorder c.nodes.ensures
    c.requires.alone (ap (λ (a : Arena). a.slots) c.in_ok-reserve.ensures.tree) done)
    c.grow.ensures.tree
