use Rattle.dt_phandle.proofs.Contents.{references, asked_few, asked_all}
use Rattle.dt_phandle.proofs.numbering.number.Goals as goal

pub asked_among-requires : goal.asked_among-requires
asked_among-requires c = references c.args.tree.now c.nodes.result.now c.validity.ensures.preorder c.validity.ensures.named c.nodes.ensures

pub numbers_for-requires : goal.numbers_for-requires
numbers_for-requires c =
    asked_few c.args.tree.now c.nodes.result.now c.in_ok-asked.asked.items c.deref.result.now c.validity.ensures.preorder c.validity.ensures.named c.nodes.ensures
    c.deref.ensures.value c.in_ok-asked.ensures

pub returns-clause-numbers : goal.returns-clause-numbers
returns-clause-numbers c =
    asked_all c.args.tree.now c.nodes.result.now c.in_ok-asked.asked.items c.deref.result.now c.in_ok-numbers.numbers.items c.validity.ensures.preorder c.nodes.ensures
    c.deref.ensures.value c.in_ok-asked.ensures c.in_ok-numbers.ensures
