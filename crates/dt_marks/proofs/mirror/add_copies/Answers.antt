use Rattle.std.proofs.Common.{◌+◌, ◌∙◌, List, map, drop, ap, sym, subst, arith}
use Rattle.std.proofs.lemmas.Result.{err_from_is_err_and}
use Rattle.dt_source_named_tree.specs.Said.{node_said}
use Rattle.dt_source_named_tree.specs.declared.named.NamedNode.{NamedNode}
use Rattle.dt_flat.specs.Arena.{Arena}
use Rattle.dt_marks.specs.Mirrored.{marked_at, mirrored}
use Rattle.dt_marks.specs.Refusals.{AreWithin}
use Rattle.dt_marks.proofs.Setting.{next_node}
use Rattle.dt_marks.proofs.Mirroring.{within_first, why_later}
use Rattle.dt_marks.proofs.mirror.add_copies.Goals as goal

pub returns-in_err-visit-clause-refused : goal.returns-in_err-visit-clause-refused
returns-in_err-visit-clause-refused c =
    let others = c.args.others.now in
    let needed = marked_at c.args.needed.now in
    let i = c.loop-i.i in
    let n = c.index-others-i.result in
    let slots = c.loop-i.tree.slots in
    let copies = c.loop-i.copies.items in
    let next = next_node others i n (omega arith) c.index-others-i.is in
    let same = ap (λ (ns : List NamedNode). mirrored needed (1 + i) slots copies (map node_said ns)) (sym next) ∙ ap (λ (a : Arena). a.slots) c.loop-i.invariant.same in
    let why = c.in_err-visit.ensures.refused in
    let e = err_from_is_err_and c.from_residual.result c.from_residual.ensures.1 in
    rw (e.1, e.2)
    (why_later _ _ _ (λ within. within_first needed (node_said n) (map node_said (drop (i + 1) others)) (1 + i) slots copies (subst AreWithin (sym same) within)) why.0, why.1)
