use Rattle.std.proofs.Common.{◌+◌, length, refl, sym, subst, ◌∙◌}
use Rattle.std.proofs.lemmas.Bool.{eqb-true}
use Rattle.dt_irq.specs.Left.{AreSentFrom, entries_left}
use Rattle.dt_irq.specs.Seen.{entry_in}
use Rattle.dt_irq.proofs.Lefts.{extended_none, extended_one, extended_later, extended_refused, extended_stays}
use Rattle.dt_irq.proofs.lists.Entries.next.Goals as goal

pub returns-then-is_empty-clause-is : goal.returns-then-is_empty-clause-is
returns-then-is_empty-clause-is g c = λ p i left.
    let t = g.V.TreeView.tree c.args.view.now in
    (extended_none t p i c.in-Extended.rest.now (eqb-true (length c.in-Extended.rest.now) 0 (sym c.is_empty.ensures ∙ c.if-is_empty.true)) (subst (λ r. AreSentFrom t p i (entries_left r)) c.in-Extended.is left), left)

pub returns-in_default-clause-is : goal.returns-in_default-clause-is
returns-in_default-clause-is g c = λ p i left.
    ((c.in_default.ensures.is p i (subst (λ r. AreSentFrom (g.V.TreeView.tree c.args.view.now) p i (entries_left r)) c.in-Plain.is left)).0, left)

pub returns-in-Ok-clause-is : goal.returns-in-Ok-clause-is
returns-in-Ok-clause-is g c = λ p i left.
    let t = g.V.TreeView.tree c.args.view.now in
    let rest = c.in-Extended.rest.now in
    let are = subst (λ r. AreSentFrom t p i (entries_left r)) c.in-Extended.is left in
    let entry = entry_in t c.in-Ok.entry in
    (extended_one t p i rest entry (sym c.in-Ok.ensures.is) are, extended_later t p i rest c.in-Ok.entry.rest.now entry (sym c.in-Ok.ensures.is) refl c.in-Ok.ensures.ragged are)

pub returns-in-Err-clause-is : goal.returns-in-Err-clause-is
returns-in-Err-clause-is g c = λ p i left.
    let t = g.V.TreeView.tree c.args.view.now in
    let rest = c.in-Extended.rest.now in
    let are = subst (λ r. AreSentFrom t p i (entries_left r)) c.in-Extended.is left in
    (extended_refused t p i rest c.in-Err.fault (sym c.in-Err.ensures.is) are, subst (λ r. AreSentFrom t p (i + 1) (entries_left r)) (sym c.in-Extended.is) (extended_stays t p i rest c.in-Err.fault (sym c.in-Err.ensures.is) are))

pub returns-in-Some-clause-is : goal.returns-in-Some-clause-is
returns-in-Some-clause-is g c = λ p i left.
    c.in-Some.ensures.is p i (subst (λ r. AreSentFrom (g.V.TreeView.tree c.args.view.now) p i (entries_left r)) c.in-Plain.is left)
