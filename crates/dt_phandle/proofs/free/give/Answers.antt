use Rattle.std.proofs.Common.{◌≡◌, ◌+◌, ◌≤◌, ◌∷◌, List, Option, None, false, ℕ, get_or, length, map, drop, arith, sym, ap, subst}
use Rattle.std.proofs.lemmas.List.{drop_all, drop_more}
use Rattle.dt_phandle.specs.declared.asked.Asked.{Asked}
use Rattle.dt_phandle.specs.Asking.{asked_said}
use Rattle.dt_phandle.specs.Least.{AreGiven}
use Rattle.dt_phandle.proofs.Least.{none_given, one_given, all_given}
use Rattle.dt_phandle.proofs.free.give.Goals as goal

pub loop-node-init : goal.loop-node-init
loop-node-init c =
    let all = map asked_said c.args.asked.now in
    let free = c.args.free.now in
    record {
      given = subst (λ (numbers : List (Option ℕ)). AreGiven all all numbers free.written free.next) (sym c.requires.none) (none_given all free.written free.next c.requires.left);
      size = omega arith;
    }

pub loop-node-preserved : goal.loop-node-preserved
loop-node-preserved c =
    let asked = c.args.asked.now in
    let i = c.loop-node.node-index in
    let none : Asked = record { written = None; keyed = false } in
    let next : drop i asked ≡ get_or asked i none ∷ drop (i + 1) asked = drop_more asked i none (omega arith) in
    let old = c.loop-node.free in
    let new = c.number_for.new.self in
    let numbers = c.loop-node.numbers.items in
    let before = subst (λ (xs : List Asked). AreGiven (map asked_said asked) (map asked_said xs) numbers old.written old.next) next c.loop-node.invariant.given in
    let after = one_given (map asked_said asked) (asked_said (get_or asked i none)) (map asked_said (drop (i + 1) asked)) numbers c.number_for.result old.written new.written old.next new.next
    before c.number_for.ensures.number c.number_for.ensures.left in
    record {
      given = subst (λ (ns : List (Option ℕ)). AreGiven (map asked_said asked) (map asked_said (drop (i + 1) asked)) ns new.written new.next) (sym c.in_ok-push.ensures.items) after;
      size = omega (arith, c.number_for.ensures.size);
    }

pub returns : goal.returns
returns c =
    let asked = c.args.asked.now in
    let i = c.loop-node.node-index in
    let past : length asked ≤ i = omega arith in
    all_given (map asked_said asked) (map asked_said (drop i asked)) c.loop-node.numbers.items c.loop-node.free.written c.loop-node.free.next
    c.loop-node.invariant.given (ap (map asked_said) (drop_all i asked past))
