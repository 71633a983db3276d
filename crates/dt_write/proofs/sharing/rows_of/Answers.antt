use Rattle.std.proofs.Common.{◌≡◌, ◌∙◌, ◌<◌, ◌+◌, ℕ, ◌++◌, ◌∷◌, [], Bool, true, false, List, length, get_or, Bor, sym, ap, subst, refl, arith, rules}
use Rattle.std.specs.Prelude.{nat_lt}
use Rattle.std.proofs.lemmas.List.{take_all, get_or_default}
use Rattle.std.proofs.lemmas.List.Sorted.{answers_always}
use Rattle.std.specs.List.Sorted.{IsPermutation}
use Rattle.dt_write.specs.declared.sharing.Row.{Row}
use Rattle.dt_write.specs.Rows.{rows_from}
use Rattle.dt_write.proofs.Tails.{AreBytes, falling_at_once, is_order_at_once, fall_by_all}
use Rattle.dt_write.proofs.Holders.{one_row_more, all_tailed}
use Rattle.dt_write.proofs.sharing.rows_of.Goals as goal

-- one name more has bytes
one_more : (names : List (Bor (List ℕ))) (k : ℕ) (e : Bor (List ℕ)) → k < length names → ((i : ℕ) (d : Bor (List ℕ)) → i < k → AreBytes (get_or names i d).now) → AreBytes (get_or names k e).now
    → (i : ℕ) (d : Bor (List ℕ)) → i < k + 1 → AreBytes (get_or names i d).now
one_more names k e lt so_far own i d l = by (nat_lt i k) refl
  where
    by : (b : Bool) → nat_lt i k ≡ b → AreBytes (get_or names i d).now
    by true f = so_far i d (grind (arith, f))
    by false f =
        let is : i ≡ k = grind (arith, f, l) in
        subst (λ (n : Bor (List ℕ)). AreBytes n.now) (get_or_default names k e d lt ∙ ap (λ (j : ℕ). get_or names j d) (sym is)) own

pub loop-number-preserved : goal.loop-number-preserved
loop-number-preserved c =
    let none : Bor (List ℕ) = record { ref_ptr = (0, 0); now = [] } in
    let x : Bor (List ℕ) = get_or c.args.names.now c.loop-number.number none in (
      one_row_more c.args.names.now c.loop-number.number none c.loop-number.rows.items c.push.new.self.items c.loop-number-test.true c.loop-number.invariant.0
          (c.in_ok-push.ensures.items ∙ ap (λ (t : ℕ). c.loop-number.rows.items ++ record { name = x; number = c.loop-number.number; tail = t } ∷ []) c.tail_of-tail.ensures.is),
      one_more c.args.names.now c.loop-number.number none c.loop-number-test.true c.loop-number.invariant.1 c.tail_of-tail.ensures.bytes,
    )

pub returns : goal.returns
returns c =
    let names = c.args.names.now in
    let all : c.loop-number.rows.items ≡ rows_from 0 names = c.loop-number.invariant.0 ∙ ap (rows_from 0) (take_all c.loop-number.number names (omega (arith, c.loop-number-test.false))) in
    let moved : IsPermutation (rows_from 0 names) c.sort_unstable_by.new.self.items = subst (λ (rows : List Row). IsPermutation rows c.sort_unstable_by.new.self.items) all c.sort_unstable_by.ensures.permutation in
    record {
      numbered = moved;
      fall = fall_by_all c.sort_unstable_by.new.self.items
          (all_tailed names c.sort_unstable_by.new.self.items moved (λ i d l. c.loop-number.invariant.1 i d (omega (arith, l, c.loop-number-test.false))))
          (c.sort_unstable_by.ensures.sorted falling_at_once is_order_at_once (answers_always _ _ _ (λ f a r g k. search rules)));
    }
