use Rattle.std.proofs.Common.{◌≡◌, ◌∙◌, ◌-◌, ◌+◌, get_or, arith, ◌∷◌, [], ◌++◌, List, ℕ, length, Option, Some, None, false, refl, sym, ap, reverse}
use Rattle.std.specs.List.{slice_get}
use Rattle.std.specs.Option.{option_to_list, unwrap_or}
use Rattle.std.specs.Vec.{vec_len}
use Rattle.std.proofs.lemmas.List.{length_push, get_or_push}
use Rattle.dt_model.specs.Names.{Name}
use Rattle.dt_write.specs.declared.sharing.Row.{Row}
use Rattle.dt_write.specs.Sharing.{ends}
use Rattle.dt_write.specs.Rows.{gathered, left}
use Rattle.dt_write.proofs.Open.{last_is, taken_step, taken_stop, taken_all}
use Rattle.dt_write.proofs.sharing.take_ended.Goals.{in-Some+then-not-is_end_of, in_default}
use Rattle.dt_write.proofs.sharing.take_ended.Goals as goal

-- the last row isn't taken, or there is none
stopped : (x : Name) (acc : Option ℕ) (stack lent : List Row) (last : Row) → lent ≡ stack → Some last ≡ slice_get lent (length lent - 1) → ends x last.name.now ≡ false
    → (acc ≡ gathered x acc (reverse stack)) × (reverse stack ≡ left x (reverse stack))
stopped x acc stack lent last lends e other = taken_stop x acc stack last (ap (λ (s : List Row). slice_get s (length s - 1)) (sym lends) ∙ sym e) other

emptied : (x : Name) (acc : Option ℕ) (stack lent : List Row) → lent ≡ stack → None ≡ slice_get lent (length lent - 1) → (acc ≡ gathered x acc (reverse stack)) × (reverse stack ≡ left x (reverse stack))
emptied x acc stack lent lends e = taken_all x acc stack (ap (λ (s : List Row). slice_get s (length s - 1)) (sym lends) ∙ sym e)

pub loop-last-preserved : goal.loop-last-preserved
loop-last-preserved c =
    let x = c.args.row.now.name.now in
    let last = c.in-Some.last.now in
    let is : ends x last.name.now ≡ c.is_end_of.result = sym c.is_end_of.ensures in
    let here : slice_get c.loop-last.stack.items (length c.loop-last.stack.items - 1) ≡ Some last =
    ap (λ (s : List Row). slice_get s (length s - 1)) (sym c.deref.ensures.value) ∙ sym c.in-Some.ensures.value in
    let l = last_is c.loop-last.stack.items last here in
    let count : length c.loop-last.stack.items ≡ length l.front + 1 = ap length l.is ∙ length_push l.front last in
    let place : vec_len c.loop-last.stack - 1 ≡ length l.front = omega (arith, count, c.loop-last.stack.ok) in
    let popped : c.pop.result ≡ Some last =
    c.pop.ensures.value last (omega (arith, count, c.loop-last.stack.ok))
    ∙ ap (λ (r : Row). Some r) ((λ i. get_or (l.is i) (place i) last) ∙ get_or_push l.front last last (length l.front) refl) in
    let items : c.loop-last.stack.items ≡ c.pop.new.self.items ++ last ∷ [] = c.pop.ensures.items ∙ ap (λ (o : Option Row). c.pop.new.self.items ++ option_to_list o) popped in
    let step = taken_step x c.loop-last.least c.loop-last.stack.items c.pop.new.self.items last items (is ∙ c.if-not-is_end_of.false) in
    (ap (λ (n : ℕ). gathered x (Some n) (reverse c.pop.new.self.items)) c.lesser.ensures ∙ step.0 ∙ c.loop-last.invariant.0, step.1 ∙ c.loop-last.invariant.1)

pub returns-clause-least : goal.returns-clause-least
returns-clause-least c =
    c.unwrap_or.ensures
    ∙ ap (λ (o : Option ℕ). unwrap_or o c.args.row.now.number)
    (elim c.match-last.branch [
      | in-Some+then-not-is_end_of w ↦ (stopped c.args.row.now.name.now c.loop-last.least c.loop-last.stack.items c.deref.result.now w.in-Some.last.now c.deref.ensures.value w.in-Some.ensures.value (sym w.is_end_of.ensures ∙ w.if-not-is_end_of.true)).0
      | in_default w ↦ (emptied c.args.row.now.name.now c.loop-last.least c.loop-last.stack.items c.deref.result.now c.deref.ensures.value w.in_default.ensures.value).0
    ] ∙ c.loop-last.invariant.0)

pub returns-clause-left : goal.returns-clause-left
returns-clause-left c =
    elim c.match-last.branch [
      | in-Some+then-not-is_end_of w ↦ (stopped c.args.row.now.name.now c.loop-last.least c.loop-last.stack.items c.deref.result.now w.in-Some.last.now c.deref.ensures.value w.in-Some.ensures.value (sym w.is_end_of.ensures ∙ w.if-not-is_end_of.true)).1
      | in_default w ↦ (emptied c.args.row.now.name.now c.loop-last.least c.loop-last.stack.items c.deref.result.now c.deref.ensures.value w.in_default.ensures.value).1
    ] ∙ c.loop-last.invariant.1
