use Rattle.std.proofs.Common.{◌≡◌, ◌∙◌, ◌<◌, ◌≤◌, ◌+◌, ◌-◌, ◌*◌, ℕ, suc, List, length, reverse, get_or, sym, ap, arith}
use Rattle.std.proofs.lemmas.List.{get_or-reverse, get_or_past, length-reverse}
use Rattle.dt_write.specs.Rows.{leading}
use Rattle.dt_write.proofs.Tails.{leading_small, turned_bytes}
use Rattle.dt_write.proofs.sharing.tail_of.Goals.{then-place-name, else-place-name}
use Rattle.dt_write.proofs.sharing.tail_of.Goals as goal

-- the byte that comes next
next : (name : List ℕ) (place byte : ℕ) → place < length name → byte ≡ get_or name (length name - 1 - place) 0 → byte ≡ get_or (reverse name) place 0
next name place byte lt e = e ∙ sym (get_or-reverse name place 0 lt)

none : (name : List ℕ) (place byte : ℕ) → length name ≤ place → byte ≡ 0 → byte ≡ get_or (reverse name) place 0
none name place byte le e = e ∙ sym (get_or_past (reverse name) place 0 (omega (arith, le, length-reverse name)))

last : (xs : List ℕ) (k : ℕ) → leading xs k * 256 + get_or xs k 0 ≡ leading xs (k + 1)
last xs k = let next : suc k ≡ k + 1 = omega arith in ap (leading xs) next

pub overflow_mul-tail : goal.overflow_mul-tail
overflow_mul-tail c =
    let turned = turned_bytes c.args.name.now (λ i. omega (arith, c.type_inv.name i)) in
    omega (arith, c.loop-place.invariant.0, leading_small (reverse c.args.name.now) turned c.loop-place.place c.loop-place-test.true)

pub overflow_add-tail : goal.overflow_add-tail
overflow_add-tail c =
    let turned = turned_bytes c.args.name.now (λ i. omega (arith, c.type_inv.name i)) in
    let here : c.if-place-name.byte ≡ get_or (reverse c.args.name.now) c.loop-place.place 0 =
    elim c.if-place-name.branch [
      | then-place-name w ↦ next c.args.name.now c.loop-place.place c.if-place-name.byte w.if-place-name.true w.byte-is
      | else-place-name w ↦ none c.args.name.now c.loop-place.place c.if-place-name.byte w.if-place-name.false w.byte-is
    ] in
    omega (arith, c.loop-place.invariant.0, leading_small (reverse c.args.name.now) turned c.loop-place.place c.loop-place-test.true, here, turned c.loop-place.place)

pub loop-place-preserved : goal.loop-place-preserved
loop-place-preserved c =
    let here : c.if-place-name.byte ≡ get_or (reverse c.args.name.now) c.loop-place.place 0 =
    elim c.if-place-name.branch [
      | then-place-name w ↦ next c.args.name.now c.loop-place.place c.if-place-name.byte w.if-place-name.true w.byte-is
      | else-place-name w ↦ none c.args.name.now c.loop-place.place c.if-place-name.byte w.if-place-name.false w.byte-is
    ] in
    ((λ i. c.loop-place.invariant.0 i * 256 + here i) ∙ last (reverse c.args.name.now) c.loop-place.place, omega (arith, c.loop-place-test.true))

pub returns-clause-is : goal.returns-clause-is
returns-clause-is c = let all : c.loop-place.place ≡ 8 = omega (arith, c.loop-place-test.false, c.loop-place.invariant.1) in c.loop-place.invariant.0 ∙ ap (leading (reverse c.args.name.now)) all
