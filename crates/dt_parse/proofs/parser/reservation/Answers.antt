use Rattle.std.proofs.Common.{refl, ℕ, List, [], arith}
use Rattle.std.proofs.lemmas.Bool.{false≢true}
use Rattle.dt_grammar.specs.Faults.{outside}
use Rattle.dt_parse.specs.Reading.{IsBroken}
use Rattle.dt_grammar.specs.Wanted.{AfterTopLabels}
use Rattle.dt_parse.proofs.Leading.{handed_on, no_longer}
use Rattle.dt_parse.proofs.ReadReserves.{address_stop, size_stop, zeros_stop, numbers_read, end_stop, reserves}
use Rattle.dt_parse.proofs.parser.reservation.Goals as goal

pub returns-in_err-address-clause-err : goal.returns-in_err-address-clause-err
returns-in_err-address-clause-err c =
    handed_on c.from_residual.result c.in_err-address.field-0.0 (λ stop. (ls : List (List ℕ)) → IsBroken outside (AfterTopLabels ls) c.args.cursor.now stop) c.from_residual.ensures.1
    (λ ls. address_stop ls _ _ _ c.requires c.advance.ensures (c.in_err-address.ensures.err outside))

pub returns-in_err-size-clause-err : goal.returns-in_err-size-clause-err
returns-in_err-size-clause-err c =
    let x = c.in_ok-address.ensures.ok outside in
    handed_on c.from_residual-in_err-size.result c.in_err-size.field-0.0 (λ stop. (ls : List (List ℕ)) → IsBroken outside (AfterTopLabels ls) c.args.cursor.now stop) c.from_residual-in_err-size.ensures.1
    (λ ls. size_stop ls _ _ _ x.0 _ c.requires c.advance.ensures x.1 (c.in_err-size.ensures.err outside))

pub returns-then-are_zero-clause-err : goal.returns-then-are_zero-clause-err
returns-then-are_zero-clause-err c =
    let x = c.in_ok-address.ensures.ok outside in
    let y = c.in_ok-size.ensures.ok outside in
    let z = c.if-are_zero.ensures.0 refl in
    λ ls. zeros_stop ls _ _ _ _ x.0 y.0 c.in_ok-address.address c.in_ok-size.size _ c.requires c.advance.ensures x.1 x.2 y.1 y.2 z.0 z.1 refl c.left-left.ensures

pub returns-in_err-expect-clause-err : goal.returns-in_err-expect-clause-err
returns-in_err-expect-clause-err c =
    let x = c.in_ok-address.ensures.ok outside in
    let y = c.in_ok-size.ensures.ok outside in
    let e = c.in_err-expect.ensures.err in
    handed_on c.from_residual-in_err-expect.result c.in_err-expect.field-0.0 (λ stop. (ls : List (List ℕ)) → IsBroken outside (AfterTopLabels ls) c.args.cursor.now stop) c.from_residual-in_err-expect.ensures.1
    (λ ls. end_stop ls _ _ _ _ _ (numbers_read ls _ _ _ _ x.0 y.0 _ _ c.requires c.advance.ensures x.1 x.2 y.1 y.2 (λ h. false≢true (c.if-are_zero.ensures.1 h))) e.0 e.1 e.2)

pub returns-clause-ok : goal.returns-clause-ok
returns-clause-ok c =
    let x = c.in_ok-address.ensures.ok outside in
    let y = c.in_ok-size.ensures.ok outside in
    let t = c.in_ok-expect.ensures.ok in
    λ ls texts. reserves ls _ _ _ _ _ (numbers_read ls _ _ _ _ x.0 y.0 _ _ c.requires c.advance.ensures x.1 x.2 y.1 y.2 (λ h. false≢true (c.if-are_zero.ensures.1 h))) t.0 t.1 texts

pub returns-clause-shorter : goal.returns-clause-shorter
returns-clause-shorter c =
    let x = c.in_ok-address.ensures.ok outside in
    let y = c.in_ok-size.ensures.ok outside in
    let n = numbers_read [] c.args.cursor.now c.advance.new.self c.number.new.cursor c.number-2.new.cursor x.0 y.0 _ _ c.requires c.advance.ensures x.1 x.2 y.1 y.2 (λ h. false≢true (c.if-are_zero.ensures.1 h)) in
    let less = n.shorter in
    let least = no_longer c.number-2.new.cursor c.expect.new.self c.in_ok-expect.ensures.ok.1 in
    omega (arith, less, least)
