use Rattle.std.proofs.Common.{◌≡◌, ℕ, suc, ◌+◌, ◌-◌, false, true, length, sym, ap, ◌∙◌, arith}
use Rattle.dt_model.specs.OverlaySource.{fragment_name, free_from}
use Rattle.dt_model.specs.Source.{is_among}
use Rattle.dt_source_fragments.proofs.NamesMade.{found_free, passed_over}
use Rattle.dt_source_fragments.proofs.new_names.Written.free_from.Goals as goal

pub loop-number-init : goal.loop-number-init
loop-number-init c =
    ap (λ (k : ℕ). free_from c.args.self.now k c.args.next) (let e : c.args.next + c.len.result - c.args.next ≡ length c.args.self.now = omega arith in e)

pub returns-then-not-branch : goal.returns-then-not-branch
returns-then-not-branch c =
    let n = c.loop-number.number in
    let last = c.args.next + c.len.result in
    let free : is_among (fragment_name n) c.args.self.now ≡ false = sym (c.in_ok-has_number.ensures) ∙ c.if-not-branch.true in
    sym (found_free c.args.self.now (last - n) n free) ∙ c.loop-number.invariant

pub loop-number-preserved : goal.loop-number-preserved
loop-number-preserved c =
    let n = c.loop-number.number in
    let last = c.args.next + c.len.result in
    let taken : is_among (fragment_name n) c.args.self.now ≡ true = sym (c.in_ok-has_number.ensures) ∙ c.if-not-branch.false in
    let left : last - n ≡ suc (last - (n + 1)) = omega arith in
    sym (passed_over c.args.self.now (last - n) (last - (n + 1)) n left taken) ∙ c.loop-number.invariant

pub returns : goal.returns
returns c =
    let n = c.loop-number.number in
    let last = c.args.next + c.len.result in
    let end : last ≡ n = omega (arith, c.loop-number.auto.number-end) in
    let none : last - n ≡ 0 = omega arith in
    end ∙ (sym (ap (λ (k : ℕ). free_from c.args.self.now k n) none) ∙ c.loop-number.invariant)
