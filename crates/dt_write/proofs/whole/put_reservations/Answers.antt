use Rattle.std.proofs.Common.{◌≡◌, ◌∙◌, ◌++◌, ℕ, List, ap, take, append_assoc, arith}
use Rattle.std.specs.List.{flat_map}
use Rattle.std.proofs.lemmas.Result.{on_ok_weaker}
use Rattle.std.proofs.lemmas.List.{take_all}
use Rattle.dt_model.specs.Format.{pair}
use Rattle.dt_write.proofs.whole.put_reservations.Goals as goal

pub returns : goal.returns
returns c =
    let rs = c.args.reservations.now in
    let all : take c.loop-address.address-index rs ≡ rs = take_all c.loop-address.address-index rs (omega (arith, c.loop-address-test.false)) in
    on_ok_weaker c.put_pair-2.result (λ e. e ∙ ap (λ (w : List ℕ). w ++ pair (0, 0)) (c.loop-address.invariant ∙ ap (λ (qs : List (ℕ × ℕ)). c.args.out.now.items ++ flat_map pair qs) all)
    ∙ append_assoc c.args.out.now.items (flat_map pair rs) (pair (0, 0))) c.put_pair-2.ensures
