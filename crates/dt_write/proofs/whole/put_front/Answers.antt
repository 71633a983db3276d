use Rattle.std.proofs.Common.{List, ℕ, subst}
use Rattle.std.proofs.lemmas.Result.{on_ok_weaker}
use Rattle.dt_write.specs.Parts.{IsFront}
use Rattle.dt_write.proofs.WholeLemmas.{front_put}
use Rattle.dt_write.proofs.whole.put_front.Goals as goal

pub returns : goal.returns
returns c =
    on_ok_weaker c.put_reservations.result (λ e. subst (λ (rs : List (ℕ × ℕ)). IsFront rs c.put_reservations.new.out.items) c.reservations.ensures
    (front_put c.reservations.result.now c.args.out.now.items c.extend_from_slice.new.self.items c.put_reservations.new.out.items c.requires c.in_ok-extend_from_slice.ensures.items e)) c.put_reservations.ensures
