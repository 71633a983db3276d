use Rattle.std.proofs.Common.{ℕ, List, sym, subst}
use Rattle.dt_edit.specs.Moving.{HasRoomMade}
use Rattle.dt_edit.proofs.Putting.{room_made, room_kept}
use Rattle.dt_edit.proofs.moving.make_room.Goals as goal

pub returns-then-size-own : goal.returns-then-size-own
returns-then-size-own c =
    let a = c.args in
    subst (λ (x : List ℕ). HasRoomMade a.bytes.now x a.at a.size a.own a.end) (sym c.copy_within.ensures.after)
    (room_made a.bytes.now a.at a.size a.own a.end c.requires.cut c.requires.inside c.requires.room)

pub returns-else-size-own : goal.returns-else-size-own
returns-else-size-own c = let a = c.args in room_kept a.bytes.now a.at a.size a.own a.end c.if-size-own.false c.requires.cut c.requires.inside
