use Rattle.std.proofs.Common.{◌≡◌, ℕ, List, length, sym, subst, ◌∙◌}
use Rattle.dt_edit.specs.Moving.{property_bytes, HasRoomMade, IsSpliced}
use Rattle.dt_edit.proofs.Carrying.{spliced_room, length_property}
use Rattle.dt_edit.proofs.moving.splice_property.Goals as goal

pub returns : goal.returns
returns c =
    let s = c.args.span in
    let own : List ℕ = property_bytes c.args.offset c.args.value.now in
    let wide : c.padded_len.result ≡ length own = c.padded_len.ensures ∙ sym (length_property c.args.offset c.args.value.now) in
    subst (λ (x : List ℕ). IsSpliced c.args.bytes.now x own s.at s.size s.end) (sym c.put_property.ensures)
    (spliced_room c.args.bytes.now c.make_room.new.bytes own s.at s.size s.end c.requires.cut c.requires.inside
    (subst (λ (n : ℕ). HasRoomMade c.args.bytes.now c.make_room.new.bytes s.at s.size n s.end) wide c.make_room.ensures))
