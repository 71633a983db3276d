use Rattle.std.proofs.Common.{◌≡◌, ◌+◌, ℕ, List, length, sym, ap, subst, ◌∙◌}
use Rattle.dt_edit.specs.Moving.{node_bytes, HasRoomMade, IsSpliced}
use Rattle.dt_edit.proofs.Carrying.{spliced_room, length_node}
use Rattle.dt_edit.proofs.moving.splice_node.Goals as goal

pub returns : goal.returns
returns c =
    let s = c.args.span in
    let own : List ℕ = node_bytes c.args.name.now in
    let wide : c.padded_len.result + 4 ≡ length own = ap (λ (n : ℕ). n + 4) c.padded_len.ensures ∙ sym (length_node c.args.name.now) in
    subst (λ (x : List ℕ). IsSpliced c.args.bytes.now x own s.at s.size s.end) (sym c.put_node.ensures)
    (spliced_room c.args.bytes.now c.make_room.new.bytes own s.at s.size s.end c.requires.cut c.requires.inside
    (subst (λ (n : ℕ). HasRoomMade c.args.bytes.now c.make_room.new.bytes s.at s.size n s.end) wide c.make_room.ensures))
