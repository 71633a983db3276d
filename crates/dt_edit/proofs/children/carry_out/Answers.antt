use Rattle.std.proofs.Common.{◌+◌, ◌-◌, [], ℕ, List, length, refl, arith}
use Rattle.dt_edit.specs.Moving.{node_bytes}
use Rattle.dt_edit.proofs.Assembling.{edits_of}
use Rattle.dt_edit.proofs.CarriedOut.{blocks_edited}
use Rattle.dt_edit.proofs.Carrying.{length_node}
use Rattle.dt_edit.proofs.Putting.{put_nothing}
use Rattle.dt_edit.proofs.children.carry_out.Goals as goal

pub returns : goal.returns
returns c =
    let old = c.args.bytes.now in
    let p = c.args.plan.now in
    let name = c.args.name.now in
    let room = c.requires.room in
    let edits = edits_of old c.requires.editable in
    let own : List ℕ = node_bytes name in
    let wide = length_node name in
    let mid = c.splice_node.new.bytes in
    let end : ℕ = p.layout.structure_at + p.layout.structure + p.layout.strings in
    let grown : ℕ = end + length own - 0 in
    blocks_edited old mid mid c.set_header.new.bytes own [] p.layout p.cut 0 (p.layout.structure_at + p.cut) end grown (p.layout.structure_at - 40) (p.layout.structure + (c.padded_len-own.result + 4)) p.layout.strings
    c.requires.editable room.layout (omega (arith, room.inside)) refl room.layout.total refl refl (omega (arith, wide, c.padded_len-own.ensures)) (omega arith)
    (omega (arith, wide, room.layout.total, room.fits.room, c.splice_node.auto.bytes)) c.splice_node.ensures (put_nothing grown mid) c.set_header.ensures
