use Rattle.std.proofs.Common.{◌+◌, length, ap, ◌∙◌}
use Rattle.dt_edit.specs.Moving.{put}
use Rattle.dt_edit.proofs.Putting.{put_three}
use Rattle.dt_edit.proofs.opening.put_blocks.Goals as goal

pub returns : goal.returns
returns c =
    let a = c.args in
    c.put_bytes-3.ensures ∙ ap (put (40 + length a.reservations.now + length a.structure.now) a.strings.now) (c.put_bytes-2.ensures ∙ ap (put (40 + length a.reservations.now) a.structure.now) c.put_bytes.ensures)
    ∙ put_three 40 a.reservations.now a.structure.now a.strings.now a.bytes.now c.requires
