use Rattle.std.proofs.Common.{◌+◌, ◌∷◌, [], length, ap, ◌∙◌, arith}
use Rattle.dt_edit.specs.Moving.{put}
use Rattle.dt_edit.proofs.Putting.{put_put}
use Rattle.dt_edit.proofs.moving.put_name.Goals as goal

pub returns : goal.returns
returns c =
    c.put_bytes-2.ensures ∙ ap (put (c.args.at + length c.args.name.now) (0 ∷ [])) c.put_bytes.ensures
    ∙ put_put c.args.at c.args.name.now (0 ∷ []) c.args.bytes.now (omega (arith, c.requires))
