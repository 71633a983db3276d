use Rattle.std.proofs.Common.{◌∷◌, []}
use Rattle.dt_source_items.proofs.Gathering.{bytes_gathered}
use Rattle.dt_source_items.proofs.items.Items.push_byte.Goals as goal

pub returns : goal.returns
returns c =
    rw (c.in_ok-push.ensures.items, ← c.self.view_is)
    (bytes_gathered c.self.inside.rows.items c.self.inside.named.items c.self.inside.spans.items c.self.inside.pieces.items c.self.inside.bytes.items (c.args.byte ∷ []) c.self.inside.piece c.self.inside.byte c.self.inside.referred c.self.invariant)
