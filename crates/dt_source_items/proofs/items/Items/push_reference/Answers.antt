use Rattle.std.proofs.Common.{◌≡◌, length, arith}
use Rattle.dt_source_items.proofs.Gathering.{reference_gathered, reference_rows}
use Rattle.dt_source_items.proofs.items.Items.push_reference.Goals as goal

pub invariant_of-self-2 : goal.invariant_of-self-2
invariant_of-self-2 c =
    let counted : c.len-self-inside.result ≡ length c.self.inside.bytes.items = omega (arith, c.len-self-inside.ensures, c.self.inside.bytes.ok.0) in
    rw (c.in_ok-push.ensures.items, counted)
    (reference_rows c.self.inside.rows.items c.self.inside.named.items c.self.inside.spans.items c.self.inside.pieces.items _ c.self.inside.bytes.items c.self.inside.piece c.self.inside.byte c.self.inside.referred c.self.invariant
    (omega (arith, c.len.ensures, c.self.inside.bytes.ok.0)))

pub returns : goal.returns
returns c =
    rw (c.in_ok-push.ensures.items, ← c.self.view_is)
    (reference_gathered c.self.inside.rows.items c.self.inside.named.items c.self.inside.spans.items c.self.inside.pieces.items _ c.self.inside.bytes.items c.self.inside.piece c.self.inside.byte c.self.inside.referred c.self.invariant
    (omega (arith, c.len.ensures, c.self.inside.bytes.ok.0)))
