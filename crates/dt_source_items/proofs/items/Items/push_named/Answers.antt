use Rattle.std.proofs.Common.{arith}
use Rattle.dt_source_items.proofs.Gathering.{kept_rows, named_rows, named_gathered}
use Rattle.dt_source_items.proofs.items.Items.push_named.Goals as goal

pub invariant_of-self-in_err-push-2 : goal.invariant_of-self-in_err-push-2
invariant_of-self-in_err-push-2 c =
    rw (c.in_ok-push.ensures.items, c.in_err-push-2.ensures.items) (kept_rows c.self.inside.rows.items c.self.inside.named.items c.self.inside.spans.items c.self.inside.pieces.items c.self.inside.bytes.items c.self.inside.piece c.self.inside.byte c.self.inside.referred c.self.invariant c.args.reference)

pub invariant_of-self-2 : goal.invariant_of-self-2
invariant_of-self-2 c =
    rw (c.in_ok-push.ensures.items, c.in_ok-push-2.ensures.items)
    (named_rows c.self.inside.rows.items c.self.inside.named.items c.self.inside.spans.items c.self.inside.pieces.items c.self.inside.bytes.items c.self.inside.piece c.self.inside.byte c.self.inside.referred c.self.invariant c.args.naming c.args.reference c.in-Ok.place (omega (arith, c.in-Ok.ensures, c.len.ensures, c.self.inside.named.ok.0)))

pub returns : goal.returns
returns c =
    rw (c.in_ok-push.ensures.items, c.in_ok-push-2.ensures.items, ← c.self.view_is)
    (named_gathered c.self.inside.rows.items c.self.inside.named.items c.self.inside.spans.items c.self.inside.pieces.items c.self.inside.bytes.items c.self.inside.piece c.self.inside.byte c.self.inside.referred c.self.invariant c.args.naming c.args.reference c.in-Ok.place (omega (arith, c.in-Ok.ensures, c.len.ensures, c.self.inside.named.ok.0)))
