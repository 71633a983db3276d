use Rattle.std.proofs.Common.{◌≡◌, length, arith}
use Rattle.std.proofs.lemmas.Slice.{between_to_end}
use Rattle.dt_source_items.specs.declared.items.Span.{Span}
use Rattle.dt_source_items.specs.Said.{parts_said}
use Rattle.dt_source_items.proofs.Gathering.{spanned_rows, valued_rows, valued_gathered}
use Rattle.dt_source_items.proofs.items.Items.push_valued.Goals as goal

pub invariant_of-self-in_err-push-2 : goal.invariant_of-self-in_err-push-2
invariant_of-self-in_err-push-2 c =
    let h = c.self.invariant in
    let pieces : c.len-2.result ≡ length c.self.inside.pieces.items = omega (arith, c.len-2.ensures, c.self.inside.pieces.ok.0) in
    let bytes : c.len-3.result ≡ length c.self.inside.bytes.items = omega (arith, c.len-3.ensures, c.self.inside.bytes.ok.0) in
    let s : Span = record { first_piece = c.self.inside.piece; end_piece = c.len-2.result; first_byte = c.self.inside.byte; end_byte = c.len-3.result } in
    rw (c.in_ok-push.ensures.items, c.in_err-push-2.ensures.items)
    (spanned_rows c.self.inside.rows.items c.self.inside.named.items c.self.inside.spans.items c.self.inside.pieces.items c.self.inside.bytes.items c.self.inside.piece c.self.inside.byte c.self.inside.referred c.self.invariant s (omega (arith, h.begun, pieces), omega (arith, pieces), omega (arith, h.referred_at, h.inside, bytes), omega (arith, bytes)))

pub invariant_of-self-2 : goal.invariant_of-self-2
invariant_of-self-2 c =
    let h = c.self.invariant in
    let pieces : c.len-2.result ≡ length c.self.inside.pieces.items = omega (arith, c.len-2.ensures, c.self.inside.pieces.ok.0) in
    let bytes : c.len-3.result ≡ length c.self.inside.bytes.items = omega (arith, c.len-3.ensures, c.self.inside.bytes.ok.0) in
    let place : c.len-place.result ≡ length c.self.inside.spans.items = omega (arith, c.len-place.ensures, c.self.inside.spans.ok.0) in
    let s : Span = record { first_piece = c.self.inside.piece; end_piece = c.len-2.result; first_byte = c.self.inside.byte; end_byte = c.len-3.result } in
    rw (c.in_ok-push.ensures.items, c.in_ok-push-2.ensures.items)
    (valued_rows c.self.inside.rows.items c.self.inside.named.items c.self.inside.spans.items c.self.inside.pieces.items c.self.inside.bytes.items c.self.inside.piece c.self.inside.byte c.self.inside.referred c.self.invariant c.args.name s c.len-place.result place (omega (arith, h.begun, pieces), omega (arith, pieces), omega (arith, h.referred_at, h.inside, bytes), omega (arith, bytes)))

pub returns : goal.returns
returns c =
    let ps = c.self.inside.pieces.items in
    let bs = c.self.inside.bytes.items in
    let pieces : c.len-2.result ≡ length ps = omega (arith, c.len-2.ensures, c.self.inside.pieces.ok.0) in
    let bytes : c.len-3.result ≡ length bs = omega (arith, c.len-3.ensures, c.self.inside.bytes.ok.0) in
    let place : c.len-place.result ≡ length c.self.inside.spans.items = omega (arith, c.len-place.ensures, c.self.inside.spans.ok.0) in
    let s : Span = record { first_piece = c.self.inside.piece; end_piece = c.len-2.result; first_byte = c.self.inside.byte; end_byte = c.len-3.result } in
    let left = between_to_end ps c.self.inside.piece c.len-2.result (omega (arith, pieces)) in
    let right = between_to_end bs c.self.inside.byte c.len-3.result (omega (arith, bytes)) in
    rw (c.in_ok-push.ensures.items, c.in_ok-push-2.ensures.items, ← c.self.view_is)
    (valued_gathered c.self.inside.rows.items c.self.inside.named.items c.self.inside.spans.items c.self.inside.pieces.items c.self.inside.bytes.items c.self.inside.piece c.self.inside.byte c.self.inside.referred c.self.invariant c.args.name s c.len-place.result place (λ i. parts_said (left i) (right i)))
