use Rattle.std.proofs.Common.{◌≡◌, ℕ, suc, ◌+◌, ◌-◌, ◌*◌, Bool, ◌&&◌, false, List, length, drop, refl, ap, sym, ◌∙◌, arith}
use Rattle.std.specs.Prelude.{nat_le, nat_lt}
use Rattle.std.proofs.lemmas.List.{length-drop}
use Rattle.dt_resolve_model.specs.World.{Quad, quads_of}
use Rattle.dt_resolve_model.specs.Regions.{entries, mapped_by, fitting, fitted}
use Rattle.dt_resolve_model.proofs.QuadsOfBytes.{quads_drop}
use Rattle.dt_ranges.proofs.RangesMap.{mapped_here, mapped_later, is_held, is_past, is_before, entry_left}
use Rattle.dt_ranges.proofs.translating.by_ranges.Goals as goal
use Rattle.dt_ranges.proofs.translating.by_ranges.Goals.{else-begin-at-via-then-begin-at+else-at-begin, else-begin-at-via-else-begin-at}

pub returns-then-at-begin : goal.returns-then-at-begin
returns-then-at-begin c =
    let widths = c.args.widths in
    let w = widths.child + widths.above + widths.length in
    let rest = c.loop-done.rest.now in
    let begin = c.part_at-begin.result in
    let len = c.part_at-length.result in
    let target = c.part_at-target.result in
    let left = c.args.count - (c.loop-done.done + 1) in
    let more : c.args.count - c.loop-done.done ≡ suc left = omega arith in
    let held = is_held begin c.args.at.address len c.if-begin-at.true c.if-at-begin.true in
    let here = mapped_here widths c.args.size c.args.at w left (quads_of rest) begin len target refl c.part_at-begin.ensures c.part_at-length.ensures held c.part_at-target.ensures in
    c.raised.ensures
    ∙ ap (λ (b : Bool). fitting widths.above (record { address = target + (c.args.at.address - begin); whole = b })) c.stays_whole-whole.ensures
    ∙ ap (fitted widths.above) (sym here ∙ ap (λ (n : ℕ). mapped_by widths c.args.size c.args.at (entries n w (quads_of rest))) (sym more) ∙ c.loop-done.invariant.left)

pub loop-done-preserved : goal.loop-done-preserved
loop-done-preserved c =
    let widths = c.args.widths in
    let w = widths.child + widths.above + widths.length in
    let rest = c.loop-done.rest.now in
    let begin = c.part_at-begin.result in
    let len = c.part_at-length.result in
    let left = c.args.count - (c.loop-done.done + 1) in
    let more : c.args.count - c.loop-done.done ≡ suc left = omega arith in
    let test : (nat_le begin c.args.at.address && nat_lt (c.args.at.address - begin) len) ≡ false =
    elim c.else-begin-at.branch [
      | else-begin-at-via-then-begin-at+else-at-begin v ↦ is_past begin c.args.at.address len v.if-at-begin.false
      | else-begin-at-via-else-begin-at v ↦ is_before begin c.args.at.address len v.if-begin-at.false
    ] in
    let later_octet = mapped_later widths c.args.size c.args.at w left (quads_of rest) begin len refl c.part_at-begin.ensures c.part_at-length.ensures test in
    let after : c.cells_after-rest.result.now ≡ drop (4 * w) rest = c.cells_after-rest.ensures.bytes in
    record {
      long = entry_left c.args.count c.loop-done.done (4 * w) (length rest) (length c.cells_after-rest.result.now) (omega arith) c.loop-done.invariant.long (ap length after ∙ length-drop (4 * w) rest);
      left =
          ap (λ (bs : (List ℕ)). mapped_by widths c.args.size c.args.at (entries left w (quads_of bs))) after
          ∙ ap (λ (cells : List Quad). mapped_by widths c.args.size c.args.at (entries left w cells)) (quads_drop w rest)
          ∙ sym later_octet
          ∙ ap (λ (n : ℕ). mapped_by widths c.args.size c.args.at (entries n w (quads_of rest))) (sym more)
          ∙ c.loop-done.invariant.left;
    }
