use Rattle.std.proofs.Common.{◌≡◌, ℕ, ◌+◌, ◌*◌, ◌-◌, take, drop, ap, sym, ◌∙◌, arith}
use Rattle.dt_resolve_model.specs.World.{quads_of}
use Rattle.dt_resolve_model.specs.Regions.{joined}
use Rattle.dt_resolve_model.proofs.QuadsOfBytes.{quads_drop, quads_take}
use Rattle.dt_ranges.proofs.cells.part_at.Goals as goal

pub returns : goal.returns
returns c =
    let bytes = c.args.bytes.now in
    let n = c.args.cells in
    let from = c.args.from in
    let same : 4 * from + 4 * n - 4 * from ≡ 4 * n = omega arith in
    ap joined (ap (take n) (sym (quads_drop from bytes)) ∙ sym (quads_take n (drop (4 * from) bytes)) ∙ ap (λ (k : ℕ). quads_of (take k (drop (4 * from) bytes))) (sym same))
    ∙ c.number.ensures
