use Rattle.std.proofs.Common.{◌≡◌, ◌+◌, ◌*◌, ◌∷◌, ◌≤◌, length, drop, sym, ap, ◌∙◌, arith}
use Rattle.dt_resolve_model.specs.World.{figure, quads_of}
use Rattle.dt_resolve_model.proofs.QuadsOfBytes.{next_cell, quads_drop}
use Rattle.dt_view.proofs.values.cell_at.Goals as goal

pub returns : goal.returns
returns c =
    let bytes = c.args.bytes.now in
    let i = c.args.index in
    let there : 4 * i + 4 ≤ length bytes = omega (arith, c.requires) in
    let at : 4 * i + 4 ≡ 4 * (i + 1) = omega arith in
    sym (quads_drop i bytes)
    ∙ next_cell (4 * i) bytes there
    ∙ ap (λ n. figure n ∷ quads_of (drop (4 * i + 4) bytes)) (sym c.number_at.ensures)
    ∙ ap (λ j. figure c.number_at.result ∷ quads_of (drop j bytes)) at
    ∙ ap (λ cells. figure c.number_at.result ∷ cells) (quads_drop (i + 1) bytes)
