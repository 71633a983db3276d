use Rattle.std.proofs.Common.{◌≡◌, ◌+◌, ◌-◌, ℕ, take, drop, ap, ◌∙◌, arith}
use Rattle.dt_edit.proofs.Layouts.{strings_lie}
use Rattle.dt_edit.proofs.layout.strings_in.Goals as goal

pub returns : goal.returns
returns c =
    let l = c.args.layout.now in
    let at : ℕ = l.structure_at + l.structure in
    let size : at + l.strings - at ≡ l.strings = omega arith in
    ap (λ (n : ℕ). take n (drop at c.args.bytes.now)) size ∙ (strings_lie c.args.bytes.now l c.requires.editable c.requires.layout).1
