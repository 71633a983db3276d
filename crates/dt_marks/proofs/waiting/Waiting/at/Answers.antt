use Rattle.std.proofs.Common.{◌<◌, ◌∙◌, sym, ap, ℕ, Option, option_map, length, arith}
use Rattle.std.specs.Global.{Vec}
use Rattle.dt_model.specs.Tree.{Property}
use Rattle.dt_marks.proofs.TextTables.{length-kept, at-kept}
use Rattle.dt_marks.proofs.waiting.Waiting.at.Goals as goal

pub unreachable-requires : goal.unreachable-requires
unreachable-requires c =
    let lt : c.args.place < length c.self.inside.texts.entries = omega (arith, length-kept c.self.inside.texts.entries, ap length c.self.view_is, c.requires) in
    cc (c.in-None.ensures.found.1 lt)

pub returns : goal.returns
returns c =
    let made : Vec ℕ × Vec ℕ → Property = λ e. record { name = e.0.items; value = e.1.items } in
    rw (c.as_slice.ensures.value, c.as_slice-in-Some.ensures.value, ← c.self.view_is) (at-kept c.self.inside.texts.entries c.args.place ∙ ap (λ (o : Option (Vec ℕ × Vec ℕ)). option_map made o) (sym c.in-Some.ensures.entry))
