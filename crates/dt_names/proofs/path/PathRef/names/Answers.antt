use Rattle.std.proofs.Common.{rules, ◌≡◌, Bool, false, cond, codes, [], sym, ap, ◌∙◌}
use Rattle.std.specs.Str.{bytes_eq}
use Rattle.dt_names.specs.Paths.{names_in, parts_left}
use Rattle.dt_names.proofs.PathTexts.{names_from}
use Rattle.dt_names.proofs.path.PathRef.names.Goals as goal

pub returns : goal.returns
returns c =
    let text = c.self.inside.text.now in
    let other : bytes_eq text (codes "/") ≡ false = search rules in
    sym (names_from text c.cut.result.0.now (parts_left c.cut.result.1) c.cut.ensures) ∙ sym (ap (λ (b : Bool). cond b [] (names_in text)) other) ∙ c.self.view_is
