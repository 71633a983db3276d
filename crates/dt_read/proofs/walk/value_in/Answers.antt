use Rattle.std.proofs.Common.{◌≡◌, ◌∷◌, sym, ap, subst, ◌∙◌}
use Rattle.std.specs.Option.{option_copied}
use Rattle.dt_model.specs.Tree.{value_of}
use Rattle.dt_read.specs.Marks.{mark_at}
use Rattle.dt_read.specs.Parsing.{left_by}
use Rattle.dt_read.specs.TreeTokens.{past_others}
use Rattle.dt_read.specs.View.{sought_view, IsSought}
use Rattle.dt_read.proofs.Cursors.{value_past, value_sought, no_value}
use Rattle.dt_read.proofs.walk.value_in.Goals as goal

pub returns-in_err-sought : goal.returns-in_err-sought
returns-in_err-sought c =
    let name = c.args.name.now in
    ap option_copied c.from_residual.ensures ∙ sym (ap (λ m. value_of (left_by m).properties name) c.in_err-sought.ensures.next.0) ∙ value_past name c.args.cursor

pub returns-in_default : goal.returns-in_default
returns-in_default c =
    let found = c.in_ok-sought.ensures.next in
    no_value c.args.name.now _ c.in_ok-sought.sought found.0 c.args.cursor c.seek.new.self c.in_default.not-Named found.2

pub returns : goal.returns
returns c =
    let found = c.in_ok-sought.ensures.next in
    value_sought c.args.name.now c.in_ok-sought.field-0-0 c.in-Named.value found.0 c.args.cursor c.seek.new.self (subst (λ s. IsSought c.args.name.now s found.0) c.in-Named.is found.1)
    (subst (λ s. past_others c.args.name.now c.args.cursor ≡ mark_at c.in_ok-sought.field-0-0 (sought_view s found.0) ∷ c.seek.new.self) c.in-Named.is found.2)
