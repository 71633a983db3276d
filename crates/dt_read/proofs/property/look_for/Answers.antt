use Rattle.std.proofs.Common.{sym, ap, subst, ◌∙◌}
use Rattle.dt_read.specs.View.{tag_view, HasToken}
use Rattle.dt_read.proofs.property.look_for.Goals as goal

pub returns-then-is_named : goal.returns-then-is_named
returns-then-is_named c = λ p t.
    let own = subst (λ tag. HasToken c.args.strings.now tag p) c.in-Property.is t in
    ((sym (c.is_named.ensures p own.0 own.1) ∙ c.if-is_named.true, c.value_of.ensures c.args.strings.now p own.0 own.1), ap (λ tag. tag_view tag p) (sym c.in-Property.is))

pub returns-else-is_named : goal.returns-else-is_named
returns-else-is_named c = λ p t.
    let own = subst (λ tag. HasToken c.args.strings.now tag p) c.in-Property.is t in
    (sym (c.is_named.ensures p own.0 own.1) ∙ c.if-is_named.false, ap (λ tag. tag_view tag p) c.in-Property.is)
