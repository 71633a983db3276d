use Rattle.std.proofs.Common.{Some, refl, sym, ap, subst, ◌∙◌}
use Rattle.dt_model.specs.Format.{end_node, nop, end_tree}
use Rattle.dt_model.specs.Lexing.{begin_in, property_in}
use Rattle.std.specs.Option.{IfSome}
use Rattle.std.proofs.lemmas.Option.{IfSome_then, same_Some}
use Rattle.dt_read.specs.View.{IsTagIn}
use Rattle.dt_read.specs.declared.token.Tag.TheVariants.{BeginNode}
use Rattle.dt_read.proofs.Tags.{of_number, of_no_number, any_property}
use Rattle.dt_read.proofs.token.tag_at.Goals as goal

pub returns-in_err-be32-clause-is : goal.returns-in_err-be32-clause-is
returns-in_err-be32-clause-is c = λ strings. of_no_number strings c.args.bytes.now _ (sym c.in_err-be32.ensures)

pub returns-in_err-name-in-1-clause-is : goal.returns-in_err-name-in-1-clause-is
returns-in_err-name-in-1-clause-is c = λ strings. of_number strings c.args.bytes.now 1 (begin_in c.args.bytes.now) _ (sym c.in_ok-be32.ensures ∙ ap Some c.in-1.is) refl (subst (λ o. IfSome o (IsTagIn c.from_residual-in_err-name-in-1.result)) c.in_err-name-in-1.ensures.is tt)

pub returns-in_ok-name-in-1-clause-is : goal.returns-in_ok-name-in-1-clause-is
returns-in_ok-name-in-1-clause-is c = λ strings. of_number strings c.args.bytes.now 1 (begin_in c.args.bytes.now) _ (sym c.in_ok-be32.ensures ∙ ap Some c.in-1.is) refl
    (subst (λ o. IfSome o (IsTagIn (Some (BeginNode c.in_ok-name-in-1.name, c.in_ok-name-in-1.len)))) c.in_ok-name-in-1.ensures.is (any_property, refl, refl))

pub returns-in-2-clause-is : goal.returns-in-2-clause-is
returns-in-2-clause-is c = λ strings. of_number strings c.args.bytes.now 2 (Some (end_node, 4)) _ (sym c.in_ok-be32.ensures ∙ ap Some c.in-2.is) refl (any_property, refl, refl)

pub returns-in_err-property_len-in-3-clause-is : goal.returns-in_err-property_len-in-3-clause-is
returns-in_err-property_len-in-3-clause-is c = λ strings. of_number strings c.args.bytes.now 3 (property_in strings c.args.bytes.now) _ (sym c.in_ok-be32.ensures ∙ ap Some c.in-3.is) refl
    (IfSome_then (property_in strings c.args.bytes.now) (c.in_err-property_len-in-3.ensures.is strings) (λ r h. absurd (let none = h.2 in cc)))

pub returns-in_ok-property_len-in-3-clause-is : goal.returns-in_ok-property_len-in-3-clause-is
returns-in_ok-property_len-in-3-clause-is c = λ strings. of_number strings c.args.bytes.now 3 (property_in strings c.args.bytes.now) _ (sym c.in_ok-be32.ensures ∙ ap Some c.in-3.is) refl
    (IfSome_then (property_in strings c.args.bytes.now) (c.in_ok-property_len-in-3.ensures.is strings) (λ r h. (h.0, h.1, same_Some _ _ h.2)))

pub returns-in-4-clause-is : goal.returns-in-4-clause-is
returns-in-4-clause-is c = λ strings. of_number strings c.args.bytes.now 4 (Some (nop, 4)) _ (sym c.in_ok-be32.ensures ∙ ap Some c.in-4.is) refl (any_property, refl, refl)

pub returns-in-9-clause-is : goal.returns-in-9-clause-is
returns-in-9-clause-is c = λ strings. of_number strings c.args.bytes.now 9 (Some (end_tree, 4)) _ (sym c.in_ok-be32.ensures ∙ ap Some c.in-9.is) refl (any_property, refl, refl)
