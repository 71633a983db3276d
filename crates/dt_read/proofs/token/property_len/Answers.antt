use Rattle.std.proofs.Common.{◌≡◌, ◌+◌, Some, refl, ap, subst, ◌∙◌, arith}
use Rattle.dt_model.specs.Lexing.{padded}
use Rattle.std.proofs.lemmas.Option.{same_Some}
use Rattle.dt_read.proofs.Tags.{of_property}
use Rattle.dt_read.proofs.token.property_len.Goals as goal

pub returns-in_err-be32-clause-is : goal.returns-in_err-be32-clause-is
returns-in_err-be32-clause-is c = λ strings. of_property strings c.args.bytes.now _ (λ name size e within. absurd (let z = c.in_err-be32.ensures in cc))

pub returns-then-bytes-len-clause-is : goal.returns-then-bytes-len-clause-is
returns-then-bytes-len-clause-is c = λ strings. of_property strings c.args.bytes.now _ (λ name size e within.
    let same = same_Some c.in_ok-be32.field-0 size (c.in_ok-be32.ensures ∙ e) in
    let short = subst (λ n. c.padded_len-len.result ≡ padded (12 + n)) same c.padded_len-len.ensures in
    absurd (let l = c.if-bytes-len.true in omega arith))

pub returns-clause-is : goal.returns-clause-is
returns-clause-is c = λ strings. of_property strings c.args.bytes.now _ (λ name size e within.
    let same = same_Some c.in_ok-be32.field-0 size (c.in_ok-be32.ensures ∙ e) in
    (_, refl, ap Some (subst (λ n. c.padded_len-len.result ≡ padded (12 + n)) same c.padded_len-len.ensures)))
