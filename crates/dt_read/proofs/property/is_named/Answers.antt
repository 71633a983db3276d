use Rattle.std.proofs.Common.{not, length, take, drop, sym, ap, ◌∙◌, arith}
use Rattle.std.specs.Str.{bytes_eq}
use Rattle.dt_model.proofs.Tests.{bytes_eq_refl}
use Rattle.dt_model.specs.Lexing.{text_in}
use Rattle.dt_read.proofs.PropertyTokens.{parts_of, other_name, own_name, text_is}
use Rattle.dt_read.proofs.property.is_named.Goals as goal

pub from-text-requires : goal.from-text-requires
from-text-requires c =
    let parts = parts_of c.args.strings.now c.args.bytes.now c.requires.0 c.requires.1 c.requires.2 in
    let inside = parts.inside in
    let at = c.number.ensures.value in
    omega arith

pub returns-then-text-name : goal.returns-then-text-name
returns-then-text-name c = λ p n t.
    let parts = parts_of c.args.strings.now c.args.bytes.now p n t in
    let text = c.from-text.ensures ∙ ap (λ at. drop at c.args.strings.now) c.number.ensures.value in
    let size = ap length text in
    sym (other_name c.args.strings.now _ p.name c.args.name.now parts.name (λ long same. absurd (let l = c.if-text-name.true in omega arith)))

pub returns-then-ne : goal.returns-then-ne
returns-then-ne c = λ p n t.
    let parts = parts_of c.args.strings.now c.args.bytes.now p n t in
    let text = c.from-text.ensures ∙ ap (λ at. drop at c.args.strings.now) c.number.ensures.value in
    sym (other_name c.args.strings.now _ p.name c.args.name.now parts.name (λ long same.
    let equal = ap (λ front. bytes_eq front c.args.name.now) (ap (take (length c.args.name.now)) text ∙ same) ∙ bytes_eq_refl c.args.name.now in
    absurd (let z = c.if-ne.ensures ∙ ap not equal in cc)))

pub returns-in-Some : goal.returns-in-Some
returns-in-Some c = λ p n t.
    let parts = parts_of c.args.strings.now c.args.bytes.now p n t in
    let text = c.from-text.ensures ∙ ap (λ at. drop at c.args.strings.now) c.number.ensures.value in
    let own = own_name c.args.strings.now _ p.name c.in-Some.text.now parts.name (c.in-Some.ensures.text ∙ ap text_in text) in
    c.eq.ensures ∙ ap (bytes_eq c.args.name.now) own

pub returns-in-None : goal.returns-in-None
returns-in-None c = λ p n t.
    let parts = parts_of c.args.strings.now c.args.bytes.now p n t in
    let text = c.from-text.ensures ∙ ap (λ at. drop at c.args.strings.now) c.number.ensures.value in
    absurd (let z = c.in-None.ensures.text ∙ ap text_in text ∙ text_is c.args.strings.now _ p.name parts.name in cc)
