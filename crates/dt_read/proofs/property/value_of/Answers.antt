use Rattle.std.proofs.Common.{take, drop, ap, ◌∙◌, arith}
use Rattle.dt_read.proofs.PropertyTokens.{parts_of}
use Rattle.dt_read.proofs.property.value_of.Goals as goal

pub part-requires : goal.part-requires
part-requires c =
    let parts = parts_of c.requires.0 c.args.bytes.now c.requires.1 c.requires.2 c.requires.3 in
    let within = parts.within in
    let size = c.number.ensures.value ∙ parts.size in
    omega arith

pub returns : goal.returns
returns c = λ strings p n t.
    let parts = parts_of strings c.args.bytes.now p n t in
    c.part.ensures ∙ ap (λ k. take k (drop 12 c.args.bytes.now)) (c.number.ensures.value ∙ parts.size) ∙ parts.value
