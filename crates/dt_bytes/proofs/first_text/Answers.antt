use Rattle.std.proofs.Common.{sym, ap, ◌∙◌, take}
use Rattle.std.specs.Option.{option_map, option_copied}
use Rattle.dt_bytes.proofs.Texts.{text_found}
use Rattle.dt_bytes.proofs.first_text.Goals as goal

pub returns-in_err-len-clause-text : goal.returns-in_err-len-clause-text
returns-in_err-len-clause-text c =
    let bytes = c.args.bytes.now in
    ap option_copied c.from_residual.ensures ∙ sym (ap (option_map (λ len. take len bytes)) c.in_err-len.was)
    ∙ text_found bytes c.memchr.result c.memchr.ensures

pub returns-clause-text : goal.returns-clause-text
returns-clause-text c =
    let bytes = c.args.bytes.now in
    sym (ap (option_map (λ len. take len bytes)) c.in_ok-len.was) ∙ text_found bytes c.memchr.result c.memchr.ensures
