use Rattle.dt_decompile_laws.proofs.CutLines.{text_has_tokens}
use Rattle.dt_decompile_laws.proofs.lexing.text_has_tokens.Goals as goal

pub returns : goal.returns
returns c = text_has_tokens
