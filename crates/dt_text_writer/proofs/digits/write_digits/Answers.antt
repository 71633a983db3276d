use Rattle.std.proofs.Common.{◌∙◌}
use Rattle.dt_text_writer.proofs.HexDigits.{encoded, on_ok}
use Rattle.dt_text_writer.proofs.digits.write_digits.Goals as goal

pub returns : goal.returns
returns c =
    let e = c.encode_to_slice.ensures in
    on_ok _ _ (e.fits.1 c.requires) e.written ∙ encoded c.args.bytes.now
