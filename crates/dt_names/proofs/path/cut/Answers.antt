use Rattle.std.proofs.Common.{◌≡◌, ◌==◌, false, take_all}
use Rattle.std.proofs.lemmas.Bool.{ne_eqb}
use Rattle.std.proofs.lemmas.List.{take_rest}
use Rattle.std.proofs.lemmas.List.Elements.{All-more}
use Rattle.dt_names.proofs.PathTexts.{parts_read, parts_none}
use Rattle.dt_names.proofs.path.cut.Goals as goal

pub returns-then-byte-eq47 : goal.returns-then-byte-eq47
returns-then-byte-eq47 c =
    rw take_rest (parts_read c.args.bytes.now c.loop-at.at c.loop-at-test.true c.if-byte-eq47.true c.loop-at.invariant)

pub loop-at-preserved : goal.loop-at-preserved
loop-at-preserved c =
    All-more (λ b. (b == 47) ≡ false) c.args.bytes.now c.loop-at.at 0 c.loop-at-test.true c.loop-at.invariant (ne_eqb _ 47 c.if-byte-eq47.false)

pub returns : goal.returns
returns c = parts_none _ (rw (take_all _ _ c.loop-at-test.false) at c.loop-at.invariant)
