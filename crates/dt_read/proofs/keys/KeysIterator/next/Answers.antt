use Rattle.std.proofs.Common.{sym, ◌∙◌}
use Rattle.dt_read.proofs.keys.KeysIterator.next.Goals as goal

pub key_at-key-requires : goal.key_at-key-requires
key_at-key-requires c = λ e. c.in_default.not-Phandles (sym c.loop-place.invariant.2 ∙ e)
