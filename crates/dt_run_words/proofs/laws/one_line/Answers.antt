use Rattle.std.proofs.Common.{◌≡◌, List, [], ◌∷◌, inl, inr}
use Rattle.clap.specs.Words.{IsAmong}
use Rattle.clap.specs.declared.error.kind.ErrorKind.{ErrorKind}
use Rattle.dt_run_words.proofs.laws.one_line.Goals as goal

none_among : (kind : ErrorKind) (kinds : List ErrorKind) → kinds ≡ [] → IsAmong kind kinds → ⊥
none_among kind [] is among = absurd among
none_among kind (k ∷ ks) is among = absurd cc

pub returns : goal.returns
returns c words line error is (inl among) = none_among _ _ is.0 among
returns c words line error is (inr none) = none.1 line.job is.1.rows is.1.files.first is.1.command is.1.files.is_first is.1.words
