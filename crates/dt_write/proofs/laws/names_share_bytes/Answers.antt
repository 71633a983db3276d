use Rattle.dt_model.specs.Format.{IsText}
use Rattle.dt_model.proofs.Tests.{each_in}
use Rattle.dt_write.specs.Written.{names_of}
use Rattle.dt_write.proofs.Kept.{in_first, held}
use Rattle.dt_write.proofs.Shortest.{shortest, no_longer}
use Rattle.dt_write.proofs.WrittenReads.{names_are_texts, names_are_distinct}
use Rattle.dt_write.proofs.laws.names_share_bytes.Goals as goal

pub returns-clause-first : goal.returns-clause-first
returns-clause-first c t name valid i = let texts = names_are_texts t valid in in_first (names_of t) name (each_in IsText (names_of t) name texts i) texts i

pub returns-clause-held : goal.returns-clause-held
returns-clause-held c t name valid i = let texts = names_are_texts t valid in held (names_of t) name (each_in IsText (names_of t) name texts i) texts i

pub returns-clause-shortest : goal.returns-clause-shortest
returns-clause-shortest c t strings valid all = shortest (names_of t) strings (names_are_distinct t) (names_are_texts t valid) all

pub returns-clause-not_longer : goal.returns-clause-not_longer
returns-clause-not_longer c t = no_longer (names_of t) (names_of t)
