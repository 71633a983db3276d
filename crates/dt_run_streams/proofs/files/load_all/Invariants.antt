-- The texts so far are those of the names before the index.
use Rattle.std.proofs.Common.{map}
use Rattle.dt_run_streams.specs.Files.{AreLoadedTo}
use Rattle.dt_run_streams.proofs.files.load_all.Given as goal

abbrev pub invariant-loop-k : goal.invariant-loop-k
invariant-loop-k g l = AreLoadedTo g.F.Files.loads (map (λ name. name.now) l.names) l.k l.initial.files (map (λ text. text.items) l.texts.items) l.files
