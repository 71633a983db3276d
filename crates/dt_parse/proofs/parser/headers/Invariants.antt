use Rattle.std.proofs.Common.{length}
use Rattle.dt_grammar.specs.Wanted.{Whole, MoreHeaders}
use Rattle.dt_grammar.specs.Faults.{outside}
use Rattle.dt_parse.specs.Leading.{ReadsOn}
use Rattle.dt_parse.proofs.parser.headers.Given as goal

abbrev pub invariant-headers : goal.invariant-headers
invariant-headers l = ReadsOn outside Whole l.fn.cursor outside (MoreHeaders l.plugin) l.cursor

abbrev pub decreases-headers : goal.decreases-headers
decreases-headers l = length l.cursor
