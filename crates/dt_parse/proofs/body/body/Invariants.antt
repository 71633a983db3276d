use Rattle.std.proofs.Common.{◌≡◌, ◌++◌, List, map, length, false}
use Rattle.dt_grammar.specs.Unchecked.{RawPlace, place_meant}
use Rattle.dt_parse.specs.Nested.{Goes}
use Rattle.dt_parse.proofs.body.body.Given as goal

abbrev pub invariant-loop-depth : goal.invariant-loop-depth
invariant-loop-depth l =
    (done : List RawPlace) × Goes 1 false l.initial.cursor done l.depth.«open» l.depth.late l.cursor × (l.items.places ≡ l.fn.items.places ++ map place_meant done)

abbrev pub decreases-loop-depth : goal.decreases-loop-depth
decreases-loop-depth l = length l.cursor
