-- What was counted and what is left is all, and so is bounded.
use Rattle.std.proofs.Common.{◌≡◌, ◌+◌, ◌<◌, ◌≤◌, ◌^◌, length}
use Rattle.dt_read.specs.Counting.{nodes_in, properties_in}
use Rattle.dt_read.proofs.counts.count_tokens.Given as goal

abbrev pub invariant-loop-tag : goal.invariant-loop-tag
invariant-loop-tag l =
    (l.nodes + nodes_in l.cursor ≡ nodes_in l.fn.cursor) × (l.properties + properties_in l.cursor ≡ properties_in l.fn.cursor)
    × (0 < l.nodes + l.properties → l.nodes + l.properties + length l.cursor ≤ 2 ^ 32)

abbrev pub decreases-loop-tag : goal.decreases-loop-tag
decreases-loop-tag l = length l.cursor
