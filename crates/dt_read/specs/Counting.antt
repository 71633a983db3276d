-- How many nodes begin and properties stand among some tokens.
use Rattle.std.specs.Prelude.{ℕ, ◌+◌, List, [], ◌∷◌}
use Rattle.dt_read.specs.Marks.{Mark, begin_mark, end_mark, prop_mark, nop_mark, last_mark}

abbrev pub nodes_in : List Mark → ℕ
nodes_in [] = 0
nodes_in (begin_mark place name ∷ marks) = 1 + nodes_in marks
nodes_in (end_mark ∷ marks) = nodes_in marks
nodes_in (prop_mark p ∷ marks) = nodes_in marks
nodes_in (nop_mark ∷ marks) = nodes_in marks
nodes_in (last_mark ∷ marks) = nodes_in marks

abbrev pub properties_in : List Mark → ℕ
properties_in [] = 0
properties_in (begin_mark place name ∷ marks) = properties_in marks
properties_in (end_mark ∷ marks) = properties_in marks
properties_in (prop_mark p ∷ marks) = 1 + properties_in marks
properties_in (nop_mark ∷ marks) = properties_in marks
properties_in (last_mark ∷ marks) = properties_in marks
