-- There are no more keys than tokens.
use Rattle.std.proofs.Common.{ℕ, suc, ◌≤◌, Bool, true, false, List, [], ◌∷◌, length, Option, Some, None, arith}
use Rattle.std.specs.Prelude.{if◌then◌else◌}
use Rattle.dt_read.specs.Marks.{Mark}
use Rattle.dt_read.specs.Keys.{Key, key_of, ends, open_behind, with_key, keys_in}
use Rattle.dt_read.specs.declared.keys.Wanted.{Wanted}

length-with_key : (key : Option Key) (keys : List Key) → length (with_key key keys) ≤ suc (length keys)
length-with_key None keys = omega arith
length-with_key (Some key) keys = omega arith

unless : (b : Bool) (keys : List Key) (n : ℕ) → length keys ≤ n → length (if b then [] else keys) ≤ n
unless true keys n l = omega arith
unless false keys n l = l

pub length-keys_in : (wanted : Wanted) (open_nodes : List ℕ) (marks : List Mark) → length (keys_in wanted open_nodes marks) ≤ length marks
length-keys_in wanted open_nodes [] = omega arith
length-keys_in wanted open_nodes (mark ∷ marks) =
    let first = length-with_key (key_of wanted open_nodes mark) (keys_in wanted (open_behind open_nodes mark) marks) in
    let further = length-keys_in wanted (open_behind open_nodes mark) marks in
    unless (ends wanted mark) (with_key (key_of wanted open_nodes mark) (keys_in wanted (open_behind open_nodes mark) marks)) (suc (length marks)) (omega arith)
