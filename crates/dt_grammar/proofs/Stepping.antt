-- One step of reading: from what is wanted to the part that is wanted first, and to what is wanted behind it.
use Rattle.std.proofs.Common.{◌≡◌, Bool}
use Rattle.dt_grammar.specs.Words.{Words}
use Rattle.dt_grammar.specs.Wanted.{Made, Wanted, give, want}
use Rattle.dt_grammar.specs.Descent.{Outcome, found, gives, part_found, Descends, move_at, first, after}
use Rattle.dt_grammar.proofs.Descent.{by_move}

-- it is complete at once
pub given : (g : Wanted) (ws : Words) (taken : Bool) (made : Made) → move_at g (first ws) ≡ give taken made → Descends g ws (found made (after taken ws))
given g ws taken made e = by_move (move_at g (first ws)) (give taken made) ws (found made (after taken ws)) e gives

-- the part is read, and then what is wanted behind it
pub part_then : (g : Wanted) (ws : Words) (taken : Bool) (part : Wanted) (whole : Made → Wanted) (m : Made) (rest : Words) (o : Outcome) →
    move_at g (first ws) ≡ want taken part whole → Descends part (after taken ws) (found m rest) → Descends (whole m) rest o → Descends g ws o
part_then g ws taken part whole m rest o e p q = by_move (move_at g (first ws)) (want taken part whole) ws o e (part_found p q)
