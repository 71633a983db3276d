use Rattle.std.proofs.Common.{◌≡◌, ◌++◌, ℕ, List, map, length}
use Rattle.dt_grammar.specs.Words.{Words}
use Rattle.dt_grammar.specs.Unchecked.{RawPlace, place_meant, all_but_last}
use Rattle.dt_grammar.specs.Strict.{AreLabelTexts}
use Rattle.dt_grammar.specs.Wanted.{OneStatement, made_places}
use Rattle.dt_grammar.specs.Faults.{outside}
use Rattle.dt_parse.specs.Reading.{IsRead}
use Rattle.dt_parse.specs.Starts.{StatementsFollow}
use Rattle.dt_parse.proofs.statement.statements.Given as goal

abbrev pub invariant-statements : goal.invariant-statements
invariant-statements l =
    (ls : List (List ℕ)) → l.fn.names.items ≡ map all_but_last ls → AreLabelTexts ls →
    (ms : List (List ℕ)) × (ws : Words) × (done : List RawPlace) × (ps : List RawPlace) × StatementsFollow ls l.fn.cursor done ms ws × IsRead outside (OneStatement ms) ws (made_places ps) l.cursor
    × (l.items.places ≡ l.fn.items.places ++ map place_meant (done ++ ps))

abbrev pub decreases-statements : goal.decreases-statements
decreases-statements l = length l.cursor
