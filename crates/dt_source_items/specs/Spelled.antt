-- What a source says.
use Rattle.dt_grammar.specs.Words.{Words}
use Rattle.dt_grammar.specs.WordBytes.{HaveBytes}
use Rattle.dt_grammar.specs.Grammar.{Says, SpellsSource}

-- words that a text may have spell it
abbrev pub IsSpelled : Says → Type 0
IsSpelled s = (ws : Words) × HaveBytes ws × SpellsSource ws s
