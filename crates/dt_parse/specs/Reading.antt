-- What a part of a source is read as, and where it breaks.
use Rattle.std.specs.Prelude.{◌≡◌, ℕ, ◌≤◌, length}
use Rattle.dt_names.specs.declared.fault.FaultKind.{FaultKind}
use Rattle.dt_names.specs.declared.fault.FaultKind.TheVariants as fault
use Rattle.dt_lex.specs.declared.token.Token.{Token}
use Rattle.dt_parse.specs.declared.stop.Stop.{Stop}
use Rattle.dt_grammar.specs.Words.{Words}
use Rattle.dt_grammar.specs.Wanted.{Made, Wanted}
use Rattle.dt_grammar.specs.Descent.{found, Descends}
use Rattle.dt_grammar.specs.Faults.{Around, IsFine, Breaks}

-- a part was read: this was made of the tokens up to those that are left, and no fault shows in it
pub record IsRead (a : Around) (g : Wanted) (ws : Words) (made : Made) (left : Words) : Type 0 where
  pub read : Descends g ws (found made left)
  pub fine : IsFine a made

-- memory was refused, or the part breaks with that fault where so many tokens are left
pub data IsBroken (a : Around) (g : Wanted) (ws : Words) (stop : Stop) : Type 0 where
  no_memory : stop.kind ≡ fault.NoMemory → IsBroken a g ws stop
  broken : (left : Words) → length left ≡ stop.left → Breaks a g ws stop.kind left → IsBroken a g ws stop

-- a token ends inside the text, and not before its start
pub record IsInside (size : ℕ) (t : Token) : Type 0 where
  pub start : t.start ≤ t.«end»
  pub inside : t.«end» ≤ size

-- a fault at which tokens break
abbrev pub IsGrammarFault : FaultKind → Type 0
IsGrammarFault fault.Syntax = Unit {0}
IsGrammarFault fault.BadName = Unit {0}
IsGrammarFault fault.PropertyAfterNode = Unit {0}
IsGrammarFault fault.BadReferenceWidth = Unit {0}
IsGrammarFault fault.DivideByZero = Unit {0}
IsGrammarFault fault.OutOfRange = Unit {0}
IsGrammarFault fault.Limit = Unit {0}
IsGrammarFault _ = ⊥

-- a fault of a text
abbrev pub IsSourceFault : FaultKind → Type 0
IsSourceFault fault.NoMemory = Unit {0}
IsSourceFault fault.BadToken = Unit {0}
IsSourceFault fault.BadInteger = Unit {0}
IsSourceFault fault.BadVersionTag = Unit {0}
IsSourceFault kind = IsGrammarFault kind
