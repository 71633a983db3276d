-- The places of tokens, and what a fault says of a text's tokens.
use Rattle.std.specs.Prelude.{ℕ, ◌<◌, ◌≤◌, List, [], ◌∷◌, Some, None}
use Rattle.dt_names.specs.declared.fault.Fault.{Fault}
use Rattle.dt_names.specs.declared.fault.FaultKind.{FaultKind}
use Rattle.dt_names.specs.declared.fault.FaultKind.TheVariants as fault
use Rattle.dt_lex.specs.declared.token.Token.{Token}
use Rattle.dt_lex.specs.declared.token.Flaw.{Flaw}
use Rattle.dt_lex.specs.declared.token.Flaw.TheVariants.{BadToken, BadInteger}
use Rattle.dt_lex.specs.Lexing.{FirstFlaw}

-- each token begins at or behind the end of the one before it, has a byte or more, and ends inside the text
abbrev pub AreSpans : (from to : ℕ) → List Token → Type 0
AreSpans from to [] = Unit {0}
AreSpans from to (t ∷ ts) = (from ≤ t.start) × (t.start < t.«end») × (t.«end» ≤ to) × AreSpans t.«end» to ts

abbrev pub kind_of : Flaw → FaultKind
kind_of BadToken = fault.BadToken
kind_of BadInteger = fault.BadInteger

-- the fault for a text's first flaw
abbrev pub fault_of : FirstFlaw → Fault
fault_of f = record { kind = kind_of f.flaw; at = Some f.at }

abbrev pub no_memory : Fault
no_memory = record { kind = fault.NoMemory; at = None }
