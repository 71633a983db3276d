-- What is true of the text of a tree.
use Rattle.std.specs.Prelude.{◌≡◌, ◌<◌, ◌≤◌, ℕ, List, length, Ok}
use Rattle.std.specs.List.{AllByRecursion}
use Rattle.dt_model.specs.Format.{Reads}
use Rattle.dt_model.specs.Instance.{IsTreeOf}
use Rattle.dt_model.specs.Limits.{most_bytes}
use Rattle.dt_model.specs.Source.{raw}
use Rattle.dt_model.specs.Tree.{Reading}
use Rattle.dt_model.specs.Valid.{IsValid, IsWithinLimits}
use Rattle.dt_lex.specs.declared.token.Token.{Token}
use Rattle.dt_lex.specs.Lexing.{IsLexed}
use Rattle.dt_grammar.specs.Grammar.{SpellsSource}
use Rattle.dt_grammar.specs.Words.{words_of}
use Rattle.dt_grammar.specs.Parsed.{IsParsed}
use Rattle.dt_model.specs.Printed.{printed}
use Rattle.dt_decompile_laws.specs.Said.{said, places_of, HasBytes}
use Rattle.dt_decompile_laws.specs.Words.{words_of_tree}

-- the text has a token list
abbrev pub TextHasTokens : Type 0
TextHasTokens = (t : Reading) → IsValid t → HasBytes t →
    (tokens : List Token) × IsLexed (printed t) (Ok tokens) × (words_of (printed t) tokens ≡ words_of_tree t)

-- the grammar spells it
abbrev pub TokensAreSource : Type 0
TokensAreSource = (t : Reading) → IsValid t → HasBytes t → IsWithinLimits t → SpellsSource (words_of_tree t) (said t)

-- so it is read as what it says, where it is no longer than a source may be
abbrev pub TextIsParsed : Type 0
TextIsParsed = (t : Reading) → IsValid t → HasBytes t → IsWithinLimits t → length (printed t) ≤ most_bytes → IsParsed (printed t) (said t)

-- and what it says, taken as it is, is the tree, with boot CPU 0
abbrev pub TextIsTree : Type 0
TextIsTree = (t : Reading) → IsValid t → HasBytes t → IsWithinLimits t → IsTreeOf raw t.reservations (places_of t) (record t { boot_cpu = 0 })

-- the values of a tree that bytes are read as are bytes
abbrev pub ReadTreesHoldBytes : Type 0
ReadTreesHoldBytes = (bytes : List ℕ) (t : Reading) → AllByRecursion (λ b. b < 256) bytes → Reads bytes t → HasBytes t
