-- The tokens of a tree's text, with their bytes.
use Rattle.std.specs.Prelude.{ℕ, zero, suc, ◌%◌, ◌==◌, List, [], ◌∷◌, ◌++◌, length, codes, if◌then◌else◌}
use Rattle.std.specs.Int.{w32, w64, from_be_bytes, to_be_bytes}
use Rattle.dt_model.specs.Tree.{Property, Forest, no_nodes, branch, Reading}
use Rattle.dt_lex.specs.declared.token.Keyword.{Keyword}
use Rattle.dt_lex.specs.declared.token.Keyword.TheVariants as keyword
use Rattle.dt_lex.specs.declared.token.Mark.{Mark}
use Rattle.dt_lex.specs.declared.token.Mark.TheVariants as mark
use Rattle.dt_lex.specs.declared.token.TokenKind.TheVariants as kind
use Rattle.dt_lex.specs.Modes.{mark_bytes, keyword_bytes}
use Rattle.dt_grammar.specs.Words.{Word, Words}
use Rattle.dt_model.specs.Printed.{hexadecimal, significant, are_texts, quoted}

abbrev pub mark_word : Mark → Word
mark_word m = record { kind = kind.Mark m; bytes = mark_bytes m }

abbrev pub keyword_word : Keyword → Word
keyword_word k = record { kind = kind.Keyword k; bytes = keyword_bytes k }

abbrev pub name_word : List ℕ → Word
name_word name = record { kind = kind.Name; bytes = name }

-- ---- values

-- a text between quotes; so many of its bytes, with quotes and backslashes as they are printed, stand before
abbrev pub text_words : (before : List ℕ) → List ℕ → Words
text_words before [] = []
text_words before (zero ∷ []) = record { kind = kind.Text; bytes = codes "\"" ++ (before ++ codes "\"") } ∷ []
text_words before (zero ∷ b ∷ bytes) =
    record { kind = kind.Text; bytes = codes "\"" ++ (before ++ codes "\"") } ∷ mark_word mark.Comma ∷ text_words [] (b ∷ bytes)
text_words before (suc b ∷ bytes) = text_words (before ++ quoted (suc b)) bytes

-- a cell of four bytes
abbrev pub cell_word : List ℕ → Word
cell_word cell = record { kind = kind.Integer (from_be_bytes w32 cell); bytes = codes "0x" ++ significant (hexadecimal cell) }

abbrev pub cell_words : List ℕ → Words
cell_words (a ∷ b ∷ c ∷ d ∷ bytes) = cell_word (a ∷ b ∷ c ∷ d ∷ []) ∷ cell_words bytes
cell_words _ = []

abbrev pub byte_words : List ℕ → Words
byte_words [] = []
byte_words (b ∷ bytes) = record { kind = kind.Byte b; bytes = hexadecimal (b ∷ []) } ∷ byte_words bytes

abbrev pub value_words : List ℕ → Words
value_words [] = []
value_words (b ∷ bytes) =
    mark_word mark.Equals ∷ (if are_texts (b ∷ bytes) then text_words [] (b ∷ bytes)
    else (if length (b ∷ bytes) % 4 == 0 then mark_word mark.Less ∷ (cell_words (b ∷ bytes) ++ mark_word mark.Greater ∷ [])
    else mark_word mark.OpenBracket ∷ (byte_words (b ∷ bytes) ++ mark_word mark.CloseBracket ∷ [])))

-- ---- the rest

abbrev pub property_words : List Property → Words
property_words [] = []
property_words (p ∷ ps) = name_word p.name ∷ (value_words p.value ++ mark_word mark.Semicolon ∷ property_words ps)

abbrev pub node_words : Forest → Words
node_words no_nodes = []
node_words (branch name properties children siblings) =
    name_word name ∷ mark_word mark.OpenBrace
    ∷ (property_words properties ++ (node_words children ++ mark_word mark.CloseBrace ∷ mark_word mark.Semicolon ∷ node_words siblings))

-- a number of eight bytes, with all its digits
abbrev pub long_word : ℕ → Word
long_word n = record { kind = kind.Integer n; bytes = codes "0x" ++ hexadecimal (to_be_bytes w64 n) }

abbrev pub reservation_words : List (ℕ × ℕ) → Words
reservation_words [] = []
reservation_words (r ∷ rs) =
    keyword_word keyword.Memreserve ∷ long_word r.0 ∷ long_word r.1 ∷ mark_word mark.Semicolon ∷ reservation_words rs

-- of the whole text
abbrev pub words_of_tree : Reading → Words
words_of_tree t =
    keyword_word keyword.Version ∷ mark_word mark.Semicolon
    ∷ (reservation_words t.reservations
    ++ mark_word mark.Slash ∷ mark_word mark.OpenBrace
    ∷ (property_words t.properties ++ (node_words t.children ++ mark_word mark.CloseBrace ∷ mark_word mark.Semicolon ∷ [])))
