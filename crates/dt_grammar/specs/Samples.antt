-- Small sources, with their tokens and what they say.
use Rattle.std.specs.Prelude.{ℕ, false, [], ◌∷◌, codes}
use Rattle.dt_model.specs.Source.{by_label, one, number_of, root, delete_node, child, label, property, delete_property, close}
use Rattle.dt_lex.specs.declared.token.TokenKind.{TokenKind}
use Rattle.dt_lex.specs.declared.token.TokenKind.TheVariants as kind
use Rattle.dt_lex.specs.declared.token.Token.{Token}
use Rattle.dt_lex.specs.declared.token.Mark.TheVariants as mark
use Rattle.dt_lex.specs.declared.token.Keyword.TheVariants as keyword
use Rattle.dt_grammar.specs.Words.{Words, words_of}
use Rattle.dt_grammar.specs.Grammar.{Says}

abbrev pub at : TokenKind → ℕ → ℕ → Token
at k start behind = record { kind = k; start = start; «end» = behind }

-- a root with nothing in it
abbrev pub empty_root : Words
empty_root = words_of (codes "/dts-v1/; / { };") (
    at (kind.Keyword keyword.Version) 0 8 ∷ at (kind.Mark mark.Semicolon) 8 9 ∷ at (kind.Mark mark.Slash) 10 11 ∷
    at (kind.Mark mark.OpenBrace) 12 13 ∷ at (kind.Mark mark.CloseBrace) 14 15 ∷ at (kind.Mark mark.Semicolon) 15 16 ∷ [])

abbrev pub empty_root_says : Says
empty_root_says = record { plugin = false; reservations = []; places = root ∷ close ∷ [] }

-- the same without its last token
abbrev pub unended_root : Words
unended_root = words_of (codes "/dts-v1/; / { }") (
    at (kind.Keyword keyword.Version) 0 8 ∷ at (kind.Mark mark.Semicolon) 8 9 ∷ at (kind.Mark mark.Slash) 10 11 ∷
    at (kind.Mark mark.OpenBrace) 12 13 ∷ at (kind.Mark mark.CloseBrace) 14 15 ∷ [])

-- a property behind a child
abbrev pub property_behind_child : Words
property_behind_child = words_of (codes "/dts-v1/; / { a { }; b; };") (
    at (kind.Keyword keyword.Version) 0 8 ∷ at (kind.Mark mark.Semicolon) 8 9 ∷ at (kind.Mark mark.Slash) 10 11 ∷
    at (kind.Mark mark.OpenBrace) 12 13 ∷ at kind.Name 14 15 ∷ at (kind.Mark mark.OpenBrace) 16 17 ∷
    at (kind.Mark mark.CloseBrace) 18 19 ∷ at (kind.Mark mark.Semicolon) 19 20 ∷ at kind.Name 21 22 ∷
    at (kind.Mark mark.Semicolon) 22 23 ∷ at (kind.Mark mark.CloseBrace) 24 25 ∷ at (kind.Mark mark.Semicolon) 25 26 ∷ [])

-- a label, an expression and a reference in cells, and deletions
abbrev pub small_source : Words
small_source = words_of (codes "/dts-v1/; / { a: b { c = <(1 + 2) &a>; /delete-property/ d; }; }; /delete-node/ &a;") (
    at (kind.Keyword keyword.Version) 0 8 ∷ at (kind.Mark mark.Semicolon) 8 9 ∷ at (kind.Mark mark.Slash) 10 11 ∷
    at (kind.Mark mark.OpenBrace) 12 13 ∷ at kind.Label 14 16 ∷ at kind.Name 17 18 ∷ at (kind.Mark mark.OpenBrace) 19 20 ∷
    at kind.Name 21 22 ∷ at (kind.Mark mark.Equals) 23 24 ∷ at (kind.Mark mark.Less) 25 26 ∷
    at (kind.Mark mark.OpenParenthesis) 26 27 ∷ at (kind.Integer 1) 27 28 ∷ at (kind.Mark mark.Plus) 29 30 ∷
    at (kind.Integer 2) 31 32 ∷ at (kind.Mark mark.CloseParenthesis) 32 33 ∷ at kind.LabelReference 34 36 ∷
    at (kind.Mark mark.Greater) 36 37 ∷ at (kind.Mark mark.Semicolon) 37 38 ∷
    at (kind.Keyword keyword.DeleteProperty) 39 56 ∷ at kind.Name 57 58 ∷ at (kind.Mark mark.Semicolon) 58 59 ∷
    at (kind.Mark mark.CloseBrace) 60 61 ∷ at (kind.Mark mark.Semicolon) 61 62 ∷ at (kind.Mark mark.CloseBrace) 63 64 ∷
    at (kind.Mark mark.Semicolon) 64 65 ∷ at (kind.Keyword keyword.DeleteNode) 66 79 ∷ at kind.LabelReference 80 82 ∷
    at (kind.Mark mark.Semicolon) 82 83 ∷ [])

abbrev pub small_source_says : Says
small_source_says = record {
  plugin = false;
  reservations = [];
  places =
      root ∷ child (codes "b") ∷ label (codes "a") ∷
      property (codes "c") (one 0 ∷ one 0 ∷ one 0 ∷ one 3 ∷ number_of (by_label (codes "a")) ∷ []) ∷
      delete_property (codes "d") ∷ close ∷ close ∷ delete_node (by_label (codes "a")) ∷ [];
}
