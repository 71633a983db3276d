use Rattle.dt_grammar.specs.Words.{words_of}
use Rattle.dt_parse.proofs.LexedBytes.{lexed_bytes_of}
use Rattle.dt_parse.proofs.laws.parsed_has_places.Goals as goal

pub returns-clause-places : goal.returns-clause-places
returns-clause-places c = λ text s bytes p.
    c.source_has_places.ensures (words_of text p.tokens) s (lexed_bytes_of text p.tokens bytes p.lexed) p.spelled

pub returns-clause-some : goal.returns-clause-some
returns-clause-some c = λ text s p. c.source_is_nested.ensures.some (words_of text p.tokens) s p.spelled
