use Rattle.std.proofs.Common.{sym, ap, ◌∙◌, drop}
use Rattle.std.proofs.lemmas.List.{take_rest, drop-map}
use Rattle.dt_grammar.specs.Words.{word_of, words_of}
use Rattle.dt_parse.proofs.cursor.Cursor.skip.Goals as goal

pub returns : goal.returns
returns c =
    let text = c.self.inside.text.now in
    let tokens = c.self.inside.tokens.now in
    ap (words_of text) (take_rest tokens c.args.count) ∙ sym (drop-map (word_of text) c.args.count tokens) ∙ ap (drop c.args.count) c.self.view_is
