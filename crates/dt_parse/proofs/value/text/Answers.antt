use Rattle.std.proofs.Common.{◌∙◌, ap, ◌++◌, ◌∷◌, [], map}
use Rattle.dt_model.specs.Source.{one}
use Rattle.dt_lex.specs.Texts.{text_bytes}
use Rattle.dt_grammar.specs.Unchecked.{text_item}
use Rattle.dt_grammar.specs.Wanted.{kind_at, bytes_at}
use Rattle.dt_grammar.specs.Descent.{first}
use Rattle.dt_source_items.specs.Gathered.{with_parts}
use Rattle.dt_parse.proofs.ReadItems.{at_text, text_read}
use Rattle.dt_parse.proofs.value.text.Goals as goal

pub returns-clause-ok : goal.returns-clause-ok
returns-clause-ok c =
    let k = at_text (kind_at (first c.args.cursor.now)) c.requires in (
      text_item (bytes_at (first c.args.cursor.now)),
      text_read _ _ k c.advance.ensures,
      c.in_ok-push_string.ensures ∙ ap (λ b. with_parts c.args.items.now (map one (text_bytes b ++ 0 ∷ []))) c.bytes.ensures,
    )
