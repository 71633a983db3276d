use Rattle.std.proofs.Common.{◌∷◌, ◌++◌, [], ◌∙◌, ap, append_assoc, List, ℕ}
use Rattle.dt_lex.specs.Texts.{text_bytes}
use Rattle.dt_source_items.proofs.Gathering.{bytes_gathered}
use Rattle.dt_source_items.proofs.items.Items.push_string.Goals as goal

pub returns : goal.returns
returns c =
    let bytes = c.self.inside.bytes.items in
    let text = text_bytes c.args.token.now in
    let pushed = c.in_ok-push.ensures.items ∙ ap (λ (z : List ℕ). z ++ 0 ∷ []) (c.in_ok-push_text.ensures.ok ∙ ap (λ (z : List ℕ). z ++ text) c.in_ok-reserve.ensures.items)
    ∙ append_assoc bytes text (0 ∷ []) in
    rw (pushed, ← c.self.view_is)
    (bytes_gathered c.self.inside.rows.items c.self.inside.named.items c.self.inside.spans.items c.self.inside.pieces.items bytes (text ++ 0 ∷ []) c.self.inside.piece c.self.inside.byte c.self.inside.referred c.self.invariant)
