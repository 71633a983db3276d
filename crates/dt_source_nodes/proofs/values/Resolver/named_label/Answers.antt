use Rattle.std.proofs.Common.{List, [], ◌++◌, Some, option_map, option_and_then, ap, sym, ◌∙◌, append-nil}
use Rattle.dt_model.specs.Meaning.{Item}
use Rattle.dt_model.specs.Named.{NodeReference}
use Rattle.dt_source_named_tree.specs.declared.named.NamedPiece.{NamedPiece}
use Rattle.dt_source_named_tree.specs.Said.{pieces_said}
use Rattle.dt_source_nodes.proofs.values.Resolver.named_label.Goals as goal

pub returns : goal.returns
returns c = λ es place limit of by.
    let added = c.in_ok-add_cell.ensures es place limit of by in
    let nothing = ap (λ (ps : List NamedPiece). pieces_said ps ++ []) c.new.ensures.items in
    let new = added.2 ∙ ap (λ (xs : List (Item NodeReference)). xs ++ added.0) nothing in
    ap (option_and_then (λ (items : List (Item NodeReference)). option_map (λ (others : List (Item NodeReference)). items ++ others) (Some []))) added.1
    ∙ ap (λ (xs : List (Item NodeReference)). Some xs) (append-nil added.0 ∙ sym new)
