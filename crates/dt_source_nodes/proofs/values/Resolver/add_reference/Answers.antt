use Rattle.std.proofs.Common.{ℕ, [], ◌∷◌}
use Rattle.dt_model.specs.Event.{Stack}
use Rattle.dt_model.specs.Source.{Events, text_of}
use Rattle.dt_source_items.specs.Said.{reference_of}
use Rattle.dt_source_named_tree.specs.Said.{value_said}
use Rattle.dt_source_nodes.specs.Contents.{named_part}
use Rattle.dt_source_nodes.specs.Resolving.{IsGrownBy, EachNaming, IsAdded, IsUnread}
use Rattle.dt_source_nodes.proofs.ValueSteps.{result_map}
use Rattle.dt_source_nodes.proofs.values.Resolver.add_reference.Goals as goal

pub returns-in-Text : goal.returns-in-Text
returns-in-Text c =
    let g = c.args.self.now.growing.now in
    let u = c.args.self.now.unnamed in
    let x = text_of (reference_of c.args.piece.now.reference) in
    let old = value_said c.args.value.now in
    let new = value_said c.add_text.new.value in
    rw c.in-Text.is
    (result_map c.add_text.result (λ _. (es : Events) (place : Stack → ℕ) → IsGrownBy g es → IsAdded old (named_part u es place x) new)
    (λ _. EachNaming g c.args.self.now.belongings.now.places.items (λ es place. IsAdded old (named_part u es place x) new))
    (IsUnread u g (x ∷ [])) (IsUnread u g (x ∷ [])) (λ _ h es place limit of by. h es place of) (λ e h. h) c.add_text.ensures)

pub returns-in-Cell : goal.returns-in-Cell
returns-in-Cell c = rw c.in-Cell.is c.add_cell.ensures
