use Rattle.dt_source_items.specs.Said.{reference_of, referring}
use Rattle.dt_source_named_tree.specs.Said.{value_said}
use Rattle.dt_source_nodes.proofs.ValueSteps.{result_map, unread_piece, piece_added}
use Rattle.dt_source_nodes.proofs.values.Resolver.add_piece.Goals as goal

pub returns : goal.returns
returns c =
    let p = c.args.piece.now in
    let x = referring p.form (reference_of p.reference) in
    let bs = c.args.before.now in
    result_map c.add_reference.result _ _ _ _
    (λ _ h. piece_added c.args.self.now.unnamed c.args.self.now.growing.now c.args.self.now.belongings.now.places.items bs x (value_said c.args.value.now) (value_said c.add_bytes.new.value) (value_said c.add_reference.new.value) c.in_ok-add_bytes.ensures h)
    (λ e h. unread_piece c.args.self.now.unnamed c.args.self.now.growing.now bs x e h) c.add_reference.ensures
