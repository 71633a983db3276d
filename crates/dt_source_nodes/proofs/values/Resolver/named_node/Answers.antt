use Rattle.std.proofs.Common.{◌≡◌, ◌<◌, List, length, map, refl, sym, ap, subst, ◌∙◌}
use Rattle.std.specs.Cow.{cow_slice_items}
use Rattle.dt_model.specs.Lists.{IsIn}
use Rattle.dt_source_growing.specs.declared.growing.Giving.{Giving}
use Rattle.dt_source_growing.specs.declared.growing.Node.{Node}
use Rattle.dt_source_named_tree.specs.declared.named.NamedNode.{NamedNode}
use Rattle.dt_source_nodes.specs.Owned.{group_of}
use Rattle.dt_source_nodes.specs.Listing.{name_of}
use Rattle.dt_source_nodes.specs.Contents.{label_at}
use Rattle.dt_source_nodes.proofs.ContentSteps.{property_within, label_within, node_read}
use Rattle.dt_source_nodes.proofs.values.Resolver.named_node.Goals as goal

pub labels_at-requires : goal.labels_at-requires
labels_at-requires c = λ i among.
    let k = c.args.row.node in
    subst (λ (gs : List Giving). i < length gs) (sym c.deref-2.ensures.value)
    (label_within c.args.self.now.growing.now c.args.self.now.belongings.now k i c.requires.belong (subst (IsIn i) c.of.ensures among))

pub properties_at-requires : goal.properties_at-requires
properties_at-requires c = record {
  inside = λ i among.
      property_within c.args.self.now.growing.now c.args.self.now.belongings.now c.args.row.node i c.requires.belong (subst (IsIn i) c.of-indices.ensures among);
}

pub returns : goal.returns
returns c =
    let g = c.args.self.now.growing.now in
    let b = c.args.self.now.belongings.now in
    let r = c.args.row in
    let indices = c.of-indices.result.now in
    let n : NamedNode = record { parent = r.parent; name = c.in_ok-name.name; labels = c.in_ok-labels.labels; properties = c.in_ok-properties.properties } in
    let name : cow_slice_items n.name ≡ name_of g.nodes.items r.node = c.in_ok-name.ensures ∙ ap (λ (ns : List Node). name_of ns r.node) c.deref.ensures.value in
    let labels : map (λ l. l.now) n.labels.items ≡ map (label_at g.givings.items) (group_of b.labels r.node) =
    c.in_ok-labels.ensures ∙ (ap (λ (gs : List Giving). map (label_at gs) c.of.result.now) c.deref-2.ensures.value ∙ ap (map (label_at g.givings.items)) c.of.ensures) in
    node_read c.args.self.now.unnamed g b r n indices c.of-indices.ensures refl name labels c.in_ok-properties.ensures
