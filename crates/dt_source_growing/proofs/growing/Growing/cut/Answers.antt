use Rattle.std.proofs.Common.{◌≡◌, ◌<◌, true, false, Some, Option, length, vec_len, slice_get, refl, ap, ◌∙◌, sym, arith}
use Rattle.std.specs.Option.{option_map_or}
use Rattle.std.specs.Vec.{with_item}
use Rattle.dt_source_growing.specs.Shape.{Cuts}
use Rattle.dt_source_growing.specs.Growing.{shape, shape_of, nodes_listed}
use Rattle.dt_source_growing.specs.declared.growing.Node.{Node}
use Rattle.dt_source_growing.specs.declared.growing.Growing.{Growing}
use Rattle.dt_source_growing.proofs.Growths.{cuts}
use Rattle.dt_source_growing.proofs.Found.{node_read}
use Rattle.dt_source_growing.proofs.Soundness.{forest, node-fallen, properties-kept, labels-kept}
use Rattle.dt_source_growing.proofs.Changes.{stood-cut}
use Rattle.dt_source_growing.proofs.growing.Growing.cut.Goals as goal

pub returns : goal.returns
returns c =
    let old : Growing = c.args.self.now in
    let n : Node = c.index_mut.result.now in
    let inside : c.args.node < vec_len old.nodes = omega (arith, old.nodes.ok.0, c.requires.inside) in
    let at : slice_get old.nodes.items c.args.node ≡ Some n = node_read old c.args.node n inside c.index_mut.ensures.value in
    let stands : n.stands ≡ true = sym (ap (λ (o : Option Node). option_map_or (λ n. n.stands) o false) at) ∙ c.requires.stands in record {
      cut =
          cuts old.properties.items old.indices old.givings.items old.labels.map.entries old.nodes.items old.children c.args.node n
          (record { parent = n.parent; name = n.name; stands = false }) c.args.self.now.sound.has_nodes c.requires.not_root at stands refl refl refl;
    }

pub invariant_of-self : goal.invariant_of-self
invariant_of-self c =
    let old : Growing = c.args.self.now in
    let n : Node = c.index_mut.result.now in
    let m : Node = record { parent = n.parent; name = n.name; stands = false } in
    let inside : c.args.node < vec_len old.nodes = omega (arith, old.nodes.ok.0, c.requires.inside) in
    let at : slice_get old.nodes.items c.args.node ≡ Some n = node_read old c.args.node n inside c.index_mut.ensures.value in
    let stands : n.stands ≡ true = sym (ap (λ (o : Option Node). option_map_or (λ n. n.stands) o false) at) ∙ c.requires.stands in
    let made : Cuts (shape old) (shape_of (with_item old.nodes c.args.node m).items old.children old.properties.items old.indices old.givings.items old.labels.map.entries) ((nodes_listed old.nodes.items old.children).owner c.args.node) ((nodes_listed old.nodes.items old.children).name c.args.node) =
    cuts old.properties.items old.indices old.givings.items old.labels.map.entries old.nodes.items old.children c.args.node n (record { parent = n.parent; name = n.name; stands = false }) c.args.self.now.sound.has_nodes c.requires.not_root at stands refl refl refl in
    record {
      sound = record {
        has_nodes = node-fallen old.nodes.items c.args.node n m old.children c.args.self.now.sound.has_nodes at refl refl refl;
        has_properties = properties-kept (length old.nodes.items) (length (with_item old.nodes c.args.node m).items) old.properties.items old.indices (omega (arith, made.size)) c.args.self.now.sound.has_properties;
        has_labels = labels-kept (shape old) (shape_of (with_item old.nodes c.args.node m).items old.children old.properties.items old.indices old.givings.items old.labels.map.entries) old.givings.items old.labels.map.entries (omega (arith, made.size))
            (stood-cut (shape old) (shape_of (with_item old.nodes c.args.node m).items old.children old.properties.items old.indices old.givings.items old.labels.map.entries) (forest old c.args.self.now.sound) _ _ made) c.args.self.now.sound.has_labels;
      };
    }
