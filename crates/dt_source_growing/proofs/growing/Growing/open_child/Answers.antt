use Rattle.std.proofs.Common.{◌≡◌, length, Some, None, inl, refl, ◌∙◌, arith}
use Rattle.dt_source_growing.specs.Grown.{name_said}
use Rattle.dt_source_growing.specs.Shape.{AddsChild}
use Rattle.dt_source_growing.specs.Growing.{shape, shape_of, found, nodes_listed}
use Rattle.dt_source_growing.specs.declared.growing.Growing.{Growing}
use Rattle.dt_source_growing.specs.declared.growing.Node.{Node}
use Rattle.dt_source_growing.proofs.Again.{room_pushed, sound-again}
use Rattle.dt_source_growing.proofs.Changes.{stood-added}
use Rattle.dt_source_growing.proofs.Found.{standing_found}
use Rattle.dt_source_growing.proofs.Growths.{adds_child}
use Rattle.dt_source_growing.proofs.Soundness.{forest, nodes-pushed, properties-kept, labels-kept}
use Rattle.dt_source_growing.proofs.TableLemmas.{put_again}
use Rattle.dt_source_growing.proofs.growing.Growing.open_child.Goals as goal

pub invariant_of-self-in-Some : goal.invariant_of-self-in-Some
invariant_of-self-in-Some c =
    let old : Growing = c.args.self.now in
    let name = name_said c.args.name in
    let there : found (nodes_listed old.nodes.items old.children) c.args.parent name ≡ Some c.in-Some.index =
    standing_found (λ (n : Node). n.parent) (λ (n : Node). name_said n.name) (λ (n : Node). n.stands) old.nodes.items _ old.children c.args.parent name c.in_ok-last.last
    _ (rw c.bytes.ensures at c.in_ok-last.ensures.before) (c.deref.ensures.value ∙ c.in_ok-reserve.ensures.items) c.standing_node.ensures ∙ c.in-Some.is in
    let puts = put_again old.children c.replace.new.self c.replace-in-Some.new.self c.args.parent name _ _ c.replace-in-Some.result
    (rw c.bytes-in-Some.ensures at c.replace-in-Some.ensures.ok) (rw c.bytes-in-Some.ensures at c.replace-in-Some.ensures.absent) (rw c.bytes.ensures at c.in_ok-last.ensures.ok) in
    rw c.in_ok-reserve.ensures.items (record { sound = sound-again old old.sound c.args.parent name c.args.item c.replace-in-Some.new.self there puts })

pub invariant_of-self-in-None : goal.invariant_of-self-in-None
invariant_of-self-in-None c =
    let old : Growing = c.args.self.now in
    let name = name_said c.args.name in
    let absent : found (nodes_listed old.nodes.items old.children) c.args.parent name ≡ None =
    standing_found (λ (n : Node). n.parent) (λ (n : Node). name_said n.name) (λ (n : Node). n.stands) old.nodes.items _ old.children c.args.parent name c.in_ok-last.last
    _ (rw c.bytes.ensures at c.in_ok-last.ensures.before) (c.deref.ensures.value ∙ c.in_ok-reserve.ensures.items) c.standing_node.ensures ∙ c.in-None.is in
    let index : c.len-index.result ≡ length old.nodes.items = c.len-index.ensures ∙ old.nodes.ok.0 in
    let pushed = room_pushed c.push.result _ c.push.ensures.items (c.push.ensures.succeeds (omega (arith, c.in_ok-reserve.ensures.ok))) c.in_ok-reserve.ensures.items in
    let puts = rw c.bytes.ensures at c.in_ok-last.ensures.ok in
    let made : AddsChild (shape old) (shape_of c.push.new.self.items c.replace.new.self old.properties.items old.indices old.givings.items old.labels.map.entries) c.args.parent name c.args.item =
    adds_child old.properties.items old.indices old.givings.items old.labels.map.entries old.nodes.items c.push.new.self.items old.children c.replace.new.self
    _ _ old.sound.has_nodes pushed puts index refl in
    record {
      sound = record {
        has_nodes = nodes-pushed old.nodes.items c.push.new.self.items _ old.children c.replace.new.self _ old.sound.has_nodes pushed c.requires.inside absent puts index refl;
        has_properties = properties-kept (length old.nodes.items) (length c.push.new.self.items) old.properties.items old.indices (omega (arith, made.size)) old.sound.has_properties;
        has_labels = labels-kept (shape old) (shape_of c.push.new.self.items c.replace.new.self old.properties.items old.indices old.givings.items old.labels.map.entries) old.givings.items old.labels.map.entries (omega (arith, made.size)) (stood-added (shape old) (shape_of c.push.new.self.items c.replace.new.self old.properties.items old.indices old.givings.items old.labels.map.entries) (forest old old.sound) c.args.parent name c.args.item made) old.sound.has_labels;
      };
    }

pub returns-in_ok-push-in-None-clause-opened : goal.returns-in_ok-push-in-None-clause-opened
returns-in_ok-push-in-None-clause-opened c =
    let old : Growing = c.args.self.now in
    let name = name_said c.args.name in
    let absent : found (nodes_listed old.nodes.items old.children) c.args.parent name ≡ None =
    standing_found (λ (n : Node). n.parent) (λ (n : Node). name_said n.name) (λ (n : Node). n.stands) old.nodes.items _ old.children c.args.parent name c.in_ok-last.last
    _ (rw c.bytes.ensures at c.in_ok-last.ensures.before) (c.deref.ensures.value ∙ c.in_ok-reserve.ensures.items) c.standing_node.ensures ∙ c.in-None.is in
    let index : c.len-index.result ≡ length old.nodes.items = c.len-index.ensures ∙ old.nodes.ok.0 in
    let pushed = room_pushed c.push.result _ c.push.ensures.items (c.push.ensures.succeeds (omega (arith, c.in_ok-reserve.ensures.ok))) c.in_ok-reserve.ensures.items in
    let puts = rw c.bytes.ensures at c.in_ok-last.ensures.ok in
    let made : AddsChild (shape old) (shape_of c.push.new.self.items c.replace.new.self old.properties.items old.indices old.givings.items old.labels.map.entries) c.args.parent name c.args.item =
    adds_child old.properties.items old.indices old.givings.items old.labels.map.entries old.nodes.items c.push.new.self.items old.children c.replace.new.self
    _ _ old.sound.has_nodes pushed puts index refl in
    inl (absent, made, index)
