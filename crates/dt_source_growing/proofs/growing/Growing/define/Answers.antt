use Rattle.std.proofs.Common.{◌≡◌, length, Some, None, refl, sym, ◌∙◌, arith}
use Rattle.dt_source_growing.specs.Growing.{shape, shape_of, found, properties_listed}
use Rattle.dt_source_growing.specs.declared.growing.Growing.{Growing}
use Rattle.dt_source_growing.specs.declared.growing.Property.{Property}
use Rattle.dt_source_growing.proofs.Again.{room_pushed}
use Rattle.dt_source_growing.proofs.Found.{standing_found}
use Rattle.dt_source_growing.proofs.Growths.{defines_again, defines_new}
use Rattle.dt_source_growing.proofs.Soundness.{is_property, properties-pushed, properties-written, labels-kept}
use Rattle.dt_source_growing.proofs.TableLemmas.{put_again}
use Rattle.dt_source_growing.proofs.growing.Growing.define.Goals as goal

pub invariant_of-self-in-Some : goal.invariant_of-self-in-Some
invariant_of-self-in-Some c =
    let old : Growing = c.args.self.now in
    let there : found (properties_listed old.properties.items old.indices) c.args.node c.args.name.now ≡ Some c.in-Some.index =
    standing_found (λ (q : Property). q.node) (λ (q : Property). q.name.now) (λ (q : Property). q.stands) old.properties.items _ old.indices c.args.node c.args.name.now c.in_ok-last.last
    _ c.in_ok-last.ensures.before (c.deref.ensures.value ∙ c.in_ok-reserve.ensures.items) c.standing_property.ensures ∙ c.in-Some.is in
    let q = is_property (length old.nodes.items) old.properties.items old.indices old.sound.has_properties c.args.node c.args.name.now c.in-Some.index there in
    let puts = put_again old.indices c.replace.new.self c.replace-in-Some.new.self c.args.node c.args.name.now _ _
    c.replace-in-Some.result c.replace-in-Some.ensures.ok c.replace-in-Some.ensures.absent c.in_ok-last.ensures.ok in
    let written = rw c.in_ok-reserve.ensures.items at c.write.ensures in
    record {
      sound = record {
        has_nodes = old.sound.has_nodes;
        has_properties = properties-written (length old.nodes.items) old.properties.items c.write.new.things.items c.in-Some.index q.property _ old.indices c.replace-in-Some.new.self c.args.node c.args.name.now _
            old.sound.has_properties q.there (sym q.node) (sym q.name) (sym q.stands) puts there written;
        has_labels = labels-kept (shape old) (shape_of old.nodes.items old.children c.write.new.things.items c.replace-in-Some.new.self old.givings.items old.labels.map.entries) old.givings.items old.labels.map.entries (omega arith) (λ p i below at. at) old.sound.has_labels;
      };
    }

pub invariant_of-self-in-None : goal.invariant_of-self-in-None
invariant_of-self-in-None c =
    let old : Growing = c.args.self.now in
    let absent : found (properties_listed old.properties.items old.indices) c.args.node c.args.name.now ≡ None =
    standing_found (λ (q : Property). q.node) (λ (q : Property). q.name.now) (λ (q : Property). q.stands) old.properties.items _ old.indices c.args.node c.args.name.now c.in_ok-last.last
    _ c.in_ok-last.ensures.before (c.deref.ensures.value ∙ c.in_ok-reserve.ensures.items) c.standing_property.ensures ∙ c.in-None.is in
    let index : c.len-index.result ≡ length old.properties.items = c.len-index.ensures ∙ old.properties.ok.0 in
    let pushed = room_pushed c.push.result _ c.push.ensures.items (c.push.ensures.succeeds (omega (arith, c.in_ok-reserve.ensures.ok))) c.in_ok-reserve.ensures.items in
    record {
      sound = record {
        has_nodes = old.sound.has_nodes;
        has_properties = properties-pushed (length old.nodes.items) old.properties.items c.push.new.self.items _ old.indices c.replace.new.self _ old.sound.has_properties
            pushed c.requires.inside absent c.in_ok-last.ensures.ok index refl;
        has_labels = labels-kept (shape old) (shape_of old.nodes.items old.children c.push.new.self.items c.replace.new.self old.givings.items old.labels.map.entries) old.givings.items old.labels.map.entries (omega arith) (λ p i below at. at) old.sound.has_labels;
      };
    }

pub returns-in_ok-replace-in-Some-clause-defined : goal.returns-in_ok-replace-in-Some-clause-defined
returns-in_ok-replace-in-Some-clause-defined c =
    let old : Growing = c.args.self.now in
    let there : found (properties_listed old.properties.items old.indices) c.args.node c.args.name.now ≡ Some c.in-Some.index =
    standing_found (λ (q : Property). q.node) (λ (q : Property). q.name.now) (λ (q : Property). q.stands) old.properties.items _ old.indices c.args.node c.args.name.now c.in_ok-last.last
    _ c.in_ok-last.ensures.before (c.deref.ensures.value ∙ c.in_ok-reserve.ensures.items) c.standing_property.ensures ∙ c.in-Some.is in
    let q = is_property (length old.nodes.items) old.properties.items old.indices old.sound.has_properties c.args.node c.args.name.now c.in-Some.index there in
    let puts = put_again old.indices c.replace.new.self c.replace-in-Some.new.self c.args.node c.args.name.now _ _
    c.replace-in-Some.result c.replace-in-Some.ensures.ok c.replace-in-Some.ensures.absent c.in_ok-last.ensures.ok in
    let written = rw c.in_ok-reserve.ensures.items at c.write.ensures in
    defines_again old.nodes.items old.children old.givings.items old.labels.map.entries old.properties.items old.indices c.replace-in-Some.new.self c.in-Some.index q.property
    _ c.args.node c.args.name.now _ q.there (sym q.node) (sym q.name) (sym q.stands) puts refl there c.write.new.things.items written

pub returns-in_ok-push-in-None-clause-defined : goal.returns-in_ok-push-in-None-clause-defined
returns-in_ok-push-in-None-clause-defined c =
    let old : Growing = c.args.self.now in
    let absent : found (properties_listed old.properties.items old.indices) c.args.node c.args.name.now ≡ None =
    standing_found (λ (q : Property). q.node) (λ (q : Property). q.name.now) (λ (q : Property). q.stands) old.properties.items _ old.indices c.args.node c.args.name.now c.in_ok-last.last
    _ c.in_ok-last.ensures.before (c.deref.ensures.value ∙ c.in_ok-reserve.ensures.items) c.standing_property.ensures ∙ c.in-None.is in
    let index : c.len-index.result ≡ length old.properties.items = c.len-index.ensures ∙ old.properties.ok.0 in
    let pushed = room_pushed c.push.result _ c.push.ensures.items (c.push.ensures.succeeds (omega (arith, c.in_ok-reserve.ensures.ok))) c.in_ok-reserve.ensures.items in
    defines_new old.nodes.items old.children old.givings.items old.labels.map.entries old.properties.items c.push.new.self.items old.indices c.replace.new.self
    (length old.nodes.items) _ _ old.sound.has_properties pushed c.in_ok-last.ensures.ok index refl absent
