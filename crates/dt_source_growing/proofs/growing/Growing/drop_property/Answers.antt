use Rattle.std.proofs.Common.{◌≡◌, ◌<◌, true, false, Some, Option, length, refl, ap, ◌∙◌, vec_len, slice_get, sym, arith}
use Rattle.std.specs.Option.{option_map_or}
use Rattle.dt_source_growing.specs.Growing.{shape, shape_of}
use Rattle.dt_source_growing.specs.declared.growing.Property.{Property}
use Rattle.dt_source_growing.specs.declared.growing.Growing.{Growing}
use Rattle.dt_source_growing.proofs.Growths.{undefines}
use Rattle.dt_source_growing.proofs.Found.{property_read}
use Rattle.dt_source_growing.proofs.Soundness.{properties-fallen, labels-kept}
use Rattle.dt_source_growing.proofs.growing.Growing.drop_property.Goals as goal

pub returns : goal.returns
returns c =
    let old : Growing = c.args.self.now in
    let q : Property = c.index-property.result.now in
    let inside : c.args.index < vec_len old.properties = omega (arith, old.properties.ok.0, c.requires.inside) in
    let at : slice_get old.properties.items c.args.index ≡ Some q = property_read old c.args.index q inside c.index-property.ensures in
    let stands : q.stands ≡ true = sym (ap (λ (o : Option Property). option_map_or (λ n. n.stands) o false) at) ∙ c.requires.stands in record {
      dropped =
          undefines old.nodes.items old.children old.givings.items old.labels.map.entries old.properties.items old.indices (length old.nodes.items) c.args.index q
          _ c.args.self.now.sound.has_properties at stands refl refl refl refl c.write.new.things.items c.write.ensures;
    }

pub invariant_of-self : goal.invariant_of-self
invariant_of-self c =
    let old : Growing = c.args.self.now in
    let q : Property = c.index-property.result.now in
    let inside : c.args.index < vec_len old.properties = omega (arith, old.properties.ok.0, c.requires.inside) in
    let at : slice_get old.properties.items c.args.index ≡ Some q = property_read old c.args.index q inside c.index-property.ensures in
    record {
      sound = record {
        has_nodes = c.args.self.now.sound.has_nodes;
        has_properties = properties-fallen (length old.nodes.items) old.properties.items c.write.new.things.items c.args.index q _ old.indices c.args.self.now.sound.has_properties at refl refl refl c.write.ensures;
        has_labels = labels-kept (shape old) (shape_of old.nodes.items old.children c.write.new.things.items old.indices old.givings.items old.labels.map.entries) old.givings.items old.labels.map.entries (omega arith) (λ p i below at. at) c.args.self.now.sound.has_labels;
      };
    }
