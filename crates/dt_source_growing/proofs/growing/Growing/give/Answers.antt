use Rattle.std.proofs.Common.{◌≡◌, length, refl, ◌∙◌, arith}
use Rattle.dt_source_growing.specs.Growing.{shape, shape_of}
use Rattle.dt_source_growing.specs.declared.growing.Growing.{Growing}
use Rattle.dt_source_growing.proofs.Growths.{gives}
use Rattle.dt_source_growing.proofs.Soundness.{labels-given}
use Rattle.dt_source_growing.proofs.Again.{room_pushed}
use Rattle.dt_source_growing.proofs.growing.Growing.give.Goals as goal

pub returns : goal.returns
returns c =
    let old : Growing = c.args.self.now in
    let index : c.len-index.result ≡ length old.givings.items = c.len-index.ensures ∙ old.givings.ok.0 in
    let pushed = room_pushed c.push.result _ c.push.ensures.items (c.push.ensures.succeeds (omega (arith, c.in_ok-reserve.ensures.ok))) c.in_ok-reserve.ensures.items in record {
      given =
          gives old.nodes.items old.children old.properties.items old.indices old.givings.items c.push.new.self.items old.labels.map.entries c.put.new.self.map.entries
          (shape old) _ c.args.self.now.sound.has_labels pushed _ index c.in_ok-put.ensures.ok;
    }

pub invariant_of-self-2 : goal.invariant_of-self-2
invariant_of-self-2 c =
    let old : Growing = c.args.self.now in
    let index : c.len-index.result ≡ length old.givings.items = c.len-index.ensures ∙ old.givings.ok.0 in
    let pushed = room_pushed c.push.result _ c.push.ensures.items (c.push.ensures.succeeds (omega (arith, c.in_ok-reserve.ensures.ok))) c.in_ok-reserve.ensures.items in
    record {
      sound = record {
        has_nodes = c.args.self.now.sound.has_nodes;
        has_properties = c.args.self.now.sound.has_properties;
        has_labels = labels-given (shape old) (shape_of old.nodes.items old.children old.properties.items old.indices c.push.new.self.items c.put.new.self.map.entries) old.givings.items c.push.new.self.items _ old.labels.map.entries c.put.new.self.map.entries _ refl (λ p. refl) refl c.args.self.now.sound.has_labels c.requires.inside c.requires.alone c.in_ok-put.ensures.ok index pushed;
      };
    }
