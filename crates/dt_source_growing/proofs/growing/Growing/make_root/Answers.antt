use Rattle.dt_source_growing.specs.declared.growing.Growing.{Growing}
use Rattle.dt_source_growing.proofs.Growths.{makes_root}
use Rattle.dt_source_growing.proofs.Again.{sound-root}
use Rattle.dt_source_growing.proofs.growing.Growing.make_root.Goals as goal

pub returns : goal.returns
returns c =
    let old : Growing = c.args.self.now in record {
      made =
          makes_root old.properties.items old.indices old.givings.items old.labels.map.entries old.nodes.items c.push.new.self.items old.children
          _ c.args.self.now.sound.has_nodes c.requires.empty c.in_ok-push.ensures.items;
    }

pub invariant_of-self : goal.invariant_of-self
invariant_of-self c = record { sound = sound-root c.args.self.now c.args.self.now.sound c.requires.empty c.push.new.self.items c.push.result _ c.push.ensures.items }
