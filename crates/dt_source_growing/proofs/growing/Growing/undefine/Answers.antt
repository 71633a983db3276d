use Rattle.std.proofs.Common.{◌≡◌, ◌<◌, ℕ, Some, true, length, sym}
use Rattle.dt_model.specs.Names.{Name}
use Rattle.dt_source_growing.specs.Growing.{found, properties_listed, IsSoundGrowing}
use Rattle.dt_source_growing.specs.declared.growing.Growing.{Growing}
use Rattle.dt_source_growing.proofs.Growths.{undefines_nothing}
use Rattle.dt_source_growing.proofs.Listings.{found_is}
use Rattle.dt_source_growing.proofs.growing.Growing.undefine.Goals as goal

-- the property that stands, and where it is found
record IsThere (g : Growing) (i : ℕ) (x : Name) (k : ℕ) : Type 0 where
  inside : k < length g.properties.items
  owner : (properties_listed g.properties.items g.indices).owner k ≡ i
  name : (properties_listed g.properties.items g.indices).name k ≡ x
  stands : (properties_listed g.properties.items g.indices).stands k ≡ true

is_there : (g : Growing) (i : ℕ) (x : Name) (k : ℕ) → IsSoundGrowing g → Some k ≡ found (properties_listed g.properties.items g.indices) i x → IsThere g i x k
is_there g i x k h e =
    let f = found_is (properties_listed g.properties.items g.indices) i x k (sym e) in
    let s = h.has_properties.indexed.sound i x k f.0 in
    record { inside = s.1; owner = s.2; name = s.3; stands = f.1 }

pub drop_property-requires-clause-inside : goal.drop_property-requires-clause-inside
drop_property-requires-clause-inside c = (is_there c.args.self.now c.args.node c.args.name.now c.in-Some.index c.args.self.now.sound c.in-Some.ensures).inside

pub drop_property-requires-clause-stands : goal.drop_property-requires-clause-stands
drop_property-requires-clause-stands c = (is_there c.args.self.now c.args.node c.args.name.now c.in-Some.index c.args.self.now.sound c.in-Some.ensures).stands

pub returns-in-Some : goal.returns-in-Some
returns-in-Some c =
    let t = is_there c.args.self.now c.args.node c.args.name.now c.in-Some.index c.args.self.now.sound c.in-Some.ensures in record { dropped = rw (t.owner, t.name) at c.drop_property.ensures.dropped }

pub returns-in_default : goal.returns-in_default
returns-in_default c =
    let old : Growing = c.args.self.now in record { dropped = undefines_nothing old.nodes.items old.children old.givings.items old.labels.map.entries old.properties.items old.indices c.args.node c.args.name.now (sym c.in_default.ensures) }
