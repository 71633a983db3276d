use Rattle.std.proofs.Common.{◌≡◌, ◌<◌, ℕ, Some, true, length, sym, arith}
use Rattle.dt_model.specs.Names.{Name}
use Rattle.dt_source_growing.specs.Growing.{found, nodes_listed, IsSoundGrowing}
use Rattle.dt_source_growing.specs.declared.growing.Growing.{Growing}
use Rattle.dt_source_growing.proofs.Growths.{cuts_nothing}
use Rattle.dt_source_growing.proofs.Listings.{found_is}
use Rattle.dt_source_growing.proofs.growing.Growing.cut_child.Goals as goal

-- the child that stands, and where it is found
record IsThere (g : Growing) (i : ℕ) (x : Name) (k : ℕ) : Type 0 where
  from : 0 < k
  inside : k < length g.nodes.items
  owner : (nodes_listed g.nodes.items g.children).owner k ≡ i
  name : (nodes_listed g.nodes.items g.children).name k ≡ x
  stands : (nodes_listed g.nodes.items g.children).stands k ≡ true

is_there : (g : Growing) (i : ℕ) (x : Name) (k : ℕ) → IsSoundGrowing g → Some k ≡ found (nodes_listed g.nodes.items g.children) i x → IsThere g i x k
is_there g i x k h e =
    let f = found_is (nodes_listed g.nodes.items g.children) i x k (sym e) in
    let s = h.has_nodes.indexed.sound i x k f.0 in
    record { from = omega (arith, s.0); inside = s.1; owner = s.2; name = s.3; stands = f.1 }

pub cut-requires-clause-not_root : goal.cut-requires-clause-not_root
cut-requires-clause-not_root c = (is_there c.args.self.now c.args.parent c.args.name.now c.in-Some.node c.args.self.now.sound c.in-Some.ensures).from

pub cut-requires-clause-inside : goal.cut-requires-clause-inside
cut-requires-clause-inside c = (is_there c.args.self.now c.args.parent c.args.name.now c.in-Some.node c.args.self.now.sound c.in-Some.ensures).inside

pub cut-requires-clause-stands : goal.cut-requires-clause-stands
cut-requires-clause-stands c = (is_there c.args.self.now c.args.parent c.args.name.now c.in-Some.node c.args.self.now.sound c.in-Some.ensures).stands

pub returns-in-Some : goal.returns-in-Some
returns-in-Some c =
    let t = is_there c.args.self.now c.args.parent c.args.name.now c.in-Some.node c.args.self.now.sound c.in-Some.ensures in record { cut = rw (t.owner, t.name) at c.cut.ensures.cut }

pub returns-in_default : goal.returns-in_default
returns-in_default c =
    let old : Growing = c.args.self.now in record { cut = cuts_nothing old.properties.items old.indices old.givings.items old.labels.map.entries old.nodes.items old.children c.args.parent c.args.name.now (sym c.in_default.ensures) }
