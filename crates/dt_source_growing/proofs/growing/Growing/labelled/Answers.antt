use Rattle.std.proofs.Common.{◌≡◌, ◌<◌, ℕ, Some, get_or, slice_get, vec_len, sym, arith}
use Rattle.std.proofs.lemmas.Option.{slice_get_read, slice_get_within}
use Rattle.dt_model.specs.Names.{Name}
use Rattle.dt_source_growing.specs.Growing.{IsSoundGrowing}
use Rattle.dt_source_growing.specs.Table.{name_entry}
use Rattle.dt_source_growing.specs.declared.growing.Giving.{Giving}
use Rattle.dt_source_growing.specs.declared.growing.Growing.{Growing}
use Rattle.dt_source_growing.proofs.Listings.{giving_of}
use Rattle.dt_source_growing.proofs.Referents.{label_unknown, label_gone, label_there, given_unknown, given_gone}
use Rattle.dt_source_growing.proofs.growing.Growing.labelled.Goals as goal

inside : (g : Growing) → IsSoundGrowing g → (l : Name) (i : ℕ) → Some i ≡ name_entry g.labels.map.entries l → i < vec_len g.givings
inside g h l i e = let x = giving_of g.givings.items i l (h.has_labels.sound l i (sym e)) in omega (arith, g.givings.ok.0, slice_get_within g.givings.items i x.0 x.1)

read_at : (g : Growing) → IsSoundGrowing g → (l : Name) (i : ℕ) (x : Giving) → Some i ≡ name_entry g.labels.map.entries l → x ≡ get_or g.givings.items i x → slice_get g.givings.items i ≡ Some x
read_at g h l i x e read = slice_get_read g.givings.items (vec_len g.givings) i x g.givings.ok.0 (inside g h l i e) read

pub index-requires : goal.index-requires
index-requires c = inside c.args.self.now c.args.self.now.sound c.args.label.now c.in_ok-giving.giving c.in_ok-giving.ensures

pub returns-in_err-giving-clause-named : goal.returns-in_err-giving-clause-named
returns-in_err-giving-clause-named c = λ es w. rw c.from_residual.ensures (label_unknown c.args.self.now c.args.self.now.sound es w c.args.label.now (sym c.in_err-giving.ensures))

pub depth-requires : goal.depth-requires
depth-requires c =
    let g : Growing = c.args.self.now in
    let at : slice_get g.givings.items c.in_ok-giving.giving ≡ Some c.index.result.now = read_at g c.args.self.now.sound c.args.label.now c.in_ok-giving.giving c.index.result.now c.in_ok-giving.ensures c.index.ensures in record { inside = c.args.self.now.sound.has_labels.owned c.in_ok-giving.giving c.index.result.now at }

pub returns-in-Some-clause-named : goal.returns-in-Some-clause-named
returns-in-Some-clause-named c = λ es w.
    let g : Growing = c.args.self.now in
    let at : slice_get g.givings.items c.in_ok-giving.giving ≡ Some c.index.result.now = read_at g c.args.self.now.sound c.args.label.now c.in_ok-giving.giving c.index.result.now c.in_ok-giving.ensures c.index.ensures in
    let p = c.in-Some.ensures in
    (p.0, label_there g c.args.self.now.sound es w c.args.label.now c.in_ok-giving.giving c.index.result.now (sym c.in_ok-giving.ensures) at p.0 p.1, p.1)

pub returns-in-None-clause-named : goal.returns-in-None-clause-named
returns-in-None-clause-named c = λ es w.
    let g : Growing = c.args.self.now in
    let at : slice_get g.givings.items c.in_ok-giving.giving ≡ Some c.index.result.now = read_at g c.args.self.now.sound c.args.label.now c.in_ok-giving.giving c.index.result.now c.in_ok-giving.ensures c.index.ensures in
    label_gone g c.args.self.now.sound es w c.args.label.now c.in_ok-giving.giving c.index.result.now (sym c.in_ok-giving.ensures) at c.in-None.ensures

pub returns-in_err-giving-clause-alone : goal.returns-in_err-giving-clause-alone
returns-in_err-giving-clause-alone c = rw c.from_residual.ensures (given_unknown c.args.self.now c.args.self.now.sound c.args.label.now (sym c.in_err-giving.ensures))

pub returns-in-None-clause-alone : goal.returns-in-None-clause-alone
returns-in-None-clause-alone c =
    let g : Growing = c.args.self.now in
    let at : slice_get g.givings.items c.in_ok-giving.giving ≡ Some c.index.result.now = read_at g c.args.self.now.sound c.args.label.now c.in_ok-giving.giving c.index.result.now c.in_ok-giving.ensures c.index.ensures in
    given_gone g c.args.self.now.sound c.args.label.now c.in_ok-giving.giving c.index.result.now (sym c.in_ok-giving.ensures) at c.in-None.ensures
