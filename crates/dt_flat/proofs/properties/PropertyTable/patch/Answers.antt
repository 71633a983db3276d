use Rattle.std.proofs.Common.{◌≡◌, ◌<◌, ◌∙◌, sym, ap, ℕ, List, length, None, arith}
use Rattle.std.proofs.lemmas.List.{length-set}
use Rattle.dt_model.specs.Applied.{with_cell}
use Rattle.dt_flat.specs.Rows.{held, put, value_held}
use Rattle.dt_flat.proofs.TableLemmas.{place-within, value-none, value-place, value-there, put-place}
use Rattle.dt_flat.proofs.ValueLemmas.{same_some}
use Rattle.dt_flat.proofs.properties.PropertyTable.patch.Goals as goal

pub unreachable-requires : goal.unreachable-requires
unreachable-requires c =
    let none : value_held c.args.node c.args.name c.args.self.now ≡ None =
    ap (value_held c.args.node c.args.name) (sym c.self.view_is) ∙ value-none c.args.node c.args.name c.self.inside.rows c.self.inside.values c.self.invariant (sym c.in_default.ensures) in
    let some = c.requires.1 in
    cc

pub patch-requires : goal.patch-requires
patch-requires c =
    let lt : c.in-Some.place < length c.self.inside.values = omega (arith, place-within c.args.node c.args.name c.in-Some.place c.self.inside.rows (sym c.in-Some.ensures), c.self.invariant) in
    let there = value-there c.in-Some.place c.self.inside.values lt in
    let held = value-place c.args.node c.args.name c.in-Some.place c.self.inside.rows c.self.inside.values there.0 (sym c.in-Some.ensures) there.1 in
    let same = same_some there.0 c.requires.0 (sym held ∙ ap (value_held c.args.node c.args.name) c.self.view_is ∙ c.requires.1) in
    (there.0, there.1, omega (arith, c.requires.2, ap (λ (v : List ℕ). length v) same))

pub invariant_of-self : goal.invariant_of-self
invariant_of-self c =
    let lt : c.in-Some.place < length c.self.inside.values = omega (arith, place-within c.args.node c.args.name c.in-Some.place c.self.inside.rows (sym c.in-Some.ensures), c.self.invariant) in
    let there = value-there c.in-Some.place c.self.inside.values lt in
    ap (λ (vs : List (List ℕ)). length vs) (c.patch.ensures there.0 there.1) ∙ length-set c.self.inside.values c.in-Some.place (with_cell there.0 c.args.offset c.args.number) ∙ c.self.invariant

pub returns : goal.returns
returns c value is =
    let lt : c.in-Some.place < length c.self.inside.values = omega (arith, place-within c.args.node c.args.name c.in-Some.place c.self.inside.rows (sym c.in-Some.ensures), c.self.invariant) in
    let there = value-there c.in-Some.place c.self.inside.values lt in
    let had = value-place c.args.node c.args.name c.in-Some.place c.self.inside.rows c.self.inside.values there.0 (sym c.in-Some.ensures) there.1 in
    let same = same_some there.0 value (sym had ∙ ap (value_held c.args.node c.args.name) c.self.view_is ∙ is) in
    ap (held c.self.inside.rows) (c.patch.ensures there.0 there.1)
    ∙ put-place c.args.node c.args.name c.in-Some.place c.self.inside.rows c.self.inside.values (with_cell there.0 c.args.offset c.args.number) c.self.invariant (sym c.in-Some.ensures)
    ∙ (λ i. put (c.self.view_is i) c.args.node c.args.name (with_cell (same i) c.args.offset c.args.number))
