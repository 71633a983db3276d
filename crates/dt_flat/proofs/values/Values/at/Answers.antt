use Rattle.std.proofs.Common.{◌<◌, ◌∙◌, sym, ap, ℕ, List, Some, length, slice_get, arith}
use Rattle.dt_flat.specs.Values.{cut}
use Rattle.dt_flat.proofs.ValueLemmas.{length-cuts, cut-at, span-within}
use Rattle.dt_flat.proofs.values.Values.at.Goals as goal

pub index-requires : goal.index-requires
index-requires c = omega (arith, c.requires, length-cuts c.self.inside.bytes.items c.self.inside.spans.items, ap (λ (vs : List (List ℕ)). length vs) c.self.view_is)

pub part-requires : goal.part-requires
part-requires c =
    let lt : c.args.place < length c.self.inside.spans.items = omega (arith, c.requires, length-cuts c.self.inside.bytes.items c.self.inside.spans.items, ap (λ (vs : List (List ℕ)). length vs) c.self.view_is) in
    let within = span-within (length c.self.inside.bytes.items) c.self.inside.spans.items c.args.place c.index.result.now lt c.index.ensures c.self.invariant.within in
    omega (arith, within, ap (λ (xs : List ℕ). length xs) c.deref.ensures.value)

pub returns : goal.returns
returns c =
    let lt : c.args.place < length c.self.inside.spans.items = omega (arith, c.requires, length-cuts c.self.inside.bytes.items c.self.inside.spans.items, ap (λ (vs : List (List ℕ)). length vs) c.self.view_is) in
    ap (λ (vs : List (List ℕ)). slice_get vs c.args.place) (sym c.self.view_is) ∙ cut-at c.self.inside.bytes.items c.self.inside.spans.items c.args.place c.index.result.now lt c.index.ensures
    ∙ ap (λ (v : List ℕ). Some v) (sym (c.part.ensures ∙ ap (λ (xs : List ℕ). cut xs c.index.result.now) c.deref.ensures.value))
