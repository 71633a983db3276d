use Rattle.std.proofs.Common.{◌≡◌, ◌<◌, ◌+◌, ◌++◌, ◌∙◌, sym, ap, ℕ, List, length, take, drop, set, slice_get, arith}
use Rattle.dt_model.specs.Meaning.{cell}
use Rattle.dt_flat.specs.Values.{cut, cuts, AreCuts}
use Rattle.dt_flat.proofs.ValueLemmas.{length-cuts, cut-at, cut-length, span-within, index-of, same_some, patched, with_bytes}
use Rattle.dt_flat.proofs.values.Values.patch.Goals as goal

pub index-requires : goal.index-requires
index-requires c =
    let b = c.self.inside.bytes.items in
    let ss = c.self.inside.spans.items in
    let lt : c.args.place < length ss = index-of (cuts b ss) c.args.place c.requires.0 (ap (λ (vs : List (List ℕ)). slice_get vs c.args.place) c.self.view_is ∙ c.requires.1) (length ss) (length-cuts b ss) in
    omega (arith, lt)

pub overflow_add-start : goal.overflow_add-start
overflow_add-start c =
    let b = c.self.inside.bytes.items in
    let ss = c.self.inside.spans.items in
    let s = c.index.result.now in
    let lt : c.args.place < length ss = index-of (cuts b ss) c.args.place c.requires.0 (ap (λ (vs : List (List ℕ)). slice_get vs c.args.place) c.self.view_is ∙ c.requires.1) (length ss) (length-cuts b ss) in
    let here = same_some (cut b s) c.requires.0 (sym (cut-at b ss c.args.place s lt c.index.ensures) ∙ ap (λ (vs : List (List ℕ)). slice_get vs c.args.place) c.self.view_is ∙ c.requires.1) in
    let within = span-within (length b) ss c.args.place s lt c.index.ensures c.self.invariant.within in
    let size : length c.requires.0 ≡ s.len = ap (λ (v : List ℕ). length v) (sym here) ∙ cut-length b s within in
    omega (arith, within, size, c.requires.2, c.self.inside.bytes.small)

pub overwrite-requires : goal.overwrite-requires
overwrite-requires c =
    let b = c.self.inside.bytes.items in
    let ss = c.self.inside.spans.items in
    let s = c.index.result.now in
    let lt : c.args.place < length ss = index-of (cuts b ss) c.args.place c.requires.0 (ap (λ (vs : List (List ℕ)). slice_get vs c.args.place) c.self.view_is ∙ c.requires.1) (length ss) (length-cuts b ss) in
    let here = same_some (cut b s) c.requires.0 (sym (cut-at b ss c.args.place s lt c.index.ensures) ∙ ap (λ (vs : List (List ℕ)). slice_get vs c.args.place) c.self.view_is ∙ c.requires.1) in
    let within = span-within (length b) ss c.args.place s lt c.index.ensures c.self.invariant.within in
    let size : length c.requires.0 ≡ s.len = ap (λ (v : List ℕ). length v) (sym here) ∙ cut-length b s within in
    omega (arith, within, size, c.requires.2, ap (λ (xs : List ℕ). length xs) c.to_be_bytes.ensures)

-- the buffer
made : (c : goal.After-overwrite)
    → (cuts c.overwrite.new.bytes.items c.self.inside.spans.items ≡ set (cuts c.self.inside.bytes.items c.self.inside.spans.items) c.args.place (with_bytes (cut c.self.inside.bytes.items c.index.result.now) c.args.offset c.to_be_bytes.result))
    × AreCuts c.overwrite.new.bytes.items c.self.inside.spans.items
made c =
    let b = c.self.inside.bytes.items in
    let ss = c.self.inside.spans.items in
    let s = c.index.result.now in
    let lt : c.args.place < length ss = index-of (cuts b ss) c.args.place c.requires.0 (ap (λ (vs : List (List ℕ)). slice_get vs c.args.place) c.self.view_is ∙ c.requires.1) (length ss) (length-cuts b ss) in
    let here = same_some (cut b s) c.requires.0 (sym (cut-at b ss c.args.place s lt c.index.ensures) ∙ ap (λ (vs : List (List ℕ)). slice_get vs c.args.place) c.self.view_is ∙ c.requires.1) in
    let within = span-within (length b) ss c.args.place s lt c.index.ensures c.self.invariant.within in
    let size : length c.requires.0 ≡ s.len = ap (λ (v : List ℕ). length v) (sym here) ∙ cut-length b s within in
    patched b c.overwrite.new.bytes.items ss c.args.place s c.args.offset c.to_be_bytes.result lt c.index.ensures (omega (arith, size, c.requires.2, ap (λ (xs : List ℕ). length xs) c.to_be_bytes.ensures)) c.overwrite.ensures c.self.invariant

pub invariant_of-self : goal.invariant_of-self
invariant_of-self c = (made c).1

pub returns : goal.returns
returns c value is =
    let b = c.self.inside.bytes.items in
    let ss = c.self.inside.spans.items in
    let s = c.index.result.now in
    let lt : c.args.place < length ss = index-of (cuts b ss) c.args.place c.requires.0 (ap (λ (vs : List (List ℕ)). slice_get vs c.args.place) c.self.view_is ∙ c.requires.1) (length ss) (length-cuts b ss) in
    let here : cut b s ≡ value = same_some (cut b s) value (sym (cut-at b ss c.args.place s lt c.index.ensures) ∙ ap (λ (vs : List (List ℕ)). slice_get vs c.args.place) c.self.view_is ∙ is) in
    let bytes : c.to_be_bytes.result ≡ cell c.args.number = c.to_be_bytes.ensures in
    let size : length c.to_be_bytes.result ≡ 4 = ap (λ (xs : List ℕ). length xs) c.to_be_bytes.ensures in
    (made c).0 ∙ (λ i. set (c.self.view_is i) c.args.place (take c.args.offset (here i) ++ (bytes i ++ drop (c.args.offset + size i) (here i))))
