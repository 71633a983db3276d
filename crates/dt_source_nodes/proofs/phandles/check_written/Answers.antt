use Rattle.std.proofs.Common.{◌≡◌, ℕ, ◌<◌, ◌≤◌, ◌+◌, ◌⊎◌, inl, inr, false, Some, slice_get, sym, ap, ◌∙◌, arith}
use Rattle.std.proofs.lemmas.Bool.{cases_lt}
use Rattle.std.proofs.lemmas.Option.{slice_get-get_or, slice_get_within}
use Rattle.dt_source_growing.specs.declared.growing.Property.{Property}
use Rattle.dt_source_nodes.specs.Phandles.{is_unwritten}
use Rattle.dt_source_nodes.proofs.phandles.check_written.Goals as goal

pub returns-then-is_unwritten : goal.returns-then-is_unwritten
returns-then-is_unwritten c =
    let qs = c.args.properties.now in
    let i = c.loop-property.property-index in
    let q = c.property-item.result in
    let there : slice_get qs i ≡ Some q = slice_get-get_or qs i q c.loop-property-test.true ∙ ap (λ (p : Property). Some p) (sym c.property-item.is) in
    (c.of.ensures.kind, c.of.ensures.at, (i, q, there, sym c.if-is_unwritten.ensures))

pub loop-property-preserved : goal.loop-property-preserved
loop-property-preserved c = λ j p low at. step j p low at (cases_lt j i)
  where
    i : ℕ
    i = c.loop-property.property-index

    step : (j : ℕ) (p : Property) → j < c.loop-property.property-index + 1 → slice_get c.args.properties.now j ≡ Some p → (j < c.loop-property.property-index) ⊎ (c.loop-property.property-index ≤ j) →
        is_unwritten c.args.places.now p ≡ false
    step j p low at (inl less) = c.loop-property.invariant j p less at
    step j p low at (inr more) =
        let same : j ≡ c.loop-property.property-index = omega arith in
        let q = c.property-item.result in
        let there : slice_get c.args.properties.now j ≡ Some q =
        ap (slice_get c.args.properties.now) same ∙ (slice_get-get_or c.args.properties.now c.loop-property.property-index q c.loop-property-test.true ∙ ap (λ (r : Property). Some r) (sym c.property-item.is)) in
        let both : q ≡ p = cc in
        ap (is_unwritten c.args.places.now) (sym both) ∙ sym c.if-is_unwritten.ensures

pub returns : goal.returns
returns c = λ j p at. let within = slice_get_within c.args.properties.now j p at in c.loop-property.invariant j p (omega arith) at
