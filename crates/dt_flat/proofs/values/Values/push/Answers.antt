use Rattle.std.proofs.Common.{◌≡◌, ◌++◌, ◌∷◌, [], ◌∙◌, sym, ap, subst, ℕ, List, length, arith}
use Rattle.dt_flat.specs.Values.{cuts, AreCuts}
use Rattle.dt_flat.proofs.ValueLemmas.{pushed}
use Rattle.dt_flat.proofs.values.Values.push.Goals as goal

-- the spans with the new one
spans : (c : goal.After-push_reserved) → c.push_reserved.new.self.items ≡ c.self.inside.spans.items ++ record { start = length c.self.inside.bytes.items; len = length c.args.value.now } ∷ []
spans c =
    let start : c.len-start.result ≡ length c.self.inside.bytes.items = omega (arith, c.len-start.ensures) in
    c.push_reserved.ensures.items ∙ (λ i. c.reserve.ensures.items i ++ record { start = start i; len = length c.args.value.now } ∷ [])

pub invariant_of-self-2 : goal.invariant_of-self-2
invariant_of-self-2 c =
    subst (AreCuts c.extend_from_slice.new.self.items) (sym (spans c)) (pushed c.self.inside.bytes.items c.extend_from_slice.new.self.items c.self.inside.spans.items c.args.value.now c.in_ok-extend_from_slice.ensures.items c.self.invariant).1

pub returns-clause-ok : goal.returns-clause-ok
returns-clause-ok c =
    ap (cuts c.extend_from_slice.new.self.items) (spans c) ∙ (pushed c.self.inside.bytes.items c.extend_from_slice.new.self.items c.self.inside.spans.items c.args.value.now c.in_ok-extend_from_slice.ensures.items c.self.invariant).0
    ∙ ap (λ (vs : List (List ℕ)). vs ++ c.args.value.now ∷ []) c.self.view_is
