use Rattle.std.proofs.Common.{◌≡◌, ◌-◌, ◌∙◌, ap, ℕ, List, length, take, arith}
use Rattle.dt_flat.specs.Values.{cuts}
use Rattle.dt_flat.proofs.ValueLemmas.{length-cuts, cuts-take, taken, take-last, length-last}
use Rattle.dt_flat.proofs.values.Values.pop.Goals as goal

pub invariant_of-self : goal.invariant_of-self
invariant_of-self c = taken c.self.inside.bytes.items c.self.inside.spans.items c.pop.new.self.items _ c.pop.ensures.rest c.self.invariant

pub returns : goal.returns
returns c values value is =
    let b = c.self.inside.bytes.items in
    let ss = c.self.inside.spans.items in
    let n = c.self.inside.spans.len - 1 in
    let size : n ≡ length values = omega (arith, length-cuts b ss, ap (λ (vs : List (List ℕ)). length vs) (c.self.view_is ∙ is), length-last values value) in
    ap (cuts b) c.pop.ensures.rest ∙ cuts-take b ss n ∙ ap (take n) (c.self.view_is ∙ is) ∙ take-last values value n size
