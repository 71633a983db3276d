use Rattle.std.proofs.Common.{◌∙◌, sym, ap, subst, List, ℕ, length, arith}
use Rattle.dt_flat.specs.Values.{cuts, AreCuts}
use Rattle.dt_flat.proofs.ValueLemmas.{length-cuts, length-last, last-moved}
use Rattle.dt_flat.proofs.values.Values.move_last.Goals as goal

pub index_mut-requires : goal.index_mut-requires
index_mut-requires c =
    omega (arith, c.requires.3, length-last c.requires.0 c.requires.1, ap (λ (vs : List (List ℕ)). length vs) (c.self.view_is ∙ c.requires.2), length-cuts c.self.inside.bytes.items c.self.inside.spans.items, c.in-Some.ensures.len)

pub invariant_of-self : goal.invariant_of-self
invariant_of-self c =
    let b = c.self.inside.bytes.items in
    let split = c.in-Some.ensures.items in
    (last-moved b c.pop.new.self.items c.args.place c.in-Some.span c.requires.0 c.requires.1 (subst (AreCuts b) split c.self.invariant) (ap (cuts b) (sym split) ∙ c.self.view_is ∙ c.requires.2)).1

pub returns-in-Some : goal.returns-in-Some
returns-in-Some c values value is =
    let b = c.self.inside.bytes.items in
    let split = c.in-Some.ensures.items in
    (last-moved b c.pop.new.self.items c.args.place c.in-Some.span values value (subst (AreCuts b) split c.self.invariant) (ap (cuts b) (sym split) ∙ c.self.view_is ∙ is)).0
