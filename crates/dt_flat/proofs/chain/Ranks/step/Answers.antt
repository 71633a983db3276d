use Rattle.std.proofs.Common.{◌∙◌, sym, ap, arith}
use Rattle.dt_flat.specs.Chain.{ranks_left}
use Rattle.dt_flat.proofs.ChainLemmas.{left-step, next-within}
use Rattle.dt_flat.proofs.chain.Ranks.step.Goals as goal

pub next-self-inside-requires : goal.next-self-inside-requires
next-self-inside-requires c = (omega (arith, c.if-self-eq0.false), c.self.invariant)

pub invariant_of-self : goal.invariant_of-self
invariant_of-self c = next-within c.self.inside.chain.now c.self.inside.rank c.next-self-inside.result c.self.invariant c.next-self-inside.ensures

pub returns : goal.returns
returns c = sym c.self.view_is ∙ left-step c.self.inside.chain.now c.self.inside.rank c.next-self-inside.result (omega (arith, c.if-self-eq0.false)) c.next-self-inside.ensures

pub returns-then-self-eq0 : goal.returns-then-self-eq0
returns-then-self-eq0 c =
    let none = sym c.self.view_is ∙ ap (ranks_left c.self.inside.chain.now) c.if-self-eq0.true in
    (none, none)
