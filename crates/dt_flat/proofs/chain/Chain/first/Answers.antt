use Rattle.std.proofs.Common.{◌∙◌, sym, ap, ℕ, List, arith}
use Rattle.dt_flat.specs.declared.chain.Ends.{Ends}
use Rattle.dt_flat.specs.Chain.{first_rank}
use Rattle.dt_flat.proofs.ChainLemmas.{ends-there, ends-absent}
use Rattle.dt_flat.proofs.chain.Chain.first.Goals as goal

pub returns-then-owner-len : goal.returns-then-owner-len
returns-then-owner-len c =
    let es = c.self.inside.ends.items in
    let o = c.args.owner in
    ap (λ (e : Ends). e.first) (c.index.ensures ∙ sym (ends-there es o c.index.result.now (omega (arith, c.len.ensures, c.if-owner-len.true)))) ∙ c.self.invariant.first o ∙ ap (λ (os : List ℕ). first_rank 1 os o) c.self.view_is

pub returns-else-owner-len : goal.returns-else-owner-len
returns-else-owner-len c =
    let es = c.self.inside.ends.items in
    let o = c.args.owner in
    sym (ends-absent es o (omega (arith, c.len.ensures, c.if-owner-len.false))) ∙ c.self.invariant.first o ∙ ap (λ (os : List ℕ). first_rank 1 os o) c.self.view_is
