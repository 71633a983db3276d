use Rattle.std.proofs.Common.{◌∙◌, refl, sym, ap, arith}
use Rattle.dt_flat.specs.Chain.{ranks_left}
use Rattle.dt_flat.proofs.ChainLemmas.{first-high, ranks-first}
use Rattle.dt_flat.proofs.chain.Chain.of.Goals as goal

pub invariant_of-result : goal.invariant_of-result
invariant_of-result c = omega (arith, c.first.ensures, first-high 0 c.args.self.now c.args.owner)

pub returns : goal.returns
returns c =
    let owners = c.args.self.now in
    ap (ranks_left owners) c.first.ensures ∙ sym (ranks-first 0 owners c.args.owner owners refl)
