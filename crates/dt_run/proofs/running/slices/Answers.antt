use Rattle.std.proofs.Common.{rules, Bor, List, ℕ}
use Rattle.std.proofs.lemmas.Iterator.{YieldsList-from_map_by, YieldsList-from_slice}
use Rattle.std.proofs.lemmas.Iterator.Consumers.{YieldsList-at, map_from_collect}
use Rattle.dt_run.proofs.running.slices.Goals as goal

pub returns : goal.returns
returns c =
    map_from_collect _ c.collect.ensures.ran
    (YieldsList-from_map_by _ (λ (r : Bor (List ℕ)). r.now) (λ t. t.items) (YieldsList-at c.map.ensures.source (YieldsList-from_slice c.args.texts.now cc)) c.map.ensures.closure
    (λ x r q k. search rules))
