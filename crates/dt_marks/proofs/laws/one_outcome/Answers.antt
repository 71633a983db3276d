use Rattle.std.proofs.Common.{◌≡◌, ◌≢◌, List, ◌∷◌, [], arith, refl}
use Rattle.dt_flat.specs.Arena.{Arena, IsRooted, reading}
use Rattle.dt_flat.proofs.Counting.{nodes-counted}
use Rattle.dt_marks.proofs.Counting.{count_followed}
use Rattle.dt_marks.specs.Refusals.{WhyNoFixups, WhyNoSymbols}
use Rattle.dt_model.specs.Instance.{with_symbols}
use Rattle.dt_model.specs.Tree.{Property, Reading, branch, no_nodes}
use Rattle.dt_model.specs.Valid.{IsWithinLimits}
use Rattle.dt_names.specs.declared.fault.FaultKind.{FaultKind}
use Rattle.dt_names.specs.declared.fault.FaultKind.TheVariants.{NoMemory, Limit}
use Rattle.std.specs.Prelude.{codes}
use Rattle.dt_marks.proofs.laws.one_outcome.Goals as goal

with_labels : (a : Arena) (symbols : List Property) (kind : FaultKind) → IsRooted a.slots → IsWithinLimits (with_symbols symbols (reading a)) → WhyNoSymbols kind a.slots symbols → kind ≡ NoMemory
with_labels a symbols NoMemory rooted within why = refl
with_labels a [] Limit rooted within why = absurd (omega (arith, why.0))
with_labels a (s ∷ symbols) Limit rooted within why =
    absurd (omega (arith, why.1, within.count, nodes-counted a rooted, count_followed (reading a).children (branch (codes "__symbols__") (s ∷ symbols) no_nodes no_nodes)))
with_labels a symbols _ rooted within why = absurd why

with_cells : (t : Reading) (kind : FaultKind) → IsWithinLimits t → WhyNoFixups kind t → kind ≡ NoMemory
with_cells t NoMemory within why = refl
with_cells t Limit within why = absurd (why within)
with_cells t _ within why = absurd why

only_limit : (t : Reading) (kind : FaultKind) → WhyNoFixups kind t → kind ≢ NoMemory → kind ≡ Limit
only_limit t NoMemory why wanted = absurd (wanted refl)
only_limit t Limit why wanted = refl
only_limit t _ why wanted = absurd why

pub returns-clause-symbols : goal.returns-clause-symbols
returns-clause-symbols c a symbols kind rooted within why = with_labels a symbols kind rooted within why

pub returns-clause-fixups : goal.returns-clause-fixups
returns-clause-fixups c t kind within why = with_cells t kind within why

pub returns-clause-refusal : goal.returns-clause-refusal
returns-clause-refusal c t kind other why also wanted besides =
    let is = only_limit t kind why wanted in
    let it = only_limit t other also besides in
    cc
