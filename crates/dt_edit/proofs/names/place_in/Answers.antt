use Rattle.std.proofs.Common.{List, ℕ, subst}
use Rattle.memchr.specs.Find.{FindsNeedle}
use Rattle.dt_edit.proofs.NamePlaces.{place_is}
use Rattle.dt_edit.proofs.names.place_in.Goals as goal

pub returns : goal.returns
returns c =
    place_is c.args.strings.now c.args.name.now c.find.result
    (subst (λ (needle : List ℕ). FindsNeedle c.args.strings.now needle 0 c.find.result) c.terminated_in.ensures c.find.ensures)
