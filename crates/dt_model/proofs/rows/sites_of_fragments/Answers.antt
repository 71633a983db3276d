use Rattle.std.specs.Fmt.{digits}
use Rattle.std.proofs.Common.{◌≡◌, [], ◌∷◌, Option, None, Some, refl}
use Rattle.dt_model.specs.Path.{Path}
use Rattle.dt_model.proofs.rows.sites_of_fragments.Goals as goal

pub returns-clause-labels : goal.returns-clause-labels
unfolding digits
returns-clause-labels c = (record { of = refl; named = refl; there = refl; plain = refl }, (record { of = refl; named = refl; there = refl; plain = refl }, tt))

pub returns-clause-inside : goal.returns-clause-inside
returns-clause-inside c = (record { of = refl; named = refl; there = refl; plain = refl }, (record { of = refl; named = refl; there = refl; plain = refl }, tt))

pub returns-clause-later : goal.returns-clause-later
returns-clause-later c [] h = h
returns-clause-later c (x ∷ sites) h = let e : ◌≡◌ {A = Option Path} None (Some x.at) = h.0.named in cc
