use Rattle.std.proofs.Common.{◌∙◌, sym, ap, subst, length, arith}
use Rattle.dt_model.specs.Valid.{IsValid, IsWithinLimits}
use Rattle.dt_flat.specs.Arena.{Arena, node_from, reading}
use Rattle.dt_flat.proofs.ToRoot.{path_to}
use Rattle.dt_flat.proofs.Rooting.{IsWithinLimits-reading}
use Rattle.dt_flat.proofs.Validity.{IsValid-reading}
use Rattle.dt_flat.proofs.tree.FlatTree.validity.Goals as goal

pub returns-clause-valid : goal.returns-clause-valid
returns-clause-valid c = subst (λ (a : Arena). IsValid (reading a)) c.self.view_is (IsValid-reading _ c.self.inside.phandles c.self.invariant)

pub returns-clause-within : goal.returns-clause-within
returns-clause-within c = subst (λ (a : Arena). IsWithinLimits (reading a)) c.self.view_is (IsWithinLimits-reading _ c.self.invariant.rooted)

pub returns-clause-paths : goal.returns-clause-paths
returns-clause-paths c node lt =
    let at = path_to c.self.inside.places node c.self.invariant.rooted c.self.invariant.valid (omega (arith, ap (λ (a : Arena). length a.slots) c.self.view_is, lt)) in
    (at.0, ap (λ (a : Arena). node_from a.slots 0 at.0) (sym c.self.view_is) ∙ at.1)
