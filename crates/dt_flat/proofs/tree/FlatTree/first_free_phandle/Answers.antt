use Rattle.std.proofs.Common.{◌≡◌, ◌<◌, ℕ, Some, length, subst, arith}
use Rattle.dt_flat.specs.Arena.{Arena, phandle_at}
use Rattle.dt_flat.proofs.Numbering.{numbered-within}
use Rattle.dt_flat.proofs.tree.FlatTree.first_free_phandle.Goals as goal

pub returns-clause-taken : goal.returns-clause-taken
returns-clause-taken c n pos lt =
    let had = c.first_free.ensures.taken n (omega arith) lt in
    subst (λ (a : Arena). (i : ℕ) × (i < length a.slots) × (phandle_at a.slots i ≡ Some n)) c.self.view_is
    (had.0, numbered-within c.self.inside.places c.self.inside.phandles n had.0 c.self.invariant.numbered had.1, c.self.invariant.numbered.sound n had.0 had.1)
