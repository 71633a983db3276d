use Rattle.std.proofs.Common.{ℕ, List, sym, ap, ◌∙◌, subst}
use Rattle.dt_names.specs.Paths.{IsKept, names_in}
use Rattle.dt_names.proofs.PathTexts.{kept_root, root_names}
use Rattle.dt_names.proofs.path.Path.root.Goals as goal

pub invariant_of-result : goal.invariant_of-result
invariant_of-result c = subst (λ (text : List ℕ). IsKept text 0) (sym c.new.ensures.items) kept_root

pub returns : goal.returns
returns c = ap names_in c.new.ensures.items ∙ root_names
