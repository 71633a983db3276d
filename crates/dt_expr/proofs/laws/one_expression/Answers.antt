use Rattle.std.proofs.Common.{[], ap, sym, ◌∙◌}
use Rattle.std.proofs.lemmas.List.{append-nil}
use Rattle.dt_expr.specs.Expression.{steps, height}
use Rattle.dt_expr.proofs.Heights.{height_steps}
use Rattle.dt_expr.proofs.Spelling.{completed, same_expression}
use Rattle.dt_expr.proofs.laws.one_expression.Goals as goal

pub returns-clause-is : goal.returns-clause-is
returns-clause-is c ss h = completed ss [] h

pub returns-clause-only : goal.returns-clause-only
returns-clause-only c = same_expression

pub returns-clause-height : goal.returns-clause-height
returns-clause-height c e = ap (height 0) (sym (append-nil (steps e))) ∙ height_steps e 0 []
