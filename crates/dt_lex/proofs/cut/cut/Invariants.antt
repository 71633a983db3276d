use Rattle.std.proofs.Common.{◌≡◌, ◌<◌, ℕ, Some}
use Rattle.std.specs.Prelude.{slice_get}
use Rattle.dt_lex.specs.declared.rule.Rule.{Rule}
use Rattle.dt_lex.specs.Words.{NoneFits}
use Rattle.dt_lex.specs.Rules.{In}
use Rattle.dt_lex.proofs.cut.cut.Given as goal

-- no rule tried so far has a word there
abbrev pub invariant-loop-rule : goal.invariant-loop-rule
invariant-loop-rule l = (i : ℕ) (q : Rule) → i < l.rule-index → slice_get l.tried i ≡ Some q → NoneFits (In q l.mode l.fresh) l.text
