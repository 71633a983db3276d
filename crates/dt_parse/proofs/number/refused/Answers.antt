use Rattle.std.proofs.Common.{subst}
use Rattle.dt_parse.specs.Standing.{Refused}
use Rattle.dt_parse.proofs.Numbers.{stuck_fewer, stuck_early, stuck_late}
use Rattle.dt_parse.proofs.number.refused.Goals as goal

pub overflow_sub-tokens : goal.overflow_sub-tokens
overflow_sub-tokens c = stuck_fewer c.args.tokens.now c.in-Syntax.left (subst (Refused c.args.tokens.now) c.in-Syntax.is c.requires)

pub returns-then-tokens-left-le-MOST_TOKENS : goal.returns-then-tokens-left-le-MOST_TOKENS
returns-then-tokens-left-le-MOST_TOKENS c =
    stuck_early c.args.tokens.now c.in-Syntax.left (subst (Refused c.args.tokens.now) c.in-Syntax.is c.requires) c.if-tokens-left-le-MOST_TOKENS.true

pub returns-else-tokens-left-le-MOST_TOKENS : goal.returns-else-tokens-left-le-MOST_TOKENS
returns-else-tokens-left-le-MOST_TOKENS c =
    stuck_late c.args.tokens.now c.in-Syntax.left c.over_limit.result (subst (Refused c.args.tokens.now) c.in-Syntax.is c.requires) c.if-tokens-left-le-MOST_TOKENS.false c.over_limit.ensures.kind c.over_limit.ensures.left
