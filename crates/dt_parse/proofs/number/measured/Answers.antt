use Rattle.dt_parse.proofs.Numbers.{done_fewer, done_measured, done_too_long}
use Rattle.dt_parse.proofs.number.measured.Goals as goal

pub overflow_sub-used : goal.overflow_sub-used
overflow_sub-used c = done_fewer c.args.tokens.now c.primary.new.room.steps.items c.in-Ok.rest.now c.in-Ok.ensures

pub returns-then-used-le-MOST_TOKENS-clause-ok : goal.returns-then-used-le-MOST_TOKENS-clause-ok
returns-then-used-le-MOST_TOKENS-clause-ok c =
    done_measured c.args.tokens.now c.primary.new.room.steps.items c.in-Ok.rest.now c.in-Ok.ensures c.if-used-le-MOST_TOKENS.true

pub returns-else-used-le-MOST_TOKENS-clause-err : goal.returns-else-used-le-MOST_TOKENS-clause-err
returns-else-used-le-MOST_TOKENS-clause-err c =
    done_too_long c.args.tokens.now c.primary.new.room.steps.items c.in-Ok.rest.now c.over_limit.result c.in-Ok.ensures c.if-used-le-MOST_TOKENS.false c.over_limit.ensures.kind c.over_limit.ensures.left
