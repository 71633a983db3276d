use Rattle.std.proofs.Common.{[], ◌∷◌, length, refl, ◌∙◌, ap, arith, length-append}
use Rattle.std.proofs.lemmas.Result.{err_from_is_err_and}
use Rattle.dt_grammar.specs.Words.{words_of}
use Rattle.dt_parse.specs.Standing.{weight}
use Rattle.dt_parse.proofs.Turns.{after_turn, behind_done, behind_more, done_as, turning_as, pushed_turning, popped_stack, popped_frames, start_from, none_waits, one_waits}
use Rattle.dt_parse.proofs.expression.primary.Goals as goal

pub turns-init : goal.turns-init
turns-init c = record { fs = []; stack = c.clear-2.ensures.items; frames = tt; stands = record { steps_are = c.clear.ensures.items; follows = λ text o h. start_from (words_of text c.args.tokens.now) o h } }

pub returns-in_err-push_step-in-Number : goal.returns-in_err-push_step-in-Number
returns-in_err-push_step-in-Number c = let p = err_from_is_err_and c.from_residual.result c.from_residual.ensures.1 in rw (p.1, p.2) tt

pub returns-in_err-push_pending-in-Push : goal.returns-in_err-push_pending-in-Push
returns-in_err-push_pending-in-Push c = let p = err_from_is_err_and c.from_residual-in_err-push_pending-in-Push.result c.from_residual-in_err-push_pending-in-Push.ensures.1 in rw (p.1, p.2) tt

pub returns-in_err-push_step-in-Emit : goal.returns-in_err-push_step-in-Emit
returns-in_err-push_step-in-Emit c = let p = err_from_is_err_and c.from_residual-in_err-push_step-in-Emit.result c.from_residual-in_err-push_step-in-Emit.ensures.1 in rw (p.1, p.2) tt

pub returns-in_err-push_pending-in-Else : goal.returns-in_err-push_pending-in-Else
returns-in_err-push_pending-in-Else c = let p = err_from_is_err_and c.from_residual-in_err-push_pending-in-Else.result c.from_residual-in_err-push_pending-in-Else.ensures.1 in rw (p.1, p.2) tt

pub returns-then-is_empty : goal.returns-then-is_empty
returns-then-is_empty c =
    let h = after_turn c.turns.invariant c.top_in.result c.kind_in.result _ c.top_in.ensures.last c.top_in.ensures.none c.kind_in.ensures c.in-Number.ensures in
    done_as _ _ _ _ _ c.in_ok-push_step-in-Number.ensures c.behind-rest.ensures
    (behind_done _ c.turns.invariant.fs c.turns.room.pending.items _ _ c.turns.invariant.stack (none_waits c.turns.room.pending.items _ c.turns.room.pending.ok.0 c.if-is_empty.ensures) h.0)

pub turns-preserved-else-is_empty : goal.turns-preserved-else-is_empty
turns-preserved-else-is_empty c =
    let h = after_turn c.turns.invariant c.top_in.result c.kind_in.result _ c.top_in.ensures.last c.top_in.ensures.none c.kind_in.ensures c.in-Number.ensures in
    turning_as _ _ _ _ _ _ _ _ refl c.in_ok-push_step-in-Number.ensures c.behind-rest.ensures
    (behind_more _ c.turns.invariant.fs c.turns.room.pending.items _ _ c.turns.invariant.stack (one_waits c.turns.room.pending.items _ c.turns.room.pending.ok.0 c.if-is_empty.ensures) c.turns.invariant.frames h.0)

pub turns-smaller-else-is_empty : goal.turns-smaller-else-is_empty
turns-smaller-else-is_empty c =
    let h = after_turn c.turns.invariant c.top_in.result c.kind_in.result _ c.top_in.ensures.last c.top_in.ensures.none c.kind_in.ensures c.in-Number.ensures in
    let left = ap length c.behind-rest.ensures in
    let less = h.1 in
    omega (arith, less, left)

pub turns-preserved-in-Push : goal.turns-preserved-in-Push
turns-preserved-in-Push c =
    let h = after_turn c.turns.invariant c.top_in.result c.kind_in.result _ c.top_in.ensures.last c.top_in.ensures.none c.kind_in.ensures c.in-Push.ensures in
    turning_as _ _ _ _ _ _ _ _ c.in_ok-push_pending-in-Push.ensures refl c.behind-rest-in-Push.ensures
    (pushed_turning _ c.turns.invariant.fs c.turns.room.pending.items _ _ c.in-Push.p c.turns.invariant.stack h.0)

pub turns-smaller-in-Push : goal.turns-smaller-in-Push
turns-smaller-in-Push c =
    let h = after_turn c.turns.invariant c.top_in.result c.kind_in.result _ c.top_in.ensures.last c.top_in.ensures.none c.kind_in.ensures c.in-Push.ensures in
    let left = ap length c.behind-rest-in-Push.ensures in
    let more = ap length c.in_ok-push_pending-in-Push.ensures ∙ length-append c.turns.room.pending.items (c.in-Push.p ∷ []) in
    let less = h.1 in
    omega (arith, less, left, more)

pub turns-preserved-in-Continue-branch-3 : goal.turns-preserved-in-Continue-branch-3
turns-preserved-in-Continue-branch-3 c =
    let i = c.turns.invariant in
    let h = after_turn i c.top_in.result c.kind_in.result _ c.top_in.ensures.last c.top_in.ensures.none c.kind_in.ensures c.in-Emit.ensures in
    turning_as _ _ _ _ _ _ _ _ refl c.in_ok-push_step-in-Emit.ensures refl
    (record { fs = h.others; stack = (popped_stack i.fs _ c.turns.room.pending.items _ h i.stack c.drop_last.ensures).0; frames = popped_frames i.fs _ h i.frames; stands = h.stands })

pub turns-smaller-in-Continue-branch-3 : goal.turns-smaller-in-Continue-branch-3
turns-smaller-in-Continue-branch-3 c =
    let i = c.turns.invariant in
    let h = after_turn i c.top_in.result c.kind_in.result _ c.top_in.ensures.last c.top_in.ensures.none c.kind_in.ensures c.in-Emit.ensures in
    let one = (popped_stack i.fs _ c.turns.room.pending.items _ h i.stack c.drop_last.ensures).1 in
    omega (arith, one)

pub turns-preserved-in-Else : goal.turns-preserved-in-Else
turns-preserved-in-Else c =
    let i = c.turns.invariant in
    let h = after_turn i c.top_in.result c.kind_in.result _ c.top_in.ensures.last c.top_in.ensures.none c.kind_in.ensures c.in-Else.ensures in
    turning_as _ _ _ _ _ _ _ _ c.in_ok-push_pending-in-Else.ensures refl c.behind-rest-in-Else.ensures
    (pushed_turning _ h.0.others _ _ _ _ (popped_stack i.fs _ c.turns.room.pending.items _ h.0 i.stack c.drop_last-in-Else.ensures).0 h.0.stands)

pub turns-smaller-in-Else : goal.turns-smaller-in-Else
turns-smaller-in-Else c =
    let i = c.turns.invariant in
    let h = after_turn i c.top_in.result c.kind_in.result _ c.top_in.ensures.last c.top_in.ensures.none c.kind_in.ensures c.in-Else.ensures in
    let one = (popped_stack i.fs _ c.turns.room.pending.items _ h.0 i.stack c.drop_last-in-Else.ensures).1 in
    let more = ap length c.in_ok-push_pending-in-Else.ensures ∙ length-append c.drop_last-in-Else.new.waiting.items (_ ∷ []) in
    let left = ap length c.behind-rest-in-Else.ensures in
    let less = h.1 in
    omega (arith, less, left, more, one)

pub turns-preserved : goal.turns-preserved
turns-preserved c =
    let i = c.turns.invariant in
    let h = after_turn i c.top_in.result c.kind_in.result _ c.top_in.ensures.last c.top_in.ensures.none c.kind_in.ensures c.in-Whole.ensures in
    record { fs = i.fs; stack = i.stack; frames = i.frames; stands = h.0 }

pub turns-smaller : goal.turns-smaller
turns-smaller c =
    let i = c.turns.invariant in
    let h = after_turn i c.top_in.result c.kind_in.result _ c.top_in.ensures.last c.top_in.ensures.none c.kind_in.ensures c.in-Whole.ensures in
    let weighs = ap weight h.1 in
    omega (arith, weighs)

pub returns-in-Refuse : goal.returns-in-Refuse
returns-in-Refuse c =
    let i = c.turns.invariant in
    let h = after_turn i c.top_in.result c.kind_in.result _ c.top_in.ensures.last c.top_in.ensures.none c.kind_in.ensures c.in-Refuse.ensures in
    (c.turns.rest.now, refl, h)

pub returns-then-is_empty-2 : goal.returns-then-is_empty-2
returns-then-is_empty-2 c =
    let i = c.turns.invariant in
    let h = after_turn i c.top_in.result c.kind_in.result _ c.top_in.ensures.last c.top_in.ensures.none c.kind_in.ensures c.in-Close.ensures in
    let q = popped_stack i.fs _ c.turns.room.pending.items _ h.0 i.stack c.drop_last-in-Close.ensures in
    done_as _ _ _ _ _ refl c.behind-rest-in-Close.ensures
    (behind_done _ h.0.others c.drop_last-in-Close.new.waiting.items _ _ q.0 (none_waits c.drop_last-in-Close.new.waiting.items _ c.drop_last-in-Close.new.waiting.ok.0 c.if-is_empty-2.ensures) h.0.stands)

pub turns-preserved-else-is_empty-2 : goal.turns-preserved-else-is_empty-2
turns-preserved-else-is_empty-2 c =
    let i = c.turns.invariant in
    let h = after_turn i c.top_in.result c.kind_in.result _ c.top_in.ensures.last c.top_in.ensures.none c.kind_in.ensures c.in-Close.ensures in
    let q = popped_stack i.fs _ c.turns.room.pending.items _ h.0 i.stack c.drop_last-in-Close.ensures in
    turning_as _ _ _ _ _ _ _ _ refl refl c.behind-rest-in-Close.ensures
    (behind_more _ h.0.others c.drop_last-in-Close.new.waiting.items _ _ q.0 (one_waits c.drop_last-in-Close.new.waiting.items _ c.drop_last-in-Close.new.waiting.ok.0 c.if-is_empty-2.ensures) (popped_frames i.fs _ h.0 i.frames) h.0.stands)

pub turns-smaller-else-is_empty-2 : goal.turns-smaller-else-is_empty-2
turns-smaller-else-is_empty-2 c =
    let i = c.turns.invariant in
    let h = after_turn i c.top_in.result c.kind_in.result _ c.top_in.ensures.last c.top_in.ensures.none c.kind_in.ensures c.in-Close.ensures in
    let one = (popped_stack i.fs _ c.turns.room.pending.items _ h.0 i.stack c.drop_last-in-Close.ensures).1 in
    let left = ap length c.behind-rest-in-Close.ensures in
    let less = h.1 in
    omega (arith, less, left, one)
