use Rattle.std.proofs.Common.{arith, sym, subst, ◌≡◌, ◌++◌, [], false, ℕ}
use Rattle.std.proofs.lemmas.Result.{err_from_is_err_and}
use Rattle.std.proofs.lemmas.List.{append-nil}
use Rattle.dt_parse.specs.Nested.{Goes}
use Rattle.dt_parse.proofs.Members.{err_is, said_more, not_open}
use Rattle.dt_parse.proofs.NestedBodies.{goes_on, goes_nowhere, block_reads, block_stops, block_ordered}
use Rattle.dt_parse.proofs.body.body.Goals as goal

pub returns-in_err-expect-clause-err : goal.returns-in_err-expect-clause-err
returns-in_err-expect-clause-err c =
    let p = err_from_is_err_and c.from_residual.result c.from_residual.ensures.1 in err_is _ c.from_residual.result _ p.0 p.1 p.2 (λ ps. not_open ps c.args.cursor.now _ c.in_err-expect.ensures.err.0 c.in_err-expect.ensures.err.1 c.in_err-expect.ensures.err.2)

pub loop-depth-init : goal.loop-depth-init
loop-depth-init c =
    ([], goes_nowhere 1 false c.expect.new.self, sym (append-nil c.args.items.now.places))

pub returns-in_err-depth-clause-err : goal.returns-in_err-depth-clause-err
returns-in_err-depth-clause-err c =
    let p = err_from_is_err_and c.from_residual-in_err-depth.result c.from_residual-in_err-depth.ensures.1 in err_is _ c.from_residual-in_err-depth.result _ p.0 p.1 p.2 (λ ps. block_stops c.args.cursor.now c.expect.new.self ps _ c.in_ok-expect.ensures.ok.0 c.in_ok-expect.ensures.ok.1 (c.loop-depth.invariant.1.breaks _ c.in_err-depth.ensures.err))

pub loop-depth-smaller : goal.loop-depth-smaller
loop-depth-smaller c =
    c.in_ok-depth.ensures.ok.2

pub loop-depth-preserved : goal.loop-depth-preserved
loop-depth-preserved c =
    let i = c.loop-depth.invariant in
    let h = c.in_ok-depth.ensures.ok in (
      i.0 ++ h.0,
      goes_on 1 c.loop-depth.depth.«open» c.in_ok-depth.depth.«open» false c.loop-depth.depth.late c.in_ok-depth.depth.late c.expect.new.self c.loop-depth.cursor c.member.new.cursor i.0 h.0 i.1 h.1,
      said_more c.args.items.now.places c.loop-depth.items.places c.member.new.items.places i.0 h.0 i.2 h.3,
    )

pub returns-clause-ok : goal.returns-clause-ok
returns-clause-ok c =
    let i = c.loop-depth.invariant in
    let none : c.loop-depth.depth.«open» ≡ 0 = omega arith in
    let g = subst (λ (n : ℕ). Goes 1 false c.expect.new.self i.0 n c.loop-depth.depth.late c.loop-depth.cursor) none i.1 in (
      i.0,
      λ ps. block_reads c.args.cursor.now c.expect.new.self c.loop-depth.cursor i.0 ps c.loop-depth.depth.late c.in_ok-expect.ensures.ok.0 c.in_ok-expect.ensures.ok.1 g,
      g.sound,
      block_ordered c.expect.new.self c.loop-depth.cursor i.0 c.loop-depth.depth.late g,
      i.2,
    )
