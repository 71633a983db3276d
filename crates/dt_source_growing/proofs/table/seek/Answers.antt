use Rattle.std.proofs.Common.{[], get_or, sym, arith}
use Rattle.dt_source_growing.specs.Table.{Key}
use Rattle.dt_source_growing.specs.declared.table.Last.{Last}
use Rattle.dt_source_growing.proofs.TableLemmas.{none_below, none_in, none_more, other_owner, other_name, this_key, row_there}
use Rattle.dt_source_growing.proofs.table.seek.Goals.{else-key-owner-via-then-key-owner+else-eq, else-key-owner-via-else-key-owner}
use Rattle.dt_source_growing.proofs.table.seek.Goals as goal

abbrev none : Key × Last
none = ((0, record { bytes = record { ref_ptr = (0, 0); now = [] } }), record { index = 0; item = 0 })

pub loop-place-init : goal.loop-place-init
loop-place-init c = record { from = omega arith; none = none_below c.args.rows.now c.args.owner c.args.name.now c.args.span c.requires.within }

pub returns-then-eq : goal.returns-then-eq
returns-then-eq c =
    let rows = c.args.rows.now in
    let place = c.loop-place.place in (
      get_or rows place none,
      row_there rows place none (omega (arith, c.loop-place-test.true, c.requires.ends)),
      this_key c.args.owner c.args.name.now (get_or rows place none).0 c.if-key-owner.true (sym c.if-eq.ensures),
      c.loop-place.invariant.none,
    )

pub loop-place-preserved : goal.loop-place-preserved
loop-place-preserved c =
    let rows = c.args.rows.now in
    let place = c.loop-place.place in
    record {
      from = omega (arith, c.loop-place.invariant.from);
      none = none_more rows place none c.args.owner c.args.name.now c.loop-place.invariant.none
          (elim c.else-key-owner.branch [
            | else-key-owner-via-then-key-owner+else-eq w ↦ other_name c.args.owner c.args.name.now (get_or rows place none).0 (sym w.if-eq.ensures)
            | else-key-owner-via-else-key-owner w ↦ other_owner c.args.owner c.args.name.now (get_or rows place none).0 w.if-key-owner.false
          ]);
    }

pub returns : goal.returns
returns c =
    none_in c.args.rows.now c.args.owner c.args.name.now c.args.span c.loop-place.place c.requires.within (omega (arith, c.loop-place-test.false)) c.loop-place.invariant.none
