use Rattle.std.proofs.Common.{◌≡◌, ◌<◌, [], length, get_or, false, ap, subst, arith}
use Rattle.std.specs.List.{list_any}
use Rattle.dt_model.specs.Names.{Name}
use Rattle.dt_write.specs.Written.{is_end, strings_block}
use Rattle.dt_write.proofs.Holders.{names_of_all, lent_at, lent_within, lent_all}
use Rattle.dt_write.proofs.Stored.{none_stored, own_stored, other_stored, one_stored, one_passed, no_more_than_all, all_stored}
use Rattle.dt_write.proofs.strings.put_starts.Goals.{then-holders-number+else-not-fits, else-holders-number}
use Rattle.dt_write.proofs.strings.put_starts.Goals as goal

pub loop-number-init : goal.loop-number-init
loop-number-init c = rw c.requires.empty (none_stored (names_of_all c.args.names.now))

pub returns-then-not-fits-clause-refused : goal.returns-then-not-fits-clause-refused
returns-then-not-fits-clause-refused c =
    let names = names_of_all c.args.names.now in
    let i = c.loop-number.number in
    let lt = lent_within c.args.names.now i c.loop-number-test.true in
    let own : list_any (is_end (get_or names i [])) names ≡ false = own_stored names c.args.holders.now i c.requires.holders lt c.if-holders-number.true in
    let longer : 16777216 < length (strings_block names) =
    omega (arith, c.if-not-fits.ensures.beyond, no_more_than_all names i c.loop-number.starts.items c.loop-number.size lt own c.loop-number.invariant, ap length (lent_at c.args.names.now i c.loop-number-test.true)) in
    (rw c.of.ensures.kind longer, c.of.ensures.at)

pub loop-number-preserved : goal.loop-number-preserved
loop-number-preserved c =
    let names = names_of_all c.args.names.now in
    let i = c.loop-number.number in
    let lt = lent_within c.args.names.now i c.loop-number-test.true in
    let x = get_or c.args.names.now i (record { ref_ptr = (0, 0); now = [] }) in
    elim c.if-holders-number.branch [
      | then-holders-number+else-not-fits w ↦
          let own : list_any (is_end (get_or names i [])) names ≡ false = own_stored names c.args.holders.now i c.requires.holders lt w.if-holders-number.true in
          let at = lent_at c.args.names.now i c.loop-number-test.true in
          rw (c.in_ok-push.ensures.items, w.size-is)
          (one_stored names i x.now c.loop-number.starts.items c.loop-number.size lt at (subst (λ (n : Name). list_any (is_end n) names ≡ false) at own) (omega (arith, w.if-not-fits.ensures.within)) c.loop-number.invariant)
      | else-holders-number w ↦
          rw (c.in_ok-push.ensures.items, w.size-is)
          (one_passed names i c.loop-number.starts.items c.loop-number.size lt (other_stored names c.args.holders.now i c.requires.distinct c.requires.holders lt w.if-holders-number.false) c.loop-number.invariant)
    ]

pub returns-clause-starts : goal.returns-clause-starts
returns-clause-starts c =
    (all_stored (names_of_all c.args.names.now) c.loop-number.number c.loop-number.starts.items c.loop-number.size (lent_all c.args.names.now c.loop-number.number c.loop-number-test.false c.loop-number.auto.number-end) c.loop-number.invariant).0

pub returns-clause-size : goal.returns-clause-size
returns-clause-size c =
    (all_stored (names_of_all c.args.names.now) c.loop-number.number c.loop-number.starts.items c.loop-number.size (lent_all c.args.names.now c.loop-number.number c.loop-number-test.false c.loop-number.auto.number-end) c.loop-number.invariant).1

pub returns-clause-short : goal.returns-clause-short
returns-clause-short c = c.loop-number.invariant.short
