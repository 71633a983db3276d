use Rattle.std.proofs.Common.{◌≡◌, ◌<◌, ◌^◌, true, sym, ◌∙◌, arith}
use Rattle.std.specs.Prelude.{nat_eq}
use Rattle.std.specs.List.{list_any}
use Rattle.dt_flat.specs.Arena.{reading}
use Rattle.dt_model.specs.Numbers.{numbers_of}
use Rattle.dt_model_laws.proofs.Numbered.{few_taken}
use Rattle.dt_overlay_base.proofs.FreeNumbers.{few_between, found_taken, none_free, between_more}
use Rattle.dt_overlay_base.proofs.Reached.{cells-led, found-by, number-taken}
use Rattle.dt_overlay_base.proofs.flat_target.free_number.Goals as goal

pub overflow_add-number : goal.overflow_add-number
overflow_add-number c =
    let base = reading c.args.tree.now in
    let le = few_between (numbers_of base) c.args.last c.loop-number.number c.loop-number.invariant.between in
    omega (arith, le, few_taken base c.validity.ensures.within)

pub loop-number-smaller : goal.loop-number-smaller
loop-number-smaller c =
    let base = reading c.args.tree.now in
    let le = few_between (numbers_of base) c.args.last c.loop-number.number c.loop-number.invariant.between in
    omega (arith, le, few_taken base c.validity.ensures.within)

pub loop-number-preserved : goal.loop-number-preserved
loop-number-preserved c =
    let base = reading c.args.tree.now in
    let n = c.loop-number.number in
    let le = few_between (numbers_of base) c.args.last n c.loop-number.invariant.between in
    let fits : n < 2 ^ 32 = omega (arith, le, few_taken base c.validity.ensures.within) in
    let found = found-by c.args.tree.now n c.by_phandle.result c.validity.ensures.cells c.validity.ensures.paths fits c.by_phandle.ensures.value c.by_phandle.ensures.there in
    let taken : list_any (nat_eq n) (numbers_of base) ≡ true =
    found_taken base n found.0 (omega (arith, le, few_taken base c.validity.ensures.within)) (found.1 ∙ sym c.is_some.ensures ∙ c.loop-number-test.true) found.2 in
    record {
      above = omega arith;
      between = between_more (numbers_of base) c.args.last n c.loop-number.invariant.between taken;
    }

pub returns : goal.returns
returns c =
    let base = reading c.args.tree.now in
    let n = c.loop-number.number in
    let le = few_between (numbers_of base) c.args.last n c.loop-number.invariant.between in
    let fits : n < 2 ^ 32 = omega (arith, le, few_taken base c.validity.ensures.within) in
    let found = found-by c.args.tree.now n c.by_phandle.result c.validity.ensures.cells c.validity.ensures.paths fits c.by_phandle.ensures.value c.by_phandle.ensures.there in
    record {
      above = c.loop-number.invariant.above;
      free = none_free base n found.0 c.validity.ensures.valid (cells-led c.args.tree.now c.validity.ensures.cells) (found.1 ∙ sym c.is_some.ensures ∙ c.loop-number-test.false) found.2;
      between = c.loop-number.invariant.between;
    }

pub loop-number-init : goal.loop-number-init
loop-number-init c =
    let a = c.args.tree.now in
    let free = c.first_free_phandle in
    record {
      above = omega (arith, c.max-number.ensures);
      between = λ k above below.
          let had = free.ensures.taken k (omega arith) (omega (arith, c.max-number.ensures)) in
          number-taken a k had.0 c.validity.ensures.cells c.validity.ensures.paths (omega (arith, free.type_inv, c.max-number.ensures)) had.1 had.2;
    }
