use Rattle.std.proofs.Common.{drop, take, ◌+◌, ◌≤◌, length, sym, ap, subst, ◌∙◌, arith}
use Rattle.dt_model.specs.Format.{part}
use Rattle.dt_model.specs.Checks.{header_fault, IsFirstFault, in_header}
use Rattle.dt_read.specs.Kinds.{kind_of}
use Rattle.dt_read.proofs.Scanning.{none_made, some_made}
use Rattle.dt_read.proofs.Headers.{fine, length-part, reserved, unended}
use Rattle.dt_read.proofs.blocks.blocks_of.Goals as goal

pub returns-in-Some-clause-fault : goal.returns-in-Some-clause-fault
returns-in-Some-clause-fault c =
    let f = some_made kind_of (header_fault c.args.bytes.now) c.in-Some.kind c.in-Some.ensures in
    (f.0, c.of.ensures.kind ∙ f.2, subst (IsFirstFault c.args.bytes.now f.0) (sym c.of.ensures.at) (in_header f.0 f.1))

pub part-counted-requires : goal.part-counted-requires
part-counted-requires c =
    let passes = none_made kind_of (header_fault c.args.bytes.now) c.in_default.ensures in
    let h = fine c.args.bytes.now passes in
    omega (arith, c.number-total.ensures.value, h.at_most)

pub from-reservations-requires : goal.from-reservations-requires
from-reservations-requires c =
    let passes = none_made kind_of (header_fault c.args.bytes.now) c.in_default.ensures in
    let h = fine c.args.bytes.now passes in
    let inside : 0 + c.number-total.result ≤ length c.args.bytes.now = omega (arith, c.number-total.ensures.value, h.at_most) in
    let len = ap length c.part-counted.ensures ∙ length-part 0 c.number-total.result c.args.bytes.now inside in
    omega (arith, len, c.number-total.ensures.value, c.number-reservations_at.ensures.value, h.reservations_inside)

pub returns-then-not-have_end-clause-fault : goal.returns-then-not-have_end-clause-fault
returns-then-not-have_end-clause-fault c =
    let passes = none_made kind_of (header_fault c.args.bytes.now) c.in_default.ensures in
    let whole = c.part-counted.ensures ∙ ap (λ n. take n c.args.bytes.now) c.number-total.ensures.value in
    let there = c.from-reservations.ensures ∙ (λ i. drop (c.number-reservations_at.ensures.value i) (whole i)) in
    let first = unended c.args.bytes.now c.from-reservations.result.now passes there (sym c.if-not-have_end.ensures) in
    (_, c.of-then-not-have_end.ensures.kind, subst (IsFirstFault c.args.bytes.now _) (sym c.of-then-not-have_end.ensures.at) first)

pub part-strings-requires : goal.part-strings-requires
part-strings-requires c =
    let h = fine c.args.bytes.now (none_made kind_of (header_fault c.args.bytes.now) c.in_default.ensures) in
    omega (arith, c.number-strings_at.ensures.value, c.number-strings_size.ensures.value, h.strings_inside, h.at_most)

pub part-block-requires : goal.part-block-requires
part-block-requires c =
    let h = fine c.args.bytes.now (none_made kind_of (header_fault c.args.bytes.now) c.in_default.ensures) in
    omega (arith, c.number-at.ensures.value, c.number-size.ensures.value, h.structure_inside, h.at_most)

pub returns-clause-blocks : goal.returns-clause-blocks
returns-clause-blocks c =
    let bytes = c.args.bytes.now in
    let passes = none_made kind_of (header_fault bytes) c.in_default.ensures in
    let h = fine bytes passes in
    let whole = c.part-counted.ensures ∙ ap (λ n. take n bytes) c.number-total.ensures.value in
    let there = c.from-reservations.ensures ∙ (λ i. drop (c.number-reservations_at.ensures.value i) (whole i)) in
    let inside : c.number-at.result + c.number-size.result ≤ length bytes = omega (arith, c.number-at.ensures.value, c.number-size.ensures.value, h.structure_inside, h.at_most) in
    let len = ap length c.part-block.ensures ∙ length-part c.number-at.result c.number-size.result bytes inside in
    record {
      passes = passes;
      reservations = there;
      reserved = reserved bytes c.from-reservations.result.now (λ i. omega (arith, c.type_inv.bytes i)) there (sym c.if-not-have_end.ensures);
      strings = c.part-strings.ensures ∙ (λ i. part (c.number-strings_at.ensures.value i) (c.number-strings_size.ensures.value i) bytes);
      at = c.number-at.ensures.value;
      block = c.part-block.ensures ∙ (λ i. part (c.number-at.ensures.value i) (c.number-size.ensures.value i) bytes);
      boot_cpu = c.number-boot_cpu.ensures.value;
      small = omega (arith, len, c.number-at.ensures.value, c.number-size.ensures.value, h.structure_inside, h.size);
    }
