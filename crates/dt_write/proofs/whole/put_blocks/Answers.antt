use Rattle.std.proofs.Common.{◌≡◌, ◌-◌, ◌+◌, ◌++◌, ◌∙◌, sym, ap, subst, length, drop, arith}
use Rattle.std.proofs.lemmas.Result.{err_from_is_err_and}
use Rattle.dt_flat.specs.Arena.{reading}
use Rattle.std.proofs.lemmas.List.{length-append}
use Rattle.dt_write.specs.Written.{header, strings_block, structure_block}
use Rattle.dt_write.specs.Parts.{IsBlob}
use Rattle.dt_write.proofs.WholeLemmas.{strings_too_large, header_set, written_back}
use Rattle.dt_write.proofs.whole.put_blocks.Goals as goal

pub returns-in_err-put_strings-clause-refused : goal.returns-in_err-put_strings-clause-refused
returns-in_err-put_strings-clause-refused c =
    let e = err_from_is_err_and c.from_residual-in_err-put_strings.result c.from_residual-in_err-put_strings.ensures.1 in
    let r = c.in_err-put_strings.ensures.refused in
    rw (e.1, e.2) (
      strings_too_large (reading c.args.tree.now) c.args.strings.now c.put_front.new.out.items c.put_structure.new.out.items c.in_err-put_strings.field-0.0.kind
          c.requires.names c.in_ok-put_front.ensures c.in_ok-put_structure.ensures.body r.0,
      r.1,
    )

pub overflow_sub-strings_start : goal.overflow_sub-strings_start
overflow_sub-strings_start c =
    omega (arith, c.len-structure_start.ensures, c.len-strings_start.ensures, ap length c.in_ok-put_structure.ensures.body, length-append c.put_front.new.out.items (structure_block (reading c.args.tree.now)))

pub set_header-requires-clause-room : goal.set_header-requires-clause-room
set_header-requires-clause-room c =
    omega (
      arith,
      ap length c.deref_mut.ensures.value,
      ap length c.in_ok-put_strings.ensures.put,
      length-append c.put_structure.new.out.items (strings_block c.args.strings.now),
      c.in_ok-put_front.ensures.size,
      ap length c.in_ok-put_structure.ensures.body,
      length-append c.put_front.new.out.items (structure_block (reading c.args.tree.now)),
    )

pub set_header-requires-clause-fits : goal.set_header-requires-clause-fits
set_header-requires-clause-fits c =
    omega (
      arith,
      c.len-structure_start.ensures,
      c.len-strings_start.ensures,
      c.size.ensures.block,
      c.in_ok-put_strings.ensures.size,
      ap length c.in_ok-put_strings.ensures.put,
      length-append c.put_structure.new.out.items (strings_block c.args.strings.now),
      c.in_ok-put_front.ensures.size,
      ap length c.in_ok-put_structure.ensures.body,
      length-append c.put_front.new.out.items (structure_block (reading c.args.tree.now)),
    )

pub returns-clause-blob : goal.returns-clause-blob
returns-clause-blob c =
    let t = reading c.args.tree.now in
    let r = c.len-structure_start.result - 40 in
    let s = c.len-strings_start.result - c.len-structure_start.result in
    let n = c.size.result in
    let blob = c.set_header.new.bytes in
    let whole : blob ≡ header t.boot_cpu r s n ++ drop 40 c.put_strings.new.out.items = c.set_header.ensures ∙ (λ i. header (c.boot_cpu.ensures i) r s n ++ drop 40 (c.deref_mut.ensures.value i)) in
    let body : s + length c.put_front.new.out.items ≡ length c.put_structure.new.out.items =
    omega (arith, c.len-structure_start.ensures, c.len-strings_start.ensures, ap length c.in_ok-put_structure.ensures.body, length-append c.put_front.new.out.items (structure_block t)) in
    subst (IsBlob t) (sym (written_back c.put_strings.new.out.len blob c.put_strings.new.out.items (omega (arith, c.set_header.auto.bytes, c.deref_mut.ensures.len)) (omega arith)))
    (header_set t c.args.strings.now c.put_front.new.out.items c.put_structure.new.out.items c.put_strings.new.out.items blob r s n c.requires.names c.in_ok-put_front.ensures c.in_ok-put_structure.ensures.body
    c.in_ok-put_strings.ensures.put (omega (arith, c.len-structure_start.ensures, c.in_ok-put_front.ensures.size)) body c.size.ensures.block whole
    (omega (arith, c.set_header.auto.bytes, ap length c.deref_mut.ensures.value, c.in_ok-put_strings.ensures.size)))
