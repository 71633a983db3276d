use Rattle.std.proofs.Common.{◌≡◌, ◌+◌, List, ℕ, length, ap, refl, arith}
use Rattle.dt_model.specs.Checks.{number, strings_of, structure_of}
use Rattle.dt_write.specs.Written.{header}
use Rattle.dt_edit.specs.Editable.{reading_in}
use Rattle.dt_edit.proofs.Assembling.{IsAssembled}
use Rattle.dt_edit.proofs.Opened.{behind_opened, opened}
use Rattle.dt_edit.proofs.opening.open_into.Goals as goal

-- what the buffer holds then
done : (c : goal.After-slice_known-3-1) → IsAssembled c.set_header.new.bytes (reading_in c.args.blob.now) (structure_of c.args.blob.now) (strings_of c.args.blob.now)
done c =
    opened c.args.blob.now c.args.bytes.now c.put_blocks.new.bytes c.set_header.new.bytes c.reservation_bytes-reservations.result.now c.structure_bytes-structure.result.now c.strings_bytes-strings.result.now
    c.number-boot_cpu.result c.requires c.reservation_bytes-reservations.ensures c.structure_bytes-structure.ensures c.strings_bytes-strings.ensures c.number-boot_cpu.ensures (omega (arith, c.if-size-bytes.false)) (omega (arith, c.if-size-gt-MOST_BYTES.false)) c.put_blocks.ensures c.set_header.ensures

pub returns-clause-editable : goal.returns-clause-editable
returns-clause-editable c = λ _. (done c).editable

pub returns-clause-reads : goal.returns-clause-reads
returns-clause-reads c = (done c).reads

pub returns-clause-structure : goal.returns-clause-structure
returns-clause-structure c = (done c).structure

pub returns-clause-strings : goal.returns-clause-strings
returns-clause-strings c = (done c).strings

pub returns-clause-behind : goal.returns-clause-behind
returns-clause-behind c =
    let r = c.reservation_bytes-reservations.result.now in
    let s = c.structure_bytes-structure.result.now in
    let n = c.strings_bytes-strings.result.now in
    let total = (done c).total in
    let size : number c.set_header.new.bytes 4 ≡ 40 + length r + length s + length n =
    omega (arith, total, ap (λ (x : List ℕ). length x) c.reservation_bytes-reservations.ensures, ap (λ (x : List ℕ). length x) c.structure_bytes-structure.ensures, ap (λ (x : List ℕ). length x) c.strings_bytes-strings.ensures) in
    behind_opened (header c.number-boot_cpu.result (length r) (length s) (length n)) r s n c.args.bytes.now c.put_blocks.new.bytes c.set_header.new.bytes (number c.set_header.new.bytes 4) refl
    (omega (arith, c.if-size-bytes.false)) c.put_blocks.ensures c.set_header.ensures size

pub returns-clause-size : goal.returns-clause-size
returns-clause-size c = (done c).total
