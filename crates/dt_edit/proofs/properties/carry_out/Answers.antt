use Rattle.std.proofs.Common.{◌≡◌, ◌+◌, ◌-◌, ◌++◌, ℕ, List, refl, ap, subst, ◌∙◌, arith}
use Rattle.std.specs.Option.{unwrap_or}
use Rattle.dt_model.specs.Checks.{strings_of, structure_of}
use Rattle.dt_read.specs.Cuts.{spliced}
use Rattle.dt_edit.specs.Moving.{property_bytes, IsSpliced}
use Rattle.dt_edit.specs.Plans.{brought_by, name_offset, HasOtherBlocks}
use Rattle.dt_edit.proofs.CarriedOut.{plan_sizes, offset_fits, offset_is, blocks_edited}
use Rattle.dt_edit.proofs.Carrying.{length_property}
use Rattle.dt_edit.proofs.properties.carry_out.Goals as goal

pub overflow_cast-offset : goal.overflow_cast-offset
overflow_cast-offset c =
    omega (arith, c.unwrap_or-offset.ensures, offset_fits c.args.bytes.now c.args.plan.now c.args.name.now c.args.value.now c.requires.editable c.requires.room)

pub bring_name-added-requires : goal.bring_name-added-requires
bring_name-added-requires c =
    let s = plan_sizes c.args.bytes.now c.args.plan.now c.args.name.now c.args.value.now c.requires.editable c.requires.room in
    omega (arith, s.end, s.inside, s.room, c.padded_len-own.ensures, c.splice_property.auto.bytes)

pub overflow_add-layout : goal.overflow_add-layout
overflow_add-layout c =
    let s = plan_sizes c.args.bytes.now c.args.plan.now c.args.name.now c.args.value.now c.requires.editable c.requires.room in
    omega (arith, s.end, s.inside, s.limit, c.padded_len-own.ensures, c.bring_name-added.ensures.size)

pub set_header-requires-clause-fits : goal.set_header-requires-clause-fits
set_header-requires-clause-fits c =
    let s = plan_sizes c.args.bytes.now c.args.plan.now c.args.name.now c.args.value.now c.requires.editable c.requires.room in
    omega (arith, s.end, s.inside, s.header, s.limit, c.padded_len-own.ensures, c.bring_name-added.ensures.size)

pub returns : goal.returns
returns c =
    let old = c.args.bytes.now in
    let p = c.args.plan.now in
    let name = c.args.name.now in
    let value = c.args.value.now in
    let room = c.requires.room in
    let s = plan_sizes old p name value c.requires.editable room in
    let offset = offset_is old p name value room in
    let own : List ℕ = property_bytes (name_offset old name) value in
    let wide = length_property (name_offset old name) value in
    let same : unwrap_or p.place p.layout.strings ≡ name_offset old name = offset in
    let moved : IsSpliced old c.splice_property.new.bytes own (p.layout.structure_at + p.cut.at) p.cut.size (p.layout.structure_at + p.layout.structure + p.layout.strings) =
    subst (λ (n : ℕ). IsSpliced old c.splice_property.new.bytes (property_bytes n value) (p.layout.structure_at + p.cut.at) p.cut.size (p.layout.structure_at + p.layout.structure + p.layout.strings))
    (c.unwrap_or-offset.ensures ∙ same) c.splice_property.ensures in
    let grown : ℕ = p.layout.structure_at + p.layout.structure + p.layout.strings + c.padded_len-own.result - p.cut.size in
    subst (λ added. HasOtherBlocks old c.set_header.new.bytes (spliced p.cut.at p.cut.size own (structure_of old)) (strings_of old ++ added)) (ap (λ o. brought_by o name) room.place)
    (blocks_edited old c.splice_property.new.bytes c.bring_name-added.new.bytes c.set_header.new.bytes own (brought_by p.place name) p.layout p.cut.at p.cut.size (p.layout.structure_at + p.cut.at)
    (p.layout.structure_at + p.layout.structure + p.layout.strings) grown (p.layout.structure_at - 40) (p.layout.structure + c.padded_len-own.result - p.cut.size) (p.layout.strings + c.bring_name-added.result)
    c.requires.editable room.layout room.inside refl s.end (omega (arith, wide, c.padded_len-own.ensures)) refl (omega (arith, wide, c.padded_len-own.ensures)) (omega (arith, c.bring_name-added.ensures.size))
    (omega (arith, s.end, s.inside, s.room, c.padded_len-own.ensures, c.splice_property.auto.bytes)) moved c.bring_name-added.ensures.put c.set_header.ensures)
