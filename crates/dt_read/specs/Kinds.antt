-- The kind of each fault of a blob.
use Rattle.dt_model.specs.Checks as checks
use Rattle.dt_model.specs.Checks.{BlobFault}
use Rattle.dt_names.specs.declared.fault.FaultKind.{FaultKind}
use Rattle.dt_names.specs.declared.fault.FaultKind.TheVariants.{Limit, ShortHeader, BadMagic, BadTotal, BadVersion, Misaligned, BlockOutside, NoReservationEnd, BadTag, StructureCut, BadName, BadNameOffset, BadNesting, LateProperty, BadEnd, Duplicate, BlobPhandle}

abbrev pub kind_of : BlobFault → FaultKind
kind_of checks.short_header = ShortHeader
kind_of checks.bad_magic = BadMagic
kind_of checks.bad_total = BadTotal
kind_of checks.over_limit = Limit
kind_of checks.bad_version = BadVersion
kind_of checks.misaligned = Misaligned
kind_of checks.block_outside = BlockOutside
kind_of checks.no_reservation_end = NoReservationEnd
kind_of checks.bad_tag = BadTag
kind_of checks.structure_cut = StructureCut
kind_of checks.bad_name = BadName
kind_of checks.bad_name_offset = BadNameOffset
kind_of checks.bad_nesting = BadNesting
kind_of checks.late_property = LateProperty
kind_of checks.bad_end = BadEnd
kind_of checks.duplicate = Duplicate
kind_of checks.bad_phandle = BlobPhandle
