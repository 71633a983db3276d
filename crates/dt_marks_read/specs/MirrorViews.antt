-- What a walk through a mirror still lists.
use Rattle.std.specs.Prelude.{◌≡◌, List, ◌∷◌, Result, Ok, Err}
use Rattle.dt_names.specs.declared.fault.Fault.{Fault}
use Rattle.dt_marks_read.specs.declared.listed_locals.Mirror.{Mirror}
use Rattle.dt_marks_read.specs.Listed.{LocalFixup}
use Rattle.dt_marks_read.specs.LocalFixupsLeft.{local_fixups_left, walk_told, MayWalk}

abbrev pub mirror_left : Mirror → List LocalFixup
mirror_left m = local_fixups_left m.blob.now m.node m.property.now m.value.now m.offsets.now m.open_nodes m.steps

-- what is listed without the offsets of the property that came last
abbrev pub steps_left : Mirror → List LocalFixup
steps_left m = walk_told m.blob.now m.open_nodes m.steps

-- it may go on
abbrev pub MayGoOn : Mirror → Type 0
MayGoOn m = MayWalk m.blob.now m.open_nodes m.steps

-- a step was taken: this is listed with it, and no more than the fault where there is one
abbrev pub IsStepTaken : List LocalFixup → {A : Type 0} → Result A Fault → Mirror → Type 0
IsStepTaken told (Ok _) m = told ≡ mirror_left m
IsStepTaken told (Err fault) m = told ≡ Err fault ∷ mirror_left m
