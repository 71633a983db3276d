-- What a reader of labels still lists.
use Rattle.std.specs.Prelude.{List}
use Rattle.dt_marks_read.specs.declared.listed_fixups.Labels.{Labels}
use Rattle.dt_marks_read.specs.FixupsLeft.{fixups_left}
use Rattle.dt_marks_read.specs.Listed.{Fixup}

abbrev pub labels_left : Labels → List Fixup
labels_left l = fixups_left l.blob.now l.rest l.label.now l.texts
