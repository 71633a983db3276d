use Rattle.std.proofs.Common.{sym, ◌∙◌}
use Rattle.dt_overlay_texts.proofs.TextCuts.{texts_only}
use Rattle.dt_overlay_texts.proofs.CellTexts.{one_cell}
use Rattle.dt_overlay_texts.proofs.laws.texts_are_one.Goals as goal

pub returns-clause-texts : goal.returns-clause-texts
returns-clause-texts c = λ value xs ys a b. sym (texts_only xs value a) ∙ texts_only ys value b

pub returns-clause-cells : goal.returns-clause-cells
returns-clause-cells c = one_cell c.one_path.ensures
