use Rattle.dt_overlay_texts.proofs.OnePath.{value_once, path_or_refusal, refused_once}
use Rattle.dt_overlay_texts.proofs.laws.one_symbol_path.Goals as goal

pub returns-clause-path : goal.returns-clause-path
returns-clause-path c = value_once c.one_path.ensures

pub returns-clause-only : goal.returns-clause-only
returns-clause-only c = path_or_refusal c.one_path.ensures

pub returns-clause-refusal : goal.returns-clause-refusal
returns-clause-refusal c = refused_once c.one_path.ensures
