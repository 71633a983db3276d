use Rattle.dt_decompile_laws.proofs.TreeMeant.{text_is_tree}
use Rattle.dt_decompile_laws.proofs.meaning.text_is_tree.Goals as goal

pub returns : goal.returns
returns c = text_is_tree
