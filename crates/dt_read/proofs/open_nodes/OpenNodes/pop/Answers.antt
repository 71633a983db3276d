use Rattle.std.proofs.Common.{drop, sym, ap, ◌∙◌}
use Rattle.std.proofs.lemmas.List.{drop-drop}
use Rattle.dt_read.proofs.open_nodes.OpenNodes.pop.Goals as goal

pub returns-then-self-lt-MOST_BODIES : goal.returns-then-self-lt-MOST_BODIES
returns-then-self-lt-MOST_BODIES c = sym (drop-drop 1 c.self.inside.top c.self.inside.numbers) ∙ ap (drop 1) c.self.view_is
