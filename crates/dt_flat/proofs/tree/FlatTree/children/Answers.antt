use Rattle.std.proofs.Common.{◌∙◌, ap}
use Rattle.dt_flat.specs.Arena.{Arena, children}
use Rattle.dt_flat.proofs.Linking.{children_after}
use Rattle.dt_flat.proofs.tree.FlatTree.children.Goals as goal

pub returns-clause-rest : goal.returns-clause-rest
returns-clause-rest c = c.children.ensures ∙ ap (λ (a : Arena). children a.slots c.args.node) c.self.view_is

pub returns-clause-below : goal.returns-clause-below
returns-clause-below c = children_after c.args.self.now.slots c.args.node c.requires
