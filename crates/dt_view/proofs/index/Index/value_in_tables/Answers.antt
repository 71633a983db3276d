use Rattle.std.proofs.Common.{ap, sym, subst, ◌∙◌}
use Rattle.std.specs.Option.{option_copied}
use Rattle.dt_model.specs.Tree.{nodes_of}
use Rattle.dt_trees.specs.Placed.{reading_of}
use Rattle.dt_view.specs.Tables.{AreKinds}
use Rattle.dt_view.proofs.Kinded.{kind_looked_up}
use Rattle.dt_view.proofs.index.Index.value_in_tables.Goals as goal

pub returns-then-is_kind_name : goal.returns-then-is_kind_name
returns-then-is_kind_name c =
    let entries = c.self.inside.kinds.entries in
    let are = subst (λ t. AreKinds t (nodes_of (reading_of t)) entries) c.self.view_is c.self.invariant.kept in
    ap option_copied (c.copied.ensures ∙ c.get.ensures.value) ∙ kind_looked_up c.args.self.now entries c.args.node c.args.name.now (sym c.is_kind_name.ensures ∙ c.if-is_kind_name.true) c.requires are
