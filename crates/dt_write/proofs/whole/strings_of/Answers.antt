use Rattle.std.proofs.Common.{List, subst, sym}
use Rattle.std.specs.List.{AllByRecursion}
use Rattle.dt_flat.specs.Arena.{reading}
use Rattle.dt_model.specs.Format.{IsText}
use Rattle.dt_model.specs.Names.{Name}
use Rattle.dt_write.specs.Parts.{tree_at}
use Rattle.dt_write.proofs.WholeLemmas.{root_is, root_names}
use Rattle.dt_write.proofs.WrittenReads.{names_are_texts}
use Rattle.dt_write.proofs.whole.strings_of.Goals as goal

pub new-requires : goal.new-requires
new-requires c =
    let t = c.args.tree.now in
    let names = root_names (reading t) (tree_at t.slots c.root.result) c.new-names.result c.note_node.new.self (root_is t.slots c.root.result c.root.ensures.node c.root.ensures.unnamed) c.new-names.ensures c.in_ok-note_node.ensures in
    subst (λ (ns : List Name). AllByRecursion IsText ns) (sym names) (names_are_texts (reading t) c.validity.ensures.valid)
