use Rattle.std.proofs.Common.{◌∷◌, ◌++◌, [], length, sym, ap, subst, ◌∙◌, arith}
use Rattle.dt_read.specs.Marks.{last_mark, marks_of}
use Rattle.dt_read.specs.Parsing.{tree_in}
use Rattle.dt_read.specs.TreeTokens.{AreTokens}
use Rattle.dt_read.specs.Keys.{AreShallow}
use Rattle.dt_read.proofs.Cursors.{few_marks}
use Rattle.dt_read.proofs.Nodes.{marks_in_is}
use Rattle.dt_read.proofs.Shallow.{shallow_tree}
use Rattle.dt_read.proofs.structure.Structure.start.Goals as goal

pub returns-clause-tokens : goal.returns-clause-tokens
returns-clause-tokens c =
    c.new.ensures ∙ marks_in_is c.self.inside.strings.now c.self.inside.at c.self.inside.block.now c.self.invariant ∙ ap (λ t. marks_of t ++ last_mark ∷ []) c.self.view_is

pub returns-clause-shallow : goal.returns-clause-shallow
returns-clause-shallow c =
    let same = c.new.ensures ∙ marks_in_is c.self.inside.strings.now c.self.inside.at c.self.inside.block.now c.self.invariant in
    subst (AreShallow 0) (sym same) (shallow_tree (tree_in c.self.inside.strings.now c.self.inside.at c.self.inside.block.now) c.self.invariant.tree.depth)

pub new-requires : goal.new-requires
new-requires c = record { marks = c.self.invariant.tree.marks ++ last_mark ∷ []; spelled = c.self.invariant.tree.spelled; small = c.self.invariant.small }

pub returns-clause-few : goal.returns-clause-few
returns-clause-few c =
    let inside = c.self.inside in
    let tokens : AreTokens inside.strings.now inside.at inside.block.now = record { marks = c.self.invariant.tree.marks ++ last_mark ∷ []; spelled = c.self.invariant.tree.spelled; small = c.self.invariant.small } in
    let few = few_marks inside.strings.now inside.at inside.block.now tokens in
    omega (arith, ap length c.new.ensures)
