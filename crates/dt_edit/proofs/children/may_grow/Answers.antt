use Rattle.std.proofs.Common.{length, ap, refl, ◌∙◌, arith, List, ℕ}
use Rattle.dt_model.specs.Tree.{nodes_of}
use Rattle.dt_read.specs.Checked.{placed_of}
use Rattle.dt_trees.specs.Placed.{PlacedTree, reading_of}
use Rattle.dt_edit.proofs.Below.{nodes_counted}
use Rattle.dt_edit.proofs.NodeSizes.{few_enough, may_grow_if}
use Rattle.dt_edit.proofs.children.may_grow.Goals as goal

pub returns-then-structure_bytes : goal.returns-then-structure_bytes
returns-then-structure_bytes c =
    let few = few_enough c.args.bytes.now c.requires (omega (arith, c.if-structure_bytes.true, ap (λ (x : List ℕ). length x) c.structure_bytes.ensures)) in
    (λ _. few, λ _. refl)

pub returns : goal.returns
returns c =
    may_grow_if c.args.bytes.now c.counts.result.nodes
    (c.counts.ensures.nodes ∙ ap (λ (t : PlacedTree). length (nodes_of (reading_of t))) c.of.ensures ∙ nodes_counted (placed_of c.args.bytes.now))
