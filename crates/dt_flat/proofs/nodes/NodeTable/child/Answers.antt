use Rattle.std.proofs.Common.{◌+◌, ◌∙◌, sym, ap, ℕ, List, Option, option_map, arith}
use Rattle.dt_flat.specs.declared.nodes.Branch.{Branch}
use Rattle.dt_flat.specs.Rows.{child_from}
use Rattle.dt_flat.proofs.TableLemmas.{child-place, place-within}
use Rattle.dt_flat.proofs.nodes.NodeTable.child.Goals as goal

pub returns-in_err-find : goal.returns-in_err-find
returns-in_err-find c =
    c.from_residual.ensures ∙ ap (λ (o : Option ℕ). option_map (λ j. j + 1) o) c.in_err-find.ensures ∙ sym (child-place 1 c.args.node c.args.name c.self.inside.rows c.self.inside.depths.items c.self.invariant)
    ∙ ap (λ (bs : List Branch). child_from 1 c.args.node c.args.name bs) c.self.view_is

pub overflow_add-result : goal.overflow_add-result
overflow_add-result c =
    omega (arith, place-within c.args.node c.args.name c.in_ok-find.field-0 c.self.inside.rows (sym c.in_ok-find.ensures), c.self.invariant, c.self.inside.depths.small)

pub returns : goal.returns
returns c =
    ap (λ (o : Option ℕ). option_map (λ j. j + 1) o) c.in_ok-find.ensures ∙ sym (child-place 1 c.args.node c.args.name c.self.inside.rows c.self.inside.depths.items c.self.invariant)
    ∙ ap (λ (bs : List Branch). child_from 1 c.args.node c.args.name bs) c.self.view_is
