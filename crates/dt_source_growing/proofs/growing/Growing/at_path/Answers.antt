use Rattle.std.proofs.Common.{◌≡◌, Some, None, reverse, length, vec_len, nat_eq, false, sym, ◌∙◌, ap, arith, eqb-true, eq-eqb}
use Rattle.std.specs.Option.{option_and_then}
use Rattle.dt_source_growing.specs.Shape.{node_at}
use Rattle.dt_source_growing.specs.Growing.{shape}
use Rattle.dt_source_growing.specs.declared.growing.Growing.{Growing}
use Rattle.dt_source_growing.proofs.Descents.{descend, descend_root}
use Rattle.dt_source_growing.proofs.Leading.{leads_to, leads_from, leads_inside}
use Rattle.dt_source_growing.proofs.Walks.{root_there}
use Rattle.dt_source_growing.proofs.growing.Growing.at_path.Goals as goal

pub returns-then-is_empty : goal.returns-then-is_empty
returns-then-is_empty c = λ k l.
    let g : Growing = c.args.self.now in
    let none : vec_len g.nodes ≡ 0 = eqb-true (vec_len g.nodes) 0 (sym c.if-is_empty.ensures) in
    omega (arith, g.nodes.ok.0, none, leads_inside g (reverse c.args.path.now) k l)

pub loop-name-init : goal.loop-name-init
loop-name-init c =
    let g : Growing = c.args.self.now in
    let some : vec_len g.nodes ≡ 0 → ⊥ = λ e. let y = eq-eqb (vec_len g.nodes) 0 e in let n : nat_eq (vec_len g.nodes) 0 ≡ false = sym c.if-is_empty.ensures in cc in
    record {
      next = tt;
      ends = tt;
      left = ap (descend (shape g).child 0) (c.into_iter-name-iterator.ensures.into_iter_gives ∙ c.names-name-items.ensures)
          ∙ descend_root (shape g) (root_there (length g.nodes.items) (omega (arith, g.nodes.ok.0, some))) c.args.path.now;
    }

pub returns-in_err-at : goal.returns-in_err-at
returns-in_err-at c =
    let g : Growing = c.args.self.now in
    let lost : node_at (shape g) (reverse c.args.path.now) ≡ None =
    sym c.loop-name.invariant.left ∙ ap (descend (shape g).child c.loop-name.at) c.in-Some.ensures.steps
    ∙ ap (option_and_then (λ j. descend (shape g).child j c.next.new.self)) (sym c.in_err-at.ensures) in
    rw c.from_residual.ensures (λ k l. let e : None ≡ Some k = sym lost ∙ leads_to g c.args.self.now.sound (reverse c.args.path.now) k l in cc)

pub returns : goal.returns
returns c =
    let g : Growing = c.args.self.now in
    leads_from g c.args.self.now.sound (reverse c.args.path.now) c.loop-name.at (sym c.loop-name.invariant.left ∙ ap (descend (shape g).child c.loop-name.at) c.in-None.ensures.steps.0)
