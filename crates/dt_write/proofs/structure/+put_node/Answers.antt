use Rattle.std.proofs.Common.{◌<◌, ◌∙◌, ◌∷◌, ℕ, List, length, sym, subst, arith}
use Rattle.std.specs.List.{AllByRecursion}
use Rattle.std.proofs.lemmas.List.Elements.{recursion_from_All}
use Rattle.std.proofs.lemmas.Result.{err_from_is_err_and}
use Rattle.dt_flat.specs.Arena.{children}
use Rattle.dt_write.specs.Parts.{HasAll, HasBelow}
use Rattle.dt_write.proofs.Puts.{longer, transitive, nodes_begin, nodes_step, nodes_over, node_has, node_within, node_put, properties_within, children_within, below_is}
use Rattle.dt_write.proofs.structure.+put_node.Goals as goal

pub put_properties-requires : goal.put_properties-requires
put_properties-requires t c = subst (HasAll c.args.strings.now) (sym c.props.ensures) c.requires.has.0

pub put_node-requires : goal.put_node-requires
put_node-requires t c =
    let under : AllByRecursion (λ child. (c.args.node < child) × (child < length c.args.tree.now.slots)) (c.in-Some.child ∷ c.next.new.self) =
    subst (λ (nodes : List ℕ). AllByRecursion (λ child. (c.args.node < child) × (child < length c.args.tree.now.slots)) nodes) c.in-Some.ensures.steps c.loop-child.invariant.below in (
      omega (arith, under.0.0, under.0.1),
      (
        under.0.1,
        node_has c.args.strings.now c.args.tree.now.slots (children c.args.tree.now.slots c.args.node) c.loop-child.child-iterator c.next.new.self c.in-Some.child c.put_properties.new.out.items c.loop-child.out.items
            c.in-Some.ensures.steps c.loop-child.invariant.left,
      ),
    )

pub returns-in_err-put_properties-clause-refused : goal.returns-in_err-put_properties-clause-refused
returns-in_err-put_properties-clause-refused t c =
    let e = err_from_is_err_and c.from_residual-in_err-put_properties.result c.from_residual-in_err-put_properties.ensures.1 in
    let r = c.in_err-put_properties.ensures.refused in
    let size = properties_within c.args.strings.now c.args.tree.now.slots c.args.node c.name.result.now c.props.result c.args.out.now.items c.put_begin.new.out.items c.name.ensures c.props.ensures c.in_ok-put_begin.ensures in
    rw (e.1, e.2) (longer c.in_err-put_properties.field-0.0.kind _ _ size r.0, r.1)

pub returns-clause-put : goal.returns-clause-put
returns-clause-put t c =
    let slots = c.args.tree.now.slots in
    let inside = nodes_over c.args.strings.now slots (children slots c.args.node) c.loop-child.child-iterator c.put_properties.new.out.items c.loop-child.out.items c.in-None.ensures.steps.0 c.loop-child.invariant.left in
    node_put c.args.strings.now slots c.args.node c.name.result.now c.props.result c.args.out.now.items c.put_begin.new.out.items c.put_properties.new.out.items c.loop-child.out.items c.put_word.new.out.items
    c.name.ensures c.props.ensures c.in_ok-put_begin.ensures c.in_ok-put_properties.ensures.put inside c.in_ok-put_word.ensures

pub loop-child-init : goal.loop-child-init
loop-child-init t c =
    let slots = c.args.tree.now.slots in
    let all = children slots c.args.node in
    let same = c.into_iter-child-iterator.ensures.into_iter_gives ∙ c.children-child-items.ensures.rest in
    record {
      next = tt;
      ends = tt;
      left = nodes_begin c.args.strings.now slots all c.into_iter-child-iterator.result c.put_properties.new.out.items (subst (HasBelow c.args.strings.now) (below_is slots c.args.node) c.requires.has.1) same;
      below = subst (λ (nodes : List ℕ). AllByRecursion (λ child. (c.args.node < child) × (child < length slots)) nodes) (sym same)
          (recursion_from_All (λ child. (c.args.node < child) × (child < length slots)) all c.children-child-items.ensures.below);
    }

pub loop-child-preserved : goal.loop-child-preserved
loop-child-preserved t c =
    let slots = c.args.tree.now.slots in
    let under : AllByRecursion (λ child. (c.args.node < child) × (child < length slots)) (c.in-Some.child ∷ c.next.new.self) =
    subst (λ (nodes : List ℕ). AllByRecursion (λ child. (c.args.node < child) × (child < length slots)) nodes) c.in-Some.ensures.steps c.loop-child.invariant.below in
    record {
      next = tt;
      ends = tt;
      left = nodes_step c.args.strings.now slots (children slots c.args.node) c.loop-child.child-iterator c.next.new.self c.in-Some.child
          c.put_properties.new.out.items c.loop-child.out.items c.put_node.new.out.items c.in-Some.ensures.steps c.loop-child.invariant.left c.in_ok-put_node.ensures.put;
      below = under.1;
    }

pub returns-in_err-put_node-clause-refused : goal.returns-in_err-put_node-clause-refused
returns-in_err-put_node-clause-refused t c =
    let e = err_from_is_err_and c.from_residual-in_err-put_node.result c.from_residual-in_err-put_node.ensures.1 in
    let r = c.in_err-put_node.ensures.refused in
    let slots = c.args.tree.now.slots in
    let all = children slots c.args.node in
    let part = node_within c.args.strings.now slots all c.loop-child.child-iterator c.next.new.self c.in-Some.child c.put_properties.new.out.items c.loop-child.out.items c.in-Some.ensures.steps c.loop-child.invariant.left in
    let own = children_within c.args.strings.now slots c.args.node c.name.result.now c.props.result c.args.out.now.items c.put_begin.new.out.items c.put_properties.new.out.items c.name.ensures c.props.ensures c.in_ok-put_begin.ensures c.in_ok-put_properties.ensures.put in
    rw (e.1, e.2) (longer c.in_err-put_node.field-0.0.kind _ _ (transitive _ _ _ part own) r.0, r.1)
