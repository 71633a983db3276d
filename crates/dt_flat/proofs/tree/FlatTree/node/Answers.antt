use Rattle.std.proofs.Common.{◌≡◌, ℕ, ◌∷◌, List, Option, Some, sym, ap, ◌∙◌}
use Rattle.std.specs.Option.{option_and_then}
use Rattle.dt_model.specs.Names.{Name}
use Rattle.dt_model.specs.Path.{Path}
use Rattle.dt_flat.specs.Arena.{Arena, Slot, node_from, child_of, named_children}
use Rattle.dt_flat.proofs.Edges.{edge}
use Rattle.dt_flat.proofs.tree.FlatTree.node.Goals as goal

-- one name further
further : (slots : List Slot) (p i : ℕ) (x : Name) (names : Path) → child_of (named_children slots p) x ≡ Some i → node_from slots p (x ∷ names) ≡ node_from slots i names
further slots p i x names found = ap (λ (o : Option ℕ). option_and_then (λ c. node_from slots c names) o) found

pub loop-name-preserved : goal.loop-name-preserved
loop-name-preserved c =
    let slots = c.args.self.now.slots in
    let p = c.loop-name.node in
    let i = c.in_ok-node.node in
    let x = c.in-Some.name.now in
    let found : child_of (named_children slots p) x ≡ Some i = ap (λ (a : Arena). child_of (named_children a.slots p) x) (sym c.self.view_is) ∙ sym c.in_ok-node.ensures in
    record {
      next = tt;
      ends = tt;
      there = (edge slots p x i found).within;
      left = c.loop-name.invariant.left ∙ ap (node_from slots p) c.in-Some.ensures.steps ∙ further slots p i x c.next.new.self found;
    }
