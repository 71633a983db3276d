use Rattle.std.proofs.Common.{◌≡◌, ℕ, List, sym, ap, subst, ◌∙◌}
use Rattle.std.proofs.lemmas.Result.{IfErr-weaker}
use Rattle.dt_model.specs.Path.{Path}
use Rattle.dt_names.specs.declared.fault.Fault.{Fault}
use Rattle.dt_overlay_base.specs.Targets.{HasRoomAt, WhyNotSetAt}
use Rattle.dt_read.specs.Checked.{placed_of}
use Rattle.dt_trees.specs.Placed.{IsNode}
use Rattle.dt_edit.specs.Buffers.{Follows, HasRoom}
use Rattle.dt_edit.specs.Editable.{reading_in, path_in}
use Rattle.dt_edit.proofs.Rooms.{set_allowed, set_keeps, set_refused}
use Rattle.dt_edit.proofs.target.BlobBufTarget.set_prop.Goals as goal

-- the node, of the blob that there was
at : (c : goal.After-set_in) → IsNode (placed_of c.self.inside.bytes.items) c.node_at-node.result
at c = subst (λ (b : List ℕ). IsNode (placed_of b) c.node_at-node.result) c.deref.ensures.value c.node_at-node.ensures.node

path : (c : goal.After-set_in) → path_in c.self.inside.bytes.items c.node_at-node.result ≡ c.args.path.now
path c = ap (λ (b : List ℕ). path_in b c.node_at-node.result) (sym c.deref.ensures.value) ∙ c.node_at-node.ensures.path

pub returns-clause-allowed : goal.returns-clause-allowed
returns-clause-allowed c = λ ok.
    let old = c.self.inside.bytes.items in
    let node = c.node_at-node.result in
    let name = c.args.name.now in
    let value = c.args.value.now in
    subst (λ (p : Path). HasRoomAt (HasRoom c.args.self.now) (reading_in c.args.self.now) p name value) (path c)
    (subst (λ (b : List ℕ). HasRoomAt (HasRoom b) (reading_in b) (path_in old node) name value) c.self.view_is (set_allowed old node name value c.self.invariant.editable (at c) (c.set_in.ensures.allowed ok)))

pub returns-clause-follows : goal.returns-clause-follows
returns-clause-follows c =
    subst (λ (b : List ℕ). Follows b c.set_in.new.bytes.items) c.self.view_is
    (set_keeps c.set_in.result c.self.inside.bytes.items c.set_in.new.bytes.items c.node_at-node.result c.args.name.now c.args.value.now c.self.invariant.editable (at c) c.set_in.ensures.whole
    c.set_in.ensures.ok c.set_in.ensures.strings c.set_in.ensures.size c.set_in.ensures.err)

pub returns-clause-refused : goal.returns-clause-refused
returns-clause-refused c =
    let old = c.self.inside.bytes.items in
    let node = c.node_at-node.result in
    let name = c.args.name.now in
    let value = c.args.value.now in
    IfErr-weaker c.set_in.result _ _
    (λ (fault : Fault) why. (
      subst (λ (p : Path). WhyNotSetAt (HasRoom c.args.self.now) fault.kind (reading_in c.args.self.now) p name value) (path c)
          (subst (λ (b : List ℕ). WhyNotSetAt (HasRoom b) fault.kind (reading_in b) (path_in old node) name value) c.self.view_is (set_refused old node name value fault.kind c.self.invariant.editable (at c) why.0)),
      why.1,
    ))
    c.set_in.ensures.refused
