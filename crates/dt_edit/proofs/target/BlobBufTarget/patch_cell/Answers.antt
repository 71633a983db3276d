use Rattle.std.proofs.Common.{◌≡◌, ℕ, List, [], Option, unwrap_or, sym, ap, subst, ◌∙◌}
use Rattle.dt_model.specs.Applied.{with_cell}
use Rattle.dt_model.specs.Path.{Path}
use Rattle.dt_model.specs.Tree.{value_in}
use Rattle.dt_overlay_base.specs.Targets.{HasRoomAt}
use Rattle.dt_read.specs.Checked.{placed_of}
use Rattle.dt_trees.specs.Placed.{IsNode}
use Rattle.dt_edit.specs.Buffers.{Follows, HasRoom}
use Rattle.dt_edit.specs.Editable.{reading_in, path_in, value_patched, HasCellAt}
use Rattle.dt_edit.proofs.Rooms.{patch_allowed, patch_keeps}
use Rattle.dt_edit.proofs.target.BlobBufTarget.patch_cell.Goals as goal

-- the node, of the blob that there was
at : (c : goal.After-patch_in) → IsNode (placed_of c.self.inside.bytes.items) c.node_at-node.result
at c = subst (λ (b : List ℕ). IsNode (placed_of b) c.node_at-node.result) c.deref.ensures.value c.node_at-node.ensures.node

path : (c : goal.After-patch_in) → path_in c.self.inside.bytes.items c.node_at-node.result ≡ c.args.path.now
path c = ap (λ (b : List ℕ). path_in b c.node_at-node.result) (sym c.deref.ensures.value) ∙ c.node_at-node.ensures.path

cell : (c : goal.After-patch_in) → HasCellAt c.self.inside.bytes.items c.node_at-node.result c.args.name.now c.args.offset
cell c = (
  c.requires.0,
  ap (λ (p : Path). value_in (reading_in c.self.inside.bytes.items) p c.args.name.now) (path c) ∙ ap (λ (b : List ℕ). value_in (reading_in b) c.args.path.now c.args.name.now) c.self.view_is ∙ c.requires.1,
  c.requires.2,
)

pub returns-clause-allowed : goal.returns-clause-allowed
returns-clause-allowed c = λ value there ok.
    let old = c.self.inside.bytes.items in
    let node = c.node_at-node.result in
    let name = c.args.name.now in
    let is : value_patched old node name c.args.offset c.args.number ≡ with_cell value c.args.offset c.args.number =
    ap (λ (o : Option (List ℕ)). with_cell (unwrap_or o []) c.args.offset c.args.number)
    (ap (λ (p : Path). value_in (reading_in old) p name) (path c) ∙ ap (λ (b : List ℕ). value_in (reading_in b) c.args.path.now name) c.self.view_is ∙ there) in
    let may = patch_allowed c.patch_in.result old c.patch_in.new.bytes.items node name c.args.offset c.args.number c.self.invariant (at c) (cell c) c.patch_in.ensures.whole
    c.patch_in.ensures.ok c.patch_in.ensures.strings c.patch_in.ensures.size c.patch_in.ensures.allowed ok in
    subst (λ (p : Path). HasRoomAt (HasRoom c.args.self.now) (reading_in c.args.self.now) p name (with_cell value c.args.offset c.args.number)) (path c)
    (subst (λ (b : List ℕ). HasRoomAt (HasRoom b) (reading_in b) (path_in old node) name (with_cell value c.args.offset c.args.number)) c.self.view_is
    (subst (HasRoomAt (HasRoom old) (reading_in old) (path_in old node) name) is may))

pub returns-clause-follows : goal.returns-clause-follows
returns-clause-follows c =
    subst (λ (b : List ℕ). Follows b c.patch_in.new.bytes.items) c.self.view_is
    (patch_keeps c.patch_in.result c.self.inside.bytes.items c.patch_in.new.bytes.items c.node_at-node.result c.args.name.now c.args.offset c.args.number c.self.invariant (at c) (cell c) c.patch_in.ensures.whole
    c.patch_in.ensures.ok c.patch_in.ensures.strings c.patch_in.ensures.size c.patch_in.ensures.err)
