use Rattle.std.proofs.Common.{rules, ◌≡◌, ℕ, List, None, refl, sym, ap, subst, ◌∙◌}
use Rattle.std.specs.Prelude.{IfErr}
use Rattle.std.proofs.lemmas.Result.{IfErr-weaker}
use Rattle.dt_model.specs.Path.{Path}
use Rattle.dt_names.specs.declared.fault.Fault.{Fault}
use Rattle.dt_overlay_base.specs.Targets.{MayAddAt, WhyNotAddedAt}
use Rattle.dt_read.specs.Checked.{placed_of}
use Rattle.dt_trees.specs.Placed.{IsNode}
use Rattle.dt_edit.specs.BufferLaws.{follows_own}
use Rattle.dt_edit.specs.Buffers.{Follows, HasRoom}
use Rattle.dt_edit.specs.Editable.{reading_in, path_in, WhyNotAddedOwned}
use Rattle.dt_edit.proofs.Rooms.{add_allowed, add_refused, child_follows}
use Rattle.dt_edit.proofs.target.BlobBufTarget.add_node.Goals as goal

pub returns-in_err-add_in-clause-follows : goal.returns-in_err-add_in-clause-follows
returns-in_err-add_in-clause-follows c = subst (Follows c.args.self.now) (sym (c.in_err-add_in.ensures.err ∙ c.self.view_is)) (follows_own c.args.self.now)

pub returns-in_err-add_in-clause-refused : goal.returns-in_err-add_in-clause-refused
returns-in_err-add_in-clause-refused c =
    let old = c.self.inside.bytes.items in
    let node = c.node_at-node.result in
    let name = c.args.name.now in
    let at = subst (λ (b : List ℕ). IsNode (placed_of b) node) c.deref.ensures.value c.node_at-node.ensures.node in
    let path : path_in old node ≡ c.args.parent.now = ap (λ (b : List ℕ). path_in b node) (sym c.deref.ensures.value) ∙ c.node_at-node.ensures.path in
    let told : IfErr c.from_residual.result (λ (fault : Fault). WhyNotAddedOwned fault.kind old node name × (fault.at ≡ None)) = search rules in
    IfErr-weaker c.from_residual.result (λ (fault : Fault). WhyNotAddedOwned fault.kind old node name × (fault.at ≡ None))
    (λ (fault : Fault). WhyNotAddedAt (HasRoom c.args.self.now) fault.kind (reading_in c.args.self.now) c.args.parent.now name × (fault.at ≡ None))
    (λ (fault : Fault) why. (
      subst (λ (p : Path). WhyNotAddedAt (HasRoom c.args.self.now) fault.kind (reading_in c.args.self.now) p name) path
          (subst (λ (b : List ℕ). WhyNotAddedAt (HasRoom b) fault.kind (reading_in b) (path_in old node) name) c.self.view_is (add_refused old node name fault.kind c.self.invariant.editable at why.0)),
      why.1,
    ))
    told

pub returns-clause-allowed : goal.returns-clause-allowed
returns-clause-allowed c = λ _.
    let old = c.self.inside.bytes.items in
    let node = c.node_at-node.result in
    let name = c.args.name.now in
    let at = subst (λ (b : List ℕ). IsNode (placed_of b) node) c.deref.ensures.value c.node_at-node.ensures.node in
    let path : path_in old node ≡ c.args.parent.now = ap (λ (b : List ℕ). path_in b node) (sym c.deref.ensures.value) ∙ c.node_at-node.ensures.path in
    subst (λ (p : Path). MayAddAt (HasRoom c.args.self.now) (reading_in c.args.self.now) p name) path
    (subst (λ (b : List ℕ). MayAddAt (HasRoom b) (reading_in b) (path_in old node) name) c.self.view_is (add_allowed old node name c.self.invariant.editable at (c.in_ok-add_in.ensures.allowed refl)))

pub returns-clause-follows : goal.returns-clause-follows
returns-clause-follows c =
    let old = c.self.inside.bytes.items in
    let node = c.node_at-node.result in
    let at = subst (λ (b : List ℕ). IsNode (placed_of b) node) c.deref.ensures.value c.node_at-node.ensures.node in
    let e = c.in_ok-add_in.ensures in
    subst (λ (b : List ℕ). Follows b c.add_in.new.bytes.items) c.self.view_is
    (child_follows old c.add_in.new.bytes.items node c.args.name.now c.self.invariant.editable at e.whole.editable (e.allowed refl).fresh e.ok e.strings (e.whole.whole ∙ e.size))
