use Rattle.std.proofs.Common.{◌∙◌, ◌∷◌, ℕ, [], Option, length, sym, ap, subst, arith}
use Rattle.std.specs.Prelude.{is_some}
use Rattle.std.proofs.lemmas.List.{length-append}
use Rattle.dt_model.specs.Numbers.{is_brought}
use Rattle.dt_trees.specs.Placed.{path_at, last_name}
use Rattle.dt_trees.specs.Views.{IsAbove}
use Rattle.dt_overlay_object.proofs.Contents.{brought_here, brought_above, root_not_brought, path_above}
use Rattle.dt_overlay_object.proofs.brought.Brought.+brings.Goals as goal

pub returns-then-is_some : goal.returns-then-is_some
returns-then-is_some g t c names contents =
    let o = g.V.TreeView.tree c.args.object.now in
    sym (brought_here o c.validity.ensures.places names c.args.self.now.contents.entries contents c.args.node c.requires (ap is_some (sym c.content.ensures) ∙ sym c.is_some.ensures ∙ c.if-is_some.true))

pub brings-requires : goal.brings-requires
brings-requires g t c κs within =
    let o = g.V.TreeView.tree c.args.object.now in
    let up = subst (λ (r : Option ℕ). IsAbove o c.args.node r) c.in-Some.is c.parent.ensures in
    let longer = ap length (path_above o c.args.node c.in-Some.above up) ∙ length-append (path_at o c.in-Some.above) (last_name (path_at o c.args.node) ∷ []) in
    (omega (arith, c.decreases, longer), (within, up.0))

pub returns-in-Some : goal.returns-in-Some
returns-in-Some g t c names contents =
    let o = g.V.TreeView.tree c.args.object.now in
    let up = subst (λ (r : Option ℕ). IsAbove o c.args.node r) c.in-Some.is c.parent.ensures in
    c.brings.ensures names contents
    ∙ brought_above o c.validity.ensures.places names c.args.self.now.contents.entries contents c.args.node c.requires c.in-Some.above
    (ap is_some (sym c.content.ensures) ∙ sym c.is_some.ensures ∙ c.if-is_some.false) up

pub returns-in-None : goal.returns-in-None
returns-in-None g t c names contents =
    let o = g.V.TreeView.tree c.args.object.now in
    let root = subst (λ (r : Option ℕ). IsAbove o c.args.node r) c.in-None.is c.parent.ensures in
    sym (ap (is_brought names) root ∙ root_not_brought names)
