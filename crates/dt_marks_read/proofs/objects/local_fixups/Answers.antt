use Rattle.std.proofs.Common.{◌≡◌, ◌∷◌, [], codes, ℕ, List, sym, ap, subst, Option, Some, None, ◌∙◌}
use Rattle.dt_trees.specs.Placed.{PlacedTree, place_of}
use Rattle.dt_marks_read.specs.Listed.{AreLocalFixupsOf}
use Rattle.dt_marks_read.specs.LocalFixupsLeft.{walk_told}
use Rattle.dt_marks_read.proofs.MirrorWalks.{may_walk}
use Rattle.dt_marks_read.proofs.ToldLocalFixups.{mirror_told, no_local_fixups}
use Rattle.dt_marks_read.proofs.objects.local_fixups.Goals as goal

-- where a name is that of the mirror
mirror_at : (t : PlacedTree) (name : List ℕ) (found : Option ℕ) → name ≡ codes "__local_fixups__" → found ≡ place_of t (name ∷ []) → place_of t (codes "__local_fixups__" ∷ []) ≡ found
mirror_at t name found is at = ap (λ (x : List ℕ). place_of t (x ∷ [])) (sym is) ∙ sym at

pub steps_in-requires : goal.steps_in-requires
steps_in-requires c = (c.as_slice.result.now ∷ [], sym (c.in-Some.ensures [] c.root-root.ensures))

pub new-requires : goal.new-requires
new-requires c =
    let t = c.args.blob.now in
    let at = mirror_at t c.as_slice.result.now (Some c.in-Some.mirror) c.as_slice.ensures (c.in-Some.ensures [] c.root-root.ensures) in
    may_walk t c.root-root.result c.push.new.self (codes "__local_fixups__") c.steps_in.result (c.push.ensures ∙ ap (λ ks. c.root-root.result ∷ ks) c.new-open_nodes.ensures)
    c.root-root.ensures c.validity.ensures.within (c.steps_in.ensures (codes "__local_fixups__" ∷ []) at)

pub returns-in-Some : goal.returns-in-Some
returns-in-Some c =
    let t = c.args.blob.now in
    let at = mirror_at t c.as_slice.result.now (Some c.in-Some.mirror) c.as_slice.ensures (c.in-Some.ensures [] c.root-root.ensures) in
    subst (AreLocalFixupsOf t) (sym c.new.ensures)
    (mirror_told t c.validity.ensures.places c.push.new.self c.root-root.result c.steps_in.result (c.push.ensures ∙ ap (λ ks. c.root-root.result ∷ ks) c.new-open_nodes.ensures)
    c.root-root.ensures (c.steps_in.ensures (codes "__local_fixups__" ∷ []) at))

pub returns-in-None : goal.returns-in-None
returns-in-None c =
    let t = c.args.blob.now in
    let none = mirror_at t c.as_slice.result.now None c.as_slice.ensures (c.in-None.ensures [] c.root-root.ensures) in
    subst (AreLocalFixupsOf t) (sym (c.new-in-None.ensures ∙ ap (λ ks. walk_told t ks c.steps.result) c.new-open_nodes.ensures))
    (no_local_fixups t c.validity.ensures.places c.steps.result none)
