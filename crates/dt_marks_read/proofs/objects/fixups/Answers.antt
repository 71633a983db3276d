use Rattle.std.proofs.Common.{◌≡◌, ◌∷◌, [], codes, ℕ, List, sym, ap, subst, Some, None, ◌∙◌}
use Rattle.dt_trees.specs.Placed.{place_of}
use Rattle.dt_marks_read.specs.Listed.{AreFixupsOf}
use Rattle.dt_overlay_texts.proofs.NoNodes.{unplaced_properties}
use Rattle.dt_marks_read.proofs.ToldFixups.{all_told}
use Rattle.dt_marks_read.proofs.objects.fixups.Goals as goal

pub props-requires : goal.props-requires
props-requires c = (c.as_slice.result.now ∷ [], sym (c.in-Some.ensures [] c.root.ensures))

pub returns-in-Some : goal.returns-in-Some
returns-in-Some c =
    let t = c.args.blob.now in
    let at : place_of t (codes "__fixups__" ∷ []) ≡ Some c.in-Some.node = ap (λ (name : List ℕ). place_of t (name ∷ [])) (sym c.as_slice.ensures) ∙ sym (c.in-Some.ensures [] c.root.ensures) in
    subst (AreFixupsOf t) (sym c.new.ensures) (all_told t c.validity.ensures.valid (Some c.props.result) (c.props.ensures (codes "__fixups__" ∷ []) at))

pub returns-in-None : goal.returns-in-None
returns-in-None c =
    let t = c.args.blob.now in
    let none : place_of t (codes "__fixups__" ∷ []) ≡ None = ap (λ (name : List ℕ). place_of t (name ∷ [])) (sym c.as_slice.ensures) ∙ sym (c.in-None.ensures [] c.root.ensures) in
    subst (AreFixupsOf t) (sym c.new-in-None.ensures) (all_told t c.validity.ensures.valid None (sym (unplaced_properties t (codes "__fixups__" ∷ []) none)))
