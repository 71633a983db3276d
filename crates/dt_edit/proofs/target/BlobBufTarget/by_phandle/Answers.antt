use Rattle.std.proofs.Common.{◌≡◌, None, Some, sym, subst, ◌∙◌}
use Rattle.dt_model.specs.Path.{Path}
use Rattle.dt_model.proofs.Finding.{node_of_number, number_of_node}
use Rattle.dt_overlay_laws.specs.Objects.{HasNumber}
use Rattle.dt_trees.specs.Placed.{PlacedTree, path_at, reading_of}
use Rattle.dt_edit.proofs.target.BlobBufTarget.by_phandle.Goals as goal

pub returns-in_ok-path_of-in-Some-clause-found : goal.returns-in_ok-path_of-in-Some-clause-found
returns-in_ok-path_of-in-Some-clause-found c =
    let t = c.blob-blob.result in
    let has = number_of_node (reading_of t) (path_at t c.in-Some.node) c.args.number c.validity.ensures.valid (sym c.in-Some.ensures.finds) in
    subst (λ (u : PlacedTree). HasNumber (reading_of u) c.in_ok-path_of-in-Some.field-0 c.args.number) c.blob-blob.ensures
    (subst (λ (p : Path). HasNumber (reading_of t) p c.args.number) (sym c.in_ok-path_of-in-Some.ensures.value) has)

pub returns-in-None-clause-found : goal.returns-in-None-clause-found
returns-in-None-clause-found c = λ p has.
    let t = c.blob-blob.result in
    let here = subst (λ (u : PlacedTree). HasNumber (reading_of u) p c.args.number) (sym c.blob-blob.ensures) has in
    let both : None ≡ Some p = c.in-None.ensures.finds ∙ node_of_number (reading_of t) p c.args.number c.validity.ensures.valid here in
    cc
