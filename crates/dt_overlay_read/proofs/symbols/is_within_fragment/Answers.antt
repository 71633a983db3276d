use Rattle.std.proofs.Common.{rules, ◌≡◌, ◌≢◌, ◌↔◌, ◌∷◌, [], ◌++◌, ◌∙◌, ℕ, Some, None, IsTrue, false, codes, refl, ap}
use Rattle.dt_overlay_laws.specs.Objects.{IsOfFragment}
use Rattle.dt_overlay_read.proofs.RootChildren.{root_child}
use Rattle.dt_overlay_read.proofs.SymbolsFragments.{no_slashes, its_parts, of_other, of_none, of_child, no_child, child_says}
use Rattle.dt_trees.specs.Placed.{path_at, reading_of, IsAt}
use Rattle.dt_trees.proofs.NodePlaces.{path_is}
use Rattle.dt_overlay_read.proofs.symbols.is_within_fragment.Goals as goal

-- no
never : (P : Type 0) → ¬ P → IsTrue false ↔ P
never P not = ((λ e. absurd cc), λ p. absurd (not p))

pub returns-in_default-cut : goal.returns-in_default-cut
returns-in_default-cut g c =
    let t = reading_of (g.V.TreeView.tree c.args.object.now) in
    let whole : c.args.text.now ≡ 47 ∷ c.in-Some-eq47-default.names.now = c.in-Some-eq47-default.ensures.cases.0 ∙ ap (λ (b : ℕ). b ∷ c.in-Some-eq47-default.names.now) c.in-Some-eq47-default.field-0-0-test in
    never (IsOfFragment t c.args.text.now) (no_slashes t c.args.text.now c.in-Some-eq47-default.names.now whole c.in_default-cut.ensures)

pub returns-then-ne : goal.returns-then-ne
returns-then-ne g c =
    let t = reading_of (g.V.TreeView.tree c.args.object.now) in
    let whole : c.args.text.now ≡ 47 ∷ c.in-Some-eq47-default.names.now = c.in-Some-eq47-default.ensures.cases.0 ∙ ap (λ (b : ℕ). b ∷ c.in-Some-eq47-default.names.now) c.in-Some-eq47-default.field-0-0-test in
    let other : c.first_name.result.now ≢ codes "__overlay__" = search rules in
    never (IsOfFragment t c.args.text.now)
    (of_other t c.validity.ensures.valid c.args.text.now c.in-Some-eq47-default.names.now c.in-Some.name.now c.in-Some.rest.now whole c.in-Some.ensures c.first_name.result.now c.first_name.ensures other)

pub returns-in-Some-child : goal.returns-in-Some-child
returns-in-Some-child g c =
    let o = g.V.TreeView.tree c.args.object.now in
    let t = reading_of o in
    let valid = c.validity.ensures.valid in
    let x = c.in-Some.name.now in
    let whole : c.args.text.now ≡ 47 ∷ c.in-Some-eq47-default.names.now = c.in-Some-eq47-default.ensures.cases.0 ∙ ap (λ (b : ℕ). b ∷ c.in-Some-eq47-default.names.now) c.in-Some-eq47-default.field-0-0-test in
    let same : c.first_name.result.now ≡ codes "__overlay__" = search rules in
    let at : IsAt o (x ∷ []) c.in-Some-child.node = root_child o c.validity.ensures.places c.root.result x x (Some c.in-Some-child.node) c.root.ensures.at refl c.in-Some-child.ensures.is in
    let says = child_says o x c.in-Some-child.node c.is_some.result c.content_of.result (λ k. IsAt o (path_at o c.in-Some-child.node ++ codes "__overlay__" ∷ []) k) valid at
    (path_is o c.validity.ensures.places (x ∷ []) c.in-Some-child.node at) c.is_some.ensures c.content_of.ensures in (
      (λ b. of_child t valid c.args.text.now c.in-Some-eq47-default.names.now x c.in-Some.rest.now whole c.in-Some.ensures c.first_name.result.now c.first_name.ensures same (says.0 b)),
      λ of. says.1 (its_parts t valid c.args.text.now c.in-Some-eq47-default.names.now x c.in-Some.rest.now whole c.in-Some.ensures of).0,
    )

pub returns-in-None : goal.returns-in-None
returns-in-None g c =
    let o = g.V.TreeView.tree c.args.object.now in
    let t = reading_of o in
    let x = c.in-Some.name.now in
    let whole : c.args.text.now ≡ 47 ∷ c.in-Some-eq47-default.names.now = c.in-Some-eq47-default.ensures.cases.0 ∙ ap (λ (b : ℕ). b ∷ c.in-Some-eq47-default.names.now) c.in-Some-eq47-default.field-0-0-test in
    let none = root_child o c.validity.ensures.places c.root.result x x None c.root.ensures.at refl c.in-None.ensures.is in
    never (IsOfFragment t c.args.text.now)
    (of_none t c.validity.ensures.valid c.args.text.now c.in-Some-eq47-default.names.now x c.in-Some.rest.now whole c.in-Some.ensures (no_child o x c.validity.ensures.valid none))
