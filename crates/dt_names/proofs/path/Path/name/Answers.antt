use Rattle.std.proofs.Common.{ℕ, ◌∷◌, List, Option, Bor, slice_get, sym, ap, ◌∙◌, subst}
use Rattle.dt_names.specs.Paths.{parts, parts_left}
use Rattle.dt_names.proofs.PathTexts.{IsLeft, left_before, left_at_start, left_behind}
use Rattle.dt_names.proofs.path.Path.name.Goals as goal

pub loop-rest-init : goal.loop-rest-init
loop-rest-init c =
    let text = c.self.inside.text.items in
    let before = c.cut.result.0.now in
    let rest = parts_left c.cut.result.1 in
    subst (λ (p : List (List ℕ)). IsLeft p c.args.index c.args.index rest) c.self.view_is
    (left_at_start text c.args.index before rest c.self.invariant.names (ap parts (sym c.deref.ensures.value) ∙ c.cut.ensures))

pub returns-then-left-eq0-clause-value : goal.returns-then-left-eq0-clause-value
returns-then-left-eq0-clause-value c =
    let name = c.cut-in-Some.result.0.now in
    let left = parts_left c.cut-in-Some.result.1 in
    let now = left_before c.args.self.now c.args.index c.loop-rest.left c.loop-rest.rest c.in-Some.names name left c.loop-rest.invariant c.in-Some.is c.cut-in-Some.ensures in
    sym (now.same ∙ ap (slice_get (name ∷ left)) c.if-left-eq0.true)

pub returns-then-left-eq0-clause-valid : goal.returns-then-left-eq0-clause-valid
returns-then-left-eq0-clause-valid c =
    let name = c.cut-in-Some.result.0.now in
    let left = parts_left c.cut-in-Some.result.1 in
    let now = left_before c.args.self.now c.args.index c.loop-rest.left c.loop-rest.rest c.in-Some.names name left c.loop-rest.invariant c.in-Some.is c.cut-in-Some.ensures in
    now.named.0

pub loop-rest-preserved : goal.loop-rest-preserved
loop-rest-preserved c =
    let name = c.cut-in-Some.result.0.now in
    let left = parts_left c.cut-in-Some.result.1 in
    let now = left_before c.args.self.now c.args.index c.loop-rest.left c.loop-rest.rest c.in-Some.names name left c.loop-rest.invariant c.in-Some.is c.cut-in-Some.ensures in
    left_behind c.args.self.now c.args.index c.loop-rest.left name left now c.if-left-eq0.false

pub returns-clause-value : goal.returns-clause-value
returns-clause-value c =
    sym (c.loop-rest.invariant.same ∙ ap (λ (r : Option (Bor (List ℕ))). slice_get (parts_left r) c.loop-rest.left) c.in_default.is)
