use Rattle.std.proofs.Common.{◌≡◌, ◌-◌, ◌∷◌, ℕ, List, length, drop, sym, ap, subst, ◌∙◌}
use Rattle.dt_model.specs.Checks.{number}
use Rattle.dt_model.specs.Tree.{Property}
use Rattle.dt_read.specs.Lying.{Lies}
use Rattle.dt_read.specs.Marks.{prop_mark}
use Rattle.dt_read.specs.Parsing.{left_by}
use Rattle.dt_read.specs.TreeTokens.{marks_in}
use Rattle.dt_read.specs.View.{view, view_at}
use Rattle.dt_read.proofs.Lying.{token_later, behind_later, value_lies, name_lies, properties_next, number_first, number_later}
use Rattle.dt_read.proofs.spans.property_from.Goals as goal

pub returns-then-before-eq0 : goal.returns-then-before-eq0
returns-then-before-eq0 c =
    let strings = c.args.strings.now in
    let found = c.in-Some.found in
    let property : Property = record { name = c.in-Property.name.now; value = c.in-Property.value.now } in
    let behind = marks_in strings found.behind found.rest.now in
    let next : marks_in strings c.loop-found.here c.loop-found.rest.now ≡ prop_mark property ∷ behind = c.in-Some.ensures.next ∙ ap (λ t. view_at found.at t ∷ behind) c.in-Property.is in
    let first = properties_next (marks_in strings c.loop-found.here c.loop-found.rest.now) behind property next in
    let lies = token_later strings c.args.at c.args.bytes.now c.loop-found.here c.loop-found.rest.now found.at (view found.token) found.behind found.rest.now c.loop-found.invariant.1 c.in-Some.ensures.lies in
    let offset : number (drop (found.at - c.args.at) c.args.bytes.now) 8 ≡ c.number-offset.result = sym (c.number-offset.ensures.value ∙ ap (λ (own : List ℕ). number own 8) c.from.ensures) in (
      property,
      sym c.loop-found.invariant.2 ∙ number_first (left_by (marks_in strings c.loop-found.here c.loop-found.rest.now)).properties (left_by behind).properties property c.loop-found.before first c.if-before-eq0.true,
      subst (λ (n : ℕ). Lies strings (record { at = n; len = length property.name }) property.name) offset
          (name_lies strings c.args.at c.args.bytes.now found.at (view found.token) found.behind found.rest.now property (ap view c.in-Property.is) lies),
      value_lies strings c.args.at c.args.bytes.now found.at (view found.token) found.behind found.rest.now property (ap view c.in-Property.is) lies,
    )

pub loop-found-preserved : goal.loop-found-preserved
loop-found-preserved c =
    let strings = c.args.strings.now in
    let found = c.in-Some.found in
    let property : Property = record { name = c.in-Property.name.now; value = c.in-Property.value.now } in
    let behind = marks_in strings found.behind found.rest.now in
    let next : marks_in strings c.loop-found.here c.loop-found.rest.now ≡ prop_mark property ∷ behind = c.in-Some.ensures.next ∙ ap (λ t. view_at found.at t ∷ behind) c.in-Property.is in
    let first = properties_next (marks_in strings c.loop-found.here c.loop-found.rest.now) behind property next in (
      c.in-Some.ensures.tokens,
      behind_later strings c.args.at c.args.bytes.now found.at (view found.token) found.behind found.rest.now
          (token_later strings c.args.at c.args.bytes.now c.loop-found.here c.loop-found.rest.now found.at (view found.token) found.behind found.rest.now c.loop-found.invariant.1 c.in-Some.ensures.lies),
      number_later (left_by (marks_in strings c.loop-found.here c.loop-found.rest.now)).properties (left_by behind).properties property c.loop-found.before first c.if-before-eq0.false ∙ c.loop-found.invariant.2,
    )
