use Rattle.std.proofs.Common.{◌≡◌, ◌∷◌, sym, ap, ◌∙◌}
use Rattle.dt_model.specs.Tree.{Property}
use Rattle.dt_read.specs.Marks.{prop_mark}
use Rattle.dt_read.specs.Parsing.{left_by}
use Rattle.dt_read.specs.TreeTokens.{marks_in}
use Rattle.dt_read.specs.View.{view, view_at}
use Rattle.dt_read.proofs.Lying.{token_later, behind_later, value_lies, properties_next, value_first, value_later}
use Rattle.dt_read.proofs.spans.value_from.Goals as goal

pub returns-then-eq : goal.returns-then-eq
returns-then-eq c =
    let strings = c.args.strings.now in
    let found = c.in-Some.found in
    let property : Property = record { name = c.in-Property.other.now; value = c.in-Property.value.now } in
    let behind = marks_in strings found.behind found.rest.now in
    let next : marks_in strings c.loop-found.here c.loop-found.rest.now ≡ prop_mark property ∷ behind = c.in-Some.ensures.next ∙ ap (λ t. view_at found.at t ∷ behind) c.in-Property.is in
    let first = properties_next (marks_in strings c.loop-found.here c.loop-found.rest.now) behind property next in (
      c.in-Property.value.now,
      sym c.loop-found.invariant.2 ∙ value_first (left_by (marks_in strings c.loop-found.here c.loop-found.rest.now)).properties (left_by behind).properties property c.args.name.now first (sym c.eq.ensures ∙ c.if-eq.true),
      value_lies strings c.args.at c.args.bytes.now found.at (view found.token) found.behind found.rest.now property (ap view c.in-Property.is)
          (token_later strings c.args.at c.args.bytes.now c.loop-found.here c.loop-found.rest.now found.at (view found.token) found.behind found.rest.now c.loop-found.invariant.1 c.in-Some.ensures.lies),
    )

pub loop-found-preserved : goal.loop-found-preserved
loop-found-preserved c =
    let strings = c.args.strings.now in
    let found = c.in-Some.found in
    let property : Property = record { name = c.in-Property.other.now; value = c.in-Property.value.now } in
    let behind = marks_in strings found.behind found.rest.now in
    let next : marks_in strings c.loop-found.here c.loop-found.rest.now ≡ prop_mark property ∷ behind = c.in-Some.ensures.next ∙ ap (λ t. view_at found.at t ∷ behind) c.in-Property.is in
    let first = properties_next (marks_in strings c.loop-found.here c.loop-found.rest.now) behind property next in (
      c.in-Some.ensures.tokens,
      behind_later strings c.args.at c.args.bytes.now found.at (view found.token) found.behind found.rest.now
          (token_later strings c.args.at c.args.bytes.now c.loop-found.here c.loop-found.rest.now found.at (view found.token) found.behind found.rest.now c.loop-found.invariant.1 c.in-Some.ensures.lies),
      sym (value_later (left_by (marks_in strings c.loop-found.here c.loop-found.rest.now)).properties (left_by behind).properties property c.args.name.now first (sym c.eq.ensures ∙ c.if-eq.false)) ∙ c.loop-found.invariant.2,
    )
