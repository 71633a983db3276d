use Rattle.std.proofs.Common.{◌∷◌, sym, ap, subst, ◌∙◌}
use Rattle.dt_model.specs.Format.{Token}
use Rattle.dt_model.specs.Tree.{Property}
use Rattle.dt_read.specs.Cuts.{HasNoProperty}
use Rattle.dt_read.specs.Lying.{TokenLies}
use Rattle.dt_read.specs.TreeTokens.{marks_in}
use Rattle.dt_read.specs.View.{view, view_at}
use Rattle.dt_read.proofs.Extents.{FindsProperty, extends_first, extends_more, extent_none, extent_some, no_property}
use Rattle.dt_read.proofs.cuts.property_extent.Goals as goal

pub loop-found-init : goal.loop-found-init
loop-found-init c = extends_first c.args.strings.now c.args.at c.args.bytes.now c.args.name.now c.requires

pub next_token-requires : goal.next_token-requires
next_token-requires c = c.loop-found.invariant.tokens

pub returns-in_default-token : goal.returns-in_default-token
returns-in_default-token c =
    let found = c.in-Some.found in
    extent_none c.args.strings.now c.args.at c.args.bytes.now c.args.name.now c.loop-found.here c.loop-found.rest.now c.loop-found.invariant
    (subst HasNoProperty (sym c.in-Some.ensures.next) (no_property found.at found.token (marks_in c.args.strings.now found.behind found.rest.now) c.in_default-token.not-Property))

pub returns-then-eq : goal.returns-then-eq
returns-then-eq c =
    let strings = c.args.strings.now in
    let found = c.in-Some.found in
    let p : Property = record { name = c.in-Property.other.now; value = c.in-Property.field-1.now } in
    let finds : FindsProperty strings c.loop-found.here c.loop-found.rest.now p found.at found.behind found.rest.now = record {
      lies = subst (λ (t : Token). TokenLies strings c.loop-found.here c.loop-found.rest.now found.at t found.behind found.rest.now) (ap view c.in-Property.is) c.in-Some.ensures.lies;
      nops = c.in-Some.ensures.nops;
      marks = c.in-Some.ensures.next ∙ ap (λ t. view_at found.at t ∷ marks_in strings found.behind found.rest.now) c.in-Property.is;
      tokens = c.in-Some.ensures.tokens;
    } in
    extent_some strings c.args.at c.args.bytes.now c.args.name.now c.loop-found.here c.loop-found.rest.now p found.at found.behind found.rest.now c.loop-found.invariant finds (sym c.eq.ensures ∙ c.if-eq.true)

pub loop-found-preserved : goal.loop-found-preserved
loop-found-preserved c =
    let strings = c.args.strings.now in
    let found = c.in-Some.found in
    let p : Property = record { name = c.in-Property.other.now; value = c.in-Property.field-1.now } in
    let finds : FindsProperty strings c.loop-found.here c.loop-found.rest.now p found.at found.behind found.rest.now = record {
      lies = subst (λ (t : Token). TokenLies strings c.loop-found.here c.loop-found.rest.now found.at t found.behind found.rest.now) (ap view c.in-Property.is) c.in-Some.ensures.lies;
      nops = c.in-Some.ensures.nops;
      marks = c.in-Some.ensures.next ∙ ap (λ t. view_at found.at t ∷ marks_in strings found.behind found.rest.now) c.in-Property.is;
      tokens = c.in-Some.ensures.tokens;
    } in
    extends_more strings c.args.at c.args.bytes.now c.args.name.now c.loop-found.here c.loop-found.rest.now p found.at found.behind found.rest.now c.loop-found.invariant finds (sym c.eq.ensures ∙ c.if-eq.false)

pub returns : goal.returns
returns c =
    extent_none c.args.strings.now c.args.at c.args.bytes.now c.args.name.now c.loop-found.here c.loop-found.rest.now c.loop-found.invariant
    (subst HasNoProperty (sym c.in_default.ensures.next) tt)
