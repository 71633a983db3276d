use Rattle.std.proofs.Common.{refl, ◌⊎◌, inr, inl, sym, ◌∙◌, ap, ◌≡◌, true, ◌≢◌}
use Rattle.dt_parse.specs.declared.body.Behind.{Behind}
use Rattle.dt_parse.specs.declared.body.Behind.TheVariants as behind
use Rattle.dt_grammar.specs.Wanted.{kind_at}
use Rattle.dt_grammar.specs.Descent.{first, after}
use Rattle.dt_parse.specs.Nested.{behind_of, in_body}
use Rattle.dt_parse.proofs.Members.{unfollowed_at}
use Rattle.dt_parse.proofs.body.named.Goals as goal

ended_or_assigned : (b : Behind) → b ≢ behind.Other → b ≢ behind.Body → (b ≡ behind.End) ⊎ (b ≡ behind.Value)
ended_or_assigned behind.End o n = inl refl
ended_or_assigned behind.Value o n = inr refl
ended_or_assigned behind.Body o n = absurd (n refl)
ended_or_assigned behind.Other o n = absurd (o refl)

pub returns-in-Other-clause-err : goal.returns-in-Other-clause-err
returns-in-Other-clause-err c =
    let b : behind_of (kind_at (first (after true c.args.cursor.now))) ≡ behind.Other = sym (c.behind_of.ensures ∙ ap behind_of c.second.ensures) ∙ c.in-Other.is in
    λ ls outer. unfollowed_at (in_body c.args.late outer) ls c.args.cursor.now c.advance.new.self _ c.advance.ensures c.requires.named b c.stop.ensures.kind c.stop.ensures.left

pub property-requires-clause-assigned : goal.property-requires-clause-assigned
property-requires-clause-assigned c =
    let is = c.behind_of.ensures ∙ ap behind_of c.second.ensures in
    ended_or_assigned (behind_of (kind_at (first (after true c.args.cursor.now)))) (λ q. c.in_default.not-Other (is ∙ q)) c.requires.unopened
