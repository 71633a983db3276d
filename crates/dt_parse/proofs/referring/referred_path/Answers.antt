use Rattle.std.proofs.Common.{Option, Some, None, MatchOption}
use Rattle.dt_grammar.proofs.PathTexts.{refers, referred}
use Rattle.dt_parse.proofs.referring.referred_path.Goals as goal

both_ways : {A N M : Type 0} {P Q : A → Type 0} → (N → M) → ((a : A) → P a → Q a) → (r : Option A) → MatchOption r N P → MatchOption r M Q
both_ways none some None h = none h
both_ways none some (Some a) h = some a h

pub returns : goal.returns
returns c =
    let bytes = c.args.bytes.now in
    let text = c.in_ok-between_braces.field-0.now in
    let is = c.in_ok-between_braces.ensures in
    both_ways (λ none h. let r = referred bytes text is h in none r.0 (record { written = r.2; named = r.1 })) (λ path i. refers bytes text path is i.named i.written) c.new.result c.new.ensures
