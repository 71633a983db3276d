use Rattle.std.proofs.Common.{◌≡◌, ◌∙◌, ℕ, Option, Some, None, refl, sym, ap}
use Rattle.std.specs.Option.{option_or}
use Rattle.std.proofs.lemmas.Option.{MatchOption-at_some, MatchOption-at_none}
use Rattle.dt_model.specs.Path.{Path}
use Rattle.dt_model.specs.Tree.{Reading, nodes_of}
use Rattle.dt_model.specs.Valid.{IsValid}
use Rattle.dt_model.specs.Applied.{node_numbered}
use Rattle.dt_model.proofs.Finding.{node_of_number, number_of_node}
use Rattle.dt_overlay_model.specs.Walk.{place_given}
use Rattle.dt_overlay_laws.specs.Objects.{HasNumber}
use Rattle.dt_overlay_landing.proofs.sites.numbered.Goals as goal

none_of_base : (base : Reading) (n : ℕ) → IsValid base → ((p : Path) → HasNumber base p n → ⊥) → node_numbered (nodes_of base) n ≡ None
none_of_base base n valid none = step (node_numbered (nodes_of base) n) refl
  where
    step : (o : Option Path) → node_numbered (nodes_of base) n ≡ o → o ≡ None
    step None e = refl
    step (Some p) e = absurd (none p (number_of_node base p n valid e))

pub returns-in-Some-clause-value : goal.returns-in-Some-clause-value
returns-in-Some-clause-value g c given landed known =
    let base : Reading = g.T.Target.reading c.args.target.now in
    let n = c.args.number in
    let has = MatchOption-at_some ((p : Path) → HasNumber base p n → ⊥) (λ p. HasNumber base p n) c.in-Some.path c.in-Some.is c.in_ok-path.ensures.found in
    ap (λ (o : Option Path). option_or o (place_given given n)) (sym (node_of_number base c.in-Some.path n c.validity.ensures.valid has))

pub returns-in_ok-path-in-Some-place-clause-value : goal.returns-in_ok-path-in-Some-place-clause-value
returns-in_ok-path-in-Some-place-clause-value g c given landed known =
    let base : Reading = g.T.Target.reading c.args.target.now in
    let n = c.args.number in
    let none : (p : Path) → HasNumber base p n → ⊥ = MatchOption-at_none ((p : Path) → HasNumber base p n → ⊥) (λ p. HasNumber base p n) c.in_default.is c.in_ok-path.ensures.found in
    ap (λ (q : Path). Some q) c.in_ok-path-in-Some-place.ensures ∙ c.in-Some-place.ensures ∙ known.paths n
    ∙ ap (λ (o : Option Path). option_or o (place_given given n)) (sym (none_of_base base n c.validity.ensures.valid none))

pub returns-in-None-clause-value : goal.returns-in-None-clause-value
returns-in-None-clause-value g c given landed known =
    let base : Reading = g.T.Target.reading c.args.target.now in
    let n = c.args.number in
    let none : (p : Path) → HasNumber base p n → ⊥ = MatchOption-at_none ((p : Path) → HasNumber base p n → ⊥) (λ p. HasNumber base p n) c.in_default.is c.in_ok-path.ensures.found in
    c.in-None.ensures ∙ known.paths n ∙ ap (λ (o : Option Path). option_or o (place_given given n)) (sym (none_of_base base n c.validity.ensures.valid none))
