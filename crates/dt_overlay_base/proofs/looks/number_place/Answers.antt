use Rattle.std.proofs.Common.{◌≡◌, ◌∙◌, List, ℕ, false, sym, ap, subst}
use Rattle.std.specs.Prelude.{is_some}
use Rattle.dt_model.specs.Path.{Path}
use Rattle.dt_overlay_model.specs.Walk.{number_there}
use Rattle.dt_model.specs.Numbers.{numbers_of}
use Rattle.dt_overlay_base.specs.Known.{IsKnown, IsNext}
use Rattle.dt_overlay_model.proofs.Places.{none_there, given_there}
use Rattle.dt_overlay_base.proofs.LooksNumbers.{last_low, place_given_next, placed_there}
use Rattle.dt_overlay_base.proofs.looks.number_place.Goals as goal

pub free_above-number-requires : goal.free_above-number-requires
free_above-number-requires g c = rw (c.last.ensures) (last_low (g.T.Target.reading c.args.target.now) c.args.places.now c.validity.ensures.within c.requires.room)

pub returns-in-Some-clause-known : goal.returns-in-Some-clause-known
returns-in-Some-clause-known g c given landed known there got =
    let base = g.T.Target.reading c.args.target.now in
    let q = c.args.path.now in
    let own = sym (c.number_there.ensures given got) ∙ c.in-Some.is in
    subst (λ (more : List (Path × ℕ)). IsKnown base more landed c.args.places.now) (sym (placed_there base given q _ own)) known

pub returns-in-Some-clause-number : goal.returns-in-Some-clause-number
returns-in-Some-clause-number g c given landed known there got =
    let base = g.T.Target.reading c.args.target.now in
    let q = c.args.path.now in
    let own = sym (c.number_there.ensures given got) ∙ c.in-Some.is in
    ap (λ (more : List (Path × ℕ)). number_there base more q) (placed_there base given q _ own) ∙ own

pub returns-clause-known : goal.returns-clause-known
returns-clause-known g c given landed known there got =
    let base = g.T.Target.reading c.args.target.now in
    let q = c.args.path.now in
    let next : IsNext (numbers_of base) c.args.places.now.last c.free_above-number.result = subst (λ (n : ℕ). IsNext (numbers_of base) n c.free_above-number.result) c.last.ensures c.free_above-number.ensures in
    let none : is_some (number_there base given q) ≡ false = ap is_some (sym (c.number_there.ensures given got) ∙ c.in_default.is) in
    subst (λ (more : List (Path × ℕ)). IsKnown base more landed c.give.new.self)
    (sym (place_given_next base given landed c.args.places.now known q c.requires.named there c.free_above-number.result none next))
    (c.in_ok-give.ensures.known base given landed known there (none_there base given q none).1 next)

pub returns-clause-number : goal.returns-clause-number
returns-clause-number g c given landed known there got =
    let base = g.T.Target.reading c.args.target.now in
    let q = c.args.path.now in
    let next : IsNext (numbers_of base) c.args.places.now.last c.free_above-number.result = subst (λ (n : ℕ). IsNext (numbers_of base) n c.free_above-number.result) c.last.ensures c.free_above-number.ensures in
    let none : is_some (number_there base given q) ≡ false = ap is_some (sym (c.number_there.ensures given got) ∙ c.in_default.is) in
    ap (λ (more : List (Path × ℕ)). number_there base more q) (place_given_next base given landed c.args.places.now known q c.requires.named there c.free_above-number.result none next)
    ∙ given_there base given q c.free_above-number.result none
