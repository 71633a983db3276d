use Rattle.std.proofs.Common.{◌≡◌, ◌+◌, ◌++◌, ◌∷◌, [], Ok, vec_len, drop, sym, ◌∙◌}
use Rattle.dt_model.specs.Source.{read, close, misplaced}
use Rattle.dt_source_growing.specs.Growing.{shape}
use Rattle.dt_source_bodies.specs.declared.reading.OpenBody.{OpenBody}
use Rattle.dt_source_bodies.specs.declared.reading.Reading.{Reading}
use Rattle.dt_source_bodies.proofs.Bodies.{snoc_is, last_there, none_open, inside-refused}
use Rattle.dt_source_bodies.proofs.Items.{inner_of, close-goes}
use Rattle.dt_source_bodies.proofs.Wholes.{goes_on_more, tells}
use Rattle.dt_source_bodies.proofs.reading.Reading.close.Goals as goal

pub returns-in-Some-clause-meaning : goal.returns-in-Some-clause-meaning
returns-in-Some-clause-meaning c = λ m n u h.
    let old : Reading = c.args.self.now in
    let new : Reading = record { growing = old.growing; bodies = c.pop.new.self } in
    let e : OpenBody = c.in-Some.field-0 in
    let items : old.bodies.items ≡ new.bodies.items ++ e ∷ [] = c.in-Some.ensures.items in
    let i = inner_of (shape old.growing) old.bodies.items n u e h (last_there old.bodies.items new.bodies.items e items) in
    goes_on_more (read m u close) new (n + 1) i.outer (snoc_is new.bodies.items i.outer e e (sym items ∙ i.open_is)).0
    (close-goes m (shape old.growing) old.bodies.items n u e h i)

pub returns-in-None-clause-meaning : goal.returns-in-None-clause-meaning
returns-in-None-clause-meaning c = λ m n u h.
    let r : Reading = c.args.self.now in
    let none : vec_len r.bodies ≡ 0 = c.in-None.ensures.cases.0 in
    let empty = none_open (shape r.growing) (shape r.growing).size n u.node r.bodies.items u.bodies h.open_bodies (sym r.bodies.ok.0 ∙ none) in
    tells (read m u close) misplaced c.of.result (inside-refused u.bodies (λ b bs. Ok (record { events = u.events; node = drop 1 u.node; bodies = bs })) empty.0) c.of.ensures.kind c.of.ensures.at
