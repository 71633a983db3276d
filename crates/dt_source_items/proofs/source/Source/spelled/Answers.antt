use Rattle.dt_source_items.proofs.source.Source.spelled.Goals as goal

pub returns-clause-spelled : goal.returns-clause-spelled
returns-clause-spelled c = (c.self.invariant.0, rw (← c.self.view_is) c.self.invariant.2)

pub returns-clause-places : goal.returns-clause-places
returns-clause-places c = rw (← c.self.view_is) (c.source_has_places.ensures c.self.invariant.0 _ c.self.invariant.1 c.self.invariant.2)

pub returns-clause-nested : goal.returns-clause-nested
returns-clause-nested c = rw (← c.self.view_is) (c.source_is_nested.ensures.nested c.self.invariant.0 _ c.self.invariant.2)

pub returns-clause-reservations : goal.returns-clause-reservations
returns-clause-reservations c = rw (← c.self.view_is) (c.source_is_nested.ensures.reservations c.self.invariant.0 _ c.self.invariant.2)

pub returns-clause-some : goal.returns-clause-some
returns-clause-some c = rw (← c.self.view_is) (c.source_is_nested.ensures.some c.self.invariant.0 _ c.self.invariant.2)
