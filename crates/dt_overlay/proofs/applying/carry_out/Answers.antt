use Rattle.std.proofs.Common.{refl}
use Rattle.std.proofs.lemmas.Result.{err_from_is_err_and}
use Rattle.dt_overlay.proofs.CarriedOut.{numbered_for}
use Rattle.dt_overlay.proofs.Told.{site_told, landing_told, landing_left}
use Rattle.dt_overlay_base.proofs.Results.{if_err}
use Rattle.dt_overlay_base.specs.Targets.{HasNoRoom}
use Rattle.dt_trees.specs.Placed.{reading_of}
use Rattle.dt_overlay.proofs.applying.carry_out.Goals as goal

pub find_sites-requires-clause-read : goal.find_sites-requires-clause-read
find_sites-requires-clause-read g c = (reading_of (g.V.TreeView.tree c.args.object.now.tree.now), c.in_ok-read.ensures.read)

pub returns-in_err-find_sites-clause-refused : goal.returns-in_err-find_sites-clause-refused
returns-in_err-find_sites-clause-refused g c =
    let object = reading_of (g.V.TreeView.tree c.args.object.now.tree.now) in
    let read = c.in_ok-read.ensures.read in
    let e = err_from_is_err_and c.from_residual-in_err-find_sites.result c.from_residual-in_err-find_sites.ensures.1 in
    rw (e.1, e.2)
    (site_told (HasNoRoom g.T.Target.reading g.T.Target.has_room g.T.Target.follows c.args.target.now) g.V.TreeView.tree (g.T.Target.reading c.args.target.now) object c.read.new.object read c.in_err-find_sites.field-0.0 (c.in_err-find_sites.ensures.refused object read))

pub land-requires : goal.land-requires
land-requires g c =
    let object = reading_of (g.V.TreeView.tree c.args.object.now.tree.now) in
    let read = c.in_ok-read.ensures.read in
    let sited = c.number_all.ensures.numbered (g.T.Target.reading c.args.target.now) object read (c.in_ok-find_sites.ensures.found object read) in
    record { numbered = (object, numbered_for g.V.TreeView.tree (g.T.Target.reading c.args.target.now) object c.read.new.object c.number_all.new.object c.renumber.new.object c.number_all.new.landing.sites.items read sited (c.renumber.ensures.renumbered _ sited.seen refl)) }

pub returns-clause-applied : goal.returns-clause-applied
returns-clause-applied g c =
    let base = g.T.Target.reading c.args.target.now in
    let object = reading_of (g.V.TreeView.tree c.args.object.now.tree.now) in
    let read = c.in_ok-read.ensures.read in
    let sited = c.number_all.ensures.numbered (g.T.Target.reading c.args.target.now) object read (c.in_ok-find_sites.ensures.found object read) in
    c.land.ensures.applied object (numbered_for g.V.TreeView.tree base object c.read.new.object c.number_all.new.object c.renumber.new.object c.number_all.new.landing.sites.items read sited (c.renumber.ensures.renumbered _ sited.seen refl))

pub returns-clause-refused : goal.returns-clause-refused
returns-clause-refused g c =
    let base = g.T.Target.reading c.args.target.now in
    let object = reading_of (g.V.TreeView.tree c.args.object.now.tree.now) in
    let read = c.in_ok-read.ensures.read in
    let sited = c.number_all.ensures.numbered (g.T.Target.reading c.args.target.now) object read (c.in_ok-find_sites.ensures.found object read) in
    if_err c.land.result (landing_told (HasNoRoom g.T.Target.reading g.T.Target.has_room g.T.Target.follows c.args.target.now) base object)
    (c.land.ensures.refused object (numbered_for g.V.TreeView.tree base object c.read.new.object c.number_all.new.object c.renumber.new.object c.number_all.new.landing.sites.items read sited (c.renumber.ensures.renumbered _ sited.seen refl)))

pub returns-clause-left : goal.returns-clause-left
returns-clause-left g c =
    let base = g.T.Target.reading c.args.target.now in
    let object = reading_of (g.V.TreeView.tree c.args.object.now.tree.now) in
    let read = c.in_ok-read.ensures.read in
    let sited = c.number_all.ensures.numbered (g.T.Target.reading c.args.target.now) object read (c.in_ok-find_sites.ensures.found object read) in
    if_err c.land.result (landing_left (HasNoRoom g.T.Target.reading g.T.Target.has_room g.T.Target.follows c.args.target.now) base object (g.T.Target.reading c.land.new.target))
    (c.land.ensures.refused object (numbered_for g.V.TreeView.tree base object c.read.new.object c.number_all.new.object c.renumber.new.object c.number_all.new.landing.sites.items read sited (c.renumber.ensures.renumbered _ sited.seen refl)))
