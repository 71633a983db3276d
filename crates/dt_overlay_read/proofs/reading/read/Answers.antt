use Rattle.std.proofs.Common.{List, [], subst}
use Rattle.std.proofs.lemmas.Result.{err_from_is_err_and}
use Rattle.dt_model.specs.Object.{fragment_names}
use Rattle.dt_overlay_read.proofs.ReadObjects.{read_for}
use Rattle.dt_overlay_read.proofs.Told.{all_held, label_told, local_told, symbol_told}
use Rattle.dt_overlay_base.proofs.Results.{on_ok, if_err}
use Rattle.dt_overlay_object.specs.Plans.{ListsFixups, ListsLocalFixups, ListsSymbols}
use Rattle.dt_overlay_object.specs.declared.kept.Symbol.{Symbol}
use Rattle.dt_overlay_object.specs.declared.kept.Write.{Write}
use Rattle.dt_overlay_base.specs.Targets.{HasNoRoom}
use Rattle.dt_trees.specs.Placed.{reading_of}
use Rattle.dt_overlay_read.proofs.reading.read.Goals as goal

pub returns-in_err-list_fixups-clause-refused : goal.returns-in_err-list_fixups-clause-refused
returns-in_err-list_fixups-clause-refused g c =
    let t = g.V.TreeView.tree c.args.object.now.tree.now in
    let e = err_from_is_err_and c.from_residual-in_err-list_fixups.result c.from_residual-in_err-list_fixups.ensures.1 in
    rw (e.1, e.2)
    (label_told (HasNoRoom g.T.Target.reading g.T.Target.has_room g.T.Target.follows c.args.target.now) (g.T.Target.reading c.args.target.now) (reading_of t) c.in_err-list_fixups.field-0.0
    (all_held t c.list_fragments.new.out.items (fragment_names (reading_of t).children) c.in_ok-list_fragments.ensures.listed) c.in_err-list_fixups.ensures.refused)

pub returns-in_err-list_local_fixups-clause-refused : goal.returns-in_err-list_local_fixups-clause-refused
returns-in_err-list_local_fixups-clause-refused g c =
    let e = err_from_is_err_and c.from_residual-in_err-list_local_fixups.result c.from_residual-in_err-list_local_fixups.ensures.1 in
    let t = g.V.TreeView.tree c.args.object.now.tree.now in
    rw (e.1, e.2)
    (local_told (HasNoRoom g.T.Target.reading g.T.Target.has_room g.T.Target.follows c.args.target.now) (g.T.Target.reading c.args.target.now) (reading_of t) c.in_err-list_local_fixups.field-0.0
    (all_held t c.list_fragments.new.out.items (fragment_names (reading_of t).children) c.in_ok-list_fragments.ensures.listed) c.in_ok-list_fixups.ensures.listed.well
    c.in_err-list_local_fixups.ensures.refused)

pub returns-clause-read : goal.returns-clause-read
returns-clause-read g c =
    let t = g.V.TreeView.tree c.args.object.now.tree.now in
    let base = g.T.Target.reading c.args.target.now in
    let locals = subst (λ (xs : List Write). ListsLocalFixups t [] xs c.list_local_fixups.new.out.items) c.requires.unread.own_writes (c.in_ok-list_local_fixups.ensures.listed [] c.in_ok-bring_all.ensures.brought) in
    let labels = subst (λ (xs : List Write). ListsFixups base t xs c.list_fixups.new.out.items) c.requires.unread.label_writes c.in_ok-list_fixups.ensures.listed in
    on_ok c.list_symbols.result
    (λ listed. read_for g.V.TreeView.tree base _ c.validity.ensures.valid c.validity.ensures.within c.in_ok-list_fragments.ensures.listed labels c.in_ok-bring_all.ensures.brought locals
    (subst (λ (xs : List Symbol). ListsSymbols t xs c.list_symbols.new.out.items) c.requires.unread.symbols listed))
    c.list_symbols.ensures.listed

pub returns-clause-refused : goal.returns-clause-refused
returns-clause-refused g c =
    let t = g.V.TreeView.tree c.args.object.now.tree.now in
    let base = g.T.Target.reading c.args.target.now in
    let locals = c.in_ok-list_local_fixups.ensures.listed [] c.in_ok-bring_all.ensures.brought in
    if_err c.list_symbols.result
    (λ fault why. symbol_told (HasNoRoom g.T.Target.reading g.T.Target.has_room g.T.Target.follows c.args.target.now) base (reading_of t) fault
    (all_held t c.list_fragments.new.out.items (fragment_names (reading_of t).children) c.in_ok-list_fragments.ensures.listed) c.in_ok-list_fixups.ensures.listed.well locals.well why)
    c.list_symbols.ensures.refused
