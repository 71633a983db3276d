use Rattle.std.proofs.Common.{◌≡◌, List, [], ◌∷◌, ◌++◌, ◌∙◌, Some, inl, inr, sym, ap, subst}
use Rattle.std.proofs.lemmas.Result.{err_from_is_err_and}
use Rattle.dt_model.specs.Names.{Name}
use Rattle.dt_model.specs.Overlay.{content}
use Rattle.dt_model.specs.Tree.{Placed}
use Rattle.dt_names.specs.declared.fault.FaultKind.{FaultKind}
use Rattle.dt_names.specs.declared.fault.FaultKind.TheVariants.{ReservedPlace}
use Rattle.dt_overlay_model.specs.Walk.{site, landings, with_places}
use Rattle.dt_overlay_laws.specs.Landings.{target_in, MayAllLand, IsStuck}
use Rattle.dt_overlay_base.specs.Known.{IsKnown, HasRoom, landed_paths, paths_of}
use Rattle.dt_overlay_landing.proofs.NumbersLanded.{fit_content}
use Rattle.dt_overlay_landing.proofs.SitesTurns.{turn_walked, content_is, room_for, sites_apart, known_behind}
use Rattle.dt_trees.specs.Placed.{reading_of}
use Rattle.dt_trees.proofs.NodePlaces.{at_node}
use Rattle.dt_overlay_landing.proofs.sites.find_site.Goals as goal

pub target_path-requires : goal.target_path-requires
target_path-requires g c =
    let t = c.requires.1 in
    at_node (g.V.TreeView.tree c.args.object.now.tree.now) c.validity-2.ensures.places (t.name ∷ []) c.args.fragment.now.node t.fragment.node

pub returns-in_err-path-clause-refused : goal.returns-in_err-path-clause-refused
returns-in_err-path-clause-refused g c turn t =
    let e = err_from_is_err_and c.from_residual.result c.from_residual.ensures.1 in
    let why = c.in_err-path.ensures.refused turn t in
    rw (e.1, e.2) (why.1, inl why.0)

pub returns-then-is_bookkeeping-clause-refused : goal.returns-then-is_bookkeeping-clause-refused
returns-then-is_bookkeeping-clause-refused g c turn t =
    let base = g.T.Target.reading c.args.target.now in
    let a = g.V.TreeView.tree c.args.object.now.tree.now in
    let q = c.in-Some.path in
    let named : target_in base (reading_of a) turn.fixups turn.walked t.name ≡ Some q = sym (c.in_ok-path.ensures.value turn t) ∙ c.in-Some.is in
    let stuck : IsStuck ReservedPlace (landings (reading_of a) (site t.name q)) =
    subst (IsStuck ReservedPlace) (sym (content_is a t.name q c.args.fragment.now.content c.validity-2.ensures.places t.fragment.content)) (inl (sym c.is_bookkeeping.ensures ∙ c.if-is_bookkeeping.true)) in
    (c.of-then-is_bookkeeping.ensures.at, inr (inr (q, named, subst (λ (k : FaultKind). IsStuck k (landings (reading_of a) (site t.name q))) (sym c.of-then-is_bookkeeping.ensures.kind) stuck)))

pub note_content-requires-clause-content : goal.note_content-requires-clause-content
note_content-requires-clause-content g c =
    let t = c.requires.1 in
    at_node (g.V.TreeView.tree c.args.object.now.tree.now) c.validity-2.ensures.places (content t.name) c.args.fragment.now.content t.fragment.content

pub note_content-requires-clause-room : goal.note_content-requires-clause-room
note_content-requires-clause-room g c =
    let base = g.T.Target.reading c.args.target.now in
    let a = g.V.TreeView.tree c.args.object.now.tree.now in
    let q = c.in-Some.path in
    let turn = c.requires.0 in
    let t = c.requires.1 in
    let walked = turn_walked base a c.args.object.now.brought c.validity-2.ensures.valid c.args.marks.now.entries c.args.landing.now turn t.turn in
    subst (λ (ns : List Placed). HasRoom base ns c.args.landing.now.places) (content_is a t.name q c.args.fragment.now.content c.validity-2.ensures.places t.fragment.content)
    (room_for base turn.fixups (reading_of a) c.validity-2.ensures.valid c.validity-2.ensures.within c.args.landing.now.places turn.walked turn.done t.behind t.name q walked
    (ap (λ (fs : List Name). turn.done ++ fs) (sym t.next) ∙ sym t.turn.names) (sym c.is_bookkeeping.ensures ∙ c.if-is_bookkeeping.false) t.turn.known)

pub returns-in_err-note_content-clause-refused : goal.returns-in_err-note_content-clause-refused
returns-in_err-note_content-clause-refused g c turn t =
    let base = g.T.Target.reading c.args.target.now in
    let a = g.V.TreeView.tree c.args.object.now.tree.now in
    let q = c.in-Some.path in
    let e = err_from_is_err_and c.from_residual-in_err-note_content.result c.from_residual-in_err-note_content.ensures.1 in
    let why = c.in_err-note_content.ensures.refused in
    let named : target_in base (reading_of a) turn.fixups turn.walked t.name ≡ Some q = sym (c.in_ok-path.ensures.value turn t) ∙ c.in-Some.is in
    rw (e.1, e.2) (
      why.0,
      elim why.1 [
        | inl memory ↦ inl memory
        | inr stuck ↦ inr (inr (q, named, subst (IsStuck c.in_err-note_content.field-0.0.kind) (sym (content_is a t.name q c.args.fragment.now.content c.validity-2.ensures.places t.fragment.content)) stuck))
      ],
    )

pub returns-clause-found : goal.returns-clause-found
returns-clause-found g c turn t =
    let base = g.T.Target.reading c.args.target.now in
    let a = g.V.TreeView.tree c.args.object.now.tree.now in
    let q = c.in-Some.path in
    let same = content_is a t.name q c.args.fragment.now.content c.validity-2.ensures.places t.fragment.content in
    record {
      named = sym (c.in_ok-path.ensures.value turn t) ∙ c.in-Some.is;
      may = subst MayAllLand (sym same) c.in_ok-note_content.ensures.may;
      known = known_behind base (reading_of a) turn.walked t.name q c.note_content.new.places
          (subst (λ (ns : List Placed). IsKnown base (with_places base ns turn.walked.given) (landed_paths (reading_of a) turn.walked.sites ++ paths_of ns) c.note_content.new.places) (sym same)
          (c.in_ok-note_content.ensures.known turn.walked.given (landed_paths (reading_of a) turn.walked.sites) t.turn.known));
    }

pub returns-clause-numbered : goal.returns-clause-numbered
returns-clause-numbered g c turn t numbers fit sound =
    let base = g.T.Target.reading c.args.target.now in
    let a = g.V.TreeView.tree c.args.object.now.tree.now in
    let q = c.in-Some.path in
    let k = c.args.fragment.now.content in
    let w = turn.walked in
    let walked = turn_walked base a c.args.object.now.brought c.validity-2.ensures.valid c.args.marks.now.entries c.args.landing.now turn t.turn in
    let distinct = sites_apart base turn.fixups (reading_of a) c.validity-2.ensures.valid w turn.done t.behind t.name q walked
    (ap (λ (fs : List Name). turn.done ++ fs) (sym t.next) ∙ sym t.turn.names) (sym c.is_bookkeeping.ensures ∙ c.if-is_bookkeeping.false) in
    c.in_ok-note_content.ensures.numbered w.given (landed_paths (reading_of a) w.sites) t.turn.known numbers
    (fit_content base a w t.name q numbers fit k c.validity-2.ensures.places t.fragment.content distinct) sound
