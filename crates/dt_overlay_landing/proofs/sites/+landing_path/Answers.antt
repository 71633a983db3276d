use Rattle.std.proofs.Common.{◌≡◌, ◌∙◌, ◌∷◌, ◌++◌, ◌<◌, ◌≤◌, get_or, [], ℕ, List, Option, Some, None, length, sym, ap, subst, arith}
use Rattle.std.specs.Prelude.{is_some, slice_get, option_map}
use Rattle.std.proofs.lemmas.List.{length-append}
use Rattle.std.proofs.lemmas.Option.{slice_get_past}
use Rattle.std.proofs.lemmas.Result.{err_from_is_err_and}
use Rattle.dt_model.specs.Merged.{landing as landing_by}
use Rattle.dt_model.specs.Names.{Name, IsNodeName}
use Rattle.dt_model.specs.Object.{fragment_names}
use Rattle.dt_model.specs.Path.{Path}
use Rattle.dt_overlay_base.proofs.LooksNames.{node_named}
use Rattle.dt_overlay_model.proofs.Brought.{fragments_distinct}
use Rattle.dt_overlay_base.specs.NodeNumbers.{at_node}
use Rattle.dt_overlay_object.proofs.Contents.{path_above}
use Rattle.dt_overlay_object.proofs.Elements.{at_index}
use Rattle.dt_overlay_landing.proofs.SitesLanding.{landing_here, landing_later, landing_above, pushed_deep, root_nowhere, too_deep}
use Rattle.dt_trees.specs.Placed.{path_at, last_name, reading_of}
use Rattle.dt_trees.specs.Views.{IsAbove}
use Rattle.dt_overlay_landing.proofs.sites.+landing_path.Goals as goal

pub returns-in_ok-site-in-Some-get-clause-value : goal.returns-in_ok-site-in-Some-get-clause-value
returns-in_ok-site-in-Some-get-clause-value g t c found contents front same =
    let o = g.V.TreeView.tree c.args.object.now in
    let names = fragment_names (reading_of o).children in
    let distinct = fragments_distinct (reading_of o).children c.validity.ensures.valid.siblings in
    let entries = c.args.brought.now.contents.entries in
    let paths = c.args.landing.now.sites.items in
    let e : at_node entries c.args.node ≡ Some c.in-Some.fragment = sym c.content.ensures ∙ c.in-Some.is in
    let at : slice_get paths c.in-Some.fragment ≡ Some c.in_ok-site-in-Some-get.site =
    at_index paths c.in-Some.fragment c.in_ok-site-in-Some-get.site (subst (λ (xs : List Path). c.in-Some.fragment < length xs) c.deref.ensures.value c.in-Some-get.ensures.lookup.3.0)
    (c.in_ok-site-in-Some-get.ensures ∙ c.in-Some-get.ensures.lookup.3.1 c.in_ok-site-in-Some-get.site ∙ ap (λ (xs : List Path). get_or xs c.in-Some.fragment c.in_ok-site-in-Some-get.site) c.deref.ensures.value) in
    sym (landing_here o c.validity.ensures.places names distinct entries contents found front paths same c.args.node c.requires c.in-Some.fragment c.in_ok-site-in-Some-get.site e at)

pub returns-in-None-clause-value : goal.returns-in-None-clause-value
returns-in-None-clause-value g t c found contents front same =
    let o = g.V.TreeView.tree c.args.object.now in
    let names = fragment_names (reading_of o).children in
    let distinct = fragments_distinct (reading_of o).children c.validity.ensures.valid.siblings in
    let entries = c.args.brought.now.contents.entries in
    let paths = c.args.landing.now.sites.items in
    let e : at_node entries c.args.node ≡ Some c.in-Some.fragment = sym c.content.ensures ∙ c.in-Some.is in
    let past : slice_get paths c.in-Some.fragment ≡ None = slice_get_past paths c.in-Some.fragment (subst (λ (xs : List Path). length xs ≤ c.in-Some.fragment) c.deref.ensures.value c.in-None.ensures.lookup.3) in
    sym (landing_later o c.validity.ensures.places names distinct entries contents found front paths same c.args.node c.requires c.in-Some.fragment e past)

pub returns-in_default-parent-clause-value : goal.returns-in_default-parent-clause-value
returns-in_default-parent-clause-value g t c found contents front same = sym (ap (landing_by found) c.in_default-parent.ensures ∙ root_nowhere found)

pub known-requires : goal.known-requires
known-requires g t c =
    let o = g.V.TreeView.tree c.args.object.now in
    let up = subst (λ (r : Option ℕ). IsAbove o c.args.node r) c.in-Some-parent.is c.parent.ensures in
    subst IsNodeName (sym c.name.ensures) (node_named o c.args.node c.validity.ensures.valid c.requires up.2)

pub landing_path-requires : goal.landing_path-requires
landing_path-requires g t c κs within =
    let o = g.V.TreeView.tree c.args.object.now in
    let up = subst (λ (r : Option ℕ). IsAbove o c.args.node r) c.in-Some-parent.is c.parent.ensures in
    let longer = ap length (path_above o c.args.node c.in-Some-parent.above up) ∙ length-append (path_at o c.in-Some-parent.above) (last_name (path_at o c.args.node) ∷ []) in
    (omega (arith, c.decreases, longer), (within, up.0))

pub returns-in_default-2-clause-value : goal.returns-in_default-2-clause-value
returns-in_default-2-clause-value g t c found contents front same =
    let o = g.V.TreeView.tree c.args.object.now in
    let names = fragment_names (reading_of o).children in
    let distinct = fragments_distinct (reading_of o).children c.validity.ensures.valid.siblings in
    let entries = c.args.brought.now.contents.entries in
    let paths = c.args.landing.now.sites.items in
    let none = ap is_some (sym c.content.ensures ∙ c.in_default.is) in
    let up = subst (λ (r : Option ℕ). IsAbove o c.args.node r) c.in-Some-parent.is c.parent.ensures in
    let above : None ≡ landing_by found (path_at o c.in-Some-parent.above) = sym c.in_default-2.is ∙ c.in_ok-path.ensures.value found contents front same in
    sym (landing_above o c.validity.ensures.places names distinct entries contents found front paths same c.args.node c.requires c.in-Some-parent.above none up
    ∙ ap (option_map (λ (q : Path). q ++ last_name (path_at o c.args.node) ∷ [])) (sym above))

pub returns-in_err-push-clause-refused : goal.returns-in_err-push-clause-refused
returns-in_err-push-clause-refused g t c found contents front same =
    let o = g.V.TreeView.tree c.args.object.now in
    let names = fragment_names (reading_of o).children in
    let distinct = fragments_distinct (reading_of o).children c.validity.ensures.valid.siblings in
    let entries = c.args.brought.now.contents.entries in
    let paths = c.args.landing.now.sites.items in
    let none = ap is_some (sym c.content.ensures ∙ c.in_default.is) in
    let up = subst (λ (r : Option ℕ). IsAbove o c.args.node r) c.in-Some-parent.is c.parent.ensures in
    let e = err_from_is_err_and c.from_residual-in_err-push.result c.from_residual-in_err-push.ensures.1 in
    let why = c.in_err-push.ensures.refused in
    let path = c.in-Some-2.path in
    let above : landing_by found (path_at o c.in-Some-parent.above) ≡ Some path = sym (c.in_ok-path.ensures.value found contents front same) ∙ c.in-Some-2.is in
    rw (e.1, e.2) (
      why.1,
      pushed_deep c.in_err-push.field-0.0.kind path why.0
          (too_deep o c.validity.ensures.places names distinct entries contents found front paths same c.args.node c.requires c.in-Some-parent.above path none up above),
    )

pub returns-clause-value : goal.returns-clause-value
returns-clause-value g t c found contents front same =
    let o = g.V.TreeView.tree c.args.object.now in
    let names = fragment_names (reading_of o).children in
    let distinct = fragments_distinct (reading_of o).children c.validity.ensures.valid.siblings in
    let entries = c.args.brought.now.contents.entries in
    let paths = c.args.landing.now.sites.items in
    let none = ap is_some (sym c.content.ensures ∙ c.in_default.is) in
    let up = subst (λ (r : Option ℕ). IsAbove o c.args.node r) c.in-Some-parent.is c.parent.ensures in
    let path = c.in-Some-2.path in
    let above : landing_by found (path_at o c.in-Some-parent.above) ≡ Some path = sym (c.in_ok-path.ensures.value found contents front same) ∙ c.in-Some-2.is in
    let named : c.known.result ≡ last_name (path_at o c.args.node) = c.known.ensures ∙ c.name.ensures in
    ap (λ (q : Path). Some q) (c.in_ok-push.ensures.ok ∙ ap (λ (x : Name). path ++ x ∷ []) named)
    ∙ sym (landing_above o c.validity.ensures.places names distinct entries contents found front paths same c.args.node c.requires c.in-Some-parent.above none up
    ∙ ap (option_map (λ (q : Path). q ++ last_name (path_at o c.args.node) ∷ [])) above)
