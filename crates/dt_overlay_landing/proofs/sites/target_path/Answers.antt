use Rattle.std.proofs.Common.{◌≡◌, ◌∙◌, ◌∷◌, [], ℕ, List, Option, Some, None, codes, sym, ap, subst}
use Rattle.std.specs.Option.{option_or}
use Rattle.std.specs.Prelude.{option_and_then, if◌then◌else◌, nat_le}
use Rattle.std.specs.List.{list_any}
use Rattle.std.proofs.lemmas.Result.{IfOk-weaker}
use Rattle.dt_model.specs.Format.{word_at}
use Rattle.dt_model.specs.Names.{Name}
use Rattle.dt_model.specs.Object.{local_cells}
use Rattle.dt_model.specs.Path.{Path}
use Rattle.dt_model.specs.Tree.{Reading, nodes_of, value_in}
use Rattle.dt_model.specs.Applied.{node_named, landed_named, number_at}
use Rattle.dt_overlay_model.specs.Walk.{target_of, named_node, target_label, is_target}
use Rattle.dt_overlay_laws.specs.Landings.{target_in}
use Rattle.dt_overlay_laws.specs.Objects.{HoldsNumber}
use Rattle.dt_overlay_landing.specs.Marks.{IsMark}
use Rattle.dt_overlay_base.specs.NodeNumbers.{at_node}
use Rattle.dt_overlay_object.specs.Plans.{IsTargetOf}
use Rattle.dt_overlay_object.specs.declared.kept.ObjectTarget.TheVariants.{Path as TargetPath}
use Rattle.dt_overlay_landing.proofs.SitesTurns.{turn_landings}
use Rattle.dt_trees.specs.Placed.{path_at, reading_of}
use Rattle.dt_trees.proofs.NodePlaces.{path_is}
use Rattle.dt_overlay_landing.proofs.sites.target_path.Goals as goal

-- the number that a `target` of four bytes holds
number_held : (object : Reading) (f : Name) (p : Path) (is : HoldsNumber object f) → value_in object p (codes "target") ≡ Some is.0
    → option_and_then (λ (value : List ℕ). word_at value 0) (value_in object p (codes "target")) ≡ Some (number_at is.0 0)
number_held object f p is there = ap (option_and_then (λ (value : List ℕ). word_at value 0)) there ∙ ap (λ (n : ℕ). if nat_le 4 n then Some (number_at is.0 0) else None) is.2

pub returns-in-Path-clause-value : goal.returns-in-Path-clause-value
returns-in-Path-clause-value g c turn t =
    let base : Reading = g.T.Target.reading c.args.target.now in
    let o = g.V.TreeView.tree c.args.object.now.tree.now in
    let f = t.name in
    let fixups = turn.fixups in
    let w = turn.walked in
    let is : IsTargetOf (reading_of o) f (TargetPath c.in-Path.value) = subst (IsTargetOf (reading_of o) f) c.in-Path.is t.fragment.target in
    let landings = turn_landings base o c.args.object.now.brought c.validity.ensures.valid c.args.marks.now.entries c.args.landing.now turn t.turn in
    let value = c.in-Path.value.now in
    let target : target_in base (reading_of o) fixups w f ≡ option_or (node_named (nodes_of base) value) (landed_named (nodes_of (reading_of o)) w.sites value) =
    ap (target_of base (reading_of o) fixups w f) is.0
    ∙ ap (λ (v : Option (List ℕ)). option_and_then (λ text. option_or (node_named (nodes_of base) text) (landed_named (nodes_of (reading_of o)) w.sites text)) v) is.1 in
    IfOk-weaker c.named.result (λ (found : Option Path). found ≡ option_or (node_named (nodes_of base) value) (landed_named (nodes_of (reading_of o)) w.sites value))
    (λ (found : Option Path). found ≡ target_in base (reading_of o) fixups w f) (λ found e. e ∙ sym target)
    (c.named.ensures.value (reading_of o) w.sites w.given c.validity.ensures.valid t.turn.known landings)

pub returns-in-Some-clause-value : goal.returns-in-Some-clause-value
returns-in-Some-clause-value g c turn t =
    let base : Reading = g.T.Target.reading c.args.target.now in
    let o = g.V.TreeView.tree c.args.object.now.tree.now in
    let f = t.name in
    let fixups = turn.fixups in
    let w = turn.walked in
    let k = c.args.fragment.now.node in
    let is : HoldsNumber (reading_of o) f = subst (IsTargetOf (reading_of o) f) c.in-Number.is t.fragment.target in
    let there : value_in (reading_of o) (path_at o k) (codes "target") ≡ Some is.0 =
    ap (λ (p : Path). value_in (reading_of o) p (codes "target")) (path_is o c.validity.ensures.places (f ∷ []) k t.fragment.node) ∙ is.1 in
    let read : Some c.in-Some.number ≡ Some (number_at is.0 0) = c.in-Some.ensures ∙ number_held (reading_of o) f (path_at o k) is there in
    let number : c.in-Some.number ≡ number_at is.0 0 = cc in
    let own = list_any (is_target f) (local_cells (reading_of o)) in
    let got : at_node c.args.marks.now.entries k ≡ c.copied.result = sym (c.copied.ensures ∙ c.get.ensures.value) in
    let mark : IsMark base (reading_of o) fixups f c.copied.result = subst (IsMark base (reading_of o) fixups f) got (t.turn.marked f k t.fragment.node) in
    IfOk-weaker c.marked.result (λ (found : Option Path). found ≡ named_node base (reading_of o) w (target_label f fixups) own c.in-Some.number)
    (λ (found : Option Path). found ≡ target_in base (reading_of o) fixups w f)
    (λ found e. e ∙ ap (named_node base (reading_of o) w (target_label f fixups) own) number ∙ sym (ap (target_of base (reading_of o) fixups w f) is.1))
    (c.marked.ensures.value c.args.marks.now.entries turn t.turn f mark)

pub returns-in-Some-clause-refused : goal.returns-in-Some-clause-refused
returns-in-Some-clause-refused g c turn t = c.marked.ensures.refused c.args.marks.now.entries turn t.turn

pub returns-in-None-clause-value : goal.returns-in-None-clause-value
returns-in-None-clause-value g c turn t =
    let o = g.V.TreeView.tree c.args.object.now.tree.now in
    let f = t.name in
    let k = c.args.fragment.now.node in
    let is : HoldsNumber (reading_of o) f = subst (IsTargetOf (reading_of o) f) c.in-Number.is t.fragment.target in
    let there : value_in (reading_of o) (path_at o k) (codes "target") ≡ Some is.0 =
    ap (λ (p : Path). value_in (reading_of o) p (codes "target")) (path_is o c.validity.ensures.places (f ∷ []) k t.fragment.node) ∙ is.1 in
    let read : None ≡ Some (number_at is.0 0) = c.in-None.ensures ∙ number_held (reading_of o) f (path_at o k) is there in
    absurd cc
