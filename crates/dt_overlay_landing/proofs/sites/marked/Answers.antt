use Rattle.std.proofs.Common.{◌≡◌, ◌∙◌, ℕ, Option, Some, None, Bool, sym, ap, subst, inl, inr}
use Rattle.std.specs.Prelude.{MatchOption, option_and_then}
use Rattle.std.specs.List.{list_any}
use Rattle.std.proofs.lemmas.Result.{IfOk-weaker, IfErr-weaker}
use Rattle.dt_model.specs.Names.{Name}
use Rattle.dt_model.specs.Path.{Path}
use Rattle.dt_model.specs.Tree.{Reading, nodes_of}
use Rattle.dt_model.specs.Valid.{IsValid}
use Rattle.dt_model.specs.Applied.{node_numbered, symbol}
use Rattle.dt_model.specs.Object.{local_cells}
use Rattle.dt_model.specs.Merged.{landing}
use Rattle.dt_model.proofs.Finding.{node_of_number}
use Rattle.dt_names.specs.Fault.{IsNoMemory, IsMemoryOr}
use Rattle.dt_overlay_model.specs.Walk.{named_node, target_label, is_target}
use Rattle.dt_overlay_laws.specs.Objects.{HasNumber, SymbolHasNumber}
use Rattle.dt_overlay_landing.specs.Marks.{IsMark}
use Rattle.dt_overlay_landing.specs.Turns.{IsTooDeep}
use Rattle.dt_overlay_landing.specs.declared.marks.TargetMark.{TargetMark}
use Rattle.dt_overlay_landing.specs.declared.marks.TargetMark.TheVariants.{Own, Label}
use Rattle.dt_overlay_landing.proofs.SitesTurns.{turn_front, not_too_deep}
use Rattle.dt_trees.specs.Placed.{reading_of}
use Rattle.dt_overlay_landing.proofs.sites.marked.Goals as goal

-- the label's node is the only one of its number
found_label : (base : Reading) (l : Name) (n : ℕ) (o : Option Path) → IsValid base → SymbolHasNumber base l n → MatchOption o ((p : Path) → HasNumber base p n → ⊥) (λ p. HasNumber base p n) → o ≡ symbol base l
found_label base l n None valid has none = absurd (none has.0 has.2)
found_label base l n (Some p) valid has found = sym (node_of_number base p n valid found) ∙ node_of_number base has.0 n valid has.2 ∙ sym has.1

pub returns-in-Some-Label-clause-value : goal.returns-in-Some-Label-clause-value
returns-in-Some-Label-clause-value g c marks turn t f mark =
    let base : Reading = g.T.Target.reading c.args.target.now in
    let object = reading_of (g.V.TreeView.tree c.args.object.now.tree.now) in
    let own = list_any (is_target f) (local_cells object) in
    let number = c.in-Some-Label.number in
    let m : IsMark base object turn.fixups f (Some (Label number)) =
    subst (IsMark base object turn.fixups f) (c.in-Some-Label.is ∙ ap (λ (x : TargetMark). Some x) (rw c.in-Some-Label.is at c.in-Some-Label.field-0-is)) mark in
    IfOk-weaker c.by_phandle.result (λ (o : Option Path). MatchOption o ((p : Path) → HasNumber base p number → ⊥) (λ p. HasNumber base p number))
    (λ (o : Option Path). o ≡ named_node base object turn.walked (target_label f turn.fixups) own c.args.number)
    (λ o found. found_label base m.0 number o c.validity.ensures.valid m.2 found ∙ sym (ap (λ (l : Option Name). named_node base object turn.walked l own c.args.number) m.1))
    c.by_phandle.ensures.found

pub returns-in-Some-Own-clause-value : goal.returns-in-Some-Own-clause-value
returns-in-Some-Own-clause-value g c marks turn t f mark =
    let base : Reading = g.T.Target.reading c.args.target.now in
    let o = g.V.TreeView.tree c.args.object.now.tree.now in
    let object = reading_of o in
    let own = list_any (is_target f) (local_cells object) in
    let m : IsMark base object turn.fixups f (Some Own) = subst (IsMark base object turn.fixups f) (c.in-Some-Own.is ∙ ap (λ (x : TargetMark). Some x) (rw c.in-Some-Own.is at c.in-Some-Own.field-0-is)) mark in
    IfOk-weaker c.own_place.result (λ (q : Option Path). q ≡ option_and_then (landing turn.walked.sites) (node_numbered (nodes_of object) c.args.number))
    (λ (q : Option Path). q ≡ named_node base object turn.walked (target_label f turn.fixups) own c.args.number)
    (λ q e. e ∙ sym (ap (λ (l : Option Name). named_node base object turn.walked l own c.args.number) m.0 ∙ ap (λ (b : Bool). named_node base object turn.walked None b c.args.number) m.1))
    (c.own_place.ensures.value turn.walked.sites t.brought.contents (turn_front base o c.args.object.now.brought c.validity-2.ensures.valid marks c.args.landing.now turn t) t.sites)

pub returns-in-Some-Own-clause-refused : goal.returns-in-Some-Own-clause-refused
returns-in-Some-Own-clause-refused g c marks turn t =
    let base : Reading = g.T.Target.reading c.args.target.now in
    let o = g.V.TreeView.tree c.args.object.now.tree.now in
    IfErr-weaker c.own_place.result (IsMemoryOr (λ kind. IsTooDeep kind (reading_of o) turn.walked.sites)) IsNoMemory
    (λ fault why. (
      elim why.1 [
        | inl memory ↦ memory
        | inr deep ↦ absurd (not_too_deep base o c.args.object.now.brought c.validity-2.ensures.valid marks c.args.landing.now turn t deep.1)
      ],
      why.0,
    ))
    (c.own_place.ensures.refused turn.walked.sites t.brought.contents (turn_front base o c.args.object.now.brought c.validity-2.ensures.valid marks c.args.landing.now turn t) t.sites)
