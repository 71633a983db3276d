use Rattle.std.proofs.Common.{◌≡◌, ◌+◌, ◌∙◌, List, drop, inl, inr, refl, sym, ap, subst, arith}
use Rattle.std.proofs.lemmas.Result.{err_from_is_err_and}
use Rattle.dt_model.specs.Lists.{IsIn}
use Rattle.dt_model.specs.Tree.{Property}
use Rattle.dt_overlay_laws.specs.Objects.{IsLocalFixup}
use Rattle.dt_overlay_read.specs.LocalFixups.{ListsProperties}
use Rattle.dt_overlay_read.proofs.LocalFixupsLists.{fault_for, left-step, properties-none, properties-more}
use Rattle.dt_trees.specs.Placed.{path_at, properties_at, reading_of}
use Rattle.dt_trees.specs.Views.{props_said}
use Rattle.dt_trees.proofs.Props.{next_prop, no_prop}
use Rattle.dt_overlay_read.proofs.local_fixups.list_properties.Goals as goal

pub loop-listed-init : goal.loop-listed-init
loop-listed-init g c = record { left = λ numbers brought new others. others; within = λ x i. i }

pub loop-listed-preserved : goal.loop-listed-preserved
loop-listed-preserved g c =
    let t = g.V.TreeView.tree c.args.object.now in
    let p = path_at t c.args.node in
    let xs = c.deref-listed-items.result.now in
    let i = c.loop-listed.listed-index in
    let first = next_prop xs i _ (omega arith) in
    record {
      left = λ numbers brought.
          left-step (ListsProperties t numbers p) (props_said xs) (drop i (props_said xs)) (drop (i + 1) (props_said xs)) c.args.out.now.items c.loop-listed.out.items c.list_offsets.new.out.items
          (λ new others. subst (λ (ps : List Property). ListsProperties t numbers p ps c.loop-listed.out.items new) (sym first)
          (properties-more t numbers p _ (drop (i + 1) (props_said xs)) c.loop-listed.out.items c.list_offsets.new.out.items new (c.in_ok-list_offsets.ensures.listed numbers brought) others))
          (c.loop-listed.invariant.left numbers brought);
      within = λ y j. c.loop-listed.invariant.within y (subst (IsIn y) (sym first) (inr j));
    }

pub returns-in_err-list_offsets-clause-refused : goal.returns-in_err-list_offsets-clause-refused
returns-in_err-list_offsets-clause-refused g c =
    let t = g.V.TreeView.tree c.args.object.now in
    let p = path_at t c.args.node in
    let xs = c.deref-listed-items.result.now in
    let i = c.loop-listed.listed-index in
    let e = err_from_is_err_and c.from_residual-in_err-list_offsets.result c.from_residual-in_err-list_offsets.ensures.1 in
    let all : props_said xs ≡ properties_at t (path_at t c.args.mirror) = ap props_said c.deref-listed-items.ensures.value ∙ c.in_ok-props.ensures in
    rw (e.1, e.2) (fault_for _ ((y : Property) × IsIn y (properties_at t (path_at t c.args.mirror)) × ¬ IsLocalFixup (reading_of t) p y) c.in_err-list_offsets.field-0.0
    (λ bad. (_, subst (IsIn _) all (c.loop-listed.invariant.within _ (subst (IsIn _) (sym (next_prop xs i _ (omega arith))) (inl refl))), bad)) c.in_err-list_offsets.ensures.refused)

pub returns-clause-listed : goal.returns-clause-listed
returns-clause-listed g c numbers brought =
    let t = g.V.TreeView.tree c.args.object.now in
    let p = path_at t c.args.node in
    let xs = c.deref-listed-items.result.now in
    let i = c.loop-listed.listed-index in
    let all : props_said xs ≡ properties_at t (path_at t c.args.mirror) = ap props_said c.deref-listed-items.ensures.value ∙ c.in_ok-props.ensures in
    subst (λ (ps : List Property). ListsProperties t numbers p ps c.args.out.now.items c.loop-listed.out.items) all
    (c.loop-listed.invariant.left numbers brought c.loop-listed.out.items
    (subst (λ (ps : List Property). ListsProperties t numbers p ps c.loop-listed.out.items c.loop-listed.out.items) (sym (no_prop xs i (omega arith))) (properties-none t numbers p c.loop-listed.out.items)))
