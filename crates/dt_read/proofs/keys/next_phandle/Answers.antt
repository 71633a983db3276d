use Rattle.std.proofs.Common.{◌≡◌, ◌∷◌, codes, refl, length, sym, ap, subst, ◌∙◌}
use Rattle.std.proofs.lemmas.List.{length-drop}
use Rattle.dt_read.specs.Keys.{keys_in, AreShallowFor}
use Rattle.dt_read.specs.Marks.{mark_at}
use Rattle.dt_read.specs.TreeTokens.{past_others}
use Rattle.dt_read.specs.View.{sought_view, IsSought}
use Rattle.dt_read.specs.declared.keys.Wanted.TheVariants.{Phandles}
use Rattle.dt_read.proofs.PhandleKeys.{keys_past, shallow_past, phandle_sought}
use Rattle.dt_read.proofs.keys.next_phandle.Goals as goal

pub push-requires : goal.push-requires
push-requires c =
    let found = c.in-Some.ensures.next in
    let e = subst (λ s. past_others (codes "phandle") c.loop-place.cursor ≡ mark_at c.in-Some.place (sought_view s found.0) ∷ c.seek.new.self) c.in-BeginNode.is found.2 in
    (subst (AreShallowFor Phandles (length c.loop-place.open_nodes)) e (shallow_past (length c.loop-place.open_nodes) c.loop-place.cursor c.loop-place.invariant.1) refl).0

pub loop-place-preserved-in-BeginNode : goal.loop-place-preserved-in-BeginNode
loop-place-preserved-in-BeginNode c =
    let found = c.in-Some.ensures.next in
    let open_nodes = c.loop-place.open_nodes in
    let e = subst (λ s. past_others (codes "phandle") c.loop-place.cursor ≡ mark_at c.in-Some.place (sought_view s found.0) ∷ c.seek.new.self) c.in-BeginNode.is found.2 in
    rw c.push.ensures (
      sym (ap (keys_in Phandles open_nodes) e) ∙ keys_past open_nodes c.loop-place.cursor ∙ c.loop-place.invariant.0,
      (subst (AreShallowFor Phandles (length open_nodes)) e (shallow_past (length open_nodes) c.loop-place.cursor c.loop-place.invariant.1) refl).1,
    )

pub loop-place-preserved-in-EndNode : goal.loop-place-preserved-in-EndNode
loop-place-preserved-in-EndNode c =
    let found = c.in-Some.ensures.next in
    let open_nodes = c.loop-place.open_nodes in
    let e = subst (λ s. past_others (codes "phandle") c.loop-place.cursor ≡ mark_at c.in-Some.place (sought_view s found.0) ∷ c.seek.new.self) c.in-EndNode.is found.2 in
    rw c.pop.ensures (
      sym (ap (keys_in Phandles open_nodes) e) ∙ keys_past open_nodes c.loop-place.cursor ∙ c.loop-place.invariant.0,
      subst (λ n. AreShallowFor Phandles n c.seek.new.self) (sym (length-drop 1 open_nodes))
          (subst (AreShallowFor Phandles (length open_nodes)) e (shallow_past (length open_nodes) c.loop-place.cursor c.loop-place.invariant.1) refl),
    )

pub returns-in-Named-clause-next : goal.returns-in-Named-clause-next
returns-in-Named-clause-next c =
    let found = c.in-Some.ensures.next in
    let open_nodes = c.loop-place.open_nodes in
    let e = subst (λ s. past_others (codes "phandle") c.loop-place.cursor ≡ mark_at c.in-Some.place (sought_view s found.0) ∷ c.seek.new.self) c.in-Named.is found.2 in
    let is = subst (λ s. IsSought (codes "phandle") s found.0) c.in-Named.is found.1 in
    sym c.loop-place.invariant.0 ∙ sym (keys_past open_nodes c.loop-place.cursor) ∙ ap (keys_in Phandles open_nodes) e ∙ phandle_sought open_nodes found.0 c.in-Named.value.now c.seek.new.self is.0 is.1

pub returns-in-Named-clause-shallow : goal.returns-in-Named-clause-shallow
returns-in-Named-clause-shallow c =
    let found = c.in-Some.ensures.next in
    let e = subst (λ s. past_others (codes "phandle") c.loop-place.cursor ≡ mark_at c.in-Some.place (sought_view s found.0) ∷ c.seek.new.self) c.in-Named.is found.2 in
    subst (AreShallowFor Phandles (length c.loop-place.open_nodes)) e (shallow_past (length c.loop-place.open_nodes) c.loop-place.cursor c.loop-place.invariant.1)

pub loop-place-preserved : goal.loop-place-preserved
loop-place-preserved c =
    let found = c.in-Some.ensures.next in
    let open_nodes = c.loop-place.open_nodes in
    let e = subst (λ s. past_others (codes "phandle") c.loop-place.cursor ≡ mark_at c.in-Some.place (sought_view s found.0) ∷ c.seek.new.self) c.in-End.is found.2 in (
      sym (ap (keys_in Phandles open_nodes) e) ∙ keys_past open_nodes c.loop-place.cursor ∙ c.loop-place.invariant.0,
      subst (AreShallowFor Phandles (length open_nodes)) e (shallow_past (length open_nodes) c.loop-place.cursor c.loop-place.invariant.1) refl,
    )

pub returns-clause-next : goal.returns-clause-next
returns-clause-next c =
    let open_nodes = c.loop-place.open_nodes in
    let none = c.in_default.ensures.next in
    (sym c.loop-place.invariant.0 ∙ sym (keys_past open_nodes c.loop-place.cursor) ∙ ap (keys_in Phandles open_nodes) none.0, ap (keys_in Phandles open_nodes) none.1)
