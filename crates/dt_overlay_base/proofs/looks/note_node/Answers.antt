use Rattle.std.proofs.Common.{◌≡◌, ◌∙◌, [], ◌∷◌, ◌++◌, ℕ, List, Some, Bool, true, inl, refl, sym, ap, subst, codes}
use Rattle.std.specs.Prelude.{is_some, if◌then◌else◌}
use Rattle.dt_model.specs.Tree.{value_of}
use Rattle.dt_model.specs.Path.{Path}
use Rattle.dt_overlay_model.specs.Walk.{number_there, with_place}
use Rattle.dt_model.proofs.Tests.{in_right}
use Rattle.dt_trees.specs.Placed.{path_at, properties_at, reading_of}
use Rattle.dt_overlay_base.specs.Known.{IsKnown}
use Rattle.dt_overlay_base.proofs.LooksNames.{value_under}
use Rattle.dt_overlay_base.specs.NodeNumbers.{PutsAt, has_phandle_at}
use Rattle.dt_overlay_base.proofs.LooksNumbers.{prop_there}
use Rattle.dt_overlay_base.proofs.NodesNumbered.{fit_own, more_put}
use Rattle.dt_overlay_base.proofs.looks.note_node.Goals as goal

pub returns-in_ok-put_node-clause-known : goal.returns-in_ok-put_node-clause-known
returns-in_ok-put_node-clause-known g c given landed known =
    let base = g.T.Target.reading c.args.target.now in
    let q = c.args.path.now in
    let t = g.V.TreeView.tree c.args.object.now in
    let own = path_at t c.args.node in
    let has : is_some (value_of (properties_at t own) (codes "phandle")) ≡ true =
    ap is_some (value_under t own (codes "phandle")) ∙ sym (prop_there (reading_of t) own c.value.result c.as_slice.result.now (codes "phandle") c.value.ensures c.as_slice.ensures) ∙ sym c.is_some.ensures ∙ c.if-is_some.true in
    subst (λ (b : Bool). IsKnown base (if b then with_place base q given else given) (landed ++ q ∷ []) c.put_node.new.self) (sym has)
    (c.in_ok-put_node.ensures.known base (with_place base q given) (landed ++ q ∷ [])
    (c.in_ok-number.ensures.known given (landed ++ q ∷ []) (c.in_ok-got.ensures.known base given landed known) (in_right q landed (q ∷ []) (inl refl)) (c.in_ok-got.ensures.number ∙ known.numbers q c.requires.named)))

pub returns-in_ok-put_node-clause-numbered : goal.returns-in_ok-put_node-clause-numbered
returns-in_ok-put_node-clause-numbered g c given landed known numbers fit sound =
    let base = g.T.Target.reading c.args.target.now in
    let q = c.args.path.now in
    let t = g.V.TreeView.tree c.args.object.now in
    let k = c.args.node in
    let own = path_at t k in
    let there : has_phandle_at t own ≡ true =
    sym (prop_there (reading_of t) own c.value.result c.as_slice.result.now (codes "phandle") c.value.ensures c.as_slice.ensures) ∙ sym c.is_some.ensures ∙ c.if-is_some.true in
    let has : is_some (value_of (properties_at t own) (codes "phandle")) ≡ true = ap is_some (value_under t own (codes "phandle")) ∙ there in
    let now : List (Path × ℕ) = if is_some (value_of (properties_at t own) (codes "phandle")) then with_place base q given else given in
    let same : now ≡ with_place base q given = ap (λ (b : Bool). if b then with_place base q given else given) has in
    let number : number_there base now q ≡ Some c.in_ok-number.number =
    ap (λ (more : List (Path × ℕ)). number_there base more q) same
    ∙ c.in_ok-number.ensures.number given (landed ++ q ∷ []) (c.in_ok-got.ensures.known base given landed known) (in_right q landed (q ∷ []) (inl refl)) (c.in_ok-got.ensures.number ∙ known.numbers q c.requires.named) in
    let old = c.args.places.now.nodes in
    let kept : c.number_place.new.places.nodes ≡ old = c.in_ok-number.ensures.nodes ∙ c.in_ok-got.ensures.nodes in
    more_put t numbers c.validity.ensures.places old c.put_node.new.self.nodes own k c.in_ok-number.number sound c.requires.node
    (fit_own base t numbers now k c.in_ok-number.number q fit there number)
    (subst (λ (entries : List (ℕ × ℕ)). PutsAt entries c.put_node.new.self.nodes k c.in_ok-number.number) kept c.in_ok-put_node.ensures.nodes)
