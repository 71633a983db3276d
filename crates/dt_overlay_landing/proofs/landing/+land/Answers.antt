use Rattle.std.proofs.Common.{◌≡◌, ◌++◌, ◌∷◌, [], ◌+◌, ◌∙◌, ℕ, Option, length, refl, sym, ap, subst, arith}
use Rattle.std.proofs.lemmas.List.{length-append}
use Rattle.std.proofs.lemmas.Result.{err_from_is_err_and}
use Rattle.dt_model.specs.Changes.{with_child_at}
use Rattle.dt_model.specs.Names.{IsNodeName}
use Rattle.dt_model.specs.Tree.{Forest}
use Rattle.dt_model.specs.Valid.{names}
use Rattle.dt_overlay_laws.specs.Steps.{land_node, land_properties, FullAtNode}
use Rattle.dt_overlay_laws.proofs.Crowded.{node_more}
use Rattle.dt_overlay_base.specs.Targets.{HasNoRoom}
use Rattle.dt_overlay_base.proofs.LooksNames.{node_named, path_short}
use Rattle.dt_overlay_base.proofs.Rooms.{behind}
use Rattle.dt_overlay_landing.specs.Landed.{forest_landed, landed_with}
use Rattle.dt_overlay_landing.specs.declared.landing.LandingNode.{LandingNode}
use Rattle.dt_overlay_landing.proofs.LandingNodes.{all_as_landed, visited_first, next_child, nodes_begin, nodes_step, nodes_over, want_whole}
use Rattle.dt_trees.specs.Placed.{path_at, last_name, below_at}
use Rattle.dt_trees.proofs.Walked.{IsWalked, walk_begins, walk_ends, visit, last_of, left_counted}
use Rattle.dt_overlay_landing.proofs.landing.+land.Goals as goal

pub loop-next-init : goal.loop-next-init
loop-next-init g t c =
    let o = g.V.TreeView.tree c.args.object.now.tree.now in
    let p = path_at o c.args.node in
    let numbers = c.args.object.now.brought.numbers.entries in
    let vs = c.args.values.now in
    let full = HasNoRoom g.T.Target.reading g.T.Target.has_room g.T.Target.follows c.args.target.now in
    let q = c.args.path.now in
    let start = g.T.Target.reading c.args.target.now in
    let all = landed_with g.V.TreeView.tree c.args.object.now vs c.args.node in
    let whole = land_node q all start in
    let crowded = FullAtNode full q all start in
    let l : LandingNode = record { node = c.args.node; brought = record { ref_ptr = (0, 0); now = c.args.object.now.brought }; values = record { ref_ptr = (0, 0); now = vs } } in
    let own = all_as_landed o numbers vs l c.requires.node refl refl in
    record {
      forest = below_at o p;
      walked = walk_begins o p c.first_child-next.result c.first_child-next.ensures.is;
      left = nodes_begin full (forest_landed o numbers vs p) q all.properties (below_at o p) start (g.T.Target.reading c.set_properties.new.target)
          (c.in_ok-set_properties.ensures.landed ∙ ap (λ ps. land_properties q ps start) (sym own)) c.requires.stands c.requires.may;
      follows = c.set_properties.ensures.follows;
    }

pub name-requires : goal.name-requires
name-requires g t c =
    let o = g.V.TreeView.tree c.args.object.now.tree.now in
    let p = path_at o c.args.node in
    let w = c.loop-next.invariant in
    let k = c.in-Some.child in
    let v = visit o p k w.forest c.validity.ensures.valid c.validity.ensures.places (subst (λ (n : Option ℕ). IsWalked o p n w.forest) c.in-Some.is w.walked) in
    v.there

pub add_child-requires-clause-named : goal.add_child-requires-clause-named
add_child-requires-clause-named g t c =
    let o = g.V.TreeView.tree c.args.object.now.tree.now in
    let p = path_at o c.args.node in
    let w = c.loop-next.invariant in
    let k = c.in-Some.child in
    let v = visit o p k w.forest c.validity.ensures.valid c.validity.ensures.places (subst (λ (n : Option ℕ). IsWalked o p n w.forest) c.in-Some.is w.walked) in
    subst IsNodeName (sym c.name.ensures) (node_named o k c.validity.ensures.valid v.there v.below)

pub add_child-requires-clause-shallow : goal.add_child-requires-clause-shallow
add_child-requires-clause-shallow g t c =
    let o = g.V.TreeView.tree c.args.object.now.tree.now in
    let p = path_at o c.args.node in
    let numbers = c.args.object.now.brought.numbers.entries in
    let vs = c.args.values.now in
    let full = HasNoRoom g.T.Target.reading g.T.Target.has_room g.T.Target.follows c.args.target.now in
    let q = c.args.path.now in
    let start = g.T.Target.reading c.args.target.now in
    let all = landed_with g.V.TreeView.tree c.args.object.now vs c.args.node in
    let whole = land_node q all start in
    let crowded = FullAtNode full q all start in
    let w = c.loop-next.invariant in
    let k = c.in-Some.child in
    let v = visit o p k w.forest c.validity.ensures.valid c.validity.ensures.places (subst (λ (n : Option ℕ). IsWalked o p n w.forest) c.in-Some.is w.walked) in
    let now = g.T.Target.reading c.loop-next.target in
    let node = landed_with g.V.TreeView.tree c.args.object.now vs k in
    let named : c.name.result.now ≡ v.name = c.name.ensures ∙ ap last_name v.path ∙ last_of p v.name in
    let first = visited_first o numbers vs p k w.forest v in
    (next_child full (forest_landed o numbers vs p) q w.forest v.rest v.name node first now whole crowded w.left c.name.result.now (q ++ c.name.result.now ∷ []) (with_child_at q c.name.result.now now) named refl refl).shallow

pub returns-in_err-path-clause-refused : goal.returns-in_err-path-clause-refused
returns-in_err-path-clause-refused g t c =
    let o = g.V.TreeView.tree c.args.object.now.tree.now in
    let p = path_at o c.args.node in
    let numbers = c.args.object.now.brought.numbers.entries in
    let vs = c.args.values.now in
    let full = HasNoRoom g.T.Target.reading g.T.Target.has_room g.T.Target.follows c.args.target.now in
    let q = c.args.path.now in
    let start = g.T.Target.reading c.args.target.now in
    let all = landed_with g.V.TreeView.tree c.args.object.now vs c.args.node in
    let whole = land_node q all start in
    let crowded = FullAtNode full q all start in
    let w = c.loop-next.invariant in
    let k = c.in-Some.child in
    let v = visit o p k w.forest c.validity.ensures.valid c.validity.ensures.places (subst (λ (n : Option ℕ). IsWalked o p n w.forest) c.in-Some.is w.walked) in
    let now = g.T.Target.reading c.loop-next.target in
    let node = landed_with g.V.TreeView.tree c.args.object.now vs k in
    let named : c.name.result.now ≡ v.name = c.name.ensures ∙ ap last_name v.path ∙ last_of p v.name in
    let first = visited_first o numbers vs p k w.forest v in
    let e = err_from_is_err_and c.from_residual-in_err-path.result c.from_residual-in_err-path.ensures.1 in
    let added = with_child_at q c.name.result.now now in
    let next = next_child full (forest_landed o numbers vs p) q w.forest v.rest v.name node first now whole crowded w.left c.name.result.now (q ++ c.name.result.now ∷ []) added named refl refl in
    rw (e.1, e.2)
    (want_whole ((HasNoRoom g.T.Target.reading g.T.Target.has_room g.T.Target.follows c.loop-next.target) now added) crowded c.in_err-path.field-0.0
    (λ stuck. next.added (behind g.T.Target.reading g.T.Target.has_room g.T.Target.follows g.T.Target.follows_trans c.args.target.now c.loop-next.target w.follows now added stuck))
    c.in_err-path.ensures.refused)

pub land-requires : goal.land-requires
land-requires g t c κs within =
    let o = g.V.TreeView.tree c.args.object.now.tree.now in
    let p = path_at o c.args.node in
    let numbers = c.args.object.now.brought.numbers.entries in
    let vs = c.args.values.now in
    let full = HasNoRoom g.T.Target.reading g.T.Target.has_room g.T.Target.follows c.args.target.now in
    let q = c.args.path.now in
    let start = g.T.Target.reading c.args.target.now in
    let all = landed_with g.V.TreeView.tree c.args.object.now vs c.args.node in
    let whole = land_node q all start in
    let crowded = FullAtNode full q all start in
    let w = c.loop-next.invariant in
    let k = c.in-Some.child in
    let v = visit o p k w.forest c.validity.ensures.valid c.validity.ensures.places (subst (λ (n : Option ℕ). IsWalked o p n w.forest) c.in-Some.is w.walked) in
    let now = g.T.Target.reading c.loop-next.target in
    let node = landed_with g.V.TreeView.tree c.args.object.now vs k in
    let named : c.name.result.now ≡ v.name = c.name.ensures ∙ ap last_name v.path ∙ last_of p v.name in
    let first = visited_first o numbers vs p k w.forest v in
    let longer : length (path_at o k) ≡ length p + 1 = ap length v.path ∙ length-append p (v.name ∷ []) in
    let short = path_short o k c.validity.ensures.within v.there in
    let next = next_child full (forest_landed o numbers vs p) q w.forest v.rest v.name node first now whole crowded w.left c.name.result.now c.in_ok-path.path (g.T.Target.reading c.add_child.new.target) named c.in_ok-path.ensures.path c.in_ok-path.ensures.added in
    (omega (arith, c.decreases, longer, short), (within.0, (within.1, (v.there, (next.stands, next.may)))))

pub returns-in_err-land-clause-refused : goal.returns-in_err-land-clause-refused
returns-in_err-land-clause-refused g t c =
    let o = g.V.TreeView.tree c.args.object.now.tree.now in
    let p = path_at o c.args.node in
    let numbers = c.args.object.now.brought.numbers.entries in
    let vs = c.args.values.now in
    let full = HasNoRoom g.T.Target.reading g.T.Target.has_room g.T.Target.follows c.args.target.now in
    let q = c.args.path.now in
    let start = g.T.Target.reading c.args.target.now in
    let all = landed_with g.V.TreeView.tree c.args.object.now vs c.args.node in
    let whole = land_node q all start in
    let crowded = FullAtNode full q all start in
    let w = c.loop-next.invariant in
    let k = c.in-Some.child in
    let v = visit o p k w.forest c.validity.ensures.valid c.validity.ensures.places (subst (λ (n : Option ℕ). IsWalked o p n w.forest) c.in-Some.is w.walked) in
    let now = g.T.Target.reading c.loop-next.target in
    let node = landed_with g.V.TreeView.tree c.args.object.now vs k in
    let named : c.name.result.now ≡ v.name = c.name.ensures ∙ ap last_name v.path ∙ last_of p v.name in
    let first = visited_first o numbers vs p k w.forest v in
    let e = err_from_is_err_and c.from_residual-in_err-land.result c.from_residual-in_err-land.ensures.1 in
    let added = g.T.Target.reading c.add_child.new.target in
    let own = c.in_ok-path.path in
    let next = next_child full (forest_landed o numbers vs p) q w.forest v.rest v.name node first now whole crowded w.left c.name.result.now own added named c.in_ok-path.ensures.path c.in_ok-path.ensures.added in
    let before = g.T.Target.follows_trans c.args.target.now c.loop-next.target c.add_child.new.target w.follows c.add_child.ensures.follows in
    let far = HasNoRoom g.T.Target.reading g.T.Target.has_room g.T.Target.follows c.add_child.new.target in
    rw (e.1, e.2)
    (want_whole (FullAtNode far own node added) crowded c.in_err-land.field-0.0
    (λ stuck. next.landed (node_more far full (behind g.T.Target.reading g.T.Target.has_room g.T.Target.follows g.T.Target.follows_trans c.args.target.now c.add_child.new.target before) own node added stuck))
    c.in_err-land.ensures.refused)

pub returns-in_err-land-clause-follows : goal.returns-in_err-land-clause-follows
returns-in_err-land-clause-follows g t c =
    g.T.Target.follows_trans c.args.target.now c.loop-next.target c.land.new.target c.loop-next.invariant.follows
    (g.T.Target.follows_trans c.loop-next.target c.add_child.new.target c.land.new.target c.add_child.ensures.follows c.land.ensures.follows)

pub next_sibling-next-requires : goal.next_sibling-next-requires
next_sibling-next-requires g t c =
    let o = g.V.TreeView.tree c.args.object.now.tree.now in
    let p = path_at o c.args.node in
    let w = c.loop-next.invariant in
    let k = c.in-Some.child in
    let v = visit o p k w.forest c.validity.ensures.valid c.validity.ensures.places (subst (λ (n : Option ℕ). IsWalked o p n w.forest) c.in-Some.is w.walked) in
    v.there

pub loop-next-smaller : goal.loop-next-smaller
loop-next-smaller g t c =
    let o = g.V.TreeView.tree c.args.object.now.tree.now in
    let p = path_at o c.args.node in
    let w = c.loop-next.invariant in
    let k = c.in-Some.child in
    let v = visit o p k w.forest c.validity.ensures.valid c.validity.ensures.places (subst (λ (n : Option ℕ). IsWalked o p n w.forest) c.in-Some.is w.walked) in
    let valid = c.validity.ensures.valid in
    let apart = c.validity.ensures.places in
    let before = left_counted o p c.loop-next.next w.forest valid apart w.walked in
    let later = left_counted o p c.next_sibling-next.result v.rest valid apart (v.on c.next_sibling-next.result c.next_sibling-next.ensures.is) in
    let one = ap (λ (f : Forest). length (names f)) v.split in
    omega (arith, before, later, one)

pub loop-next-preserved : goal.loop-next-preserved
loop-next-preserved g t c =
    let o = g.V.TreeView.tree c.args.object.now.tree.now in
    let p = path_at o c.args.node in
    let numbers = c.args.object.now.brought.numbers.entries in
    let vs = c.args.values.now in
    let full = HasNoRoom g.T.Target.reading g.T.Target.has_room g.T.Target.follows c.args.target.now in
    let q = c.args.path.now in
    let start = g.T.Target.reading c.args.target.now in
    let all = landed_with g.V.TreeView.tree c.args.object.now vs c.args.node in
    let whole = land_node q all start in
    let crowded = FullAtNode full q all start in
    let w = c.loop-next.invariant in
    let k = c.in-Some.child in
    let v = visit o p k w.forest c.validity.ensures.valid c.validity.ensures.places (subst (λ (n : Option ℕ). IsWalked o p n w.forest) c.in-Some.is w.walked) in
    let now = g.T.Target.reading c.loop-next.target in
    let node = landed_with g.V.TreeView.tree c.args.object.now vs k in
    let named : c.name.result.now ≡ v.name = c.name.ensures ∙ ap last_name v.path ∙ last_of p v.name in
    let first = visited_first o numbers vs p k w.forest v in
    let added = g.T.Target.reading c.add_child.new.target in
    record {
      forest = v.rest;
      walked = v.on c.next_sibling-next.result c.next_sibling-next.ensures.is;
      left = nodes_step full (forest_landed o numbers vs p) q w.forest v.rest v.name node first now whole crowded w.left c.name.result.now c.in_ok-path.path added (g.T.Target.reading c.land.new.target)
          named c.in_ok-path.ensures.path c.in_ok-path.ensures.added c.in_ok-land.ensures.landed;
      follows = g.T.Target.follows_trans c.args.target.now c.loop-next.target c.land.new.target w.follows
          (g.T.Target.follows_trans c.loop-next.target c.add_child.new.target c.land.new.target c.add_child.ensures.follows c.land.ensures.follows);
    }

pub returns-clause-landed : goal.returns-clause-landed
returns-clause-landed g t c =
    let o = g.V.TreeView.tree c.args.object.now.tree.now in
    let p = path_at o c.args.node in
    let numbers = c.args.object.now.brought.numbers.entries in
    let vs = c.args.values.now in
    let full = HasNoRoom g.T.Target.reading g.T.Target.has_room g.T.Target.follows c.args.target.now in
    let q = c.args.path.now in
    let start = g.T.Target.reading c.args.target.now in
    let all = landed_with g.V.TreeView.tree c.args.object.now vs c.args.node in
    let whole = land_node q all start in
    let crowded = FullAtNode full q all start in
    let w = c.loop-next.invariant in
    let none = walk_ends o p w.forest c.validity.ensures.valid (subst (λ (n : Option ℕ). IsWalked o p n w.forest) c.in_default.is w.walked) in
    nodes_over full (forest_landed o numbers vs p) q w.forest (g.T.Target.reading c.loop-next.target) whole crowded (ap (forest_landed o numbers vs p) none) w.left
