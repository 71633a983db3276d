use Rattle.std.proofs.Common.{◌++◌, ◌∷◌, [], List, ℕ, drop, sym, ap, subst, ◌∙◌}
use Rattle.dt_model.specs.Names.{IsNodeName}
use Rattle.dt_model.specs.Path.{Path}
use Rattle.dt_trees.specs.Placed.{path_at}
use Rattle.dt_edit.proofs.DownPaths.{IsLeft, names_down, named_left, one_down, room_left}
use Rattle.dt_edit.proofs.finding.path_of.Goals as goal

pub loop-here-init : goal.loop-here-init
loop-here-init c =
    let t = c.args.blob.now in
    record { left = record { nodes = c.way_to-way.ensures.nodes; whole = ap (λ (p : Path). p ++ names_down t c.way_to-way.result) c.root-path.ensures ∙ c.way_to-way.ensures.names } }

pub push_name-requires-clause-name : goal.push_name-requires-clause-name
push_name-requires-clause-name c =
    let t = c.args.blob.now in
    let l = subst (λ (w : List ℕ). IsLeft t c.args.node w c.loop-here.path) c.in-Some.ensures c.loop-here.invariant.left in
    subst IsNodeName (sym (c.name.ensures (path_at t c.in-Some.here) l.nodes.0))
    (named_left t c.args.node c.in-Some.here c.loop-here.way (drop 1 c.loop-here.way) c.loop-here.path c.validity.ensures.valid c.requires c.loop-here.invariant.left c.in-Some.ensures)

pub push_name-requires-clause-room : goal.push_name-requires-clause-room
push_name-requires-clause-room c =
    room_left c.args.blob.now c.args.node c.in-Some.here c.loop-here.way (drop 1 c.loop-here.way) c.loop-here.path c.validity.ensures.within c.requires c.loop-here.invariant.left c.in-Some.ensures

pub loop-here-preserved : goal.loop-here-preserved
loop-here-preserved c =
    let t = c.args.blob.now in
    let rest : List ℕ = drop 1 c.loop-here.way in
    let l = subst (λ (w : List ℕ). IsLeft t c.args.node w c.loop-here.path) c.in-Some.ensures c.loop-here.invariant.left in
    let name = c.name.ensures (path_at t c.in-Some.here) l.nodes.0 in
    let longer = c.in_ok-push_name.ensures.ok ∙ ap (λ (n : List ℕ). c.loop-here.path ++ n ∷ []) name in
    record {
      left = subst (λ (w : List ℕ). IsLeft t c.args.node w c.push_name.new.path) (sym c.pop.ensures)
          (subst (IsLeft t c.args.node rest) (sym longer) (one_down t c.args.node c.in-Some.here c.loop-here.way rest c.loop-here.path c.loop-here.invariant.left c.in-Some.ensures));
    }
