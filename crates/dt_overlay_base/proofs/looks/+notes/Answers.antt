use Rattle.std.proofs.Common.{◌≡◌, ◌∷◌, ◌∙◌, ◌+◌, ◌++◌, ℕ, List, [], Option, inl, inr, refl, sym, ap, subst, length, append-nil, arith}
use Rattle.std.proofs.lemmas.List.{length-append}
use Rattle.std.proofs.lemmas.Result.{err_from_is_err_and}
use Rattle.std.specs.Prelude.{OnOk}
use Rattle.dt_model.specs.Names.{Name, IsNodeName}
use Rattle.dt_model.specs.Path.{Path}
use Rattle.dt_model.specs.Tree.{Forest, Placed, preorder}
use Rattle.dt_model.specs.Valid.{names}
use Rattle.dt_overlay_laws.specs.Landings.{MayAllLand}
use Rattle.dt_trees.specs.Placed.{path_at, last_name, below_in}
use Rattle.dt_trees.proofs.Walked.{IsWalked, walk_begins, walk_ends, visit, walked_first, left_counted}
use Rattle.dt_overlay_base.specs.Known.{HasRoom, alone, paths_of, placed}
use Rattle.dt_overlay_base.specs.NodeNumbers.{NotesNumbers, paths_below, paths_in}
use Rattle.dt_overlay_model.specs.Walk.{with_places}
use Rattle.dt_overlay_base.proofs.NodesNumbered.{left_noted, notes_behind, numbers_begun, numbers_over}
use Rattle.dt_overlay_base.proofs.Results.{on_ok}
use Rattle.dt_overlay_base.proofs.LooksNames.{node_named, path_short}
use Rattle.dt_overlay_base.proofs.LooksLanded.{room_first, left_begun, left_on, left_failed, left_ended}
use Rattle.dt_overlay_base.proofs.looks.+notes.Goals as goal

pub note_child-child_path-requires : goal.note_child-child_path-requires
note_child-child_path-requires g t c =
    let o = g.V.TreeView.tree c.args.object.now in
    subst IsNodeName (sym c.name.ensures) (node_named o c.args.node c.validity.ensures.valid c.requires.node c.requires.below)

pub note_child-note_node-requires-clause-room : goal.note_child-note_node-requires-clause-room
note_child-note_node-requires-clause-room g t c =
    room_first (g.T.Target.reading c.args.target.now) [] (preorder c.args.parent.now (alone (g.V.TreeView.tree c.args.object.now) c.args.node)) c.args.places.now c.requires.room

pub note_children-loop-next-init : goal.note_children-loop-next-init
note_children-loop-next-init g t c =
    let o = g.V.TreeView.tree c.args.object.now in
    let all = preorder c.args.path.now (below_in o c.args.node) in
    record {
      forest = below_in o c.args.node;
      walked = walk_begins o (path_at o c.args.node) c.first_child-next.result c.first_child-next.ensures.is;
      left = left_begun (g.T.Target.reading c.args.target.now) all all c.args.places.now refl c.requires.room;
      numbered = λ given landed known numbers fit sound. numbers_begun o numbers (paths_below o c.args.node) c.args.places.now.nodes sound;
    }

pub note_children-note_child-requires : goal.note_children-note_child-requires
note_children-note_child-requires g t c κs within =
    let base = g.T.Target.reading c.args.target.now in
    let o = g.V.TreeView.tree c.args.object.now in
    let p = path_at o c.args.node in
    let q = c.args.path.now in
    let k = c.in-Some.child in
    let w = c.loop-next.invariant in
    let v = visit o p k w.forest c.validity.ensures.valid c.validity.ensures.places (subst (λ (n : Option ℕ). IsWalked o p n w.forest) c.in-Some.is w.walked) in
    let split = ap (preorder q) v.split ∙ walked_first q o k v.rest in
    let room = room_first base (preorder q (alone o k)) (preorder q v.rest) c.loop-next.places (subst (λ (ns : List Placed). HasRoom base ns c.loop-next.places) split w.left.room) in
    let longer : length (path_at o k) ≡ length p + 1 = ap length v.path ∙ length-append p (v.name ∷ []) in
    let short = path_short o k c.validity.ensures.within v.there in
    (omega (arith, c.decreases, longer, short), (within.0, (within.1, (v.there, (v.below, (c.requires.named, (c.requires.plain, room)))))))

pub note_children-next_sibling-next-requires : goal.note_children-next_sibling-next-requires
note_children-next_sibling-next-requires g t c =
    let o = g.V.TreeView.tree c.args.object.now in
    let w = c.loop-next.invariant in
    (visit o (path_at o c.args.node) c.in-Some.child w.forest c.validity.ensures.valid c.validity.ensures.places (subst (λ (n : Option ℕ). IsWalked o (path_at o c.args.node) n w.forest) c.in-Some.is w.walked)).there

pub note_children-loop-next-smaller : goal.note_children-loop-next-smaller
note_children-loop-next-smaller g t c =
    let o = g.V.TreeView.tree c.args.object.now in
    let p = path_at o c.args.node in
    let k = c.in-Some.child in
    let w = c.loop-next.invariant in
    let valid = c.validity.ensures.valid in
    let apart = c.validity.ensures.places in
    let v = visit o p k w.forest valid apart (subst (λ (n : Option ℕ). IsWalked o p n w.forest) c.in-Some.is w.walked) in
    let before = left_counted o p c.loop-next.next w.forest valid apart w.walked in
    let behind = left_counted o p c.next_sibling-next.result v.rest valid apart (v.on c.next_sibling-next.result c.next_sibling-next.ensures.is) in
    let one = ap (λ (f : Forest). length (names f)) v.split in
    omega (arith, before, behind, one)

pub note_children-loop-next-preserved : goal.note_children-loop-next-preserved
note_children-loop-next-preserved g t c =
    let base = g.T.Target.reading c.args.target.now in
    let o = g.V.TreeView.tree c.args.object.now in
    let p = path_at o c.args.node in
    let q = c.args.path.now in
    let k = c.in-Some.child in
    let w = c.loop-next.invariant in
    let v = visit o p k w.forest c.validity.ensures.valid c.validity.ensures.places (subst (λ (n : Option ℕ). IsWalked o p n w.forest) c.in-Some.is w.walked) in
    record {
      forest = v.rest;
      walked = v.on c.next_sibling-next.result c.next_sibling-next.ensures.is;
      left = left_on base (preorder q (below_in o c.args.node)) (preorder q w.forest) (preorder q (alone o k)) (preorder q v.rest) c.args.places.now c.loop-next.places c.note_child.new.places
          (ap (preorder q) v.split ∙ walked_first q o k v.rest) w.left c.in_ok-note_child.ensures.known c.in_ok-note_child.ensures.may;
      numbered = left_noted base o c.args.node k q v.name w.forest v.rest c.args.places.now c.loop-next.places c.note_child.new.places v.path v.split w.left w.numbered c.in_ok-note_child.ensures.numbered;
    }

pub note_children-returns-in_err-note_child-clause-refused : goal.note_children-returns-in_err-note_child-clause-refused
note_children-returns-in_err-note_child-clause-refused g t c =
    let e = err_from_is_err_and c.from_residual.result c.from_residual.ensures.1 in
    let base = g.T.Target.reading c.args.target.now in
    let o = g.V.TreeView.tree c.args.object.now in
    let p = path_at o c.args.node in
    let q = c.args.path.now in
    let k = c.in-Some.child in
    let w = c.loop-next.invariant in
    let v = visit o p k w.forest c.validity.ensures.valid c.validity.ensures.places (subst (λ (n : Option ℕ). IsWalked o p n w.forest) c.in-Some.is w.walked) in
    let why = c.in_err-note_child.ensures.refused in
    rw (e.1, e.2) (
      why.0,
      elim why.1 [
        | inl memory ↦ inl memory
        | inr stuck ↦ inr (left_failed base (preorder q (below_in o c.args.node)) (preorder q w.forest) (preorder q (alone o k)) (preorder q v.rest)
            c.args.places.now c.loop-next.places c.in_err-note_child.field-0.0.kind (ap (preorder q) v.split ∙ walked_first q o k v.rest) w.left stuck)
      ],
    )

pub note_children-returns-clause-known : goal.note_children-returns-clause-known
note_children-returns-clause-known g t c given landed known =
    let o = g.V.TreeView.tree c.args.object.now in
    let p = path_at o c.args.node in
    let q = c.args.path.now in
    let w = c.loop-next.invariant in
    let none = walk_ends o p w.forest c.validity.ensures.valid (subst (λ (n : Option ℕ). IsWalked o p n w.forest) c.in_default.is w.walked) in
    left_ended (g.T.Target.reading c.args.target.now) (preorder q (below_in o c.args.node)) (preorder q w.forest) c.args.places.now c.loop-next.places given landed (ap (preorder q) none) w.left known

pub note_children-returns-clause-may : goal.note_children-returns-clause-may
note_children-returns-clause-may g t c =
    let o = g.V.TreeView.tree c.args.object.now in
    let p = path_at o c.args.node in
    let q = c.args.path.now in
    let w = c.loop-next.invariant in
    let none = walk_ends o p w.forest c.validity.ensures.valid (subst (λ (n : Option ℕ). IsWalked o p n w.forest) c.in_default.is w.walked) in
    w.left.may (subst (λ (f : Forest). MayAllLand (preorder q f)) (sym none) tt)

pub note_child-returns-clause-numbered : goal.note_child-returns-clause-numbered
note_child-returns-clause-numbered g t c given landed known =
    let base = g.T.Target.reading c.args.target.now in
    let o = g.V.TreeView.tree c.args.object.now in
    let k = c.args.node in
    let q = c.args.parent.now ++ last_name (path_at o k) ∷ [] in
    let at : c.in_ok-path.path ≡ q = c.in_ok-path.ensures.value ∙ ap (λ (x : Name). c.args.parent.now ++ x ∷ []) c.name.ensures in
    let own = placed o k q ∷ [] in
    let below = preorder q (below_in o k) in
    let first = c.in_ok-note_node.ensures in
    on_ok c.note_children.result
    (λ later. subst (λ (ns : List Placed). NotesNumbers base o ns k q (paths_in o k) given c.args.places.now c.note_children.new.places) (ap (λ (ns : List Placed). placed o k q ∷ ns) (sym (append-nil below)))
    (notes_behind base o own below k q (path_at o k ∷ []) (paths_below o k) given c.args.places.now c.note_node.new.places c.note_children.new.places
    (subst (λ (p : Path). NotesNumbers base o (placed o k p ∷ []) k p (path_at o k ∷ []) given c.args.places.now c.note_node.new.places) at (first.numbered given landed known)) later))
    (subst (λ (p : Path). OnOk c.note_children.result (NotesNumbers base o (preorder p (below_in o k)) k p (paths_below o k) (with_places base (placed o k p ∷ []) given) c.note_node.new.places c.note_children.new.places)) at
    (c.note_children.ensures.numbered (with_places base (placed o k c.in_ok-path.path ∷ []) given) (landed ++ c.in_ok-path.path ∷ []) (first.known given landed known)))

pub note_children-returns-clause-numbered : goal.note_children-returns-clause-numbered
note_children-returns-clause-numbered g t c given landed known numbers fit sound =
    let o = g.V.TreeView.tree c.args.object.now in
    let p = path_at o c.args.node in
    let w = c.loop-next.invariant in
    let none = walk_ends o p w.forest c.validity.ensures.valid (subst (λ (n : Option ℕ). IsWalked o p n w.forest) c.in_default.is w.walked) in
    numbers_over o numbers (paths_below o c.args.node) (paths_of (preorder p w.forest)) c.args.places.now.nodes c.loop-next.places.nodes (ap (λ (f : Forest). paths_of (preorder p f)) none)
    (w.numbered given landed known numbers fit sound)
