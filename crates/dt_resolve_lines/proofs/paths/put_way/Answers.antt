use Rattle.std.proofs.Common.{◌++◌, ◌∙◌, [], ◌∷◌, List, ℕ, drop, codes, sym, ap, subst}
use Rattle.dt_text_writer.proofs.Writing.{puts_then, exits_at, turned}
use Rattle.dt_view.specs.Ways.{way_text, AreNodes}
use Rattle.dt_view.proofs.PathTexts.{next_on_way}
use Rattle.dt_resolve_lines.proofs.paths.put_way.Goals as goal

pub returns-in_err-put_pieces-clause-refused : goal.returns-in_err-put_pieces-clause-refused
returns-in_err-put_pieces-clause-refused g c =
    let t = g.V.TreeView.tree c.args.view.now in
    let (nodes, front, split, passed) = c.loop-node.invariant in
    exits_at _ _ _ _ _ c.from_residual.ensures.1
    (split ∙ ap (λ (l : List ℕ). front ++ l) (next_on_way t c.loop-node.way (drop 1 c.loop-node.way) c.in-Some.node c.name.result.now c.in-Some.ensures c.name.ensures)) passed c.in_err-put_pieces.ensures.refused

pub loop-node-preserved : goal.loop-node-preserved
loop-node-preserved g c =
    let t = g.V.TreeView.tree c.args.view.now in
    let (nodes, front, split, passed) = c.loop-node.invariant in
    let piece = codes "/" ++ (c.name.result.now ++ []) in (
      subst (AreNodes t) (sym c.pop.ensures) (subst (AreNodes t) c.in-Some.ensures nodes).1,
      front ++ piece,
      turned front piece (way_text t c.pop.new.self)
          (split ∙ ap (λ (l : List ℕ). front ++ l) (next_on_way t c.loop-node.way c.pop.new.self c.in-Some.node c.name.result.now (c.in-Some.ensures ∙ ap (λ ks. c.in-Some.node ∷ ks) (sym c.pop.ensures)) c.name.ensures)),
      puts_then passed c.in_ok-put_pieces.ensures.written,
    )
