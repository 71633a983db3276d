use Rattle.std.proofs.Common.{ℕ, List, [], sym, subst}
use Rattle.dt_model.specs.Path.{Path}
use Rattle.dt_model.specs.Tree.{Reading}
use Rattle.dt_overlay_base.specs.NodeNumbers.{IsNumbered}
use Rattle.dt_overlay_model.specs.Walk.{new_numbers}
use Rattle.dt_overlay_landing.specs.Turns.{HasAllSites}
use Rattle.dt_overlay_landing.proofs.SeenWays.{seen_numbered}
use Rattle.dt_overlay_object.specs.Stages.{IsReadFor, IsSitedFor, seen_with}
use Rattle.dt_overlay_object.specs.declared.brought.Brought.{Brought}
use Rattle.dt_trees.specs.Placed.{reading_of}
use Rattle.dt_overlay_landing.proofs.numbers.number_all.Goals as goal

pub returns-clause-numbered : goal.returns-clause-numbered
returns-clause-numbered g c base object given =
    let o = c.args.object.now in
    let t = g.V.TreeView.tree o.tree.now in
    let at = c.args.landing.now in
    let new : Brought = record o.brought { numbers = c.take_nodes.result } in
    subst (λ (r : Reading). (read : IsReadFor g.V.TreeView.tree base r o) → HasAllSites base read.fixups t at → IsSitedFor g.V.TreeView.tree base r read.fixups (record o { brought = new }) at.sites.items)
    given.seen.reads
    (λ read sited.
    let ns : List (Path × ℕ) = new_numbers base (reading_of t) sited.end in
    record {
      end = sited.end;
      sited = sited.sited;
      at = sited.sites;
      seen = seen_numbered t o (seen_with base (reading_of t) read.fixups []) new ns read.seen (record {
        contents = read.seen.brought.contents;
        numbered = λ p. subst (λ (entries : List (ℕ × ℕ)). IsNumbered t ns entries p) (sym c.take_nodes.ensures.handed) (sited.numbered p);
      });
    })
    given
