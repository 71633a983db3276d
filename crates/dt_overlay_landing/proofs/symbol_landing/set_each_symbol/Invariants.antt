-- What is left of the labels does what all of them do.
use Rattle.std.proofs.Common.{◌≡◌, List, drop}
use Rattle.dt_model.specs.Merged.{Site}
use Rattle.dt_model.specs.Applied.{landed_symbols}
use Rattle.dt_overlay_laws.specs.Objects.{symbols_in}
use Rattle.dt_overlay_laws.specs.Steps.{FullAtSymbols}
use Rattle.dt_overlay_landing.specs.SymbolLanding.{HasLabels, with_labels_of}
use Rattle.dt_overlay_base.specs.Targets.{HasNoRoom}
use Rattle.dt_overlay_landing.proofs.SymbolLandingLeft.{LabelsLeft}
use Rattle.dt_trees.specs.Placed.{reading_of}
use Rattle.dt_overlay_landing.proofs.symbol_landing.set_each_symbol.Given as goal

abbrev pub invariant-loop-symbol : goal.invariant-loop-symbol
invariant-loop-symbol g l =
    let o = g.V.TreeView.tree l.object.tree.now in
    let full = HasNoRoom g.T.Target.reading g.T.Target.has_room g.T.Target.follows l.fn.target in
    let start = g.T.Target.reading l.fn.target in
    record {
      kept : l.landing.sites ≡ l.fn.landing.sites;
      left : (found : List Site) → HasLabels g.V.TreeView.tree found l.object l.fn.landing →
          LabelsLeft full o l.object.brought l.fn.landing.sites.items (drop l.symbol-index l.symbols) (g.T.Target.reading l.target)
          (with_labels_of (reading_of o) found start) (FullAtSymbols full (landed_symbols (reading_of o) found (symbols_in (reading_of o))) start);
      follows : g.T.Target.follows l.fn.target l.target;
    }
