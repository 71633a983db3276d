use Rattle.std.proofs.Common.{List, ℕ, refl, subst}
use Rattle.std.specs.List.{concat}
use Rattle.dt_names.specs.Sink.{IsRefused}
use Rattle.dt_trees.specs.Placed.{reading_of}
use Rattle.dt_resolve_lines.specs.Listed.{AreAllBegun, WhyNotListed, no_blob, cut}
use Rattle.std.proofs.lemmas.Result.{IfErr-weaker}
use Rattle.dt_resolve_model.proofs.Told.{if_fault}
use Rattle.dt_resolve_lines.proofs.listing.put_listing.Goals as goal

pub returns-in_err-blob-clause-refused : goal.returns-in_err-blob-clause-refused
returns-in_err-blob-clause-refused g c =
    let (f, kind, first) = c.in_err-blob.ensures.fault in
    if_fault _ _ _ c.from_residual.ensures.1 (no_blob f kind first refl)

pub returns-clause-refused : goal.returns-clause-refused
returns-clause-refused g c =
    let old = g.S.Sink.taken c.args.out.now in
    let new = g.S.Sink.taken c.put_lines-listed.new.out in
    let listing = c.args.listing in
    IfErr-weaker c.put_lines-listed.result (λ e. (lines : List (List ℕ)) × AreAllBegun listing (reading_of c.in_ok-index.index) lines × IsRefused e (concat lines) old new)
    (WhyNotListed listing c.args.bytes.now old new)
    (λ e (lines, begun, refused). cut lines (record {
      tree = reading_of c.in_ok-blob.blob;
      reads = c.in_ok-blob.ensures.reads;
      within = c.in_ok-blob.ensures.within;
      are = subst (λ t. AreAllBegun listing (reading_of t) lines) c.in_ok-index.ensures.is begun;
    }) refused)
    c.put_lines-listed.ensures.refused
