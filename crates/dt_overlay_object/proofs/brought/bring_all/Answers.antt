use Rattle.std.proofs.Common.{get_or, refl, ap, ◌∙◌, arith}
use Rattle.dt_model.specs.Object.{fragment_names}
use Rattle.dt_overlay_model.proofs.Brought.{fragments_distinct}
use Rattle.dt_trees.specs.Placed.{reading_of}
use Rattle.dt_overlay_base.specs.NodeNumbers.{at_node}
use Rattle.dt_overlay_object.proofs.Contents.{so_far_begun, so_far_more, all_contents}
use Rattle.dt_overlay_object.specs.declared.kept.ObjectTarget.TheVariants.{Number}
use Rattle.std.proofs.lemmas.Option.{slice_get-get_or}
use Rattle.dt_overlay_object.proofs.brought.bring_all.Goals as goal

pub loop-i-init : goal.loop-i-init
loop-i-init g c = record { contents = so_far_begun c.args.fragments.now c.args.brought.now.contents.entries c.requires.unbrought.contents; numbers = refl }

pub loop-i-preserved : goal.loop-i-preserved
loop-i-preserved g c =
    let t = g.V.TreeView.tree c.args.object.now in
    let xs = c.args.fragments.now in
    let names = fragment_names (reading_of t).children in
    let x = get_or xs c.loop-i.i (record { node = 0; content = 0; target = Number }) in
    let distinct = fragments_distinct (reading_of t).children c.validity.ensures.valid.siblings in
    record {
      contents = so_far_more t c.validity.ensures.places xs names c.requires.fragments distinct c.loop-i.i x c.loop-i.brought.contents.entries c.put_content.new.self.contents.entries
          (slice_get-get_or xs c.loop-i.i (record { node = 0; content = 0; target = Number }) (omega arith)) c.in_ok-put_content.ensures.contents c.loop-i.invariant.contents;
      numbers = c.put_content.ensures.numbers ∙ c.loop-i.invariant.numbers;
    }

pub returns : goal.returns
returns g c =
    let t = g.V.TreeView.tree c.args.object.now in
    let xs = c.args.fragments.now in
    let names = fragment_names (reading_of t).children in
    let distinct = fragments_distinct (reading_of t).children c.validity.ensures.valid.siblings in
    record {
      brought = record {
        contents = all_contents t c.validity.ensures.places xs names c.requires.fragments distinct c.loop-i.brought.contents.entries c.loop-i.i (omega arith) c.loop-i.invariant.contents;
        numbered = λ p k at. ap (λ es. at_node es k) (ap (λ m. m.entries) c.loop-i.invariant.numbers ∙ c.requires.unbrought.numbers);
      };
    }
