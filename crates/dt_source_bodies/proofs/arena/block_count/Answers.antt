use Rattle.std.proofs.Common.{◌≡◌, ◌+◌, ◌∷◌, List, drop, length, Bor, refl, ap, arith}
use Rattle.dt_model.specs.Source.{Place}
use Rattle.dt_source_items.specs.declared.source.Reference.{Reference}
use Rattle.dt_source_items.specs.declared.source.Item.{Item}
use Rattle.dt_source_items.specs.declared.source.Item.TheVariants as item
use Rattle.dt_source_items.specs.Said.{place_said}
use Rattle.dt_source_items.proofs.PlaceLists.{places_from}
use Rattle.dt_source_bodies.specs.Arena.{block_references}
use Rattle.dt_source_bodies.proofs.arena.block_count.Goals.{in-Block, in_default}
use Rattle.dt_source_bodies.proofs.arena.block_count.Goals as goal

uncounted : (x : Item) (rest : List Place) → ((r : Bor Reference) → x ≡ item.Block r → ⊥) → length (block_references (place_said x ∷ rest)) ≡ length (block_references rest)
uncounted (item.Block r) rest n = absurd (n r refl)
uncounted item.Root rest n = refl
uncounted (item.DeleteNode r) rest n = refl
uncounted (item.Child x) rest n = refl
uncounted (item.Label l) rest n = refl
uncounted (item.Property x v) rest n = refl
uncounted (item.DeleteProperty x) rest n = refl
uncounted (item.DeleteChild x) rest n = refl
uncounted item.Close rest n = refl

pub loop-index-preserved : goal.loop-index-preserved
loop-index-preserved c =
    let places = c.args.items.now.places in
    let x = c.get.result in
    let i = c.loop-index.index in
    let left = ap (λ (ps : List Place). length (block_references ps)) (places_from places i (place_said x) c.get.ensures) in
    let rest = drop (i + 1) places in
    elim c.match-get.branch [
      | in-Block w ↦
          let is = ap (λ (y : Item). length (block_references (place_said y ∷ rest))) w.in-Block.is in record {
            all = omega (arith, c.loop-index.invariant.all, left, is, w.count-is);
            few = omega (arith, c.loop-index.invariant.few, w.count-is);
          }
      | in_default w ↦
          let is = uncounted x rest w.in_default.not-Block in record {
            all = omega (arith, c.loop-index.invariant.all, left, is, w.count-is);
            few = omega (arith, c.loop-index.invariant.few, w.count-is);
          }
    ]
