use Rattle.std.proofs.Common.{ℕ, None, ap, ◌∙◌}
use Rattle.dt_model.specs.OverlaySource.{root_children}
use Rattle.dt_source_fragments.specs.FragmentNames.{made_names}
use Rattle.dt_source_bodies.proofs.arena.Arena.new.Goals as goal

pub returns : goal.returns
returns c = c.in_ok-names.ensures ∙ ap (λ (k : ℕ). made_names (root_children None c.args.items.now.places) k 0) c.block_count.ensures
