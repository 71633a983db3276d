use Rattle.std.proofs.Common.{inl, inr, ◌+◌}
use Rattle.std.proofs.lemmas.Bool.{cases_lt}
use Rattle.dt_model.specs.Limits.{most_nodes}
use Rattle.dt_model.specs.Tree.{Reading}
use Rattle.dt_model.specs.Valid.{node_count}
use Rattle.dt_overlay_laws.specs.Refusals.{has_many}
use Rattle.dt_overlay_laws.proofs.Crowded.{fewer}
use Rattle.dt_flat.specs.Arena.{Arena, reading}
use Rattle.dt_overlay_base.specs.FlatTargets.{Follows, HasRoom}
use Rattle.dt_overlay_base.specs.Targets.{HasNoRoom}
use Rattle.dt_overlay_base.proofs.flat_target.tree_room_is_counted.Goals as goal

many : (first : Arena) (t next : Reading) → HasNoRoom reading HasRoom Follows first t next → has_many t next
many first t next full = elim (cases_lt most_nodes (1 + node_count next.children)) [ inl more ↦ more | inr few ↦ absurd (full.3 few) ]

pub returns : goal.returns
returns c kind first base object why = fewer (HasNoRoom reading HasRoom Follows first) has_many (many first) kind base object why
