-- A base's source that means a named tree with few nodes isn't refused.
use Rattle.std.proofs.Common.{◌≡◌, ℕ, ◌+◌, ◌≤◌, List, subst}
use Rattle.dt_model.specs.Limits.{most_nodes}
use Rattle.dt_model.specs.Source.{Place, Mode, SoFar}
use Rattle.dt_model.specs.Named.{NodeReference, Named, node_count}
use Rattle.dt_model.specs.NamedOf.{IsNamedOf, bound_values}
use Rattle.dt_model.specs.Refused.{StandMany, too_many, IsRefusedFor}
use Rattle.dt_model_laws.specs.NamedTrees.{NamedIsNotRefused}
use Rattle.dt_model_laws.proofs.NamedByEvents.{not_many}
use Rattle.dt_model_laws.proofs.SourceRefusals.{one_end, meant_not_refused}

few : (mode : Mode) (reservations : List (ℕ × ℕ)) (places : List Place) (t : Named NodeReference) → IsNamedOf mode reservations places t → 1 + node_count t.children ≤ most_nodes
    → IsRefusedFor mode places too_many → ⊥
few mode reservations places t n small h =
    let end : h.0 ≡ n.means.so_far = one_end h.0 n.means.so_far h.1 n.means.all_read in
    not_many n.means.so_far.events (bound_values n.means.so_far.events) t n.tree most_nodes small (subst (λ (s : SoFar). StandMany most_nodes s.events) end h.3)

pub named_is_not_refused : NamedIsNotRefused
named_is_not_refused mode reservations places t r n small h =
    let r' = meant_not_refused mode reservations places n.meaning r n.means h in
    few mode reservations places t n small (subst (IsRefusedFor mode places) r' h)
