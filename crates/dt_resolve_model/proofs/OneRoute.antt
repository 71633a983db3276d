-- An index names one route.
use Rattle.std.proofs.Common.{◌≡◌, ℕ, sym, ap, ◌∙◌, Option, Some, None}
use Rattle.dt_model.specs.Path.{Path}
use Rattle.dt_resolve_model.specs.Answers.{Answer, undetermined, refused, answer, ◌>>=◌}
use Rattle.dt_resolve_model.specs.World.{Value, World}
use Rattle.dt_resolve_model.specs.Interrupts.{Sent, Route, IsSentBy, listed_at, route_of_sent, IsRoute}
use Rattle.dt_resolve_model.proofs.InterruptsAgree.{one_parent}
use Rattle.std.specs.Prelude.{codes}

one_sent : (w : World) (p : Path) (index : ℕ) (extended plain : Answer (Option Value)) (s s' : Answer Sent) → IsSentBy w p index extended plain s → IsSentBy w p index extended plain s' → s ≡ s'
one_sent w p index undetermined plain s s' h k = h ∙ sym k
one_sent w p index (refused fault) plain s s' h k = h ∙ sym k
one_sent w p index (answer (Some v)) plain s s' h k = h ∙ sym k
one_sent w p index (answer None) undetermined s s' h k = h ∙ sym k
one_sent w p index (answer None) (refused fault) s s' h k = h ∙ sym k
one_sent w p index (answer None) (answer None) s s' h k = h ∙ sym k
one_sent w p index (answer None) (answer (Some v)) s s' h k = h.2 ∙ ap (λ (q : Answer Path). q >>= listed_at w index v) (one_parent w p h.0 k.0 h.1 k.1) ∙ sym k.2

pub one_route : (w : World) (p : Path) (index : ℕ) (a b : Answer Route) → IsRoute w p index a → IsRoute w p index b → a ≡ b
one_route w p index a b (s, h, e) (s', k, f) =
    e ∙ ap (λ (z : Answer Sent). z >>= route_of_sent w p) (one_sent w p index (w.value p (codes "interrupts-extended")) (w.value p (codes "interrupts")) s s' h k) ∙ sym f
