-- Nodes that stand after a change of the tree stood before it, but for a new one.
use Rattle.std.proofs.Common.{◌≡◌, ℕ, ◌<◌, [], ◌∷◌, Some, None, ◌&&◌, nat_eq, sym, ◌∙◌, ap, arith}
use Rattle.std.specs.Option.{option_and_then}
use Rattle.std.specs.Str.{bytes_eq}
use Rattle.std.proofs.lemmas.Option.{option_and_then_some}
use Rattle.dt_model.specs.Names.{Name}
use Rattle.dt_model.specs.Event.{Stack}
use Rattle.dt_source_growing.specs.Shape.{Shape, node_at, IsForest, MakesRoot, AddsChild, OpensChild, Cuts}
use Rattle.dt_source_growing.proofs.Listings.{put_cases}
use Rattle.dt_source_growing.proofs.Walks.{root_is, root_there}

module _ {V : Type 0} where
  stood : (s t : Shape V) → IsForest s → ((j : ℕ) (x : Name) (i : ℕ) → i < s.size → t.child j x ≡ Some i → s.child j x ≡ Some i)
      → (p : Stack) (i : ℕ) → i < s.size → node_at t p ≡ Some i → node_at s p ≡ Some i
  stood s t f old [] i below at =
      let r : (i ≡ 0) × (0 < t.size) = root_is t.size i at in
      root_there s.size (omega (arith, r.0)) ∙ ap Some (sym r.0)
  stood s t f old (x ∷ p) i below at =
      option_and_then_some (λ j. t.child j x) (node_at t p) i at
      (λ j e1 e2.
      let c : s.child j x ≡ Some i = old j x i below e2 in
      ap (option_and_then (λ j. s.child j x)) (stood s t f old p j (omega (arith, (f.edge j x i c).0)) e1) ∙ c)

  pub stood-root : (s t : Shape V) → IsForest s → MakesRoot s t → (p : Stack) (i : ℕ) → i < s.size → node_at t p ≡ Some i → node_at s p ≡ Some i
  stood-root s t f o = stood s t f (λ j x i below e. sym (o.child j x) ∙ e)

  pub stood-added : (s t : Shape V) → IsForest s → (a : ℕ) (y : Name) (item : ℕ) → AddsChild s t a y item → (p : Stack) (i : ℕ) → i < s.size → node_at t p ≡ Some i → node_at s p ≡ Some i
  stood-added s t f a y item o =
      stood s t f (λ j x i below e. put_cases (nat_eq a j && bytes_eq y x) (Some s.size) (s.child j x) (t.child j x) i _ (o.child j x) e
      (λ test new. let z : s.size ≡ i = cc in absurd (omega arith)) (λ test was. was))

  pub stood-again : (s t : Shape V) → IsForest s → (a : ℕ) (y : Name) (item : ℕ) → OpensChild s t a y item → (p : Stack) (i : ℕ) → i < s.size → node_at t p ≡ Some i → node_at s p ≡ Some i
  stood-again s t f a y item o = stood s t f (λ j x i below e. sym (o.child j x) ∙ e)

  pub stood-cut : (s t : Shape V) → IsForest s → (a : ℕ) (y : Name) → Cuts s t a y → (p : Stack) (i : ℕ) → i < s.size → node_at t p ≡ Some i → node_at s p ≡ Some i
  stood-cut s t f a y o =
      stood s t f (λ j x i below e. put_cases (nat_eq a j && bytes_eq y x) None (s.child j x) (t.child j x) i _ (o.child j x) e (λ test new. cc) (λ test was. was))
