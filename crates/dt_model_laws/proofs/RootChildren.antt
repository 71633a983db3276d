-- Which children of the root there are after each place of an overlay: written ones, and fragments.
use Rattle.std.proofs.Common.{◌≡◌, ℕ, zero, suc, ◌+◌, ◌<◌, ◌≤◌, List, [], ◌∷◌, ◌++◌, drop, length, ◌⊎◌, inl, inr, Option, Some, None, refl, sym, ap, subst, ◌∙◌, arith}
use Rattle.std.specs.List.{AllByRecursion}
use Rattle.dt_model.specs.Names.{Name}
use Rattle.dt_model.specs.Lists.{IsIn}
use Rattle.dt_model.specs.Event.{Stack, Event, opening, giving, definition, undefinition, deletion}
use Rattle.dt_model.specs.Source.{Part, Place, child, close, Body, SoFar, enter}
use Rattle.dt_model.specs.OverlaySource.{root_children, fragment_name, OverlaySoFar}
use Rattle.dt_model.proofs.Tests.{each_append}
use Rattle.dt_model_laws.proofs.Making.{with_child}
use Rattle.dt_model_laws.proofs.Holding.{Holds}
use Rattle.dt_model_laws.proofs.OverlayHolding.{overlay_rules}

-- a child of the root is a written one, or a fragment with a number below the next
abbrev pub IsCounted : List Name → ℕ → Stack → Type 0
IsCounted written next [] = Unit {0}
IsCounted written next (x ∷ []) = IsIn x written ⊎ ((k : ℕ) × (k < next) × (x ≡ fragment_name k))
IsCounted written next (x ∷ y ∷ p) = Unit {0}

abbrev pub Counted : List Name → ℕ → Event (List Part) → Type 0
Counted written next (opening q) = IsCounted written next q
Counted written next (giving l q) = Unit {0}
Counted written next (definition q n v) = Unit {0}
Counted written next (undefinition q n) = Unit {0}
Counted written next (deletion q) = Unit {0}

-- how deep a place stands in a block of the root; outside of one no open body is the root's
abbrev pub FitsDepth : Option ℕ → SoFar → Type 0
FitsDepth None s = length s.bodies ≤ length s.node
FitsDepth (Some d) s = (length s.bodies ≡ d + 1) × (length s.node ≡ d)

pub record Tracks (written : List Name) (depth : Option ℕ) (places : List Place) (s : OverlaySoFar) : Type 0 where
  pub holds : Holds overlay_rules s.source
  pub counted : AllByRecursion (Counted written s.next) s.source.events
  pub fits : FitsDepth depth s.source
  pub left : (x : Name) → IsIn x (root_children depth places) → IsIn x written

counted_later : (written : List Name) (a b : ℕ) → a ≤ b → (p : Stack) → IsCounted written a p → IsCounted written b p
counted_later written a b h [] c = tt
counted_later written a b h (x ∷ []) (inl i) = inl i
counted_later written a b h (x ∷ []) (inr k) = let low : k.0 < a = k.1 in inr (k.0, omega arith, k.2)
counted_later written a b h (x ∷ y ∷ p) c = tt

pub event_later : (written : List Name) (a b : ℕ) → a ≤ b → (e : Event (List Part)) → Counted written a e → Counted written b e
event_later written a b h (opening q) c = counted_later written a b h q c
event_later written a b h (giving l q) c = tt
event_later written a b h (definition q n v) c = tt
event_later written a b h (undefinition q n) c = tt
event_later written a b h (deletion q) c = tt

-- ---- one more place

longer : (bodies : List Body) (b : Body) (bs : List Body) → bodies ≡ b ∷ bs → length bodies ≡ length bs + 1
longer bodies b bs e = let l : length bodies ≡ length (b ∷ bs) = ap length e in omega arith

pub fits_same : (depth : Option ℕ) (a b : SoFar) → length b.bodies ≡ length a.bodies → b.node ≡ a.node → FitsDepth depth a → FitsDepth depth b
fits_same None a b e k h = let l : length b.node ≡ length a.node = ap length k in omega arith
fits_same (Some d) a b e k h = (e ∙ h.0, ap length k ∙ h.1)

pub not_top : (d : ℕ) (bodies : List Body) → bodies ≡ [] → length bodies ≡ d + 1 → ⊥
not_top d bodies e h = let l : length bodies ≡ length {A = Body} [] = ap length e in omega arith

module _ (written : List Name) (s t : OverlaySoFar) (places : List Place) where
  -- the events with one more
  pub counted_more : (e : Event (List Part)) → t.source.events ≡ s.source.events ++ e ∷ [] → t.next ≡ s.next → AllByRecursion (Counted written s.next) s.source.events → Counted written s.next e
      → AllByRecursion (Counted written t.next) t.source.events
  counted_more e events next all here =
      subst (λ n. AllByRecursion (Counted written n) t.source.events) (sym next)
      (subst (AllByRecursion (Counted written s.next)) (sym events) (each_append (Counted written s.next) s.source.events (e ∷ []) all (here, tt)))

  -- a child is opened
  abbrev pub ChildFits : Option ℕ → Name → Body → List Body → Type 0
  ChildFits depth n b bs =
      (d : Option ℕ) × FitsDepth d (enter s.source (n ∷ s.source.node) (with_child n b ∷ bs)) × ((x : Name) → IsIn x (root_children d places) → IsIn x (root_children depth (child n ∷ places)))
      × (((x : Name) → IsIn x (root_children depth (child n ∷ places)) → IsIn x written) → IsCounted written s.next (n ∷ s.source.node))

  deep_counted : (n : Name) (p : Stack) → 0 < length p → IsCounted written s.next (n ∷ p)
  deep_counted n [] h = absurd (omega arith)
  deep_counted n (x ∷ p) h = tt

  top_counted : (n : Name) (p : Stack) → length p ≡ 0 → IsIn n written → IsCounted written s.next (n ∷ p)
  top_counted n [] h i = inl i
  top_counted n (x ∷ p) h i = absurd (omega arith)

  pub child_fits : (depth : Option ℕ) (n : Name) (b : Body) (bs : List Body) → s.source.bodies ≡ b ∷ bs → FitsDepth depth s.source → ChildFits depth n b bs
  child_fits None n b bs e h =
      let l : length s.source.bodies ≡ length bs + 1 = longer s.source.bodies b bs e in
      (None, omega arith, λ x i. i, λ to. deep_counted n s.source.node (omega arith))
  child_fits (Some zero) n b bs e h =
      let l : length s.source.bodies ≡ length bs + 1 = longer s.source.bodies b bs e in
      let one : length s.source.bodies ≡ 0 + 1 = h.0 in
      let top : length s.source.node ≡ 0 = h.1 in
      (Some 1, (omega arith, omega arith), λ x i. inr i, λ to. top_counted n s.source.node top (to n (inl refl)))
  child_fits (Some (suc d)) n b bs e h =
      let l : length s.source.bodies ≡ length bs + 1 = longer s.source.bodies b bs e in
      let open_ : length s.source.bodies ≡ suc d + 1 = h.0 in
      let deep : length s.source.node ≡ suc d = h.1 in
      (Some (suc (suc d)), (omega arith, omega arith), λ x i. i, λ to. deep_counted n s.source.node (omega arith))

  -- a body is closed
  abbrev pub CloseFits : Option ℕ → List Body → Type 0
  CloseFits depth bs =
      (d : Option ℕ) × FitsDepth d (record { events = s.source.events; node = drop 1 s.source.node; bodies = bs }) × ((x : Name) → IsIn x (root_children d places) → IsIn x (root_children depth (close ∷ places)))

  shorter : (p : Stack) → length p ≤ length (drop 1 p) + 1
  shorter [] = omega arith
  shorter (x ∷ p) = omega arith

  one_shorter : (d : ℕ) (p : Stack) → length p ≡ suc d → length (drop 1 p) ≡ d
  one_shorter d [] h = absurd (omega arith)
  one_shorter d (x ∷ p) h = omega arith

  pub close_fits : (depth : Option ℕ) (b : Body) (bs : List Body) → s.source.bodies ≡ b ∷ bs → FitsDepth depth s.source → CloseFits depth bs
  close_fits None b bs e h =
      let l : length s.source.bodies ≡ length bs + 1 = longer s.source.bodies b bs e in
      let k = shorter s.source.node in
      (None, omega arith, λ x i. i)
  close_fits (Some zero) b bs e h =
      let l : length s.source.bodies ≡ length bs + 1 = longer s.source.bodies b bs e in
      let one : length s.source.bodies ≡ 0 + 1 = h.0 in
      (None, omega arith, λ x i. i)
  close_fits (Some (suc d)) b bs e h =
      let l : length s.source.bodies ≡ length bs + 1 = longer s.source.bodies b bs e in
      let open_ : length s.source.bodies ≡ suc d + 1 = h.0 in
      (Some d, (omega arith, one_shorter d s.source.node h.1), λ x i. i)
