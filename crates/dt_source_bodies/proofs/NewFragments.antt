-- A block of some other tree's node opens a fragment.
use Rattle.std.proofs.Common.{◌≡◌, ℕ, ◌+◌, ◌<◌, ◌≤◌, true, false, ◌&&◌, cond, nat_eq, is_some, List, [], ◌∷◌, ◌++◌, Option, Some, None, ◌⊎◌, inl, inr, Ok, length, codes, refl, sym, ◌∙◌, ap, subst, arith, append_assoc}
use Rattle.std.specs.Option.{option_and_then}
use Rattle.std.specs.Str.{bytes_eq}
use Rattle.dt_model.specs.Names.{Name}
use Rattle.dt_model.specs.Path.{path_eq}
use Rattle.dt_model.specs.Event.{Stack, Event, opening, definition}
use Rattle.dt_model.specs.OverlaySource.{overlay_start, open_fragment}
use Rattle.dt_model.specs.Source.{Part, Events, SoFar, nothing, enter, outside}
use Rattle.dt_model.proofs.EventSteps.{path_eq-refl}
use Rattle.dt_source_growing.specs.Shape.{node_at, IsForest, Shows, MakesRoot, AddsChild, OpensChild, Defines}
use Rattle.dt_source_bodies.specs.Reading.{StandsFor}
use Rattle.dt_source_bodies.specs.declared.reading.OpenBody.{OpenBody}
use Rattle.dt_model.proofs.Cases.{bool_cases}
use Rattle.dt_source_growing.proofs.Walks.{node_at-same, node_at-added, root_there}
use Rattle.dt_source_bodies.proofs.Steps.{shows-root, shows-child, shows-again, shows-define}
use Rattle.dt_source_bodies.proofs.Bodies.{View, AreShallow, none_open, unmarked, marked_before, outside-goes, shallow-opening, shallow-definition, enters_with}
use Rattle.dt_source_bodies.proofs.Items.{Goes}

-- a child is made, or opened again: node j
abbrev pub OpensAs : View → View → ℕ → Name → (item j : ℕ) → Type 0
OpensAs s t a x item j = ((s.child a x ≡ None) × AddsChild s t a x item × (j ≡ s.size)) ⊎ ((s.child a x ≡ Some j) × OpensChild s t a x item)

-- what shows then
record ChildOpened (s t : View) (es : Events) (q : Stack) (a : ℕ) (x : Name) (item j : ℕ) : Type 0 where
  shows : Shows t (es ++ opening (x ∷ q) ∷ [])
  at : node_at t (x ∷ q) ≡ Some j
  above : a < j
  inside : j < t.size
  opened : (i : ℕ) (y : Name) → t.opened i y ≡ cond (nat_eq a i && bytes_eq x y) (Some item) (s.opened i y)
  defined : t.defined ≡ s.defined

child_opened : (s t : View) (es : Events) → IsForest s → Shows s es → (q : Stack) (a : ℕ) (x : Name) (item j : ℕ) → node_at s q ≡ Some a → a < s.size → OpensAs s t a x item j → ChildOpened s t es q a x item j
child_opened s t es f h q a x item j there below (inl made) =
    let none = made.0 in
    let o = made.1 in
    let new : j ≡ s.size = made.2 in
    let now : (p : Stack) → node_at t p ≡ cond (path_eq (x ∷ q) p) (Some s.size) (node_at s p) = node_at-added s t f q a x there none item o in
    record {
      shows = shows-child s t es f h q a x item there none o;
      at = now (x ∷ q) ∙ (ap (λ b. cond b (Some s.size) (node_at s (x ∷ q))) (path_eq-refl (x ∷ q)) ∙ ap (λ (k : ℕ). Some k) (sym new));
      above = omega arith;
      inside = let z : t.size ≡ s.size + 1 = o.size in omega arith;
      opened = o.opened;
      defined = o.properties.defined;
    }
child_opened s t es f h q a x item j there below (inr again) =
    let o = again.1 in
    let same : (p : Stack) → node_at t p ≡ node_at s p = node_at-same s t o.size o.child in
    let at : node_at s (x ∷ q) ≡ Some j = ap (option_and_then (λ k. s.child k x)) there ∙ again.0 in
    let edge = f.edge a x j again.0 in
    record {
      shows = shows-again s t es f h (x ∷ q) j at same o.properties.property o.properties.value o.labels.given;
      at = same (x ∷ q) ∙ at;
      above = edge.0;
      inside = rw o.size edge.1;
      opened = o.opened;
      defined = o.properties.defined;
    }

-- marks stay before what comes next
put_before : (marks marks' : ℕ → Name → Option ℕ) (a item : ℕ) (m : Name) → ((i : ℕ) (x : Name) → marks' i x ≡ cond (nat_eq a i && bytes_eq m x) (Some item) (marks i x))
    → ((i : ℕ) (x : Name) (k : ℕ) → marks i x ≡ Some k → k < item + 1) → (i : ℕ) (x : Name) (k : ℕ) → marks' i x ≡ Some k → k < item + 1
put_before marks marks' a item m puts was i x k e =
    bool_cases (nat_eq a i && bytes_eq m x) _
    (λ y. let s : Some item ≡ Some k = sym (puts i x ∙ ap (λ b. cond b (Some item) (marks i x)) y) ∙ e in let z : item ≡ k = cc in omega arith)
    (λ n. was i x k (sym (puts i x ∙ ap (λ b. cond b (Some item) (marks i x)) n) ∙ e))

pub fragment-goes : (r s t v : View) (bodies : List OpenBody) (n : ℕ) (u : SoFar) → IsForest r → IsForest s → IsForest t → StandsFor r bodies n u → length bodies ≡ 0 → 0 < r.size
    → (f m : Name) (value : List Part) (a b : ℕ) → OpensAs r s 0 f n a → Defines s t a m value n → OpensAs t v a (codes "__overlay__") n b
    → Goes (outside u.bodies (Ok (open_fragment f m value u))) v (bodies ++ (record { node = b; depth = 2; item = n }) ∷ []) (n + 1)
fragment-goes r s t v bodies n u fr fs ft h none some f m value a b first_is sets second_is = (open_fragment f m value u, goes, subst (λ (w : SoFar). StandsFor v (bodies ++ e ∷ []) (n + 1) w) regrouped stands)
  where
    e : OpenBody
    e = record { node = b; depth = 2; item = n }

    overlay : Name
    overlay = codes "__overlay__"

    p : Stack
    p = overlay ∷ f ∷ []

    made : Event (List Part)
    made = opening (f ∷ [])

    set : Event (List Part)
    set = definition (f ∷ []) m value

    empty : (u.bodies ≡ []) × (bodies ≡ [])
    empty = none_open r r.size n u.node bodies u.bodies h.open_bodies none

    goes : outside u.bodies (Ok (open_fragment f m value u)) ≡ Ok (open_fragment f m value u)
    goes = outside-goes u.bodies (Ok (open_fragment f m value u)) empty.0

    before : SoFar
    before = record { events = u.events ++ made ∷ set ∷ []; node = u.node; bodies = [] }

    regrouped : enter before p [] ≡ open_fragment f m value u
    regrouped = ap (λ (es : Events). record { events = es; node = p; bodies = (record { properties = []; children = [] }) ∷ [] }) (append_assoc u.events (made ∷ set ∷ []) (opening p ∷ []))

    two : (u.events ++ made ∷ []) ++ set ∷ [] ≡ u.events ++ made ∷ set ∷ []
    two = append_assoc u.events (made ∷ []) (set ∷ [])

    first : ChildOpened r s u.events [] 0 f n a
    first = child_opened r s u.events fr h.shows [] 0 f n a (root_there r.size some) some first_is

    at : node_at t (f ∷ []) ≡ Some a
    at = node_at-same s t sets.nodes.size (λ i x. ap (λ (g : ℕ → Name → Option ℕ). g i x) sets.nodes.child) (f ∷ []) ∙ first.at

    inside : a < t.size
    inside = let below : a < s.size = first.inside in let z : t.size ≡ s.size = sets.nodes.size in omega arith

    second : ChildOpened t v (u.events ++ made ∷ set ∷ []) (f ∷ []) a overlay n b
    second = child_opened t v (u.events ++ made ∷ set ∷ []) ft (subst (Shows t) two (shows-define s t (u.events ++ made ∷ []) fs first.shows (f ∷ []) a m value n first.at sets)) (f ∷ []) a overlay n b at inside second_is

    shallow : AreShallow (u.events ++ made ∷ set ∷ [])
    shallow = subst AreShallow two (shallow-definition (u.events ++ made ∷ []) (f ∷ []) m value (shallow-opening u.events (f ∷ []) h.shallow (omega arith)))

    above : a < b
    above = second.above

    fresh : (x : Name) (k : ℕ) → v.opened b x ≡ Some k → k < n
    fresh x k there =
        let low : a < b = second.above in
        let one : v.opened b x ≡ t.opened b x = unmarked t.opened v.opened a n overlay second.opened b x (λ same. omega (arith, same)) in
        let two : t.opened b x ≡ s.opened b x = ap (λ (g : ℕ → Name → Option ℕ). g b x) sets.nodes.opened in
        let three : s.opened b x ≡ r.opened b x = unmarked r.opened s.opened 0 n f first.opened b x (λ same. omega (arith, same)) in
        h.opened_before b x k (sym (one ∙ (two ∙ three)) ∙ there)

    unset : (x : Name) (k : ℕ) → v.defined b x ≡ Some k → k < n
    unset x k there =
        let low : a < b = second.above in
        let one : v.defined b x ≡ t.defined b x = ap (λ (g : ℕ → Name → Option ℕ). g b x) second.defined in
        let two : t.defined b x ≡ s.defined b x = unmarked s.defined t.defined a n m sets.defined b x (λ same. omega (arith, same)) in
        let three : s.defined b x ≡ r.defined b x = ap (λ (g : ℕ → Name → Option ℕ). g b x) first.defined in
        h.defined_before b x k (sym (one ∙ (two ∙ three)) ∙ there)

    opened : (i : ℕ) (x : Name) (k : ℕ) → v.opened i x ≡ Some k → k < n + 1
    opened = put_before t.opened v.opened a n overlay second.opened
        (λ i x k there. put_before r.opened s.opened 0 n f first.opened (λ j y l d. omega (arith, h.opened_before j y l d)) i x k (ap (λ (g : ℕ → Name → Option ℕ). g i x) (sym sets.nodes.opened) ∙ there))

    defined : (i : ℕ) (x : Name) (k : ℕ) → v.defined i x ≡ Some k → k < n + 1
    defined i x k there =
        marked_before s.defined t.defined a n m sets.defined (λ j y l d. h.defined_before j y l (ap (λ (g : ℕ → Name → Option ℕ). g j y) (sym first.defined) ∙ d)) i x k
        (ap (λ (g : ℕ → Name → Option ℕ). g i x) (sym second.defined) ∙ there)

    stands : StandsFor v (bodies ++ e ∷ []) (n + 1) (enter before p [])
    stands = enters_with v before p [] bodies e second.shows shallow (omega arith) second.at refl second.inside empty.1 fresh unset opened defined

-- no node is lost
pub opens_within : (s t : View) → IsForest s → (a : ℕ) (x : Name) (item j : ℕ) → OpensAs s t a x item j → (s.size ≤ t.size) × (j < t.size)
opens_within s t f a x item j (inl made) = let z : t.size ≡ s.size + 1 = made.1.size in let new : j ≡ s.size = made.2 in (omega arith, omega arith)
opens_within s t f a x item j (inr again) = let z : t.size ≡ s.size = again.1.size in let below : j < s.size = (f.edge a x j again.0).1 in (omega arith, omega arith)

-- ---- the root stands from the start

not_rooted : (s : View) (bodies : List OpenBody) → StandsFor s bodies 0 nothing → 0 < s.size → ⊥
not_rooted s bodies h some = let e : true ≡ false = ap (λ (o : Option ℕ). is_some o) (sym (root_there s.size some)) ∙ h.shows.nodes [] in cc

pub begins : (s t : View) (bodies : List OpenBody) → IsForest s → StandsFor s bodies 0 nothing → MakesRoot s t → StandsFor t bodies 0 overlay_start.source
begins s t bodies f h made = record {
  shows = shows-root s t [] f h.shows made;
  shallow = shallow-opening [] [] h.shallow (omega arith);
  open_bodies = h.open_bodies;
  opened_before = λ i x k e. h.opened_before i x k (ap (λ (g : ℕ → Name → Option ℕ). g i x) (sym made.opened) ∙ e);
  defined_before = λ i x k e. h.defined_before i x k (ap (λ (g : ℕ → Name → Option ℕ). g i x) (sym made.properties.defined) ∙ e);
}

pub made_root : (s t : View) (bodies : List OpenBody) (P : Type 0) → StandsFor s bodies 0 nothing → MakesRoot s t ⊎ ((0 < s.size) × P) → MakesRoot s t
made_root s t bodies P h (inl made) = made
made_root s t bodies P h (inr there) = absurd (not_rooted s bodies h there.0)
