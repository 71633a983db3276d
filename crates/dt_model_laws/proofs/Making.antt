-- What a place that is read did to what was read before it, by cases on the place.
use Rattle.std.proofs.Common.{◌≡◌, Bool, true, false, cond, List, [], ◌∷◌, ◌++◌, drop, length, nat_le, Some, Result, Ok, Err, refl, ap, ◌∙◌}
use Rattle.std.specs.Option.{option_map_or}
use Rattle.dt_model.specs.Names.{Name}
use Rattle.dt_model.specs.Path.{path_eq}
use Rattle.dt_model.specs.Event.{Stack, giving, definition, undefinition, deletion}
use Rattle.dt_model.specs.Source.{Place, root, block, delete_node, child, label, property, delete_property, delete_child, close, Mode, Refusal, reserved_name, duplicate_node, too_deep, duplicate_property, duplicate_label, no_such_target, Body, SoFar, is_reserved, is_among, labelled, referent, and_then, enter, outside, inside, delete_at, define, open_child, read}
use Rattle.dt_model.proofs.Cases.{not_refused, is_granted, map_or_ok}

-- a body with one more name
abbrev pub with_child : Name → Body → Body
with_child n b = record { properties = b.properties; children = n ∷ b.children }

abbrev pub with_property : Name → Body → Body
with_property n b = record { properties = n ∷ b.properties; children = b.children }

-- the body, and those around it, are the open ones
abbrev pub InBody : SoFar → (Body → List Body → Type 0) → Type 0
InBody s P = (b : Body) × (bs : List Body) × (s.bodies ≡ b ∷ bs) × P b bs

-- the place makes s into t
abbrev pub Makes : Mode → SoFar → Place → SoFar → Type 0
Makes mode s root t = (s.bodies ≡ []) × (t ≡ enter s [] [])
Makes mode s (block r) t = (s.bodies ≡ []) × ((p : Stack) × (referent s.events r ≡ Some p) × (t ≡ enter s p []))
Makes mode s (delete_node r) t = (s.bodies ≡ []) × ((x : Name) × (p : Stack) × (referent s.events r ≡ Some (x ∷ p)) × (t ≡ and_then s (deletion (x ∷ p))))
Makes mode s (child n) t = InBody s (λ b bs. (is_reserved mode s.node n ≡ false) × (is_among n b.children ≡ false) × (t ≡ enter s (n ∷ s.node) (with_child n b ∷ bs)))
Makes mode s (label l) t = InBody s (λ b bs. (option_map_or (λ p. path_eq p s.node) (labelled s.events l) true ≡ true) × (t ≡ and_then s (giving l s.node)))
Makes mode s (property n v) t =
    InBody s (λ b bs. (is_among n b.properties ≡ false) × (t ≡ record { events = s.events ++ definition s.node n v ∷ []; node = s.node; bodies = with_property n b ∷ bs }))
Makes mode s (delete_property n) t = InBody s (λ b bs. t ≡ and_then s (undefinition s.node n))
Makes mode s (delete_child n) t = InBody s (λ b bs. t ≡ and_then s (deletion (n ∷ s.node)))
Makes mode s close t = InBody s (λ b bs. t ≡ record { events = s.events; node = drop 1 s.node; bodies = bs })

pub outside_ok : (bs : List Body) (answer : Result SoFar Refusal) (t : SoFar) → outside bs answer ≡ Ok t → (bs ≡ []) × (answer ≡ Ok t)
outside_ok [] answer t h = (refl, h)
outside_ok (b ∷ bs) answer t h = cc

pub inside_ok : (bodies : List Body) (answer : Body → List Body → Result SoFar Refusal) (t : SoFar) → inside bodies answer ≡ Ok t
    → (b : Body) × (bs : List Body) × (bodies ≡ b ∷ bs) × (answer b bs ≡ Ok t)
inside_ok [] answer t h = cc
inside_ok (b ∷ bs) answer t h = (b, bs, refl, h)

pub same_ok : (s t : SoFar) → ◌≡◌ {A = Result SoFar Refusal} (Ok s) (Ok t) → t ≡ s
same_ok s t h = cc

delete_at_ok : (s : SoFar) (p : Stack) (t : SoFar) → delete_at s p ≡ Ok t → (x : Name) × (q : Stack) × (p ≡ x ∷ q) × (t ≡ and_then s (deletion (x ∷ q)))
delete_at_ok s [] t h = cc
delete_at_ok s (x ∷ q) t h = (x, q, refl, same_ok (and_then s (deletion (x ∷ q))) t h)

pub makes : (mode : Mode) (s : SoFar) (place : Place) (t : SoFar) → read mode s place ≡ Ok t → Makes mode s place t
makes mode s root t h = let o = outside_ok s.bodies (Ok (enter s [] [])) t h in (o.0, same_ok (enter s [] []) t o.1)
makes mode s (block r) t h =
    let o = outside_ok s.bodies (option_map_or (λ p. Ok (enter s p [])) (referent s.events r) (Err no_such_target)) t h in
    let m = map_or_ok (λ p. Ok (enter s p [])) (referent s.events r) no_such_target t o.1 in
    (o.0, (m.0, m.1, same_ok (enter s m.0 []) t m.2))
makes mode s (delete_node r) t h =
    let o = outside_ok s.bodies (option_map_or (delete_at s) (referent s.events r) (Err no_such_target)) t h in
    let m = map_or_ok (delete_at s) (referent s.events r) no_such_target t o.1 in
    let d = delete_at_ok s m.0 t m.2 in
    (o.0, (d.0, d.1, m.1 ∙ ap Some d.2, d.3))
makes mode s (child n) t h =
    let i = inside_ok s.bodies (open_child mode s n) t h in
    let b = i.0 in
    let made : SoFar = enter s (n ∷ s.node) (with_child n b ∷ i.1) in
    let r = not_refused (is_reserved mode s.node n) reserved_name _ t i.3 in
    let a = not_refused (is_among n b.children) duplicate_node _ t r.1 in
    let d = not_refused (nat_le 64 (length s.node)) too_deep (Ok made) t a.1 in
    (b, i.1, i.2, (r.0, a.0, same_ok made t d.1))
makes mode s (label l) t h =
    let free : Bool = option_map_or (λ p. path_eq p s.node) (labelled s.events l) true in
    let made : SoFar = and_then s (giving l s.node) in
    let i = inside_ok s.bodies (λ b bs. cond free (Ok made) (Err duplicate_label)) t h in
    let g = is_granted free duplicate_label (Ok made) t i.3 in
    (i.0, i.1, i.2, (g.0, same_ok made t g.1))
makes mode s (property n v) t h =
    let i = inside_ok s.bodies (define s n v) t h in
    let made : SoFar = record { events = s.events ++ definition s.node n v ∷ []; node = s.node; bodies = with_property n i.0 ∷ i.1 } in
    let a = not_refused (is_among n (i.0).properties) duplicate_property (Ok made) t i.3 in
    (i.0, i.1, i.2, (a.0, same_ok made t a.1))
makes mode s (delete_property n) t h =
    let made : SoFar = and_then s (undefinition s.node n) in
    let i = inside_ok s.bodies (λ b bs. Ok made) t h in
    (i.0, i.1, i.2, same_ok made t i.3)
makes mode s (delete_child n) t h =
    let made : SoFar = and_then s (deletion (n ∷ s.node)) in
    let i = inside_ok s.bodies (λ b bs. Ok made) t h in
    (i.0, i.1, i.2, same_ok made t i.3)
makes mode s close t h =
    let i = inside_ok s.bodies (λ b bs. Ok (record { events = s.events; node = drop 1 s.node; bodies = bs })) t h in
    (i.0, i.1, i.2, same_ok (record { events = s.events; node = drop 1 s.node; bodies = i.1 }) t i.3)
