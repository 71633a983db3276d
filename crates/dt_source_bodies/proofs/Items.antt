-- What each item adds to what was read, and what the tree and the open bodies then stand for.
use Rattle.std.proofs.Common.{◌≡◌, ℕ, ◌+◌, ◌-◌, ◌<◌, ◌≤◌, Bool, true, false, List, [], ◌∷◌, ◌++◌, Option, Some, None, Result, Ok, Err, ◌&&◌, cond, nat_eq, nat_le, is_some, length, drop, slice_get, refl, sym, ◌∙◌, ap, subst, arith}
use Rattle.std.specs.Option.{option_and_then, option_map_or}
use Rattle.std.specs.Str.{bytes_eq}
use Rattle.std.proofs.lemmas.Bool.Decides.{nat_tests}
use Rattle.dt_model.specs.Limits.{most_names}
use Rattle.dt_model.specs.Names.{Name}
use Rattle.dt_model.specs.Path.{path_eq}
use Rattle.dt_model.specs.Event.{Stack, Event, opening, giving, definition, undefinition, deletion, is_within, stands, names}
use Rattle.dt_model.specs.Source.{Part, Reference, root, block, delete_node, child, label, property, delete_property, delete_child, close, Mode, Refusal, duplicate_property, duplicate_node, duplicate_label, no_such_target, reserved_name, too_deep, Body, SoFar, labelled, referent, is_among, and_then, enter, inside, delete_at, is_reserved, open_child, define, read}
use Rattle.dt_model.proofs.EventSteps.{path_eq-is, path_eq-refl}
use Rattle.dt_source_growing.specs.Shape.{node_at, given_at, IsForest, Shows, MakesRoot, AddsChild, OpensChild, Cuts, Defines, Undefines, Gives}
use Rattle.dt_source_bodies.specs.Reading.{is_behind, AreOpen, StandsFor}
use Rattle.dt_source_bodies.specs.declared.reading.OpenBody.{OpenBody}
use Rattle.dt_model.proofs.Cases.{bool_cases}
use Rattle.dt_source_growing.proofs.Walks.{node_at-same, node_at-added, node_at-cut, node_at_below, node_at_once, root_there}
use Rattle.dt_source_bodies.proofs.Steps.{shows-root, shows-child, shows-again, shows-cut, shows-define, shows-undefine, shows-give, shows-give-again}
use Rattle.dt_source_bodies.proofs.Bodies.{View, Innermost, innermost, none_open, are_open-later, are_open-kept, marked, unmarked, marked_before, outside-goes, inside-goes, shallow-giving, shallow-definition, shallow-undefinition, shallow-deletion, within_long, enters}

-- reading goes on to what the parts stand for
abbrev pub Goes : Result SoFar Refusal → View → List OpenBody → ℕ → Type 0
Goes outcome s bodies n = (v : SoFar) × (outcome ≡ Ok v) × StandsFor s bodies n v

-- ---- at top level

pub root-goes-new : (m : Mode) (s t : View) (bodies : List OpenBody) (n : ℕ) (u : SoFar) → IsForest s → StandsFor s bodies n u → length bodies ≡ 0 → MakesRoot s t
    → Goes (read m u root) t (bodies ++ (record { node = 0; depth = 0; item = n }) ∷ []) (n + 1)
root-goes-new m s t bodies n u f h none made =
    let empty = none_open s s.size n u.node bodies u.bodies h.open_bodies none in
    let opened : (i : ℕ) (x : Name) (k : ℕ) → t.opened i x ≡ Some k → k < n = λ i x k e. h.opened_before i x k (ap (λ (g : ℕ → Name → Option ℕ). g i x) (sym made.opened) ∙ e) in (
      enter u [] [],
      outside-goes u.bodies (Ok (enter u [] [])) empty.0,
      enters t u [] [] bodies (record { node = 0; depth = 0; item = n }) (shows-root s t u.events f h.shows made) h.shallow (omega arith) (rw made.size refl) refl (rw made.size (omega arith)) empty.1
          (λ x k e. opened 0 x k e) (λ i x k e. omega (arith, opened i x k e))
          (λ i x k e. h.defined_before i x k (ap (λ (g : ℕ → Name → Option ℕ). g i x) (sym made.properties.defined) ∙ e)),
    )

-- a node that stands is opened at top level
reopened : (s : View) (bodies : List OpenBody) (n : ℕ) (u : SoFar) → IsForest s → StandsFor s bodies n u → bodies ≡ [] → (p : Stack) (k : ℕ) → node_at s p ≡ Some k
    → StandsFor s (bodies ++ (record { node = k; depth = length p; item = n }) ∷ []) (n + 1) (enter u p [])
reopened s bodies n u f h none p k at =
    enters s u p [] bodies (record { node = k; depth = length p; item = n }) (shows-again s s u.events f h.shows p k at (λ p. refl) refl refl refl) h.shallow
    (h.shallow p (sym (h.shows.nodes p) ∙ ap is_some at)) at refl (node_at_below s f p k at) none (λ x j e. h.opened_before k x j e) (λ i x j e. omega (arith, h.opened_before i x j e)) h.defined_before

pub root-goes-again : (m : Mode) (s : View) (bodies : List OpenBody) (n : ℕ) (u : SoFar) → IsForest s → StandsFor s bodies n u → length bodies ≡ 0 → 0 < s.size
    → Goes (read m u root) s (bodies ++ (record { node = 0; depth = 0; item = n }) ∷ []) (n + 1)
root-goes-again m s bodies n u f h none there =
    let empty = none_open s s.size n u.node bodies u.bodies h.open_bodies none in
    (enter u [] [], outside-goes u.bodies (Ok (enter u [] [])) empty.0, reopened s bodies n u f h empty.1 [] 0 (root_there s.size there))

pub block-goes : (m : Mode) (s : View) (bodies : List OpenBody) (n : ℕ) (u : SoFar) → IsForest s → StandsFor s bodies n u → length bodies ≡ 0 → (r : Reference) (p : Stack) (k depth : ℕ)
    → referent u.events r ≡ Some p → node_at s p ≡ Some k → depth ≡ length p → Goes (read m u (block r)) s (bodies ++ (record { node = k; depth = depth; item = n }) ∷ []) (n + 1)
block-goes m s bodies n u f h none r p k depth found at deep =
    let empty = none_open s s.size n u.node bodies u.bodies h.open_bodies none in (
      enter u p [],
      outside-goes u.bodies (option_map_or (λ p. Ok (enter u p [])) (referent u.events r) (Err no_such_target)) empty.0
          ∙ ap (λ (o : Option Stack). option_map_or {U = Result SoFar Refusal} (λ p. Ok (enter u p [])) o (Err no_such_target)) found,
      rw deep (reopened s bodies n u f h empty.1 p k at),
    )

pub block-refused : (m : Mode) (s : View) (bodies : List OpenBody) (n : ℕ) (u : SoFar) → StandsFor s bodies n u → length bodies ≡ 0 → (r : Reference) → referent u.events r ≡ None
    → read m u (block r) ≡ Err no_such_target
block-refused m s bodies n u h none r lost =
    let empty = none_open s s.size n u.node bodies u.bodies h.open_bodies none in
    outside-goes u.bodies (option_map_or (λ p. Ok (enter u p [])) (referent u.events r) (Err no_such_target)) empty.0
    ∙ ap (λ (o : Option Stack). option_map_or {U = Result SoFar Refusal} (λ p. Ok (enter u p [])) o (Err no_such_target)) lost

deleting : (m : Mode) (s : View) (bodies : List OpenBody) (n : ℕ) (u : SoFar) → StandsFor s bodies n u → length bodies ≡ 0 → (r : Reference) (o : Option Stack) → referent u.events r ≡ o
    → read m u (delete_node r) ≡ option_map_or (delete_at u) o (Err no_such_target)
deleting m s bodies n u h none r o e =
    let empty = none_open s s.size n u.node bodies u.bodies h.open_bodies none in
    outside-goes u.bodies (option_map_or (delete_at u) (referent u.events r) (Err no_such_target)) empty.0
    ∙ ap (λ (o : Option Stack). option_map_or {U = Result SoFar Refusal} (delete_at u) o (Err no_such_target)) e

pub delete-refused : (m : Mode) (s : View) (bodies : List OpenBody) (n : ℕ) (u : SoFar) → StandsFor s bodies n u → length bodies ≡ 0 → (r : Reference) → referent u.events r ≡ None
    → read m u (delete_node r) ≡ Err no_such_target
delete-refused m s bodies n u h none r lost = deleting m s bodies n u h none r None lost

pub delete_root-refused : (m : Mode) (s : View) (bodies : List OpenBody) (n : ℕ) (u : SoFar) → StandsFor s bodies n u → length bodies ≡ 0 → (r : Reference) → referent u.events r ≡ Some []
    → read m u (delete_node r) ≡ Err no_such_target
delete_root-refused m s bodies n u h none r found = deleting m s bodies n u h none r (Some []) found

pub delete-goes : (m : Mode) (s t : View) (bodies : List OpenBody) (n : ℕ) (u : SoFar) → IsForest s → StandsFor s bodies n u → length bodies ≡ 0 → (r : Reference) (x : Name) (p : Stack) (a : ℕ)
    → referent u.events r ≡ Some (x ∷ p) → node_at s p ≡ Some a → Cuts s t a x → Goes (read m u (delete_node r)) t bodies (n + 1)
delete-goes m s t bodies n u f h none r x p a found at cut =
    let empty = none_open s s.size n u.node bodies u.bodies h.open_bodies none in (
      and_then u (deletion (x ∷ p)),
      deleting m s bodies n u h none r (Some (x ∷ p)) found,
      record {
        shows = shows-cut s t u.events f h.shows p a x at cut;
        shallow = shallow-deletion u.events (x ∷ p) h.shallow;
        open_bodies = subst (AreOpen t t.size (n + 1) u.node bodies) (sym empty.0) empty.1;
        opened_before = λ i y k e. omega (arith, h.opened_before i y k (ap (λ (g : ℕ → Name → Option ℕ). g i y) (sym cut.opened) ∙ e));
        defined_before = λ i y k e. omega (arith, h.defined_before i y k (ap (λ (g : ℕ → Name → Option ℕ). g i y) (sym cut.properties.defined) ∙ e));
      },
    )

-- ---- in a body

choice : {A : Type 0} (b : Bool) (x y : A) → b ≡ false → cond b x y ≡ y
choice b x y h = ap (λ t. cond t x y) h

chosen : {A : Type 0} (b : Bool) (x y : A) → b ≡ true → cond b x y ≡ x
chosen b x y h = ap (λ t. cond t x y) h

-- the innermost body of what was read
abbrev pub Inner : View → List OpenBody → ℕ → SoFar → OpenBody → Type 0
Inner s bodies n u e = Innermost s s.size n u.node bodies u.bodies e

pub inner_of : (s : View) (bodies : List OpenBody) (n : ℕ) (u : SoFar) (e : OpenBody) → StandsFor s bodies n u → slice_get bodies (length bodies - 1) ≡ Some e → Inner s bodies n u e
inner_of s bodies n u e h last = innermost s s.size n u.node bodies u.bodies e h.open_bodies last

pub child-reserved : (m : Mode) (s : View) (bodies : List OpenBody) (n : ℕ) (u : SoFar) (e : OpenBody) (x : Name) → Inner s bodies n u e → is_reserved m u.node x ≡ true
    → read m u (child x) ≡ Err reserved_name
child-reserved m s bodies n u e x i reserved = inside-goes u.bodies (open_child m u x) i.body i.rest i.is ∙ chosen (is_reserved m u.node x) (Err reserved_name) _ reserved

pub child-twice : (m : Mode) (s : View) (bodies : List OpenBody) (n : ℕ) (u : SoFar) (e : OpenBody) (x : Name) → Inner s bodies n u e → is_reserved m u.node x ≡ false
    → is_behind e.item (s.opened e.node x) ≡ true → read m u (child x) ≡ Err duplicate_node
child-twice m s bodies n u e x i free twice =
    inside-goes u.bodies (open_child m u x) i.body i.rest i.is ∙ choice (is_reserved m u.node x) (Err reserved_name) _ free
    ∙ chosen (is_among x i.body.children) (Err duplicate_node) _ (sym (i.its.children x) ∙ twice)

deep_is : (a b : ℕ) → b ≤ a → nat_le b a ≡ true
deep_is a b h = grind (arith, nat_tests)

deep_not : (a b : ℕ) → a < b → nat_le b a ≡ false
deep_not a b h = grind (arith, nat_tests)

pub child-deep : (m : Mode) (s : View) (bodies : List OpenBody) (n : ℕ) (u : SoFar) (e : OpenBody) (x : Name) → Inner s bodies n u e → is_reserved m u.node x ≡ false
    → is_behind e.item (s.opened e.node x) ≡ false → most_names ≤ e.depth → read m u (child x) ≡ Err too_deep
child-deep m s bodies n u e x i free once deep =
    inside-goes u.bodies (open_child m u x) i.body i.rest i.is ∙ choice (is_reserved m u.node x) (Err reserved_name) _ free
    ∙ choice (is_among x i.body.children) (Err duplicate_node) _ (sym (i.its.children x) ∙ once)
    ∙ chosen (nat_le most_names (length u.node)) (Err too_deep) _ (deep_is (length u.node) most_names (omega (arith, i.its.depth, deep)))

-- a child is opened: in t it is the node j
child-goes : (m : Mode) (s t : View) (bodies : List OpenBody) (n : ℕ) (u : SoFar) (e : OpenBody) (x : Name) (j : ℕ) → StandsFor s bodies n u → Inner s bodies n u e → is_reserved m u.node x ≡ false
    → is_behind e.item (s.opened e.node x) ≡ false → e.depth < most_names → Shows t (u.events ++ opening (x ∷ u.node) ∷ []) → ((p : Stack) (i : ℕ) → node_at s p ≡ Some i → node_at t p ≡ Some i)
    → node_at t (x ∷ u.node) ≡ Some j → e.node < j → j < t.size → ((i : ℕ) (y : Name) → t.opened i y ≡ cond (nat_eq e.node i && bytes_eq x y) (Some n) (s.opened i y)) → t.defined ≡ s.defined
    → Goes (read m u (child x)) t (bodies ++ (record { node = j; depth = e.depth + 1; item = n }) ∷ []) (n + 1)
child-goes m s t bodies n u e x j h i free once few shows stay at above inside opens defines =
    let next : Body = record { properties = i.body.properties; children = x ∷ i.body.children } in
    let goes : read m u (child x) ≡ Ok (enter u (x ∷ u.node) (next ∷ i.rest)) =
    inside-goes u.bodies (open_child m u x) i.body i.rest i.is ∙ choice (is_reserved m u.node x) (Err reserved_name) _ free
    ∙ choice (is_among x i.body.children) (Err duplicate_node) _ (sym (i.its.children x) ∙ once)
    ∙ choice (nat_le most_names (length u.node)) (Err too_deep) _ (deep_not (length u.node) most_names (omega (arith, i.its.depth, few))) in
    let same_defined : (k : ℕ) (y : Name) → t.defined k y ≡ s.defined k y = λ k y. ap (λ (g : ℕ → Name → Option ℕ). g k y) defines in (
      enter u (x ∷ u.node) (next ∷ i.rest),
      goes,
      enters t u (x ∷ u.node) (next ∷ i.rest) bodies (record { node = j; depth = e.depth + 1; item = n }) shows h.shallow (omega (arith, i.its.depth, few)) at (omega (arith, i.its.depth)) inside (
        i.outer,
        e,
        i.open_is,
        above,
        i.before_it,
        record {
          node = stay u.node e.node i.its.node;
          depth = i.its.depth;
          children = marked s.opened t.opened e.node e.item n x i.body.children i.before_it opens i.its.children;
          properties = λ y. ap (is_behind e.item) (same_defined e.node y) ∙ i.its.properties y;
        },
        are_open-kept s t e.node n (drop 1 u.node) i.outer i.rest (λ p k _ there. stay p k there)
            (λ k y less. unmarked s.opened t.opened e.node n x opens k y (λ same. omega (arith, same, less))) (λ k y less. same_defined k y) i.around,
      )
          (λ y k there. h.opened_before j y k (sym (unmarked s.opened t.opened e.node n x opens j y (λ same. omega (arith, same, above))) ∙ there))
          (marked_before s.opened t.opened e.node n x opens h.opened_before)
          (λ k y l there. h.defined_before k y l (sym (same_defined k y) ∙ there)),
    )

pub child-goes-new : (m : Mode) (s t : View) (bodies : List OpenBody) (n : ℕ) (u : SoFar) (e : OpenBody) (x : Name) → IsForest s → StandsFor s bodies n u → Inner s bodies n u e → is_reserved m u.node x ≡ false
    → is_behind e.item (s.opened e.node x) ≡ false → e.depth < most_names → s.child e.node x ≡ None → AddsChild s t e.node x n
    → Goes (read m u (child x)) t (bodies ++ (record { node = s.size; depth = e.depth + 1; item = n }) ∷ []) (n + 1)
child-goes-new m s t bodies n u e x f h i free once few none o =
    let now : (p : Stack) → node_at t p ≡ cond (path_eq (x ∷ u.node) p) (Some s.size) (node_at s p) = node_at-added s t f u.node e.node x i.its.node none n o in
    let was : node_at s (x ∷ u.node) ≡ None = ap (option_and_then (λ k. s.child k x)) i.its.node ∙ none in
    let stay : (p : Stack) (k : ℕ) → node_at s p ≡ Some k → node_at t p ≡ Some k = λ p k there.
    bool_cases (path_eq (x ∷ u.node) p) _
    (λ y. let e : None ≡ Some k = sym was ∙ ap (node_at s) (path_eq-is (x ∷ u.node) p y) ∙ there in cc)
    (λ d. now p ∙ ap (λ b. cond b (Some s.size) (node_at s p)) d ∙ there) in
    let at : node_at t (x ∷ u.node) ≡ Some s.size = now (x ∷ u.node) ∙ ap (λ b. cond b (Some s.size) (node_at s (x ∷ u.node))) (path_eq-refl (x ∷ u.node)) in
    child-goes m s t bodies n u e x s.size h i free once few (shows-child s t u.events f h.shows u.node e.node x n i.its.node none o) stay at i.below_it (let z : t.size ≡ s.size + 1 = o.size in omega arith) o.opened o.properties.defined

pub child-goes-again : (m : Mode) (s t : View) (bodies : List OpenBody) (n : ℕ) (u : SoFar) (e : OpenBody) (x : Name) (j : ℕ) → IsForest s → StandsFor s bodies n u → Inner s bodies n u e → is_reserved m u.node x ≡ false
    → is_behind e.item (s.opened e.node x) ≡ false → e.depth < most_names → s.child e.node x ≡ Some j → OpensChild s t e.node x n
    → Goes (read m u (child x)) t (bodies ++ (record { node = j; depth = e.depth + 1; item = n }) ∷ []) (n + 1)
child-goes-again m s t bodies n u e x j f h i free once few there o =
    let same : (p : Stack) → node_at t p ≡ node_at s p = node_at-same s t o.size o.child in
    let at : node_at s (x ∷ u.node) ≡ Some j = ap (option_and_then (λ k. s.child k x)) i.its.node ∙ there in
    let edge = f.edge e.node x j there in
    child-goes m s t bodies n u e x j h i free once few (shows-again s t u.events f h.shows (x ∷ u.node) j at same o.properties.property o.properties.value o.labels.given) (λ p k e. same p ∙ e) (same (x ∷ u.node) ∙ at)
    edge.0 (rw o.size edge.1) o.opened o.properties.defined

-- one more event in the same body, which keeps the nodes of the open bodies and their marks
stays : (s t : View) (bodies : List OpenBody) (n : ℕ) (u : SoFar) (e : Event (List Part)) → StandsFor s bodies n u → Shows t (u.events ++ e ∷ []) → ((p : Stack) → stands (u.events ++ e ∷ []) p ≡ true → length p ≤ most_names)
    → t.size ≡ s.size → ((p : Stack) (i : ℕ) → length p ≤ length u.node → node_at s p ≡ Some i → node_at t p ≡ Some i) → t.opened ≡ s.opened → t.defined ≡ s.defined → StandsFor t bodies (n + 1) (and_then u e)
stays s t bodies n u e h shows shallow size nodes opened defined =
    let same_opened : (k : ℕ) (y : Name) → t.opened k y ≡ s.opened k y = λ k y. ap (λ (g : ℕ → Name → Option ℕ). g k y) opened in
    let same_defined : (k : ℕ) (y : Name) → t.defined k y ≡ s.defined k y = λ k y. ap (λ (g : ℕ → Name → Option ℕ). g k y) defined in
    record {
      shows = shows;
      shallow = shallow;
      open_bodies = are_open-later t s.size t.size n (n + 1) u.node bodies u.bodies (omega (arith, size)) (omega arith)
          (are_open-kept s t s.size n u.node bodies u.bodies nodes (λ k y less. same_opened k y) (λ k y less. same_defined k y) h.open_bodies);
      opened_before = λ k y l there. omega (arith, h.opened_before k y l (sym (same_opened k y) ∙ there));
      defined_before = λ k y l there. omega (arith, h.defined_before k y l (sym (same_defined k y) ∙ there));
    }

pub delete_child-goes : (m : Mode) (s t : View) (bodies : List OpenBody) (n : ℕ) (u : SoFar) (e : OpenBody) (x : Name) → IsForest s → StandsFor s bodies n u → Inner s bodies n u e
    → Cuts s t e.node x → Goes (read m u (delete_child x)) t bodies (n + 1)
delete_child-goes m s t bodies n u e x f h i o =
    let now : (p : Stack) → node_at t p ≡ cond (is_within (x ∷ u.node) p) None (node_at s p) = node_at-cut s t f u.node e.node x i.its.node o in (
      and_then u (deletion (x ∷ u.node)),
      inside-goes u.bodies (λ b bs. Ok (and_then u (deletion (x ∷ u.node)))) i.body i.rest i.is,
      stays s t bodies n u (deletion (x ∷ u.node)) h (shows-cut s t u.events f h.shows u.node e.node x i.its.node o) (shallow-deletion u.events (x ∷ u.node) h.shallow) o.size
          (λ p k short there.
          bool_cases (is_within (x ∷ u.node) p) _
          (λ y. let long : length (x ∷ u.node) ≤ length p = within_long (x ∷ u.node) p y in absurd (omega arith))
          (λ d. now p ∙ ap (λ b. cond b None (node_at s p)) d ∙ there))
          o.opened o.properties.defined,
    )

pub undefine-goes : (m : Mode) (s t : View) (bodies : List OpenBody) (n : ℕ) (u : SoFar) (e : OpenBody) (x : Name) → IsForest s → StandsFor s bodies n u → Inner s bodies n u e
    → Undefines s t e.node x → Goes (read m u (delete_property x)) t bodies (n + 1)
undefine-goes m s t bodies n u e x f h i o =
    let same : (p : Stack) → node_at t p ≡ node_at s p = node_at-same s t o.nodes.size (λ i x. ap (λ (g : ℕ → Name → Option ℕ). g i x) o.nodes.child) in (
      and_then u (undefinition u.node x),
      inside-goes u.bodies (λ b bs. Ok (and_then u (undefinition u.node x))) i.body i.rest i.is,
      stays s t bodies n u (undefinition u.node x) h (shows-undefine s t u.events f h.shows u.node e.node x i.its.node o) (shallow-undefinition u.events u.node x h.shallow) o.nodes.size
          (λ p k short there. same p ∙ there) o.nodes.opened o.defined,
    )

pub define-twice : (m : Mode) (s : View) (bodies : List OpenBody) (n : ℕ) (u : SoFar) (e : OpenBody) (x : Name) (v : List Part) → Inner s bodies n u e → is_behind e.item (s.defined e.node x) ≡ true
    → read m u (property x v) ≡ Err duplicate_property
define-twice m s bodies n u e x v i twice =
    inside-goes u.bodies (define u x v) i.body i.rest i.is ∙ chosen (is_among x i.body.properties) (Err duplicate_property) _ (sym (i.its.properties x) ∙ twice)

pub define-goes : (m : Mode) (s t : View) (bodies : List OpenBody) (n : ℕ) (u : SoFar) (e : OpenBody) (x : Name) (v : List Part) → IsForest s → StandsFor s bodies n u → Inner s bodies n u e
    → is_behind e.item (s.defined e.node x) ≡ false → Defines s t e.node x v n → Goes (read m u (property x v)) t bodies (n + 1)
define-goes m s t bodies n u e x v f h i once o =
    let next : Body = record { properties = x ∷ i.body.properties; children = i.body.children } in
    let same : (p : Stack) → node_at t p ≡ node_at s p = node_at-same s t o.nodes.size (λ i x. ap (λ (g : ℕ → Name → Option ℕ). g i x) o.nodes.child) in
    let same_opened : (k : ℕ) (y : Name) → t.opened k y ≡ s.opened k y = λ k y. ap (λ (g : ℕ → Name → Option ℕ). g k y) o.nodes.opened in (
      record { events = u.events ++ definition u.node x v ∷ []; node = u.node; bodies = next ∷ i.rest },
      inside-goes u.bodies (define u x v) i.body i.rest i.is ∙ choice (is_among x i.body.properties) (Err duplicate_property) _ (sym (i.its.properties x) ∙ once),
      record {
        shows = shows-define s t u.events f h.shows u.node e.node x v n i.its.node o;
        shallow = shallow-definition u.events u.node x v h.shallow;
        open_bodies = (
          i.outer,
          e,
          i.open_is,
          rw o.nodes.size i.below_it,
          omega (arith, i.before_it),
          record {
            node = same u.node ∙ i.its.node;
            depth = i.its.depth;
            children = λ y. ap (is_behind e.item) (same_opened e.node y) ∙ i.its.children y;
            properties = marked s.defined t.defined e.node e.item n x i.body.properties i.before_it o.defined i.its.properties;
          },
          are_open-later t e.node e.node n (n + 1) (drop 1 u.node) i.outer i.rest (omega arith) (omega arith)
              (are_open-kept s t e.node n (drop 1 u.node) i.outer i.rest (λ p k _ there. same p ∙ there) (λ k y less. same_opened k y)
              (λ k y less. unmarked s.defined t.defined e.node n x o.defined k y (λ eq. omega (arith, eq, less))) i.around),
        );
        opened_before = λ k y l there. omega (arith, h.opened_before k y l (sym (same_opened k y) ∙ there));
        defined_before = marked_before s.defined t.defined e.node n x o.defined h.defined_before;
      },
    )

-- ---- labels

labelling : (m : Mode) (s : View) (bodies : List OpenBody) (n : ℕ) (u : SoFar) (e : OpenBody) (l : Name) → Inner s bodies n u e → (o : Option Stack) → labelled u.events l ≡ o
    → read m u (label l) ≡ cond (option_map_or (λ p. path_eq p u.node) o true) (Ok (and_then u (giving l u.node))) (Err duplicate_label)
labelling m s bodies n u e l i o is =
    inside-goes u.bodies (λ b bs. cond (option_map_or (λ p. path_eq p u.node) (labelled u.events l) true) (Ok (and_then u (giving l u.node))) (Err duplicate_label)) i.body i.rest i.is
    ∙ ap (λ (o : Option Stack). cond {A = Result SoFar Refusal} (option_map_or (λ p. path_eq p u.node) o true) (Ok (and_then u (giving l u.node))) (Err duplicate_label)) is

pub label-goes-new : (m : Mode) (s t : View) (bodies : List OpenBody) (n : ℕ) (u : SoFar) (e : OpenBody) (l : Name) → IsForest s → StandsFor s bodies n u → Inner s bodies n u e
    → labelled u.events l ≡ None → ((p : Stack) → given_at s (p, l) ≡ None) → Gives s t l e.node → Goes (read m u (label l)) t bodies (n + 1)
label-goes-new m s t bodies n u e l f h i none alone o =
    let same : (p : Stack) → node_at t p ≡ node_at s p = node_at-same s t o.nodes.size (λ i x. ap (λ (g : ℕ → Name → Option ℕ). g i x) o.nodes.child) in (
      and_then u (giving l u.node),
      labelling m s bodies n u e l i None none,
      stays s t bodies n u (giving l u.node) h (shows-give s t u.events f h.shows u.node e.node l i.its.node alone o) (shallow-giving u.events l u.node h.shallow) o.nodes.size
          (λ p k short there. same p ∙ there) o.nodes.opened o.properties.defined,
    )

some_is : {A : Type 0} (o : Option A) → is_some o ≡ true → (a : A) × (o ≡ Some a)
some_is None h = cc
some_is (Some a) h = (a, refl)

-- the label names the node already
pub label-goes-again : (m : Mode) (s : View) (bodies : List OpenBody) (n : ℕ) (u : SoFar) (e : OpenBody) (l : Name) → IsForest s → StandsFor s bodies n u → Inner s bodies n u e → (p : Stack)
    → labelled u.events l ≡ Some p → node_at s p ≡ Some e.node → names u.events l p ≡ true → Goes (read m u (label l)) s bodies (n + 1)
label-goes-again m s bodies n u e l f h i p found at named =
    let same : p ≡ u.node = node_at_once s f p u.node e.node at i.its.node in
    let has : names u.events l u.node ≡ true = subst (λ (q : Stack). names u.events l q ≡ true) same named in
    let g = some_is (given_at s (u.node, l)) (h.shows.labels u.node l ∙ has) in
    let test : path_eq p u.node ≡ true = rw same (path_eq-refl u.node) in (
      and_then u (giving l u.node),
      labelling m s bodies n u e l i (Some p) found ∙ chosen (path_eq p u.node) (Ok (and_then u (giving l u.node))) (Err duplicate_label) test,
      stays s s bodies n u (giving l u.node) h (shows-give-again s u.events f h.shows u.node l g.0 g.1) (shallow-giving u.events l u.node h.shallow) refl (λ p k short there. there) refl refl,
    )

pub label-refused : (m : Mode) (s : View) (bodies : List OpenBody) (n : ℕ) (u : SoFar) (e : OpenBody) (l : Name) → IsForest s → Inner s bodies n u e → (p : Stack) (k : ℕ)
    → labelled u.events l ≡ Some p → node_at s p ≡ Some k → (k ≡ e.node → ⊥) → read m u (label l) ≡ Err duplicate_label
label-refused m s bodies n u e l f i p k found at other =
    let test : path_eq p u.node ≡ false =
    bool_cases (path_eq p u.node) _ (λ y. let same : p ≡ u.node = path_eq-is p u.node y in let c : Some k ≡ Some e.node = sym at ∙ ap (node_at s) same ∙ i.its.node in absurd (other (let z : k ≡ e.node = cc in z))) (λ d. d) in
    labelling m s bodies n u e l i (Some p) found ∙ choice (path_eq p u.node) (Ok (and_then u (giving l u.node))) (Err duplicate_label) test

-- ---- a body is closed

pub close-goes : (m : Mode) (s : View) (bodies : List OpenBody) (n : ℕ) (u : SoFar) (e : OpenBody) → StandsFor s bodies n u → (i : Inner s bodies n u e) → Goes (read m u close) s i.outer (n + 1)
close-goes m s bodies n u e h i = (
  record { events = u.events; node = drop 1 u.node; bodies = i.rest },
  inside-goes u.bodies (λ b bs. Ok (record { events = u.events; node = drop 1 u.node; bodies = bs })) i.body i.rest i.is,
  record {
    shows = h.shows;
    shallow = h.shallow;
    open_bodies = are_open-later s e.node s.size n (n + 1) (drop 1 u.node) i.outer i.rest (omega (arith, i.below_it)) (omega arith) i.around;
    opened_before = λ k y l there. omega (arith, h.opened_before k y l there);
    defined_before = λ k y l there. omega (arith, h.defined_before k y l there);
  },
)
