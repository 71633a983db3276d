-- The places of a tree are read without a refusal, as openings and definitions in preorder.
use Rattle.std.proofs.Common.{◌≡◌, ◌≢◌, ℕ, suc, ◌+◌, ◌≤◌, false, List, [], ◌∷◌, ◌++◌, length, map, refl, sym, ap, subst, ◌∙◌, append_assoc, arith, Ok}
use Rattle.std.specs.Prelude.{nat_le}
use Rattle.std.specs.List.{AllByRecursion}
use Rattle.std.proofs.lemmas.Bool.Decides.{nat_tests}
use Rattle.std.proofs.lemmas.List.{append-nil}
use Rattle.dt_model.specs.Limits.{most_names}
use Rattle.dt_model.specs.Names.{Name}
use Rattle.dt_model.specs.Event.{Stack, opening, definition}
use Rattle.dt_model.specs.Source.{one, Place, raw, child, property, close, Events, SoFar, Body, nothing, is_among, read, read_all, and_if_read}
use Rattle.dt_model.specs.Tree.{Property, Forest, no_nodes, branch, Reading}
use Rattle.dt_model.specs.Valid.{AreDistinct, names, AreNodes, IsNoDeeper, IsValid, IsWithinLimits}
use Rattle.dt_model.proofs.Tests.{bytes_eq_other}
use Rattle.dt_decompile_laws.specs.Said.{property_places, node_places, places_of}

-- ---- the events

abbrev pub property_events : Stack → List Property → Events
property_events q [] = []
property_events q (p ∷ ps) = definition q p.name (map one p.value) ∷ property_events q ps

abbrev pub node_events : Stack → Forest → Events
node_events q no_nodes = []
node_events q (branch name properties children siblings) =
    opening (name ∷ q) ∷ (property_events (name ∷ q) properties ++ (node_events (name ∷ q) children ++ node_events q siblings))

abbrev pub events_of : Reading → Events
events_of t = opening [] ∷ (property_events [] t.properties ++ node_events [] t.children)

-- ---- one place

abbrev pub state : Events → Stack → List Body → SoFar
state es q bodies = record { events = es; node = q; bodies = bodies }

abbrev body : List Name → List Name → Body
body properties children = record { properties = properties; children = children }

-- these names aren't among those that were there before
abbrev AreNew : List Name → List Name → Type 0
AreNew before xs = AllByRecursion (λ x. is_among x before ≡ false) xs

still_new : (x : Name) (before xs : List Name) → AreNew before xs → AllByRecursion (λ y. y ≢ x) xs → AreNew (x ∷ before) xs
still_new x before [] new other = tt
still_new x before (y ∷ xs) new other = (rw (bytes_eq_other y x other.0) new.0, still_new x before xs new.1 other.1)

all_new : (xs : List Name) → AreNew [] xs
all_new [] = tt
all_new (x ∷ xs) = (refl, all_new xs)

-- a place that is read, and those behind it
then_read : (s u : SoFar) (place : Place) (places : List Place) → read raw s place ≡ Ok u → read_all raw s (place ∷ places) ≡ read_all raw u places
then_read s u place places e = ap (λ r. and_if_read r (λ v. read_all raw v places)) e

read_property : (es : Events) (q : Stack) (ns cs : List Name) (bs : List Body) (p : Property) → is_among p.name ns ≡ false
    → read raw (state es q (body ns cs ∷ bs)) (property p.name (map one p.value)) ≡ Ok (state (es ++ definition q p.name (map one p.value) ∷ []) q (body (p.name ∷ ns) cs ∷ bs))
read_property es q ns cs bs p new = rw new refl

read_child : (es : Events) (q : Stack) (ns cs : List Name) (bs : List Body) (x : Name) → is_among x cs ≡ false → suc (length q) ≤ most_names
    → read raw (state es q (body ns cs ∷ bs)) (child x) ≡ Ok (state (es ++ opening (x ∷ q) ∷ []) (x ∷ q) (body [] [] ∷ body ns (x ∷ cs) ∷ bs))
read_child es q ns cs bs x new low =
    let shallow : nat_le most_names (length q) ≡ false = grind (arith, nat_tests, low) in
    rw (new, shallow) refl

-- ---- properties

-- the names of the properties after some more
abbrev defined_after : List Name → List Property → List Name
defined_after ns [] = ns
defined_after ns (p ∷ ps) = defined_after (p.name ∷ ns) ps

read_properties : (es : Events) (q : Stack) (ns cs : List Name) (bs : List Body) (ps : List Property) (places : List Place) → AreDistinct (map (λ (p : Property). p.name) ps) → AreNew ns (map (λ (p : Property). p.name) ps)
    → read_all raw (state es q (body ns cs ∷ bs)) (property_places ps ++ places) ≡ read_all raw (state (es ++ property_events q ps) q (body (defined_after ns ps) cs ∷ bs)) places
read_properties es q ns cs bs [] places d new = ap (λ z. read_all raw (state z q (body ns cs ∷ bs)) places) (sym (append-nil es))
read_properties es q ns cs bs (p ∷ ps) places d new =
    let e = definition q p.name (map one p.value) in
    then_read (state es q (body ns cs ∷ bs)) _ (property p.name (map one p.value)) (property_places ps ++ places) (read_property es q ns cs bs p new.0)
    ∙ read_properties (es ++ e ∷ []) q (p.name ∷ ns) cs bs ps places d.1 (still_new p.name ns (map (λ (x : Property). x.name) ps) new.1 d.0)
    ∙ ap (λ z. read_all raw (state z q (body (defined_after (p.name ∷ ns) ps) cs ∷ bs)) places) (append_assoc es (e ∷ []) (property_events q ps))

-- ---- nodes

-- the names of the children after some more
abbrev opened_after : List Name → Forest → List Name
opened_after cs no_nodes = cs
opened_after cs (branch name properties children siblings) = opened_after (name ∷ cs) siblings

places_regrouped : (xs ys zs places : List Place) → (xs ++ (ys ++ close ∷ zs)) ++ places ≡ xs ++ (ys ++ close ∷ (zs ++ places))
places_regrouped xs ys zs places = append_assoc xs (ys ++ close ∷ zs) places ∙ ap (λ w. xs ++ w) (append_assoc ys (close ∷ zs) places)

events_regrouped : (es xs ys zs : Events) (q : Stack) → (((es ++ opening q ∷ []) ++ xs) ++ ys) ++ zs ≡ es ++ opening q ∷ (xs ++ (ys ++ zs))
events_regrouped es xs ys zs q =
    append_assoc ((es ++ opening q ∷ []) ++ xs) ys zs ∙ append_assoc (es ++ opening q ∷ []) xs (ys ++ zs) ∙ append_assoc es (opening q ∷ []) (xs ++ (ys ++ zs))

read_nodes : (es : Events) (q : Stack) (ns cs : List Name) (bs : List Body) (f : Forest) (places : List Place) → AreNodes f → AreDistinct (names f) → AreNew cs (names f) → IsNoDeeper most_names (suc (length q)) f
    → read_all raw (state es q (body ns cs ∷ bs)) (node_places f ++ places) ≡ read_all raw (state (es ++ node_events q f) q (body ns (opened_after cs f) ∷ bs)) places
read_nodes es q ns cs bs no_nodes places ok d new low = ap (λ z. read_all raw (state z q (body ns cs ∷ bs)) places) (sym (append-nil es))
read_nodes es q ns cs bs (branch x properties children siblings) places ok d new low =
    let behind : List Place = node_places children ++ close ∷ (node_places siblings ++ places) in
    let outer : List Body = body ns (x ∷ cs) ∷ bs in
    let es1 : Events = es ++ opening (x ∷ q) ∷ [] in
    let es2 : Events = es1 ++ property_events (x ∷ q) properties in
    let es3 : Events = es2 ++ node_events (x ∷ q) children in
    let same : suc (length q) + 1 ≡ suc (length (x ∷ q)) = omega arith in
    let deeper = subst (λ (n : ℕ). IsNoDeeper most_names n children) same low.1 in
    then_read (state es q (body ns cs ∷ bs)) _ (child x) ((property_places properties ++ (node_places children ++ close ∷ node_places siblings)) ++ places) (read_child es q ns cs bs x new.0 low.0)
    ∙ ap (read_all raw (state es1 (x ∷ q) (body [] [] ∷ outer))) (places_regrouped (property_places properties) (node_places children) (node_places siblings) places)
    ∙ read_properties es1 (x ∷ q) [] [] outer properties behind ok.1.distinct (all_new (map (λ (p : Property). p.name) properties))
    ∙ read_nodes es2 (x ∷ q) (defined_after [] properties) [] outer children (close ∷ (node_places siblings ++ places)) ok.2 ok.3 (all_new (names children)) deeper
    ∙ read_nodes es3 q ns (x ∷ cs) bs siblings places ok.4 d.1 (still_new x cs (names siblings) new.1 d.0) low.2
    ∙ ap (λ z. read_all raw (state z q (body ns (opened_after (x ∷ cs) siblings) ∷ bs)) places)
    (events_regrouped es (property_events (x ∷ q) properties) (node_events (x ∷ q) children) (node_events q siblings) (x ∷ q))

-- ---- the tree

pub tree_read : (t : Reading) → IsValid t → IsWithinLimits t → read_all raw nothing (places_of t) ≡ Ok (state (events_of t) [] [])
tree_read t valid within =
    read_properties (opening [] ∷ []) [] [] [] [] t.properties (node_places t.children ++ close ∷ []) valid.properties.distinct (all_new (map (λ (p : Property). p.name) t.properties))
    ∙ read_nodes (opening [] ∷ property_events [] t.properties) [] (defined_after [] t.properties) [] [] t.children (close ∷ []) valid.nodes valid.siblings (all_new (names t.children)) within.depth
