-- No node that stands after the places of a source is deeper than the limit.
use Rattle.std.proofs.Common.{◌≡◌, ◌≤◌, ◌<◌, true, List, [], ◌∷◌, ◌++◌, length, nat_le, inl, inr, Ok, sym, ap, subst, ◌∙◌, arith}
use Rattle.std.proofs.lemmas.Bool.{leb-false}
use Rattle.dt_model.specs.Limits.{most_names}
use Rattle.dt_model.specs.Names.{Name}
use Rattle.dt_model.specs.Event.{Stack, Event, opening, giving, definition, undefinition, deletion, stands}
use Rattle.dt_model.specs.Source.{Part, Place, root, block, delete_node, child, label, property, delete_property, delete_child, close, Mode, reserved_name, duplicate_node, too_deep, Events, SoFar, nothing, is_reserved, is_among, enter, open_child, read, read_all}
use Rattle.dt_model.proofs.EventSteps.{stands-push}
use Rattle.dt_model_laws.specs.NamedTrees.{NodesAreShallow}
use Rattle.dt_model.proofs.Cases.{not_refused}
use Rattle.dt_model_laws.proofs.Stands.{opened, deleted}
use Rattle.dt_model_laws.proofs.Making.{Makes, makes, inside_ok, with_child}
use Rattle.dt_model_laws.proofs.Holding.{Holds, holds-read, referent_stands}
use Rattle.dt_model_laws.proofs.ReadAll.{if_read_ok, first_is, holds-first, no_rules, any_obeys}

-- no node that stands is deeper than the limit
abbrev pub AreShallow : Events → Type 0
AreShallow es = (p : Stack) → stands es p ≡ true → length p ≤ most_names

pub shallow-opening : (es : Events) (q : Stack) → AreShallow es → length q ≤ most_names → AreShallow (es ++ opening q ∷ [])
shallow-opening es q shallow low p h =
    elim (opened es q p h) [ inl same ↦ subst (λ r. length r ≤ most_names) same low | inr before ↦ shallow p before ]

shallow-deletion : (es : Events) (q : Stack) → AreShallow es → AreShallow (es ++ deletion q ∷ [])
shallow-deletion es q shallow p h = shallow p (deleted es q p h).1

-- a child that is opened isn't too deep
low_child : (mode : Mode) (s t : SoFar) (n : Name) → read mode s (child n) ≡ Ok t → length (n ∷ s.node) ≤ most_names
low_child mode s t n h =
    let i = inside_ok s.bodies (open_child mode s n) t h in
    let reserved = not_refused (is_reserved mode s.node n) reserved_name _ t i.3 in
    let second = not_refused (is_among n (i.0).children) duplicate_node _ t reserved.1 in
    let deep = not_refused (nat_le most_names (length s.node)) too_deep (Ok (enter s (n ∷ s.node) (with_child n i.0 ∷ i.1))) t second.1 in
    let low : length s.node < most_names = leb-false most_names (length s.node) deep.0 in
    omega arith

module _ (mode : Mode) (s t : SoFar) (holds : Holds no_rules s) (shallow : AreShallow s.events) where
  -- nothing is opened
  same_nodes : (e : Event (List Part)) → t.events ≡ s.events ++ e ∷ [] → ((p : Stack) → stands (s.events ++ e ∷ []) p ≡ stands s.events p) → AreShallow t.events
  same_nodes e is same p h = shallow p (sym (same p) ∙ ap (λ es. stands es p) (sym is) ∙ h)

  pub shallow-read : (place : Place) → read mode s place ≡ Ok t → Makes mode s place t → AreShallow t.events
  shallow-read root r m = subst (λ (u : SoFar). AreShallow u.events) (sym m.1) (shallow-opening s.events [] shallow (omega arith))
  shallow-read (block b) r m =
      subst (λ (u : SoFar). AreShallow u.events) (sym m.1.2)
      (shallow-opening s.events m.1.0 shallow (shallow m.1.0 (referent_stands s.events holds.sound b m.1.0 m.1.1)))
  shallow-read (delete_node b) r m = subst (λ (u : SoFar). AreShallow u.events) (sym m.1.3) (shallow-deletion s.events (m.1.0 ∷ m.1.1) shallow)
  shallow-read (child n) r m =
      subst (λ (u : SoFar). AreShallow u.events) (sym m.3.2) (shallow-opening s.events (n ∷ s.node) shallow (low_child mode s t n r))
  shallow-read (label l) r m = same_nodes (giving l s.node) (ap (λ u. u.events) m.3.1) (stands-push s.events (giving l s.node))
  shallow-read (property n v) r m = same_nodes (definition s.node n v) (ap (λ u. u.events) m.3.1) (stands-push s.events (definition s.node n v))
  shallow-read (delete_property n) r m = same_nodes (undefinition s.node n) (ap (λ u. u.events) m.3) (stands-push s.events (undefinition s.node n))
  shallow-read (delete_child n) r m = subst (λ (u : SoFar). AreShallow u.events) (sym m.3) (shallow-deletion s.events (n ∷ s.node) shallow)
  shallow-read close r m = subst (λ (u : SoFar). AreShallow u.events) (sym m.3) shallow

shallow-all : (mode : Mode) (s t : SoFar) (places : List Place) → Holds no_rules s → AreShallow s.events → read_all mode s places ≡ Ok t → AreShallow t.events
shallow-all mode s t [] holds shallow e = let same : s ≡ t = cc in subst (λ (u : SoFar). AreShallow u.events) same shallow
shallow-all mode s t (place ∷ places) holds shallow e =
    let step = if_read_ok (read mode s place) (λ u. read_all mode u places) t e in
    shallow-all mode step.0 t places (holds-read no_rules mode s step.0 place holds (any_obeys mode place) step.1)
    (shallow-read mode s step.0 holds shallow place step.1 (makes mode s place step.0 step.1)) step.2

shallow-nothing : AreShallow []
shallow-nothing p h = cc

pub nodes_are_shallow : NodesAreShallow
nodes_are_shallow mode [] s e = let same : nothing ≡ s = cc in subst (λ (u : SoFar). AreShallow u.events) same shallow-nothing
nodes_are_shallow mode (place ∷ places) s e =
    let step = if_read_ok (read mode nothing place) (λ u. read_all mode u places) s e in
    let first : step.0 ≡ enter nothing [] [] = first_is mode place step.0 (makes mode nothing place step.0 step.1) in
    shallow-all mode (enter nothing [] []) s places (holds-first no_rules tt) (shallow-opening [] [] shallow-nothing (omega arith))
    (ap (λ u. read_all mode u places) (sym first) ∙ step.2)
