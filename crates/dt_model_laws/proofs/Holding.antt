-- What is true after each place that is read, kept by the next.
use Rattle.std.proofs.Common.{◌≡◌, true, false, ◌||◌, List, [], ◌∷◌, ◌++◌, drop, inl, inr, Option, Some, Ok, sym, ap, subst, ◌∙◌}
use Rattle.std.specs.List.{AllByRecursion}
use Rattle.std.specs.Option.{option_map_or}
use Rattle.dt_model.specs.Names.{Name}
use Rattle.dt_model.specs.Path.{path_eq}
use Rattle.dt_model.specs.Event.{Stack, Event, opening, giving, definition, undefinition, deletion, opens, takes, defines, drops, gives, stands, value_at, names}
use Rattle.dt_model.specs.Source.{Reference, by_label, by_path, Part, Place, root, block, delete_node, child, label, property, delete_property, delete_child, close, Mode, Events, Body, SoFar, is_reserved, labelled, referent, and_then, enter, read}
use Rattle.dt_model.proofs.EventSteps.{stands-push, path_eq-is}
use Rattle.dt_model.proofs.Tests.{each_append}
use Rattle.dt_model_laws.proofs.Stands.{child_not_within, opened_itself, not_deleted}
use Rattle.dt_model.proofs.Lasts.{last_each, stands_by, names_by, value_by}
use Rattle.dt_model.proofs.Labels.{labelled_names, labelled_none, some_label, by_path_stands}
use Rattle.dt_model_laws.proofs.Sound.{Sound, sound-opening, sound-giving, sound-definition, sound-undefinition, sound-deletion}
use Rattle.dt_model_laws.proofs.Making.{with_child, with_property, Makes, makes}

-- what is asked of each node that is opened, each label that is given, and each property that is defined
pub record Rules : Type 1 where
  pub node : Stack → Type 0
  pub label : Name → Type 0
  pub value : Name → List Part → Type 0

-- the event is as the rules ask
abbrev pub Follows : Rules → Event (List Part) → Type 0
Follows r (opening q) = r.node q
Follows r (giving l q) = r.label l
Follows r (definition q n v) = r.value n v
Follows r (undefinition q n) = Unit {0}
Follows r (deletion q) = Unit {0}

-- the place makes events that are as the rules ask
abbrev pub Obeys : Rules → Mode → Place → Type 0
Obeys r mode root = Unit {0}
Obeys r mode (block b) = Unit {0}
Obeys r mode (delete_node b) = Unit {0}
Obeys r mode (child n) = (p : Stack) → r.node p → is_reserved mode p n ≡ false → r.node (n ∷ p)
Obeys r mode (label l) = r.label l
Obeys r mode (property n v) = r.value n v
Obeys r mode (delete_property n) = Unit {0}
Obeys r mode (delete_child n) = Unit {0}
Obeys r mode close = Unit {0}

pub record Holds (r : Rules) (s : SoFar) : Type 0 where
  pub sound : Sound s.events
  -- the node of an open body stands
  pub here : (b : Body) (bs : List Body) → s.bodies ≡ b ∷ bs → stands s.events s.node ≡ true
  pub each : AllByRecursion (Follows r) s.events

module _ (r : Rules) where
  -- what stands, names and is left is as the rules ask
  pub node_follows : (es : Events) (p : Stack) → AllByRecursion (Follows r) es → stands es p ≡ true → r.node p
  node_follows es p each h = last_each (Follows r) (λ e. opens p e || takes p e) es (opening p) each (stands_by es p h)

  pub label_follows : (es : Events) (l : Name) (p : Stack) → AllByRecursion (Follows r) es → names es l p ≡ true → r.label l
  label_follows es l p each h = last_each (Follows r) (λ e. gives l p e || takes p e) es (giving l p) each (names_by es l p h)

  pub value_follows : (es : Events) (p : Stack) (n : Name) (v : List Part) → AllByRecursion (Follows r) es → value_at es p n ≡ Some v → r.value n v
  value_follows es p n v each h = last_each (Follows r) (λ e. defines p n e || drops p n e) es (definition p n v) each (value_by es p n v h)

  one_more : (es : Events) (e : Event (List Part)) → AllByRecursion (Follows r) es → Follows r e → AllByRecursion (Follows r) (es ++ e ∷ [])
  one_more es e each f = each_append (Follows r) es (e ∷ []) each (f, tt)

-- a reference that names a node names one that stands
pub referent_stands : (es : Events) (s : Sound es) (b : Reference) (p : Stack) → referent es b ≡ Some p → stands es p ≡ true
referent_stands es s (by_label l) p h = s.labels l p (labelled_names es l p h)
referent_stands es s (by_path q) p h = by_path_stands es _ p h

-- the label that may be given to a node names no other
label_free : (es : Events) (s : Sound es) (l : Name) (q : Stack) → option_map_or (λ p. path_eq p q) (labelled es l) true ≡ true → (a : Stack) → names es l a ≡ true → a ≡ q
label_free es s l q h a named =
    elim (some_label es l) [
      | inl none ↦ let no : names es l a ≡ false = labelled_none es l a none in cc
      | inr some ↦
          let same : path_eq some.0 q ≡ true = ap (λ (o : Option Stack). option_map_or (λ p. path_eq p q) o true) (sym some.1) ∙ h in
          s.one l a some.0 named (labelled_names es l some.0 some.1) ∙ path_eq-is some.0 q same
    ]

module _ (r : Rules) (s : SoFar) (h : Holds r s) where
  pub holds-enter : (p : Stack) (bodies : List Body) → ((x : Name) (q : Stack) → p ≡ x ∷ q → stands s.events q ≡ true) → r.node p → Holds r (enter s p bodies)
  holds-enter p bodies parent follows = record {
    sound = sound-opening s.events h.sound p parent;
    here = λ b bs e. opened_itself s.events p;
    each = one_more r s.events (opening p) h.each follows;
  }

  -- a node that stands is opened again
  pub holds-again : (p : Stack) (bodies : List Body) → stands s.events p ≡ true → Holds r (enter s p bodies)
  holds-again p bodies there =
      holds-enter p bodies (λ x q e. h.sound.parents x q (subst (λ a. stands s.events a ≡ true) e there)) (node_follows r s.events p h.each there)

  holds-child : (b : Body) (bs bodies : List Body) (n : Name) → s.bodies ≡ b ∷ bs → r.node (n ∷ s.node) → Holds r (enter s (n ∷ s.node) bodies)
  holds-child b bs bodies n open_ follows =
      holds-enter (n ∷ s.node) bodies (λ x q e. let same : s.node ≡ q = cc in subst (λ a. stands s.events a ≡ true) same (h.here b bs open_)) follows

  holds-label : (b : Body) (bs : List Body) (l : Name) → s.bodies ≡ b ∷ bs → option_map_or (λ p. path_eq p s.node) (labelled s.events l) true ≡ true → r.label l
      → Holds r (and_then s (giving l s.node))
  holds-label b bs l open_ free follows =
      let there = h.here b bs open_ in
      record {
        sound = sound-giving s.events h.sound l s.node there (label_free s.events h.sound l s.node free);
        here = λ b bs e. stands-push s.events (giving l s.node) s.node ∙ there;
        each = one_more r s.events (giving l s.node) h.each follows;
      }

  pub holds-property : (b : Body) (bs bodies : List Body) (n : Name) (v : List Part) → s.bodies ≡ b ∷ bs → r.value n v
      → Holds r (record { events = s.events ++ definition s.node n v ∷ []; node = s.node; bodies = bodies })
  holds-property b bs bodies n v open_ follows =
      let there = h.here b bs open_ in
      record {
        sound = sound-definition s.events h.sound s.node n v there;
        here = λ b bs e. stands-push s.events (definition s.node n v) s.node ∙ there;
        each = one_more r s.events (definition s.node n v) h.each follows;
      }

  holds-delete_property : (b : Body) (bs : List Body) (n : Name) → s.bodies ≡ b ∷ bs → Holds r (and_then s (undefinition s.node n))
  holds-delete_property b bs n open_ = record {
    sound = sound-undefinition s.events h.sound s.node n;
    here = λ c cs e. stands-push s.events (undefinition s.node n) s.node ∙ h.here b bs open_;
    each = one_more r s.events (undefinition s.node n) h.each tt;
  }

  holds-delete_child : (b : Body) (bs : List Body) (n : Name) → s.bodies ≡ b ∷ bs → Holds r (and_then s (deletion (n ∷ s.node)))
  holds-delete_child b bs n open_ = record {
    sound = sound-deletion s.events h.sound n s.node;
    here = λ c cs e. not_deleted s.events (n ∷ s.node) s.node (child_not_within n s.node) (h.here b bs open_);
    each = one_more r s.events (deletion (n ∷ s.node)) h.each tt;
  }

  holds-delete_node : (x : Name) (p : Stack) → s.bodies ≡ [] → Holds r (and_then s (deletion (x ∷ p)))
  holds-delete_node x p closed = record {
    sound = sound-deletion s.events h.sound x p;
    here = λ b bs e. let z : [] ≡ b ∷ bs = sym closed ∙ e in cc;
    each = one_more r s.events (deletion (x ∷ p)) h.each tt;
  }

  parent_stands : (p : Stack) → stands s.events p ≡ true → stands s.events (drop 1 p) ≡ true
  parent_stands [] there = there
  parent_stands (x ∷ p) there = h.sound.parents x p there

  holds-close : (b : Body) (bs : List Body) → s.bodies ≡ b ∷ bs → Holds r (record { events = s.events; node = drop 1 s.node; bodies = bs })
  holds-close b bs open_ = record {
    sound = h.sound;
    here = λ c cs e. parent_stands s.node (h.here b bs open_);
    each = h.each;
  }

  pub holds-made : (mode : Mode) (place : Place) (t : SoFar) → Obeys r mode place → Makes mode s place t → Holds r t
  holds-made mode root t o m = subst (Holds r) (sym m.1) (holds-again [] [] h.sound.rooted)
  holds-made mode (block b) t o m = subst (Holds r) (sym m.1.2) (holds-again m.1.0 [] (referent_stands s.events h.sound b m.1.0 m.1.1))
  holds-made mode (delete_node b) t o m = subst (Holds r) (sym m.1.3) (holds-delete_node m.1.0 m.1.1 m.0)
  holds-made mode (child n) t o m =
      subst (Holds r) (sym m.3.2) (holds-child m.0 m.1 (with_child n m.0 ∷ m.1) n m.2 (o s.node (node_follows r s.events s.node h.each (h.here m.0 m.1 m.2)) m.3.0))
  holds-made mode (label l) t o m = subst (Holds r) (sym m.3.1) (holds-label m.0 m.1 l m.2 m.3.0 o)
  holds-made mode (property n v) t o m = subst (Holds r) (sym m.3.1) (holds-property m.0 m.1 (with_property n m.0 ∷ m.1) n v m.2 o)
  holds-made mode (delete_property n) t o m = subst (Holds r) (sym m.3) (holds-delete_property m.0 m.1 n m.2)
  holds-made mode (delete_child n) t o m = subst (Holds r) (sym m.3) (holds-delete_child m.0 m.1 n m.2)
  holds-made mode close t o m = subst (Holds r) (sym m.3) (holds-close m.0 m.1 m.2)

pub holds-read : (r : Rules) (mode : Mode) (s t : SoFar) (place : Place) → Holds r s → Obeys r mode place → read mode s place ≡ Ok t → Holds r t
holds-read r mode s t place h o e = holds-made r s h mode place t o (makes mode s place t e)
