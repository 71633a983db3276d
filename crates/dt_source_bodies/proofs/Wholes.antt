-- From the steps of reading to what the code says of them.
use Rattle.std.proofs.Common.{◌≡◌, ℕ, ◌+◌, ◌<◌, ◌≤◌, Bool, List, [], ◌∷◌, ◌++◌, Option, Some, None, Result, Ok, Err, inl, inr, is_some, length, take, drop, get_or, refl, sym, ◌∙◌, ap, subst, arith}
use Rattle.std.specs.List.{AllByRecursion}
use Rattle.std.specs.Option.{option_and_then}
use Rattle.dt_model.specs.Names.{Name}
use Rattle.dt_model.specs.Event.{Stack, Event, opens, takes, gives, defines, drops, age_by, age, property_age, label_age}
use Rattle.dt_model.specs.Source.{Mode, Place, Refusal, SoFar, nothing, read, and_if_read, read_all}
use Rattle.std.proofs.lemmas.List.{take_more, take-append-drop}
use Rattle.dt_names.specs.declared.fault.Fault.{Fault}
use Rattle.dt_source_growing.specs.Shape.{AreAged, node_at, property_at, given_at, Shows}
use Rattle.dt_source_growing.specs.Growing.{shape}
use Rattle.dt_source_bodies.specs.Reading.{Holds, GoesOn, IsWhole}
use Rattle.dt_source_bodies.specs.Refusals.{refusal_kind, TellsRefusal, WhyNotGrown}
use Rattle.dt_source_bodies.specs.declared.reading.OpenBody.{OpenBody}
use Rattle.dt_source_bodies.specs.declared.reading.Reading.{Reading}
use Rattle.dt_source_bodies.proofs.Bodies.{View}
use Rattle.dt_source_growing.proofs.Walks.{before_root}
use Rattle.dt_source_bodies.proofs.Items.{Goes}

pub goes_on : (o : Result SoFar Refusal) (r : Reading) (n : ℕ) → Goes o (shape r.growing) r.bodies.items n → GoesOn o r n
goes_on o r n g = subst (λ o. GoesOn o r n) (sym g.1) g.2

-- with one more open body
pub goes_on_more : (o : Result SoFar Refusal) (r : Reading) (n : ℕ) (bodies : List OpenBody) → r.bodies.items ≡ bodies → Goes o (shape r.growing) bodies n → GoesOn o r n
goes_on_more o r n bodies e g = goes_on o r n (subst (λ bs. Goes o (shape r.growing) bs n) (sym e) g)

pub tells : (o : Result SoFar Refusal) (r : Refusal) (fault : Fault) → o ≡ Err r → fault.kind ≡ refusal_kind r → fault.at ≡ None → TellsRefusal o fault
tells o r fault e kind at = (at, inr (r, e, kind))

-- ---- the bodies of a whole reading

pub all_push : {A : Type 0} (P : A → Type 0) (xs : List A) (x : A) → AllByRecursion P xs → P x → AllByRecursion P (xs ++ x ∷ [])
all_push P [] x h p = (p, tt)
all_push P (y ∷ xs) x h p = (h.0, all_push P xs x h.1 p)

pub all_front : {A : Type 0} (P : A → Type 0) (xs ys : List A) → AllByRecursion P (xs ++ ys) → AllByRecursion P xs
all_front P [] ys h = tt
all_front P (x ∷ xs) ys h = (h.0, all_front P xs ys h.1)

pub all_weaker : {A : Type 0} (P Q : A → Type 0) → ((x : A) → P x → Q x) → (xs : List A) → AllByRecursion P xs → AllByRecursion Q xs
all_weaker P Q f [] h = tt
all_weaker P Q f (x ∷ xs) h = (f x h.0, all_weaker P Q f xs h.1)

abbrev pub AreInside : ℕ → List OpenBody → Type 0
AreInside size bodies = AllByRecursion (λ (b : OpenBody). b.node < size) bodies

pub inside_more : (size more : ℕ) (bodies : List OpenBody) → size ≤ more → AreInside size bodies → AreInside more bodies
inside_more size more bodies le h = all_weaker (λ (b : OpenBody). b.node < size) (λ (b : OpenBody). b.node < more) (λ b less. omega (arith, less, le)) bodies h

pub whole_more : (old new : Reading) (e : OpenBody) → IsWhole old → length old.growing.nodes.items ≤ length new.growing.nodes.items → e.node < length new.growing.nodes.items
    → new.bodies.items ≡ old.bodies.items ++ e ∷ [] → IsWhole new
whole_more old new e h le inside is = record {
  inside = subst (AreInside (length new.growing.nodes.items)) (sym is)
      (all_push (λ (b : OpenBody). b.node < length new.growing.nodes.items) old.bodies.items e (inside_more (length old.growing.nodes.items) (length new.growing.nodes.items) old.bodies.items le h.inside) inside);
}

pub whole_same : (old new : Reading) → IsWhole old → length old.growing.nodes.items ≤ length new.growing.nodes.items → new.bodies.items ≡ old.bodies.items → IsWhole new
whole_same old new h le is = record {
  inside = subst (AreInside (length new.growing.nodes.items)) (sym is) (inside_more (length old.growing.nodes.items) (length new.growing.nodes.items) old.bodies.items le h.inside);
}

-- ---- nothing stands for nothing

aged_nothing : {X : Type 0} (index : X → Option ℕ) (age : X → ℕ) → ((x : X) → index x ≡ None) → ((x : X) → age x ≡ 0) → AreAged index age
aged_nothing index age none zero = record {
  old = λ x i at. let e : None ≡ Some i = sym (none x) ∙ at in cc;
  unborn = λ x _. zero x;
  order = λ x y i j at at' less. let e : None ≡ Some i = sym (none x) ∙ at in cc;
}

no_age : {V : Type 0} (starts resets : Event V → Bool) → age_by starts resets [] ≡ 0
unfolding age_by
no_age starts resets = refl

shows_nothing : (s : View) → s.size ≡ 0 → Shows s []
shows_nothing s z =
    let none : (p : Stack) → node_at s p ≡ None = before_root s z in
    record {
      nodes = λ p. ap is_some (none p);
      values = λ p n. ap (λ (o : Option ℕ). option_and_then s.value (option_and_then (λ i. s.property i n) o)) (none p);
      labels = λ p l. ap (λ (o : Option ℕ). is_some (option_and_then (λ i. s.given i l) o)) (none p);
      node_ages = aged_nothing (node_at s) (age []) none (λ p. no_age (opens p) (takes p));
      property_ages = aged_nothing (property_at s) (λ x. property_age [] x.0 x.1) (λ x. ap (option_and_then (λ i. s.property i x.1)) (none x.0)) (λ x. no_age (defines x.0 x.1) (drops x.0 x.1));
      label_ages = aged_nothing (given_at s) (λ x. label_age [] x.1 x.0) (λ x. ap (option_and_then (λ i. s.given i x.1)) (none x.0)) (λ x. no_age (gives x.1 x.0) (takes x.0));
    }

pub holds_nothing : (r : Reading) → r.growing.nodes.items ≡ [] → r.bodies.items ≡ [] → ((i : ℕ) (x : Name) → (shape r.growing).opened i x ≡ None) → ((i : ℕ) (x : Name) → (shape r.growing).defined i x ≡ None) → Holds r 0 nothing
holds_nothing r nodes bodies opened defined = record {
  shows = shows_nothing (shape r.growing) (ap length nodes);
  shallow = λ p e. cc;
  open_bodies = bodies;
  opened_before = λ i x k e. let c : None ≡ Some k = sym (opened i x) ∙ e in cc;
  defined_before = λ i x k e. let c : None ≡ Some k = sym (defined i x) ∙ e in cc;
}

-- ---- one more item

and_if_ok : (o : Result SoFar Refusal) → and_if_read o (λ u. Ok u) ≡ o
and_if_ok (Ok u) = refl
and_if_ok (Err r) = refl

read_all-append : (m : Mode) (u : SoFar) (xs ys : List Place) → read_all m u (xs ++ ys) ≡ and_if_read (read_all m u xs) (λ t. read_all m t ys)
read_all-append m u [] ys = refl
read_all-append m u (x ∷ xs) ys =
    elim (read m u x) as (λ o. and_if_read o (λ t. read_all m t (xs ++ ys)) ≡ and_if_read (and_if_read o (λ t. read_all m t xs)) (λ t. read_all m t ys))
    [ Ok t ↦ read_all-append m t xs ys | Err r ↦ refl ]

read_one-more : (m : Mode) (xs : List Place) (x : Place) (u : SoFar) → read_all m nothing xs ≡ Ok u → read_all m nothing (xs ++ x ∷ []) ≡ read m u x
read_one-more m xs x u h = read_all-append m nothing xs (x ∷ []) ∙ ap (λ o. and_if_read o (λ t. and_if_read (read m t x) (λ v. Ok v))) h ∙ and_if_ok (read m u x)

pub goes_on-is : (o : Result SoFar Refusal) (r : Reading) (n : ℕ) → GoesOn o r n → (u : SoFar) × (o ≡ Ok u) × Holds r n u
goes_on-is (Ok u) r n h = (u, refl, h)
goes_on-is (Err f) r n h = absurd h

-- after one more item of the list
pub read_more : (m : Mode) (places : List Place) (i : ℕ) (x : Place) (u : SoFar) → i < length places → x ≡ get_or places i x → read_all m nothing (take i places) ≡ Ok u
    → read_all m nothing (take (i + 1) places) ≡ read m u x
read_more m places i x u b e h =
    let t : take (i + 1) places ≡ take i places ++ x ∷ [] = take_more places i x b ∙ ap (λ y. take i places ++ y ∷ []) (sym e) in
    ap (read_all m nothing) t ∙ read_one-more m (take i places) x u h

-- a refusal in the list is the list's
read_refused : (m : Mode) (places : List Place) (i : ℕ) (x : Place) (u : SoFar) (r : Refusal) → i < length places → x ≡ get_or places i x → read_all m nothing (take i places) ≡ Ok u
    → read m u x ≡ Err r → read_all m nothing places ≡ Err r
read_refused m places i x u r b e h k =
    let whole : take (i + 1) places ++ drop (i + 1) places ≡ places = take-append-drop (i + 1) places in
    ap (read_all m nothing) (sym whole) ∙ read_all-append m nothing (take (i + 1) places) (drop (i + 1) places)
    ∙ ap (λ o. and_if_read o (λ t. read_all m t (drop (i + 1) places))) (read_more m places i x u b e h ∙ k)

pub told : (m : Mode) (places : List Place) (i : ℕ) (x : Place) (u : SoFar) (fault : Fault) → i < length places → x ≡ get_or places i x → read_all m nothing (take i places) ≡ Ok u
    → TellsRefusal (read m u x) fault → WhyNotGrown m places fault
told m places i x u fault b e h (at, inl memory) = (at, inl memory)
told m places i x u fault b e h (at, inr (r, k, kind)) = (at, inr (r, read_refused m places i x u r b e h k, kind))
