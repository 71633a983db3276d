-- The node that a label names, and what a reference refers to.
use Rattle.std.proofs.Common.{◌≡◌, Bool, true, false, ◌||◌, ◌&&◌, cond, List, ◌⊎◌, inl, inr, Option, Some, None, refl, sym, ap, subst, ◌∙◌}
use Rattle.std.specs.List.{list_any}
use Rattle.std.specs.Option.{option_map}
use Rattle.std.specs.Str.{bytes_eq}
use Rattle.std.proofs.lemmas.Bool.{and_parts, cases_Bool}
use Rattle.std.proofs.lemmas.Option.{cond_some}
use Rattle.dt_model.specs.Names.{Name}
use Rattle.dt_model.specs.Event.{Stack, Event, opening, giving, definition, undefinition, deletion, takes, gives, last_where, stands, names}
use Rattle.dt_model.specs.Source.{Part, Events, gives_label, node_of, labelled, labels_there}
use Rattle.dt_model.proofs.EventSteps.{bytes_eq-is, bytes_eq-refl}
use Rattle.dt_model.proofs.Cases.{map_some}
use Rattle.dt_model.proofs.Lasts.{last_passes, last_each, last_any, last_none, names_by}

-- the event that a label's node is read off
a_label : (l : Name) (e : Event (List Part)) → gives_label l e ≡ true → (k : Name) × (q : Stack) × (e ≡ giving k q) × (k ≡ l)
a_label l (opening q) h = cc
a_label l (giving k q) h = (k, q, refl, bytes_eq-is k l h)
a_label l (definition q n v) h = cc
a_label l (undefinition q n) h = cc
a_label l (deletion q) h = cc

pub labelled_by : (es : Events) (l : Name) (p : Stack) → labelled es l ≡ Some p → (last_where (λ e. gives_label l e && names es l (node_of e)) es ≡ Some (giving l p)) × (names es l p ≡ true)
labelled_by es l p h =
    let test : Event (List Part) → Bool = λ e. gives_label l e && names es l (node_of e) in
    let found = map_some node_of (last_where test es) p h in
    let both = and_parts (gives_label l found.0) (names es l (node_of found.0)) (last_passes test es found.0 found.1) in
    let a = a_label l found.0 both.0 in
    let q : a.1 ≡ p = sym (ap node_of a.2) ∙ found.2 in
    let e : found.0 ≡ giving l p = a.2 ∙ ap (λ k. giving k a.1) a.3 ∙ ap (giving l) q in
    (found.1 ∙ ap Some e, subst (λ r. names es l r ≡ true) found.2 both.1)

pub labelled_names : (es : Events) (l : Name) (p : Stack) → labelled es l ≡ Some p → names es l p ≡ true
labelled_names es l p h = (labelled_by es l p h).1

-- a label's node has a label
pub labelled_there : (es : Events) (l : Name) (p : Stack) → labelled es l ≡ Some p → list_any (labels_there es p) es ≡ true
labelled_there es l p h =
    let by = labelled_by es l p h in
    last_any (labels_there es p) (λ e. gives_label l e && names es l (node_of e)) es (giving l p) by.0 by.1

map_none : {A B : Type 0} (f : A → B) (o : Option A) → option_map f o ≡ None → o ≡ None
map_none f None h = refl
map_none f (Some x) h = cc

pub labelled_none : (es : Events) (l : Name) (p : Stack) → labelled es l ≡ None → names es l p ≡ false
labelled_none es l p h =
    let test : Event (List Part) → Bool = λ e. gives_label l e && names es l (node_of e) in
    elim (cases_Bool (names es l p)) [
      | inl y ↦
          let none = last_none test es (map_none node_of (last_where test es) h) in
          let no : (bytes_eq l l && names es l p) ≡ false = last_each (λ e. test e ≡ false) (λ e. gives l p e || takes p e) es (giving l p) none (names_by es l p y) in
          let z : (true && names es l p) ≡ false = ap (λ b. b && names es l p) (sym (bytes_eq-refl l)) ∙ no in
          z
      | inr n ↦ n
    ]

-- what a label names exactly stands where a reference by it refers to
pub some_label : (es : Events) (l : Name) → (labelled es l ≡ None) ⊎ ((p : Stack) × (labelled es l ≡ Some p))
some_label es l = some_or (labelled es l) where
  some_or : (o : Option Stack) → (o ≡ None) ⊎ ((p : Stack) × (o ≡ Some p))
  some_or None = inl refl
  some_or (Some p) = inr (p, refl)

-- the node of a reference by a path
pub by_path_stands : (es : Events) (p : Stack) (q : Stack) → cond (stands es p) (Some p) None ≡ Some q → stands es q ≡ true
by_path_stands es p q h = let c = cond_some (stands es p) p q h in subst (λ r. stands es r ≡ true) c.1 c.0
