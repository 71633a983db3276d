-- The event that an answer is read off: the opening of a node that stands, the giving of a label that names a node, and the
-- definition of a value that is left.
use Rattle.std.proofs.Common.{◌≡◌, Bool, true, false, ◌||◌, ◌&&◌, cond, List, [], ◌∷◌, ◌⊎◌, inl, inr, Option, Some, None, refl, sym, ap, subst, ◌∙◌}
use Rattle.std.specs.List.{AllByRecursion, list_any}
use Rattle.std.specs.Option.{option_or}
use Rattle.std.specs.Str.{bytes_eq}
use Rattle.std.proofs.lemmas.Bool.{and_parts}
use Rattle.std.proofs.lemmas.Option.{cond_some}
use Rattle.dt_model.specs.Names.{Name}
use Rattle.dt_model.specs.Path.{path_eq}
use Rattle.dt_model.specs.Event.{Stack, Event, opening, giving, definition, undefinition, deletion, opens, takes, gives, defines, drops, last_where, is_opening, is_giving, defined, stands, value_at, names}
use Rattle.dt_model.proofs.EventSteps.{bytes_eq-is, path_eq-is}
use Rattle.dt_model.proofs.Cases.{either_false, either_left, either_right}

or_some : {A : Type 0} (o p : Option A) (x : A) → option_or o p ≡ Some x → (o ≡ Some x) ⊎ (p ≡ Some x)
or_some None p x h = inr h
or_some (Some y) p x h = inl h

or_none : {A : Type 0} (o p : Option A) → option_or o p ≡ None → (o ≡ None) × (p ≡ None)
or_none None p h = (refl, h)
or_none (Some y) p h = cc

cond_none-no : {A : Type 0} (b : Bool) (x : A) → cond b (Some x) None ≡ None → b ≡ false
cond_none-no true x h = cc
cond_none-no false x h = refl

module _ {V : Type 0} where
  pub last_passes : (test : Event V → Bool) (es : List (Event V)) (e : Event V) → last_where test es ≡ Some e → test e ≡ true
  last_passes test [] e h = cc
  last_passes test (d ∷ es) e h =
      elim (or_some (last_where test es) (cond (test d) (Some d) None) e h) [
        | inl t ↦ last_passes test es e t
        | inr t ↦ let c = cond_some (test d) d e t in subst (λ x. test x ≡ true) c.1 c.0
      ]

  -- what holds of each event holds of the last of some
  pub last_each : (P : Event V → Type 0) (test : Event V → Bool) (es : List (Event V)) (e : Event V) → AllByRecursion P es → last_where test es ≡ Some e → P e
  last_each P test [] e h k = cc
  last_each P test (d ∷ es) e h k =
      elim (or_some (last_where test es) (cond (test d) (Some d) None) e k) [
        | inl t ↦ last_each P test es e h.1 t
        | inr t ↦ subst P (cond_some (test d) d e t).1 h.0
      ]

  pub last_any : (test other : Event V → Bool) (es : List (Event V)) (e : Event V) → last_where other es ≡ Some e → test e ≡ true → list_any test es ≡ true
  last_any test other [] e h k = cc
  last_any test other (d ∷ es) e h k =
      elim (or_some (last_where other es) (cond (other d) (Some d) None) e h) [
        | inl t ↦ either_right (test d) (list_any test es) (last_any test other es e t k)
        | inr t ↦ either_left (test d) (list_any test es) (subst (λ x. test x ≡ true) (sym (cond_some (other d) d e t).1) k)
      ]

  -- where no event passes a test, none does
  pub last_none : (test : Event V → Bool) (es : List (Event V)) → last_where test es ≡ None → AllByRecursion (λ e. test e ≡ false) es
  last_none test [] h = tt
  last_none test (d ∷ es) h =
      let both = or_none (last_where test es) (cond (test d) (Some d) None) h in
      (cond_none-no (test d) d both.1, last_none test es both.0)

  an_opening : (o : Option (Event V)) → is_opening o ≡ true → (p : Stack) × (o ≡ Some (opening p))
  an_opening None h = cc
  an_opening (Some (opening p)) h = (p, refl)
  an_opening (Some (giving l p)) h = cc
  an_opening (Some (definition p n v)) h = cc
  an_opening (Some (undefinition p n)) h = cc
  an_opening (Some (deletion p)) h = cc

  a_giving : (o : Option (Event V)) → is_giving o ≡ true → (l : Name) × (p : Stack) × (o ≡ Some (giving l p))
  a_giving None h = cc
  a_giving (Some (opening p)) h = cc
  a_giving (Some (giving l p)) h = (l, p, refl)
  a_giving (Some (definition p n v)) h = cc
  a_giving (Some (undefinition p n)) h = cc
  a_giving (Some (deletion p)) h = cc

  a_definition : (o : Option (Event V)) (v : V) → defined o ≡ Some v → (p : Stack) × (n : Name) × (o ≡ Some (definition p n v))
  a_definition None v h = cc
  a_definition (Some (opening p)) v h = cc
  a_definition (Some (giving l p)) v h = cc
  a_definition (Some (definition p n w)) v h = let e : w ≡ v = cc in (p, n, ap (λ x. Some (definition p n x)) e)
  a_definition (Some (undefinition p n)) v h = cc
  a_definition (Some (deletion p)) v h = cc

  pub stands_by : (es : List (Event V)) (p : Stack) → stands es p ≡ true → last_where (λ e. opens p e || takes p e) es ≡ Some (opening p)
  stands_by es p h =
      let test : Event V → Bool = λ e. opens p e || takes p e in
      let found = an_opening (last_where test es) h in
      let same : found.0 ≡ p = path_eq-is found.0 p (either_false (path_eq found.0 p) (last_passes test es (opening found.0) found.1)) in
      found.1 ∙ ap (λ q. Some (opening q)) same

  pub names_by : (es : List (Event V)) (l : Name) (p : Stack) → names es l p ≡ true → last_where (λ e. gives l p e || takes p e) es ≡ Some (giving l p)
  names_by es l p h =
      let test : Event V → Bool = λ e. gives l p e || takes p e in
      let found = a_giving (last_where test es) h in
      let k = found.0 in
      let q = found.1 in
      let both = and_parts (bytes_eq k l) (path_eq q p) (either_false (bytes_eq k l && path_eq q p) (last_passes test es (giving k q) found.2)) in
      found.2 ∙ ap (λ m. Some (giving m q)) (bytes_eq-is k l both.0) ∙ ap (λ r. Some (giving l r)) (path_eq-is q p both.1)

  pub value_by : (es : List (Event V)) (p : Stack) (n : Name) (v : V) → value_at es p n ≡ Some v → last_where (λ e. defines p n e || drops p n e) es ≡ Some (definition p n v)
  value_by es p n v h =
      let test : Event V → Bool = λ e. defines p n e || drops p n e in
      let found = a_definition (last_where test es) v h in
      let q = found.0 in
      let m = found.1 in
      let both = and_parts (path_eq q p) (bytes_eq m n) (either_false (path_eq q p && bytes_eq m n) (last_passes test es (definition q m v) found.2)) in
      found.2 ∙ ap (λ r. Some (definition r m v)) (path_eq-is q p both.0) ∙ ap (λ k. Some (definition p k v)) (bytes_eq-is m n both.1)
