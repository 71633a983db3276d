-- The keyed nodes: those that a label names, that a reference names, or that have a written number.
use Rattle.std.proofs.Common.{◌≡◌, Bool, true, false, ◌||◌, List, [], ◌∷◌, inl, inr, Option, Some, sym, ap, subst, ◌∙◌}
use Rattle.std.specs.List.{list_any}
use Rattle.std.specs.Option.{option_map_or}
use Rattle.std.proofs.lemmas.Bool.{or_cases}
use Rattle.dt_model.specs.Names.{Name}
use Rattle.dt_model.specs.Path.{path_eq}
use Rattle.dt_model.specs.Event.{Stack, Event, opening, giving, definition, undefinition, deletion, defines, drops, stands, value_at}
use Rattle.dt_model.specs.Source.{Part, one, number_of, text_of, Events, referent, refers, refers_there, labels_there}
use Rattle.dt_model.proofs.EventSteps.{path_eq-is}
use Rattle.dt_model.proofs.Cases.{map_or_true}
use Rattle.dt_model.proofs.Lasts.{last_any, value_by}
use Rattle.dt_model_laws.proofs.Sound.{Sound}
use Rattle.dt_model_laws.proofs.Holding.{referent_stands}

any_there : {X : Type 0} (test : X → Bool) (xs : List X) → list_any test xs ≡ true → (x : X) × (test x ≡ true)
any_there test [] h = cc
any_there test (x ∷ xs) h = elim (or_cases (test x) (list_any test xs) h) [ inl t ↦ (x, t) | inr t ↦ any_there test xs t ]

-- ---- they stand

module _ (es : Events) (s : Sound es) where
  label_stands : (p : Stack) (e : Event (List Part)) → labels_there es p e ≡ true → stands es p ≡ true
  label_stands p (opening q) h = cc
  label_stands p (giving l q) h = s.labels l p h
  label_stands p (definition q n v) h = cc
  label_stands p (undefinition q n) h = cc
  label_stands p (deletion q) h = cc

  pub labels_stand : (p : Stack) → list_any (labels_there es p) es ≡ true → stands es p ≡ true
  labels_stand p h = let there = any_there (labels_there es p) es h in label_stands p there.0 there.1

  value_stands : (p : Stack) (v : List Part) → refers es p v ≡ true → stands es p ≡ true
  value_stands p [] h = cc
  value_stands p (one b ∷ xs) h = value_stands p xs h
  value_stands p (text_of r ∷ xs) h = value_stands p xs h
  value_stands p (number_of r ∷ xs) h =
      elim (or_cases (option_map_or (path_eq p) (referent es r) false) (refers es p xs) h) [
        | inl t ↦
            let found = map_or_true (path_eq p) (referent es r) t in
            subst (λ q. stands es q ≡ true) (sym (path_eq-is p found.0 found.2)) (referent_stands es s r found.0 found.1)
        | inr t ↦ value_stands p xs t
      ]

  reference_stands : (p : Stack) (e : Event (List Part)) → refers_there es p e ≡ true → stands es p ≡ true
  reference_stands p (opening q) h = cc
  reference_stands p (giving l q) h = cc
  reference_stands p (definition q n v) h = let found = map_or_true (refers es p) (value_at es q n) h in value_stands p found.0 found.2
  reference_stands p (undefinition q n) h = cc
  reference_stands p (deletion q) h = cc

  pub references_stand : (p : Stack) → list_any (refers_there es p) es ≡ true → stands es p ≡ true
  references_stand p h = let there = any_there (refers_there es p) es h in reference_stands p there.0 there.1

-- ---- what a value refers to is keyed

pub referred_there : (es : Events) (p : Stack) (n : Name) (v : List Part) (q : Stack) → value_at es p n ≡ Some v → refers es q v ≡ true → list_any (refers_there es q) es ≡ true
referred_there es p n v q h k =
    last_any (refers_there es q) (λ e. defines p n e || drops p n e) es (definition p n v) (value_by es p n v h)
    (ap (λ (o : Option (List Part)). option_map_or (refers es q) o false) h ∙ k)
