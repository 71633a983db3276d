-- What is true of all events of a source, and stays true with one more: a node that stands has a parent that stands, what
-- has a value or a label stands, and a label names one node.
use Rattle.std.proofs.Common.{◌≡◌, true, List, [], ◌∷◌, ◌++◌, ◌⊎◌, inl, inr, Some, refl, sym, subst, ◌∙◌}
use Rattle.dt_model.specs.Names.{Name}
use Rattle.dt_model.specs.Event.{Stack, opening, giving, definition, undefinition, deletion, stands, value_at, names}
use Rattle.dt_model.specs.Source.{Part, Events}
use Rattle.dt_model.proofs.EventSteps.{stands-push, value_at-push, names-push}
use Rattle.dt_model_laws.proofs.Stands.{not_within_parent, opened, opened_before, deleted, not_deleted, given, name_kept, put, value_left, value_kept}

pub record Sound (es : Events) : Type 0 where
  pub rooted : stands es [] ≡ true
  pub parents : (x : Name) (p : Stack) → stands es (x ∷ p) ≡ true → stands es p ≡ true
  pub values : (p : Stack) (n : Name) (v : List Part) → value_at es p n ≡ Some v → stands es p ≡ true
  pub labels : (l : Name) (p : Stack) → names es l p ≡ true → stands es p ≡ true
  pub one : (l : Name) (p q : Stack) → names es l p ≡ true → names es l q ≡ true → p ≡ q

pub sound-start : Sound (opening [] ∷ [])
sound-start = record {
  rooted = refl;
  parents = λ x p h. cc;
  values = λ p n v h. cc;
  labels = λ l p h. cc;
  one = λ l p q h k. cc;
}

module _ (es : Events) (s : Sound es) where
  pub sound-opening : (q : Stack) → ((x : Name) (p : Stack) → q ≡ x ∷ p → stands es p ≡ true) → Sound (es ++ opening q ∷ [])
  sound-opening q parent = record {
    rooted = opened_before es q [] s.rooted;
    parents = λ x p h. opened_before es q p (elim (opened es q (x ∷ p) h) [ inl e ↦ parent x p e | inr t ↦ s.parents x p t ]);
    values = λ p n v h. opened_before es q p (s.values p n v (sym (value_at-push es (opening q) p n) ∙ h));
    labels = λ l p h. opened_before es q p (s.labels l p (sym (names-push es (opening q) l p) ∙ h));
    one = λ l p r h k. s.one l p r (sym (names-push es (opening q) l p) ∙ h) (sym (names-push es (opening q) l r) ∙ k);
  }

  -- the label names no other node
  one-given : (k l : Name) (q p r : Stack) → ((a : Stack) → names es k a ≡ true → a ≡ q) → ((k ≡ l) × (q ≡ p)) ⊎ (names es l p ≡ true) → ((k ≡ l) × (q ≡ r)) ⊎ (names es l r ≡ true) → p ≡ r
  one-given k l q p r own (inl a) (inl b) = sym a.1 ∙ b.1
  one-given k l q p r own (inl a) (inr b) = sym a.1 ∙ sym (own r (subst (λ m. names es m r ≡ true) (sym a.0) b))
  one-given k l q p r own (inr a) (inl b) = own p (subst (λ m. names es m p ≡ true) (sym b.0) a) ∙ b.1
  one-given k l q p r own (inr a) (inr b) = s.one l p r a b

  pub sound-giving : (k : Name) (q : Stack) → stands es q ≡ true → ((a : Stack) → names es k a ≡ true → a ≡ q) → Sound (es ++ giving k q ∷ [])
  sound-giving k q there own = record {
    rooted = stands-push es (giving k q) [] ∙ s.rooted;
    parents = λ x p h. stands-push es (giving k q) p ∙ s.parents x p (sym (stands-push es (giving k q) (x ∷ p)) ∙ h);
    values = λ p n v h. stands-push es (giving k q) p ∙ s.values p n v (sym (value_at-push es (giving k q) p n) ∙ h);
    labels = λ l p h. stands-push es (giving k q) p ∙ (elim (given es k l q p h) [ inl e ↦ subst (λ r. stands es r ≡ true) e.1 there | inr t ↦ s.labels l p t ]);
    one = λ l p r h t. one-given k l q p r own (given es k l q p h) (given es k l q r t);
  }

  pub sound-definition : (q : Stack) (m : Name) (w : List Part) → stands es q ≡ true → Sound (es ++ definition q m w ∷ [])
  sound-definition q m w there = record {
    rooted = stands-push es (definition q m w) [] ∙ s.rooted;
    parents = λ x p h. stands-push es (definition q m w) p ∙ s.parents x p (sym (stands-push es (definition q m w) (x ∷ p)) ∙ h);
    values = λ p n v h. stands-push es (definition q m w) p ∙ (elim (put es q p m n w v h) [ inl e ↦ subst (λ r. stands es r ≡ true) e there | inr t ↦ s.values p n v t ]);
    labels = λ l p h. stands-push es (definition q m w) p ∙ s.labels l p (sym (names-push es (definition q m w) l p) ∙ h);
    one = λ l p r h k. s.one l p r (sym (names-push es (definition q m w) l p) ∙ h) (sym (names-push es (definition q m w) l r) ∙ k);
  }

  pub sound-undefinition : (q : Stack) (m : Name) → Sound (es ++ undefinition q m ∷ [])
  sound-undefinition q m = record {
    rooted = stands-push es (undefinition q m) [] ∙ s.rooted;
    parents = λ x p h. stands-push es (undefinition q m) p ∙ s.parents x p (sym (stands-push es (undefinition q m) (x ∷ p)) ∙ h);
    values = λ p n v h. stands-push es (undefinition q m) p ∙ s.values p n v (value_left es q p m n v h);
    labels = λ l p h. stands-push es (undefinition q m) p ∙ s.labels l p (sym (names-push es (undefinition q m) l p) ∙ h);
    one = λ l p r h k. s.one l p r (sym (names-push es (undefinition q m) l p) ∙ h) (sym (names-push es (undefinition q m) l r) ∙ k);
  }

  pub sound-deletion : (y : Name) (q : Stack) → Sound (es ++ deletion (y ∷ q) ∷ [])
  sound-deletion y q = record {
    rooted = not_deleted es (y ∷ q) [] refl s.rooted;
    parents = λ x p h. let d = deleted es (y ∷ q) (x ∷ p) h in not_deleted es (y ∷ q) p (not_within_parent (y ∷ q) x p d.0) (s.parents x p d.1);
    values = λ p n v h. let d = value_kept es (y ∷ q) p n v h in not_deleted es (y ∷ q) p d.0 (s.values p n v d.1);
    labels = λ l p h. let d = name_kept es (y ∷ q) l p h in not_deleted es (y ∷ q) p d.0 (s.labels l p d.1);
    one = λ l p r h k. s.one l p r (name_kept es (y ∷ q) l p h).1 (name_kept es (y ∷ q) l r k).1;
  }
