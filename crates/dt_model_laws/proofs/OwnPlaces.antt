-- What a body's own places leave of it.
use Rattle.std.proofs.Common.{◌≡◌, true, List, [], ◌∷◌, ◌⊎◌, inl, inr, ap, subst}
use Rattle.std.specs.Str.{bytes_eq}
use Rattle.std.proofs.lemmas.Bool.{or_cases}
use Rattle.dt_model.specs.Names.{Name}
use Rattle.dt_model.specs.Lists.{IsIn}
use Rattle.dt_model.specs.Source.{Part, Place, root, block, delete_node, child, label, property, delete_property, delete_child, close, Body, is_among}
use Rattle.dt_model.proofs.EventSteps.{bytes_eq-is, bytes_eq-refl}
use Rattle.dt_model.proofs.Cases.{either_left, either_right}
use Rattle.dt_model_laws.proofs.Making.{with_child, with_property}

-- the body after one of its own places, and after all of them
abbrev pub after_one : Place → Body → Body
after_one root b = b
after_one (block r) b = b
after_one (delete_node r) b = b
after_one (child n) b = with_child n b
after_one (label l) b = b
after_one (property n v) b = with_property n b
after_one (delete_property n) b = b
after_one (delete_child n) b = b
after_one close b = b

abbrev pub after : Body → List Place → Body
after b [] = b
after b (x ∷ own) = after (after_one x b) own

-- ---- names of properties

one_property : (n : Name) (x : Place) (b : Body) → is_among n (after_one x b).properties ≡ true → (is_among n b.properties ≡ true) ⊎ ((w : List Part) × (property n w ≡ x))
one_property n root b h = inl h
one_property n (block r) b h = inl h
one_property n (delete_node r) b h = inl h
one_property n (child m) b h = inl h
one_property n (label l) b h = inl h
one_property n (property m w) b h =
    elim (or_cases (bytes_eq n m) (is_among n b.properties) h) [
      | inl t ↦ inr (w, ap (λ k. property k w) (bytes_eq-is n m t))
      | inr t ↦ inl t
    ]
one_property n (delete_property m) b h = inl h
one_property n (delete_child m) b h = inl h
one_property n close b h = inl h

pub property_found : (n : Name) (own : List Place) (b : Body) → is_among n (after b own).properties ≡ true → (is_among n b.properties ≡ true) ⊎ ((w : List Part) × IsIn (property n w) own)
property_found n [] b h = inl h
property_found n (x ∷ own) b h =
    elim (property_found n own (after_one x b) h) [
      | inl t ↦ elim (one_property n x b t) [ inl u ↦ inl u | inr u ↦ inr (u.0, inl u.1) ]
      | inr t ↦ inr (t.0, inr t.1)
    ]

property_stays : (n : Name) (x : Place) (b : Body) → is_among n b.properties ≡ true → is_among n (after_one x b).properties ≡ true
property_stays n root b h = h
property_stays n (block r) b h = h
property_stays n (delete_node r) b h = h
property_stays n (child m) b h = h
property_stays n (label l) b h = h
property_stays n (property m w) b h = either_right (bytes_eq n m) (is_among n b.properties) h
property_stays n (delete_property m) b h = h
property_stays n (delete_child m) b h = h
property_stays n close b h = h

property_kept : (n : Name) (own : List Place) (b : Body) → is_among n b.properties ≡ true → is_among n (after b own).properties ≡ true
property_kept n [] b h = h
property_kept n (x ∷ own) b h = property_kept n own (after_one x b) (property_stays n x b h)

pub property_there : (n : Name) (w : List Part) (own : List Place) (b : Body) → IsIn (property n w) own → is_among n (after b own).properties ≡ true
property_there n w [] b h = absurd h
property_there n w (x ∷ own) b (inl e) =
    property_kept n own (after_one x b) (subst (λ y. is_among n (after_one y b).properties ≡ true) e (either_left (bytes_eq n n) (is_among n b.properties) (bytes_eq-refl n)))
property_there n w (x ∷ own) b (inr k) = property_there n w own (after_one x b) k

-- ---- names of children

one_child : (n : Name) (x : Place) (b : Body) → is_among n (after_one x b).children ≡ true → (is_among n b.children ≡ true) ⊎ (child n ≡ x)
one_child n root b h = inl h
one_child n (block r) b h = inl h
one_child n (delete_node r) b h = inl h
one_child n (child m) b h =
    elim (or_cases (bytes_eq n m) (is_among n b.children) h) [
      | inl t ↦ inr (ap child (bytes_eq-is n m t))
      | inr t ↦ inl t
    ]
one_child n (label l) b h = inl h
one_child n (property m w) b h = inl h
one_child n (delete_property m) b h = inl h
one_child n (delete_child m) b h = inl h
one_child n close b h = inl h

pub child_found : (n : Name) (own : List Place) (b : Body) → is_among n (after b own).children ≡ true → (is_among n b.children ≡ true) ⊎ IsIn (child n) own
child_found n [] b h = inl h
child_found n (x ∷ own) b h =
    elim (child_found n own (after_one x b) h) [
      | inl t ↦ elim (one_child n x b t) [ inl u ↦ inl u | inr u ↦ inr (inl u) ]
      | inr t ↦ inr (inr t)
    ]

child_stays : (n : Name) (x : Place) (b : Body) → is_among n b.children ≡ true → is_among n (after_one x b).children ≡ true
child_stays n root b h = h
child_stays n (block r) b h = h
child_stays n (delete_node r) b h = h
child_stays n (child m) b h = either_right (bytes_eq n m) (is_among n b.children) h
child_stays n (label l) b h = h
child_stays n (property m w) b h = h
child_stays n (delete_property m) b h = h
child_stays n (delete_child m) b h = h
child_stays n close b h = h

child_kept : (n : Name) (own : List Place) (b : Body) → is_among n b.children ≡ true → is_among n (after b own).children ≡ true
child_kept n [] b h = h
child_kept n (x ∷ own) b h = child_kept n own (after_one x b) (child_stays n x b h)

pub child_there : (n : Name) (own : List Place) (b : Body) → IsIn (child n) own → is_among n (after b own).children ≡ true
child_there n [] b h = absurd h
child_there n (x ∷ own) b (inl e) =
    child_kept n own (after_one x b) (subst (λ y. is_among n (after_one y b).children ≡ true) e (either_left (bytes_eq n n) (is_among n b.children) (bytes_eq-refl n)))
child_there n (x ∷ own) b (inr k) = child_there n own (after_one x b) k
