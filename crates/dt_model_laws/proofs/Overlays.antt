-- What an overlay's source means is an overlay.
use Rattle.std.proofs.Common.{◌≡◌, true, false, ◌||◌, is_some, List, [], ◌∷◌, map, inl, inr, Option, Some, None, reverse, refl, sym, ap, subst, ◌∙◌}
use Rattle.std.specs.List.{AllByRecursion, list_any, flat_map}
use Rattle.std.specs.Option.{option_map, option_map_or}
use Rattle.std.proofs.lemmas.Bool.{or_cases}
use Rattle.std.proofs.lemmas.List.{reverse-reverse, reverse-append}
use Rattle.dt_model.specs.Names.{Name, IsLabel}
use Rattle.dt_model.specs.Path.{Path, path_eq, is_bookkeeping}
use Rattle.dt_model.specs.Lists.{IsIn, AreInOrder}
use Rattle.dt_model.specs.Meaning.{Item, AreBytes, EachReference}
use Rattle.dt_model.specs.Event.{Stack, stands, value_at, age}
use Rattle.dt_model.specs.Overlay.{OverlayReference, inside, outside, Target, at_reference, Fragment, Overlay, content, IsBrought, IsReferent, IsContained, HoldsTarget, IsOverlay}
use Rattle.dt_model.specs.Source.{by_label, by_path, Part, one, number_of, text_of, IsPart, Place, IsPlace, Events, labelled, labels_there, refers_there, refers}
use Rattle.dt_model.specs.OverlaySource.{root_children, overlay_start, overlay_reference, overlay_items, overlay_of, OverlayMeans}
use Rattle.dt_model.proofs.EventSteps.{path_eq-refl}
use Rattle.dt_model.proofs.Cases.{map_some, some_there, either_left, either_right}
use Rattle.dt_model.proofs.Tests.{each_in}
use Rattle.dt_model_laws.proofs.Orders.{falls_distinct}
use Rattle.dt_model.proofs.Labels.{labelled_names, labelled_there, some_label}
use Rattle.dt_model_laws.proofs.Sound.{Sound}
use Rattle.dt_model_laws.proofs.Holding.{Follows, Holds, node_follows, label_follows, value_follows}
use Rattle.dt_model_laws.proofs.Keyed.{labels_stand, references_stand, referred_there}
use Rattle.dt_model_laws.proofs.Bytes.{are_bytes-append, each-append}
use Rattle.dt_model_laws.proofs.Bound.{path_named, refers_later}
use Rattle.dt_model_laws.proofs.Meanings.{at_path}
use Rattle.dt_model_laws.proofs.OverlayHolding.{overlay_rules, holds-overlay_start, holds-overlay}

-- ---- what a value means

part_bytes : (es : Events) (x : Part) → IsPart x → AreBytes (overlay_items es x)
part_bytes es (one b) h = (h, tt)
part_bytes es (number_of (by_label l)) h = tt
part_bytes es (number_of (by_path p)) h = tt
part_bytes es (text_of r) h = tt

value_bytes : (es : Events) (v : List Part) → AllByRecursion IsPart v → AreBytes (flat_map (overlay_items es) v)
value_bytes es [] h = tt
value_bytes es (x ∷ xs) h = are_bytes-append (overlay_items es x) (flat_map (overlay_items es) xs) (part_bytes es x h.0) (value_bytes es xs h.1)

module _ (es : Events) (fs : List Fragment) where
  -- a label's reference
  label_referent : (l : Name) → IsLabel l → ((q : Stack) → labelled es l ≡ Some q → (overlay_of es fs).keyed (reverse q) ≡ true) → IsReferent (overlay_of es fs) (overlay_reference es l)
  label_referent l valid to =
      elim (some_label es l) [
        | inl none ↦ subst (λ o. IsReferent (overlay_of es fs) (option_map_or (λ p. inside (reverse p)) o (outside l))) (sym none) (valid, ap (option_map reverse) none)
        | inr some ↦ subst (λ o. IsReferent (overlay_of es fs) (option_map_or (λ p. inside (reverse p)) o (outside l))) (sym some.1) (to some.0 some.1)
      ]

  part_referents : (x : Part) (xs : List Part) → IsPart x → ((q : Stack) → refers es q (x ∷ xs) ≡ true → (overlay_of es fs).keyed (reverse q) ≡ true)
      → EachReference (IsReferent (overlay_of es fs)) (overlay_items es x)
  part_referents (one b) xs h to = tt
  part_referents (number_of (by_label l)) xs h to = (
    label_referent l h (λ q e.
        let here : option_map_or (path_eq q) (labelled es l) false ≡ true = ap (λ (o : Option Stack). option_map_or (path_eq q) o false) e ∙ path_eq-refl q in
        to q (either_left (option_map_or (path_eq q) (labelled es l) false) (refers es q xs) here)),
    tt,
  )
  part_referents (number_of (by_path p)) xs h to = tt
  part_referents (text_of r) xs h to = tt

  value_referents : (v : List Part) → AllByRecursion IsPart v → ((q : Stack) → refers es q v ≡ true → (overlay_of es fs).keyed (reverse q) ≡ true)
      → EachReference (IsReferent (overlay_of es fs)) (flat_map (overlay_items es) v)
  value_referents [] h to = tt
  value_referents (x ∷ xs) h to =
      each-append (IsReferent (overlay_of es fs)) (overlay_items es x) (flat_map (overlay_items es) xs) (part_referents x xs h.0 to) (value_referents xs h.1 (λ q r. to q (refers_later es x xs q r)))

-- ---- fragments

pub in_names : (f : Fragment) (fs : List Fragment) → IsIn f fs → IsIn f.name (map (λ (f : Fragment). f.name) fs)
in_names f (g ∷ gs) (inl e) = inl (ap (λ (f : Fragment). f.name) e)
in_names f (g ∷ gs) (inr k) = inr (in_names f gs k)
in_names f [] h = absurd h

pub of_name : (n : Name) (fs : List Fragment) → IsIn n (map (λ (f : Fragment). f.name) fs) → (target : Target) × IsIn (record { name = n; target = target }) fs
of_name n [] h = absurd h
of_name n (g ∷ gs) (inl e) = (g.target, inl (λ i. record { name = e i; target = g.target }))
of_name n (g ∷ gs) (inr k) = let rest = of_name n gs k in (rest.0, inr rest.1)

-- ---- the overlay

-- what is asked of fragments, besides
record AreFragments (es : Events) (o : Overlay) : Type 0 where
  ordered : AreInOrder (λ f. age es (f ∷ [])) (λ f. o.stands (content f)) (map (λ (f : Fragment). f.name) o.fragments)
  targeted : (f : Fragment) → IsIn f o.fragments → HoldsTarget o f.name f.target
  contained : (p : Path) (name : Name) (items : List (Item OverlayReference)) → IsBrought o p → o.value p name ≡ Some items → EachReference (IsContained o) items
  targets_contained : (f : Fragment) (r : OverlayReference) → IsIn f o.fragments → f.target ≡ at_reference r → IsContained o r

-- the stack is a keyed node's
abbrev keyed_at : Events → Stack → Type 0
keyed_at es p = (list_any (labels_there es p) es || list_any (refers_there es p) es) ≡ true

module _ (es : Events) (fs : List Fragment) (s : Sound es) (each : AllByRecursion (Follows overlay_rules) es) (fragments : AreFragments es (overlay_of es fs)) where
  keyed_stands : (p : Stack) → keyed_at es p → stands es p ≡ true
  keyed_stands p h =
      elim (or_cases (list_any (labels_there es p) es) (list_any (refers_there es p) es) h) [
        | inl t ↦ labels_stand es s p t
        | inr t ↦ references_stand es s p t
      ]

  value_there : (p : Path) (n : Name) → is_some ((overlay_of es fs).value p n) ≡ true → (v : List Part) × (value_at es (reverse p) n ≡ Some v)
  value_there p n h =
      let there = some_there ((overlay_of es fs).value p n) h in
      let m = map_some (flat_map (overlay_items es)) (value_at es (reverse p) n) there.0 there.1 in
      (m.0, m.1)

  is_overlay : IsOverlay (overlay_of es fs)
  is_overlay = record {
    rooted = s.rooted;
    parents = λ p n h. s.parents n (reverse p) (ap (stands es) (sym (reverse-append p (n ∷ []))) ∙ h);
    named = λ p h. path_named p (node_follows overlay_rules es (reverse p) each h).0;
    plain = λ p h. ap is_bookkeeping (sym (reverse-reverse p)) ∙ (node_follows overlay_rules es (reverse p) each h).1;
    values_stand = λ p n h. let v = value_there p n h in s.values (reverse p) n v.0 v.1;
    values_named = λ p n h. let v = value_there p n h in let f = value_follows overlay_rules es (reverse p) n v.0 each v.1 in (f.0, f.2);
    bytes = λ p n items h.
        let v = map_some (flat_map (overlay_items es)) (value_at es (reverse p) n) items h in
        subst AreBytes v.2 (value_bytes es v.0 (value_follows overlay_rules es (reverse p) n v.0 each v.1).1);
    keyed_stand = λ p h. keyed_stands (reverse p) h;
    labelled = λ l p h.
        let q = map_some reverse (labelled es l) p h in (
          label_follows overlay_rules es l q.0 each (labelled_names es l q.0 q.1),
          at_path (keyed_at es) p q.0 q.2 (either_left (list_any (labels_there es q.0) es) (list_any (refers_there es q.0) es) (labelled_there es l q.0 q.1)),
        );
    referred = λ p n items h.
        let v = map_some (flat_map (overlay_items es)) (value_at es (reverse p) n) items h in
        subst (EachReference (IsReferent (overlay_of es fs))) v.2
        (value_referents es fs v.0 (value_follows overlay_rules es (reverse p) n v.0 each v.1).1
        (λ q r.
        at_path (keyed_at es) (reverse q) q refl
        (either_right (list_any (labels_there es q) es) (list_any (refers_there es q) es) (referred_there es (reverse p) n v.0 q v.1 r))));
    fragments = λ f. (
      λ h. of_name f fs (fragments.ordered.complete f h),
      λ h. each_in (λ n. (overlay_of es fs).stands (content n) ≡ true) (map (λ (f : Fragment). f.name) fs) f fragments.ordered.sound (in_names (record { name = f; target = h.0 }) fs h.1),
    );
    distinct = falls_distinct (λ f. age es (f ∷ [])) (map (λ (f : Fragment). f.name) fs) fragments.ordered.sorted;
    targeted = fragments.targeted;
    contained = fragments.contained;
    targets_contained = fragments.targets_contained;
  }

pub source_overlay : (places : List Place) (o : Overlay) → AllByRecursion IsPlace places → OverlayMeans places o → IsOverlay o
source_overlay places o valid m =
    let es : Events = m.so_far.source.events in
    let holds : Holds overlay_rules m.so_far.source = holds-overlay (root_children None places) overlay_start m.so_far places holds-overlay_start valid m.all_read in
    let given : AreFragments es o = record { ordered = m.ordered; targeted = m.targeted; contained = m.contained; targets_contained = m.targets_contained } in
    subst IsOverlay (sym m.means) (is_overlay es o.fragments holds.sound holds.each (subst (AreFragments es) m.means given))
