-- What an overlay's source means, by tests on its events.
use Rattle.std.proofs.Common.{◌≡◌, ℕ, ◌<◌, Bool, true, ◌&&◌, List, [], ◌∷◌, Some, None, Result, Ok, Err, map, reverse, refl, sym, ap, subst, ◌∙◌}
use Rattle.std.specs.Prelude.{nat_lt}
use Rattle.std.specs.List.{AllByRecursion, list_all, flat_map}
use Rattle.std.specs.Str.{bytes_eq}
use Rattle.dt_model.specs.Names.{Name}
use Rattle.dt_model.specs.Path.{Path}
use Rattle.dt_model.specs.Lists.{IsIn, FallBy, AreInOrder}
use Rattle.dt_model.specs.Meaning.{Item}
use Rattle.dt_model.specs.Event.{age, value_at}
use Rattle.dt_model.specs.Overlay.{OverlayReference, Target, at_reference, at_path, Fragment, Overlay, content, IsContained, HoldsTarget, IsOverlay}
use Rattle.dt_model.specs.Source.{Place, Events, labelled}
use Rattle.dt_model.specs.OverlaySource.{OverlaySoFar, OverlayRefusal, overlay_start, root_children, read_overlays, overlay_items, overlay_of, OverlayMeans}
use Rattle.dt_model.proofs.Tests.{and_left, and_right, all_at}
use Rattle.dt_model.proofs.Cases.{map_some}
use Rattle.dt_model.proofs.Tests.{each_in}
use Rattle.dt_model_laws.proofs.Overlays.{source_overlay}
use Rattle.dt_model_laws.proofs.CheckedWords.{implies, implied, has, has_in, same_names, each_by}
use Rattle.dt_model_laws.proofs.CheckedNames.{below, is_place, places_are}
use Rattle.dt_model_laws.proofs.CheckedEvents.{covers_events, node_covered, value_covered, label_covered, turned_back}
use Rattle.dt_model_laws.proofs.CheckedInstances.{Contents, IsWithin}
use Rattle.dt_model_laws.proofs.CheckedReferences.{references_pass, each_reference, is_contained, contained}

abbrev pub of_overlay : Overlay → Contents OverlayReference
of_overlay o = record { stands = o.stands; value = o.value; label = o.label; keyed = o.keyed }

-- ---- the order of fragments

abbrev falls : (Name → ℕ) → List Name → Bool
falls age [] = true
falls age (x ∷ xs) = list_all (λ y. nat_lt (age y) (age x)) xs && falls age xs

falls_by : (age : Name → ℕ) (xs : List Name) → falls age xs ≡ true → FallBy age xs
falls_by age [] h = tt
falls_by age (x ∷ xs) h = (
  each_by (λ y. nat_lt (age y) (age x)) (λ y. age y < age x) (λ y k. below (age y) (age x) k) xs (and_left (list_all (λ y. nat_lt (age y) (age x)) xs) (falls age xs) h),
  falls_by age xs (and_right (list_all (λ y. nat_lt (age y) (age x)) xs) (falls age xs) h),
)

abbrev names_of : List Fragment → List Name
names_of fragments = map (λ (f : Fragment). f.name) fragments

abbrev older : Events → Name → ℕ
older es f = age es (f ∷ [])

-- a fragment's content that stands is a listed fragment's
abbrev is_listed : Events → List Fragment → Path → Bool
is_listed es fragments [] = true
is_listed es fragments (f ∷ p) = implies ((overlay_of es fragments).stands (content f)) (has bytes_eq (names_of fragments) f)

abbrev target_contained : List Fragment → Target → Bool
target_contained fragments (at_reference r) = is_contained fragments r
target_contained fragments (at_path p) = true

-- all places are read, no body is left open, and these are the events
abbrev pub EndsWith : Events → Result OverlaySoFar OverlayRefusal → Type 0
EndsWith es (Ok s) = (s.source.bodies ≡ []) × (s.source.events ≡ es)
EndsWith es (Err refusal) = ⊥

the_end : (es : Events) (r : Result OverlaySoFar OverlayRefusal) → EndsWith es r → (s : OverlaySoFar) × (r ≡ Ok s) × (s.source.bodies ≡ []) × (s.source.events ≡ es)
the_end es (Ok s) h = (s, refl, h.0, h.1)
the_end es (Err refusal) h = absurd h

-- the tests of an overlay's source
pub record IsOverlayRead (places : List Place) (es : Events) (qs : List Path) (ns : List Name) (fragments : List Fragment) : Type 0 where
  pub places_valid : list_all is_place places ≡ true
  pub ended : EndsWith es (read_overlays (root_children None places) overlay_start places)
  pub covered : covers_events qs ns es ≡ true
  pub stand : list_all (λ f. (overlay_of es fragments).stands (content f)) (names_of fragments) ≡ true
  pub listed : list_all (is_listed es fragments) qs ≡ true
  pub sorted : falls (older es) (names_of fragments) ≡ true
  pub targeted : AllByRecursion (λ f. HoldsTarget (overlay_of es fragments) f.name f.target) fragments
  pub contained : references_pass qs ns (overlay_of es fragments).value (λ p n x. is_contained fragments x.1) ≡ true
  pub targets_contained : list_all (λ (f : Fragment). target_contained fragments f.target) fragments ≡ true

module _ (places : List Place) (es : Events) (qs : List Path) (ns : List Name) (fragments : List Fragment) (r : IsOverlayRead places es qs ns fragments) where
  content_listed : (f : Name) → (overlay_of es fragments).stands (content f) ≡ true → IsIn f (names_of fragments)
  content_listed f h =
      let at = turned_back (content f) qs (node_covered qs ns es r.covered (reverse (content f)) h) in
      has_in bytes_eq same_names (names_of fragments) f
      (implied ((overlay_of es fragments).stands (content f)) (has bytes_eq (names_of fragments) f) (all_at (is_listed es fragments) qs (content f) r.listed at) h)

  ordered : AreInOrder (older es) (λ f. (overlay_of es fragments).stands (content f)) (names_of fragments)
  ordered = record {
    sound = each_by (λ f. (overlay_of es fragments).stands (content f)) (λ f. (overlay_of es fragments).stands (content f) ≡ true) (λ f k. k) (names_of fragments) r.stand;
    complete = content_listed;
    sorted = falls_by (older es) (names_of fragments) r.sorted;
  }

  value_within : (p : Path) (n : Name) (items : List (Item OverlayReference)) → (overlay_of es fragments).value p n ≡ Some items → IsIn p qs × IsIn n ns
  value_within p n items k =
      let w = map_some (flat_map (overlay_items es)) (value_at es (reverse p) n) items k in
      let c = value_covered qs ns es r.covered (reverse p) n w.0 w.1 in
      (turned_back p qs c.0, c.1)

  target_of : (f : Fragment) (x : OverlayReference) → IsIn f fragments → f.target ≡ at_reference x → is_contained fragments x ≡ true
  target_of f x i e = ap (target_contained fragments) (sym e) ∙ all_at (λ (f : Fragment). target_contained fragments f.target) fragments f r.targets_contained i

  pub overlay_means : OverlayMeans places (overlay_of es fragments)
  overlay_means =
      let last = the_end es (read_overlays (root_children None places) overlay_start places) r.ended in
      record {
        so_far = last.0;
        all_read = last.1;
        closed = last.2;
        means = ap (λ (events : Events). overlay_of events fragments) (sym last.3);
        ordered = subst (λ (events : Events). AreInOrder (older events) (λ f. (overlay_of es fragments).stands (content f)) (names_of fragments)) (sym last.3) ordered;
        targeted = λ f i. each_in (λ f. HoldsTarget (overlay_of es fragments) f.name f.target) fragments f r.targeted i;
        contained = λ p n items brought e. each_reference qs ns (overlay_of es fragments).value value_within (is_contained fragments) (IsContained (overlay_of es fragments)) (contained (overlay_of es fragments)) r.contained p n items e;
        targets_contained = λ f x i e. contained (overlay_of es fragments) x (target_of f x i e);
      }

  pub is_overlay : IsOverlay (overlay_of es fragments)
  is_overlay = source_overlay places (overlay_of es fragments) (places_are places r.places_valid) overlay_means

  pub overlay_within : IsWithin qs ns (of_overlay (overlay_of es fragments))
  overlay_within = record {
    nodes = λ p k. turned_back p qs (node_covered qs ns es r.covered (reverse p) k);
    keyed = λ p k. turned_back p qs (node_covered qs ns es r.covered (reverse p) (is_overlay.keyed_stand p k));
    values = value_within;
    labels = λ l p k. let w = map_some reverse (labelled es l) p k in label_covered qs ns es r.covered l w.0 w.1;
  }
