-- The node of a new fragment doesn't stand before.
use Rattle.std.proofs.Common.{◌≡◌, ℕ, ◌+◌, ◌<◌, ◌≤◌, true, ◌||◌, List, [], ◌∷◌, ◌++◌, length, ◌⊎◌, inl, inr, Option, Some, None, Ok, reverse, refl, sym, ap, subst, ◌∙◌, arith}
use Rattle.std.specs.List.{AllByRecursion}
use Rattle.std.specs.Str.{bytes_eq}
use Rattle.std.proofs.lemmas.Bool.{cases_Bool, both_ways}
use Rattle.dt_model.specs.Names.{Name}
use Rattle.dt_model.specs.Overlay.{content}
use Rattle.dt_model.specs.Lists.{IsIn}
use Rattle.dt_model.specs.Event.{Stack, Event, opening, giving, definition, opens, takes, stands, names}
use Rattle.dt_model.specs.Source.{by_label, by_path, Part, Place, root, block, delete_node, child, label, property, delete_property, delete_child, close, IsPlace, Events, SoFar, labelled, is_among}
use Rattle.dt_model.specs.OverlaySource.{root_children, fragment_name, OverlaySoFar, overlay_start, read_overlay, read_overlays}
use Rattle.dt_model.proofs.EventSteps.{bytes_eq-refl}
use Rattle.dt_model_laws.specs.Fragments.{NewFragment}
use Rattle.dt_model.proofs.Cases.{all_map, either_left, either_right}
use Rattle.dt_model.proofs.Tests.{each_append}
use Rattle.dt_model.proofs.Lasts.{last_each, stands_by}
use Rattle.dt_model.proofs.Labels.{labelled_names}
use Rattle.dt_model_laws.proofs.Holding.{Holds}
use Rattle.dt_model_laws.proofs.OverlayMaking.{next_number, MakesAsAny, MakesFragment, MakesBlock, OverlayMakes, overlay_makes}
use Rattle.dt_model_laws.proofs.OverlayHolding.{overlay_rules, holds-overlay_start, holds-overlay_made, if_read_ok}
use Rattle.dt_model_laws.proofs.FreeNumbers.{first_free, free_within, fragment_name_once}
use Rattle.dt_model_laws.proofs.RootLabels.{HasRootLabel, stays-all}
use Rattle.dt_model_laws.proofs.RootChildren.{IsCounted, Counted, FitsDepth, Tracks, event_later, fits_same, not_top, counted_more, child_fits, close_fits}

-- a node that stands is counted, if it is a child of the root
node_counted : (written : List Name) (next : ℕ) (es : Events) (p : Stack) → AllByRecursion (Counted written next) es → stands es p ≡ true → IsCounted written next p
node_counted written next es p all h = last_each (Counted written next) (λ e. opens p e || takes p e) es (opening p) all (stands_by es p h)

-- the places behind go on from t
abbrev Tracked : List Name → List Place → OverlaySoFar → Type 0
Tracked written places t = (d : Option ℕ) × Tracks written d places t

module _ (written : List Name) (s t : OverlaySoFar) (places : List Place) where
  tracked-root : (depth : Option ℕ) → Tracks written depth (root ∷ places) s → Holds overlay_rules t.source → MakesAsAny s root t → Tracked written places t
  tracked-root depth h holds m = (
    Some 0,
    record {
      holds = holds;
      counted = counted_more written s t places (opening []) (ap (λ (u : SoFar). u.events) m.0.1) m.1 h.counted tt;
      fits = subst (FitsDepth (Some 0)) (sym m.0.1) (refl, refl);
      left = h.left;
    },
  )

  -- at top level no block of the root is open
  at_top_level : (depth : Option ℕ) (x : Place) → Tracks written depth (x ∷ places) s → s.source.bodies ≡ [] → depth ≡ None
  at_top_level None x h e = refl
  at_top_level (Some d) x h e = absurd (not_top d s.source.bodies e h.fits.0)

  tracked-block : (depth : Option ℕ) (l : Name) (x : Name) (p : Stack) → Tracks written depth (block (by_label l) ∷ places) s → Holds overlay_rules t.source
      → labelled s.source.events l ≡ Some (x ∷ p) → MakesBlock s (x ∷ p) t → Tracked written places t
  tracked-block depth l x p h holds e m =
      let top = at_top_level depth (block (by_label l)) h m.0 in
      let there : stands s.source.events (x ∷ p) ≡ true = h.holds.sound.labels l (x ∷ p) (labelled_names s.source.events l (x ∷ p) e) in
      let deep : 1 ≤ length (x ∷ p) = omega arith in (
        None,
        record {
          holds = holds;
          counted = counted_more written s t places (opening (x ∷ p)) (ap (λ (u : OverlaySoFar). u.source.events) m.1) (ap (λ (u : OverlaySoFar). u.next) m.1) h.counted
              (node_counted written s.next s.source.events (x ∷ p) h.counted there);
          fits = subst (λ (u : OverlaySoFar). FitsDepth None u.source) (sym m.1) deep;
          left = subst (λ d. (y : Name) → IsIn y (root_children d places) → IsIn y written) top h.left;
        },
      )

  tracked-fragment : (depth : Option ℕ) (x : Place) (name : Name) (value : List Part) → Tracks written depth (x ∷ places) s → ((d : Option ℕ) → root_children d (x ∷ places) ≡ root_children d places)
      → Holds overlay_rules t.source → MakesFragment written s name value t → Tracked written places t
  tracked-fragment depth x name value h same holds m =
      let k : ℕ = next_number written s in
      let f : Name = fragment_name k in
      let top = at_top_level depth x h m.0 in
      let low : s.next ≤ k = (free_within written s.next).0 in
      let new : List (Event (List Part)) = opening (f ∷ []) ∷ definition (f ∷ []) name value ∷ opening (reverse (content f)) ∷ [] in
      let old : AllByRecursion (Counted written (k + 1)) s.source.events = all_map (Counted written s.next) (Counted written (k + 1)) (event_later written s.next (k + 1) (omega arith)) s.source.events h.counted in
      let all : AllByRecursion (Counted written (k + 1)) (s.source.events ++ new) = each_append (Counted written (k + 1)) s.source.events new old (inr (k, omega arith, refl), (tt, (tt, tt))) in
      let deep : 1 ≤ length (reverse (content f)) = omega arith in (
        None,
        record {
          holds = holds;
          counted = subst (λ (u : OverlaySoFar). AllByRecursion (Counted written u.next) u.source.events) (sym m.1) all;
          fits = subst (λ (u : OverlaySoFar). FitsDepth None u.source) (sym m.1) deep;
          left = λ y i. h.left y (subst (IsIn y) (sym (ap (λ d. root_children d (x ∷ places)) top ∙ same None)) i);
        },
      )

  tracked-child : (depth : Option ℕ) (n : Name) → Tracks written depth (child n ∷ places) s → Holds overlay_rules t.source → MakesAsAny s (child n) t → Tracked written places t
  tracked-child depth n h holds m =
      let c = child_fits written s t places depth n m.0.0 m.0.1 m.0.2 h.fits in (
        c.0,
        record {
          holds = holds;
          counted = counted_more written s t places (opening (n ∷ s.source.node)) (ap (λ (u : SoFar). u.events) m.0.3.2) m.1 h.counted (c.3 h.left);
          fits = subst (FitsDepth c.0) (sym m.0.3.2) c.1;
          left = λ x i. h.left x (c.2 x i);
        },
      )

  tracked-label : (depth : Option ℕ) (l : Name) → Tracks written depth (label l ∷ places) s → Holds overlay_rules t.source → MakesAsAny s (label l) t → Tracked written places t
  tracked-label depth l h holds m = (
    depth,
    record {
      holds = holds;
      counted = counted_more written s t places (giving l s.source.node) (ap (λ (u : SoFar). u.events) m.0.3.1) m.1 h.counted tt;
      fits = fits_same depth s.source t.source (ap (λ (u : SoFar). length u.bodies) m.0.3.1) (ap (λ (u : SoFar). u.node) m.0.3.1) h.fits;
      left = h.left;
    },
  )

  tracked-property : (depth : Option ℕ) (n : Name) (v : List Part) → Tracks written depth (property n v ∷ places) s → Holds overlay_rules t.source → MakesAsAny s (property n v) t → Tracked written places t
  tracked-property depth n v h holds m = (
    depth,
    record {
      holds = holds;
      counted = counted_more written s t places (definition s.source.node n v) (ap (λ (u : SoFar). u.events) m.0.3.1) m.1 h.counted tt;
      fits = fits_same depth s.source t.source (ap (λ (u : SoFar). length u.bodies) m.0.3.1 ∙ sym (ap length m.0.2)) (ap (λ (u : SoFar). u.node) m.0.3.1) h.fits;
      left = h.left;
    },
  )

  tracked-close : (depth : Option ℕ) → Tracks written depth (close ∷ places) s → Holds overlay_rules t.source → MakesAsAny s close t → Tracked written places t
  tracked-close depth h holds m =
      let c = close_fits written s t places depth m.0.0 m.0.1 m.0.2 h.fits in (
        c.0,
        record {
          holds = holds;
          counted = subst (λ n. AllByRecursion (Counted written n) t.source.events) (sym m.1)
              (subst (AllByRecursion (Counted written s.next)) (sym (ap (λ (u : SoFar). u.events) m.0.3)) h.counted);
          fits = subst (FitsDepth c.0) (sym m.0.3) c.1;
          left = λ x i. h.left x (c.2 x i);
        },
      )

  -- one more place, or the root has a label
  tracked-made : (depth : Option ℕ) (x : Place) → Tracks written depth (x ∷ places) s → Holds overlay_rules t.source → OverlayMakes written s x t → Tracked written places t ⊎ HasRootLabel s.source.events
  tracked-made depth root h k m = inl (tracked-root depth h k m)
  tracked-made depth (block (by_label l)) h k (inl m) = by_node m.0 m.1 m.2
    where
      by_node : (p : Stack) → labelled s.source.events l ≡ Some p → MakesBlock s p t → Tracked written places t ⊎ HasRootLabel s.source.events
      by_node [] e b = inr (l, labelled_names s.source.events l [] e)
      by_node (x ∷ p) e b = inl (tracked-block depth l x p h k e b)
  tracked-made depth (block (by_label l)) h k (inr m) = inl (tracked-fragment depth (block (by_label l)) _ _ h (λ d. refl) k m)
  tracked-made depth (block (by_path p)) h k m = inl (tracked-fragment depth (block (by_path p)) _ _ h (λ d. refl) k m)
  tracked-made depth (child n) h k m = inl (tracked-child depth n h k m)
  tracked-made depth (label l) h k m = inl (tracked-label depth l h k m)
  tracked-made depth (property n v) h k m = inl (tracked-property depth n v h k m.1)
  tracked-made depth (delete_node r) h k m = absurd m
  tracked-made depth (delete_property n) h k m = absurd m
  tracked-made depth (delete_child n) h k m = absurd m
  tracked-made depth close h k m = inl (tracked-close depth h k m)

tracked-all : (written : List Name) (u s : OverlaySoFar) (before behind : List Place) (depth : Option ℕ) → Tracks written depth (before ++ behind) u → AllByRecursion IsPlace before
    → read_overlays written u before ≡ Ok s → Tracked written behind s ⊎ HasRootLabel s.source.events
tracked-all written u s [] behind depth h v e = let same : u ≡ s = cc in inl (depth, subst (Tracks written depth behind) same h)
tracked-all written u s (x ∷ before) behind depth h v e =
    let step = if_read_ok (read_overlay written u x) (λ w. read_overlays written w before) s e in
    let w : OverlaySoFar = step.0 in
    let m = overlay_makes written u w x step.1 in
    elim (tracked-made written u w (before ++ behind) depth x h (holds-overlay_made written u w h.holds x v.0 m) m) [
      | inl t ↦ tracked-all written w s before behind t.0 t.1 v.1 step.2
      | inr r ↦ inr (stays-all written u s (x ∷ before) r e)
    ]

in_among : (x : Name) (xs : List Name) → IsIn x xs → is_among x xs ≡ true
in_among x [] h = absurd h
in_among x (y ∷ ys) (inl e) = either_left (bytes_eq x y) (is_among x ys) (subst (λ z. bytes_eq x z ≡ true) e (bytes_eq-refl x))
in_among x (y ∷ ys) (inr h) = either_right (bytes_eq x y) (is_among x ys) (in_among x ys h)

pub new_fragment_node : NewFragment
new_fragment_node before behind written s valid w e bound no_label =
    let k : ℕ = next_number written s in
    let f : Name = fragment_name k in
    let first = first_free written s.next bound in
    let range = free_within written s.next in
    let low : s.next ≤ k = range.0 in
    let high : k ≤ s.next + length written = range.1 in
    let start : Tracks written None (before ++ behind) overlay_start = record { holds = holds-overlay_start; counted = (tt, tt); fits = omega arith; left = λ x i. subst (IsIn x) (sym w) i } in
    elim (tracked-all written overlay_start s before behind None start valid e) [
      | inr r ↦ absurd (both_ways (names s.source.events r.0 []) (no_label r.0) r.1)
      | inl t ↦
          elim (cases_Bool (stands s.source.events (f ∷ []))) [
            | inr gone ↦ gone
            | inl there ↦
                elim (node_counted written s.next s.source.events (f ∷ []) t.1.counted there) [
                  | inl i ↦ absurd (both_ways (is_among f written) first.free (in_among f written i))
                  | inr j ↦
                      let below : j.0 < s.next = j.1 in
                      let same : k ≡ j.0 = fragment_name_once k j.0 (omega arith) (omega arith) j.2 in
                      absurd (omega arith)
                ]
          ]
    ]
