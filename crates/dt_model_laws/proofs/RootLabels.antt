-- A label of the root stays, since the root isn't deleted.
use Rattle.std.proofs.Common.{◌≡◌, Bool, true, false, ◌||◌, ◌&&◌, cond, List, [], ◌∷◌, ◌++◌, inl, inr, Ok, reverse, refl, sym, ap, subst, ◌∙◌}
use Rattle.std.specs.Str.{bytes_eq}
use Rattle.dt_model.specs.Names.{Name}
use Rattle.dt_model.specs.Path.{path_eq}
use Rattle.dt_model.specs.Event.{Stack, opening, giving, definition, names}
use Rattle.dt_model.specs.Overlay.{content}
use Rattle.dt_model.specs.Source.{by_label, by_path, Part, Place, root, block, delete_node, child, label, property, delete_property, delete_child, close, Events, SoFar}
use Rattle.dt_model.specs.OverlaySource.{fragment_name, OverlaySoFar, read_overlay, read_overlays}
use Rattle.dt_model.proofs.EventSteps.{names-push}
use Rattle.dt_model_laws.proofs.OverlayMaking.{next_number, MakesFragment, OverlayMakes, overlay_makes, one_by_one}
use Rattle.dt_model_laws.proofs.OverlayHolding.{if_read_ok}

-- the root has a label
abbrev pub HasRootLabel : Events → Type 0
HasRootLabel es = (l : Name) × (names es l [] ≡ true)

still_true : (b x : Bool) → x ≡ true → cond b true x ≡ true
still_true true x h = refl
still_true false x h = h

module _ (es : Events) (h : HasRootLabel es) where
  stays-opening : (q : Stack) → HasRootLabel (es ++ opening q ∷ [])
  stays-opening q = (h.0, names-push es (opening q) h.0 [] ∙ h.1)

  stays-definition : (q : Stack) (n : Name) (v : List Part) → HasRootLabel (es ++ definition q n v ∷ [])
  stays-definition q n v = (h.0, names-push es (definition q n v) h.0 [] ∙ h.1)

  stays-giving : (k : Name) (q : Stack) → HasRootLabel (es ++ giving k q ∷ [])
  stays-giving k q = (h.0, names-push es (giving k q) h.0 [] ∙ still_true ((bytes_eq k h.0 && path_eq q []) || false) (names es h.0 []) h.1)

module _ (written : List Name) (s t : OverlaySoFar) (h : HasRootLabel s.source.events) where
  label_after : (es : Events) → t.source.events ≡ es → HasRootLabel es → HasRootLabel t.source.events
  label_after es e k = subst HasRootLabel (sym e) k

  stays-fragment : (name : Name) (value : List Part) → MakesFragment written s name value t → HasRootLabel t.source.events
  stays-fragment name value m =
      let f : Name = fragment_name (next_number written s) in
      let top : Stack = reverse (content f) in
      let one : HasRootLabel (s.source.events ++ opening (f ∷ []) ∷ []) = stays-opening s.source.events h (f ∷ []) in
      let two : HasRootLabel ((s.source.events ++ opening (f ∷ []) ∷ []) ++ definition (f ∷ []) name value ∷ []) = stays-definition (s.source.events ++ opening (f ∷ []) ∷ []) one (f ∷ []) name value in
      let three : HasRootLabel (((s.source.events ++ opening (f ∷ []) ∷ []) ++ definition (f ∷ []) name value ∷ []) ++ opening top ∷ []) = stays-opening ((s.source.events ++ opening (f ∷ []) ∷ []) ++ definition (f ∷ []) name value ∷ []) two top in
      label_after (s.source.events ++ opening (f ∷ []) ∷ definition (f ∷ []) name value ∷ opening top ∷ []) (ap (λ (x : OverlaySoFar). x.source.events) m.1)
      (subst HasRootLabel (one_by_one s.source.events (opening (f ∷ [])) (definition (f ∷ []) name value) (opening top)) three)

  pub stays-made : (place : Place) → OverlayMakes written s place t → HasRootLabel t.source.events
  stays-made root m = label_after (s.source.events ++ opening [] ∷ []) (ap (λ (x : SoFar). x.events) m.0.1) (stays-opening s.source.events h [])
  stays-made (block (by_label l)) (inl m) = label_after (s.source.events ++ opening m.0 ∷ []) (ap (λ (x : OverlaySoFar). x.source.events) m.2.1) (stays-opening s.source.events h m.0)
  stays-made (block (by_label l)) (inr m) = stays-fragment _ _ m
  stays-made (block (by_path p)) m = stays-fragment _ _ m
  stays-made (child n) m = label_after (s.source.events ++ opening (n ∷ s.source.node) ∷ []) (ap (λ (x : SoFar). x.events) m.0.3.2) (stays-opening s.source.events h (n ∷ s.source.node))
  stays-made (label l) m = label_after (s.source.events ++ giving l s.source.node ∷ []) (ap (λ (x : SoFar). x.events) m.0.3.1) (stays-giving s.source.events h l s.source.node)
  stays-made (property n v) m = label_after (s.source.events ++ definition s.source.node n v ∷ []) (ap (λ (x : SoFar). x.events) m.1.0.3.1) (stays-definition s.source.events h s.source.node n v)
  stays-made (delete_node r) m = absurd m
  stays-made (delete_property n) m = absurd m
  stays-made (delete_child n) m = absurd m
  stays-made close m = label_after s.source.events (ap (λ (x : SoFar). x.events) m.0.3) h

pub stays-all : (written : List Name) (s t : OverlaySoFar) (places : List Place) → HasRootLabel s.source.events → read_overlays written s places ≡ Ok t → HasRootLabel t.source.events
stays-all written s t [] h e = let same : s ≡ t = cc in subst (λ (x : OverlaySoFar). HasRootLabel x.source.events) same h
stays-all written s t (place ∷ places) h e =
    let step = if_read_ok (read_overlay written s place) (λ u. read_overlays written u places) t e in
    stays-all written step.0 t places (stays-made written s step.0 h place (overlay_makes written s step.0 place step.1)) step.2
