-- The values of an overlay's source are made of bytes and of references by labels in cell lists, and of nothing else.
use Rattle.std.proofs.Common.{◌≡◌, ℕ, Bool, false, ◌||◌, not, List, [], ◌∷◌, ◌++◌, map, reverse, inl, inr, Some, Ok, codes, refl, sym, ap, subst, ◌∙◌}
use Rattle.std.specs.List.{AllByRecursion, list_any}
use Rattle.std.specs.Str.{bytes_eq}
use Rattle.dt_model.specs.Names.{Name}
use Rattle.dt_model.specs.Path.{path_value}
use Rattle.dt_model.specs.Overlay.{content}
use Rattle.dt_model.specs.Event.{Stack, Event, opening, giving, definition, undefinition, deletion, defines, drops, value_at}
use Rattle.dt_model.specs.Source.{by_label, by_path, Part, one, number_of, Place, root, block, delete_node, child, label, property, delete_property, delete_child, close, base, Events, SoFar, read}
use Rattle.dt_model.specs.OverlaySource.{fragment_name, OverlaySoFar, overlay_start, overlay_phandle, overlay_path, with_next, is_overlay_part, read_overlay, read_overlays}
use Rattle.dt_model.proofs.Cases.{not_refused}
use Rattle.dt_model.proofs.Lasts.{last_each, value_by}
use Rattle.dt_model.proofs.Tests.{each_append}
use Rattle.dt_model_laws.proofs.OverlayMaking.{next_number, MakesFragment, OverlayMakes, overlay_makes}
use Rattle.dt_model_laws.proofs.OverlayHolding.{if_read_ok}

abbrev is_other_part : Part → Bool
is_other_part x = not (is_overlay_part x)

-- no part is one that an overlay's value may not have
abbrev pub AreOverlayParts : List Part → Type 0
AreOverlayParts v = list_any is_other_part v ≡ false

abbrev HasParts : Event (List Part) → Type 0
HasParts (opening q) = Unit {0}
HasParts (giving l q) = Unit {0}
HasParts (definition q n v) = AreOverlayParts v
HasParts (undefinition q n) = Unit {0}
HasParts (deletion q) = Unit {0}

bytes_only : (bs : List ℕ) → AreOverlayParts (map one bs)
bytes_only [] = refl
bytes_only (b ∷ bs) = bytes_only bs

module _ (written : List Name) (s t : OverlaySoFar) (h : AllByRecursion HasParts s.source.events) where
  and_more : (es : Events) → AllByRecursion HasParts es → t.source.events ≡ s.source.events ++ es → AllByRecursion HasParts t.source.events
  and_more es more e = subst (AllByRecursion HasParts) (sym e) (each_append HasParts s.source.events es h more)

  of_fragment : (name : Name) (value : List Part) → AreOverlayParts value → MakesFragment written s name value t → AllByRecursion HasParts t.source.events
  of_fragment name value are m =
      let f : Name = fragment_name (next_number written s) in
      and_more (opening (f ∷ []) ∷ definition (f ∷ []) name value ∷ opening (reverse (content f)) ∷ []) (tt, (are, (tt, tt))) (ap (λ (x : OverlaySoFar). x.source.events) m.1)

  of_made : (place : Place) → ((n : Name) (v : List Part) → place ≡ property n v → AreOverlayParts v) → OverlayMakes written s place t → AllByRecursion HasParts t.source.events
  of_made root parts m = and_more (opening [] ∷ []) (tt, tt) (ap (λ (x : SoFar). x.events) m.0.1)
  of_made (block (by_label l)) parts (inl m) = and_more (opening m.0 ∷ []) (tt, tt) (ap (λ (x : OverlaySoFar). x.source.events) m.2.1)
  of_made (block (by_label l)) parts (inr m) = of_fragment (codes "target") (number_of (by_label l) ∷ []) refl m
  of_made (block (by_path p)) parts m = of_fragment (codes "target-path") (map one (path_value p)) (bytes_only (path_value p)) m
  of_made (child n) parts m = and_more (opening (n ∷ s.source.node) ∷ []) (tt, tt) (ap (λ (x : SoFar). x.events) m.0.3.2)
  of_made (label l) parts m = and_more (giving l s.source.node ∷ []) (tt, tt) (ap (λ (x : SoFar). x.events) m.0.3.1)
  of_made (property n v) parts m = and_more (definition s.source.node n v ∷ []) (parts n v refl, tt) (ap (λ (x : SoFar). x.events) m.1.0.3.1)
  of_made (delete_node r) parts m = absurd m
  of_made (delete_property n) parts m = absurd m
  of_made (delete_child n) parts m = absurd m
  of_made close parts m = subst (AllByRecursion HasParts) (sym (ap (λ (x : SoFar). x.events) m.0.3)) h

  -- a property that is read has no other part
  of_read : (place : Place) → read_overlay written s place ≡ Ok t → (n : Name) (v : List Part) → place ≡ property n v → AreOverlayParts v
  of_read place e n v same =
      let here : read_overlay written s (property n v) ≡ Ok t = ap (read_overlay written s) (sym same) ∙ e in
      let a = not_refused (bytes_eq n (codes "phandle")) overlay_phandle _ t here in
      (not_refused (list_any is_other_part v) overlay_path (with_next s.next (read base s.source (property n v))) t a.1).0

of_all : (written : List Name) (s t : OverlaySoFar) (places : List Place) → AllByRecursion HasParts s.source.events → read_overlays written s places ≡ Ok t → AllByRecursion HasParts t.source.events
of_all written s t [] h e = let same : s ≡ t = cc in subst (λ (x : OverlaySoFar). AllByRecursion HasParts x.source.events) same h
of_all written s t (place ∷ places) h e =
    let step = if_read_ok (read_overlay written s place) (λ u. read_overlays written u places) t e in
    of_all written step.0 t places (of_made written s step.0 h place (of_read written s step.0 h place step.1) (overlay_makes written s step.0 place step.1)) step.2

-- so is each value that is left
pub parts_left : (written : List Name) (t : OverlaySoFar) (places : List Place) → read_overlays written overlay_start places ≡ Ok t
    → (p : Stack) (n : Name) (v : List Part) → value_at t.source.events p n ≡ Some v → AreOverlayParts v
parts_left written t places e p n v k =
    last_each HasParts (λ e. defines p n e || drops p n e) t.source.events (definition p n v) (of_all written overlay_start t places (tt, tt) e) (value_by t.source.events p n v k)
