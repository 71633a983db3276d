-- The places of an overlay's source mean one overlay.
use Rattle.std.proofs.Common.{◌≡◌, ℕ, List, [], ◌∷◌, map, inl, inr, Option, Some, None, Result, Ok, reverse, refl, sym, ap, subst, ◌∙◌}
use Rattle.dt_model.specs.Names.{Name}
use Rattle.dt_model.specs.Path.{path_value}
use Rattle.dt_model.specs.Lists.{IsIn, AreInOrder}
use Rattle.dt_model.specs.Meaning.{Item, byte, reference}
use Rattle.dt_model.specs.Event.{stands, age}
use Rattle.dt_model.specs.Overlay.{OverlayReference, Target, at_reference, at_path, Fragment, Overlay, content, HoldsTarget}
use Rattle.dt_model.specs.Source.{Events, Place}
use Rattle.dt_model.specs.OverlaySource.{OverlaySoFar, OverlayRefusal, overlay_of, OverlayMeans}
use Rattle.dt_model_laws.specs.OverlayTrees.{OneOverlay}
use Rattle.dt_model_laws.proofs.Orders.{one_order}
use Rattle.dt_model.proofs.Texts.{one_value}

pub one_end : {o : Result OverlaySoFar OverlayRefusal} (s t : OverlaySoFar) → o ≡ Ok s → o ≡ Ok t → s ≡ t
one_end s t h k = let z : ◌≡◌ {A = Result OverlaySoFar OverlayRefusal} (Ok s) (Ok t) = sym h ∙ k in cc

-- ---- what a fragment holds

abbrev Value : Type 0
Value = List (Item OverlayReference)

same_bytes : (xs ys : List ℕ) → ◌≡◌ {A = Value} (map byte xs) (map byte ys) → xs ≡ ys
same_bytes [] [] e = refl
same_bytes [] (y ∷ ys) e = absurd (let z : ◌≡◌ {A = Value} [] (byte y ∷ map byte ys) = e in cc)
same_bytes (x ∷ xs) [] e = absurd (let z : ◌≡◌ {A = Value} (byte x ∷ map byte xs) [] = e in cc)
same_bytes (x ∷ xs) (y ∷ ys) e =
    let z : ◌≡◌ {A = Value} (byte x ∷ map byte xs) (byte y ∷ map byte ys) = e in
    let head : x ≡ y = cc in
    let tail : ◌≡◌ {A = Value} (map byte xs) (map byte ys) = cc in
    let rest = same_bytes xs ys tail in
    λ i. head i ∷ rest i

-- a fragment's node holds one target
pub one_target : (o : Overlay) (f : Name) (t u : Target) → HoldsTarget o f t → HoldsTarget o f u → t ≡ u
one_target o f (at_reference r) (at_reference q) h k =
    let z : ◌≡◌ {A = Option Value} (Some (reference r ∷ [])) (Some (reference q ∷ [])) = sym h ∙ k in
    let e : r ≡ q = cc in
    ap at_reference e
one_target o f (at_reference r) (at_path q) h k = absurd (let z : ◌≡◌ {A = Option Value} (Some (reference r ∷ [])) None = sym h ∙ k.0 in cc)
one_target o f (at_path p) (at_reference q) h k = absurd (let z : ◌≡◌ {A = Option Value} (Some (reference q ∷ [])) None = sym k ∙ h.0 in cc)
one_target o f (at_path p) (at_path q) h k =
    let z : ◌≡◌ {A = Option Value} (Some (map byte (path_value p))) (Some (map byte (path_value q))) = sym h.1 ∙ k.1 in
    let e : ◌≡◌ {A = Value} (map byte (path_value p)) (map byte (path_value q)) = cc in
    ap at_path (one_value p q h.2 k.2 (same_bytes (path_value p) (path_value q) e))

-- whatever the fragments are
pub holds_as : (es : Events) (fs gs : List Fragment) (f : Name) (t : Target) → HoldsTarget (overlay_of es fs) f t → HoldsTarget (overlay_of es gs) f t
holds_as es fs gs f (at_reference r) h = h
holds_as es fs gs f (at_path p) h = h

-- ---- the fragments

abbrev names_of : List Fragment → List Name
names_of fs = map (λ (f : Fragment). f.name) fs

-- the fragments that stand after the events, in order, with what they hold
record AreFragments (es : Events) (fs : List Fragment) : Type 0 where
  ordered : AreInOrder (λ f. age es (f ∷ [])) (λ f. stands es (reverse (content f))) (names_of fs)
  targeted : (f : Fragment) → IsIn f fs → HoldsTarget (overlay_of es []) f.name f.target

same_targets : (o : Overlay) (fs gs : List Fragment) → names_of fs ≡ names_of gs → ((f : Fragment) → IsIn f fs → HoldsTarget o f.name f.target) → ((f : Fragment) → IsIn f gs → HoldsTarget o f.name f.target)
    → fs ≡ gs
same_targets o [] [] e h k = refl
same_targets o [] (g ∷ gs) e h k = absurd (let z : ◌≡◌ {A = List Name} [] (g.name ∷ names_of gs) = e in cc)
same_targets o (f ∷ fs) [] e h k = absurd (let z : ◌≡◌ {A = List Name} (f.name ∷ names_of fs) [] = e in cc)
same_targets o (f ∷ fs) (g ∷ gs) e h k =
    let z : ◌≡◌ {A = List Name} (f.name ∷ names_of fs) (g.name ∷ names_of gs) = e in
    let head : f.name ≡ g.name = cc in
    let tail : names_of fs ≡ names_of gs = cc in
    let target : f.target ≡ g.target = one_target o g.name f.target g.target (subst (λ n. HoldsTarget o n f.target) head (h f (inl refl))) (k g (inl refl)) in
    let rest = same_targets o fs gs tail (λ x i. h x (inr i)) (λ x i. k x (inr i)) in
    λ i. record { name = head i; target = target i } ∷ rest i

one_list : (es : Events) (fs gs : List Fragment) → AreFragments es fs → AreFragments es gs → fs ≡ gs
one_list es fs gs a b = same_targets (overlay_of es []) fs gs (one_order _ _ _ _ a.ordered b.ordered) a.targeted b.targeted

fragments_of : (places : List Place) (o : Overlay) (m : OverlayMeans places o) → AreFragments m.so_far.source.events o.fragments
fragments_of places o m =
    let es : Events = m.so_far.source.events in
    record {
      ordered = subst (λ (x : Overlay). AreInOrder (λ f. age es (f ∷ [])) (λ f. x.stands (content f)) (names_of o.fragments)) m.means m.ordered;
      targeted = λ f i.
          holds_as es o.fragments [] f.name f.target (subst (λ (x : Overlay). HoldsTarget x f.name f.target) m.means (m.targeted f i));
    }

pub one_overlay : OneOverlay
one_overlay places o q m k =
    let end : m.so_far ≡ k.so_far = one_end m.so_far k.so_far m.all_read k.all_read in
    let es : Events = k.so_far.source.events in
    let first : AreFragments es o.fragments = subst (λ (s : OverlaySoFar). AreFragments s.source.events o.fragments) end (fragments_of places o m) in
    let fragments : o.fragments ≡ q.fragments = one_list es o.fragments q.fragments first (fragments_of places q k) in
    m.means ∙ (λ i. overlay_of (end i).source.events (fragments i)) ∙ sym k.means
