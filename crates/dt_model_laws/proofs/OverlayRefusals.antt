-- An overlay's source is refused for one reason, and one that means something for none but the number of its nodes.
use Rattle.std.proofs.Common.{◌≡◌, true, List, [], ◌∷◌, map, Some, Result, Ok, Err, reverse, refl, sym, ap, subst, ◌∙◌, inl, inr}
use Rattle.dt_model.specs.Names.{Name}
use Rattle.dt_model.specs.Path.{Path}
use Rattle.dt_model.specs.Lists.{IsIn}
use Rattle.dt_model.specs.Meaning.{Item, byte, reference, EachReference}
use Rattle.dt_model.specs.Event.{stands}
use Rattle.dt_model.specs.Overlay.{OverlayReference, inside, outside, Target, at_reference, Fragment, Overlay, content, IsBrought, IsContained, HoldsTarget}
use Rattle.dt_model.specs.Source.{Events, Place}
use Rattle.dt_model.specs.OverlaySource.{OverlaySoFar, OverlayRefusal, overlay_of, OverlayMeans, LateOverlayRefusal, bad_fragment, outside_content, HasOutsideContent, IsLateOverlayRefusal}
use Rattle.dt_model.specs.Refused.{at_place, at_end, too_many}
use Rattle.dt_model_laws.specs.OverlayTrees.{OverlayRefusalIsOne, OverlayIsNotRefused}
use Rattle.dt_model.proofs.Tests.{each_in}
use Rattle.dt_model_laws.proofs.Overlays.{in_names, of_name}
use Rattle.dt_model_laws.proofs.OneOverlay.{one_end, one_target, holds_as}

-- ---- fragments

-- each fragment that stands after the events, with what it holds
record AreHeld (es : Events) (fs : List Fragment) : Type 0 where
  standing : (f : Fragment) → IsIn f fs → stands es (reverse (content f.name)) ≡ true
  listed : (n : Name) → stands es (reverse (content n)) ≡ true → (target : Target) × IsIn (record { name = n; target = target }) fs
  held : (f : Fragment) → IsIn f fs → HoldsTarget (overlay_of es []) f.name f.target

module _ (es : Events) (fs gs : List Fragment) (a : AreHeld es fs) (b : AreHeld es gs) where
  same_fragment : (f : Fragment) → IsIn f fs → IsIn f gs
  same_fragment f i =
      let w = b.listed f.name (a.standing f i) in
      let same : w.0 ≡ f.target = one_target (overlay_of es []) f.name w.0 f.target (b.held (record { name = f.name; target = w.0 }) w.1) (a.held f i) in
      subst (λ t. IsIn (record { name = f.name; target = t }) gs) same w.1

  brought : (p : Path) → IsBrought (overlay_of es fs) p → IsBrought (overlay_of es gs) p
  brought p h = (h.0, h.1, same_fragment h.0 h.2, h.3)

  contained : (r : OverlayReference) → IsContained (overlay_of es fs) r → IsContained (overlay_of es gs) r
  contained (inside p) h = brought p h
  contained (outside l) h = tt

each_other : (P Q : OverlayReference → Type 0) → ((r : OverlayReference) → P r → Q r) → (items : List (Item OverlayReference)) → EachReference P items → EachReference Q items
each_other P Q f [] h = tt
each_other P Q f (byte b ∷ items) h = each_other P Q f items h
each_other P Q f (reference r ∷ items) h = (f r h.0, each_other P Q f items h.1)

-- the fragments that are meant
record AreMeant (es : Events) (fs : List Fragment) : Type 0 where
  are : AreHeld es fs
  contained : (p : Path) (name : Name) (items : List (Item OverlayReference)) → IsBrought (overlay_of es fs) p → (overlay_of es fs).value p name ≡ Some items
      → EachReference (IsContained (overlay_of es fs)) items
  targets_contained : (f : Fragment) (r : OverlayReference) → IsIn f fs → f.target ≡ at_reference r → IsContained (overlay_of es fs) r

none_outside : (es : Events) (fs gs : List Fragment) → AreHeld es fs → AreMeant es gs → HasOutsideContent (overlay_of es fs) → ⊥
none_outside es fs gs a m (inl (p, name, items, there, is, not_all)) =
    not_all (each_other (IsContained (overlay_of es gs)) (IsContained (overlay_of es fs)) (contained es gs fs m.are a) items (m.contained p name items (brought es fs gs a m.are p there) is))
none_outside es fs gs a m (inr (f, r, i, is, not_it)) = not_it (contained es gs fs m.are a r (m.targets_contained f r (same_fragment es fs gs a m.are f i) is))

meant_of : (places : List Place) (o : Overlay) (m : OverlayMeans places o) → AreMeant m.so_far.source.events o.fragments
meant_of places o m =
    let es : Events = m.so_far.source.events in
    let fs : List Fragment = o.fragments in
    let standing : (f : Fragment) → IsIn f fs → o.stands (content f.name) ≡ true =
    (λ f i. each_in (λ n. o.stands (content n) ≡ true) (map (λ (f : Fragment). f.name) fs) f.name m.ordered.sound (in_names f fs i)) in
    let listed : (n : Name) → o.stands (content n) ≡ true → (target : Target) × IsIn (record { name = n; target = target }) fs = (λ n h. of_name n fs (m.ordered.complete n h)) in
    record {
      are = record {
        standing = λ f i. ap (λ (x : Overlay). x.stands (content f.name)) (sym m.means) ∙ standing f i;
        listed = λ n h. listed n (ap (λ (x : Overlay). x.stands (content n)) m.means ∙ h);
        held = λ f i. holds_as es fs [] f.name f.target (subst (λ (x : Overlay). HoldsTarget x f.name f.target) m.means (m.targeted f i));
      };
      contained = λ p name items. subst (λ (x : Overlay). IsBrought x p → x.value p name ≡ Some items → EachReference (IsContained x) items) m.means (m.contained p name items);
      targets_contained = λ f r i e. subst (λ (x : Overlay). IsContained x r) m.means (m.targets_contained f r i e);
    }

-- ---- after the last place

-- the fragments hold targets where a reference is refused
held_by : (es : Events) → IsLateOverlayRefusal es outside_content → (fs : List Fragment) × AreHeld es fs × HasOutsideContent (overlay_of es fs)
held_by es h = (
  h.0,
  record {
    standing = λ f i. (h.1 f.name).1 (f.target, i);
    listed = λ n k. (h.1 n).0 k;
    held = λ f i. holds_as es h.0 [] f.name f.target (h.2 f i);
  },
  h.3,
)

none_bad : (es : Events) (fs : List Fragment) → AreHeld es fs → IsLateOverlayRefusal es bad_fragment → ⊥
none_bad es fs a h = let w = a.listed h.0 h.1 in h.2 w.0 (a.held (record { name = h.0; target = w.0 }) w.1)

one_late : (es : Events) (r q : LateOverlayRefusal) → IsLateOverlayRefusal es r → IsLateOverlayRefusal es q → r ≡ q
one_late es bad_fragment bad_fragment h k = refl
one_late es bad_fragment outside_content h k = absurd (let w = held_by es k in none_bad es w.0 w.1 h)
one_late es outside_content bad_fragment h k = absurd (let w = held_by es h in none_bad es w.0 w.1 k)
one_late es outside_content outside_content h k = refl

meant_is_fine : (es : Events) (fs : List Fragment) (r : LateOverlayRefusal) → AreMeant es fs → IsLateOverlayRefusal es r → ⊥
meant_is_fine es fs bad_fragment m h = none_bad es fs m.are h
meant_is_fine es fs outside_content m h = let w = held_by es h in none_outside es w.0 fs w.1 m w.2

-- ---- the places

not_both : {o : Result OverlaySoFar OverlayRefusal} (s : OverlaySoFar) (r : OverlayRefusal) → o ≡ Ok s → o ≡ Err r → ⊥
not_both s r h k = let z : ◌≡◌ {A = Result OverlaySoFar OverlayRefusal} (Ok s) (Err r) = sym h ∙ k in cc

fine_at_end : (places : List Place) (o : Overlay) (r : LateOverlayRefusal) (s : OverlaySoFar) → (m : OverlayMeans places o) → s ≡ m.so_far → IsLateOverlayRefusal s.source.events r → ⊥
fine_at_end places o r s m e h = meant_is_fine m.so_far.source.events o.fragments r (meant_of places o m) (subst (λ (t : OverlaySoFar). IsLateOverlayRefusal t.source.events r) e h)

pub overlay_not_refused : OverlayIsNotRefused
overlay_not_refused places o (at_place r) m h = absurd (not_both m.so_far r m.all_read h)
overlay_not_refused places o (at_end r) m h = absurd (fine_at_end places o r h.0 m (one_end h.0 m.so_far h.1 m.all_read) h.2)
overlay_not_refused places o too_many m h = refl

pub one_refusal : OverlayRefusalIsOne
one_refusal places (at_place r) (at_place q) h k =
    let z : ◌≡◌ {A = Result OverlaySoFar OverlayRefusal} (Err r) (Err q) = sym h ∙ k in
    let e : r ≡ q = cc in
    ap at_place e
one_refusal places (at_place r) (at_end q) h k = absurd (not_both k.0 r k.1 h)
one_refusal places (at_end r) (at_place q) h k = absurd (not_both h.0 q h.1 k)
one_refusal places (at_end r) (at_end q) h k =
    ap at_end (one_late (k.0).source.events r q (subst (λ (s : OverlaySoFar). IsLateOverlayRefusal s.source.events r) (one_end h.0 k.0 h.1 k.1) h.2) k.2)
one_refusal places too_many q h k = sym (overlay_not_refused places h.0 q h.1 k)
one_refusal places (at_place r) too_many h k = overlay_not_refused places k.0 (at_place r) k.1 h
one_refusal places (at_end r) too_many h k = overlay_not_refused places k.0 (at_end r) k.1 h
