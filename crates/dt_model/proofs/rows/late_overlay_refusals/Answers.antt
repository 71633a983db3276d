use Rattle.std.proofs.Common.{◌≡◌, Bool, true, false, [], ◌∷◌, Option, Some, None, List, codes, refl, sym, ap, subst, inl, inr}
use Rattle.std.specs.Str.{bytes_eq}
use Rattle.dt_model.specs.Names.{Name}
use Rattle.dt_model.specs.Lists.{IsIn}
use Rattle.dt_model.specs.Meaning.{Item, reference}
use Rattle.dt_model.specs.Event.{stands}
use Rattle.dt_model.specs.Overlay.{OverlayReference, inside, Target, at_reference, at_path, Fragment, content, IsBrought, HoldsTarget}
use Rattle.dt_model.specs.OverlaySource.{overlay_of}
use Rattle.dt_model.specs.Source.{Events}
use Rattle.dt_model.specs.Rows.{overlay_events_of, overlay_read, no_target_source, outside_content_source}
use Rattle.dt_model.proofs.EventSteps.{bytes_eq-is}
use Rattle.dt_model.proofs.rows.late_overlay_refusals.Goals as goal

-- ---- a fragment without a target

abbrev no_target_events : Events
no_target_events = overlay_events_of (overlay_read no_target_source)

none_held : (target : Target) → HoldsTarget (overlay_of no_target_events []) (codes "g") target → ⊥
none_held (at_reference r) h = let z : ◌≡◌ {A = Option (List (Item OverlayReference))} None (Some (reference r ∷ [])) = h in cc
none_held (at_path p) h = let z : ◌≡◌ {A = Option (List (Item OverlayReference))} None (Some _) = h.1 in cc

pub returns-clause-target : goal.returns-clause-target
returns-clause-target c = (_, refl, (codes "g", refl, none_held))

-- ---- a reference to what no fragment brings

abbrev es : Events
es = overlay_events_of (overlay_read outside_content_source)

only_g : (f : Name) → stands es (codes "__overlay__" ∷ f ∷ []) ≡ true → codes "g" ≡ f
only_g f h = step (bytes_eq (codes "g") f) refl
  where
    step : (b : Bool) → bytes_eq (codes "g") f ≡ b → codes "g" ≡ f
    step true e = bytes_eq-is (codes "g") f e
    step false e = let z = rw e at h in cc

abbrev fragments : List Fragment
fragments = record { name = codes "g"; target = at_path [] } ∷ []

named : (f : Name) (target : Target) → IsIn (record { name = f; target = target }) fragments → codes "g" ≡ f
named f target (inl e) = ap (λ (x : Fragment). x.name) (sym e)
named f target (inr h) = absurd h

each_held : (f : Fragment) → IsIn f fragments → HoldsTarget (overlay_of es fragments) f.name f.target
each_held f (inl e) = subst (λ (x : Fragment). HoldsTarget (overlay_of es fragments) x.name x.target) (sym e) (refl, refl, tt)
each_held f (inr h) = absurd h

-- h is no node that g brings
not_brought : IsBrought (overlay_of es fragments) (codes "h" ∷ []) → ⊥
not_brought h = let z : codes "h" ∷ [] ≡ h.0.name ∷ (codes "__overlay__" ∷ h.1) = h.3 in let tail : ◌≡◌ {A = List Name} [] (codes "__overlay__" ∷ h.1) = cc in cc

pub returns-clause-reference : goal.returns-clause-reference
returns-clause-reference c = (
  _,
  refl,
  (
    fragments,
    λ f. (
      λ h. (at_path [], inl (λ i. record { name = sym (only_g f h) i; target = at_path [] })),
      λ h. subst (λ n. stands es (codes "__overlay__" ∷ n ∷ []) ≡ true) (named f h.0 h.1) refl,
    ),
    each_held,
    inl (content (codes "g"), codes "p", reference (inside (codes "h" ∷ [])) ∷ [], (record { name = codes "g"; target = at_path [] }, [], inl refl, refl), refl, λ h. not_brought h.0),
  ),
)
