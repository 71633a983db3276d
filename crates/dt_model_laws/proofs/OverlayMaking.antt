-- What a place of an overlay that is read did to what was read before it, by cases on the place.
use Rattle.std.proofs.Common.{◌≡◌, ℕ, ◌+◌, false, not, List, [], ◌∷◌, ◌++◌, append_assoc, map, length, ◌⊎◌, inl, inr, Option, Some, None, Result, Ok, Err, codes, refl, sym, ap, subst, ◌∙◌}
use Rattle.std.specs.List.{list_any}
use Rattle.std.specs.Option.{option_map_or}
use Rattle.std.specs.Str.{bytes_eq}
use Rattle.dt_model.specs.Names.{Name}
use Rattle.dt_model.specs.Path.{path_value}
use Rattle.dt_model.specs.Event.{Stack, Event}
use Rattle.dt_model.specs.Source.{by_label, by_path, Part, one, number_of, Place, root, block, delete_node, child, label, property, delete_property, delete_child, close, base, Refusal, Events, SoFar, labelled, enter, outside, read}
use Rattle.dt_model.specs.OverlaySource.{fragment_name, free_from, OverlaySoFar, OverlayRefusal, overlay_phandle, overlay_path, with_next, open_fragment, new_fragment, is_overlay_part, read_overlay}
use Rattle.dt_model.proofs.Cases.{not_refused}
use Rattle.dt_model_laws.proofs.Making.{Makes, makes, outside_ok, same_ok}

-- the number of the next new fragment
abbrev pub next_number : List Name → OverlaySoFar → ℕ
next_number written s = free_from written (length written) s.next

-- as in any source
abbrev pub MakesAsAny : OverlaySoFar → Place → OverlaySoFar → Type 0
MakesAsAny s place t = Makes base s.source place t.source × (t.next ≡ s.next)

-- a new fragment is opened, with this property
abbrev pub MakesFragment : List Name → OverlaySoFar → Name → List Part → OverlaySoFar → Type 0
MakesFragment written s name value t =
    (s.source.bodies ≡ []) × (t ≡ record { source = open_fragment (fragment_name (next_number written s)) name value s.source; next = next_number written s + 1 })

-- the body of a node of the overlay is opened
abbrev pub MakesBlock : OverlaySoFar → Stack → OverlaySoFar → Type 0
MakesBlock s p t = (s.source.bodies ≡ []) × (t ≡ record { source = enter s.source p []; next = s.next })

-- the place makes s into t
abbrev pub OverlayMakes : List Name → OverlaySoFar → Place → OverlaySoFar → Type 0
OverlayMakes written s root t = MakesAsAny s root t
OverlayMakes written s (block (by_label l)) t =
    ((p : Stack) × (labelled s.source.events l ≡ Some p) × MakesBlock s p t) ⊎ MakesFragment written s (codes "target") (number_of (by_label l) ∷ []) t
OverlayMakes written s (block (by_path p)) t = MakesFragment written s (codes "target-path") (map one (path_value p)) t
OverlayMakes written s (delete_node r) t = ⊥
OverlayMakes written s (child n) t = MakesAsAny s (child n) t
OverlayMakes written s (label l) t = MakesAsAny s (label l) t
OverlayMakes written s (property n v) t = (bytes_eq n (codes "phandle") ≡ false) × MakesAsAny s (property n v) t
OverlayMakes written s (delete_property n) t = ⊥
OverlayMakes written s (delete_child n) t = ⊥
OverlayMakes written s close t = MakesAsAny s close t

same_overlay : (x y : OverlaySoFar) → ◌≡◌ {A = Result OverlaySoFar OverlayRefusal} (Ok x) (Ok y) → y ≡ x
same_overlay x y e = cc

pub with_next_ok : (n : ℕ) (o : Result SoFar Refusal) (t : OverlaySoFar) → with_next n o ≡ Ok t → (u : SoFar) × (o ≡ Ok u) × (t ≡ record { source = u; next = n })
with_next_ok n (Ok u) t h = (u, refl, same_overlay (record { source = u; next = n }) t h)
with_next_ok n (Err e) t h = cc

module _ (written : List Name) (s t : OverlaySoFar) where
  as_any : (place : Place) → with_next s.next (read base s.source place) ≡ Ok t → MakesAsAny s place t
  as_any place e =
      let w = with_next_ok s.next (read base s.source place) t e in
      (subst (Makes base s.source place) (sym (ap (λ (x : OverlaySoFar). x.source) w.2)) (makes base s.source place w.0 w.1), ap (λ (x : OverlaySoFar). x.next) w.2)

  at_top : (n : ℕ) (made : SoFar) → with_next n (outside s.source.bodies (Ok made)) ≡ Ok t → (s.source.bodies ≡ []) × (t ≡ record { source = made; next = n })
  at_top n made e =
      let w = with_next_ok n (outside s.source.bodies (Ok made)) t e in
      let o = outside_ok s.source.bodies (Ok made) w.0 w.1 in
      (o.0, w.2 ∙ ap (λ (u : SoFar). record { source = u; next = n }) (same_ok made w.0 o.1))

  a_fragment : (name : Name) (value : List Part) → new_fragment written s name value ≡ Ok t → MakesFragment written s name value t
  a_fragment name value e = at_top (next_number written s + 1) (open_fragment (fragment_name (next_number written s)) name value s.source) e

  -- a block of what a label names, or of what it doesn't
  by_label_block : (l : Name) (o : Option Stack) → labelled s.source.events l ≡ o
      → option_map_or (λ p. with_next s.next (outside s.source.bodies (Ok (enter s.source p [])))) o (new_fragment written s (codes "target") (number_of (by_label l) ∷ [])) ≡ Ok t → OverlayMakes written s (block (by_label l)) t
  by_label_block l None is e = inr (a_fragment (codes "target") (number_of (by_label l) ∷ []) e)
  by_label_block l (Some p) is e = inl (p, is, at_top s.next (enter s.source p []) e)

  pub overlay_makes : (place : Place) → read_overlay written s place ≡ Ok t → OverlayMakes written s place t
  overlay_makes root e = as_any root e
  overlay_makes (block (by_label l)) e = by_label_block l (labelled s.source.events l) refl e
  overlay_makes (block (by_path p)) e = a_fragment (codes "target-path") (map one (path_value p)) e
  overlay_makes (child n) e = as_any (child n) e
  overlay_makes (label l) e = as_any (label l) e
  overlay_makes (property n v) e =
      let a = not_refused (bytes_eq n (codes "phandle")) overlay_phandle _ t e in
      let b = not_refused (list_any (λ x. not (is_overlay_part x)) v) overlay_path (with_next s.next (read base s.source (property n v))) t a.1 in
      (a.0, as_any (property n v) b.1)
  overlay_makes (delete_node r) e = cc
  overlay_makes (delete_property n) e = cc
  overlay_makes (delete_child n) e = cc
  overlay_makes close e = as_any close e

-- three events, one after another
pub one_by_one : (es : Events) (a b c : Event (List Part)) → ((es ++ a ∷ []) ++ b ∷ []) ++ c ∷ [] ≡ es ++ a ∷ b ∷ c ∷ []
one_by_one es a b c = append_assoc (es ++ a ∷ []) (b ∷ []) (c ∷ []) ∙ append_assoc es (a ∷ []) (b ∷ c ∷ [])
