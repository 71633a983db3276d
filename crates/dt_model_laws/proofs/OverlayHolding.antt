-- What is true after each place of an overlay that is read, kept by the next.
use Rattle.std.proofs.Common.{◌≡◌, ℕ, true, false, List, [], ◌∷◌, ◌++◌, map, inl, inr, Result, Ok, Err, reverse, codes, refl, sym, subst, Some}
use Rattle.std.specs.List.{AllByRecursion}
use Rattle.std.specs.Str.{bytes_eq}
use Rattle.dt_model.specs.Names.{Name, IsNodeName, IsPropertyName, IsLabel}
use Rattle.dt_model.specs.Path.{is_bookkeeping, path_value}
use Rattle.dt_model.specs.Overlay.{content}
use Rattle.dt_model.specs.Event.{Stack, opening, definition, stands}
use Rattle.dt_model.specs.Source.{by_label, by_path, Part, one, number_of, IsPart, Place, root, block, delete_node, child, label, property, delete_property, delete_child, close, IsPlace, base, Body, SoFar, enter, labelled}
use Rattle.dt_model.specs.OverlaySource.{fragment_name, OverlaySoFar, overlay_start, OverlayRefusal, open_fragment, read_overlay, and_if_read, read_overlays}
use Rattle.dt_model.proofs.Labels.{labelled_names}
use Rattle.dt_model_laws.proofs.Sound.{sound-start}
use Rattle.dt_model_laws.proofs.Holding.{Rules, Obeys, Holds, holds-enter, holds-again, holds-property, holds-made}
use Rattle.dt_model_laws.proofs.OverlayMaking.{next_number, MakesAsAny, MakesFragment, MakesBlock, OverlayMakes, overlay_makes, one_by_one}
use Rattle.dt_model_laws.proofs.Plain.{plain_child}
use Rattle.dt_model_laws.proofs.Bytes.{IsByte, path_bytes}
use Rattle.dt_model_laws.proofs.FragmentNames.{fragment_named, fragment_plain, overlay_named, target_named, target_path_named}

-- the rules of names, of which none is a bookkeeping node's or `phandle`
abbrev pub overlay_rules : Rules
overlay_rules = record {
  node = λ p. AllByRecursion IsNodeName p × (is_bookkeeping (reverse p) ≡ false);
  label = IsLabel;
  value = λ n v. IsPropertyName n × AllByRecursion IsPart v × (bytes_eq n (codes "phandle") ≡ false);
}

pub holds-overlay_start : Holds overlay_rules (overlay_start.source)
holds-overlay_start = record {
  sound = sound-start;
  here = λ b bs e. cc;
  each = ((tt, refl), tt);
}

-- ---- a fragment is opened

abbrev no_names : Body
no_names = record { properties = []; children = [] }

-- by any rules that its nodes and its property follow
module _ (r : Rules) (s : SoFar) (h : Holds r s) (f name : Name) (value : List Part) where
  pub holds-opened : r.node (f ∷ []) → r.node (reverse (content f)) → r.value name value → Holds r (open_fragment f name value s)
  holds-opened own inner follows =
      let s1 : SoFar = enter s (f ∷ []) [] in
      let h1 : Holds r s1 = holds-enter r s h (f ∷ []) []
      (λ x q e. let same : [] ≡ q = cc in subst (λ p. stands s.events p ≡ true) same h.sound.rooted) own in
      let s2 : SoFar = record { events = s1.events ++ definition s1.node name value ∷ []; node = s1.node; bodies = no_names ∷ [] } in
      let h2 : Holds r s2 = holds-property r s1 h1 no_names [] (no_names ∷ []) name value refl follows in
      let top : Stack = reverse (content f) in
      let h3 : Holds r (enter s2 top []) = holds-enter r s2 h2 top []
      (λ x q e. let same : f ∷ [] ≡ q = cc in subst (λ p. stands s2.events p ≡ true) same (h2.here no_names [] refl)) inner in
      subst (λ es. Holds r (record { events = es; node = top; bodies = no_names ∷ [] }))
      (one_by_one s.events (opening (f ∷ [])) (definition (f ∷ []) name value) (opening top)) h3

module _ (s : SoFar) (h : Holds overlay_rules s) (k : ℕ) (name : Name) (value : List Part) (follows : overlay_rules.value name value) where
  pub holds-fragment : Holds overlay_rules (open_fragment (fragment_name k) name value s)
  holds-fragment =
      let own = fragment_named k in
      holds-opened overlay_rules s h (fragment_name k) name value ((own, tt), fragment_plain k) ((overlay_named, (own, tt)), fragment_plain k) follows

-- ---- a place is read

any_parts : (bs : List ℕ) → AllByRecursion IsByte bs → AllByRecursion IsPart (map one bs)
any_parts [] h = tt
any_parts (b ∷ bs) h = (h.0, any_parts bs h.1)

module _ (written : List Name) (s t : OverlaySoFar) (h : Holds overlay_rules s.source) where
  -- what a place does as in any source
  holds-as_any : (place : Place) → Obeys overlay_rules base place → MakesAsAny s place t → Holds overlay_rules t.source
  holds-as_any place o m = holds-made overlay_rules s.source h base place t.source o m.0

  holds-new : (name : Name) (value : List Part) → overlay_rules.value name value → MakesFragment written s name value t → Holds overlay_rules t.source
  holds-new name value follows m =
      subst (λ (x : OverlaySoFar). Holds overlay_rules x.source) (sym m.1) (holds-fragment s.source h (next_number written s) name value follows)

  holds-block : (l : Name) (p : Stack) → labelled s.source.events l ≡ Some p → MakesBlock s p t → Holds overlay_rules t.source
  holds-block l p e m =
      subst (λ (x : OverlaySoFar). Holds overlay_rules x.source) (sym m.1) (holds-again overlay_rules s.source h p [] (h.sound.labels l p (labelled_names s.source.events l p e)))

  pub holds-overlay_made : (place : Place) → IsPlace place → OverlayMakes written s place t → Holds overlay_rules t.source
  holds-overlay_made root v m = holds-as_any root tt m
  holds-overlay_made (block (by_label l)) v (inl m) = holds-block l m.0 m.1 m.2
  holds-overlay_made (block (by_label l)) v (inr m) = holds-new (codes "target") (number_of (by_label l) ∷ []) (target_named, (v, tt), refl) m
  holds-overlay_made (block (by_path p)) v m = holds-new (codes "target-path") (map one (path_value p)) (target_path_named, any_parts (path_value p) (path_bytes p v), refl) m
  holds-overlay_made (child n) v m = holds-as_any (child n) (λ p k r. ((v, k.0), plain_child p n k.1 r)) m
  holds-overlay_made (label l) v m = holds-as_any (label l) v m
  holds-overlay_made (property n w) v m = holds-as_any (property n w) (v.0, v.1, m.0) m.1
  holds-overlay_made (delete_node r) v m = absurd m
  holds-overlay_made (delete_property n) v m = absurd m
  holds-overlay_made (delete_child n) v m = absurd m
  holds-overlay_made close v m = holds-as_any close tt m

-- ---- all places

pub if_read_ok : (o : Result OverlaySoFar OverlayRefusal) (next : OverlaySoFar → Result OverlaySoFar OverlayRefusal) (t : OverlaySoFar) → and_if_read o next ≡ Ok t → (s : OverlaySoFar) × (o ≡ Ok s) × (next s ≡ Ok t)
if_read_ok (Ok s) next t h = (s, refl, h)
if_read_ok (Err e) next t h = cc

pub holds-overlay : (written : List Name) (s t : OverlaySoFar) (places : List Place) → Holds overlay_rules s.source → AllByRecursion IsPlace places → read_overlays written s places ≡ Ok t → Holds overlay_rules t.source
holds-overlay written s t [] h v e = let same : s ≡ t = cc in subst (λ (x : OverlaySoFar). Holds overlay_rules x.source) same h
holds-overlay written s t (place ∷ places) h v e =
    let step = if_read_ok (read_overlay written s place) (λ u. read_overlays written u places) t e in
    holds-overlay written step.0 t places (holds-overlay_made written s step.0 h place v.0 (overlay_makes written s step.0 place step.1)) v.1 step.2
