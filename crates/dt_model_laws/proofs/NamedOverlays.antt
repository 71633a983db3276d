-- The named tree that an overlay's source means: a source may mean it, it is the only one, and with few nodes the source
-- isn't refused.
use Rattle.std.proofs.Common.{◌≡◌, ◌+◌, ◌≤◌, List, [], ◌∷◌, refl, codes, is_some, sym, ap, subst, ◌∙◌, Option, Some, None, true≢false, arith}
use Rattle.std.specs.Prelude.{option_and_then}
use Rattle.std.specs.List.{AllByRecursion}
use Rattle.dt_model.specs.Limits.{most_nodes}
use Rattle.dt_model.specs.Path.{Path}
use Rattle.dt_model.specs.Meaning.{Item}
use Rattle.dt_model.specs.Source.{Place, IsPlace, Events}
use Rattle.dt_model.specs.Valid.{AreDistinct, IsReservation}
use Rattle.dt_model.specs.Valid as valid
use Rattle.dt_model.specs.Overlay.{OverlayReference, Target, at_reference, at_path as to_path, Fragment, Overlay, IsOverlay}
use Rattle.dt_model.specs.OverlaySource.{OverlaySoFar, root_children, overlay_start}
use Rattle.dt_model.specs.Tree.{Forest, no_nodes, branch, Property, Reading}
use Rattle.dt_model.specs.Named.{NodeReference, Named, number_of, node_count, paths_of}
use Rattle.dt_model.specs.NamedOf.{path_among, IsNamedBy, asked_in}
use Rattle.dt_model.specs.NamedOverlay.{NamedTarget, to_reference, to_text, NamedFragment, IsTargetOf, AreFragmentsOf, IsNamedOverlayOf}
use Rattle.dt_model.specs.Numbering.{IsNumbering, written_numbers}
use Rattle.dt_model.specs.Fixups.{fixup_nodes, with_fixups}
use Rattle.dt_model.specs.Instance.{symbols_of, instance_of, followed_by, with_symbols}
use Rattle.dt_model.specs.Refused.{StandMany, too_many, IsOverlayRefusedFor}
use Rattle.dt_model_laws.specs.OverlayTrees.{OverlayIsNamed, OverlayManyStand, NamedOverlayIsNotRefused, OneNamedOverlay, OneObject, ObjectIsNotRefused}
use Rattle.dt_model_laws.proofs.Holding.{Holds, node_follows, label_follows, value_follows}
use Rattle.dt_model_laws.proofs.OverlayHolding.{overlay_rules, holds-overlay_start, holds-overlay}
use Rattle.dt_model_laws.proofs.Overlays.{source_overlay}
use Rattle.dt_model_laws.proofs.OneOverlay.{one_end, one_overlay}
use Rattle.dt_model_laws.proofs.OverlayDepths.{overlay_shallow}
use Rattle.dt_model_laws.proofs.OverlayRefusals.{overlay_not_refused}
use Rattle.dt_model_laws.proofs.NamedPaths.{paths_distinct}
use Rattle.dt_model_laws.proofs.NamedSources.{apart}
use Rattle.dt_model_laws.proofs.NamedByEvents.{AreNamable, is_named, stand_many, not_many}
use Rattle.dt_model_laws.proofs.OneNamedTree.{reference_back, one_named}
use Rattle.dt_model_laws.proofs.OneNumbering.{one_numbering}
use Rattle.dt_model_laws.proofs.NumberedTrees.{count_same}
use Rattle.dt_model_laws.proofs.Places.{HasAt, at_path, one_at}

module _ (places : List Place) (t : Named NodeReference) (fragments : List NamedFragment) (n : IsNamedOverlayOf places t fragments) where
  abbrev es : Events
  es = n.means.so_far.source.events

  module _ (valid : AllByRecursion IsPlace places) where
    holds : Holds overlay_rules n.means.so_far.source
    holds = holds-overlay (root_children None places) overlay_start n.means.so_far places holds-overlay_start valid n.means.all_read

    is_overlay : IsOverlay n.overlay
    is_overlay = source_overlay places n.overlay valid n.means

    -- no node of an overlay has a property `phandle`
    no_phandle : (p : Path) → n.overlay.value p (codes "phandle") ≡ None
    no_phandle p = step (n.overlay.value p (codes "phandle")) refl
      where
        step : (o : Option (List (Item OverlayReference))) → n.overlay.value p (codes "phandle") ≡ o → o ≡ None
        step None e = refl
        step (Some v) e = absurd (true≢false (is_overlay.values_named p (codes "phandle") (ap is_some e)).1)

    namable : AreNamable es n.overlay.value
    namable = record {
      shallow = overlay_shallow places n.means.so_far n.means.all_read;
      nodes = λ p h. (node_follows overlay_rules es p holds.each h).0;
      labels = λ l p h. label_follows overlay_rules es l p holds.each h;
      one = holds.sound.one;
      properties = λ p x v h. (value_follows overlay_rules es p x v holds.each h).0;
      bytes = is_overlay.bytes;
      numbered = λ p items h. absurd (let z : None ≡ Some items = sym (no_phandle p) ∙ h in cc);
      own = λ p q k h g. absurd (let z : None ≡ Some k = sym (ap (option_and_then number_of) (no_phandle p)) ∙ h in cc);
    }

pub overlay_is_named : OverlayIsNamed
overlay_is_named places t fragments valid few n =
    is_named (es places t fragments n) n.overlay.value t n.tree (namable places t fragments n valid) (subst (AllByRecursion IsReservation) (sym n.no_reservations) tt) few

pub overlay_stand_many : OverlayManyStand
overlay_stand_many places t fragments many n = stand_many (es places t fragments n) n.overlay.value t n.tree most_nodes many

-- ---- refusals

few_not_refused : (places : List Place) (t : Named NodeReference) (fragments : List NamedFragment) → IsNamedOverlayOf places t fragments → 1 + node_count t.children ≤ most_nodes
    → IsOverlayRefusedFor places too_many → ⊥
few_not_refused places t fragments n few h =
    let end : h.1.so_far ≡ n.means.so_far = one_end h.1.so_far n.means.so_far h.1.all_read n.means.all_read in
    not_many (es places t fragments n) n.overlay.value t n.tree most_nodes few (subst (λ (s : OverlaySoFar). StandMany most_nodes s.source.events) end h.2)

pub named_not_refused : NamedOverlayIsNotRefused
named_not_refused places t fragments r n few h =
    few_not_refused places t fragments n few (subst (IsOverlayRefusedFor places) (overlay_not_refused places n.overlay r n.means h) h)

-- ---- the object

one_target : (paths : List Path) (x y : NamedTarget) (z : Target) → AreDistinct paths → IsTargetOf paths x z → IsTargetOf paths y z → x ≡ y
one_target paths (to_reference r) (to_reference s) (at_reference q) d h k = ap to_reference (reference_back paths r s d h.0 k.0 (h.1 ∙ sym k.1))
one_target paths (to_reference r) (to_text text) (at_reference q) d h k = absurd k
one_target paths (to_text text) y (at_reference q) d h k = absurd h
one_target paths (to_reference r) y (to_path p) d h k = absurd h
one_target paths (to_text text) (to_reference r) (to_path p) d h k = absurd k
one_target paths (to_text text) (to_text other) (to_path p) d h k = ap to_text (h ∙ sym k)

one_list : (paths : List Path) (fs gs : List NamedFragment) (hs : List Fragment) → AreDistinct paths → AreFragmentsOf paths fs hs → AreFragmentsOf paths gs hs → fs ≡ gs
one_list paths [] [] [] d h k = refl
one_list paths (f ∷ fs) gs [] d h k = absurd h
one_list paths [] (g ∷ gs) [] d h k = absurd k
one_list paths [] gs (x ∷ hs) d h k = absurd h
one_list paths (f ∷ fs) [] (x ∷ hs) d h k = absurd k
one_list paths (f ∷ fs) (g ∷ gs) (x ∷ hs) d h k =
    let at : path_among paths f.node ≡ path_among paths g.node = h.1 ∙ sym k.1 in
    let node : f.node ≡ g.node = one_at f.node g.node (path_among paths f.node) paths d (at_path f.node paths h.0) (subst (λ p. HasAt g.node p paths) (sym at) (at_path g.node paths k.0)) in
    let target : f.target ≡ g.target = one_target paths f.target g.target x.target d h.2 k.2 in
    let first : f ≡ g = λ i. record { node = node i; target = target i } in
    let rest : fs ≡ gs = one_list paths fs gs hs d h.3 k.3 in
    λ i. first i ∷ rest i

pub one_named_overlay : OneNamedOverlay
one_named_overlay places t u fragments others n m =
    let es = es places u others m in
    let end : n.means.so_far ≡ m.means.so_far = one_end n.means.so_far m.means.so_far n.means.all_read m.means.all_read in
    let same : n.overlay ≡ m.overlay = one_overlay places n.overlay m.overlay n.means m.means in
    let of_t : IsNamedBy es m.overlay.value t = subst (λ (o : Overlay). IsNamedBy es o.value t) same (subst (λ (s : OverlaySoFar). IsNamedBy s.source.events n.overlay.value t) end n.tree) in
    let tree : t ≡ u = one_named es m.overlay.value t u of_t m.tree (n.no_reservations ∙ sym m.no_reservations) in
    let first : AreFragmentsOf (paths_of u) fragments m.overlay.fragments =
    subst (λ (o : Overlay). AreFragmentsOf (paths_of u) fragments o.fragments) same (subst (λ (x : Named NodeReference). AreFragmentsOf (paths_of x) fragments n.overlay.fragments) tree n.fragments_are) in
    (tree, one_list (paths_of u) fragments others m.overlay.fragments (paths_distinct u (apart es m.overlay.value u m.tree)) first m.fragments_are)

pub one_object : OneObject
one_object places t u a b =
    let same : a.named ≡ b.named = (one_named_overlay places a.named b.named a.fragments b.fragments a.of_places b.of_places).0 in
    let of_a : IsNumbering (asked_in b.named) a.numbers = subst (λ (x : Named NodeReference). IsNumbering (asked_in x) a.numbers) same a.numbering in
    let numbers : a.numbers ≡ b.numbers = one_numbering (written_numbers (asked_in b.named)) (asked_in b.named) a.numbers b.numbers of_a b.numbering in
    a.is ∙ (λ i. with_fixups (same i) (with_symbols (symbols_of (same i)) (instance_of (numbers i) (same i)))) ∙ sym b.is

-- ---- how many nodes it has

count_followed : (fs gs : Forest) → valid.node_count fs ≤ valid.node_count (followed_by fs gs)
count_followed no_nodes gs = omega arith
count_followed (branch x ps c s) gs = let l = count_followed s gs in omega (arith, l)

count_symbols : (symbols : List Property) (r : Reading) → valid.node_count r.children ≤ valid.node_count (with_symbols symbols r).children
count_symbols [] r = omega arith
count_symbols (s ∷ symbols) r = count_followed r.children (branch (codes "__symbols__") (s ∷ symbols) no_nodes no_nodes)

pub object_not_refused : ObjectIsNotRefused
object_not_refused places t r object few h =
    let named = object.named in
    let bare = instance_of object.numbers named in
    let a = count_same object.numbers 1 named.children in
    let b = count_symbols (symbols_of named) bare in
    let c = count_followed (with_symbols (symbols_of named) bare).children (fixup_nodes named) in
    let d = ap (λ (x : Reading). valid.node_count x.children) object.is in
    named_not_refused places named object.fragments r object.of_places (omega (arith, few, a, b, c, d)) h
