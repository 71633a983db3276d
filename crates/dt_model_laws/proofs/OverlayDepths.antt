-- After the places of an overlay the root stands, and no node is deeper than the limit, whatever the names are.
use Rattle.std.proofs.Common.{◌≡◌, true, not, List, [], ◌∷◌, ◌++◌, map, inl, inr, Some, None, Ok, reverse, codes, sym, subst, ◌∙◌, arith}
use Rattle.std.specs.List.{list_any}
use Rattle.std.specs.Str.{bytes_eq}
use Rattle.dt_model.specs.Names.{Name}
use Rattle.dt_model.specs.Path.{path_value}
use Rattle.dt_model.specs.Event.{Stack, opening, definition, stands}
use Rattle.dt_model.specs.Overlay.{content}
use Rattle.dt_model.specs.Source.{by_label, by_path, Part, one, number_of, Place, root, block, delete_node, child, label, property, delete_property, delete_child, close, base, SoFar, Events, labelled, read}
use Rattle.dt_model.specs.OverlaySource.{root_children, fragment_name, OverlaySoFar, overlay_start, overlay_phandle, overlay_path, with_next, is_overlay_part, read_overlay, read_overlays}
use Rattle.dt_model.proofs.EventSteps.{stands-push}
use Rattle.dt_model_laws.specs.OverlayTrees.{OverlayNodesAreShallow, OverlayRootStands}
use Rattle.dt_model.proofs.Cases.{not_refused}
use Rattle.dt_model_laws.proofs.Depths.{AreShallow, shallow-opening, shallow-read}
use Rattle.dt_model_laws.proofs.Holding.{Holds, holds-again, holds-made}
use Rattle.dt_model.proofs.Labels.{labelled_names}
use Rattle.dt_model_laws.proofs.Making.{makes}
use Rattle.dt_model_laws.proofs.OverlayHolding.{if_read_ok, holds-opened}
use Rattle.dt_model_laws.proofs.OverlayMaking.{next_number, MakesFragment, MakesBlock, OverlayMakes, with_next_ok, overlay_makes, one_by_one}
use Rattle.dt_model_laws.proofs.ReadAll.{no_rules, any_obeys}
use Rattle.dt_model_laws.proofs.Sound.{sound-start}

holds-start : Holds no_rules (overlay_start.source)
holds-start = record {
  sound = sound-start;
  here = λ b bs e. cc;
  each = (tt, tt);
}

-- three events, of which the first and the last open nodes
shallow-fragment : (es : Events) (f name : Name) (value : List Part) → AreShallow es
    → AreShallow (es ++ opening (f ∷ []) ∷ definition (f ∷ []) name value ∷ opening (reverse (content f)) ∷ [])
shallow-fragment es f name value shallow =
    let first : AreShallow (es ++ opening (f ∷ []) ∷ []) = shallow-opening es (f ∷ []) shallow (omega arith) in
    let second : AreShallow ((es ++ opening (f ∷ []) ∷ []) ++ definition (f ∷ []) name value ∷ []) =
    (λ p h. first p (sym (stands-push (es ++ opening (f ∷ []) ∷ []) (definition (f ∷ []) name value) p) ∙ h)) in
    subst AreShallow (one_by_one es (opening (f ∷ [])) (definition (f ∷ []) name value) (opening (reverse (content f))))
    (shallow-opening ((es ++ opening (f ∷ []) ∷ []) ++ definition (f ∷ []) name value ∷ []) (reverse (content f)) second (omega arith))

-- what is kept
record IsLow (s : OverlaySoFar) : Type 0 where
  holds : Holds no_rules s.source
  shallow : AreShallow s.source.events

module _ (written : List Name) (s t : OverlaySoFar) (low : IsLow s) where
  as_any : (place : Place) → with_next s.next (read base s.source place) ≡ Ok t → IsLow t
  as_any place e =
      let w = with_next_ok s.next (read base s.source place) t e in
      let u : SoFar = w.0 in
      let m = makes base s.source place u w.1 in
      subst IsLow (sym w.2)
      (record { holds = holds-made no_rules s.source low.holds base place u (any_obeys base place) m; shallow = shallow-read base s.source u low.holds low.shallow place w.1 m })

  a_fragment : (name : Name) (value : List Part) → MakesFragment written s name value t → IsLow t
  a_fragment name value m =
      let f : Name = fragment_name (next_number written s) in
      subst IsLow (sym m.1)
      (record { holds = holds-opened no_rules s.source low.holds f name value tt tt tt; shallow = shallow-fragment s.source.events f name value low.shallow })

  a_block : (l : Name) (p : Stack) → labelled s.source.events l ≡ Some p → MakesBlock s p t → IsLow t
  a_block l p e m =
      let there : stands s.source.events p ≡ true = low.holds.sound.labels l p (labelled_names s.source.events l p e) in
      subst IsLow (sym m.1)
      (record { holds = holds-again no_rules s.source low.holds p [] there; shallow = shallow-opening s.source.events p low.shallow (low.shallow p there) })

  by_label_low : (l : Name) → OverlayMakes written s (block (by_label l)) t → IsLow t
  by_label_low l (inl m) = a_block l m.0 m.1 m.2
  by_label_low l (inr m) = a_fragment (codes "target") (number_of (by_label l) ∷ []) m

  low-read : (place : Place) → read_overlay written s place ≡ Ok t → IsLow t
  low-read root e = as_any root e
  low-read (block (by_label l)) e = by_label_low l (overlay_makes written s t (block (by_label l)) e)
  low-read (block (by_path p)) e = a_fragment (codes "target-path") (map one (path_value p)) (overlay_makes written s t (block (by_path p)) e)
  low-read (child n) e = as_any (child n) e
  low-read (label l) e = as_any (label l) e
  low-read (property n v) e =
      let a = not_refused (bytes_eq n (codes "phandle")) overlay_phandle _ t e in
      let b = not_refused (list_any (λ x. not (is_overlay_part x)) v) overlay_path (with_next s.next (read base s.source (property n v))) t a.1 in
      as_any (property n v) b.1
  low-read (delete_node r) e = cc
  low-read (delete_property n) e = cc
  low-read (delete_child n) e = cc
  low-read close e = as_any close e

low-all : (written : List Name) (s t : OverlaySoFar) (places : List Place) → IsLow s → read_overlays written s places ≡ Ok t → IsLow t
low-all written s t [] low e = let same : s ≡ t = cc in subst IsLow same low
low-all written s t (place ∷ places) low e =
    let step = if_read_ok (read_overlay written s place) (λ u. read_overlays written u places) t e in
    low-all written step.0 t places (low-read written s step.0 low place step.1) step.2

no_nodes : AreShallow []
no_nodes p h = cc

low-start : IsLow overlay_start
low-start = record { holds = holds-start; shallow = shallow-opening [] [] no_nodes (omega arith) }

pub overlay_shallow : OverlayNodesAreShallow
overlay_shallow places s e p h = (low-all (root_children None places) overlay_start s places low-start e).shallow p h

pub overlay_rooted : OverlayRootStands
overlay_rooted places s e = (low-all (root_children None places) overlay_start s places low-start e).holds.sound.rooted
