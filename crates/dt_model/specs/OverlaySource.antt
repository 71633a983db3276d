-- What an overlay's source means (dtc's notes on overlay objects; Devicetree Specification v0.4, chapter 6): its places are
-- those of any source, but a block that names a node of some other tree opens a fragment.
use Rattle.std.specs.Prelude.{◌≡◌, ◌↔◌, ◌⊎◌, ℕ, zero, suc, ◌+◌, Bool, true, false, ◌||◌, not, List, [], ◌∷◌, ◌++◌, length, Option, Some, None, Result, Ok, Err, option_map, map, reverse, if◌then◌else◌, codes, decimal}
use Rattle.std.specs.List.{list_any, flat_map}
use Rattle.std.specs.Option.{option_map_or}
use Rattle.std.specs.Str.{bytes_eq}
use Rattle.dt_model.specs.Names.{Name}
use Rattle.dt_model.specs.Path.{Path, path_value}
use Rattle.dt_model.specs.Lists.{IsIn, AreInOrder}
use Rattle.dt_model.specs.Meaning.{Item, byte, reference, EachReference}
use Rattle.dt_model.specs.Event.{opening, definition, stands, value_at, age}
use Rattle.dt_model.specs.Overlay.{OverlayReference, inside, outside, Target, at_reference, Fragment, Overlay, content, IsBrought, IsContained, HoldsTarget}
use Rattle.dt_model.specs.Source.{by_label, by_path, Part, one, number_of, text_of, Place, root, block, delete_node, child, label, property, delete_property, delete_child, close, base, Refusal, Events, SoFar, labelled, is_among, enter, outside as at_top, read, labels_there, refers_there}

-- ---- the names of new fragments

-- the children of the root that are opened in `/ { }` blocks, where so many bodies are open inside one, if one is open
abbrev pub root_children : Option ℕ → List Place → List Name
root_children depth [] = []
root_children depth (root ∷ places) = root_children (Some 0) places
root_children None (child n ∷ places) = root_children None places
root_children (Some zero) (child n ∷ places) = n ∷ root_children (Some 1) places
root_children (Some (suc d)) (child n ∷ places) = root_children (Some (suc (suc d))) places
root_children None (close ∷ places) = root_children None places
root_children (Some zero) (close ∷ places) = root_children None places
root_children (Some (suc d)) (close ∷ places) = root_children (Some d) places
root_children depth (block r ∷ places) = root_children depth places
root_children depth (delete_node r ∷ places) = root_children depth places
root_children depth (label l ∷ places) = root_children depth places
root_children depth (property n v ∷ places) = root_children depth places
root_children depth (delete_property n ∷ places) = root_children depth places
root_children depth (delete_child n ∷ places) = root_children depth places

-- `fragment@N`, N in decimal
abbrev pub fragment_name : ℕ → Name
fragment_name n = codes "fragment@" ++ decimal n

-- the first number from n on whose name is none of the written ones, which so many tries find
abbrev pub free_from : List Name → ℕ → ℕ → ℕ
free_from written zero n = n
free_from written (suc tries) n = if is_among (fragment_name n) written then free_from written tries (n + 1) else n

-- ---- what each place does

-- why a place is refused: as in any source, or by what an overlay may not have
pub data OverlayRefusal : Type 0 where
  as_any : Refusal → OverlayRefusal
  -- an object has no form for a deletion
  overlay_delete : OverlayRefusal
  -- a property `phandle`
  overlay_phandle : OverlayRefusal
  -- a reference outside a cell list, or by a path
  overlay_path : OverlayRefusal

-- what was read so far, and the least number that a new fragment may have
pub record OverlaySoFar : Type 0 where
  pub source : SoFar
  pub next : ℕ

-- the root is there from the start
abbrev pub overlay_start : OverlaySoFar
overlay_start = record { source = record { events = opening [] ∷ []; node = []; bodies = [] }; next = 0 }

-- the same refusal, or the same fragments
abbrev pub with_next : ℕ → Result SoFar Refusal → Result OverlaySoFar OverlayRefusal
with_next n (Ok s) = Ok (record { source = s; next = n })
with_next n (Err refusal) = Err (as_any refusal)

-- a new child of the root with this property, and the body of its child `__overlay__`, are opened
abbrev pub open_fragment : Name → Name → List Part → SoFar → SoFar
open_fragment f name value s = record {
  events = s.events ++ opening (f ∷ []) ∷ definition (f ∷ []) name value ∷ opening (reverse (content f)) ∷ [];
  node = reverse (content f);
  bodies = record { properties = []; children = [] } ∷ [];
}

-- a block of some other tree's node
abbrev pub new_fragment : List Name → OverlaySoFar → Name → List Part → Result OverlaySoFar OverlayRefusal
new_fragment written s name value =
    let n : ℕ = free_from written (length written) s.next in
    with_next (n + 1) (at_top s.source.bodies (Ok (open_fragment (fragment_name n) name value s.source)))

-- a part that an overlay's value may have: a byte, or a reference by a label in a cell list
abbrev pub is_overlay_part : Part → Bool
is_overlay_part (one b) = true
is_overlay_part (number_of (by_label l)) = true
is_overlay_part (number_of (by_path p)) = false
is_overlay_part (text_of r) = false

-- what a place does to what was read so far, where `/ { }` blocks open these children of the root
abbrev pub read_overlay : List Name → OverlaySoFar → Place → Result OverlaySoFar OverlayRefusal
read_overlay written s root = with_next s.next (read base s.source root)
read_overlay written s (block (by_label l)) =
    option_map_or (λ p. with_next s.next (at_top s.source.bodies (Ok (enter s.source p []))))
    (labelled s.source.events l)
    (new_fragment written s (codes "target") (number_of (by_label l) ∷ []))
read_overlay written s (block (by_path p)) = new_fragment written s (codes "target-path") (map one (path_value p))
read_overlay written s (child n) = with_next s.next (read base s.source (child n))
read_overlay written s (label l) = with_next s.next (read base s.source (label l))
read_overlay written s (property n v) =
    if bytes_eq n (codes "phandle") then Err overlay_phandle
    else if list_any (λ x. not (is_overlay_part x)) v then Err overlay_path
    else with_next s.next (read base s.source (property n v))
read_overlay written s (delete_node r) = Err overlay_delete
read_overlay written s (delete_property n) = Err overlay_delete
read_overlay written s (delete_child n) = Err overlay_delete
read_overlay written s close = with_next s.next (read base s.source close)

abbrev pub and_if_read : Result OverlaySoFar OverlayRefusal → (OverlaySoFar → Result OverlaySoFar OverlayRefusal) → Result OverlaySoFar OverlayRefusal
and_if_read (Ok s) next = next s
and_if_read (Err refusal) next = Err refusal

-- what places do, one after another, up to the first refusal
abbrev pub read_overlays : List Name → OverlaySoFar → List Place → Result OverlaySoFar OverlayRefusal
read_overlays written s [] = Ok s
read_overlays written s (place ∷ places) = and_if_read (read_overlay written s place) (λ t. read_overlays written t places)

-- ---- what the events mean

-- a reference by a label: to a node of the overlay, if the label names one after the events
abbrev pub overlay_reference : Events → Name → OverlayReference
overlay_reference es l = option_map_or (λ p. inside (reverse p)) (labelled es l) (outside l)

-- what a part means after the events. A reference by a path, or outside a cell list, is refused before.
abbrev pub overlay_items : Events → Part → List (Item OverlayReference)
overlay_items es (one b) = byte b ∷ []
overlay_items es (number_of (by_label l)) = reference (overlay_reference es l) ∷ []
overlay_items es (number_of (by_path p)) = []
overlay_items es (text_of r) = []

-- the overlay of events, with these fragments
abbrev pub overlay_of : Events → List Fragment → Overlay
overlay_of es fragments = record {
  stands = λ p. stands es (reverse p);
  value = λ p n. option_map (flat_map (overlay_items es)) (value_at es (reverse p) n);
  label = λ l. option_map reverse (labelled es l);
  keyed = λ p. list_any (labels_there es (reverse p)) es || list_any (refers_there es (reverse p)) es;
  fragments = fragments;
}

-- The places of an overlay's source mean this: none is refused, no body is left open, the fragments hold targets, and what
-- they bring, and their targets, name no node of the overlay that no fragment brings.
pub record OverlayMeans (places : List Place) (o : Overlay) : Type 0 where
  pub so_far : OverlaySoFar
  pub all_read : read_overlays (root_children None places) overlay_start places ≡ Ok so_far
  pub closed : so_far.source.bodies ≡ []
  pub means : o ≡ overlay_of so_far.source.events o.fragments
  -- the fragments stand in the order in which they were opened first
  pub ordered : AreInOrder (λ f. age so_far.source.events (f ∷ [])) (λ f. o.stands (content f)) (map (λ (f : Fragment). f.name) o.fragments)
  pub targeted : (f : Fragment) → IsIn f o.fragments → HoldsTarget o f.name f.target
  pub contained : (p : Path) (name : Name) (items : List (Item OverlayReference)) → IsBrought o p → o.value p name ≡ Some items
      → EachReference (IsContained o) items
  pub targets_contained : (f : Fragment) (r : OverlayReference) → IsIn f o.fragments → f.target ≡ at_reference r → IsContained o r

-- ---- why places that are all read mean no overlay

pub data LateOverlayRefusal : Type 0 where
  -- a fragment holds no target
  bad_fragment : LateOverlayRefusal
  -- a reference that a fragment brings, or its target, names a node of the overlay that no fragment brings
  outside_content : LateOverlayRefusal

-- a fragment's node has neither one reference as `target` nor, without a `target`, a path's text as `target-path`
abbrev pub HasBadFragment : Overlay → Type 0
HasBadFragment o = (f : Name) × (o.stands (content f) ≡ true) × ((target : Target) → HoldsTarget o f target → ⊥)

-- the reference, of a property that a fragment brings or of a fragment's target, names a node that no fragment brings
abbrev pub HasOutsideContent : Overlay → Type 0
HasOutsideContent o =
    ((p : Path) × (name : Name) × (items : List (Item OverlayReference)) × IsBrought o p × (o.value p name ≡ Some items)
    × ¬ EachReference (IsContained o) items)
    ⊎ ((f : Fragment) × (r : OverlayReference) × IsIn f o.fragments × (f.target ≡ at_reference r) × ¬ IsContained o r)

-- The first of these that holds of the events; a fragment's target counts as held only where all of them are.
abbrev pub IsLateOverlayRefusal : Events → LateOverlayRefusal → Type 0
IsLateOverlayRefusal es bad_fragment = HasBadFragment (overlay_of es [])
IsLateOverlayRefusal es outside_content =
    (fragments : List Fragment) × ((f : Name) → (stands es (reverse (content f)) ≡ true) ↔ ((target : Target)
    × IsIn (record { name = f; target = target }) fragments))
    × ((f : Fragment) → IsIn f fragments → HoldsTarget (overlay_of es fragments) f.name f.target)
    × HasOutsideContent (overlay_of es fragments)
