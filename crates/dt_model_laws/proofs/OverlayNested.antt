-- Places of an overlay's source that are well nested are read in bodies that are open as they say.
use Rattle.std.proofs.Common.{◌≡◌, ◌≢◌, ℕ, Bool, true, false, not, List, [], ◌∷◌, length, map, Option, Some, None, Result, Ok, Err, codes, refl, subst}
use Rattle.std.specs.Prelude.{if◌then◌else◌}
use Rattle.std.specs.List.{list_any}
use Rattle.std.specs.Option.{option_map_or}
use Rattle.std.specs.Str.{bytes_eq}
use Rattle.dt_model.specs.Names.{Name}
use Rattle.dt_model.specs.Path.{path_value}
use Rattle.dt_model.specs.Event.{Stack}
use Rattle.dt_model.specs.Source.{by_label, by_path, Part, one, number_of, Place, root, block, delete_node, child, label, property, delete_property, delete_child, close, base, Refusal, misplaced, labelled, Body, SoFar, enter, outside, read}
use Rattle.dt_model.specs.Nested.{AtTopLevel, AreNested}
use Rattle.dt_model.specs.OverlaySource.{OverlaySoFar, OverlayRefusal, as_any, overlay_phandle, overlay_path, root_children, fragment_name, free_from, overlay_start, with_next, open_fragment, new_fragment, is_overlay_part, read_overlay, and_if_read, read_overlays}
use Rattle.dt_model.proofs.Nested.{GoesOn, read_one}
use Rattle.dt_model_laws.specs.OverlayTrees.{OverlayIsPlaced, OverlayIsClosed}

-- nothing was misplaced, and the rest closes as many bodies as are open
abbrev OverlayGoesOn : List Place → Result OverlaySoFar OverlayRefusal → Type 0
OverlayGoesOn rest (Ok s) = AreNested (length s.source.bodies) rest
OverlayGoesOn rest (Err refusal) = refusal ≢ as_any misplaced

-- ---- one place

any_goes : (rest : List Place) (n : ℕ) (o : Result SoFar Refusal) → GoesOn rest o → OverlayGoesOn rest (with_next n o)
any_goes rest n (Ok s) g = g
any_goes rest n (Err refusal) g = λ e. g (let z : ◌≡◌ {A = OverlayRefusal} (as_any refusal) (as_any misplaced) = e in cc)

-- one body is opened at top level
top_goes : (bodies : List Body) (rest : List Place) (n : ℕ) (made : SoFar) → (AreNested 1 rest → AreNested (length made.bodies) rest) → AtTopLevel (length bodies) (AreNested 1 rest)
    → OverlayGoesOn rest (with_next n (outside bodies (Ok made)))
top_goes [] rest n made f h = f h
top_goes (b ∷ bs) rest n made f h = absurd h

chosen : (rest : List Place) (x y : Result OverlaySoFar OverlayRefusal) → OverlayGoesOn rest x → OverlayGoesOn rest y → (test : Bool) → OverlayGoesOn rest (if test then x else y)
chosen rest x y f g true = f
chosen rest x y f g false = g

module _ (written : List Name) (s : OverlaySoFar) (rest : List Place) where
  fragment_goes : (name : Name) (value : List Part) → AtTopLevel (length s.source.bodies) (AreNested 1 rest) → OverlayGoesOn rest (new_fragment written s name value)
  fragment_goes name value h =
      let n : ℕ = free_from written (length written) s.next in
      top_goes s.source.bodies rest _ (open_fragment (fragment_name n) name value s.source) (λ g. g) h

  block_goes : (l : Name) → AtTopLevel (length s.source.bodies) (AreNested 1 rest) → (o : Option Stack)
      → OverlayGoesOn rest (option_map_or (λ p. with_next s.next (outside s.source.bodies (Ok (enter s.source p [])))) o (new_fragment written s (codes "target") (number_of (by_label l) ∷ [])))
  block_goes l h None = fragment_goes (codes "target") (number_of (by_label l) ∷ []) h
  block_goes l h (Some p) = top_goes s.source.bodies rest s.next (enter s.source p []) (λ g. g) h

  as_any_goes : (place : Place) → AreNested (length s.source.bodies) (place ∷ rest) → OverlayGoesOn rest (with_next s.next (read base s.source place))
  as_any_goes place h = any_goes rest s.next (read base s.source place) (read_one base s.source place rest h)

  place_goes : (place : Place) → AreNested (length s.source.bodies) (place ∷ rest) → OverlayGoesOn rest (read_overlay written s place)
  place_goes root h = as_any_goes root h
  place_goes (block (by_label l)) h = block_goes l h (labelled s.source.events l)
  place_goes (block (by_path p)) h = fragment_goes (codes "target-path") (map one (path_value p)) h
  place_goes (delete_node r) h = λ e. cc
  place_goes (child n) h = as_any_goes (child n) h
  place_goes (label l) h = as_any_goes (label l) h
  place_goes (property n v) h =
      chosen rest (Err overlay_phandle) _ (λ e. cc)
      (chosen rest (Err overlay_path) _ (λ e. cc) (as_any_goes (property n v) h) (list_any (λ x. not (is_overlay_part x)) v)) (bytes_eq n (codes "phandle"))
  place_goes (delete_property n) h = λ e. cc
  place_goes (delete_child n) h = λ e. cc
  place_goes close h = as_any_goes close h

-- ---- all of them

rest_goes : (rest : List Place) (next : OverlaySoFar → Result OverlaySoFar OverlayRefusal) → ((s : OverlaySoFar) → AreNested (length s.source.bodies) rest → OverlayGoesOn [] (next s))
    → (o : Result OverlaySoFar OverlayRefusal) → OverlayGoesOn rest o → OverlayGoesOn [] (and_if_read o next)
rest_goes rest next f (Ok s) g = f s g
rest_goes rest next f (Err refusal) g = g

all_goes : (written : List Name) (s : OverlaySoFar) (places : List Place) → AreNested (length s.source.bodies) places → OverlayGoesOn [] (read_overlays written s places)
all_goes written s [] h = h
all_goes written s (place ∷ places) h =
    rest_goes places (λ t. read_overlays written t places) (λ t g. all_goes written t places g) (read_overlay written s place) (place_goes written s places place h)

none_open : (bodies : List Body) → AtTopLevel (length bodies) (Unit {0}) → bodies ≡ []
none_open [] h = refl
none_open (b ∷ bs) h = absurd h

pub overlay_placed : OverlayIsPlaced
overlay_placed places h e = subst (OverlayGoesOn []) e (all_goes (root_children None places) overlay_start places h) refl

pub overlay_closed : OverlayIsClosed
overlay_closed places s h e = none_open s.source.bodies (subst (OverlayGoesOn []) e (all_goes (root_children None places) overlay_start places h))
