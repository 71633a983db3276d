-- What the nodes of a tree under construction have: labels, and properties with their references read after some events.
use Rattle.std.specs.Prelude.{◌≡◌, ℕ, ◌<◌, true, List, [], ◌∷◌, ◌++◌, map, reverse, Option, None, Some, IsSome, unwrap_or, option_map, option_and_then, slice_get, if◌then◌else◌}
use Rattle.std.specs.List.{AllByRecursion}
use Rattle.std.specs.Option.{option_map_or, option_or}
use Rattle.dt_model.specs.Names.{Name, IsLabel}
use Rattle.dt_model.specs.Path.{Path, path_value}
use Rattle.dt_model.specs.Meaning.{Item, byte, reference}
use Rattle.dt_model.specs.Event.{Stack, value_at}
use Rattle.dt_model.specs.Overlay.{ReferenceBy, inside, outside, OverlayReference}
use Rattle.dt_model.specs.Source.{Part, one, number_of, text_of, Reference, by_label, by_path, Events, referent}
use Rattle.dt_model.specs.Named.{NodeReference, Content, NamedProperty}
use Rattle.dt_source_items.specs.declared.source.Piece.{Piece}
use Rattle.dt_source_items.specs.Said.{reference_of, referring}
use Rattle.dt_source_growing.specs.declared.growing.Node.{Node}
use Rattle.dt_source_growing.specs.declared.growing.Property.{Property}
use Rattle.dt_source_growing.specs.declared.growing.Giving.{Giving}
use Rattle.dt_source_growing.specs.declared.referring.Unnamed.{Unnamed}
use Rattle.dt_source_growing.specs.declared.referring.Unnamed.TheVariants.{Refused, Kept}
use Rattle.dt_source_growing.specs.Grown.{StandsUnder, value_held}

-- ---- what belongs to which node

-- the node to which a property belongs, none where it was deleted
abbrev pub property_owner : Property → Option ℕ
property_owner p = if p.stands then Some p.node else None

abbrev pub label_owner : Giving → Option ℕ
label_owner g = Some g.node

-- the label of an index
abbrev pub label_at : List Giving → ℕ → Name
label_at givings i = option_map_or (λ (g : Giving). g.label.now) (slice_get givings i) []

-- ---- values

-- bytes, and a reference behind them
abbrev pub piece_parts : List ℕ → Piece → List Part
piece_parts bytes p = map one bytes ++ referring p.form (reference_of p.reference) ∷ []

-- each name from the root down, with a `/` before it, where the node's own comes first
abbrev pub names_text : Stack → List ℕ
names_text [] = []
names_text (x ∷ p) = names_text p ++ 47 ∷ x

-- The places that nodes are referred to by are those that they have in a list: each node that stands has one, below the limit.
pub record AreNamedBy (nodes : List Node) (places : List (Option ℕ)) (limit : ℕ) (place : Stack → ℕ) : Type 0 where
  pub there : (p : Stack) (k : ℕ) → StandsUnder nodes p k → slice_get places k ≡ Some (Some (place p))
  pub below : (p : Stack) (k : ℕ) → StandsUnder nodes p k → place p < limit

-- the label of a cell's reference that names no node, where it is kept
abbrev pub kept_label : Unnamed → Reference → Option Name
kept_label Refused r = None
kept_label Kept (by_label l) = Some l
kept_label Kept (by_path p) = None

module _ {N : Type 0} (unnamed : Unnamed) (es : Events) (tell : Stack → N) where
  -- what a cell's reference is, if it names a node or its label is kept
  abbrev pub named_cell : Reference → Option (ReferenceBy N)
  named_cell r = option_or (option_map (λ p. inside (tell p)) (referent es r)) (option_map outside (kept_label unnamed r))

  -- what a part of a value is, if its reference is read
  abbrev pub named_part : Part → Option (List (Item (ReferenceBy N)))
  named_part (one b) = Some (byte b ∷ [])
  named_part (number_of r) = option_map (λ q. reference q ∷ []) (named_cell r)
  named_part (text_of r) = option_map (λ p. map byte (path_value (reverse p))) (referent es r)

  -- what a value is, if each of its references is read
  abbrev pub named_parts : List Part → Option (List (Item (ReferenceBy N)))
  named_parts [] = Some []
  named_parts (x ∷ xs) = option_and_then (λ items. option_map (λ others. items ++ others) (named_parts xs)) (named_part x)

-- the label of a part that is kept is a label
abbrev pub IsLabelledPart : Unnamed → Part → Type 0
IsLabelledPart unnamed (one b) = Unit {0}
IsLabelledPart unnamed (number_of r) = (l : Name) → kept_label unnamed r ≡ Some l → IsLabel l
IsLabelledPart unnamed (text_of r) = Unit {0}

-- the labels of the values that stand after the events are labels, where they are kept
abbrev pub AreLabelled : Unnamed → Events → Type 0
AreLabelled unnamed es = (p : Stack) (x : Name) (v : List Part) → value_at es p x ≡ Some v → AllByRecursion (IsLabelledPart unnamed) v

-- what a value means after the events, if each of its references is read
abbrev pub all_read : Unnamed → Events → List Part → Option (List (Item OverlayReference))
all_read unnamed es v = named_parts unnamed es reverse v

-- the values that stand after the events, with their references read
abbrev pub read_values : Unnamed → Events → Path → Name → Option (List (Item OverlayReference))
read_values unnamed es p x = option_and_then (all_read unnamed es) (value_at es (reverse p) x)

module _ (unnamed : Unnamed) (es : Events) (place : Stack → ℕ) where
  -- ---- content

  abbrev pub named_property : Property → NamedProperty NodeReference
  named_property p = record { name = p.name.now; value = unwrap_or (named_parts unnamed es place (value_held p.value)) [] }

  -- the property of an index
  abbrev pub property_at : List Property → ℕ → NamedProperty NodeReference
  property_at properties i = option_map_or named_property (slice_get properties i) (record { name = []; value = [] })

  -- what node k has, where the indices of each node's properties and labels are these
  abbrev pub content_of : List Property → List Giving → (property_indices label_indices : ℕ → List ℕ) → ℕ → Content NodeReference
  content_of properties givings property_indices label_indices k =
      record { labels = map (label_at givings) (label_indices k); properties = map (property_at properties) (property_indices k) }

-- each reference of a value that stands is read
abbrev pub AreResolved : Unnamed → List Node → List Property → Events → Type 0
AreResolved unnamed nodes properties es =
    (i : ℕ) (q : Property) (p : Stack) → slice_get properties i ≡ Some q → q.stands ≡ true → StandsUnder nodes p q.node
    → IsSome (all_read unnamed es (value_held q.value))
