-- What is looked at in the list of an overlay's nodes: its fragments, what they hold as targets, and which nodes they bring. The code of
-- dt_source_fragments sees a list so; the definition is here, below it, for the laws of this crate that cite it.
use Rattle.std.specs.Prelude.{◌≡◌, ◌≢◌, ◌⊎◌, ◌<◌, ℕ, Bool, true, false, not, ◌&&◌, cond, List, [], ◌∷◌, ◌++◌, map, length, Some, None, nat_eq, slice_get, unwrap_or, codes, Ok}
use Rattle.std.specs.List.{AllByRecursion, list_all}
use Rattle.std.specs.Option.{option_map_or}
use Rattle.std.specs.Str.{bytes_eq}
use Rattle.dt_model.specs.Names.{Name, IsNodeName}
use Rattle.dt_model.specs.Path.{Path, path_text}
use Rattle.dt_model.specs.Lists.{IsIn}
use Rattle.dt_model.specs.Meaning.{Item, byte, reference}
use Rattle.dt_model.specs.Event.{Stack, value_at}
use Rattle.dt_model.specs.Overlay.{inside, outside}
use Rattle.dt_model.specs.OverlaySource.{OverlaySoFar, root_children, overlay_start, read_overlays, is_overlay_part, overlay_of}
use Rattle.dt_model.specs.Source.{Part, IsPart, Place, IsPlace}
use Rattle.dt_model.specs.Named.{NodeReference, NamedProperty, Named, Listed, value_of, list_of}
use Rattle.dt_model.specs.NamedOf.{IsNamedBy}
use Rattle.dt_model.specs.NamedOverlay.{NamedTarget, to_reference, to_text, NamedFragment, IsNamedOverlayOf}
use Rattle.dt_model.specs.Nested.{AreNested}
use Rattle.dt_model.specs.OverlaySource.{bad_fragment, outside_content}
use Rattle.dt_model.specs.Refused.{at_end, IsOverlayRefusedFor}

-- ---- fragments

-- node k of a list is the root, or one of its children
abbrev pub is_first : List (Listed NodeReference) → ℕ → Bool
is_first ns k = option_map_or (λ (n : Listed NodeReference). nat_eq n.parent 0) (slice_get ns k) false

-- the node is a child of a child of the root
abbrev pub is_second : List (Listed NodeReference) → Listed NodeReference → Bool
is_second ns n = not (nat_eq n.parent 0) && is_first ns n.parent

-- the node is the content of a fragment: a child `__overlay__` of a child of the root
abbrev pub is_content : List (Listed NodeReference) → Listed NodeReference → Bool
is_content ns n = is_second ns n && bytes_eq n.name (codes "__overlay__")

-- the fragments, by the numbers of their nodes, in the order in which their contents stand among some nodes of a list
abbrev pub fragments_among : (all ns : List (Listed NodeReference)) → List ℕ
fragments_among all [] = []
fragments_among all (n ∷ ns) = cond (is_content all n) (n.parent ∷ fragments_among all ns) (fragments_among all ns)

-- the text is a path's
abbrev pub IsPathText : List ℕ → Type 0
IsPathText text = (p : Path) × (text ≡ path_text p) × AllByRecursion IsNodeName p

-- A node that has these properties holds the target: one reference and nothing else as `target`, or, without a `target`, a path's
-- text with its NUL as `target-path`.
abbrev pub HoldTarget : List (NamedProperty NodeReference) → NamedTarget → Type 0
HoldTarget ps (to_reference r) = value_of ps (codes "target") ≡ Some (reference r ∷ [])
HoldTarget ps (to_text text) =
    (value_of ps (codes "target") ≡ None) × IsPathText text × (value_of ps (codes "target-path") ≡ Some (map byte (text ++ 0 ∷ [])))

abbrev pub properties_at : List (Listed NodeReference) → ℕ → List (NamedProperty NodeReference)
properties_at ns k = option_map_or (λ (n : Listed NodeReference). n.content.properties) (slice_get ns k) []

-- the fragments of the list are these, and hold their targets
pub record AreFragmentsAmong (ns : List (Listed NodeReference)) (fs : List NamedFragment) : Type 0 where
  pub nodes : map (λ (f : NamedFragment). f.node) fs ≡ fragments_among ns ns
  pub held : AllByRecursion (λ (f : NamedFragment). HoldTarget (properties_at ns f.node) f.target) fs

-- a fragment holds no target
abbrev pub HasUntargeted : List (Listed NodeReference) → Type 0
HasUntargeted ns = (k : ℕ) × IsIn k (fragments_among ns ns) × ((target : NamedTarget) → HoldTarget (properties_at ns k) target → ⊥)

-- ---- what fragments bring

-- the node of a number is marked
abbrev pub is_marked : List Bool → ℕ → Bool
is_marked marks k = unwrap_or (slice_get marks k) false

-- a fragment brings the node, where those that fragments bring are marked: the content of a fragment, or a node below one
abbrev pub is_brought : List (Listed NodeReference) → List Bool → Listed NodeReference → Bool
is_brought ns marks n = cond (nat_eq n.parent 0) false (cond (is_first ns n.parent) (bytes_eq n.name (codes "__overlay__")) (is_marked marks n.parent))

-- those of the nodes of a list are marked that fragments bring
pub record AreBrought (ns : List (Listed NodeReference)) (marks : List Bool) : Type 0 where
  pub size : length marks ≡ length ns
  pub each : (k : ℕ) (n : Listed NodeReference) → slice_get ns k ≡ Some n → is_marked marks k ≡ is_brought ns marks n

-- the reference names no node that isn't marked
abbrev pub is_within : List Bool → NodeReference → Bool
is_within marks (inside k) = is_marked marks k
is_within marks (outside l) = true

-- so do those of a value
abbrev pub refers_within : List Bool → List (Item NodeReference) → Bool
refers_within marks [] = true
refers_within marks (byte b ∷ items) = refers_within marks items
refers_within marks (reference r ∷ items) = is_within marks r && refers_within marks items

-- and of properties
abbrev pub refer_within : List Bool → List (NamedProperty NodeReference) → Bool
refer_within marks ps = list_all (λ (p : NamedProperty NodeReference). refers_within marks p.value) ps

abbrev pub is_target_within : List Bool → NamedTarget → Bool
is_target_within marks (to_reference r) = is_within marks r
is_target_within marks (to_text text) = true

-- a marked node refers to none that isn't
abbrev pub AreContained : List (Listed NodeReference) → List Bool → Type 0
AreContained ns marks =
    (k : ℕ) (n : Listed NodeReference) → slice_get ns k ≡ Some n → is_marked marks k ≡ true → refer_within marks n.content.properties ≡ true

-- nor does a fragment's target
abbrev pub AreTargetsContained : List Bool → List NamedFragment → Type 0
AreTargetsContained marks fs = AllByRecursion (λ (f : NamedFragment). is_target_within marks f.target ≡ true) fs

-- a marked node, or a fragment's target, refers to one that isn't
abbrev pub HasUncontained : List (Listed NodeReference) → List Bool → List NamedFragment → Type 0
HasUncontained ns marks fs =
    ((k : ℕ) × (n : Listed NodeReference) × (slice_get ns k ≡ Some n) × (is_marked marks k ≡ true) × (refer_within marks n.content.properties ≡ false))
    ⊎ ((f : NamedFragment) × IsIn f fs × (is_target_within marks f.target ≡ false))

-- The fragments of the list are these, and neither what they bring nor their targets refer to a node that none brings.
pub record AreChecked (ns : List (Listed NodeReference)) (fs : List NamedFragment) : Type 0 where
  pub fragments : AreFragmentsAmong ns fs
  pub marks : List Bool
  pub brought : AreBrought ns marks
  pub contained : AreContained ns marks
  pub targets_contained : AreTargetsContained marks fs

-- the fragments hold targets, but one of these, or what they bring, refers to a node that none brings
pub record AreUncontained (ns : List (Listed NodeReference)) : Type 0 where
  pub fs : List NamedFragment
  pub fragments : AreFragmentsAmong ns fs
  pub marks : List Bool
  pub brought : AreBrought ns marks
  pub uncontained : HasUncontained ns marks fs

-- ---- what it shows

-- the tree has what is left after the places of an overlay's source
pub record IsTreeAfter (places : List Place) (t : Named NodeReference) : Type 0 where
  pub so_far : OverlaySoFar
  pub all_read : read_overlays (root_children None places) overlay_start places ≡ Ok so_far
  pub named : IsNamedBy so_far.source.events (overlay_of so_far.source.events []).value t

-- each value that is left is of bytes and of references by labels in cell lists
abbrev pub OverlayValuesArePlain : Type 0
OverlayValuesArePlain = (places : List Place) (s : OverlaySoFar) → AllByRecursion IsPlace places
    → read_overlays (root_children None places) overlay_start places ≡ Ok s
    → (p : Stack) (x : Name) (v : List Part) → value_at s.source.events p x ≡ Some v → AllByRecursion (λ (y : Part). IsPart y × (is_overlay_part y ≡ true)) v

-- a node of a list whose parent isn't the root comes after its parent
abbrev pub AreBehind : List (Listed NodeReference) → Type 0
AreBehind ns = (k : ℕ) (n : Listed NodeReference) → slice_get ns k ≡ Some n → n.parent ≢ 0 → n.parent < k

-- so do those of each tree
abbrev pub ListedAreBehind : Type 0
ListedAreBehind = (t : Named NodeReference) → AreBehind (list_of t)

-- a tree that is checked is the one that the source means
abbrev pub CheckedIsMeant : Type 0
CheckedIsMeant = (places : List Place) (t : Named NodeReference) (fs : List NamedFragment)
    → AreNested 0 places → t.reservations ≡ [] → IsTreeAfter places t → AreChecked (list_of t) fs → IsNamedOverlayOf places t fs

-- else the source is refused for that
abbrev pub UntargetedIsRefused : Type 0
UntargetedIsRefused = (places : List Place) (t : Named NodeReference)
    → IsTreeAfter places t → HasUntargeted (list_of t) → IsOverlayRefusedFor places (at_end bad_fragment)

abbrev pub UncontainedIsRefused : Type 0
UncontainedIsRefused = (places : List Place) (t : Named NodeReference)
    → IsTreeAfter places t → AreUncontained (list_of t) → IsOverlayRefusedFor places (at_end outside_content)
