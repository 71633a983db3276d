-- What an overlay means by itself: a tree whose fragments name the nodes of some other tree (dtc's notes on overlay objects).
use Rattle.std.specs.Prelude.{◌≡◌, ◌↔◌, ℕ, Bool, true, false, List, [], ◌∷◌, ◌++◌, Option, Some, None, IsSome, map, codes}
use Rattle.std.specs.List.{AllByRecursion}
use Rattle.std.specs.Str.{bytes_eq}
use Rattle.dt_model.specs.Names.{Name, IsNodeName, IsPropertyName, IsLabel}
use Rattle.dt_model.specs.Path.{Path, path_value, is_bookkeeping}
use Rattle.dt_model.specs.Meaning.{Item, byte, reference, EachReference, AreBytes}
use Rattle.dt_model.specs.Lists.{IsIn}
use Rattle.dt_model.specs.Valid.{AreDistinct}

-- a reference of an overlay: to one of its own nodes, which an N names, or by a label that it doesn't give
pub data ReferenceBy (N : Type 0) : Type 0 where
  inside : N → ReferenceBy N
  outside : Name → ReferenceBy N

-- by the node's path
abbrev pub OverlayReference : Type 0
OverlayReference = ReferenceBy Path

module _ {N M : Type 0} where
  -- the same reference, its node named in another way
  abbrev pub reference_renamed : (N → M) → ReferenceBy N → ReferenceBy M
  reference_renamed f (inside n) = inside (f n)
  reference_renamed f (outside l) = outside l

-- the numbers by which an object holds its references: all ones where the node is of some other tree
abbrev pub object_number : {N : Type 0} → (N → ℕ) → ReferenceBy N → ℕ
object_number number (inside n) = number n
object_number number (outside l) = 0xffffffff

-- what a fragment names as its target
pub data Target : Type 0 where
  at_reference : OverlayReference → Target
  at_path : Path → Target

-- a child of the root, by its name, and the target of what is below its child `__overlay__`
pub record Fragment : Type 0 where
  pub name : Name
  pub target : Target

-- An overlay by its nodes and values, and its fragments in order. A keyed node is one that a label or a reference names.
pub record Overlay : Type 0 where
  pub stands : Path → Bool
  pub value : Path → Name → Option (List (Item OverlayReference))
  pub label : Name → Option Path
  pub keyed : Path → Bool
  pub fragments : List Fragment

-- the node whose properties and children a fragment brings
abbrev pub content : Name → Path
content fragment = fragment ∷ codes "__overlay__" ∷ []

-- the path is a node that a fragment brings
abbrev pub IsBrought : Overlay → Path → Type 0
IsBrought o p = (f : Fragment) × (rest : Path) × IsIn f o.fragments × (p ≡ content f.name ++ rest)

-- the reference names a keyed node of the overlay, or is by a label that it doesn't give
abbrev pub IsReferent : Overlay → OverlayReference → Type 0
IsReferent o (inside p) = o.keyed p ≡ true
IsReferent o (outside l) = IsLabel l × (o.label l ≡ None)

-- a node of the overlay that the reference names is one that a fragment brings
abbrev pub IsContained : Overlay → OverlayReference → Type 0
IsContained o (inside p) = IsBrought o p
IsContained o (outside l) = Unit {0}

-- The target that the fragment's node holds: one reference and nothing else as `target`, or else a path's text with its
-- NUL as `target-path`.
abbrev pub HoldsTarget : Overlay → Name → Target → Type 0
HoldsTarget o f (at_reference r) = o.value (f ∷ []) (codes "target") ≡ Some (reference r ∷ [])
HoldsTarget o f (at_path p) =
    (o.value (f ∷ []) (codes "target") ≡ None) × (o.value (f ∷ []) (codes "target-path") ≡ Some (map byte (path_value p))) × AllByRecursion IsNodeName p

-- What is true of each overlay.
pub record IsOverlay (o : Overlay) : Type 0 where
  -- the nodes are a tree with a root, have names, and none is a bookkeeping node or below one
  pub rooted : o.stands [] ≡ true
  pub parents : (p : Path) (name : Name) → o.stands (p ++ name ∷ []) ≡ true → o.stands p ≡ true
  pub named : (p : Path) → o.stands p ≡ true → AllByRecursion IsNodeName p
  pub plain : (p : Path) → o.stands p ≡ true → is_bookkeeping p ≡ false
  -- a property is a node's, has a name other than `phandle`, and its bytes are bytes
  pub values_stand : (p : Path) (name : Name) → IsSome (o.value p name) → o.stands p ≡ true
  pub values_named : (p : Path) (name : Name) → IsSome (o.value p name) → IsPropertyName name × (bytes_eq name (codes "phandle") ≡ false)
  pub bytes : (p : Path) (name : Name) (items : List (Item OverlayReference)) → o.value p name ≡ Some items → AreBytes items
  -- the keyed nodes are nodes, and what a label or a reference names is one of them
  pub keyed_stand : (p : Path) → o.keyed p ≡ true → o.stands p ≡ true
  pub labelled : (l : Name) (p : Path) → o.label l ≡ Some p → IsLabel l × (o.keyed p ≡ true)
  pub referred : (p : Path) (name : Name) (items : List (Item OverlayReference)) → o.value p name ≡ Some items → EachReference (IsReferent o) items
  -- the fragments are the root's children that have a child `__overlay__`, each once, and hold their targets
  pub fragments : (f : Name) → (o.stands (content f) ≡ true) ↔ ((target : Target) × IsIn (record { name = f; target = target }) o.fragments)
  pub distinct : AreDistinct (map (λ f. f.name) o.fragments)
  pub targeted : (f : Fragment) → IsIn f o.fragments → HoldsTarget o f.name f.target
  -- a reference in what a fragment brings, or that is a fragment's target, doesn't name a node that no fragment brings
  pub contained : (p : Path) (name : Name) (items : List (Item OverlayReference)) → IsBrought o p → o.value p name ≡ Some items
      → EachReference (IsContained o) items
  pub targets_contained : (f : Fragment) (r : OverlayReference) → IsIn f o.fragments → f.target ≡ at_reference r → IsContained o r
