-- What listing the nodes of a tree under construction gives, and why they aren't listed.
use Rattle.std.specs.Prelude.{◌≡◌, ℕ, true, List, [], Option, None, Some, ◌⊎◌}
use Rattle.dt_model.specs.Event.{Stack, stands, value_at}
use Rattle.dt_model.specs.Lists.{IsIn}
use Rattle.dt_model.specs.Source.{Part, Events, IsResolved, unresolved, bad_phandle, duplicate_phandle, IsLateRefusal}
use Rattle.dt_model.specs.Names.{Name}
use Rattle.dt_model.specs.Path.{Path}
use Rattle.dt_model.specs.Meaning.{Item}
use Rattle.dt_model.specs.Overlay.{OverlayReference}
use Rattle.dt_model.specs.Named.{NodeReference, Listed, Named, list_of}
use Rattle.dt_model.specs.NamedOf.{IsNamedBy, bound_values}
use Rattle.dt_names.specs.declared.fault.Fault.{Fault}
use Rattle.dt_names.specs.declared.fault.FaultKind.{FaultKind}
use Rattle.dt_names.specs.declared.fault.FaultKind.TheVariants as fault
use Rattle.dt_source_growing.specs.declared.growing.Growing.{Growing}
use Rattle.dt_source_nodes.specs.declared.belongings.Belongings.{Belongings}
use Rattle.dt_source_nodes.specs.declared.listing.Row.{Row}
use Rattle.dt_source_nodes.specs.Owned.{group_of}
use Rattle.dt_source_nodes.specs.Contents.{AreLabelled, all_read, read_values}
use Rattle.dt_source_growing.specs.declared.referring.Unnamed.{Unnamed}
use Rattle.dt_source_growing.specs.declared.referring.Unnamed.TheVariants.{Refused, Kept}
use Rattle.dt_source_nodes.specs.Resolving.{EachEvents, EachNaming, AreRead, AreRowsRead, IsUnreadRow}
use Rattle.dt_source_nodes.specs.Phandles.{AreWritten, AreOwn, WhyNotNumbered}

-- ---- with their rows

-- the nodes of the rows are these, and the phandles that are written in a base are as they have to be
pub record AreFilled (unnamed : Unnamed) (g : Growing) (b : Belongings) (rows : List Row) (ns : List (Listed NodeReference)) : Type 0 where
  pub read : EachNaming g b.places.items (λ es place. AreRowsRead unnamed es place g b rows ns)
  pub written : unnamed ≡ Refused → AreWritten b.places.items g.properties.items
  pub own : unnamed ≡ Refused → AreOwn b.places.items g.properties.items

-- a reference isn't read, or all are, and a phandle of a base isn't as it has to be
abbrev pub IsUnfilled : Unnamed → Growing → Belongings → List Row → Fault → Type 0
IsUnfilled unnamed g b rows e = IsUnreadRow unnamed g b rows e
    ⊎ ((unnamed ≡ Refused)
    × EachNaming g b.places.items (λ es place. (r : Row) → IsIn r rows → AreRead unnamed es g.properties.items (group_of b.properties r.node))
    × WhyNotNumbered b.places.items g.properties.items e)

-- ---- by the events

-- the nodes are those of a tree that has what stands after the events, with these values
pub record AreNodesBy (es : Events) (value : Path → Name → Option (List (Item OverlayReference))) (ns : List (Listed NodeReference)) : Type 0 where
  pub tree : List (ℕ × ℕ) → Named NodeReference
  pub reservations : (rs : List (ℕ × ℕ)) → (tree rs).reservations ≡ rs
  pub list : (rs : List (ℕ × ℕ)) → ns ≡ list_of (tree rs)
  pub named : (rs : List (ℕ × ℕ)) → IsNamedBy es value (tree rs)

-- so are those of a base
pub record AreNodesAfter (es : Events) (ns : List (Listed NodeReference)) : Type 0 where
  pub resolved : IsResolved es
  pub nodes : AreNodesBy es (bound_values es) ns

-- why the nodes that stand after the events aren't those of a tree
abbrev pub WhyNotAfter : Events → FaultKind → Type 0
WhyNotAfter es fault.NoMemory = Unit {0}
WhyNotAfter es fault.UnresolvedReference = IsLateRefusal es unresolved
WhyNotAfter es fault.BadPhandle = IsLateRefusal es bad_phandle
WhyNotAfter es fault.DuplicatePhandle = IsLateRefusal es duplicate_phandle
WhyNotAfter es kind = ⊥

-- ---- of an overlay

-- a value that stands isn't read
abbrev pub HasUnread : Unnamed → Events → Type 0
HasUnread unnamed es = (p : Stack) × (x : Name) × (v : List Part) × (value_at es p x ≡ Some v) × (all_read unnamed es v ≡ None)

-- the nodes are those of a tree in which labels are kept
abbrev pub AreNodesWithLabels : Events → List (Listed NodeReference) → Type 0
AreNodesWithLabels es ns = AreLabelled Kept es → AreNodesBy es (read_values Kept es) ns

-- ---- of either

-- a base's, or an overlay's, as a label that names no node is refused or kept
abbrev pub AreNodes : Unnamed → Events → List (Listed NodeReference) → Type 0
AreNodes Refused es ns = AreNodesAfter es ns
AreNodes Kept es ns = AreNodesWithLabels es ns

abbrev pub WhyNoNodes : Unnamed → Events → FaultKind → Type 0
WhyNoNodes Refused es kind = WhyNotAfter es kind
WhyNoNodes Kept es kind = (kind ≡ fault.NoMemory) ⊎ HasUnread Kept es

-- the nodes are those of the tree, where it has a root
abbrev pub AreListed : Unnamed → Growing → List (Listed NodeReference) → Type 0
AreListed unnamed g ns = EachEvents g (λ es. stands es [] ≡ true → AreNodes unnamed es ns)

abbrev pub IsUnlisted : Unnamed → Growing → Fault → Type 0
IsUnlisted unnamed g e = (e.at ≡ None) × EachEvents g (λ es. stands es [] ≡ true → WhyNoNodes unnamed es e.kind)
