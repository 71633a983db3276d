-- What reading the references of values gives, and why one isn't read.
use Rattle.std.specs.Prelude.{◌≡◌, ℕ, List, [], ◌∷◌, ◌++◌, map, length, Option, None, Some, IsSome, slice_get}
use Rattle.dt_model.specs.Lists.{IsIn}
use Rattle.dt_model.specs.Meaning.{Item}
use Rattle.dt_model.specs.Event.{Stack}
use Rattle.dt_model.specs.Source.{Part, Events}
use Rattle.dt_names.specs.declared.fault.Fault.{Fault}
use Rattle.dt_names.specs.declared.fault.FaultKind.{FaultKind}
use Rattle.dt_names.specs.declared.fault.FaultKind.TheVariants as fault
use Rattle.dt_source_growing.specs.declared.growing.Property.{Property}
use Rattle.dt_source_growing.specs.declared.growing.Growing.{Growing}
use Rattle.dt_source_growing.specs.Grown.{IsGrown, value_held}
use Rattle.dt_model.specs.Named.{NodeReference, NamedProperty, Content, Listed}
use Rattle.dt_source_nodes.specs.declared.belongings.Belongings.{Belongings}
use Rattle.dt_source_nodes.specs.declared.listing.Row.{Row}
use Rattle.dt_source_nodes.specs.declared.values.Resolver.{Resolver}
use Rattle.dt_source_nodes.specs.Owned.{group_of, AreOwned}
use Rattle.dt_source_nodes.specs.Listing.{name_of, listed_row}
use Rattle.dt_source_growing.specs.declared.referring.Unnamed.{Unnamed}
use Rattle.dt_source_nodes.specs.Contents.{property_owner, label_owner, AreNamedBy, all_read, property_at, content_of}

-- the growing tree is that of the events
abbrev pub IsGrownBy : Growing → Events → Type 0
IsGrownBy g es = IsGrown g.nodes.items g.properties.items g.givings.items es

-- P holds of all events that the tree is of, and of the places that its nodes have in the list
abbrev pub EachNaming : Growing → List (Option ℕ) → (Events → (Stack → ℕ) → Type 0) → Type 0
EachNaming g places P = (es : Events) (place : Stack → ℕ) (limit : ℕ) → IsGrownBy g es → AreNamedBy g.nodes.items places limit place → P es place

-- P holds of all events that the tree of a resolver is of, and of the places that its nodes have in the list
abbrev pub EachReading : Resolver → (Events → (Stack → ℕ) → Type 0) → Type 0
EachReading r P = EachNaming r.growing.now r.belongings.now.places.items P

-- something was added to a value
abbrev pub IsAdded : List (Item NodeReference) → Option (List (Item NodeReference)) → List (Item NodeReference) → Type 0
IsAdded old added new = (items : List (Item NodeReference)) × (added ≡ Some items) × (new ≡ old ++ items)

-- why parts aren't read
abbrev pub WhyUnread : Unnamed → Events → List Part → FaultKind → Type 0
WhyUnread unnamed es parts fault.NoMemory = Unit {0}
WhyUnread unnamed es parts fault.UnresolvedReference = all_read unnamed es parts ≡ None
WhyUnread unnamed es parts kind = ⊥

-- parts aren't read for this
abbrev pub IsUnread : Unnamed → Growing → List Part → Fault → Type 0
IsUnread unnamed g parts e = (e.at ≡ None) × ((es : Events) → IsGrownBy g es → WhyUnread unnamed es parts e.kind)

-- P holds of all events that the tree is of
abbrev pub EachEvents : Growing → (Events → Type 0) → Type 0
EachEvents g P = (es : Events) → IsGrownBy g es → P es

-- the references of the properties at some indices are read
abbrev pub AreRead : Unnamed → Events → List Property → List ℕ → Type 0
AreRead unnamed es properties indices = (i : ℕ) (q : Property) → IsIn i indices → slice_get properties i ≡ Some q
    → IsSome (all_read unnamed es (value_held q.value))

-- why the properties at some indices aren't read
abbrev pub WhyUnreadAmong : Unnamed → Events → List Property → List ℕ → FaultKind → Type 0
WhyUnreadAmong unnamed es properties indices fault.NoMemory = Unit {0}
WhyUnreadAmong unnamed es properties indices fault.UnresolvedReference =
    (i : ℕ) × (q : Property) × IsIn i indices × (slice_get properties i ≡ Some q) × (all_read unnamed es (value_held q.value) ≡ None)
WhyUnreadAmong unnamed es properties indices kind = ⊥

abbrev pub IsUnreadAmong : Unnamed → Growing → List ℕ → Fault → Type 0
IsUnreadAmong unnamed g indices e = (e.at ≡ None) × EachEvents g (λ es. WhyUnreadAmong unnamed es g.properties.items indices e.kind)

-- the property of an index is this one, and its references are read
abbrev pub IsPropertyRead : Unnamed → Events → (Stack → ℕ) → List Property → ℕ → NamedProperty NodeReference → Type 0
IsPropertyRead unnamed es place properties i p = (p ≡ property_at unnamed es place properties i) × AreRead unnamed es properties (i ∷ [])

-- the properties of some indices are these
abbrev pub ArePropertiesRead : Unnamed → Events → (Stack → ℕ) → List Property → List ℕ → List (NamedProperty NodeReference) → Type 0
ArePropertiesRead unnamed es place properties indices ps = (ps ≡ map (property_at unnamed es place properties) indices) × AreRead unnamed es properties indices

-- the indices are those of the nodes' properties and labels
pub record Belong (g : Growing) (b : Belongings) : Type 0 where
  pub properties : AreOwned (map property_owner g.properties.items) (length g.nodes.items) (group_of b.properties)
  pub labels : AreOwned (map label_owner g.givings.items) (length g.nodes.items) (group_of b.labels)

-- what a node has by what belongs to each
abbrev pub content_by : Unnamed → Events → (Stack → ℕ) → Growing → Belongings → ℕ → Content NodeReference
content_by unnamed es place g b = content_of unnamed es place g.properties.items g.givings.items (group_of b.properties) (group_of b.labels)

-- the node of a row is this one, and its references are read
abbrev pub IsRowRead : Unnamed → Events → (Stack → ℕ) → Growing → Belongings → Row → Listed NodeReference → Type 0
IsRowRead unnamed es place g b r n =
    (n ≡ listed_row (name_of g.nodes.items) (content_by unnamed es place g b) r) × AreRead unnamed es g.properties.items (group_of b.properties r.node)

-- the nodes of some rows are these, and their references are read
abbrev pub AreRowsRead : Unnamed → Events → (Stack → ℕ) → Growing → Belongings → List Row → List (Listed NodeReference) → Type 0
AreRowsRead unnamed es place g b rows ns =
    (ns ≡ map (listed_row (name_of g.nodes.items) (content_by unnamed es place g b)) rows)
    × ((r : Row) → IsIn r rows → AreRead unnamed es g.properties.items (group_of b.properties r.node))

-- why the node of a row isn't read
abbrev pub IsUnreadRow : Unnamed → Growing → Belongings → List Row → Fault → Type 0
IsUnreadRow unnamed g b rows e = (r : Row) × IsIn r rows × IsUnreadAmong unnamed g (group_of b.properties r.node) e
