-- Reading the properties of a node one after another.
use Rattle.std.proofs.Common.{◌≡◌, ℕ, zero, suc, ◌+◌, ◌<◌, true, List, [], ◌∷◌, ◌++◌, map, length, take, get_or, Option, None, Some, is_some, unwrap_or, slice_get, refl, sym, ap, subst, ◌∙◌, ◌⊎◌, inl, inr, arith}
use Rattle.std.specs.Option.{option_map_or}
use Rattle.std.proofs.lemmas.List.{take_more, map_more, map_push, length-map}
use Rattle.std.proofs.lemmas.Option.{slice_get_within}
use Rattle.std.specs.Cow.{cow_slice_items}
use Rattle.dt_model.specs.Meaning.{Item}
use Rattle.dt_model.specs.Source.{Events}
use Rattle.dt_model.specs.Lists.{IsIn}
use Rattle.dt_model.specs.Named as model
use Rattle.dt_model.specs.Named.{NodeReference}
use Rattle.dt_model.proofs.Tests.{in_append}
use Rattle.dt_names.specs.declared.fault.Fault.{Fault}
use Rattle.dt_names.specs.declared.fault.FaultKind.{FaultKind}
use Rattle.dt_names.specs.declared.fault.FaultKind.TheVariants as fault
use Rattle.dt_source_growing.specs.declared.growing.Property.{Property}
use Rattle.dt_source_growing.specs.declared.growing.Growing.{Growing}
use Rattle.dt_source_named_tree.specs.declared.named.NamedProperty.{NamedProperty}
use Rattle.dt_source_named_tree.specs.declared.named.NamedValue.{NamedValue}
use Rattle.dt_source_named_tree.specs.declared.named.NamedNode.{NamedNode}
use Rattle.dt_source_nodes.specs.declared.listing.Row.{Row}
use Rattle.dt_source_nodes.specs.declared.belongings.Belongings.{Belongings}
use Rattle.dt_source_named_tree.specs.Said.{value_said, property_said, node_said}
use Rattle.dt_source_nodes.specs.Owned.{group_of}
use Rattle.dt_source_nodes.specs.Listing.{name_of, listed_row}
use Rattle.dt_source_growing.specs.declared.referring.Unnamed.{Unnamed}
use Rattle.dt_source_nodes.specs.Contents.{property_owner, label_owner, label_at, named_parts, all_read, named_property, property_at}
use Rattle.dt_source_nodes.specs.Resolving.{EachNaming, WhyUnread, IsUnread, AreRead, WhyUnreadAmong, IsUnreadAmong, IsPropertyRead, ArePropertiesRead, IsRowRead, content_by, AreRowsRead, IsUnreadRow, Belong}
use Rattle.dt_source_growing.specs.Grown.{value_held}
use Rattle.dt_source_nodes.proofs.Binding.{parts_some}

-- ---- lists

-- what is read is an element
pub in_read : {X : Type 0} (xs : List X) (i : ℕ) (d : X) → i < length xs → IsIn (get_or xs i d) xs
in_read [] i d h = absurd (omega arith)
in_read (x ∷ xs) zero d h = inl refl
in_read (x ∷ xs) (suc i) d h = inr (in_read xs i d (omega arith))

in_more : {X : Type 0} (xs : List X) (i : ℕ) (j d : X) → i < length xs → IsIn j (take (i + 1) xs) → IsIn j (take i xs) ⊎ (j ≡ get_or xs i d)
in_more xs i j d h k = step (in_append j (take i xs) (get_or xs i d ∷ []) (subst (IsIn j) (take_more xs i d h) k))
  where
    step : IsIn j (take i xs) ⊎ IsIn j (get_or xs i d ∷ []) → IsIn j (take i xs) ⊎ (j ≡ get_or xs i d)
    step (inl a) = inl a
    step (inr (inl e)) = inr e
    step (inr (inr none)) = absurd none

-- ---- one property

-- a property whose value is read
pub property_read : (unnamed : Unnamed) (g : Growing) (places : List (Option ℕ)) (i : ℕ) (q : Property) (v : NamedValue) → slice_get g.properties.items i ≡ Some q →
    EachNaming g places (λ es place. named_parts unnamed es place (value_held q.value) ≡ Some (value_said v)) →
    EachNaming g places (λ es place. IsPropertyRead unnamed es place g.properties.items i (property_said (record { name = q.name; value = v })))
property_read unnamed g places i q v there h es place limit of by = (made, read)
  where
    parts_named : named_parts unnamed es place (value_held q.value) ≡ Some (value_said v)
    parts_named = h es place limit of by

    made : property_said (record { name = q.name; value = v }) ≡ property_at unnamed es place g.properties.items i
    made =
        ap (λ (items : List (Item NodeReference)). record { name = q.name.now; value = items }) (ap (λ (o : Option (List (Item NodeReference))). unwrap_or o []) (sym parts_named))
        ∙ sym (ap (λ (o : Option Property). option_map_or (named_property unnamed es place) o (record { name = []; value = [] })) there)

    read : AreRead unnamed es g.properties.items (i ∷ [])
    read j p (inl e) at =
        let here : slice_get g.properties.items i ≡ Some p = ap (slice_get g.properties.items) (sym e) ∙ at in
        let same : q ≡ p = cc in
        subst (λ (r : Property). is_some (all_read unnamed es (value_held r.value)) ≡ true) same
        (sym (parts_some unnamed es place (value_held q.value)) ∙ ap is_some parts_named)
    read j p (inr none) at = absurd none

why_among : (unnamed : Unnamed) (es : Events) (properties : List Property) (i : ℕ) (q : Property) (kind : FaultKind) → slice_get properties i ≡ Some q → WhyUnread unnamed es (value_held q.value) kind →
    WhyUnreadAmong unnamed es properties (i ∷ []) kind
why_among unnamed es properties i q fault.NoMemory there h = tt
why_among unnamed es properties i q fault.UnresolvedReference there h = (i, q, inl refl, there, h)
why_among unnamed es properties i q kind there h = absurd h

-- and one whose value isn't read
pub unread_property : (unnamed : Unnamed) (g : Growing) (i : ℕ) (q : Property) (e : Fault) → slice_get g.properties.items i ≡ Some q → IsUnread unnamed g (value_held q.value) e → IsUnreadAmong unnamed g (i ∷ []) e
unread_property unnamed g i q e there h = (h.0, λ es of. why_among unnamed es g.properties.items i q e.kind there (h.1 es of))

why_more : (unnamed : Unnamed) (es : Events) (properties : List Property) (xs ys : List ℕ) (kind : FaultKind) → ((i : ℕ) → IsIn i xs → IsIn i ys) → WhyUnreadAmong unnamed es properties xs kind → WhyUnreadAmong unnamed es properties ys kind
why_more unnamed es properties xs ys fault.NoMemory more h = tt
why_more unnamed es properties xs ys fault.UnresolvedReference more h = (h.0, h.1, more h.0 h.2, h.3, h.4)
why_more unnamed es properties xs ys kind more h = absurd h

-- among others
pub unread_among : (unnamed : Unnamed) (g : Growing) (indices : List ℕ) (k d : ℕ) (e : Fault) → k < length indices → IsUnreadAmong unnamed g (get_or indices k d ∷ []) e → IsUnreadAmong unnamed g indices e
unread_among unnamed g indices k d e near h = (h.0, λ es of. why_more unnamed es g.properties.items (get_or indices k d ∷ []) indices e.kind among (h.1 es of))
  where
    among : (i : ℕ) → IsIn i (get_or indices k d ∷ []) → IsIn i indices
    among i (inl same) = subst (λ (j : ℕ). IsIn j indices) (sym same) (in_read indices k d near)
    among i (inr none) = absurd none

-- one property more
pub properties_more : (unnamed : Unnamed) (g : Growing) (places : List (Option ℕ)) (indices : List ℕ) (k d : ℕ) (old new : List NamedProperty) (p : NamedProperty) → k < length indices →
    new ≡ old ++ p ∷ [] →
    EachNaming g places (λ es place. ArePropertiesRead unnamed es place g.properties.items (take k indices) (map property_said old)) →
    EachNaming g places (λ es place. IsPropertyRead unnamed es place g.properties.items (get_or indices k d) (property_said p)) →
    EachNaming g places (λ es place. ArePropertiesRead unnamed es place g.properties.items (take (k + 1) indices) (map property_said new))
properties_more unnamed g places indices k d old new p near e before one es place limit of by =
    let first = before es place limit of by in
    let last = one es place limit of by in
    let at = property_at unnamed es place g.properties.items in (
      ap (map property_said) e ∙ (map_push property_said old p
          ∙ (ap (λ (ps : List (model.NamedProperty NodeReference)). ps ++ property_said p ∷ []) first.0
          ∙ (ap (λ (q : model.NamedProperty NodeReference). map at (take k indices) ++ q ∷ []) last.0 ∙ sym (map_more at indices k d near)))),
      λ i q among there. step es first.1 last.1 i q there (in_more indices k i d near among),
    )
  where
    step : (es : Events) → AreRead unnamed es g.properties.items (take k indices) → AreRead unnamed es g.properties.items (get_or indices k d ∷ []) → (i : ℕ) (q : Property) → slice_get g.properties.items i ≡ Some q →
        IsIn i (take k indices) ⊎ (i ≡ get_or indices k d) → is_some (all_read unnamed es (value_held q.value)) ≡ true
    step es first last i q there (inl among) = first i q among there
    step es first last i q there (inr same) = last i q (inl same) there

-- ---- a node

pub property_within : (g : Growing) (b : Belongings) (k i : ℕ) → Belong g b → IsIn i (group_of b.properties k) → i < length g.properties.items
property_within g b k i belong among =
    let there = slice_get_within (map property_owner g.properties.items) i (Some k) (belong.properties.sound k i among) in
    let size = length-map g.properties.items property_owner in omega arith

pub label_within : (g : Growing) (b : Belongings) (k i : ℕ) → Belong g b → IsIn i (group_of b.labels k) → i < length g.givings.items
label_within g b k i belong among =
    let there = slice_get_within (map label_owner g.givings.items) i (Some k) (belong.labels.sound k i among) in
    let size = length-map g.givings.items label_owner in omega arith

-- a node whose labels and properties are read
pub node_read : (unnamed : Unnamed) (g : Growing) (b : Belongings) (r : Row) (n : NamedNode) (indices : List ℕ) → indices ≡ group_of b.properties r.node → n.parent ≡ r.parent →
    cow_slice_items n.name ≡ name_of g.nodes.items r.node → map (λ l. l.now) n.labels.items ≡ map (label_at g.givings.items) (group_of b.labels r.node) →
    EachNaming g b.places.items (λ es place. ArePropertiesRead unnamed es place g.properties.items indices (map property_said n.properties.items)) →
    EachNaming g b.places.items (λ es place. IsRowRead unnamed es place g b r (node_said n))
node_read unnamed g b r n indices at parent name labels properties es place limit of by =
    let read = properties es place limit of by in
    let made = read.0 ∙ ap (map (property_at unnamed es place g.properties.items)) at in (
      λ i. record { parent = parent i; name = name i; content = record { labels = labels i; properties = made i } },
      subst (AreRead unnamed es g.properties.items) at read.1,
    )

-- one row more
pub rows_more : (unnamed : Unnamed) (g : Growing) (b : Belongings) (rows : List Row) (k : ℕ) (d : Row) (old new : List NamedNode) (n : NamedNode) → k < length rows → new ≡ old ++ n ∷ [] →
    EachNaming g b.places.items (λ es place. AreRowsRead unnamed es place g b (take k rows) (map node_said old)) →
    EachNaming g b.places.items (λ es place. IsRowRead unnamed es place g b (get_or rows k d) (node_said n)) →
    EachNaming g b.places.items (λ es place. AreRowsRead unnamed es place g b (take (k + 1) rows) (map node_said new))
rows_more unnamed g b rows k d old new n near e before one es place limit of by =
    let first = before es place limit of by in
    let last = one es place limit of by in
    let row = listed_row (name_of g.nodes.items) (content_by unnamed es place g b) in (
      ap (map node_said) e ∙ (map_push node_said old n
          ∙ (ap (λ (ns : List (model.Listed NodeReference)). ns ++ node_said n ∷ []) first.0
          ∙ (ap (λ (m : model.Listed NodeReference). map row (take k rows) ++ m ∷ []) last.0 ∙ sym (map_more row rows k d near)))),
      λ r among. step es first.1 last.1 r (in_more rows k r d near among),
    )
  where
    step : (es : Events) → ((r : Row) → IsIn r (take k rows) → AreRead unnamed es g.properties.items (group_of b.properties r.node)) →
        AreRead unnamed es g.properties.items (group_of b.properties (get_or rows k d).node) →
        (r : Row) → IsIn r (take k rows) ⊎ (r ≡ get_or rows k d) → AreRead unnamed es g.properties.items (group_of b.properties r.node)
    step es first last r (inl among) = first r among
    step es first last r (inr same) = subst (λ (q : Row). AreRead unnamed es g.properties.items (group_of b.properties q.node)) (sym same) last

-- a row that isn't read
pub unread_row : (unnamed : Unnamed) (g : Growing) (b : Belongings) (rows : List Row) (k : ℕ) (d : Row) (e : Fault) → k < length rows →
    IsUnreadAmong unnamed g (group_of b.properties (get_or rows k d).node) e → IsUnreadRow unnamed g b rows e
unread_row unnamed g b rows k d e near h = (get_or rows k d, in_read rows k d near, h)

-- where memory is refused
pub unread_for_memory : (unnamed : Unnamed) (g : Growing) (indices : List ℕ) (e : Fault) → e.kind ≡ fault.NoMemory → e.at ≡ None → IsUnreadAmong unnamed g indices e
unread_for_memory unnamed g indices e kind at = (at, λ es of. subst (WhyUnreadAmong unnamed es g.properties.items indices) (sym kind) tt)
