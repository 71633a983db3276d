-- What may be changed at a path is what may be changed at its node.
use Rattle.std.proofs.Common.{◌≡◌, ℕ, ◌+◌, ◌<◌, ◌≤◌, ◌^◌, ◌++◌, ◌∷◌, [], true, List, length, Option, Some, None, IsSome, is_some, inl, inr, refl, sym, ap, ◌∙◌, arith}
use Rattle.std.specs.Prelude.{codes, option_and_then}
use Rattle.std.specs.Int.{w32, from_be_bytes}
use Rattle.std.proofs.lemmas.Bool.{cases_lt}
use Rattle.std.proofs.lemmas.Nat.{from_be_bytes-to_be_bytes_4}
use Rattle.dt_model.specs.Applied.{with_cell}
use Rattle.dt_model.specs.Meaning.{cell}
use Rattle.dt_model.specs.Names.{Name}
use Rattle.dt_model.specs.Path.{Path}
use Rattle.dt_model.specs.Changes.{with_child_at}
use Rattle.dt_model.specs.Tree.{stands_in, value_of}
use Rattle.dt_model.specs.Valid.{node_count}
use Rattle.dt_names.specs.declared.fault.FaultKind.{FaultKind}
use Rattle.dt_names.specs.declared.fault.FaultKind.TheVariants.{NoMemory, Limit, Duplicate, BlobPhandle}
use Rattle.dt_flat.specs.Arena.{Arena, Slot, reading, properties, named_children, child_of, depth_of, node_from, phandle_at}
use Rattle.dt_flat.specs.Refusals.{MayAdd, MaySet, WhyNoNode, WhyNotSet}
use Rattle.dt_flat.proofs.AfterChild.{properties-past}
use Rattle.dt_flat.proofs.Counting.{nodes-counted}
use Rattle.dt_flat.proofs.Descent.{path-length, path-same, path-further}
use Rattle.dt_flat.proofs.Numbering.{whole_cell}
use Rattle.dt_overlay_laws.proofs.SingleChanges.{child_counted, property_counted}
use Rattle.dt_overlay_base.specs.FlatTargets.{HasRoom, IsPlaced}
use Rattle.dt_overlay_base.specs.Targets.{MayAddAt, MaySetAt, HasRoomAt, WhyNotAddedAt, WhyNotSetAt}
use Rattle.dt_overlay_base.proofs.Reached.{stands-led, value-led, value-place, numbered-value, value-numbered}

-- ---- a property

-- a value that may be set by number may be set at the path
pub may_set-at : (a : Arena) (p : Path) (i : ℕ) (name : Name) (value : List ℕ) → IsPlaced a p i → MaySet a.slots i name value → MaySetAt (reading a) p name value
may_set-at a p i name value placed may = record {
  valid = may.valid;
  own = λ named q has.
      let at = value-place a q (codes "phandle") value has in
      let same : at.0 ≡ i = may.own named at.0 (value-numbered a.slots at.0 value at.2 (may.valid named).four) in
      path-same a.slots q p 0 i placed.rooted (at.1 ∙ ap (λ (k : ℕ). Some k) same) placed.leads;
}

-- a property takes none
pub room_at : (a : Arena) (p : Path) (name : Name) (value : List ℕ) → HasRoom a (reading a) → MaySetAt (reading a) p name value → HasRoomAt (HasRoom a) (reading a) p name value
room_at a p name value few may = record { may = may; room = omega (arith, few, property_counted p name value (reading a)) }

-- the value of a phandle that may be set is the cell of its number
abbrev pub IsWhole : Name → List ℕ → Type 0
IsWhole name value = name ≡ codes "phandle" → length value ≡ 4 → value ≡ cell (from_be_bytes w32 value)

-- and the other way round
pub may_set-by_number : (a : Arena) (p : Path) (i : ℕ) (name : Name) (value : List ℕ) → IsPlaced a p i → IsWhole name value → MaySetAt (reading a) p name value → MaySet a.slots i name value
may_set-by_number a p i name value placed whole may = record {
  valid = may.valid;
  own = λ named q number.
      let v = numbered-value a.slots q (from_be_bytes w32 value) number in
      let same : v.0 ≡ value = placed.cells q v.0 v.1 ∙ ap cell v.3 ∙ sym (whole named (may.valid named).four) in
      let there : q < length a.slots = numbered-there a.slots q (from_be_bytes w32 value) number in
      let way = placed.paths q there in
      let path : way.0 ≡ p = may.own named way.0 (value-led a way.0 q (codes "phandle") way.1 ∙ v.1 ∙ ap (λ (w : List ℕ). Some w) same) in
      let both : Some q ≡ Some i = sym way.1 ∙ ap (node_from a.slots 0) path ∙ placed.leads in
      cc;
}
  where
    numbered-there : (slots : List Slot) (q n : ℕ) → phandle_at slots q ≡ Some n → q < length slots
    numbered-there slots q n e =
        elim (cases_lt q (length slots)) [
          | inl lt ↦ lt
          | inr past ↦
              let v = numbered-value slots q n e in
              let none : None ≡ Some v.0 = sym (ap (λ ps. value_of ps (codes "phandle")) (properties-past slots q past)) ∙ v.1 in
              absurd cc
        ]

-- a phandle with a cell written is that cell
pub whole_patched : (a : Arena) (p : Path) (i : ℕ) (name : Name) (value other : List ℕ) (offset number : ℕ) → IsPlaced a p i → number < 2 ^ 32 → value_of (properties a.slots i) name ≡ Some value → value_of (properties a.slots i) name ≡ Some other
    → offset + 4 ≤ length other → IsWhole name (with_cell value offset number)
whole_patched a p i name value other offset number placed fits at there room = λ named four.
    let one : other ≡ value = cc in
    let cells : value ≡ cell (from_be_bytes w32 value) = placed.cells i value (ap (value_of (properties a.slots i)) (sym named) ∙ at) in
    let whole : with_cell value offset number ≡ cell number = whole_cell value offset number (ap (λ (xs : List ℕ). length xs) cells) (omega (arith, room, ap (λ (xs : List ℕ). length xs) one)) in
    whole ∙ ap cell (sym (ap (from_be_bytes w32) whole ∙ from_be_bytes-to_be_bytes_4 number fits))

-- a refusal by number is one at the path
pub why_not_set-at : (a : Arena) (p : Path) (i : ℕ) (name : Name) (value : List ℕ) (kind : FaultKind) → HasRoom a (reading a) → IsPlaced a p i → IsWhole name value → WhyNotSet kind a.slots i name value → WhyNotSetAt (HasRoom a) kind (reading a) p name value
why_not_set-at a p i name value NoMemory few placed whole why = room_at a p name value few (may_set-at a p i name value placed why)
why_not_set-at a p i name value BlobPhandle few placed whole why = λ may. why (may_set-by_number a p i name value placed whole may)
why_not_set-at a p i name value _ few placed whole why = absurd why

-- ---- a child

-- a path with one name more stands where the node has the child
stands-further : (a : Arena) (p : Path) (i : ℕ) (name : Name) → node_from a.slots 0 p ≡ Some i → stands_in (reading a) (p ++ name ∷ []) ≡ is_some (child_of (named_children a.slots i) name)
stands-further a p i name leads =
    stands-led a (p ++ name ∷ []) ∙ ap is_some (path-further a.slots p 0 name ∙ ap (λ (o : Option ℕ). option_and_then (λ c. child_of (named_children a.slots c) name) o) leads)

-- the node is as deep as its path is long
deep-as : (a : Arena) (p : Path) (i : ℕ) → IsPlaced a p i → depth_of a.slots i ≡ length p
deep-as a p i placed = omega (arith, path-length a.slots p 0 i placed.rooted placed.leads, placed.rooted.top)

-- something is there, as a test
some-is : (o : Option ℕ) → IsSome o → is_some o ≡ true
some-is None h = h
some-is (Some x) h = refl

-- a child that isn't there is one node more
one-more : (a : Arena) (p : Path) (i : ℕ) (name : Name) → IsPlaced a p i → child_of (named_children a.slots i) name ≡ None → node_count (with_child_at p name (reading a)).children ≡ 1 + node_count (reading a).children
one-more a p i name placed fresh = child_counted p name (reading a) (stands-led a p ∙ ap is_some placed.leads) (stands-further a p i name placed.leads ∙ ap is_some fresh)

-- a child that may be added by number may be added at the path
pub may_add-at : (a : Arena) (p : Path) (i : ℕ) (name : Name) → IsPlaced a p i → MayAdd a.slots i name → MayAddAt (HasRoom a) (reading a) p name
may_add-at a p i name placed may = record {
  fresh = stands-further a p i name placed.leads ∙ ap is_some may.fresh;
  room = omega (arith, nodes-counted a placed.rooted, may.few, one-more a p i name placed may.fresh);
  shallow = omega (arith, deep-as a p i placed, may.shallow);
}

-- a refusal by number is one at the path
pub why_not_added-at : (a : Arena) (p : Path) (i : ℕ) (name : Name) (kind : FaultKind) → IsPlaced a p i → WhyNoNode kind a.slots i name → WhyNotAddedAt (HasRoom a) kind (reading a) p name
why_not_added-at a p i name NoMemory placed why = may_add-at a p i name placed why
why_not_added-at a p i name Duplicate placed why = stands-further a p i name placed.leads ∙ some-is (child_of (named_children a.slots i) name) why
why_not_added-at a p i name Limit placed (fresh, inl many) =
    (stands-further a p i name placed.leads ∙ ap is_some fresh, inl (λ room. omega (arith, nodes-counted a placed.rooted, many, room, one-more a p i name placed fresh)))
why_not_added-at a p i name Limit placed (fresh, inr deep) = (stands-further a p i name placed.leads ∙ ap is_some fresh, inr (omega (arith, deep-as a p i placed, deep)))
why_not_added-at a p i name _ placed why = absurd why
