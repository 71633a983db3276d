-- What a devicetree means: its nodes and their values, with references in place of numbers, and no order.
use Rattle.std.specs.Prelude.{◌≡◌, ℕ, ◌<◌, ◌≤◌, Bool, true, false, List, [], ◌∷◌, ◌++◌, Option, Some, None, IsSome, option_map, if◌then◌else◌, codes}
use Rattle.std.specs.List.{flat_map, AllByRecursion}
use Rattle.std.specs.Int.{w32, to_be_bytes}
use Rattle.std.specs.Str.{bytes_eq}
use Rattle.dt_model.specs.Names.{Name, IsNodeName, IsPropertyName, IsLabel}
use Rattle.dt_model.specs.Path.{Path, is_bookkeeping}
use Rattle.dt_model.specs.Valid.{IsReservation}

-- a 32-bit number as one cell: four bytes, the highest first (Devicetree Specification v0.4, 2.2.4)
abbrev pub cell : ℕ → List ℕ
cell n = to_be_bytes w32 n

-- an item of a value: a byte, or a reference, which is one cell wide. In a meaning a reference is the path of its node.
pub data Item (R : Type 0) : Type 0 where
  byte : ℕ → Item R
  reference : R → Item R

-- the bytes of an item, where references have these numbers
abbrev pub item_bytes : {R : Type 0} → (R → ℕ) → Item R → List ℕ
item_bytes number (byte b) = b ∷ []
item_bytes number (reference r) = cell (number r)

-- the bytes of a value, where references have these numbers
abbrev pub value_bytes : {R : Type 0} → (R → ℕ) → List (Item R) → List ℕ
value_bytes number items = flat_map (item_bytes number) items

-- P holds of each reference of a value
abbrev pub EachReference : {R : Type 0} → (R → Type 0) → List (Item R) → Type 0
EachReference P [] = Unit {0}
EachReference P (byte b ∷ items) = EachReference P items
EachReference P (reference r ∷ items) = P r × EachReference P items

-- the bytes of a value are below 256
abbrev pub AreBytes : {R : Type 0} → List (Item R) → Type 0
AreBytes [] = Unit {0}
AreBytes (byte b ∷ items) = (b < 256) × AreBytes items
AreBytes (reference r ∷ items) = AreBytes items

-- the item with its reference replaced
abbrev pub item_renamed : {R S : Type 0} → (R → S) → Item R → Item S
item_renamed f (byte b) = byte b
item_renamed f (reference r) = reference (f r)

-- A tree by its nodes and values. A keyed node is one that a label names, that a reference names, or that has a
-- written number; each keyed node gets a number of its own, a phandle, when the tree is put into a blob.
pub record Meaning : Type 0 where
  -- memory that is not to be used, as pairs of address and size
  pub reservations : List (ℕ × ℕ)
  -- which paths are nodes
  pub stands : Path → Bool
  -- the value of a node's property, `phandle` aside
  pub value : Path → Name → Option (List (Item Path))
  -- the number that is written in a node
  pub number : Path → Option ℕ
  -- the node that a label names
  pub label : Name → Option Path
  pub keyed : Path → Bool

-- What is true of each meaning. A base's has no bookkeeping nodes (`IsPlain`), a raw source's may have them.
pub record IsMeaning (m : Meaning) : Type 0 where
  pub reservations : AllByRecursion IsReservation m.reservations
  -- the nodes are a tree with a root, and have names
  pub rooted : m.stands [] ≡ true
  pub parents : (p : Path) (name : Name) → m.stands (p ++ name ∷ []) ≡ true → m.stands p ≡ true
  pub named : (p : Path) → m.stands p ≡ true → AllByRecursion IsNodeName p
  -- a property is a node's, has a name other than `phandle`, and its bytes are bytes
  pub values_stand : (p : Path) (name : Name) → IsSome (m.value p name) → m.stands p ≡ true
  pub values_named : (p : Path) (name : Name) → IsSome (m.value p name) → IsPropertyName name × (bytes_eq name (codes "phandle") ≡ false)
  pub bytes : (p : Path) (name : Name) (items : List (Item Path)) → m.value p name ≡ Some items → AreBytes items
  -- the keyed nodes are nodes, and a label, a reference and a written number mean one of them
  pub keyed_stand : (p : Path) → m.keyed p ≡ true → m.stands p ≡ true
  pub labelled : (l : Name) (p : Path) → m.label l ≡ Some p → IsLabel l × (m.keyed p ≡ true)
  pub referred : (p : Path) (name : Name) (items : List (Item Path)) → m.value p name ≡ Some items → EachReference (λ q. m.keyed q ≡ true) items
  pub numbered : (p : Path) (n : ℕ) → m.number p ≡ Some n → (m.keyed p ≡ true) × (1 ≤ n) × (n ≤ 0xfffffffe)
  -- no number is written twice
  pub own : (p q : Path) (n : ℕ) → m.number p ≡ Some n → m.number q ≡ Some n → p ≡ q

-- no node of the meaning is a bookkeeping node or below one
pub record IsPlain (m : Meaning) : Type 0 where
  pub plain : (p : Path) → m.stands p ≡ true → is_bookkeeping p ≡ false

-- a number of its own, from 1 to 0xfffffffe, for each keyed node, the written one where there is one (2.3.3)
pub record IsNaming (m : Meaning) (number : Path → ℕ) : Type 0 where
  pub low : (p : Path) → m.keyed p ≡ true → 1 ≤ number p
  pub high : (p : Path) → m.keyed p ≡ true → number p ≤ 0xfffffffe
  pub own : (p q : Path) → m.keyed p ≡ true → m.keyed q ≡ true → number p ≡ number q → p ≡ q
  pub written : (p : Path) (n : ℕ) → m.number p ≡ Some n → number p ≡ n

-- the numbers of a meaning's keyed nodes, kept
pub record Extends (m : Meaning) (number number' : Path → ℕ) : Type 0 where
  pub kept : (p : Path) → m.keyed p ≡ true → number' p ≡ number p

-- The value of a node's property in the instance of a meaning under a naming: each reference is its node's number as
-- a cell, and exactly the keyed nodes have a property `phandle`, with their number.
abbrev pub instance_value : Meaning → (Path → ℕ) → Path → Name → Option (List ℕ)
instance_value m number p name =
    if bytes_eq name (codes "phandle")
    then (if m.keyed p then Some (cell (number p)) else None)
    else option_map (value_bytes number) (m.value p name)
