-- A growing tree as functions of indices and names, its changes, and what it is to show what stands after events.
use Rattle.std.specs.Prelude.{◌≡◌, ℕ, ◌+◌, ◌<◌, Bool, ◌&&◌, List, [], ◌∷◌, Option, None, Some, cond, nat_eq, is_some, option_and_then}
use Rattle.std.specs.Str.{bytes_eq}
use Rattle.dt_model.specs.Names.{Name}
use Rattle.dt_model.specs.Event.{Stack, Event, stands, value_at, names, age, property_age, label_age}

-- nodes, properties and givings of labels are indices in the order in which they were made
pub record Shape (V : Type 0) : Type 0 where
  -- nodes are indices below this; the root, where there is one, is 0
  pub size : ℕ
  -- the child of a node that has the name
  pub child : ℕ → Name → Option ℕ
  -- the item that last opened a child of a node by the name, also where the child doesn't stand
  pub opened : ℕ → Name → Option ℕ
  -- properties are indices below this
  pub count : ℕ
  -- the property of a node that has the name
  pub property : ℕ → Name → Option ℕ
  -- the value of a property
  pub value : ℕ → Option V
  -- the item that last defined a property of a node by the name, also where the property doesn't stand
  pub defined : ℕ → Name → Option ℕ
  -- givings are indices below this
  pub givings : ℕ
  -- the giving of a label to a node
  pub given : ℕ → Name → Option ℕ

-- the root, where there is one
abbrev pub root_index : ℕ → Option ℕ
root_index size = cond (nat_eq size 0) None (Some 0)

-- the node to which a stack of names leads from the root
abbrev pub walk : Option ℕ → (ℕ → Name → Option ℕ) → Stack → Option ℕ
walk root child [] = root
walk root child (x ∷ p) = option_and_then (λ i. child i x) (walk root child p)

-- the index of a thing after an event that takes it, or begins it: a new thing has the index next
abbrev pub begun : Bool → ℕ → Option ℕ → Option ℕ
begun starts next (Some i) = Some i
begun starts next None = cond starts (Some next) None

abbrev pub index_after : Bool → Bool → ℕ → Option ℕ → Option ℕ
index_after resets starts next o = cond resets None (begun starts next o)

-- indices follow the order of ages: of two things that have an index the one with the lower is older
pub record AreAged {X : Type 0} (index : X → Option ℕ) (age : X → ℕ) : Type 0 where
  pub old : (x : X) (i : ℕ) → index x ≡ Some i → 0 < age x
  pub unborn : (x : X) → index x ≡ None → age x ≡ 0
  pub order : (x y : X) (i j : ℕ) → index x ≡ Some i → index y ≡ Some j → i < j → age y < age x

module _ {V : Type 0} where
  -- the node of a stack of names
  abbrev pub node_at : Shape V → Stack → Option ℕ
  node_at s p = walk (root_index s.size) s.child p

  -- the property, by the names of its node and its own
  abbrev pub property_at : Shape V → Stack × Name → Option ℕ
  property_at s x = option_and_then (λ i. s.property i x.1) (node_at s x.0)

  -- the giving of a label to a node, by the names of the node
  abbrev pub given_at : Shape V → Stack × Name → Option ℕ
  given_at s x = option_and_then (λ i. s.given i x.1) (node_at s x.0)

  -- a child has one parent and one name, and what a node has it has alone
  pub record IsForest (s : Shape V) : Type 0 where
    pub edge : (i : ℕ) (x : Name) (j : ℕ) → s.child i x ≡ Some j → (i < j) × (j < s.size)
    pub once : (i : ℕ) (x : Name) (k : ℕ) (y : Name) (j : ℕ) → s.child i x ≡ Some j → s.child k y ≡ Some j → (i ≡ k) × (x ≡ y)
    pub placed : (i : ℕ) (n : Name) (k : ℕ) → s.property i n ≡ Some k → (i < s.size) × (k < s.count)
    pub placed_once : (i : ℕ) (n : Name) (j : ℕ) (m : Name) (k : ℕ) → s.property i n ≡ Some k → s.property j m ≡ Some k → (i ≡ j) × (n ≡ m)
    pub labelled : (i : ℕ) (l : Name) (k : ℕ) → s.given i l ≡ Some k → (i < s.size) × (k < s.givings)

  -- the tree shows what stands after the events, in its order
  pub record Shows (s : Shape V) (es : List (Event V)) : Type 0 where
    pub nodes : (p : Stack) → is_some (node_at s p) ≡ stands es p
    pub values : (p : Stack) (n : Name) → option_and_then s.value (property_at s (p, n)) ≡ value_at es p n
    pub labels : (p : Stack) (l : Name) → is_some (given_at s (p, l)) ≡ names es l p
    pub node_ages : AreAged (node_at s) (age es)
    pub property_ages : AreAged (property_at s) (λ x. property_age es x.0 x.1)
    pub label_ages : AreAged (given_at s) (λ x. label_age es x.1 x.0)

  -- ---- what a change leaves

  pub record KeepsNodes (s t : Shape V) : Type 0 where
    pub size : t.size ≡ s.size
    pub child : t.child ≡ s.child
    pub opened : t.opened ≡ s.opened

  pub record KeepsProperties (s t : Shape V) : Type 0 where
    pub count : t.count ≡ s.count
    pub property : t.property ≡ s.property
    pub value : t.value ≡ s.value
    pub defined : t.defined ≡ s.defined

  pub record KeepsLabels (s t : Shape V) : Type 0 where
    pub givings : t.givings ≡ s.givings
    pub given : t.given ≡ s.given

  -- ---- changes, each by the item of a number

  -- the one change is the root
  pub record MakesRoot (s t : Shape V) : Type 0 where
    pub none : s.size ≡ 0
    pub size : t.size ≡ 1
    pub child : (i : ℕ) (x : Name) → t.child i x ≡ s.child i x
    pub opened : t.opened ≡ s.opened
    pub properties : KeepsProperties s t
    pub labels : KeepsLabels s t

  -- the one change is a new node, the child y of a
  pub record AddsChild (s t : Shape V) (a : ℕ) (y : Name) (item : ℕ) : Type 0 where
    pub size : t.size ≡ s.size + 1
    pub child : (i : ℕ) (x : Name) → t.child i x ≡ cond (nat_eq a i && bytes_eq y x) (Some s.size) (s.child i x)
    pub opened : (i : ℕ) (x : Name) → t.opened i x ≡ cond (nat_eq a i && bytes_eq y x) (Some item) (s.opened i x)
    pub properties : KeepsProperties s t
    pub labels : KeepsLabels s t

  -- the child y of a is opened again
  pub record OpensChild (s t : Shape V) (a : ℕ) (y : Name) (item : ℕ) : Type 0 where
    pub size : t.size ≡ s.size
    pub child : (i : ℕ) (x : Name) → t.child i x ≡ s.child i x
    pub opened : (i : ℕ) (x : Name) → t.opened i x ≡ cond (nat_eq a i && bytes_eq y x) (Some item) (s.opened i x)
    pub properties : KeepsProperties s t
    pub labels : KeepsLabels s t

  -- the one change is that a has no child y any more
  pub record Cuts (s t : Shape V) (a : ℕ) (y : Name) : Type 0 where
    pub size : t.size ≡ s.size
    pub child : (i : ℕ) (x : Name) → t.child i x ≡ cond (nat_eq a i && bytes_eq y x) None (s.child i x)
    pub opened : t.opened ≡ s.opened
    pub properties : KeepsProperties s t
    pub labels : KeepsLabels s t

  -- the one change is the value v of the property m of a, which is a new one where a had none
  pub record Defines (s t : Shape V) (a : ℕ) (m : Name) (v : V) (item : ℕ) : Type 0 where
    pub nodes : KeepsNodes s t
    pub property : (i : ℕ) (n : Name) → t.property i n ≡ begun (nat_eq a i && bytes_eq m n) s.count (s.property i n)
    pub value : (k : ℕ) → t.property a m ≡ Some k → t.value k ≡ Some v
    pub others : (k : ℕ) → k < s.count → (t.property a m ≡ Some k → ⊥) → t.value k ≡ s.value k
    pub defined : (i : ℕ) (n : Name) → t.defined i n ≡ cond (nat_eq a i && bytes_eq m n) (Some item) (s.defined i n)
    pub labels : KeepsLabels s t

  -- the one change is that a has no property m any more
  pub record Undefines (s t : Shape V) (a : ℕ) (m : Name) : Type 0 where
    pub nodes : KeepsNodes s t
    pub count : t.count ≡ s.count
    pub property : (i : ℕ) (n : Name) → t.property i n ≡ cond (nat_eq a i && bytes_eq m n) None (s.property i n)
    pub value : (k : ℕ) → t.value k ≡ s.value k
    pub defined : t.defined ≡ s.defined
    pub labels : KeepsLabels s t

  -- the one change is that the label k is given to a, and to no other node any more
  pub record Gives (s t : Shape V) (k : Name) (a : ℕ) : Type 0 where
    pub nodes : KeepsNodes s t
    pub properties : KeepsProperties s t
    pub given : (i : ℕ) (l : Name) → t.given i l ≡ cond (bytes_eq k l) (cond (nat_eq a i) (Some s.givings) None) (s.given i l)
