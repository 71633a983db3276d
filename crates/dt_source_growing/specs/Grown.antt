-- What a tree under construction stands for: the nodes, properties and labels that stand after some events.
use Rattle.std.specs.Prelude.{◌≡◌, ℕ, ◌<◌, ◌≤◌, true, List, [], ◌∷◌, map, length, Some, slice_get}
use Rattle.dt_model.specs.Limits.{most_names}
use Rattle.dt_model.specs.Names.{Name}
use Rattle.dt_model.specs.Event.{Stack, stands, value_at, names, age, property_age, label_age}
use Rattle.dt_model.specs.Path.{path_value}
use Rattle.dt_model.specs.Source.{Part, Events, Reference, by_label, by_path, one, number_of}
use Rattle.dt_source_items.specs.Said.{value_said, reference_of}
use Rattle.dt_source_growing.specs.declared.growing.PropertyValue.{PropertyValue}
use Rattle.dt_source_growing.specs.declared.growing.PropertyValue.TheVariants as value
use Rattle.dt_source_growing.specs.declared.growing.NameText.{NameText}
use Rattle.dt_source_growing.specs.declared.growing.NameText.TheVariants.{Written, Made}
use Rattle.dt_source_growing.specs.declared.growing.Node.{Node}
use Rattle.dt_source_growing.specs.declared.growing.Property.{Property}
use Rattle.dt_source_growing.specs.declared.growing.Giving.{Giving}

-- what the target of a new fragment holds
abbrev pub target_value : Reference → List Part
target_value (by_label l) = number_of (by_label l) ∷ []
target_value (by_path p) = map one (path_value p)

-- what a property holds
abbrev pub value_held : PropertyValue → List Part
value_held (value.Written v) = value_said v
value_held (value.Target r) = target_value (reference_of r.now)

-- a node below the root comes after its parent
abbrev pub AreAbove : List Node → Type 0
AreAbove nodes = (k : ℕ) (n : Node) → 0 < k → slice_get nodes k ≡ Some n → n.parent < k

abbrev pub name_said : NameText → Name
name_said (Written x) = x.now
name_said (Made x) = x.now

-- node k stands under these names
abbrev pub StandsUnder : List Node → Stack → ℕ → Type 0
StandsUnder nodes [] k = (k ≡ 0) × (0 < length nodes)
StandsUnder nodes (x ∷ p) k =
    (n : Node) × (slice_get nodes k ≡ Some n) × (0 < k) × (name_said n.name ≡ x) × (n.stands ≡ true) × StandsUnder nodes p n.parent

-- entry i is the property of this name and value of the node that stands under these names
pub record HasValue (nodes : List Node) (properties : List Property) (p : Stack) (x : Name) (v : List Part) (i : ℕ) : Type 0 where
  pub property : Property
  pub there : slice_get properties i ≡ Some property
  pub stands : property.stands ≡ true
  pub named : property.name.now ≡ x
  pub value : value_held property.value ≡ v
  pub node : StandsUnder nodes p property.node

-- entry i gives the label to the node that stands under these names
pub record HasLabel (nodes : List Node) (givings : List Giving) (l : Name) (p : Stack) (i : ℕ) : Type 0 where
  pub giving : Giving
  pub there : slice_get givings i ≡ Some giving
  pub label : giving.label.now ≡ l
  pub node : StandsUnder nodes p giving.node

-- The entries that stand are the nodes, the values and the labels after the events, each once and in their order.
pub record IsGrown (nodes : List Node) (properties : List Property) (givings : List Giving) (es : Events) : Type 0 where
  pub above : AreAbove nodes
  pub shallow : (p : Stack) (k : ℕ) → StandsUnder nodes p k → length p ≤ most_names
  pub nodes_are : (p : Stack) → stands es p ≡ true → (k : ℕ) × StandsUnder nodes p k
  pub nodes_stand : (p : Stack) (k : ℕ) → StandsUnder nodes p k → stands es p ≡ true
  pub one_node : (p : Stack) (j k : ℕ) → StandsUnder nodes p j → StandsUnder nodes p k → j ≡ k
  pub nodes_in_order : (p q : Stack) (j k : ℕ) → StandsUnder nodes p j → StandsUnder nodes q k → j < k → age es q < age es p
  pub values_are : (p : Stack) (x : Name) (v : List Part) → value_at es p x ≡ Some v → (i : ℕ) × HasValue nodes properties p x v i
  pub values_stand : (p : Stack) (x : Name) (v : List Part) (i : ℕ) → HasValue nodes properties p x v i → value_at es p x ≡ Some v
  pub one_value : (p : Stack) (x : Name) (v w : List Part) (i j : ℕ) → HasValue nodes properties p x v i → HasValue nodes properties p x w j → i ≡ j
  pub values_in_order : (p : Stack) (x y : Name) (v w : List Part) (i j : ℕ) →
      HasValue nodes properties p x v i → HasValue nodes properties p y w j → i < j → property_age es p y < property_age es p x
  pub labels_are : (l : Name) (p : Stack) → names es l p ≡ true → (i : ℕ) × HasLabel nodes givings l p i
  pub labels_stand : (l : Name) (p : Stack) (i : ℕ) → HasLabel nodes givings l p i → names es l p ≡ true
  pub one_label : (l : Name) (p q : Stack) (i j : ℕ) → HasLabel nodes givings l p i → HasLabel nodes givings l q j → i ≡ j
  pub labels_in_order : (l k : Name) (p : Stack) (i j : ℕ) →
      HasLabel nodes givings l p i → HasLabel nodes givings k p j → i < j → label_age es k p < label_age es l p
