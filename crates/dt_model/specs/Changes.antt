-- A tree with one place changed, and a tree that is merged into a node of another.
use Rattle.std.specs.Prelude.{ℕ, List, [], ◌∷◌, if◌then◌else◌}
use Rattle.std.specs.Str.{bytes_eq}
use Rattle.dt_model.specs.Names.{Name}
use Rattle.dt_model.specs.Path.{Path}
use Rattle.dt_model.specs.Tree.{Property, Forest, no_nodes, branch, Reading, Node, root_of}

-- a property set: one that is there keeps its place, a new one goes last
abbrev pub set_property : List Property → Name → List ℕ → List Property
set_property [] name value = record { name = name; value = value } ∷ []
set_property (p ∷ ps) name value =
    if bytes_eq name p.name then record { name = p.name; value = value } ∷ ps else p ∷ set_property ps name value

-- properties set one after another
abbrev pub set_properties : List Property → List Property → List Property
set_properties ps [] = ps
set_properties ps (x ∷ xs) = set_properties (set_property ps x.name x.value) xs

-- A child of a name gets these properties, and what is below it is changed; where there is none, it is added, the last of all.
abbrev pub with_child : Forest → Name → List Property → (Forest → Forest) → Forest
with_child no_nodes name properties change = branch name (set_properties [] properties) (change no_nodes) no_nodes
with_child (branch x ps children siblings) name properties change =
    if bytes_eq name x then branch x (set_properties ps properties) (change children) siblings
    else branch x ps children (with_child siblings name properties change)

-- The second nodes merged into the first: of each name there is one, which has the properties and the children of both, the
-- second's values where both have a property.
abbrev pub merged_forest : Forest → Forest → Forest
merged_forest nodes no_nodes = nodes
merged_forest nodes (branch name properties children siblings) =
    merged_forest (with_child nodes name properties (λ old. merged_forest old children)) siblings

abbrev pub merged_node : Node → Node → Node
merged_node n m = record { properties = set_properties n.properties m.properties; children = merged_forest n.children m.children }

-- the node of a path changed, if it is there
abbrev pub changed_sibling : (Node → Node) → Forest → Name → Forest
changed_sibling change no_nodes name = no_nodes
changed_sibling change (branch x properties children siblings) name =
    if bytes_eq name x
    then (let n : Node = change (record { properties = properties; children = children }) in branch x n.properties n.children siblings)
    else branch x properties children (changed_sibling change siblings name)

abbrev pub changed_below : (Node → Node) → Path → Node → Node
changed_below change [] n = change n
changed_below change (x ∷ p) n = record { properties = n.properties; children = changed_sibling (changed_below change p) n.children x }

abbrev pub with_root : Reading → Node → Reading
with_root t n = record { boot_cpu = t.boot_cpu; reservations = t.reservations; properties = n.properties; children = n.children }

abbrev pub changed_at : (Node → Node) → Path → Reading → Reading
changed_at change p t = with_root t (changed_below change p (root_of t))

-- a child of a name added to the node of a path, the last of all, where there is none yet
abbrev pub with_child_at : Path → Name → Reading → Reading
with_child_at p name t = changed_at (λ n. record { properties = n.properties; children = with_child n.children name [] (λ nodes. nodes) }) p t

-- a property of the node of a path set
abbrev pub with_property_at : Path → Name → List ℕ → Reading → Reading
with_property_at p name value t = changed_at (λ n. record { properties = set_property n.properties name value; children = n.children }) p t
