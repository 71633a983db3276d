-- What the nodes of a named tree ask for, as it is found: each by itself first, and then the nodes to which values refer.
use Rattle.std.specs.Prelude.{ℕ, suc, Bool, ◌||◌, List, [], ◌∷◌, length, is_some, nat_lt}
use Rattle.std.specs.List.{list_any}
use Rattle.dt_model.specs.Meaning.{Item, reference}
use Rattle.dt_model.specs.Named.{NodeReference, NamedProperty, Content, written_in}
use Rattle.dt_model.specs.NamedOf.{refers_to, has_reference_to}
use Rattle.dt_model.specs.Numbering as model
use Rattle.dt_source_named_tree.specs.Said.{node_said}
use Rattle.dt_source_named_tree.specs.declared.named.NamedNode.{NamedNode}
use Rattle.dt_phandle.specs.declared.asked.Asked.{Asked}

abbrev pub asked_said : Asked → model.Asked
asked_said a = record { written = a.written; keyed = a.keyed }

-- what a node has
abbrev pub content_said : NamedNode → Content NodeReference
content_said n = (node_said n).content

-- what a node asks for, references to it aside
abbrev pub own : Content NodeReference → model.Asked
own c = record { written = written_in c; keyed = is_some (written_in c) || nat_lt 0 (length c.labels) }

-- the same, where nodes are keyed too whose numbers pass a test, and the first of them is node k
abbrev pub keyed_too : (ℕ → Bool) → ℕ → List model.Asked → List model.Asked
keyed_too test k [] = []
keyed_too test k (x ∷ xs) = record { written = x.written; keyed = x.keyed || test k } ∷ keyed_too test (suc k) xs

-- the reference is to node k
abbrev pub is_to : NodeReference → ℕ → Bool
is_to r k = refers_to k (reference r)

-- a value refers to node k
abbrev pub is_in_value : List (Item NodeReference) → ℕ → Bool
is_in_value value k = list_any (refers_to k) value

-- one of these properties does
abbrev pub is_in_properties : List (NamedProperty NodeReference) → ℕ → Bool
is_in_properties properties k = list_any (λ (p : NamedProperty NodeReference). list_any (refers_to k) p.value) properties

-- one of these nodes does
abbrev pub is_in_nodes : List (Content NodeReference) → ℕ → Bool
is_in_nodes all k = list_any (has_reference_to k) all
