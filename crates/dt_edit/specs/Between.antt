-- Where the tokens of a node are among those of its tree (Devicetree Specification v0.4, 5.4).
use Rattle.std.specs.Prelude.{◌≡◌, List, ◌++◌, map, Some}
use Rattle.dt_model.specs.Changes.{changed_at}
use Rattle.dt_model.specs.Format.{Token, prop, tokens_of, tokens_of_forest}
use Rattle.dt_model.specs.Path.{Path}
use Rattle.dt_model.specs.Tree.{Node, Reading, node_at}

-- the tokens of what a node has, between its BEGIN_NODE and its END_NODE
abbrev pub node_tokens : Node → List Token
node_tokens n = map prop n.properties ++ tokens_of_forest n.children

-- those of a tree
abbrev pub tokens_in : Reading → List Token
tokens_in t = tokens_of t.properties t.children

-- the tokens before and behind those of what the node of a path has, which stay whatever becomes of the node
pub record IsBetween (t : Reading) (p : Path) (front back : List Token) : Type 0 where
  pub node : Node
  pub is : node_at t p ≡ Some node
  pub now : tokens_in t ≡ front ++ (node_tokens node ++ back)
  pub around : (change : Node → Node) → tokens_in (changed_at change p t) ≡ front ++ (node_tokens (change node) ++ back)
