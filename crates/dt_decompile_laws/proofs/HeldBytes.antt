-- The values of a tree that a blob of bytes is read as are bytes.
use Rattle.std.proofs.Common.{ℕ, List, [], ◌∷◌, ◌++◌, length, map, drop, subst}
use Rattle.std.specs.List.{AllByRecursion}
use Rattle.dt_model.specs.Format.{word, Token, begin_node, end_node, prop, nop, end_tree, Spells, SpellsAll, SpellsTree, part, tokens_of_forest, without_nops}
use Rattle.dt_model.specs.Tree.{Property, Forest, no_nodes, branch}
use Rattle.dt_grammar.specs.WordBytes.{AreBytes}
use Rattle.dt_grammar.proofs.TextBytes.{take_bytes, drop_bytes}
use Rattle.dt_decompile_laws.specs.Laws.{ReadTreesHoldBytes}
use Rattle.dt_decompile_laws.specs.Said.{HoldBytes, NodesHoldBytes}

-- ---- parts of bytes

bytes_left : (xs ys : List ℕ) → AreBytes (xs ++ ys) → AreBytes xs
bytes_left [] ys h = tt
bytes_left (x ∷ xs) ys h = (h.0, bytes_left xs ys h.1)

bytes_right : (xs ys : List ℕ) → AreBytes (xs ++ ys) → AreBytes ys
bytes_right [] ys h = h
bytes_right (x ∷ xs) ys h = bytes_right xs ys h.1

-- ---- of tokens

-- a property's value is made of bytes
abbrev HoldsBytes : Token → Type 0
HoldsBytes (begin_node name) = Unit {0}
HoldsBytes end_node = Unit {0}
HoldsBytes (prop p) = AreBytes p.value
HoldsBytes nop = Unit {0}
HoldsBytes end_tree = Unit {0}

abbrev Hold : List Token → Type 0
Hold tokens = AllByRecursion HoldsBytes tokens

token_holds : (strings : List ℕ) (token : Token) (own : List ℕ) → AreBytes own → Spells strings token own → HoldsBytes token
token_holds strings (begin_node name) own h s = tt
token_holds strings end_node own h s = tt
token_holds strings (prop p) own h s =
    let numbered : List ℕ = word (length p.value) ++ (word s.offset ++ p.value) in
    let content : AreBytes (word 3 ++ numbered) = bytes_left (word 3 ++ numbered) s.bytes.padding (subst AreBytes s.bytes.whole h) in
    bytes_right (word s.offset) p.value (bytes_right (word (length p.value)) (word s.offset ++ p.value) (bytes_right (word 3) numbered content))
token_holds strings nop own h s = tt
token_holds strings end_tree own h s = tt

tokens_hold : (strings : List ℕ) (tokens : List Token) (bytes : List ℕ) → AreBytes bytes → SpellsAll strings tokens bytes → Hold tokens
tokens_hold strings [] bytes h s = tt
tokens_hold strings (token ∷ tokens) bytes h s =
    let all : AreBytes (s.0 ++ s.1) = subst AreBytes s.2 h in
    (token_holds strings token s.0 (bytes_left s.0 s.1 all) s.3, tokens_hold strings tokens s.1 (bytes_right s.0 s.1 all) s.4)

hold_left : (xs ys : List Token) → Hold (xs ++ ys) → Hold xs
hold_left [] ys h = tt
hold_left (x ∷ xs) ys h = (h.0, hold_left xs ys h.1)

hold_right : (xs ys : List Token) → Hold (xs ++ ys) → Hold ys
hold_right [] ys h = h
hold_right (x ∷ xs) ys h = hold_right xs ys h.1

hold_without_nops : (tokens : List Token) → Hold tokens → Hold (without_nops tokens)
hold_without_nops [] h = tt
hold_without_nops (nop ∷ tokens) h = hold_without_nops tokens h.1
hold_without_nops (begin_node name ∷ tokens) h = (tt, hold_without_nops tokens h.1)
hold_without_nops (end_node ∷ tokens) h = (tt, hold_without_nops tokens h.1)
hold_without_nops (prop p ∷ tokens) h = (h.0, hold_without_nops tokens h.1)
hold_without_nops (end_tree ∷ tokens) h = (tt, hold_without_nops tokens h.1)

-- ---- of nodes

properties_hold : (ps : List Property) → Hold (map prop ps) → HoldBytes ps
properties_hold [] h = tt
properties_hold (p ∷ ps) h = (h.0, properties_hold ps h.1)

nodes_hold : (f : Forest) → Hold (tokens_of_forest f) → NodesHoldBytes f
nodes_hold no_nodes h = tt
nodes_hold (branch name properties children siblings) h =
    let own = map prop properties in
    let inner : List Token = tokens_of_forest children in
    let behind = hold_right own (inner ++ end_node ∷ tokens_of_forest siblings) h.1 in (
      properties_hold properties (hold_left own (inner ++ end_node ∷ tokens_of_forest siblings) h.1),
      nodes_hold children (hold_left inner (end_node ∷ tokens_of_forest siblings) behind),
      nodes_hold siblings (hold_right inner (end_node ∷ tokens_of_forest siblings) behind).1,
    )

-- ---- of a tree

tree_holds : (strings : List ℕ) (properties : List Property) (children : Forest) (block : List ℕ) → AreBytes block → SpellsTree strings properties children block
    → NodesHoldBytes (branch [] properties children no_nodes)
tree_holds strings properties children block h s =
    let all = tokens_hold strings (s.tokens ++ end_tree ∷ []) block h s.spelled in
    nodes_hold (branch [] properties children no_nodes) (subst Hold s.whole (hold_without_nops s.tokens (hold_left s.tokens (end_tree ∷ []) all)))

pub read_trees_hold_bytes : ReadTreesHoldBytes
read_trees_hold_bytes bytes t h r =
    let block = take_bytes r.header.structure_size (drop r.header.structure_offset bytes) (drop_bytes r.header.structure_offset bytes h) in
    let strings = part r.header.strings_offset r.header.strings_size bytes in
    let held = tree_holds strings t.properties t.children (part r.header.structure_offset r.header.structure_size bytes) block r.structure in
    record { properties = held.0; nodes = held.1 }
