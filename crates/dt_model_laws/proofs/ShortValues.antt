-- The length of each value of a tree that a blob is read as is a 32-bit number: the blob tells it in four bytes.
use Rattle.std.proofs.Common.{◌≡◌, ℕ, ◌<◌, ◌^◌, Bool, true, false, List, [], ◌∷◌, ◌++◌, length, map, refl, subst, Option, Some, None}
use Rattle.std.specs.List.{AllByRecursion}
use Rattle.std.specs.Str.{bytes_eq}
use Rattle.dt_model.specs.Names.{Name}
use Rattle.dt_model.specs.Path.{Path}
use Rattle.dt_model.specs.Format.{Token, begin_node, end_node, prop, nop, end_tree, Spells, SpellsAll, SpellsTree, tokens_of_forest, tokens_of, without_nops}
use Rattle.dt_model.specs.Tree.{Property, Forest, no_nodes, branch, Reading, Node, sibling, node_below, root_of, node_at, value_of}
use Rattle.dt_model_laws.specs.ShortValues.{ReadValuesAreShort}
use Rattle.dt_model.proofs.Cases.{then_some}

-- a property's value is short
abbrev IsShort : Token → Type 0
IsShort (begin_node name) = Unit {0}
IsShort end_node = Unit {0}
IsShort (prop p) = length p.value < 2 ^ 32
IsShort nop = Unit {0}
IsShort end_tree = Unit {0}

each_left : (P : Token → Type 0) (xs ys : List Token) → AllByRecursion P (xs ++ ys) → AllByRecursion P xs
each_left P [] ys h = tt
each_left P (x ∷ xs) ys h = (h.0, each_left P xs ys h.1)

each_right : (P : Token → Type 0) (xs ys : List Token) → AllByRecursion P (xs ++ ys) → AllByRecursion P ys
each_right P [] ys h = h
each_right P (x ∷ xs) ys h = each_right P xs ys h.1

-- ---- of tokens

token_short : (strings : List ℕ) (token : Token) (own : List ℕ) → Spells strings token own → IsShort token
token_short strings (begin_node name) own h = tt
token_short strings end_node own h = tt
token_short strings (prop p) own h = h.length_fits
token_short strings nop own h = tt
token_short strings end_tree own h = tt

tokens_short : (strings : List ℕ) (tokens : List Token) (bytes : List ℕ) → SpellsAll strings tokens bytes → AllByRecursion IsShort tokens
tokens_short strings [] bytes h = tt
tokens_short strings (token ∷ tokens) bytes h = (token_short strings token h.0 h.3, tokens_short strings tokens h.1 h.4)

short_without_nops : (tokens : List Token) → AllByRecursion IsShort tokens → AllByRecursion IsShort (without_nops tokens)
short_without_nops [] h = tt
short_without_nops (nop ∷ tokens) h = short_without_nops tokens h.1
short_without_nops (begin_node name ∷ tokens) h = (tt, short_without_nops tokens h.1)
short_without_nops (end_node ∷ tokens) h = (tt, short_without_nops tokens h.1)
short_without_nops (prop p ∷ tokens) h = (h.0, short_without_nops tokens h.1)
short_without_nops (end_tree ∷ tokens) h = (tt, short_without_nops tokens h.1)

-- ---- of nodes

-- the values of a node, and of those below it
abbrev HasShort : Node → Type 0
HasShort n = AllByRecursion IsShort (map prop n.properties) × AllByRecursion IsShort (tokens_of_forest n.children)

sibling_short : (f : Forest) (x : Name) (n : Node) → AllByRecursion IsShort (tokens_of_forest f) → sibling f x ≡ Some n → HasShort n
sibling_short no_nodes x n h e = absurd (let z : None ≡ Some n = e in cc)
sibling_short (branch name properties children siblings) x n h e = step (sibling_short siblings x n later) (bytes_eq x name) refl
  where
    inner : AllByRecursion IsShort (tokens_of_forest children ++ end_node ∷ tokens_of_forest siblings)
    inner = each_right IsShort (map prop properties) (tokens_of_forest children ++ end_node ∷ tokens_of_forest siblings) h.1

    later : AllByRecursion IsShort (tokens_of_forest siblings)
    later = (each_right IsShort (tokens_of_forest children) (end_node ∷ tokens_of_forest siblings) inner).1

    here : HasShort (record { properties = properties; children = children })
    here = (each_left IsShort (map prop properties) (tokens_of_forest children ++ end_node ∷ tokens_of_forest siblings) h.1, each_left IsShort (tokens_of_forest children) (end_node ∷ tokens_of_forest siblings) inner)

    step : (sibling siblings x ≡ Some n → HasShort n) → (b : Bool) → bytes_eq x name ≡ b → HasShort n
    step more true k =
        let z : ◌≡◌ {A = Option Node} (Some (record { properties = properties; children = children })) (Some n) = rw k at e in
        let same : ◌≡◌ {A = Node} (record { properties = properties; children = children }) n = cc in
        subst HasShort same here
    step more false k = more (rw k at e)

below_short : (n : Node) (p : Path) (m : Node) → HasShort n → node_below n p ≡ Some m → HasShort m
below_short n [] m h e = let same : n ≡ m = cc in subst HasShort same h
below_short n (x ∷ p) m h e =
    let c = then_some (λ c. node_below c p) (sibling n.children x) m e in
    below_short c.0 p m (sibling_short n.children x c.0 h.1 c.1) c.2

value_short : (ps : List Property) (x : Name) (v : List ℕ) → AllByRecursion IsShort (map prop ps) → value_of ps x ≡ Some v → length v < 2 ^ 32
value_short [] x v h e = absurd (let z : None ≡ Some v = e in cc)
value_short (p ∷ ps) x v h e = step (value_short ps x v h.1) (bytes_eq x p.name) refl
  where
    step : (value_of ps x ≡ Some v → length v < 2 ^ 32) → (b : Bool) → bytes_eq x p.name ≡ b → length v < 2 ^ 32
    step more true k = let z : Some p.value ≡ Some v = rw k at e in let same : p.value ≡ v = cc in subst (λ (w : List ℕ). length w < 2 ^ 32) same h.0
    step more false k = more (rw k at e)

-- ---- of a tree

root_short : (strings block : List ℕ) (t : Reading) → SpellsTree strings t.properties t.children block → HasShort (root_of t)
root_short strings block t s =
    let all = tokens_short strings (s.tokens ++ end_tree ∷ []) block s.spelled in
    let h : AllByRecursion IsShort (tokens_of t.properties t.children) =
    subst (AllByRecursion IsShort) s.whole (short_without_nops s.tokens (each_left IsShort s.tokens (end_tree ∷ []) all)) in
    let inner = each_right IsShort (map prop t.properties) (tokens_of_forest t.children ++ end_node ∷ []) h.1 in
    (each_left IsShort (map prop t.properties) (tokens_of_forest t.children ++ end_node ∷ []) h.1, each_left IsShort (tokens_of_forest t.children) (end_node ∷ []) inner)

pub read_values_are_short : ReadValuesAreShort
read_values_are_short bytes t r p name v e =
    let n = then_some (λ (n : Node). value_of n.properties name) (node_at t p) v e in
    value_short n.0.properties name v (below_short (root_of t) p n.0 (root_short _ _ t r.structure) n.1).0 n.2
