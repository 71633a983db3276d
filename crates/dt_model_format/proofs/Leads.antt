-- The tokens of a tree within the limits lead from the front to the end of the root.
use Rattle.std.proofs.Common.{◌≡◌, ℕ, ◌+◌, ◌-◌, ◌<◌, ◌≤◌, Bool, true, false, not, ◌&&◌, ◌||◌, List, [], ◌∷◌, ◌++◌, length, map, Option, Some, None, nat_eq, if◌then◌else◌, refl, ap, ◌∙◌, append_assoc, arith}
use Rattle.std.specs.Prelude.{option_and_then}
use Rattle.std.specs.List.{AllByRecursion}
use Rattle.std.proofs.lemmas.Bool.{lt-ltb, le-leb, ne_eqb}
use Rattle.dt_model.specs.Names.{Name, IsNodeName, IsPropertyName}
use Rattle.dt_model.specs.Tree.{Property, Forest, no_nodes, branch}
use Rattle.dt_model.specs.Valid.{AreNodes, node_count, IsNoDeeper}
use Rattle.dt_model.specs.Format.{Token, begin_node, end_node, prop, nop, end_tree, SpellsTree, tokens_of_forest, tokens_of, without_nops}
use Rattle.dt_model.specs.Checks.{Position, front, lead, lead_all, IsSpelled}
use Rattle.dt_model.proofs.NameTests.{node_name_tested, property_name_tested}

and_then_same : (f g : Position → Option Position) → ((p : Position) → f p ≡ g p) → (o : Option Position) → option_and_then f o ≡ option_and_then g o
and_then_same f g h None = refl
and_then_same f g h (Some p) = h p

-- a NOP leads nowhere else
pub lead_without_nops : (tokens : List Token) (p : Position) → lead_all tokens p ≡ lead_all (without_nops tokens) p
lead_without_nops [] p = refl
lead_without_nops (nop ∷ tokens) p = lead_without_nops tokens p
lead_without_nops (begin_node name ∷ tokens) p = and_then_same (lead_all tokens) (lead_all (without_nops tokens)) (lead_without_nops tokens) (lead (begin_node name) p)
lead_without_nops (end_node ∷ tokens) p = and_then_same (lead_all tokens) (lead_all (without_nops tokens)) (lead_without_nops tokens) (lead end_node p)
lead_without_nops (prop x ∷ tokens) p = and_then_same (lead_all tokens) (lead_all (without_nops tokens)) (lead_without_nops tokens) (lead (prop x) p)
lead_without_nops (end_tree ∷ tokens) p = and_then_same (lead_all tokens) (lead_all (without_nops tokens)) (lead_without_nops tokens) (lead end_tree p)

-- a position by its parts
abbrev pub at : ℕ → Bool → ℕ → Position
at depth late nodes = record { depth = depth; late = late; nodes = nodes }

lead_step : (token : Token) (tokens : List Token) (p q : Position) → lead token p ≡ Some q → lead_all (token ∷ tokens) p ≡ lead_all tokens q
lead_step token tokens p q e = ap (option_and_then (lead_all tokens)) e

-- properties lead from a place in a node, before its children, to the same place
lead_properties : (ps : List Property) (rest : List Token) (depth nodes : ℕ) → 0 < depth → AllByRecursion (λ (x : Property). IsPropertyName x.name) ps → lead_all (map prop ps ++ rest) (at depth false nodes) ≡ lead_all rest (at depth false nodes)
lead_properties [] rest depth nodes inner h = refl
lead_properties (x ∷ ps) rest depth nodes inner h =
    let inside : nat_eq depth 0 ≡ false = ne_eqb depth 0 (λ e. absurd (omega arith)) in
    let called = property_name_tested x.name h.0 in
    let here : lead (prop x) (at depth false nodes) ≡ Some (at depth false nodes) = λ i. if inside i || false || not (called i) then None else Some (at depth false nodes) in
    lead_step (prop x) (map prop ps ++ rest) (at depth false nodes) (at depth false nodes) here ∙ lead_properties ps rest depth nodes inner h.1

lead_begin : (name : Name) (depth : ℕ) (late : Bool) (nodes : ℕ) → 0 < depth → depth ≤ 64 → nodes < 65536 → IsNodeName name → lead (begin_node name) (at depth late nodes) ≡ Some (at (depth + 1) false (nodes + 1))
lead_begin name depth late nodes inner deep few h =
    let inside : nat_eq depth 0 ≡ false = ne_eqb depth 0 (λ e. absurd (omega arith)) in
    let called = node_name_tested name h in
    let high = le-leb depth 64 deep in
    let room = lt-ltb nodes 65536 few in
    λ i. if (inside i && late) || not ((if inside i then nat_eq (length name) 0 else called i) && (high i && room i)) then None else Some (at (depth + 1) false (nodes + 1))

lead_end : (depth : ℕ) (late : Bool) (nodes : ℕ) → lead end_node (at (depth + 1) late nodes) ≡ Some (at depth true nodes)
lead_end depth late nodes =
    let inside : nat_eq (depth + 1) 0 ≡ false = ne_eqb (depth + 1) 0 (λ e. absurd (omega arith)) in
    let less : (depth + 1) - 1 ≡ depth = omega arith in
    λ i. if inside i then None else Some (at (less i) true nodes)

-- where siblings lead: to their own depth, with so many more nodes
abbrev LeadOn : List Token → List Token → ℕ → Bool → ℕ → ℕ → Type 0
LeadOn tokens rest depth late nodes count = (behind : Bool) × (lead_all (tokens ++ rest) (at depth late nodes) ≡ lead_all rest (at depth behind (nodes + count)))

pub lead_forest : (forest : Forest) (rest : List Token) (depth : ℕ) (late : Bool) (nodes : ℕ) → 0 < depth → AreNodes forest → IsNoDeeper 64 depth forest → nodes + node_count forest ≤ 65536 → LeadOn (tokens_of_forest forest) rest depth late nodes (node_count forest)
lead_forest no_nodes rest depth late nodes inner h deep few =
    let same : nodes ≡ nodes + 0 = omega arith in
    (late, ap (λ (n : ℕ). lead_all rest (at depth late n)) same)
lead_forest (branch name properties children siblings) rest depth late nodes inner h deep few =
    let behind_children = end_node ∷ (tokens_of_forest siblings ++ rest) in
    let regroup : (map prop properties ++ (tokens_of_forest children ++ end_node ∷ tokens_of_forest siblings)) ++ rest ≡ map prop properties ++ (tokens_of_forest children ++ behind_children) = simp append_assoc in
    let begun = lead_step (begin_node name) ((map prop properties ++ (tokens_of_forest children ++ end_node ∷ tokens_of_forest siblings)) ++ rest) (at depth late nodes) (at (depth + 1) false (nodes + 1)) (lead_begin name depth late nodes inner deep.0 (omega arith) h.0) in
    let same = ap (λ (x : List Token). lead_all x (at (depth + 1) false (nodes + 1))) regroup in
    let has = lead_properties properties (tokens_of_forest children ++ behind_children) (depth + 1) (nodes + 1) (omega arith) (h.1).named in
    let below = lead_forest children behind_children (depth + 1) false (nodes + 1) (omega arith) h.2 deep.1 (omega arith) in
    let ended = lead_step end_node (tokens_of_forest siblings ++ rest) (at (depth + 1) below.0 ((nodes + 1) + node_count children)) (at depth true ((nodes + 1) + node_count children)) (lead_end depth below.0 ((nodes + 1) + node_count children)) in
    let beside = lead_forest siblings rest depth true ((nodes + 1) + node_count children) inner h.4 deep.2 (omega arith) in
    let count : ((nodes + 1) + node_count children) + node_count siblings ≡ nodes + node_count (branch name properties children siblings) = omega arith in
    (beside.0, begun ∙ same ∙ has ∙ below.1 ∙ ended ∙ beside.1 ∙ ap (λ (n : ℕ). lead_all rest (at depth beside.0 n)) count)

-- a tree leads to where the root has ended
pub lead_tree : (properties : List Property) (children : Forest) → AllByRecursion (λ (x : Property). IsPropertyName x.name) properties → AreNodes children → IsNoDeeper 64 1 children → 1 + node_count children ≤ 65536
    → lead_all (tokens_of properties children) front ≡ Some (at 0 true (1 + node_count children))
lead_tree properties children named nodes deep few =
    let has = lead_properties properties (tokens_of_forest children ++ end_node ∷ []) 1 1 (omega arith) named in
    let below = lead_forest children (end_node ∷ []) 1 false 1 (omega arith) nodes deep few in
    has ∙ below.1 ∙ lead_step end_node [] (at 1 below.0 (1 + node_count children)) (at 0 true (1 + node_count children)) (lead_end 0 below.0 (1 + node_count children))

-- a block that spells a tree within the limits leads to the end of the root
pub spelled_within : (strings block : List ℕ) (properties : List Property) (children : Forest) → SpellsTree strings properties children block → AllByRecursion (λ (x : Property). IsPropertyName x.name) properties → AreNodes children → IsNoDeeper 64 1 children → 1 + node_count children ≤ 65536
    → IsSpelled strings block properties children
spelled_within strings block properties children s named nodes deep few = record {
  tokens = s.tokens;
  end = at 0 true (1 + node_count children);
  spelled = s.spelled;
  whole = s.whole;
  led = lead_without_nops s.tokens front ∙ ap (λ (x : List Token). lead_all x front) s.whole ∙ lead_tree properties children named nodes deep few;
  closed = refl;
  ended = refl;
}
