-- Tokens are those of one tree at most.
use Rattle.std.proofs.Common.{◌≡◌, List, [], ◌∷◌, ◌++◌, map, refl, sym, ap, ◌∙◌, append_assoc, ℕ}
use Rattle.std.proofs.lemmas.List.{append_cancel_right}
use Rattle.dt_model.specs.Tree.{Property, Forest, no_nodes, branch, Node}
use Rattle.dt_model.specs.Format.{Token, end_node, prop, end_tree, tokens_of_forest, tokens_of, without_nops, SpellsTree}
use Rattle.dt_model.specs.Parsing.{Left, begun, left_by, first_node, tree_of_tokens}
use Rattle.dt_model.proofs.Lexed.{spelled_once}

pub left_by_properties : (properties : List Property) (rest : List Token) → (left_by rest).properties ≡ [] → left_by (map prop properties ++ rest) ≡ record { properties = properties; levels = (left_by rest).levels }
left_by_properties [] rest none = ap (λ (p : List Property). record { properties = p; levels = (left_by rest).levels }) none
left_by_properties (p ∷ properties) rest none = ap (λ (l : Left). record { properties = p ∷ l.properties; levels = l.levels }) (left_by_properties properties rest none)

pub left_by_forest : (forest : Forest) (rest : List Token) → left_by (tokens_of_forest forest ++ end_node ∷ rest) ≡ record { properties = []; levels = forest ∷ (left_by rest).levels }
left_by_forest no_nodes rest = refl
left_by_forest (branch name properties children siblings) rest =
    let after = left_by_forest siblings rest in
    let inside : left_by (tokens_of_forest children ++ end_node ∷ (tokens_of_forest siblings ++ end_node ∷ rest)) ≡ record { properties = []; levels = children ∷ siblings ∷ (left_by rest).levels } =
    left_by_forest children (tokens_of_forest siblings ++ end_node ∷ rest) ∙ ap (λ (l : Left). record { properties = []; levels = children ∷ l.levels }) after in
    let whole : left_by (map prop properties ++ (tokens_of_forest children ++ end_node ∷ (tokens_of_forest siblings ++ end_node ∷ rest))) ≡ record { properties = properties; levels = children ∷ siblings ∷ (left_by rest).levels } =
    left_by_properties properties (tokens_of_forest children ++ end_node ∷ (tokens_of_forest siblings ++ end_node ∷ rest)) (ap (λ (l : Left). l.properties) inside)
    ∙ ap (λ (l : Left). record { properties = properties; levels = l.levels }) inside in
    let regroup : (map prop properties ++ (tokens_of_forest children ++ end_node ∷ tokens_of_forest siblings)) ++ end_node ∷ rest ≡ map prop properties ++ (tokens_of_forest children ++ end_node ∷ (tokens_of_forest siblings ++ end_node ∷ rest)) = simp append_assoc in
    ap (λ (l : Left). record { properties = []; levels = begun name l.properties l.levels }) (ap left_by regroup ∙ whole)

-- the tokens of a tree, whatever follows them, give it back
pub tree_again : (properties : List Property) (children : Forest) (rest : List Token) → tree_of_tokens (tokens_of properties children ++ rest) ≡ record { properties = properties; children = children }
tree_again properties children rest =
    let inside = left_by_forest children rest in
    let whole : left_by (map prop properties ++ (tokens_of_forest children ++ end_node ∷ rest)) ≡ record { properties = properties; levels = children ∷ (left_by rest).levels } =
    left_by_properties properties (tokens_of_forest children ++ end_node ∷ rest) (ap (λ (l : Left). l.properties) inside)
    ∙ ap (λ (l : Left). record { properties = properties; levels = l.levels }) inside in
    let regroup : (map prop properties ++ (tokens_of_forest children ++ end_node ∷ [])) ++ rest ≡ map prop properties ++ (tokens_of_forest children ++ end_node ∷ rest) = simp append_assoc in
    ap (λ (l : Left). first_node (begun [] l.properties l.levels)) (ap left_by regroup ∙ whole) ∙ at_root properties children (left_by rest).levels
  where
    at_root : (properties : List Property) (children : Forest) (levels : List Forest) → first_node (begun [] properties (children ∷ levels)) ≡ record { properties = properties; children = children }
    at_root properties children [] = refl
    at_root properties children (siblings ∷ levels) = refl

pub same_tree : (ps qs : List Property) (cs ds : Forest) → tokens_of ps cs ≡ tokens_of qs ds → (ps ≡ qs) × (cs ≡ ds)
same_tree ps qs cs ds e =
    let node : ◌≡◌ {A = Node} (record { properties = ps; children = cs }) (record { properties = qs; children = ds }) =
    sym (tree_again ps cs []) ∙ ap (λ (s : List Token). tree_of_tokens (s ++ [])) e ∙ tree_again qs ds [] in
    (ap (λ (n : Node). n.properties) node, ap (λ (n : Node). n.children) node)

-- a block spells one tree
pub one_tree : (strings block : List ℕ) (ps qs : List Property) (cs ds : Forest) → SpellsTree strings ps cs block → SpellsTree strings qs ds block → (ps ≡ qs) × (cs ≡ ds)
one_tree strings block ps qs cs ds a b =
    let same = append_cancel_right a.tokens b.tokens (end_tree ∷ []) (spelled_once strings (a.tokens ++ end_tree ∷ []) (b.tokens ++ end_tree ∷ []) block a.spelled b.spelled) in
    same_tree ps qs cs ds (sym a.whole ∙ ap without_nops same ∙ b.whole)
