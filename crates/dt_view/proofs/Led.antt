-- The properties that a walk meets behind a node's beginning are the node's.
use Rattle.std.proofs.Common.{◌≡◌, ℕ, ◌≤◌, List, [], ◌∷◌, ◌++◌, length, map, Some, refl, sym, ap, subst, ◌∙◌, append_assoc, arith}
use Rattle.std.proofs.lemmas.List.{append-nil, map-append}
use Rattle.dt_model.specs.Names.{Name}
use Rattle.dt_model.specs.Path.{Path}
use Rattle.dt_model.specs.Tree.{Property, Placed, preorder, nodes_of}
use Rattle.dt_model.specs.Valid.{IsValid}
use Rattle.dt_model.proofs.Listed.{listed_at}
use Rattle.dt_trees.specs.Placed.{Nodes, no_nodes, node, forest_of, PlacedTree, reading_of, path_at, properties_at, properties_found, HasPlacesApart}
use Rattle.dt_read.specs.Walked.{Step, opens, holds, closes, steps_of_nodes, steps_of, leading, past_leading}
use Rattle.dt_trees.proofs.NodePlaces.{path_is}
use Rattle.dt_read.proofs.Opened.{parent_told, opened, AreFew, AreOpened}
use Rattle.dt_read.proofs.Openings.{OpensNext, all_opened, next_opened}
use Rattle.dt_read.proofs.Walking.{IsWalked, another_walked}

-- of each node that the steps open, the properties that come next
abbrev pub led : List Step → List (List Property)
led [] = []
led (opens place name ∷ steps) = leading steps ∷ led steps
led (holds p ∷ steps) = led steps
led (closes ∷ steps) = led steps

-- the properties of nodes
abbrev pub owned : List Placed → List (List Property)
owned nodes = map (λ n. n.properties) nodes

-- ---- the whole walk

leading_is : (ps : List Property) (steps : List Step) → leading steps ≡ [] → leading (map holds ps ++ steps) ≡ ps
leading_is [] steps e = e
leading_is (p ∷ ps) steps e = ap (λ (qs : List Property). p ∷ qs) (leading_is ps steps e)

led_behind : (ps : List Property) (steps : List Step) → led (map holds ps ++ steps) ≡ led steps
led_behind [] steps = refl
led_behind (p ∷ ps) steps = led_behind ps steps

none_leads : (ns : Nodes) (steps : List Step) → leading (steps_of_nodes ns ++ closes ∷ steps) ≡ []
none_leads no_nodes steps = refl
none_leads (node place name ps children siblings) steps = refl

led_in : (ns : Nodes) (q : Path) (rest : List Step) → led (steps_of_nodes ns ++ rest) ≡ owned (preorder q (forest_of ns)) ++ led rest
led_in no_nodes q rest = refl
led_in (node place name ps children siblings) q rest =
    let more = steps_of_nodes children ++ closes ∷ (steps_of_nodes siblings ++ rest) in
    let regroup : (map holds ps ++ (steps_of_nodes children ++ closes ∷ steps_of_nodes siblings)) ++ rest ≡ map holds ps ++ more = simp append_assoc in
    let own : leading ((map holds ps ++ (steps_of_nodes children ++ closes ∷ steps_of_nodes siblings)) ++ rest) ≡ ps = ap leading regroup ∙ leading_is ps more (none_leads children (steps_of_nodes siblings ++ rest)) in
    let inside = led_in children (q ++ name ∷ []) (closes ∷ (steps_of_nodes siblings ++ rest)) in
    let after = led_in siblings q rest in
    let below : led ((map holds ps ++ (steps_of_nodes children ++ closes ∷ steps_of_nodes siblings)) ++ rest)
    ≡ owned (preorder (q ++ name ∷ []) (forest_of children) ++ preorder q (forest_of siblings)) ++ led rest =
    ap led regroup ∙ led_behind ps more ∙ inside
    ∙ ap (λ (ls : List (List Property)). owned (preorder (q ++ name ∷ []) (forest_of children)) ++ ls) after
    ∙ sym (append_assoc (owned (preorder (q ++ name ∷ []) (forest_of children))) (owned (preorder q (forest_of siblings))) (led rest))
    ∙ ap (λ (ls : List (List Property)). ls ++ led rest) (sym (map-append (λ (n : Placed). n.properties) (preorder (q ++ name ∷ []) (forest_of children)) (preorder q (forest_of siblings)))) in
    λ i. own i ∷ below i

pub all_led : (t : PlacedTree) → owned (nodes_of (reading_of t)) ≡ led (steps_of t)
all_led t =
    let more = steps_of_nodes t.children ++ closes ∷ [] in
    let own : leading (map holds t.properties ++ more) ≡ t.properties = leading_is t.properties more (none_leads t.children []) in
    let below : led (map holds t.properties ++ more) ≡ owned (preorder [] (forest_of t.children)) = led_behind t.properties more ∙ led_in t.children [] (closes ∷ []) ∙ append-nil (owned (preorder [] (forest_of t.children))) in
    sym (λ i. own i ∷ below i)

-- ---- step by step

-- some nodes were opened; the steps open the others, and the properties of these come next behind their beginnings
pub record AreLed (t : PlacedTree) (steps : List Step) : Type 0 where
  pub before : List Placed
  pub nodes : List Placed
  pub are : AreOpened t before nodes steps
  pub told : owned nodes ≡ led steps

pub none_led : (t : PlacedTree) → IsValid (reading_of t) → AreLed t (steps_of t)
none_led t valid = record { before = []; nodes = nodes_of (reading_of t); are = all_opened t valid; told = all_led t }

module _ (t : PlacedTree) (k : ℕ) (name : Name) (steps rest : List Step) (l : AreLed t steps) (e : steps ≡ opens k name ∷ rest) where
  next : OpensNext t l.before l.nodes k rest
  next = next_opened t l.before l.nodes k name rest (subst (AreOpened t l.before l.nodes) e l.are)

  both : next.first.properties ∷ owned next.later ≡ leading rest ∷ led rest
  both = ap owned (sym next.are) ∙ l.told ∙ ap led e

  -- the properties of the node that begins come next
  pub own_led : IsValid (reading_of t) → HasPlacesApart t → leading rest ≡ properties_at t (path_at t k)
  own_led valid places =
      let at = listed_at (reading_of t) next.first valid next.listed in
      let is = both in
      let own : next.first.properties ≡ leading rest = cc in
      sym own ∙ sym (ap properties_found at.is ∙ at.same) ∙ ap (properties_at t) (sym (path_is t places next.first.path k next.at))

  pub one_led : AreLed t rest
  one_led = record { before = l.before ++ next.first ∷ []; nodes = next.later; are = next.left; told = let is = both in cc }

-- a property, or a node's end
pub others_led : (t : PlacedTree) (steps rest : List Step) → AreLed t steps → opened steps ≡ opened rest → led steps ≡ led rest → AreLed t rest
others_led t steps rest l same told = record {
  before = l.before;
  nodes = l.nodes;
  are = record { whole = l.are.whole; places = l.are.places ∙ ap (map (λ k. Some k)) same };
  told = l.told ∙ told;
}

-- ---- behind its properties

pub opened_past : (steps : List Step) → opened steps ≡ opened (past_leading steps)
opened_past [] = refl
opened_past (opens place name ∷ steps) = refl
opened_past (holds p ∷ steps) = opened_past steps
opened_past (closes ∷ steps) = refl

pub led_past : (steps : List Step) → led steps ≡ led (past_leading steps)
led_past [] = refl
led_past (opens place name ∷ steps) = refl
led_past (holds p ∷ steps) = led_past steps
led_past (closes ∷ steps) = refl

pub told_past : (k : ℕ) (open_nodes : List ℕ) (steps : List Step) → parent_told k open_nodes steps ≡ parent_told k open_nodes (past_leading steps)
told_past k open_nodes [] = refl
told_past k open_nodes (opens place name ∷ steps) = refl
told_past k open_nodes (holds p ∷ steps) = told_past k open_nodes steps
told_past k open_nodes (closes ∷ steps) = refl

pub few_past : (count : ℕ) (steps : List Step) → AreFew count steps → AreFew count (past_leading steps)
few_past count [] few = few
few_past count (opens place name ∷ steps) few = few
few_past count (holds p ∷ steps) few = few_past count steps few
few_past count (closes ∷ steps) few = few

abbrev pub past_walked : (t : PlacedTree) (open_nodes : List ℕ) (steps : List Step) → IsWalked t open_nodes steps → IsWalked t open_nodes (past_leading steps)
past_walked t open_nodes steps walked =
    another_walked t open_nodes open_nodes steps (past_leading steps) walked (opened_past steps) (λ k. told_past k open_nodes steps) (few_past (length open_nodes) steps)

pub past_none : (steps : List Step) → leading steps ≡ [] → past_leading steps ≡ steps
past_none [] e = refl
past_none (opens place name ∷ steps) e = refl
past_none (holds p ∷ steps) e = absurd (let z : p ∷ leading steps ≡ [] = e in cc)
past_none (closes ∷ steps) e = refl

pub past_shorter : (steps : List Step) → length (past_leading steps) ≤ length steps
past_shorter [] = omega arith
past_shorter (opens place name ∷ steps) = omega arith
past_shorter (holds p ∷ steps) = let rest = past_shorter steps in omega (arith, rest)
past_shorter (closes ∷ steps) = omega arith
