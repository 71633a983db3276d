-- What is written spells the tree.
use Rattle.std.proofs.Common.{◌≡◌, ℕ, ◌+◌, ◌-◌, ◌%◌, ◌^◌, ◌<◌, true, List, [], ◌∷◌, ◌++◌, length, map, refl, sym, ap, subst, ◌∙◌, append_assoc, arith}
use Rattle.std.specs.List.{flat_map, AllByRecursion}
use Rattle.std.proofs.lemmas.List.{length-append, length-replicate}
use Rattle.dt_model.specs.Tree.{Property, Forest, no_nodes, branch, Reading}
use Rattle.dt_model.specs.Format.{Token, begin_node, end_node, prop, nop, end_tree, word, IsText, SpellsBegin, SpellsProperty, SpellsAll, tokens_of_forest, tokens_of, without_nops, SpellsTree}
use Rattle.dt_write.specs.Written.{has, strings_block, offset_of, zeros_after, property_block, begin_block, nodes_block, root_node, structure_block, names_of}
use Rattle.dt_write.specs.Parts.{HasAll, HasBelow}
use Rattle.dt_write.proofs.Places.{place_within}
use Rattle.dt_write.proofs.Kept.{held}
use Rattle.dt_write.proofs.TreeNames.{AreTexts, in_from_has, has_below, texts_used_below}

-- ---- lists of tokens

pub spells_append : (strings : List ℕ) (xs ys : List Token) (a b : List ℕ) → SpellsAll strings xs a → SpellsAll strings ys b → SpellsAll strings (xs ++ ys) (a ++ b)
spells_append strings [] ys a b s t = subst (λ (x : List ℕ). SpellsAll strings ys (x ++ b)) (sym s) t
spells_append strings (x ∷ xs) ys a b s t =
    (s.0, s.1 ++ b, ap (λ (l : List ℕ). l ++ b) s.2 ∙ append_assoc s.0 s.1 b, s.3, spells_append strings xs ys s.1 b s.4 t)

without_nops-append : (xs ys : List Token) → without_nops (xs ++ ys) ≡ without_nops xs ++ without_nops ys
without_nops-append [] ys = refl
without_nops-append (nop ∷ xs) ys = without_nops-append xs ys
without_nops-append (begin_node name ∷ xs) ys = ap (λ (s : List Token). begin_node name ∷ s) (without_nops-append xs ys)
without_nops-append (end_node ∷ xs) ys = ap (λ (s : List Token). end_node ∷ s) (without_nops-append xs ys)
without_nops-append (prop p ∷ xs) ys = ap (λ (s : List Token). prop p ∷ s) (without_nops-append xs ys)
without_nops-append (end_tree ∷ xs) ys = ap (λ (s : List Token). end_tree ∷ s) (without_nops-append xs ys)

no_nops_in_properties : (ps : List Property) → without_nops (map prop ps) ≡ map prop ps
no_nops_in_properties [] = refl
no_nops_in_properties (p ∷ ps) = ap (λ (s : List Token). prop p ∷ s) (no_nops_in_properties ps)

-- the tokens of a tree have no NOP
pub no_nops : (f : Forest) → without_nops (tokens_of_forest f) ≡ tokens_of_forest f
no_nops no_nodes = refl
no_nops (branch name ps cs ss) =
    let own = no_nops_in_properties ps in
    let below = no_nops cs in
    let beside = no_nops ss in
    let after : without_nops (tokens_of_forest cs ++ end_node ∷ tokens_of_forest ss) ≡ tokens_of_forest cs ++ end_node ∷ tokens_of_forest ss =
    without_nops-append (tokens_of_forest cs) (end_node ∷ tokens_of_forest ss) ∙ (λ i. below i ++ end_node ∷ beside i) in
    ap (λ (s : List Token). begin_node name ∷ s) (without_nops-append (map prop ps) (tokens_of_forest cs ++ end_node ∷ tokens_of_forest ss) ∙ (λ i. own i ++ after i))

-- ---- each part is a spelling

length-zeros : (size : ℕ) → length (zeros_after size) ≡ (4 - size % 4) % 4
length-zeros size = length-replicate ((4 - size % 4) % 4) 0

property_spelled : (names : List (List ℕ)) (p : Property) → AllByRecursion IsText names → has names p.name ≡ true → IsText p.name → length (strings_block names) < 2 ^ 32 → length p.value < 2 ^ 32 → SpellsProperty (strings_block names) p (property_block names p)
property_spelled names p all h text strings value = record {
  offset = offset_of names p.name;
  offset_fits = omega (arith, place_within (strings_block names) p.name);
  length_fits = value;
  named = held names p.name text all (in_from_has names p.name h);
  bytes = record {
    padding = zeros_after (length p.value);
    whole = refl;
    short = omega (arith, length-zeros (length p.value));
    aligned = omega (arith, length-zeros (length p.value), length-append p.value (zeros_after (length p.value)));
  };
}

begin_spelled : (name : List ℕ) → IsText name → SpellsBegin name (begin_block name)
begin_spelled name text =
    let zeros = zeros_after (length name + 1) in
    record {
      text = text;
      bytes = record {
        padding = zeros;
        whole = ap (λ (x : List ℕ). word 1 ++ x) (sym (append_assoc name (0 ∷ []) zeros));
        short = omega (arith, length-zeros (length name + 1));
        aligned = omega (arith, length-zeros (length name + 1), length-append name (0 ∷ zeros));
      };
    }

-- a value is no longer than its property, which is no longer than what it stands in
value_short : (names : List (List ℕ)) (p : Property) (more : List ℕ) → length (property_block names p ++ more) < 2 ^ 32 → (length p.value < 2 ^ 32) × (length more < 2 ^ 32)
value_short names p more lt =
    let own = length-append (property_block names p) more in
    let value = length-append p.value (zeros_after (length p.value)) in
    (omega arith, omega arith)

properties_spelled : (names : List (List ℕ)) (ps : List Property) → AllByRecursion IsText names → HasAll names ps → AllByRecursion (λ p. IsText p.name) ps → length (strings_block names) < 2 ^ 32 → length (flat_map (property_block names) ps) < 2 ^ 32
    → SpellsAll (strings_block names) (map prop ps) (flat_map (property_block names) ps)
properties_spelled names [] all h texts strings short = refl
properties_spelled names (p ∷ ps) all h texts strings short =
    let both = value_short names p (flat_map (property_block names) ps) short in
    (property_block names p, flat_map (property_block names) ps, refl, property_spelled names p all h.0 texts.0 strings both.0, properties_spelled names ps all h.1 texts.1 strings both.1)

pub nodes_spelled : (names : List (List ℕ)) (f : Forest) → AllByRecursion IsText names → HasBelow names f → AreTexts f → length (strings_block names) < 2 ^ 32 → length (nodes_block names f) < 2 ^ 32
    → SpellsAll (strings_block names) (tokens_of_forest f) (nodes_block names f)
nodes_spelled names no_nodes all h texts strings short = refl
nodes_spelled names (branch name ps cs ss) all h texts strings short =
    let own = flat_map (property_block names) ps in
    let below = nodes_block names cs in
    let beside = nodes_block names ss in
    let l = sizes (begin_block name) own below (word 2) beside short in
    let after : SpellsAll (strings_block names) (end_node ∷ tokens_of_forest ss) (word 2 ++ beside) = (word 2, beside, refl, refl, nodes_spelled names ss all h.2 texts.3 strings l.2) in
    let inside = spells_append (strings_block names) (tokens_of_forest cs) (end_node ∷ tokens_of_forest ss) below (word 2 ++ beside) (nodes_spelled names cs all h.1 texts.2 strings l.1) after in (
      begin_block name,
      own ++ (below ++ (word 2 ++ beside)),
      rows (begin_block name) own below (word 2) beside,
      begin_spelled name texts.0,
      spells_append (strings_block names) (map prop ps) (tokens_of_forest cs ++ end_node ∷ tokens_of_forest ss) own (below ++ (word 2 ++ beside)) (properties_spelled names ps all h.0 texts.1 strings l.0) inside,
    )
  where
    rows : (v w x y z : List ℕ) → v ++ w ++ x ++ y ++ z ≡ v ++ (w ++ (x ++ (y ++ z)))
    rows v w x y z = simp append_assoc

    sizes : (v w x y z : List ℕ) → length (v ++ w ++ x ++ y ++ z) < 2 ^ 32 → (length w < 2 ^ 32) × (length x < 2 ^ 32) × (length z < 2 ^ 32)
    sizes v w x y z lt =
        let n : length (v ++ w ++ x ++ y ++ z) ≡ length v + length w + length x + length y + length z = omega (arith, length-append v w, length-append (v ++ w) x, length-append (v ++ w ++ x) y, length-append (v ++ w ++ x ++ y) z) in
        (omega arith, omega arith, omega arith)

-- the structure block spells the tree
pub structure_spelled : (t : Reading) → AreTexts (root_node t) → length (strings_block (names_of t)) < 2 ^ 32 → length (structure_block t) < 2 ^ 32 → SpellsTree (strings_block (names_of t)) t.properties t.children (structure_block t)
structure_spelled t texts strings short =
    let names = names_of t in
    let nodes = nodes_block names (root_node t) in
    let inside = nodes_spelled names (root_node t) (texts_used_below [] (root_node t) tt texts) (has_below [] (root_node t)) texts strings (omega (arith, length-append nodes (word 9))) in
    record {
      tokens = tokens_of t.properties t.children;
      spelled = spells_append (strings_block names) (tokens_of t.properties t.children) (end_tree ∷ []) nodes (word 9) inside (word 9, [], refl, refl, refl);
      whole = no_nops (root_node t);
    }
