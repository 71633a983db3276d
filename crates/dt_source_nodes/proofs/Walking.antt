-- The nodes below a node in preorder: the rows, the list and the paths of the tree that they make.
use Rattle.std.proofs.Common.{◌≡◌, ℕ, zero, suc, ◌+◌, List, [], ◌∷◌, ◌++◌, map, length, refl, sym, ap, subst, ◌∙◌, inl, inr, arith}
use Rattle.std.proofs.lemmas.List.{map-append, length-append, length-map}
use Rattle.dt_model.specs.Names.{Name}
use Rattle.dt_model.specs.Lists.{IsIn}
use Rattle.dt_model.specs.Named.{NodeReference, Content, NamedForest, Listed, node_count, listed}
use Rattle.dt_model.proofs.Tests.{in_left, in_right}
use Rattle.dt_source_nodes.specs.declared.listing.Row.{Row}
use Rattle.dt_source_nodes.specs.Listing.{rows_each, rows_below, trees_of, forest_below, listed_row}

-- ---- nodes in preorder, by their places

abbrev pub walk_each : (ℕ → List ℕ) → List ℕ → List ℕ
walk_each below [] = []
walk_each below (k ∷ ks) = k ∷ (below k ++ walk_each below ks)

-- the nodes below node k, as deep as the depth
unfoldable pub walk : (children : ℕ → List ℕ) → (depth k : ℕ) → List ℕ
walk children zero k = []
walk children (suc depth) k = walk_each (walk children depth) (children k)

rows_each-nodes : (below : ℕ → ℕ → List Row) (walked : ℕ → List ℕ) → ((k n : ℕ) → map (λ (r : Row). r.node) (below k n) ≡ walked k) →
    (place parent : ℕ) (ks : List ℕ) → map (λ (r : Row). r.node) (rows_each below place parent ks) ≡ walk_each walked ks
rows_each-nodes below walked same place parent [] = refl
rows_each-nodes below walked same place parent (k ∷ ks) =
    let node : Row → ℕ = λ r. r.node in
    let rest = rows_each below (suc place + length (below k place)) parent ks in
    let behind = rows_each-nodes below walked same (suc place + length (below k place)) parent ks in
    ap (λ (ns : List ℕ). k ∷ ns)
    (map-append node (below k place) rest ∙ (ap (λ (ns : List ℕ). ns ++ map node rest) (same k place) ∙ ap (λ (ns : List ℕ). walked k ++ ns) behind))

-- the rows are of these nodes
pub rows-nodes : (children : ℕ → List ℕ) (depth k place : ℕ) → map (λ (r : Row). r.node) (rows_below children depth k place) ≡ walk children depth k
unfolding rows_below walk
rows-nodes children zero k place = refl
rows-nodes children (suc depth) k place = rows_each-nodes (rows_below children depth) (walk children depth) (rows-nodes children depth) (suc place) place (children k)

pub rows-count : (children : ℕ → List ℕ) (depth k place : ℕ) → length (rows_below children depth k place) ≡ length (walk children depth k)
rows-count children depth k place =
    sym (length-map (rows_below children depth k place) (λ (r : Row). r.node)) ∙ ap (λ (ns : List ℕ). length ns) (rows-nodes children depth k place)

pub in_each : (below : ℕ → List ℕ) (ks : List ℕ) (k : ℕ) → IsIn k ks → IsIn k (walk_each below ks) × ((j : ℕ) → IsIn j (below k) → IsIn j (walk_each below ks))
in_each below [] k h = absurd h
in_each below (l ∷ ks) k (inl e) = (inl e, λ j i. inr (in_left j (below l) (walk_each below ks) (subst (λ (m : ℕ). IsIn j (below m)) e i)))
in_each below (l ∷ ks) k (inr h) =
    let rest = in_each below ks k h in
    (inr (in_right k (below l) (walk_each below ks) rest.0), λ j i. inr (in_right j (below l) (walk_each below ks) (rest.1 j i)))

-- ---- the forest

module _ (name : ℕ → Name) (content : ℕ → Content NodeReference) where
  trees-count : (below : ℕ → NamedForest NodeReference) (walked : ℕ → List ℕ) → ((k : ℕ) → node_count (below k) ≡ length (walked k)) →
      (ks : List ℕ) → node_count (trees_of name content below ks) ≡ length (walk_each walked ks)
  trees-count below walked same [] = refl
  trees-count below walked same (k ∷ ks) =
      let here = same k in
      let behind = trees-count below walked same ks in
      let whole = length-append (walked k) (walk_each walked ks) in
      omega arith

  -- as many nodes as are walked
  pub forest-count : (children : ℕ → List ℕ) (depth k : ℕ) → node_count (forest_below name content children depth k) ≡ length (walk children depth k)
  unfolding forest_below walk
  forest-count children zero k = refl
  forest-count children (suc depth) k = trees-count (forest_below name content children depth) (walk children depth) (forest-count children depth) (children k)

  trees-listed : (below : ℕ → NamedForest NodeReference) (rows : ℕ → ℕ → List Row) → ((k n : ℕ) → node_count (below k) ≡ length (rows k n)) →
      ((k n : ℕ) → listed (suc n) n (below k) ≡ map (listed_row name content) (rows k n)) →
      (ks : List ℕ) (place parent : ℕ) → listed place parent (trees_of name content below ks) ≡ map (listed_row name content) (rows_each rows place parent ks)
  trees-listed below rows count same [] place parent = refl
  trees-listed below rows count same (k ∷ ks) place parent =
      let row : Row → Listed NodeReference = listed_row name content in
      let rest : ℕ → List Row = λ n. rows_each rows (suc place + n) parent ks in
      let behind = trees-listed below rows count same ks (suc place + node_count (below k)) parent in
      let first : Listed NodeReference = record { parent = parent; name = name k; content = content k } in
      let others : ℕ → List (Listed NodeReference) = λ n. listed (suc place + n) parent (trees_of name content below ks) in
      let inner : listed (suc place) place (below k) ++ others (node_count (below k)) ≡ map row (rows k place) ++ map row (rest (node_count (below k))) =
      ap (λ (xs : List (Listed NodeReference)). xs ++ others (node_count (below k))) (same k place) ∙ ap (λ (xs : List (Listed NodeReference)). map row (rows k place) ++ xs) behind in
      let counted : map row (rows k place) ++ map row (rest (node_count (below k))) ≡ map row (rows k place ++ rest (length (rows k place))) =
      ap (λ (n : ℕ). map row (rows k place) ++ map row (rest n)) (count k place) ∙ sym (map-append row (rows k place) (rest (length (rows k place)))) in
      ap (λ (xs : List (Listed NodeReference)). first ∷ xs) (inner ∙ counted)

  -- its list is that of the rows
  pub forest-listed : (children : ℕ → List ℕ) (depth k place : ℕ) →
      listed (suc place) place (forest_below name content children depth k) ≡ map (listed_row name content) (rows_below children depth k place)
  unfolding forest_below rows_below
  forest-listed children zero k place = refl
  forest-listed children (suc depth) k place =
      trees-listed (forest_below name content children depth) (rows_below children depth)
      (λ j n. forest-count children depth j ∙ sym (rows-count children depth j n)) (forest-listed children depth) (children k) (suc place) place
