-- What is found along a list with the texts of paths is what is found in its tree.
use Rattle.std.proofs.Common.{◌≡◌, ℕ, suc, ◌+◌, ◌<◌, ◌≤◌, List, [], ◌∷◌, ◌++◌, length, map, take, get_or, refl, sym, ap, ◌∙◌, arith, append_assoc, codes}
use Rattle.std.specs.List.{flat_map}
use Rattle.std.proofs.lemmas.List.Concat.{flat_map-append}
use Rattle.std.proofs.lemmas.List.{append-nil, length-append, length_push, take_at, take-take, get_or_append_left, get_or_push}
use Rattle.dt_model.specs.Names.{Name}
use Rattle.dt_model.specs.Path.{Path, path_text}
use Rattle.dt_model.specs.Instance.{symbol, symbols_of}
use Rattle.dt_model.specs.Named.{NodeReference, Content, NamedForest, no_nodes, branch, Named, NamedPlaced, Listed, node_count, preorder, nodes_of, listed, list_of}
use Rattle.dt_model.specs.Tree.{Property}
use Rattle.dt_marks.specs.Paths.{text_behind, behind, labels_at, all_symbols}

-- ---- texts of paths

-- each name with a slash before it
abbrev slashed : Path → List ℕ
slashed [] = []
slashed (x ∷ p) = 47 ∷ (x ++ slashed p)

slashed-last : (p : Path) (x : Name) → slashed (p ++ x ∷ []) ≡ slashed p ++ 47 ∷ x
slashed-last [] x = ap (λ (t : List ℕ). 47 ∷ t) (append-nil x)
slashed-last (y ∷ p) x = ap (λ (t : List ℕ). 47 ∷ (y ++ t)) (slashed-last p x) ∙ ap (λ (t : List ℕ). 47 ∷ t) (sym (append_assoc y (slashed p) (47 ∷ x)))

text_slashed : (x : Name) (p : Path) → path_text (x ∷ p) ≡ slashed (x ∷ p)
text_slashed x [] = ap (λ (t : List ℕ). 47 ∷ t) (sym (append-nil x))
text_slashed x (y ∷ p) = ap (λ (t : List ℕ). 47 ∷ (x ++ t)) (text_slashed y p)

text_last : (p : Path) (x : Name) → path_text (p ++ x ∷ []) ≡ slashed (p ++ x ∷ [])
text_last [] x = text_slashed x []
text_last (y ∷ p) x = text_slashed y (p ++ x ∷ [])

-- ---- what is found in some nodes

module _ {X : Type 0} (found : List ℕ → Content NodeReference → List X) where
  abbrev pub found_at : NamedPlaced NodeReference → List X
  found_at n = found (path_text n.path) n.content

  -- Behind the nodes below a node of this path that were met, these were found, and the text of the path is still kept.
  record Walked (rest : List (Listed NodeReference)) (whole own : List X) (count : ℕ) (lengths : List ℕ) (path : Path) : Type 0 where
    value : List ℕ
    more : List ℕ
    counted : length (lengths ++ more) ≡ count
    kept : take (length (slashed path)) value ≡ slashed path
    is : whole ≡ own ++ behind found value (lengths ++ more) rest

  walk_forest : (f : NamedForest NodeReference) (rest : List (Listed NodeReference)) (value lengths : List ℕ) (k p : ℕ) (path : Path)
      → length lengths ≡ k → p < k → get_or lengths p 0 ≡ length (slashed path) → take (length (slashed path)) value ≡ slashed path
      → Walked rest (behind found value lengths (listed k p f ++ rest)) (flat_map found_at (preorder path f)) (k + node_count f) lengths path
  walk_forest no_nodes rest value lengths k p path counted lt at kept = record {
    value = value;
    more = [];
    counted = omega (arith, ap length (append-nil lengths));
    kept = kept;
    is = ap (λ (ls : List ℕ). behind found value ls rest) (sym (append-nil lengths));
  }
  walk_forest (branch name content children siblings) rest value lengths k p path counted lt at kept =
      let j = suc k + node_count children in
      let inner = listed (suc k) k children in
      let outer = listed j p siblings in
      let own : Path = path ++ name ∷ [] in
      let text = slashed own in
      let is_text : text_behind value lengths p name ≡ text =
      ap (λ (n : ℕ). take n value ++ 47 ∷ name) at ∙ ap (λ (t : List ℕ). t ++ 47 ∷ name) kept ∙ sym (slashed-last path name) in
      let here = text ++ 0 ∷ [] in
      let ends = lengths ++ length text ∷ [] in
      let size : length ends ≡ suc k = omega (arith, length_push lengths (length text)) in
      let u = walk_forest children (outer ++ rest) here ends (suc k) k own size (omega arith) (get_or_push lengths (length text) 0 k counted) (take_at text (0 ∷ []) (length text) refl) in
      let longer : length (slashed path) ≤ length text = omega (arith, ap length (slashed-last path name), length-append (slashed path) (47 ∷ name)) in
      let back : take (length (slashed path)) u.value ≡ slashed path =
      sym (take-take (length (slashed path)) (length text) u.value longer)
      ∙ ap (take (length (slashed path))) (u.kept ∙ slashed-last path name)
      ∙ take_at (slashed path) (47 ∷ name) (length (slashed path)) refl in
      let stands : get_or (ends ++ u.more) p 0 ≡ length (slashed path) =
      kept_at (ends ++ u.more) lengths (length text ∷ u.more) p (append_assoc lengths (length text ∷ []) u.more) (omega arith) ∙ at in
      let v = walk_forest siblings rest u.value (ends ++ u.more) j p path u.counted (omega arith) stands back in
      let regroup : (ends ++ u.more) ++ v.more ≡ lengths ++ length text ∷ (u.more ++ v.more) =
      append_assoc ends u.more v.more ∙ append_assoc lengths (length text ∷ []) (u.more ++ v.more) in
      let among_inner = flat_map found_at (preorder own children) in
      let among_outer = flat_map found_at (preorder path siblings) in
      let last = behind found v.value ((ends ++ u.more) ++ v.more) rest in
      let own_found : found text content ≡ found (path_text own) content = ap (λ (t : List ℕ). found t content) (sym (text_last path name)) in
      record {
        value = v.value;
        more = length text ∷ (u.more ++ v.more);
        counted = ap length (sym regroup) ∙ v.counted ∙ (let e : j + node_count siblings ≡ k + (1 + node_count children + node_count siblings) = omega arith in e);
        kept = v.kept;
        is = ap (λ (t : List ℕ). found t content ++ behind found (t ++ 0 ∷ []) (lengths ++ length t ∷ []) ((inner ++ outer) ++ rest)) is_text
            ∙ ap (λ (ns : List (Listed NodeReference)). found text content ++ behind found here ends ns) (append_assoc inner outer rest)
            ∙ ap (λ (xs : List X). found text content ++ xs) (u.is ∙ ap (λ (xs : List X). among_inner ++ xs) v.is)
            ∙ grouped (found text content) among_inner among_outer last
            ∙ (λ i. (own_found i ++ sym (flat_map-append found_at (preorder own children) (preorder path siblings)) i) ++ last)
            ∙ ap (λ (ls : List ℕ). flat_map found_at (preorder path (branch name content children siblings)) ++ behind found v.value ls rest) regroup;
      }
    where
      kept_at : (whole front back : List ℕ) (i : ℕ) → whole ≡ front ++ back → i < length front → get_or whole i 0 ≡ get_or front i 0
      kept_at whole front back i is lt = ap (λ (xs : List ℕ). get_or xs i 0) is ∙ get_or_append_left front back 0 i lt

      grouped : (a b c d : List X) → a ++ (b ++ (c ++ d)) ≡ (a ++ (b ++ c)) ++ d
      grouped a b c d = ap (λ (xs : List X). a ++ xs) (sym (append_assoc b c d)) ∙ sym (append_assoc a (b ++ c) d)

  -- what is found along the list of a tree
  pub found_in : (t : Named NodeReference) → found (codes "/") t.content ++ behind found [] (0 ∷ []) (listed 1 0 t.children) ≡ flat_map found_at (nodes_of t)
  found_in t =
      let w = walk_forest t.children [] [] (0 ∷ []) 1 0 [] refl (omega arith) refl refl in
      let first = found (codes "/") t.content in
      ap (λ (ns : List (Listed NodeReference)). first ++ behind found [] (0 ∷ []) ns) (sym (append-nil (listed 1 0 t.children)))
      ∙ ap (λ (xs : List X). first ++ xs) (w.is ∙ append-nil (flat_map found_at (preorder [] t.children)))

-- ---- the labels

-- those of some nodes
abbrev pub symbols_among : List (NamedPlaced NodeReference) → List Property
symbols_among [] = []
symbols_among (n ∷ ns) = map (symbol n.path) n.content.labels ++ symbols_among ns

among_found : (ns : List (NamedPlaced NodeReference)) → flat_map (found_at labels_at) ns ≡ symbols_among ns
among_found [] = refl
among_found (n ∷ ns) = ap (λ (ps : List Property). map (symbol n.path) n.content.labels ++ ps) (among_found ns)

pub symbols_same : (t : Named NodeReference) → symbols_among (nodes_of t) ≡ symbols_of t
symbols_same t = refl

-- the labels that are found along the list of a tree
pub symbols_are : (t : Named NodeReference) → all_symbols (list_of t) ≡ symbols_of t
symbols_are t = found_in labels_at t ∙ among_found (nodes_of t) ∙ symbols_same t
