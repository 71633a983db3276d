-- The texts that are found along a tree's list are those of its cells, by labels that are labels.
use Rattle.std.proofs.Common.{◌≡◌, ℕ, ◌+◌, suc, List, [], ◌∷◌, ◌++◌, map, codes, refl, sym, ◌∙◌}
use Rattle.std.specs.List.{AllByRecursion, flat_map}
use Rattle.std.proofs.lemmas.List.{map-append}
use Rattle.dt_model.specs.Fixups.{outside_cell, outside_cells_of, outside_cells}
use Rattle.dt_model.specs.Meaning.{Item, byte, reference, EachReference}
use Rattle.dt_model.specs.Names.{Name}
use Rattle.dt_model.specs.Named as named
use Rattle.dt_model.specs.Named.{NodeReference, NamedProperty, NamedForest, Named, NamedPlaced, Listed, node_count, nodes_of, listed, list_of}
use Rattle.dt_model.specs.NamedOf.{IsBelow, RefersBelow, AreNamedNodes, IsNamed}
use Rattle.dt_model.specs.Object.{references_from}
use Rattle.dt_model.specs.Overlay.{inside, outside}
use Rattle.dt_model.specs.Path.{Path, path_text}
use Rattle.dt_flat.proofs.Distinctness.{all-append}
use Rattle.dt_marks.specs.Paths.{behind}
use Rattle.dt_marks.specs.Waiting.{reference_text, property_texts, content_texts, all_texts, AreListable}
use Rattle.dt_marks.proofs.FirstCome.{as_text}
use Rattle.dt_marks.proofs.PathTexts.{found_at, found_in}

-- ---- they are the texts of the cells

mapped : {X A B : Type 0} (f : X → List B) (g : X → List A) (h : A → B) → ((x : X) → f x ≡ map h (g x)) → (xs : List X) → flat_map f xs ≡ map h (flat_map g xs)
mapped f g h same [] = refl
mapped f g h same (x ∷ xs) = (λ i. same x i ++ mapped f g h same xs i) ∙ sym (map-append h (g x) (flat_map g xs))

one_reference : (path : Path) (name : Name) (r : ℕ × NodeReference) → reference_text (path_text path) name r ≡ map as_text (outside_cell path name r)
one_reference path name (k, inside j) = refl
one_reference path name (k, outside l) = refl

one_property : (path : Path) (p : NamedProperty NodeReference) → property_texts (path_text path) p ≡ map as_text (flat_map (outside_cell path p.name) (references_from 0 p.value))
one_property path p = mapped (reference_text (path_text path) p.name) (outside_cell path p.name) as_text (one_reference path p.name) (references_from 0 p.value)

one_node : (n : NamedPlaced NodeReference) → found_at content_texts n ≡ map as_text (outside_cells_of n)
one_node n =
    mapped (property_texts (path_text n.path)) (λ (p : NamedProperty NodeReference). flat_map (outside_cell n.path p.name) (references_from 0 p.value)) as_text (one_property n.path) n.content.properties

pub texts_are : (t : Named NodeReference) → all_texts (list_of t) ≡ map as_text (outside_cells t)
texts_are t = found_in content_texts t ∙ mapped (found_at content_texts) outside_cells_of as_text one_node (nodes_of t)

-- ---- each has a label

listable_references : (n : ℕ) (path : List ℕ) (name : Name) (k : ℕ) (v : List (Item NodeReference)) → EachReference (IsBelow n) v → AreListable (flat_map (reference_text path name) (references_from k v))
listable_references n path name k v h = by v k h
  where
    by : (v : List (Item NodeReference)) (k : ℕ) → EachReference (IsBelow n) v → AreListable (flat_map (reference_text path name) (references_from k v))
    by [] k h = tt
    by (byte b ∷ v) k h = by v (k + 1) h
    by (reference (inside j) ∷ v) k h = by v (k + 4) h.1
    by (reference (outside l) ∷ v) k h = (h.0, by v (k + 4) h.1)

listable_properties : (n : ℕ) (path : List ℕ) (ps : List (NamedProperty NodeReference)) → AllByRecursion (λ (p : NamedProperty NodeReference). EachReference (IsBelow n) p.value) ps
    → AreListable (flat_map (property_texts path) ps)
listable_properties n path [] h = tt
listable_properties n path (p ∷ ps) h =
    all-append _ (property_texts path p) (flat_map (property_texts path) ps) (listable_references n path p.name 0 p.value h.0) (listable_properties n path ps h.1)

listable_nodes : (n : ℕ) (ns : List (Listed NodeReference)) (value lengths : List ℕ) → AllByRecursion (λ (l : Listed NodeReference). RefersBelow n l.content) ns
    → AreListable (behind content_texts value lengths ns)
listable_nodes n ns value lengths h = by ns value lengths h
  where
    by : (ns : List (Listed NodeReference)) (value lengths : List ℕ) → AllByRecursion (λ (l : Listed NodeReference). RefersBelow n l.content) ns → AreListable (behind content_texts value lengths ns)
    by [] value lengths h = tt
    by (l ∷ ns) value lengths h = all-append _ (content_texts _ l.content) _ (listable_properties n _ l.content.properties h.0) (by ns _ _ h.1)

refers_below : (n d : ℕ) (f : NamedForest NodeReference) (k p : ℕ) → AreNamedNodes n d f → AllByRecursion (λ (l : Listed NodeReference). RefersBelow n l.content) (listed k p f)
refers_below n d named.no_nodes k p h = tt
refers_below n d (named.branch name content children siblings) k p h =
    (h.1.referred, all-append _ (listed (suc k) k children) (listed (suc k + node_count children) p siblings) (refers_below n (suc d) children (suc k) k h.4) (refers_below n d siblings (suc k + node_count children) p h.5))

pub are_listable : (t : Named NodeReference) → IsNamed t → AreListable (all_texts (list_of t))
are_listable t h =
    let n = 1 + node_count t.children in
    all-append _ (content_texts (codes "/") t.content) (behind content_texts [] (0 ∷ []) (listed 1 0 t.children)) (listable_properties n (codes "/") t.content.properties h.root.referred)
    (listable_nodes n (listed 1 0 t.children) [] (0 ∷ []) (refers_below n 1 t.children 1 0 h.nodes))
