-- The texts of paths, by the names from the node up.
use Rattle.std.proofs.Common.{◌≡◌, ℕ, ◌<◌, ◌≤◌, List, [], ◌∷◌, ◌++◌, reverse, length, Some, slice_get, get_or, refl, sym, ap, subst, ◌∙◌, arith, append_assoc, append-nil}
use Rattle.std.specs.List.{flat_map}
use Rattle.std.proofs.lemmas.List.{reverse-append, reverse-reverse}
use Rattle.std.proofs.lemmas.List.Concat.{flat_map-append}
use Rattle.std.proofs.lemmas.Option.{slice_get-get_or}
use Rattle.dt_model.specs.Names.{Name}
use Rattle.dt_model.specs.Path.{Path, path_text}
use Rattle.dt_model.specs.Event.{Stack}
use Rattle.dt_source_growing.specs.declared.growing.Node.{Node}
use Rattle.dt_source_growing.specs.Grown.{name_said, StandsUnder}
use Rattle.dt_source_nodes.specs.Contents.{names_text}
use Rattle.dt_source_nodes.proofs.ChildrenLed.{leads_within}

-- the names of a path, each with a `/` before it
abbrev pub slashed : Path → List ℕ
slashed path = flat_map (λ (x : Name). 47 ∷ x) path

names_slashed : (p : Stack) → names_text p ≡ slashed (reverse p)
names_slashed [] = refl
names_slashed (x ∷ p) =
    ap (λ (t : List ℕ). t ++ 47 ∷ x) (names_slashed p)
    ∙ (ap (λ (t : List ℕ). slashed (reverse p) ++ t) (sym (append-nil (47 ∷ x)))
    ∙ (sym (flat_map-append (λ (y : Name). 47 ∷ y) (reverse p) (x ∷ [])) ∙ ap slashed (sym (reverse-append (x ∷ []) p))))

text_slashed : (x : Name) (path : Path) → path_text (x ∷ path) ≡ slashed (x ∷ path)
text_slashed x [] = sym (append-nil (47 ∷ x))
text_slashed x (y ∷ path) = ap (λ (t : List ℕ). 47 ∷ x ++ t) (text_slashed y path)

-- the text of a path other than the root's
pub text_of_names : (x : Name) (p : Stack) → names_text (x ∷ p) ≡ path_text (reverse (x ∷ p))
text_of_names x p = names_slashed (x ∷ p) ∙ step (reverse (x ∷ p)) refl
  where
    step : (path : Path) → reverse (x ∷ p) ≡ path → slashed path ≡ path_text path
    step [] e = let none : x ∷ p ≡ [] = sym (reverse-reverse (x ∷ p)) ∙ ap (λ (q : Path). reverse q) e in cc
    step (y ∷ path) e = sym (text_slashed y path)

-- ---- one name more

-- what stands at a place that was read
pub read_node : (nodes : List Node) (k : ℕ) (n : Node) → k < length nodes → ((d : Node) → n ≡ get_or nodes k d) → slice_get nodes k ≡ Some n
read_node nodes k n near is = slice_get-get_or nodes k n near ∙ ap (λ (m : Node). Some m) (sym (is n))

-- the root has no names
pub no_names : (nodes : List Node) (text : List ℕ) (k : ℕ) → k ≡ 0 → (p : Stack) → StandsUnder nodes p k → text ≡ text ++ names_text p
no_names nodes text k root [] h = sym (append-nil text)
no_names nodes text k root (x ∷ p) h = let above : 0 < k = h.2 in absurd (omega arith)

-- no names lead past the nodes
pub names_past : (nodes : List Node) (text : List ℕ) (k : ℕ) → length nodes ≤ k → (p : Stack) → StandsUnder nodes p k → text ≡ text ++ names_text p
names_past nodes text k past p h = let near = leads_within nodes p k h in absurd (omega arith)

-- the name behind those above it
pub names_more : (nodes : List Node) (text above out : List ℕ) (k : ℕ) (n : Node) → 0 < k → slice_get nodes k ≡ Some n →
    ((q : Stack) → StandsUnder nodes q n.parent → above ≡ text ++ names_text q) → out ≡ above ++ 47 ∷ name_said n.name → (p : Stack) → StandsUnder nodes p k → out ≡ text ++ names_text p
names_more nodes text above out k n below there before e [] h = let root : k ≡ 0 = h.0 in absurd (omega arith)
names_more nodes text above out k n below there before e (x ∷ p) h =
    let m = h.0 in
    let at = h.1 in
    let same : m ≡ n = cc in
    let led : StandsUnder nodes p n.parent = subst (λ (l : Node). StandsUnder nodes p l.parent) same h.5 in
    let name : name_said n.name ≡ x = ap (λ (l : Node). name_said l.name) (sym same) ∙ h.3 in
    e ∙ (ap (λ (t : List ℕ). t ++ 47 ∷ name_said n.name) (before p led) ∙ (ap (λ (y : Name). (text ++ names_text p) ++ 47 ∷ y) name ∙ append_assoc text (names_text p) (47 ∷ x)))

-- the root's path
pub root_text : (nodes : List Node) (text out : List ℕ) (k : ℕ) → k ≡ 0 → out ≡ text ++ 47 ∷ [] → (p : Stack) → StandsUnder nodes p k → out ≡ text ++ path_text (reverse p)
root_text nodes text out k root e [] h = e
root_text nodes text out k root e (x ∷ p) h = let above : 0 < k = h.2 in absurd (omega arith)

-- and each other one's
pub other_text : (nodes : List Node) (text out : List ℕ) (k : ℕ) → 0 < k → ((q : Stack) → StandsUnder nodes q k → out ≡ text ++ names_text q) → (p : Stack) → StandsUnder nodes p k →
    out ≡ text ++ path_text (reverse p)
other_text nodes text out k below e [] h = let root : k ≡ 0 = h.0 in absurd (omega arith)
other_text nodes text out k below e (x ∷ p) h = e (x ∷ p) h ∙ ap (λ (t : List ℕ). text ++ t) (text_of_names x p)
