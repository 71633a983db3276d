-- What an object lists is one list.
use Rattle.std.proofs.Common.{◌≡◌, ℕ, false, List, [], ◌∷◌, Ok, sym, ap, subst, ◌∙◌, inl, inr, arith, true≢false}
use Rattle.std.specs.Prelude.{is_some}
use Rattle.std.proofs.lemmas.Option.{same_Some}
use Rattle.dt_model.specs.Names.{Name}
use Rattle.dt_model.specs.Path.{Path}
use Rattle.dt_model.specs.Object.{Cell, words_of}
use Rattle.dt_model.specs.Tree.{Property, Placed, stands_in}
use Rattle.dt_trees.specs.Placed.{PlacedTree, reading_of, place_of, IsAt}
use Rattle.dt_overlay_texts.specs.Texts.{TextsAreOne, CellIsOne}
use Rattle.dt_marks_read.specs.Listed.{ListedCell, IsListed, Fixup, LocalFixup, AreTold, AreFixups, AreOffsets, AreLocalProperties, AreLocalNodes}
use Rattle.dt_trees.proofs.NodePlaces.{stands_place}

-- no two things are so
abbrev IsOne : (X : Type 0) → (X → Type 0) → Type 0
IsOne X P = (a b : X) → P a → P b → a ≡ b

-- ---- `__fixups__`

same_listed : (t : PlacedTree) (c d : Cell) (x y : ListedCell) → c ≡ d → IsListed t c x → IsListed t d y → x ≡ y
same_listed t c d x y same a b =
    let node : x.node ≡ y.node = same_Some x.node y.node (sym a.node ∙ ap (λ (e : Cell). place_of t e.path) same ∙ b.node) in
    let property : x.property ≡ y.property = a.property ∙ ap (λ (e : Cell). e.property) same ∙ sym b.property in
    let offset : x.offset ≡ y.offset = a.offset ∙ ap (λ (e : Cell). e.offset) same ∙ sym b.offset in
    λ i. record { node = node i; property = property i; offset = offset i }

told_once : (t : PlacedTree) → CellIsOne → (label : Name) (texts : List (List ℕ)) (more : List Fixup → Type 0) → IsOne (List Fixup) more → IsOne (List Fixup) (AreTold t label texts more)
told_once t cells label [] more once a b h k = once a b h k
told_once t cells label (text ∷ texts) more once a b (inl h) (inl k) =
    let x : h.1 ≡ k.1 = same_listed t h.0 k.0 h.1 k.1 (cells text h.0 k.0 h.4 k.4) h.5 k.5 in
    let rest : h.2 ≡ k.2 = told_once t cells label texts more once h.2 k.2 h.6 k.6 in
    h.3 ∙ (λ i. Ok (label, x i) ∷ rest i) ∙ sym k.3
told_once t cells label (text ∷ texts) more once a b (inl h) (inr k) = absurd (k.0 h.0 h.4 h.5.there)
told_once t cells label (text ∷ texts) more once a b (inr h) (inl k) = absurd (h.0 k.0 k.4 k.5.there)
told_once t cells label (text ∷ texts) more once a b (inr h) (inr k) = h.1 ∙ sym k.1

pub fixups_once : (t : PlacedTree) → TextsAreOne → CellIsOne → (ps : List Property) → IsOne (List Fixup) (AreFixups t ps)
fixups_once t texts cells [] a b h k = h ∙ sym k
fixups_once t texts cells (p ∷ ps) a b (inl h) (inl k) =
    told_once t cells p.name h.0 (AreFixups t ps) (fixups_once t texts cells ps) a b h.3
    (subst (λ (xs : List (List ℕ)). AreTold t p.name xs (AreFixups t ps) b) (texts p.value k.0 h.0 k.1 h.1) k.3)
fixups_once t texts cells (p ∷ ps) a b (inl h) (inr k) = absurd (k.0 h.0 h.2 h.1)
fixups_once t texts cells (p ∷ ps) a b (inr h) (inl k) = absurd (h.0 k.0 k.2 k.1)
fixups_once t texts cells (p ∷ ps) a b (inr h) (inr k) = h.1 ∙ sym k.1

-- ---- `__local_fixups__`

offsets_once : (node : ℕ) (property : Name) (value offsets : List ℕ) (more : List LocalFixup → Type 0) → IsOne (List LocalFixup) more
    → IsOne (List LocalFixup) (AreOffsets node property value offsets more)
offsets_once node property value [] more once a b h k = once a b h k
offsets_once node property value (offset ∷ offsets) more once a b (inl h) (inl k) =
    h.2 ∙ ap (λ (rest : List LocalFixup). Ok (record { node = node; property = property; offset = offset }) ∷ rest) (offsets_once node property value offsets more once h.1 k.1 h.3 k.3)
    ∙ sym k.2
offsets_once node property value (offset ∷ offsets) more once a b (inl h) (inr k) = absurd (omega (arith, h.0, k.0))
offsets_once node property value (offset ∷ offsets) more once a b (inr h) (inl k) = absurd (omega (arith, h.0, k.0))
offsets_once node property value (offset ∷ offsets) more once a b (inr h) (inr k) = h.1 ∙ sym k.1

properties_once : (t : PlacedTree) (p : Path) (node : ℕ) (xs : List Property) (more : List LocalFixup → Type 0) → IsOne (List LocalFixup) more
    → IsOne (List LocalFixup) (AreLocalProperties t p node xs more)
properties_once t p node [] more once a b h k = once a b h k
properties_once t p node (x ∷ xs) more once a b (inl h) (inl k) =
    offsets_once node x.name h.0.0 (words_of x.value) (AreLocalProperties t p node xs more) (properties_once t p node xs more once) a b h.1
    (subst (λ (value : List ℕ). AreOffsets node x.name value (words_of x.value) (AreLocalProperties t p node xs more) b) (same_Some k.0.0 h.0.0 (sym k.0.1 ∙ h.0.1)) k.1)
properties_once t p node (x ∷ xs) more once a b (inl h) (inr k) = absurd (k.0 h.0)
properties_once t p node (x ∷ xs) more once a b (inr h) (inl k) = absurd (h.0 k.0)
properties_once t p node (x ∷ xs) more once a b (inr h) (inr k) = h.1 ∙ sym k.1

-- a node that has a place stands
stands_placed : (t : PlacedTree) (p : Path) (k : ℕ) → IsAt t p k → stands_in (reading_of t) p ≡ false → ⊥
stands_placed t p k at none = true≢false (sym (ap is_some at) ∙ stands_place t p ∙ none)

pub nodes_once : (t : PlacedTree) (ns : List Placed) → IsOne (List LocalFixup) (AreLocalNodes t ns)
nodes_once t [] a b h k = h ∙ sym k
nodes_once t (n ∷ ns) a b (inl h) (inl k) =
    properties_once t n.path h.0 n.properties (AreLocalNodes t ns) (nodes_once t ns) a b h.2
    (subst (λ (node : ℕ). AreLocalProperties t n.path node n.properties (AreLocalNodes t ns) b) (same_Some k.0 h.0 (sym k.1 ∙ h.1)) k.2)
nodes_once t (n ∷ ns) a b (inl h) (inr k) = absurd (stands_placed t n.path h.0 h.1 k.0)
nodes_once t (n ∷ ns) a b (inr h) (inl k) = absurd (stands_placed t n.path k.0 k.1 h.0)
nodes_once t (n ∷ ns) a b (inr h) (inr k) = h.1 ∙ sym k.1
