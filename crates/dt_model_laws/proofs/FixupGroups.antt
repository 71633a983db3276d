-- The properties of `__fixups__`, one for each label, list the cells that wait for it: every cell once, and none else.
use Rattle.std.proofs.Common.{◌≡◌, ◌≢◌, ℕ, ◌<◌, ◌^◌, Bool, true, false, not, List, [], ◌∷◌, ◌++◌, append_assoc, map, codes, decimal, refl, sym, ap, subst, ◌∙◌, inl, inr, true≢false}
use Rattle.std.specs.Prelude.{if◌then◌else◌}
use Rattle.std.specs.List.{AllByRecursion, flat_map, filter}
use Rattle.std.specs.Str.{bytes_eq}
use Rattle.std.proofs.lemmas.Fmt.{decimal_is_IsNumeral_wide}
use Rattle.dt_model.specs.Names.{Name, IsNodeName, IsPropertyName}
use Rattle.dt_model.specs.Path.{path_text}
use Rattle.dt_model.specs.Lists.{IsIn}
use Rattle.dt_model.specs.Object.{Cell, IsCellText, AreCellTexts, AreFixups}
use Rattle.dt_model.specs.Fixups.{cell_text, first_labels, text_for, fixup, fixups}
use Rattle.dt_model.specs.Tree.{Property}
use Rattle.dt_model.specs.Valid.{AreDistinct}
use Rattle.dt_model.proofs.Tests.{bytes_eq_refl, bytes_eq_true, each_from, in_map, in_map_from, in_filter, filter_in}
use Rattle.dt_model.proofs.Distinct.{distinct_filter, in_flat, not_twice}
use Rattle.dt_model.proofs.Flat.{from_flat, distinct_flat}

-- ---- lists

itself : {X : Type 0} (xs : List X) → map (λ x. x) xs ≡ xs
itself [] = refl
itself (x ∷ xs) = ap (λ ys. x ∷ ys) (itself xs)

-- ---- the labels

abbrev is_other : Name → Name → Bool
is_other l k = not (bytes_eq k l)

passes_other : (k l : Name) → is_other l k ≡ true → k ≢ l
passes_other k l h same = let z : false ≡ true = ap not (sym (ap (λ y. bytes_eq y l) same ∙ bytes_eq_refl l)) ∙ h in true≢false (sym z)

-- a label is listed where a cell waits for it
pub label_from : (cells : List (Name × Cell)) (l : Name) → IsIn l (first_labels cells) → (c : Cell) × IsIn (l, c) cells
label_from [] l i = absurd i
label_from ((k, c) ∷ cells) l (inl same) = (c, inl (ap (λ z. (z, c)) same))
label_from ((k, c) ∷ cells) l (inr i) =
    let w = label_from cells l (in_filter (is_other k) (first_labels cells) l i).0 in
    (w.0, inr w.1)

label_in : (cells : List (Name × Cell)) (l : Name) (c : Cell) → IsIn (l, c) cells → IsIn l (first_labels cells)
label_in [] l c i = absurd i
label_in ((k, d) ∷ cells) l c (inl same) = inl (ap (λ x. x.0) same)
label_in ((k, d) ∷ cells) l c (inr i) = step (label_in cells l c i) (bytes_eq l k) refl
  where
    step : IsIn l (first_labels cells) → (b : Bool) → bytes_eq l k ≡ b → IsIn l (first_labels ((k, d) ∷ cells))
    step more true e = inl (bytes_eq_true l k e)
    step more false e = inr (filter_in (is_other k) (first_labels cells) l more (ap not e))

distinct_kept : (test : Name → Bool) (xs : List Name) → AreDistinct xs → AreDistinct (filter test xs)
distinct_kept test xs d = subst AreDistinct (itself (filter test xs)) (distinct_filter (λ x. x) test xs (subst AreDistinct (sym (itself xs)) d))

pub labels_once : (cells : List (Name × Cell)) → AreDistinct (first_labels cells)
labels_once [] = tt
labels_once ((l, c) ∷ cells) =
    (each_from (λ k. k ≢ l) (filter (is_other l) (first_labels cells)) (λ k i. passes_other k l (in_filter (is_other l) (first_labels cells) k i).1), distinct_kept (is_other l) (first_labels cells) (labels_once cells))

-- ---- the cells by their labels

-- the cells that wait for a label
abbrev cell_for : Name → Name × Cell → List Cell
cell_for label (l, c) = if bytes_eq l label then c ∷ [] else []

abbrev cells_for : List (Name × Cell) → Name → List Cell
cells_for cells label = flat_map (cell_for label) cells

abbrev waiting : Name → Cell → Name × Cell
waiting label c = (label, c)

abbrev with_label : List (Name × Cell) → Name → List (Name × Cell)
with_label cells label = map (waiting label) (cells_for cells label)

-- the cells in the order of their labels
abbrev pub grouped : List (Name × Cell) → List (Name × Cell)
grouped cells = flat_map (with_label cells) (first_labels cells)

cell_for_in : (l : Name) (x : Name × Cell) (c : Cell) → IsIn c (cell_for l x) → x ≡ (l, c)
cell_for_in l (k, d) c i = step (bytes_eq k l) refl
  where
    step : (b : Bool) → bytes_eq k l ≡ b → ◌≡◌ {A = Name × Cell} (k, d) (l, c)
    step true e =
        let j : IsIn c (d ∷ []) = subst (λ b. IsIn c (if b then d ∷ [] else [])) e i in
        elim j [
          | inl same ↦ let name = bytes_eq_true k l e in λ i. (name i, sym same i)
          | inr none ↦ absurd none
        ]
    step false e = absurd (subst (λ b. IsIn c (if b then d ∷ [] else [])) e i)

in_cell_for : (l : Name) (c : Cell) → IsIn c (cell_for l (l, c))
in_cell_for l c = subst (λ b. IsIn c (if b then c ∷ [] else [])) (sym (bytes_eq_refl l)) (inl refl)

with_label_from : (cells : List (Name × Cell)) (k l : Name) (c : Cell) → IsIn (l, c) (with_label cells k) → (l ≡ k) × IsIn (l, c) cells
with_label_from cells k l c i =
    let w = in_map_from (waiting k) (cells_for cells k) (l, c) i in
    let name : l ≡ k = ap (λ (x : Name × Cell). x.0) w.2 in
    let same : c ≡ w.0 = ap (λ (x : Name × Cell). x.1) w.2 in
    let x = from_flat (cell_for k) cells w.0 w.1 in
    let e : ◌≡◌ {A = Name × Cell} x.0 (l, c) = cell_for_in k x.0 w.0 x.2 ∙ sym w.2 in
    (name, subst (λ (y : Name × Cell). IsIn y cells) e x.1)

pub grouped_from : (cells : List (Name × Cell)) (l : Name) (c : Cell) → IsIn (l, c) (grouped cells) → IsIn (l, c) cells
grouped_from cells l c i = let w = from_flat (with_label cells) (first_labels cells) (l, c) i in (with_label_from cells w.0 l c w.2).1

pub grouped_in : (cells : List (Name × Cell)) (l : Name) (c : Cell) → IsIn (l, c) cells → IsIn (l, c) (grouped cells)
grouped_in cells l c i =
    in_flat (with_label cells) (first_labels cells) l (l, c) (label_in cells l c i)
    (in_map (waiting l) (cells_for cells l) c (in_flat (cell_for l) cells (l, c) c i (in_cell_for l c)))

-- ---- each once

cells_for_once : (cells : List (Name × Cell)) (l : Name) → AreDistinct cells → AreDistinct (cells_for cells l)
cells_for_once cells l d =
    distinct_flat (λ (x : Name × Cell). x) (cell_for l) cells (subst AreDistinct (sym (itself cells)) d) (λ x i. one_at_most x)
    (λ x y c i j here there. cell_for_in l x c here ∙ sym (cell_for_in l y c there))
  where
    one_at_most : (x : Name × Cell) → AreDistinct (cell_for l x)
    one_at_most (k, c) = step (bytes_eq k l)
      where
        step : (b : Bool) → AreDistinct (if b then c ∷ [] else [])
        step true = (tt, tt)
        step false = tt

labelled_once : (l : Name) (cs : List Cell) → AreDistinct cs → AreDistinct (map (waiting l) cs)
labelled_once l [] d = tt
labelled_once l (c ∷ cs) d = (
  each_from (λ y. y ≢ waiting l c) (map (waiting l) cs)
      (λ y i e.
      let w = in_map_from (waiting l) cs y i in
      let same : w.0 ≡ c = ap (λ (x : Name × Cell). x.1) (sym w.2 ∙ e) in
      not_twice c cs d (subst (λ z. IsIn z cs) same w.1)),
  labelled_once l cs d.1,
)

pub grouped_once : (cells : List (Name × Cell)) → AreDistinct cells → AreDistinct (grouped cells)
grouped_once cells d =
    distinct_flat (λ (l : Name). l) (with_label cells) (first_labels cells) (subst AreDistinct (sym (itself (first_labels cells))) (labels_once cells))
    (λ l i. labelled_once l (cells_for cells l) (cells_for_once cells l d))
    (λ k l x i j here there.
    let a = with_label_from cells k x.0 x.1 here in
    let b = with_label_from cells l x.0 x.1 there in
    sym a.0 ∙ b.0)

-- ---- texts

-- what a cell's text is made of
pub record HasText (c : Cell) : Type 0 where
  pub path : AllByRecursion IsNodeName c.path
  pub property : IsPropertyName c.property
  pub offset : c.offset < 10 ^ 64

text_only : Cell → List ℕ
text_only c = path_text c.path ++ (codes ":" ++ (c.property ++ (codes ":" ++ decimal c.offset)))

-- a cell's text, with its NUL
text_ends : (c : Cell) → cell_text c ≡ text_only c ++ 0 ∷ []
unfolding text_only
text_ends c = sym (regroup (path_text c.path) (codes ":") c.property (decimal c.offset) (0 ∷ []))
  where
    regroup : (p s n d z : List ℕ) → (p ++ (s ++ (n ++ (s ++ d)))) ++ z ≡ p ++ (s ++ (n ++ (s ++ (d ++ z))))
    regroup p s n d z =
        append_assoc p (s ++ (n ++ (s ++ d))) z
        ∙ ap (λ x. p ++ x) (append_assoc s (n ++ (s ++ d)) z ∙ ap (λ x. s ++ x) (append_assoc n (s ++ d) z ∙ ap (λ x. n ++ x) (append_assoc s d z)))

is_cell_text : (c : Cell) → HasText c → IsCellText (text_only c) c
unfolding text_only
is_cell_text c h =
    let number = decimal_is_IsNumeral_wide c.offset h.offset in
    record { digits = decimal c.offset; numeral = number.0; offset = number.1; path = h.path; property = h.property; whole = refl }

-- the texts of a label's cells
texts_for : (label : Name) (cells : List (Name × Cell)) → AllByRecursion (λ (x : Name × Cell). HasText x.1) cells → AreCellTexts (flat_map (text_for label) cells) (cells_for cells label)
texts_for label [] h = refl
texts_for label ((l, c) ∷ cells) h = step (texts_for label cells h.1) (bytes_eq l label)
  where
    step : AreCellTexts (flat_map (text_for label) cells) (cells_for cells label)
        → (b : Bool) → AreCellTexts ((if b then cell_text c else []) ++ flat_map (text_for label) cells) ((if b then c ∷ [] else []) ++ cells_for cells label)
    step more true = (
      text_only c,
      flat_map (text_for label) cells,
      ap (λ x. x ++ flat_map (text_for label) cells) (text_ends c) ∙ append_assoc (text_only c) (0 ∷ []) (flat_map (text_for label) cells),
      is_cell_text c h.0,
      more,
    )
    step more false = more

pub are_fixups : (cells : List (Name × Cell)) → AllByRecursion (λ (x : Name × Cell). HasText x.1) cells → AreFixups (fixups cells) (grouped cells)
are_fixups cells h = of_labels (first_labels cells)
  where
    of_labels : (ls : List Name) → AreFixups (map (fixup cells) ls) (flat_map (with_label cells) ls)
    of_labels [] = refl
    of_labels (l ∷ ls) = (cells_for cells l, flat_map (with_label cells) ls, refl, texts_for l cells h, of_labels ls)

-- the properties have the labels' names
pub names_of_fixups : (cells : List (Name × Cell)) → map (λ (p : Property). p.name) (fixups cells) ≡ first_labels cells
names_of_fixups cells = of_labels (first_labels cells)
  where
    of_labels : (ls : List Name) → map (λ (p : Property). p.name) (map (fixup cells) ls) ≡ ls
    of_labels [] = refl
    of_labels (l ∷ ls) = ap (λ xs. l ∷ xs) (of_labels ls)
