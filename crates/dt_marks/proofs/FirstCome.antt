-- A table of texts that is filled in order has what the node of its cells has.
use Rattle.std.proofs.Common.{◌≡◌, ◌≢◌, ℕ, zero, suc, ◌≤◌, Bool, true, false, cond, not, List, [], ◌∷◌, ◌++◌, length, map, filter, refl, sym, ap, ◌∙◌, subst, arith, append_assoc}
use Rattle.std.specs.List.{AllByRecursion, flat_map}
use Rattle.std.specs.Str.{bytes_eq}
use Rattle.std.proofs.lemmas.Slice.Eq.{bytes_eq-Decides}
use Rattle.dt_model.specs.Names.{Name, IsLabel}
use Rattle.dt_model.specs.Object.{Cell}
use Rattle.dt_model.specs.Fixups.{cell_text, first_labels, text_for, fixup, fixups}
use Rattle.dt_model.specs.Tree.{Property}
use Rattle.dt_model.specs.Valid.{AreDistinct}
use Rattle.dt_marks.specs.Waiting.{with_text, with_texts, AreListable}

-- ---- tests

itself : (x : Name) → bytes_eq x x ≡ true
itself x = (bytes_eq-Decides x x).1 refl

turned : (x y : Name) → bytes_eq x y ≡ false → bytes_eq y x ≡ false
turned x y e = by (bytes_eq y x) refl
  where
    by : (b : Bool) → bytes_eq y x ≡ b → b ≡ false
    by false f = refl
    by true f = let same : bytes_eq x y ≡ true = (bytes_eq-Decides x y).1 (sym ((bytes_eq-Decides y x).0 f)) in absurd cc

unequal : (x y : Name) → bytes_eq x y ≡ false → x ≢ y
unequal x y e same = let equal : bytes_eq x y ≡ true = (bytes_eq-Decides x y).1 same in absurd cc

-- ---- filters

filter-twice : {X : Type 0} (p : X → Bool) (xs : List X) → filter p (filter p xs) ≡ filter p xs
filter-twice p [] = refl
filter-twice p (x ∷ xs) = by (p x) refl (filter-twice p xs)
  where
    by : (b : Bool) → p x ≡ b → filter p (filter p xs) ≡ filter p xs → filter p (cond b (x ∷ filter p xs) (filter p xs)) ≡ cond b (x ∷ filter p xs) (filter p xs)
    by true e rest = ap (λ (b : Bool). cond b (x ∷ filter p (filter p xs)) (filter p (filter p xs))) e ∙ ap (λ ys. x ∷ ys) rest
    by false e rest = rest

filter-turned : {X : Type 0} (p q : X → Bool) (xs : List X) → filter p (filter q xs) ≡ filter q (filter p xs)
filter-turned p q [] = refl
filter-turned p q (x ∷ xs) = by (p x) (q x) refl refl (filter-turned p q xs)
  where
    by : (a b : Bool) → p x ≡ a → q x ≡ b → filter p (filter q xs) ≡ filter q (filter p xs)
        → filter p (cond b (x ∷ filter q xs) (filter q xs)) ≡ filter q (cond a (x ∷ filter p xs) (filter p xs))
    by true true e f rest = (λ i. cond (e i) (x ∷ filter p (filter q xs)) (filter p (filter q xs))) ∙ ap (λ ys. x ∷ ys) rest ∙ (λ i. cond (sym f i) (x ∷ filter q (filter p xs)) (filter q (filter p xs)))
    by true false e f rest = rest ∙ (λ i. cond (sym f i) (x ∷ filter q (filter p xs)) (filter q (filter p xs)))
    by false true e f rest = (λ i. cond (e i) (x ∷ filter p (filter q xs)) (filter p (filter q xs))) ∙ rest
    by false false e f rest = rest

length-filter-le : {X : Type 0} (p : X → Bool) (xs : List X) → length (filter p xs) ≤ length xs
length-filter-le p [] = omega arith
length-filter-le p (x ∷ xs) = by (p x) (length-filter-le p xs)
  where
    by : (b : Bool) → length (filter p xs) ≤ length xs → length (cond b (x ∷ filter p xs) (filter p xs)) ≤ suc (length xs)
    by true h = omega arith
    by false h = omega arith

-- ---- one label after another

-- the cells with their texts
abbrev pub as_text : Name × Cell → Name × List ℕ
as_text (l, c) = (l, cell_text c)

abbrev text_under : Name → Name × List ℕ → List ℕ
text_under label t = cond (bytes_eq t.0 label) t.1 []

abbrev other_text : Name → Name × List ℕ → Bool
other_text label t = not (bytes_eq t.0 label)

abbrev other_cell : Name → Name × Cell → Bool
other_cell label c = not (bytes_eq c.0 label)

abbrev other_label : Name → Name → Bool
other_label label k = not (bytes_eq k label)

-- the first of a table takes its own
peel : (ts : List (Name × List ℕ)) (p : Property) (ps : List Property)
    → with_texts (p ∷ ps) ts ≡ record { name = p.name; value = p.value ++ flat_map (text_under p.name) ts } ∷ with_texts ps (filter (other_text p.name) ts)
peel [] p ps = ap (λ (v : List ℕ). record { name = p.name; value = v } ∷ ps) (sym (nothing p.value))
  where
    nothing : (v : List ℕ) → v ++ [] ≡ v
    nothing [] = refl
    nothing (x ∷ v) = ap (λ (w : List ℕ). x ∷ w) (nothing v)
peel (t ∷ ts) p ps = by (bytes_eq t.0 p.name) (peel ts)
  where
    by : (b : Bool)
        → ((p : Property) (ps : List Property) → with_texts (p ∷ ps) ts ≡ record { name = p.name; value = p.value ++ flat_map (text_under p.name) ts } ∷ with_texts ps (filter (other_text p.name) ts))
        → with_texts (cond b (record { name = p.name; value = p.value ++ t.1 } ∷ ps) (p ∷ with_text ps t.0 t.1)) ts
        ≡ record { name = p.name; value = p.value ++ (cond b t.1 [] ++ flat_map (text_under p.name) ts) } ∷ with_texts ps (cond (not b) (t ∷ filter (other_text p.name) ts) (filter (other_text p.name) ts))
    by true rest =
        rest (record { name = p.name; value = p.value ++ t.1 }) ps
        ∙ ap (λ (v : List ℕ). record { name = p.name; value = v } ∷ with_texts ps (filter (other_text p.name) ts)) (append_assoc p.value t.1 (flat_map (text_under p.name) ts))
    by false rest = rest p (with_text ps t.0 t.1)

own_texts : (label : Name) (cells : List (Name × Cell)) → flat_map (text_under label) (map as_text cells) ≡ flat_map (text_for label) cells
own_texts label [] = refl
own_texts label ((l, c) ∷ cells) = ap (λ (v : List ℕ). cond (bytes_eq l label) (cell_text c) [] ++ v) (own_texts label cells)

other_texts : (label : Name) (cells : List (Name × Cell)) → filter (other_text label) (map as_text cells) ≡ map as_text (filter (other_cell label) cells)
other_texts label [] = refl
other_texts label ((l, c) ∷ cells) = by (not (bytes_eq l label)) (other_texts label cells)
  where
    by : (b : Bool) → filter (other_text label) (map as_text cells) ≡ map as_text (filter (other_cell label) cells)
        → cond b ((l, cell_text c) ∷ filter (other_text label) (map as_text cells)) (filter (other_text label) (map as_text cells)) ≡ map as_text (cond b ((l, c) ∷ filter (other_cell label) cells) (filter (other_cell label) cells))
    by true h = ap (λ (ts : List (Name × List ℕ)). (l, cell_text c) ∷ ts) h
    by false h = h

other_labels : (label : Name) (cells : List (Name × Cell)) → first_labels (filter (other_cell label) cells) ≡ filter (other_label label) (first_labels cells)
other_labels label [] = refl
other_labels label ((l, c) ∷ cells) = by (bytes_eq l label) refl (other_labels label cells)
  where
    by : (b : Bool) → bytes_eq l label ≡ b → first_labels (filter (other_cell label) cells) ≡ filter (other_label label) (first_labels cells)
        → first_labels (cond (not b) ((l, c) ∷ filter (other_cell label) cells) (filter (other_cell label) cells))
        ≡ cond (not b) (l ∷ filter (other_label label) (filter (other_label l) (first_labels cells))) (filter (other_label label) (filter (other_label l) (first_labels cells)))
    by true e h =
        h ∙ sym (filter-twice (other_label label) (first_labels cells))
        ∙ ap (λ (k : Name). filter (other_label label) (filter (other_label k) (first_labels cells))) (sym ((bytes_eq-Decides l label).0 e))
    by false e h = ap (λ (ks : List Name). l ∷ filter (other_label l) ks) h ∙ ap (λ (ks : List Name). l ∷ ks) (filter-turned (other_label l) (other_label label) (first_labels cells))

-- the cells of a label stand among those that aren't of another
same_texts : (k label : Name) (cells : List (Name × Cell)) → bytes_eq k label ≡ false → flat_map (text_for k) (filter (other_cell label) cells) ≡ flat_map (text_for k) cells
same_texts k label [] d = refl
same_texts k label ((l, c) ∷ cells) d = by (bytes_eq l label) refl (same_texts k label cells d)
  where
    by : (b : Bool) → bytes_eq l label ≡ b → flat_map (text_for k) (filter (other_cell label) cells) ≡ flat_map (text_for k) cells
        → flat_map (text_for k) (cond (not b) ((l, c) ∷ filter (other_cell label) cells) (filter (other_cell label) cells)) ≡ cond (bytes_eq l k) (cell_text c) [] ++ flat_map (text_for k) cells
    by true e h =
        let other : bytes_eq l k ≡ false = ap (λ (x : Name). bytes_eq x k) ((bytes_eq-Decides l label).0 e) ∙ turned k label d in
        h ∙ ap (λ (b : Bool). cond b (cell_text c) [] ++ flat_map (text_for k) cells) (sym other)
    by false e h = ap (λ (v : List ℕ). cond (bytes_eq l k) (cell_text c) [] ++ v) h

same_fixups : (label : Name) (c : Cell) (cells : List (Name × Cell)) (ks : List Name)
    → map (fixup (filter (other_cell label) cells)) (filter (other_label label) ks) ≡ map (fixup ((label, c) ∷ cells)) (filter (other_label label) ks)
same_fixups label c cells [] = refl
same_fixups label c cells (k ∷ ks) = by (bytes_eq k label) refl (same_fixups label c cells ks)
  where
    others : List (Name × Cell)
    others = filter (other_cell label) cells

    by : (b : Bool) → bytes_eq k label ≡ b → map (fixup (filter (other_cell label) cells)) (filter (other_label label) ks) ≡ map (fixup ((label, c) ∷ cells)) (filter (other_label label) ks)
        → map (fixup (filter (other_cell label) cells)) (cond (not b) (k ∷ filter (other_label label) ks) (filter (other_label label) ks))
        ≡ map (fixup ((label, c) ∷ cells)) (cond (not b) (k ∷ filter (other_label label) ks) (filter (other_label label) ks))
    by true e h = h
    by false e h =
        let value : flat_map (text_for k) (filter (other_cell label) cells) ≡ cond (bytes_eq label k) (cell_text c) [] ++ flat_map (text_for k) cells =
        same_texts k label cells e ∙ ap (λ (b : Bool). cond b (cell_text c) [] ++ flat_map (text_for k) cells) (sym (turned k label e)) in
        λ i. record { name = k; value = value i } ∷ h i

listed_up_to : (n : ℕ) (cells : List (Name × Cell)) → length cells ≤ n → with_texts [] (map as_text cells) ≡ fixups cells
listed_up_to n [] few = refl
listed_up_to zero ((l, c) ∷ cells) few = absurd (omega arith)
listed_up_to (suc n) ((l, c) ∷ cells) few =
    let others = filter (other_cell l) cells in
    let rest : with_texts [] (map as_text others) ≡ fixups others = listed_up_to n others (omega (arith, length-filter-le (other_cell l) cells)) in
    let tail : with_texts [] (filter (other_text l) (map as_text cells)) ≡ map (fixup ((l, c) ∷ cells)) (filter (other_label l) (first_labels cells)) =
    ap (with_texts []) (other_texts l cells) ∙ rest
    ∙ ap (map (fixup others)) (other_labels l cells)
    ∙ same_fixups l c cells (first_labels cells) in
    let head : cell_text c ++ flat_map (text_under l) (map as_text cells) ≡ cond (bytes_eq l l) (cell_text c) [] ++ flat_map (text_for l) cells =
    (λ i. cond (sym (itself l) i) (cell_text c) [] ++ own_texts l cells i) in
    peel (map as_text cells) (record { name = l; value = cell_text c }) []
    ∙ (λ i. record { name = l; value = head i } ∷ tail i)

pub listed_fixups : (cells : List (Name × Cell)) → with_texts [] (map as_text cells) ≡ fixups cells
listed_fixups cells = listed_up_to (length cells) cells (omega arith)

-- ---- names

all_filtered : {X : Type 0} (P : X → Type 0) (q : X → Bool) (xs : List X) → AllByRecursion P xs → AllByRecursion P (filter q xs)
all_filtered P q [] h = tt
all_filtered P q (x ∷ xs) h = by (q x) (all_filtered P q xs h.1)
  where
    by : (b : Bool) → AllByRecursion P (filter q xs) → AllByRecursion P (cond b (x ∷ filter q xs) (filter q xs))
    by true r = (h.0, r)
    by false r = r

distinct_filtered : (q : Name → Bool) (xs : List Name) → AreDistinct xs → AreDistinct (filter q xs)
distinct_filtered q [] h = tt
distinct_filtered q (x ∷ xs) h = by (q x) (distinct_filtered q xs h.1)
  where
    by : (b : Bool) → AreDistinct (filter q xs) → AreDistinct (cond b (x ∷ filter q xs) (filter q xs))
    by true r = (all_filtered (λ y. y ≢ x) q xs h.0, r)
    by false r = r

filtered_differ : (l : Name) (ks : List Name) → AllByRecursion (λ y. y ≢ l) (filter (other_label l) ks)
filtered_differ l [] = tt
filtered_differ l (k ∷ ks) = by (bytes_eq k l) refl (filtered_differ l ks)
  where
    by : (b : Bool) → bytes_eq k l ≡ b → AllByRecursion (λ y. y ≢ l) (filter (other_label l) ks) → AllByRecursion (λ y. y ≢ l) (cond (not b) (k ∷ filter (other_label l) ks) (filter (other_label l) ks))
    by true e r = r
    by false e r = (unequal k l e, r)

labels_differ : (cells : List (Name × Cell)) → AreDistinct (first_labels cells)
labels_differ [] = tt
labels_differ ((l, c) ∷ cells) = (filtered_differ l (first_labels cells), distinct_filtered (other_label l) (first_labels cells) (labels_differ cells))

names_of_fixups : (all : List (Name × Cell)) (ks : List Name) → map (λ (p : Property). p.name) (map (fixup all) ks) ≡ ks
names_of_fixups all [] = refl
names_of_fixups all (k ∷ ks) = ap (λ (ls : List Name). k ∷ ls) (names_of_fixups all ks)

pub fixups_differ : (cells : List (Name × Cell)) → AreDistinct (map (λ (p : Property). p.name) (fixups cells))
fixups_differ cells = subst (AreDistinct {X = Name}) (sym (names_of_fixups cells (first_labels cells))) (labels_differ cells)

-- the labels of a table are labels
abbrev AreLabelled : List Property → Type 0
AreLabelled ps = AllByRecursion (λ (p : Property). IsLabel p.name) ps

labelled_text : (ps : List Property) (label : Name) (text : List ℕ) → IsLabel label → AreLabelled ps → AreLabelled (with_text ps label text)
labelled_text [] label text is h = (is, tt)
labelled_text (p ∷ ps) label text is h = by (bytes_eq label p.name) (labelled_text ps label text is h.1)
  where
    by : (b : Bool) → AreLabelled (with_text ps label text) → AreLabelled (cond b (record { name = p.name; value = p.value ++ text } ∷ ps) (p ∷ with_text ps label text))
    by true r = h
    by false r = (h.0, r)

pub labelled_texts : (ts : List (Name × List ℕ)) (ps : List Property) → AreListable ts → AreLabelled ps → AreLabelled (with_texts ps ts)
labelled_texts [] ps all h = h
labelled_texts (t ∷ ts) ps all h = labelled_texts ts (with_text ps t.0 t.1) all.1 (labelled_text ps t.0 t.1 all.0 h)
