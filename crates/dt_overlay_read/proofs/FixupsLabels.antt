-- What is listed for labels, as a loop goes over the properties of `__fixups__`.
use Rattle.std.proofs.Common.{◌≡◌, ℕ, ◌<◌, ◌^◌, List, [], ◌∷◌, ◌++◌, map, Option, Some, unwrap_or, refl, sym, ap, subst, ◌∙◌, ◌⊎◌, inl, inr, append_assoc, codes}
use Rattle.std.specs.List.{AllByRecursion}
use Rattle.std.proofs.lemmas.List.{append-nil}
use Rattle.std.proofs.lemmas.Nat.{from_be_bytes-to_be_bytes_4}
use Rattle.dt_model.specs.Meaning.{cell}
use Rattle.dt_model.specs.Names.{Name}
use Rattle.dt_model.specs.Object.{Cell, HasCell}
use Rattle.dt_model.specs.Path.{Path}
use Rattle.dt_model.specs.Tree.{Property, Reading, value_in}
use Rattle.dt_model.specs.Applied.{Write, symbol, number_at, label_write}
use Rattle.dt_names.specs.declared.fault.FaultKind.{FaultKind}
use Rattle.dt_names.specs.declared.fault.FaultKind.TheVariants.{NoMemory}
use Rattle.dt_trees.specs.Placed.{PlacedTree, reading_of}
use Rattle.dt_model.proofs.Tests.{each_append}
use Rattle.dt_overlay_laws.specs.Objects.{SymbolHasNumber, IsFixup, fixups_in}
use Rattle.dt_overlay_laws.specs.Refusals.{WhyNoFixup, HasNoFixup}
use Rattle.dt_overlay_object.specs.declared.kept.Write.{Write as KeptWrite}
use Rattle.dt_overlay_object.specs.Plans.{AreWritesOf, ListsFixups}
use Rattle.dt_overlay_read.specs.Fixups.{numbered, ListsCells, ListsLabels}
use Rattle.dt_overlay_read.proofs.FixupsTold.{AreWritesOf-append}

-- ---- one label

-- what is written for a label is its number
label_numbered : (base : Reading) (l : Name) (n : ℕ) (c : Cell) → SymbolHasNumber base l n → n < 2 ^ 32 → label_write base (l, c) ≡ numbered n c
label_numbered base l n c has fits =
    let value : value_in base (unwrap_or (symbol base l) []) (codes "phandle") ≡ Some (cell n) = ap (λ (o : Option Path). value_in base (unwrap_or o []) (codes "phandle")) has.1 ∙ has.2 in
    let number : number_at (unwrap_or (value_in base (unwrap_or (symbol base l) []) (codes "phandle")) []) 0 ≡ n =
    ap (λ (o : Option (List ℕ)). number_at (unwrap_or o []) 0) value ∙ from_be_bytes-to_be_bytes_4 n fits in
    ap (numbered' c) number
  where
    numbered' : Cell → ℕ → Write
    numbered' d k = numbered k d

labels_numbered : (base : Reading) (l : Name) (n : ℕ) (cells : List Cell) → SymbolHasNumber base l n → n < 2 ^ 32 → map (label_write base) (map (λ c. (l, c)) cells) ≡ map (numbered n) cells
labels_numbered base l n [] has fits = refl
labels_numbered base l n (c ∷ cells) has fits = λ i. label_numbered base l n c has fits i ∷ labels_numbered base l n cells has fits i

each_there : (object : Reading) (l : Name) (cells : List Cell) → AllByRecursion (HasCell object) cells → AllByRecursion (λ (x : Name × Cell). HasCell object x.1) (map (λ c. (l, c)) cells)
each_there object l [] h = tt
each_there object l (c ∷ cells) h = (h.0, each_there object l cells h.1)

-- the cells of a property's value get the number of its label
pub ListsLabels-one : (base : Reading) (object : PlacedTree) (x : Property) (n : ℕ) (old new : List KeptWrite) → SymbolHasNumber base x.name n → n < 2 ^ 32 → ListsCells object x.value n old new
    → ListsLabels base object (x ∷ []) old new
ListsLabels-one base object x n old new has fits told = record {
  more = told.more;
  appended = told.appended;
  fixups = map (λ (c : Cell). (x.name, c)) told.cells;
  listed = (told.cells, [], sym (append-nil (map (λ (c : Cell). (x.name, c)) told.cells)), told.listed.texts, refl);
  writes = subst (λ (ws : List Write). AreWritesOf object told.more ws) (sym (labels_numbered base x.name n told.cells has fits)) told.writes;
  cells = each_there (reading_of object) x.name told.cells told.listed.there;
  well = (record { cells = told.cells; listed = told.listed; number = n; numbered = has }, tt);
}

-- ---- several

pub ListsLabels-none : (base : Reading) (object : PlacedTree) (out : List KeptWrite) → ListsLabels base object [] out out
ListsLabels-none base object out = record { more = []; appended = sym (append-nil out); fixups = []; listed = refl; writes = tt; cells = tt; well = tt }

map-append : (base : Reading) (xs ys : List (Name × Cell)) → map (label_write base) (xs ++ ys) ≡ map (label_write base) xs ++ map (label_write base) ys
map-append base [] ys = refl
map-append base (x ∷ xs) ys = ap (λ (ws : List Write). label_write base x ∷ ws) (map-append base xs ys)

both_there : (object : Reading) (xs ys : List (Name × Cell)) → AllByRecursion (λ (x : Name × Cell). HasCell object x.1) xs → AllByRecursion (λ (x : Name × Cell). HasCell object x.1) ys
    → AllByRecursion (λ (x : Name × Cell). HasCell object x.1) (xs ++ ys)
both_there object [] ys h k = k
both_there object (x ∷ xs) ys h k = (h.0, both_there object xs ys h.1 k)

-- what is listed for one, and then for others
pub ListsLabels-more : (base : Reading) (object : PlacedTree) (x : Property) (rest : List Property) (old mid new : List KeptWrite) → ListsLabels base object (x ∷ []) old mid → ListsLabels base object rest mid new
    → ListsLabels base object (x ∷ rest) old new
ListsLabels-more base object x rest old mid new first others =
    let cells = first.listed.0 in
    let alone : first.fixups ≡ map (λ (c : Cell). (x.name, c)) cells =
    first.listed.2 ∙ ap (λ (fs : List (Name × Cell)). map (λ (c : Cell). (x.name, c)) cells ++ fs) first.listed.4 ∙ append-nil (map (λ (c : Cell). (x.name, c)) cells) in
    record {
      more = first.more ++ others.more;
      appended = others.appended ∙ ap (λ (xs : List KeptWrite). xs ++ others.more) first.appended ∙ append_assoc old first.more others.more;
      fixups = first.fixups ++ others.fixups;
      listed = (cells, others.fixups, ap (λ (fs : List (Name × Cell)). fs ++ others.fixups) alone, first.listed.3, others.listed);
      writes = subst (λ (ws : List Write). AreWritesOf object (first.more ++ others.more) ws) (sym (map-append base first.fixups others.fixups))
          (AreWritesOf-append object first.more others.more (map (label_write base) first.fixups) (map (label_write base) others.fixups) first.writes others.writes);
      cells = both_there (reading_of object) first.fixups others.fixups first.cells others.cells;
      well = (first.well.0, others.well);
    }

-- ---- as a loop goes on

-- what is listed for the properties that are left completes what is listed for all, and those before have numbers
pub record LabelsLeft (base : Reading) (object : PlacedTree) (all left : List Property) (before after : List KeptWrite) : Type 0 where
  pub listed : (new : List KeptWrite) → ListsLabels base object left after new → ListsLabels base object all before new
  pub front : List Property
  pub split : all ≡ front ++ left
  pub well : AllByRecursion (IsFixup base (reading_of object)) front

pub labels_begin : (base : Reading) (object : PlacedTree) (all left : List Property) (out : List KeptWrite) → left ≡ all → LabelsLeft base object all left out out
labels_begin base object all left out e = record {
  listed = λ new l. subst (λ (ps : List Property). ListsLabels base object ps out new) e l;
  front = [];
  split = sym e;
  well = tt;
}

pub labels_step : (base : Reading) (object : PlacedTree) (all left rest : List Property) (x : Property) (before after out : List KeptWrite) → left ≡ x ∷ rest → LabelsLeft base object all left before after
    → ListsLabels base object (x ∷ []) after out → LabelsLeft base object all rest before out
labels_step base object all left rest x before after out e so_far first = record {
  listed = λ new others. so_far.listed new (subst (λ (ps : List Property). ListsLabels base object ps after new) (sym e) (ListsLabels-more base object x rest after out new first others));
  front = so_far.front ++ x ∷ [];
  split = so_far.split ∙ ap (λ (ps : List Property). so_far.front ++ ps) e ∙ sym (append_assoc so_far.front (x ∷ []) rest);
  well = each_append (IsFixup base (reading_of object)) so_far.front (x ∷ []) so_far.well first.well;
}

-- ---- all of them

pub fixups_listed : (base : Reading) (object : PlacedTree) (ps : List Property) (old new : List KeptWrite) → fixups_in (reading_of object) ≡ ps → ListsLabels base object ps old new → ListsFixups base object old new
fixups_listed base object ps old new e labels =
    let l : ListsLabels base object (fixups_in (reading_of object)) old new = subst (λ (qs : List Property). ListsLabels base object qs old new) (sym e) labels in
    record { more = l.more; appended = l.appended; fixups = l.fixups; listed = l.listed; writes = l.writes; cells = l.cells; well = l.well }

pub labels_over : (base : Reading) (object : PlacedTree) (all left : List Property) (before after : List KeptWrite) → fixups_in (reading_of object) ≡ all → left ≡ [] → LabelsLeft base object all left before after
    → ListsFixups base object before after
labels_over base object all left before after is e so_far =
    fixups_listed base object all before after is (so_far.listed after (subst (λ (ps : List Property). ListsLabels base object ps after after) (sym e) (ListsLabels-none base object after)))

-- ---- why not

-- the first property whose cells get no number
pub first_unnumbered : (base : Reading) (object : PlacedTree) (all left rest : List Property) (x : Property) (before after : List KeptWrite) (kind : FaultKind) → fixups_in (reading_of object) ≡ all → left ≡ x ∷ rest
    → LabelsLeft base object all left before after → (kind ≡ NoMemory) ⊎ WhyNoFixup kind base (reading_of object) x → (kind ≡ NoMemory) ⊎ HasNoFixup kind base (reading_of object)
first_unnumbered base object all left rest x before after kind is e so_far (inl memory) = inl memory
first_unnumbered base object all left rest x before after kind is e so_far (inr why) = inr (record {
  front = so_far.front;
  property = x;
  back = rest;
  are = is ∙ so_far.split ∙ ap (λ (ps : List Property). so_far.front ++ ps) e;
  well = so_far.well;
  why = why;
})
