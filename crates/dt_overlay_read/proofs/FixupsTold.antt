-- The cells of which texts tell, and what is listed for them, as a loop goes over the texts.
use Rattle.std.proofs.Common.{◌≡◌, ◌≢◌, ◌↔◌, ℕ, List, [], ◌∷◌, ◌++◌, map, refl, sym, ap, subst, ◌∙◌, append_assoc}
use Rattle.std.specs.List.{AllByRecursion}
use Rattle.std.proofs.lemmas.List.{append-nil}
use Rattle.dt_model.specs.Object.{Cell, HasCell}
use Rattle.dt_model.specs.Tree.{Reading}
use Rattle.dt_model.specs.Applied.{Write}
use Rattle.dt_trees.specs.Placed.{PlacedTree, reading_of}
use Rattle.dt_overlay_texts.specs.Texts.{AreTexts, TellCells, TextsAreOne, CellTextsAreTexts}
use Rattle.dt_overlay_laws.specs.Objects.{AreCellsOf}
use Rattle.dt_overlay_object.specs.declared.kept.Write.{Write as KeptWrite}
use Rattle.dt_overlay_object.specs.Plans.{AreWritesOf}
use Rattle.dt_overlay_read.specs.Fixups.{numbered, ListsTold, ListsCells}
use Rattle.dt_overlay_texts.specs.Cells.{HasTold}

-- the value is texts of cells that the object has
abbrev pub HasCells : Reading → List ℕ → Type 0
HasCells object value = (cells : List Cell) × AreCellsOf object value cells

-- each of the texts tells of a cell that the object has
abbrev pub HasAllTold : Reading → List (List ℕ) → Type 0
HasAllTold object texts = (cells : List Cell) × TellCells texts cells × AllByRecursion (HasCell object) cells

-- where there are texts there are cells
some_told : (texts : List (List ℕ)) (cells : List Cell) → texts ≢ [] → TellCells texts cells → cells ≢ []
some_told [] cells some told = absurd (some refl)
some_told (x ∷ texts) [] some told = absurd told
some_told (x ∷ texts) (c ∷ cells) some told = λ e. cc

-- texts that tell of cells that the object has are a value of such
are_told : CellTextsAreTexts → (object : Reading) (value : List ℕ) (texts : List (List ℕ)) (cells : List Cell) → AreTexts value texts → texts ≢ []
    → TellCells texts cells → AllByRecursion (HasCell object) cells → AreCellsOf object value cells
are_told law object value texts cells are some told there =
    record { texts = law.tell value texts cells are told; some = some_told texts cells some told; there = there }

-- ---- whether they are all there

-- the texts of a value decide
pub told_begins : TextsAreOne → CellTextsAreTexts → (object : Reading) (value : List ℕ) (texts : List (List ℕ)) → AreTexts value texts → texts ≢ []
    → HasCells object value ↔ HasAllTold object texts
told_begins one law object value texts are some = (
  λ has. (
      let told = law.told value has.0 has.1.texts in
      (has.0, subst (λ (xs : List (List ℕ)). TellCells xs has.0) (one value told.0 texts told.1 are) told.2, has.1.there)),
  λ has. (has.0, are_told law object value texts has.0 are some has.1 has.2),
)

-- where the first tells of such a cell, the others decide
pub told_others : (object : Reading) (value text : List ℕ) (left rest : List (List ℕ)) (c : Cell) → left ≡ text ∷ rest → HasTold object text c
    → HasCells object value ↔ HasAllTold object left → HasCells object value ↔ HasAllTold object rest
told_others object value text left rest c e told so_far = (
  λ has. others (subst (HasAllTold object) e (so_far.0 has)),
  λ has. so_far.1 (subst (HasAllTold object) (sym e) (c ∷ has.0, (told.0, has.1), (told.1, has.2))),
)
  where
    others : HasAllTold object (text ∷ rest) → HasAllTold object rest
    others ([], told, there) = absurd told
    others (d ∷ cells, told, there) = (cells, told.1, there.1)

-- where it tells of none, the value isn't such texts
pub told_not : (object : Reading) (text : List ℕ) (left rest : List (List ℕ)) → left ≡ text ∷ rest → ((c : Cell) → ¬ HasTold object text c) → ¬ HasAllTold object left
told_not object text left rest e never has = first (subst (HasAllTold object) e has)
  where
    first : ¬ HasAllTold object (text ∷ rest)
    first ([], told, there) = told
    first (c ∷ cells, told, there) = never c (told.0, there.0)

-- ---- what is listed for them

-- writes behind writes
pub AreWritesOf-append : (slots : PlacedTree) (xs ys : List KeptWrite) (ws vs : List Write) → AreWritesOf slots xs ws → AreWritesOf slots ys vs → AreWritesOf slots (xs ++ ys) (ws ++ vs)
AreWritesOf-append slots [] ys [] vs a b = b
AreWritesOf-append slots [] ys (w ∷ ws) vs a b = absurd a
AreWritesOf-append slots (x ∷ xs) ys [] vs a b = absurd a
AreWritesOf-append slots (x ∷ xs) ys (w ∷ ws) vs a b = (a.0, AreWritesOf-append slots xs ys ws vs a.1 b)

-- what is listed for no texts is nothing
pub ListsTold-none : (object : PlacedTree) (n : ℕ) (out : List KeptWrite) → ListsTold object [] n out out
ListsTold-none object n out = record { more = []; appended = sym (append-nil out); cells = []; told = tt; there = tt; writes = tt }

-- what is listed for one, and then for others
pub ListsTold-more : (object : PlacedTree) (text : List ℕ) (rest : List (List ℕ)) (n : ℕ) (old mid new : List KeptWrite) → ListsTold object (text ∷ []) n old mid → ListsTold object rest n mid new
    → ListsTold object (text ∷ rest) n old new
ListsTold-more object text rest n old mid new first others = by first.cells first.told first.there first.writes
  where
    by : (cells : List Cell) → TellCells (text ∷ []) cells → AllByRecursion (HasCell (reading_of object)) cells → AreWritesOf object first.more (map (numbered n) cells) → ListsTold object (text ∷ rest) n old new
    by [] told there writes = absurd told
    by (c ∷ d ∷ cells) told there writes = absurd told.1
    by (c ∷ []) told there writes = record {
      more = first.more ++ others.more;
      appended = others.appended ∙ ap (λ (xs : List KeptWrite). xs ++ others.more) first.appended ∙ append_assoc old first.more others.more;
      cells = c ∷ others.cells;
      told = (told.0, others.told);
      there = (there.0, others.there);
      writes = AreWritesOf-append object first.more others.more (numbered n c ∷ []) (map (numbered n) others.cells) writes others.writes;
    }

-- ---- as a loop goes on

-- what is listed for the texts that are left completes what is listed for the value
pub record CellsLeft (object : PlacedTree) (value : List ℕ) (left : List (List ℕ)) (n : ℕ) (before after : List KeptWrite) : Type 0 where
  pub listed : (new : List KeptWrite) → ListsTold object left n after new → ListsCells object value n before new
  pub has : HasCells (reading_of object) value ↔ HasAllTold (reading_of object) left

pub cells_begin : TextsAreOne → CellTextsAreTexts → (object : PlacedTree) (value : List ℕ) (texts left : List (List ℕ)) (n : ℕ) (out : List KeptWrite) → left ≡ texts → AreTexts value texts → texts ≢ []
    → CellsLeft object value left n out out
cells_begin one law object value texts left n out e are some = record {
  listed = λ new told. whole new (subst (λ (xs : List (List ℕ)). ListsTold object xs n out new) e told);
  has = subst (λ (xs : List (List ℕ)). HasCells (reading_of object) value ↔ HasAllTold (reading_of object) xs) (sym e) (told_begins one law (reading_of object) value texts are some);
}
  where
    whole : (new : List KeptWrite) → ListsTold object texts n out new → ListsCells object value n out new
    whole new told = record {
      more = told.more;
      appended = told.appended;
      cells = told.cells;
      listed = are_told law (reading_of object) value texts told.cells are some told.told told.there;
      writes = told.writes;
    }

pub cells_step : (object : PlacedTree) (value text : List ℕ) (left rest : List (List ℕ)) (n : ℕ) (before after out : List KeptWrite) → left ≡ text ∷ rest → CellsLeft object value left n before after
    → ListsTold object (text ∷ []) n after out → CellsLeft object value rest n before out
cells_step object value text left rest n before after out e so_far first = record {
  listed = λ new others. so_far.listed new (subst (λ (xs : List (List ℕ)). ListsTold object xs n after new) (sym e) (ListsTold-more object text rest n after out new first others));
  has = by first.cells first.told first.there;
}
  where
    by : (cells : List Cell) → TellCells (text ∷ []) cells → AllByRecursion (HasCell (reading_of object)) cells → HasCells (reading_of object) value ↔ HasAllTold (reading_of object) rest
    by [] told there = absurd told
    by (c ∷ cells) told there = told_others (reading_of object) value text left rest c e (told.0, there.0) so_far.has
