-- The marks of targets, one write after another, and what they say.
use Rattle.std.proofs.Common.{◌≡◌, ℕ, Bool, true, false, ◌&&◌, ◌||◌, List, [], ◌∷◌, ◌++◌, map, Option, Some, None, codes, refl, sym, ap, subst, ◌∙◌, ◌⊎◌, inl, inr}
use Rattle.std.specs.Prelude.{if◌then◌else◌, nat_eq, unwrap_or}
use Rattle.std.specs.List.{AllByRecursion, list_any}
use Rattle.std.specs.Str.{bytes_eq}
use Rattle.std.specs.Int.{w32, from_be_bytes}
use Rattle.std.specs.Option.{option_or}
use Rattle.std.proofs.lemmas.Bool.{eqb-true, eq-eqb}
use Rattle.dt_model.specs.Meaning.{cell}
use Rattle.dt_model.specs.Names.{Name}
use Rattle.dt_model.specs.Path.{Path, path_eq}
use Rattle.dt_model.specs.Object.{Cell, local_cells, AreFixups}
use Rattle.dt_model.specs.Tree.{Property, Reading, value_in}
use Rattle.dt_model.specs.Applied.{Write as ModelWrite, label_write, local_write, number_at, symbol}
use Rattle.dt_model.proofs.Tests.{path_eq_refl, path_eq_true}
use Rattle.dt_overlay_model.specs.Walk.{is_target, target_label}
use Rattle.dt_overlay_laws.specs.Objects.{HasCells, IsFixup, SymbolHasNumber, fixups_in}
use Rattle.dt_overlay_base.specs.NodeNumbers.{at_node}
use Rattle.dt_overlay_object.specs.Plans.{IsWriteOf, AreWritesOf}
use Rattle.dt_overlay_landing.specs.Marks.{IsMark, AreMarked, is_target_write, with_own, with_labels}
use Rattle.dt_overlay_landing.specs.declared.marks.TargetMark.{TargetMark}
use Rattle.dt_overlay_landing.specs.declared.marks.TargetMark.TheVariants.{Own, Label}
use Rattle.dt_overlay_object.specs.declared.kept.Write.{Write}
use Rattle.dt_overlay_object.specs.declared.object.Object.{Object}
use Rattle.dt_overlay_object.specs.Stages.{IsReadFor}
use Rattle.dt_trees.specs.Placed.{PlacedTree, place_of, reading_of, HasPlacesApart, IsAt}

-- ---- whether a write is into a fragment's target

module _ (t : PlacedTree) (apart : HasPlacesApart t) (f : Name) (k : ℕ) (at : IsAt t (f ∷ []) k) where
  -- it is by its node where it is by its path
  target_same : (x : Write) (w : ModelWrite) → IsWriteOf t x w → is_target_write k x ≡ is_target f w.cell
  target_same x w is = λ i. node i && bytes_eq (is.property i) (codes "target")
    where
      same_test : (a b : Bool) → (a ≡ true → b ≡ true) → (b ≡ true → a ≡ true) → a ≡ b
      same_test true b f g = sym (f refl)
      same_test false true f g = g refl
      same_test false false f g = refl

      node : nat_eq x.node k ≡ path_eq w.cell.path (f ∷ [])
      node = same_test (nat_eq x.node k) (path_eq w.cell.path (f ∷ []))
          (λ e. let path = apart w.cell.path (f ∷ []) k (is.node ∙ ap (λ (n : ℕ). Some n) (eqb-true x.node k e)) at in ap (λ (p : Path). path_eq p (f ∷ [])) path ∙ path_eq_refl (f ∷ []))
          (λ e. let one : Some x.node ≡ Some k = sym is.node ∙ ap (place_of t) (path_eq_true w.cell.path (f ∷ []) e) ∙ at in eq-eqb x.node k cc)

  -- the object's own
  own_mark : (object : Reading) (cells : List Cell) (ws : List Write) (m : Option TargetMark) → AreWritesOf t ws (map (local_write object []) cells)
      → with_own ws k m ≡ (if list_any (is_target f) cells then Some Own else m)
  own_mark object [] [] m h = refl
  own_mark object [] (x ∷ ws) m h = absurd h
  own_mark object (c ∷ cells) [] m h = absurd h
  own_mark object (c ∷ cells) (x ∷ ws) m h =
      own_mark object cells ws (if is_target_write k x then Some Own else m) h.1
      ∙ ap (λ (b : Bool). if list_any (is_target f) cells then Some Own else (if b then Some Own else m)) (target_same x (local_write object [] c) h.0)
      ∙ by (is_target f c) (list_any (is_target f) cells)
    where
      by : (a b : Bool) → (if b then Some Own else (if a then Some Own else m)) ≡ (if a || b then Some Own else m)
      by true true = refl
      by true false = refl
      by false b = refl

  -- labels
  label_mark : (base : Reading) (fixups : List (Name × Cell)) (ws : List Write) (m : Option TargetMark) → AreWritesOf t ws (map (label_write base) fixups)
      → AllByRecursion (λ (x : Name × Cell). SymbolHasNumber base x.0 (label_write base x).number) fixups
      → ((l : Name) × (n : ℕ) × (target_label f fixups ≡ Some l) × SymbolHasNumber base l n × (with_labels ws k m ≡ Some (Label n))) ⊎ ((target_label f fixups ≡ None) × (with_labels ws k m ≡ m))
  label_mark base [] [] m h numbered = inr (refl, refl)
  label_mark base [] (x ∷ ws) m h numbered = absurd h
  label_mark base (y ∷ fixups) [] m h numbered = absurd h
  label_mark base (y ∷ fixups) (x ∷ ws) m h numbered =
      by (is_target f y.1) (target_same x (label_write base y) h.0) (label_mark base fixups ws (if is_target_write k x then Some (Label x.number) else m) h.1 numbered.1)
    where
      kept : (a b : Option Name) (l : Name) → a ≡ Some l → option_or a b ≡ Some l
      kept None b l e = absurd cc
      kept (Some z) b l e = e

      before : Option TargetMark
      before = if is_target_write k x then Some (Label x.number) else m

      by : (b : Bool) → is_target_write k x ≡ b
          → ((l : Name) × (n : ℕ) × (target_label f fixups ≡ Some l) × SymbolHasNumber base l n × (with_labels ws k (if is_target_write k x then Some (Label x.number) else m) ≡ Some (Label n)))
          ⊎ ((target_label f fixups ≡ None) × (with_labels ws k (if is_target_write k x then Some (Label x.number) else m) ≡ (if is_target_write k x then Some (Label x.number) else m)))
          → ((l : Name) × (n : ℕ) × (option_or (target_label f fixups) (if b then Some y.0 else None) ≡ Some l) × SymbolHasNumber base l n × (with_labels ws k (if is_target_write k x then Some (Label x.number) else m) ≡ Some (Label n)))
          ⊎ ((option_or (target_label f fixups) (if b then Some y.0 else None) ≡ None) × (with_labels ws k (if is_target_write k x then Some (Label x.number) else m) ≡ m))
      by b e (inl w) = inl (w.0, w.1, kept (target_label f fixups) (if b then Some y.0 else None) w.0 w.2, w.3, w.4)
      by true e (inr none) = inl (
        y.0,
        x.number,
        ap (λ (o : Option Name). option_or o (Some y.0)) none.0,
        subst (SymbolHasNumber base y.0) (sym h.0.number) numbered.0,
        none.1 ∙ ap (λ (b : Bool). if b then Some (Label x.number) else m) e,
      )
      by false e (inr none) = inr (ap (λ (o : Option Name). option_or o None) none.0, none.1 ∙ ap (λ (b : Bool). if b then Some (Label x.number) else m) e)

-- ---- the numbers of labels

label_sound : (base : Reading) (l : Name) (c : Cell) (n : ℕ) → HasCells base → SymbolHasNumber base l n → SymbolHasNumber base l (label_write base (l, c)).number
label_sound base l c n cells has =
    let value : value_in base (unwrap_or (symbol base l) []) (codes "phandle") ≡ Some (cell n) = ap (λ (o : Option Path). value_in base (unwrap_or o []) (codes "phandle")) has.1 ∙ has.2 in
    let number : number_at (unwrap_or (value_in base (unwrap_or (symbol base l) []) (codes "phandle")) []) 0 ≡ from_be_bytes w32 (cell n) =
    ap (λ (o : Option (List ℕ)). number_at (unwrap_or o []) 0) value in
    (has.0, has.1, has.2 ∙ ap (λ (v : List ℕ). Some v) (cells has.0 (cell n) has.2 ∙ ap cell (sym number)))

labels_sound : (base object : Reading) (ps : List Property) (fixups : List (Name × Cell)) → HasCells base → AreFixups ps fixups → AllByRecursion (IsFixup base object) ps
    → AllByRecursion (λ (x : Name × Cell). SymbolHasNumber base x.0 (label_write base x).number) fixups
labels_sound base object [] fixups has_cells none h = subst (AllByRecursion (λ (x : Name × Cell). SymbolHasNumber base x.0 (label_write base x).number)) (sym none) tt
labels_sound base object (p ∷ ps) fixups has_cells (cells, rest, e, texts, more) h =
    subst (AllByRecursion (λ (x : Name × Cell). SymbolHasNumber base x.0 (label_write base x).number)) (sym e) (of (labels_sound base object ps rest has_cells more h.1) cells)
  where
    of : AllByRecursion (λ (x : Name × Cell). SymbolHasNumber base x.0 (label_write base x).number) rest → (cs : List Cell)
        → AllByRecursion (λ (x : Name × Cell). SymbolHasNumber base x.0 (label_write base x).number) (map (λ c. (p.name, c)) cs ++ rest)
    of behind [] = behind
    of behind (c ∷ cs) = (label_sound base p.name c h.0.number has_cells h.0.numbered, of behind cs)

-- ---- all of them

pub are_marked : (base : Reading) (t : PlacedTree) → HasPlacesApart t → (fixups : List (Name × Cell)) (own labels : List Write) (marks : List (ℕ × TargetMark)) → HasCells base
    → AreWritesOf t own (map (local_write (reading_of t) []) (local_cells (reading_of t))) → AreWritesOf t labels (map (label_write base) fixups)
    → AreFixups (fixups_in (reading_of t)) fixups → AllByRecursion (IsFixup base (reading_of t)) (fixups_in (reading_of t))
    → ((k : ℕ) → at_node marks k ≡ with_labels labels k (with_own own k None)) → AreMarked base fixups t marks
are_marked base t apart fixups own labels marks cells own_writes label_writes listed well is f k at =
    subst (IsMark base (reading_of t) fixups f) (sym (is k))
    (by (list_any (is_target f) (local_cells (reading_of t))) refl
    (label_mark t apart f k at base fixups labels (with_own own k None) label_writes (labels_sound base (reading_of t) (fixups_in (reading_of t)) fixups cells listed well)))
  where
    owned : with_own own k None ≡ (if list_any (is_target f) (local_cells (reading_of t)) then Some Own else None)
    owned = own_mark t apart f k at (reading_of t) (local_cells (reading_of t)) own None own_writes

    by : (b : Bool) → list_any (is_target f) (local_cells (reading_of t)) ≡ b
        → ((l : Name) × (n : ℕ) × (target_label f fixups ≡ Some l) × SymbolHasNumber base l n × (with_labels labels k (with_own own k None) ≡ Some (Label n)))
        ⊎ ((target_label f fixups ≡ None) × (with_labels labels k (with_own own k None) ≡ with_own own k None))
        → IsMark base (reading_of t) fixups f (with_labels labels k (with_own own k None))
    by b e (inl w) = subst (IsMark base (reading_of t) fixups f) (sym w.4) (w.0, w.2, w.3)
    by true e (inr none) = subst (IsMark base (reading_of t) fixups f) (sym (none.1 ∙ owned ∙ ap (λ (b : Bool). if b then Some Own else None) e)) (none.0, e)
    by false e (inr none) = subst (IsMark base (reading_of t) fixups f) (sym (none.1 ∙ owned ∙ ap (λ (b : Bool). if b then Some Own else None) e)) (none.0, e)

-- those of an object that was read
pub marks_read : {V : Type 0} (tree : V → PlacedTree) (base object : Reading) (o : Object V) (read : IsReadFor tree base object o) → HasPlacesApart (tree o.tree.now) → HasCells base
    → (own labels : List Write) (marks : List (ℕ × TargetMark)) → own ≡ o.own_writes.items → labels ≡ o.label_writes.items → ((k : ℕ) → at_node marks k ≡ with_labels labels k (with_own own k None))
    → AreMarked base read.fixups (tree o.tree.now) marks
marks_read tree base object o read apart cells own labels marks of_own of_labels is =
    subst (λ (r : Reading). (h : IsReadFor tree base r o) → AreMarked base h.fixups (tree o.tree.now) marks) read.seen.reads
    (λ h. are_marked base (tree o.tree.now) apart h.fixups o.own_writes.items o.label_writes.items marks cells h.seen.own h.seen.labels h.listed h.well.fixups
    (λ k. is k ∙ (λ i. with_labels (of_labels i) k (with_own (of_own i) k None))))
    read
