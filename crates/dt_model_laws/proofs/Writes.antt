-- The writes of an application are those of its references' cells, with their numbers.
use Rattle.std.proofs.Common.{◌≡◌, ◌↔◌, ℕ, suc, ◌+◌, ◌-◌, ◌^◌, ◌<◌, true, false, List, [], ◌∷◌, ◌++◌, map, codes, refl, sym, ap, ◌∙◌, inl, inr, subst, Option, Some, None, true≢false, arith}
use Rattle.std.specs.Prelude.{unwrap_or, IsSome, option_map, option_and_then, if◌then◌else◌}
use Rattle.std.specs.Str.{bytes_eq}
use Rattle.std.proofs.lemmas.Nat.{from_be_bytes-to_be_bytes_4}
use Rattle.dt_model.specs.Names.{Name}
use Rattle.dt_model.specs.Path.{Path, path_eq, is_bookkeeping}
use Rattle.dt_model.specs.Lists.{IsIn}
use Rattle.dt_model.specs.Meaning.{Item, byte, reference, cell, value_bytes, EachReference, Meaning, IsMeaning, IsPlain}
use Rattle.dt_model.specs.Overlay.{object_number, OverlayReference, inside, outside, Overlay, IsOverlay}
use Rattle.dt_model.specs.Object.{Cell, references_from, IsCellOf, local_cells, Encodes}
use Rattle.dt_model.specs.Represents.{Represents}
use Rattle.dt_model.specs.Numbers.{number_in}
use Rattle.dt_model.specs.Tree.{Reading, nodes_of, value_in}
use Rattle.dt_model.specs.Valid.{IsValid}
use Rattle.dt_model.specs.Applied.{number_at, node_numbered, Write, local_write, label_write, writes, is_at, value_after_writes, symbol}
use Rattle.dt_model.proofs.Tests.{bytes_eq_true, bytes_eq_refl, path_eq_refl, path_eq_true, and_left, and_right, and_both}
use Rattle.dt_model_laws.proofs.Cells.{bytes_from, plain_bytes, offset_from, IsSound, IsWritten, all_cells}
use Rattle.dt_model.proofs.Inside.{IsInside, final_number, each_at, plain_brought}
use Rattle.dt_model.proofs.Finding.{node_of_number}
use Rattle.dt_model_laws.proofs.Given.{phandle_of, symbol_is, object_items, object_phandle}
use Rattle.dt_model_laws.proofs.Numbered.{small_number}

pub number_here : (n : ℕ) (rest : List ℕ) → n < 2 ^ 32 → number_at (cell n ++ rest) 0 ≡ n
number_here n rest small = from_be_bytes-to_be_bytes_4 n small

-- the cell of a reference holds its number
read_cell : {R : Type 0} (f : ℕ → R → ℕ) (k : ℕ) (items : List (Item R)) (o : ℕ) (r : R) → IsIn (o, r) (references_from k items) → f o r < 2 ^ 32 → number_at (bytes_from f k items) (o - k) ≡ f o r
read_cell f k [] o r h small = absurd h
read_cell f k (byte b ∷ items) o r h small =
    let le = offset_from (k + 1) items o r h in
    let e : o - k ≡ suc (o - (k + 1)) = omega arith in
    ap (number_at (b ∷ bytes_from f (k + 1) items)) e ∙ read_cell f (k + 1) items o r h small
read_cell f k (reference s ∷ items) o r (inl same) small =
    let here : o ≡ k = ap (λ c. c.0) same in
    let is : f o r ≡ f k s = ap (λ c. f c.0 c.1) same in
    let zero_left : o - k ≡ 0 = omega arith in
    ap (number_at (cell (f k s) ++ bytes_from f (k + 4) items)) zero_left ∙ number_here (f k s) (bytes_from f (k + 4) items) (subst (λ n. n < 2 ^ 32) is small) ∙ sym is
read_cell f k (reference s ∷ items) o r (inr h) small =
    let le = offset_from (k + 4) items o r h in
    let e : o - k ≡ suc (suc (suc (suc (o - (k + 4))))) = omega arith in
    ap (number_at (cell (f k s) ++ bytes_from f (k + 4) items)) e ∙ read_cell f (k + 4) items o r h small

pub read_value : {R : Type 0} (g : R → ℕ) (items : List (Item R)) (o : ℕ) (r : R) → IsIn (o, r) (references_from 0 items) → g r < 2 ^ 32 → number_at (value_bytes g items) o ≡ g r
read_value g items o r h small =
    let e : o ≡ o - 0 = omega arith in
    ap (λ bs. number_at bs o) (sym (plain_bytes g 0 items)) ∙ ap (number_at (bytes_from (λ _ s. g s) 0 items)) e ∙ read_cell (λ _ s. g s) 0 items o r h small

at_it : (p : Path) (name : Name) (w : Write) → is_at p name w ≡ true → (w.cell.path ≡ p) × (w.cell.property ≡ name)
at_it p name w h = (
  path_eq_true w.cell.path p (and_left (path_eq w.cell.path p) (bytes_eq w.cell.property name) h),
  bytes_eq_true w.cell.property name (and_right (path_eq w.cell.path p) (bytes_eq w.cell.property name) h),
)

it_at : (p : Path) (name : Name) (w : Write) → w.cell.path ≡ p → w.cell.property ≡ name → is_at p name w ≡ true
it_at p name w ep en =
    and_both (path_eq w.cell.path p) (bytes_eq w.cell.property name) (ap (λ q. path_eq q p) ep ∙ path_eq_refl p) (ap (λ n. bytes_eq n name) en ∙ bytes_eq_refl name)

module _ (base object : Reading) (m : Meaning) (o : Overlay) (number local : Path → ℕ) (fixups : List (Name × Cell)) (numbers : List (Path × ℕ))
    (holds : Represents base m number) (meaning : IsMeaning m) (plain : IsPlain m) (valid_base : IsValid base)
    (encodes : Encodes object o local) (overlay : IsOverlay o) (valid : IsValid object)
    (exact : (l : Name) (c : Cell) → IsIn (l, c) fixups ↔ IsCellOf o c (outside l))
    (given : (l : Name) (c : Cell) → IsIn (l, c) fixups → IsSome (m.label l)) (some : (p : Path) → IsInside o (inside p) → (n : ℕ) × (number_in numbers p ≡ Some n)) where
  -- a keyed node of a fragment is found by the number that the object gives it
  own_node : (p : Path) → IsInside o (inside p) → node_numbered (nodes_of object) (local p) ≡ Some p
  own_node p h =
      node_of_number object p (local p) valid (object_phandle object o local encodes overlay p (plain_brought o overlay p h.1) ∙ ap (λ b. if b then Some (cell (local p)) else None) h.0)

  local_number : (c : Cell) (r : Path) (items : List (Item OverlayReference)) → is_bookkeeping c.path ≡ false → EachReference (IsInside o) items → o.value c.path c.property ≡ Some items
      → IsIn (c.offset, inside r) (references_from 0 items) → (local_write object numbers c).number ≡ final_number m number (number_in numbers) (inside r)
  local_number c r items plain_path refs e i =
      let h = each_at (IsInside o) 0 items c.offset (inside r) refs i in
      let v = object_items object o local encodes overlay c.path c.property items plain_path e in
      let read : number_at (unwrap_or (value_in object c.path c.property) []) c.offset ≡ local r =
      ap (λ x. number_at (unwrap_or x []) c.offset) v ∙ read_value (object_number local) items c.offset (inside r) i (small_number (local r) (encodes.high r h.0)) in
      let x = some r h in
      let found : option_and_then (number_in numbers) (node_numbered (nodes_of object) (number_at (unwrap_or (value_in object c.path c.property) []) c.offset)) ≡ Some x.0 =
      ap (λ n. option_and_then (number_in numbers) (node_numbered (nodes_of object) n)) read ∙ ap (option_and_then (number_in numbers)) (own_node r h) ∙ x.1 in
      ap (λ y. unwrap_or y (number_at (unwrap_or (value_in object c.path c.property) []) c.offset)) found ∙ ap (λ y. unwrap_or y 0) (sym x.1)

  label_number : (l : Name) (c : Cell) → IsSome (m.label l) → (label_write base (l, c)).number ≡ final_number m number (number_in numbers) (outside l)
  label_number l c there = step (m.label l) refl
    where
      step : (x : Option Path) → m.label l ≡ x → number_at (unwrap_or (value_in base (unwrap_or (symbol base l) []) (codes "phandle")) []) 0 ≡ number (unwrap_or (m.label l) [])
      step None e = absurd (true≢false (sym (rw e at there)))
      step (Some q) e =
          let key = (meaning.labelled l q e).1 in
          ap (λ y. number_at (unwrap_or (value_in base (unwrap_or y []) (codes "phandle")) []) 0) (symbol_is base m number holds meaning plain valid_base l ∙ e)
          ∙ ap (λ y. number_at (unwrap_or y []) 0) (phandle_of base m number holds meaning plain q key)
          ∙ number_here (number q) [] (small_number (number q) (holds.naming.high q key))
          ∙ ap (λ y. number (unwrap_or y [])) (sym e)

  same_items : (c : Cell) (p : Path) (name : Name) (items items' : List (Item OverlayReference)) → c.path ≡ p → c.property ≡ name → o.value p name ≡ Some items → o.value c.path c.property ≡ Some items' → items' ≡ items
  same_items c p name items items' ep en e e' =
      let again : Some items' ≡ Some items = sym e' ∙ ap (λ q. o.value q c.property) ep ∙ ap (o.value p) en ∙ e in
      cc

  sound_local : (p : Path) (name : Name) (items : List (Item OverlayReference)) (cells : List Cell) (rest : List Write) → is_bookkeeping p ≡ false → EachReference (IsInside o) items → o.value p name ≡ Some items
      → ((c : Cell) → IsIn c cells → IsIn c (local_cells object)) → IsSound p name (final_number m number (number_in numbers)) items rest
      → IsSound p name (final_number m number (number_in numbers)) items (map (local_write object numbers) cells ++ rest)
  sound_local p name items [] rest plain_path refs e sub h = h
  sound_local p name items (c ∷ cells) rest plain_path refs e sub h = (one, sound_local p name items cells rest plain_path refs e (λ d i. sub d (inr i)) h)
    where
      one : is_at p name (local_write object numbers c) ≡ true → (r : OverlayReference) × IsIn (c.offset, r) (references_from 0 items) × ((local_write object numbers c).number ≡ final_number m number (number_in numbers) r)
      one at =
          let here = at_it p name (local_write object numbers c) at in
          let s = (encodes.locals_exact c).0 (sub c (inl refl)) in
          let same = same_items c p name items s.1.0 here.0 here.1 e s.1.1 in
          let i : IsIn (c.offset, inside s.0) (references_from 0 items) = subst (λ xs. IsIn (c.offset, inside s.0) (references_from 0 xs)) same s.1.2 in
          (inside s.0, i, local_number c s.0 s.1.0 (ap is_bookkeeping here.0 ∙ plain_path) (subst (EachReference (IsInside o)) (sym same) refs) s.1.1 s.1.2)

  sound_label : (p : Path) (name : Name) (items : List (Item OverlayReference)) (cells : List (Name × Cell)) → o.value p name ≡ Some items
      → ((x : Name × Cell) → IsIn x cells → IsIn x fixups) → IsSound p name (final_number m number (number_in numbers)) items (map (label_write base) cells)
  sound_label p name items [] e sub = tt
  sound_label p name items ((k, c) ∷ cells) e sub = (one, sound_label p name items cells e (λ d i. sub d (inr i)))
    where
      one : is_at p name (label_write base (k, c)) ≡ true → (r : OverlayReference) × IsIn (c.offset, r) (references_from 0 items) × ((label_write base (k, c)).number ≡ final_number m number (number_in numbers) r)
      one at =
          let here = at_it p name (label_write base (k, c)) at in
          let s = (exact k c).0 (sub (k, c) (inl refl)) in
          let same = same_items c p name items s.0 here.0 here.1 e s.1 in
          let i : IsIn (c.offset, outside k) (references_from 0 items) = subst (λ xs. IsIn (c.offset, outside k) (references_from 0 xs)) same s.2 in
          (outside k, i, label_number k c (given k c (sub (k, c) (inl refl))))

  written_local : (p : Path) (name : Name) (offset : ℕ) (cells : List Cell) (rest : List Write) (c : Cell) → c.path ≡ p → c.property ≡ name → c.offset ≡ offset → IsIn c cells
      → IsWritten p name offset (map (local_write object numbers) cells ++ rest)
  written_local p name offset [] rest c ep en eo i = absurd i
  written_local p name offset (d ∷ cells) rest c ep en eo (inl same) =
      inl (it_at p name (local_write object numbers d) (ap (λ z. z.path) (sym same) ∙ ep) (ap (λ z. z.property) (sym same) ∙ en), ap (λ z. z.offset) (sym same) ∙ eo)
  written_local p name offset (d ∷ cells) rest c ep en eo (inr i) = inr (written_local p name offset cells rest c ep en eo i)

  written_label : (p : Path) (name : Name) (offset : ℕ) (cells : List (Name × Cell)) (x : Name × Cell) → x.1.path ≡ p → x.1.property ≡ name → x.1.offset ≡ offset → IsIn x cells
      → IsWritten p name offset (map (label_write base) cells)
  written_label p name offset [] x ep en eo i = absurd i
  written_label p name offset ((k, d) ∷ cells) x ep en eo (inl same) =
      inl (it_at p name (label_write base (k, d)) (ap (λ z. z.1.path) (sym same) ∙ ep) (ap (λ z. z.1.property) (sym same) ∙ en), ap (λ z. z.1.offset) (sym same) ∙ eo)
  written_label p name offset ((k, d) ∷ cells) x ep en eo (inr i) = inr (written_label p name offset cells x ep en eo i)

  written_later : (p : Path) (name : Name) (offset : ℕ) (cells : List Cell) (rest : List Write) → IsWritten p name offset rest → IsWritten p name offset (map (local_write object numbers) cells ++ rest)
  written_later p name offset [] rest h = h
  written_later p name offset (c ∷ cells) rest h = inr (written_later p name offset cells rest h)

  -- the writes of a value whose references stay inside the fragments are those of its references
  pub all_sound : (p : Path) (name : Name) (items : List (Item OverlayReference)) → is_bookkeeping p ≡ false → EachReference (IsInside o) items → o.value p name ≡ Some items
      → IsSound p name (final_number m number (number_in numbers)) items (writes base object fixups numbers)
  all_sound p name items plain_path refs e = sound_local p name items (local_cells object) (map (label_write base) fixups) plain_path refs e (λ c i. i) (sound_label p name items fixups e (λ x i. i))

  pub all_complete : (p : Path) (name : Name) (items : List (Item OverlayReference)) → o.value p name ≡ Some items → (offset : ℕ) (r : OverlayReference) → IsIn (offset, r) (references_from 0 items)
      → IsWritten p name offset (writes base object fixups numbers)
  all_complete p name items e offset (inside r) i =
      let c : Cell = record { path = p; property = name; offset = offset } in
      written_local p name offset (local_cells object) (map (label_write base) fixups) c refl refl refl ((encodes.locals_exact c).1 (r, (items, e, i)))
  all_complete p name items e offset (outside l) i =
      let c : Cell = record { path = p; property = name; offset = offset } in
      written_later p name offset (local_cells object) (map (label_write base) fixups) (written_label p name offset fixups (l, c) refl refl refl ((exact l c).1 (items, e, i)))

  -- a value of the object, once its cells are written
  pub value_written : (p : Path) (name : Name) (items : List (Item OverlayReference)) → is_bookkeeping p ≡ false → EachReference (IsInside o) items → o.value p name ≡ Some items
      → option_map (value_after_writes p name (writes base object fixups numbers)) (value_in object p name) ≡ Some (value_bytes (final_number m number (number_in numbers)) items)
  value_written p name items plain_path refs e =
      ap (option_map (value_after_writes p name (writes base object fixups numbers))) (object_items object o local encodes overlay p name items plain_path e)
      ∙ ap Some (all_cells p name (object_number local) (final_number m number (number_in numbers)) items (writes base object fixups numbers) (all_sound p name items plain_path refs e) (all_complete p name items e))
