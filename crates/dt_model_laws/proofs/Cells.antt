-- Writing the cells of a value's references, in any order, gives the value with the new numbers.
use Rattle.std.proofs.Common.{◌≡◌, ◌≢◌, ℕ, suc, ◌+◌, ◌-◌, ◌≤◌, Bool, true, false, List, [], ◌∷◌, ◌++◌, take, drop, refl, sym, ap, ◌∙◌, arith, ◌⊎◌, inl, inr, subst, ◌==◌, eq-eqb, true≢false}
use Rattle.std.specs.Prelude.{if◌then◌else◌}
use Rattle.std.proofs.lemmas.Bool.Decides.{Decides-eqb}
use Rattle.dt_model.specs.Names.{Name}
use Rattle.dt_model.specs.Path.{Path}
use Rattle.dt_model.specs.Lists.{IsIn}
use Rattle.dt_model.specs.Meaning.{Item, byte, reference, cell, value_bytes}
use Rattle.dt_model.specs.Object.{references_from}
use Rattle.dt_model.specs.Applied.{with_cell, Write, is_at, value_after_writes}

-- each write of the property is one of a reference's cell, with the reference's number
abbrev pub IsSound : {R : Type 0} → Path → Name → (R → ℕ) → List (Item R) → List Write → Type 0
IsSound p name final items [] = Unit {0}
IsSound {R} p name final items (w ∷ ws) = (is_at p name w ≡ true → (r : R) × IsIn (w.cell.offset, r) (references_from 0 items) × (w.number ≡ final r)) × IsSound p name final items ws

-- some write of the property has this offset
abbrev pub IsWritten : Path → Name → ℕ → List Write → Type 0
IsWritten p name o [] = ⊥
IsWritten p name o (w ∷ ws) = ((is_at p name w ≡ true) × (w.cell.offset ≡ o)) ⊎ IsWritten p name o ws

-- the bytes of a value whose first offset is k, where a reference's number may go by its offset
abbrev pub bytes_from : {R : Type 0} → (ℕ → R → ℕ) → ℕ → List (Item R) → List ℕ
bytes_from f k [] = []
bytes_from f k (byte b ∷ items) = b ∷ bytes_from f (k + 1) items
bytes_from f k (reference r ∷ items) = cell (f k r) ++ bytes_from f (k + 4) items

pub plain_bytes : {R : Type 0} (g : R → ℕ) (k : ℕ) (items : List (Item R)) → bytes_from (λ o r. g r) k items ≡ value_bytes g items
plain_bytes g k [] = refl
plain_bytes g k (byte b ∷ items) = ap (λ bs. b ∷ bs) (plain_bytes g (k + 1) items)
plain_bytes g k (reference r ∷ items) = ap (λ bs. cell (g r) ++ bs) (plain_bytes g (k + 4) items)

-- offsets do not lie before the first one
pub offset_from : {R : Type 0} (k : ℕ) (items : List (Item R)) (o : ℕ) (r : R) → IsIn (o, r) (references_from k items) → k ≤ o
offset_from k [] o r h = absurd h
offset_from k (byte b ∷ items) o r h = let le = offset_from (k + 1) items o r h in omega arith
offset_from k (reference s ∷ items) o r (inl e) = let same = ap (λ c. c.0) e in omega arith
offset_from k (reference s ∷ items) o r (inr h) = let le = offset_from (k + 4) items o r h in omega arith

-- one offset has one reference
pub one_reference : {R : Type 0} (k : ℕ) (items : List (Item R)) (o : ℕ) (r s : R) → IsIn (o, r) (references_from k items) → IsIn (o, s) (references_from k items) → r ≡ s
one_reference k [] o r s h h' = absurd h
one_reference k (byte b ∷ items) o r s h h' = one_reference (k + 1) items o r s h h'
one_reference k (reference t ∷ items) o r s (inl e) (inl e') = ap (λ c. c.1) e ∙ sym (ap (λ c. c.1) e')
one_reference k (reference t ∷ items) o r s (inl e) (inr h') = let same = ap (λ c. c.0) e in let le = offset_from (k + 4) items o s h' in absurd (omega arith)
one_reference k (reference t ∷ items) o r s (inr h) (inl e') = let same = ap (λ c. c.0) e' in let le = offset_from (k + 4) items o r h in absurd (omega arith)
one_reference k (reference t ∷ items) o r s (inr h) (inr h') = one_reference (k + 4) items o r s h h'

-- only the numbers at the value's own references count
pub same_bytes : {R : Type 0} (f g : ℕ → R → ℕ) (k : ℕ) (items : List (Item R)) → ((o : ℕ) (r : R) → IsIn (o, r) (references_from k items) → f o r ≡ g o r) → bytes_from f k items ≡ bytes_from g k items
same_bytes f g k [] same = refl
same_bytes f g k (byte b ∷ items) same = ap (λ bs. b ∷ bs) (same_bytes f g (k + 1) items same)
same_bytes f g k (reference r ∷ items) same =
    ap (λ n. cell n ++ bytes_from f (k + 4) items) (same k r (inl refl))
    ∙ ap (λ bs. cell (g k r) ++ bs) (same_bytes f g (k + 4) items (λ o s h. same o s (inr h)))

-- the numbers with the one at an offset replaced
abbrev pub at_offset : {R : Type 0} → ℕ → ℕ → (ℕ → R → ℕ) → ℕ → R → ℕ
at_offset o n f j r = if j == o then n else f j r

at_offset_same : {R : Type 0} (o n : ℕ) (f : ℕ → R → ℕ) (r : R) → at_offset o n f o r ≡ n
at_offset_same o n f r = ap (λ b. if b then n else f o r) (eq-eqb o o refl)

at_offset_other : {R : Type 0} (o n : ℕ) (f : ℕ → R → ℕ) (j : ℕ) (r : R) → j ≢ o → at_offset o n f j r ≡ f j r
at_offset_other o n f j r ne = grind arith

with_cell_later : (b : ℕ) (bs : List ℕ) (j n : ℕ) → with_cell (b ∷ bs) (suc j) n ≡ b ∷ with_cell bs j n
with_cell_later b bs j n = let e : suc j + 4 ≡ suc (j + 4) = omega arith in ap (λ i. b ∷ (take j bs ++ (cell n ++ drop i (b ∷ bs)))) e

four_later : (m : ℕ) (bs : List ℕ) (j n : ℕ) → with_cell (cell m ++ bs) (suc (suc (suc (suc j)))) n ≡ cell m ++ with_cell bs j n
four_later m bs j n = let e : suc (suc (suc (suc j))) + 4 ≡ suc (suc (suc (suc (j + 4)))) = omega arith in ap (λ i. cell m ++ (take j bs ++ (cell n ++ drop i (cell m ++ bs)))) e

-- writing the cell of one reference changes its number and no other
pub one_cell : {R : Type 0} (f : ℕ → R → ℕ) (k : ℕ) (items : List (Item R)) (o : ℕ) (r : R) (n : ℕ) → IsIn (o, r) (references_from k items) → with_cell (bytes_from f k items) (o - k) n ≡ bytes_from (at_offset o n f) k items
one_cell f k [] o r n h = absurd h
one_cell f k (byte b ∷ items) o r n h =
    let le = offset_from (k + 1) items o r h in
    let e : o - k ≡ suc (o - (k + 1)) = omega arith in
    ap (λ j. with_cell (b ∷ bytes_from f (k + 1) items) j n) e
    ∙ with_cell_later b (bytes_from f (k + 1) items) (o - (k + 1)) n
    ∙ ap (λ bs. b ∷ bs) (one_cell f (k + 1) items o r n h)
one_cell f k (reference s ∷ items) o r n (inl same) =
    let here : o ≡ k = ap (λ c. c.0) same in
    let zero_left : o - k ≡ 0 = omega arith in
    let rest = bytes_from f (k + 4) items in
    let number : n ≡ at_offset o n f k s = sym (at_offset_same o n f s) ∙ ap (λ j. at_offset o n f j s) here in
    ap (λ j. with_cell (cell (f k s) ++ rest) j n) zero_left
    ∙ ap (λ m. cell m ++ rest) number
    ∙ ap (λ bs. cell (at_offset o n f k s) ++ bs) (same_bytes f (at_offset o n f) (k + 4) items (λ j t h. let le = offset_from (k + 4) items j t h in sym (at_offset_other o n f j t (omega arith))))
one_cell f k (reference s ∷ items) o r n (inr h) =
    let le = offset_from (k + 4) items o r h in
    let j = o - (k + 4) in
    let e : o - k ≡ suc (suc (suc (suc j))) = omega arith in
    let rest = bytes_from f (k + 4) items in
    let other : f k s ≡ at_offset o n f k s = sym (at_offset_other o n f k s (omega arith)) in
    ap (λ i. with_cell (cell (f k s) ++ rest) i n) e
    ∙ four_later (f k s) rest j n
    ∙ ap (λ bs. cell (f k s) ++ bs) (one_cell f (k + 4) items o r n h)
    ∙ ap (λ m. cell m ++ bytes_from (at_offset o n f) (k + 4) items) other

-- the numbers of its references after the writes
abbrev pub numbers_after : {R : Type 0} → Path → Name → List Write → (ℕ → R → ℕ) → ℕ → R → ℕ
numbers_after p name [] f = f
numbers_after p name (w ∷ ws) f = numbers_after p name ws (if is_at p name w then at_offset w.cell.offset w.number f else f)

pub written_from : {R : Type 0} (p : Path) (name : Name) (final : R → ℕ) (items : List (Item R)) (ws : List Write) (f : ℕ → R → ℕ) → IsSound p name final items ws → value_after_writes p name ws (bytes_from f 0 items) ≡ bytes_from (numbers_after p name ws f) 0 items
written_from p name final items [] f sound = refl
written_from {R} p name final items (w ∷ ws) f sound = step (λ g. written_from p name final items ws g sound.1) (is_at p name w) refl
  where
    step : ((g : ℕ → R → ℕ) → value_after_writes p name ws (bytes_from g 0 items) ≡ bytes_from (numbers_after p name ws g) 0 items) → (b : Bool) → is_at p name w ≡ b → value_after_writes p name (w ∷ ws) (bytes_from f 0 items) ≡ bytes_from (numbers_after p name (w ∷ ws) f) 0 items
    step more true e =
        let x = sound.0 e in
        let at : w.cell.offset ≡ w.cell.offset - 0 = omega arith in
        let one = ap (λ j. with_cell (bytes_from f 0 items) j w.number) at ∙ one_cell f 0 items w.cell.offset x.0 w.number x.1 in
        rw e (ap (λ bs. value_after_writes p name ws bs) one ∙ more (at_offset w.cell.offset w.number f))
    step more false e = rw e (more f)

pub numbers_final : {R : Type 0} (p : Path) (name : Name) (final : R → ℕ) (items : List (Item R)) (ws : List Write) (f : ℕ → R → ℕ) (o : ℕ) (r : R) → IsSound p name final items ws → IsIn (o, r) (references_from 0 items) → IsWritten p name o ws ⊎ (f o r ≡ final r) → numbers_after p name ws f o r ≡ final r
numbers_final p name final items [] f o r sound here (inl h) = absurd h
numbers_final p name final items [] f o r sound here (inr e) = e
numbers_final {R} p name final items (w ∷ ws) f o r sound here known = step (λ g k. numbers_final p name final items ws g o r sound.1 here k) (is_at p name w) refl (o == w.cell.offset) refl
  where
    step : ((g : ℕ → R → ℕ) → IsWritten p name o ws ⊎ (g o r ≡ final r) → numbers_after p name ws g o r ≡ final r) → (b : Bool) → is_at p name w ≡ b → (c : Bool) → (o == w.cell.offset) ≡ c → numbers_after p name (w ∷ ws) f o r ≡ final r
    step more true e true same =
        let x = sound.0 e in
        let o_is : o ≡ w.cell.offset = (Decides-eqb o w.cell.offset).0 same in
        let at_w : IsIn (o, x.0) (references_from 0 items) = subst (λ j. IsIn (j, x.0) (references_from 0 items)) (sym o_is) x.1 in
        let r_is : x.0 ≡ r = one_reference 0 items o x.0 r at_w here in
        rw e (more (at_offset w.cell.offset w.number f)
        (inr (ap (λ b. if b then w.number else f o r) same ∙ x.2 ∙ ap final r_is)))
    step more true e false other =
        let keeps : at_offset w.cell.offset w.number f o r ≡ f o r = ap (λ b. if b then w.number else f o r) other in
        let still : IsWritten p name o ws ⊎ (at_offset w.cell.offset w.number f o r ≡ final r) =
        elim known [
          | inl h ↦ elim h [ inl q ↦ absurd (true≢false (sym (eq-eqb o w.cell.offset (sym q.1)) ∙ other)) | inr later ↦ inl later ]
          | inr k ↦ inr (keeps ∙ k)
        ] in
        rw e (more (at_offset w.cell.offset w.number f) still)
    step more false e c _ =
        let still : IsWritten p name o ws ⊎ (f o r ≡ final r) =
        elim known [
          | inl h ↦ elim h [ inl q ↦ absurd (true≢false (sym q.0 ∙ e)) | inr later ↦ inl later ]
          | inr k ↦ inr k
        ] in
        rw e (more f still)

-- writing the new number into the cell of each reference, in any order, gives the value with the new numbers
pub all_cells : {R : Type 0} (p : Path) (name : Name) (first final : R → ℕ) (items : List (Item R)) (ws : List Write) → IsSound p name final items ws → ((o : ℕ) (r : R) → IsIn (o, r) (references_from 0 items) → IsWritten p name o ws) → value_after_writes p name ws (value_bytes first items) ≡ value_bytes final items
all_cells p name first final items ws sound complete =
    ap (λ bs. value_after_writes p name ws bs) (sym (plain_bytes first 0 items))
    ∙ written_from p name final items ws (λ o r. first r) sound
    ∙ same_bytes (numbers_after p name ws (λ o r. first r)) (λ o r. final r) 0 items (λ o r h. numbers_final p name final items ws (λ o' r'. first r') o r sound h (inl (complete o r h)))
    ∙ plain_bytes final 0 items
