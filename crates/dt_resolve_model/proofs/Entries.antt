-- The entries of a value.
use Rattle.std.proofs.Common.{◌≡◌, ◌≢◌, ℕ, suc, zero, ◌+◌, ◌*◌, ◌/◌, ◌%◌, ◌<◌, ◌≤◌, Bool, true, false, not, ◌||◌, ◌==◌, List, take, drop, refl, sym, ap, ◌∙◌, arith}
use Rattle.std.specs.Prelude.{if◌then◌else◌}
use Rattle.std.proofs.lemmas.Bool.Decides.{Decides-eqb}
use Rattle.std.proofs.lemmas.List.{drop-drop}
use Rattle.dt_names.specs.declared.fault.FaultKind.{FaultKind}
use Rattle.dt_names.specs.declared.fault.FaultKind.TheVariants.{BadCells}
use Rattle.dt_resolve_model.specs.Answers.{refuse, answer}
use Rattle.dt_resolve_model.specs.World.{Quad, Value}
use Rattle.dt_resolve_model.specs.Regions.{entries, entries_of, entry_at}

pub eq_false : (m n : ℕ) → m ≢ n → (m == n) ≡ false
eq_false m n ne = step (m == n) refl
  where
    step : (b : Bool) → (m == n) ≡ b → b ≡ false
    step true e = absurd (ne ((Decides-eqb m n).0 e))
    step false e = refl

pub entries_whole : (width : ℕ) (v : Value) → width ≢ 0 → v.size % (4 * width) ≡ 0 → entries_of width v ≡ answer (entries (v.size / (4 * width)) width v.cells)
entries_whole width v some even =
    ap (λ (b : Bool). if b || not (v.size % (4 * width) == 0) then refuse BadCells else answer (entries (v.size / (4 * width)) width v.cells)) (eq_false width 0 some)
    ∙ ap (λ (b : Bool). if not b then refuse BadCells else answer (entries (v.size / (4 * width)) width v.cells)) ((Decides-eqb (v.size % (4 * width)) 0).1 even)

pub entry_there : (kind : FaultKind) (i n w : ℕ) (cells : List Quad) → i < n → entry_at kind i (entries n w cells) ≡ answer (take w (drop (i * w) cells))
entry_there kind i zero w cells lt = absurd (omega arith)
entry_there kind zero (suc n) w cells lt = let none : 0 ≡ 0 * w = omega arith in ap (λ (k : ℕ). answer (take w (drop k cells))) none
entry_there kind (suc i) (suc n) w cells lt =
    let more : suc i * w ≡ w + i * w = grind arith in
    entry_there kind i n w (drop w cells) (omega arith)
    ∙ ap (λ (c : List Quad). answer (take w c)) (drop-drop (i * w) w cells ∙ ap (λ (k : ℕ). drop k cells) (sym more))

pub entry_past : (kind : FaultKind) (i n w : ℕ) (cells : List Quad) → n ≤ i → entry_at kind i (entries n w cells) ≡ refuse kind
entry_past kind i zero w cells le = refl
entry_past kind zero (suc n) w cells le = absurd (omega arith)
entry_past kind (suc i) (suc n) w cells le = entry_past kind i n w (drop w cells) (omega arith)

-- where entries are left, one is
pub one_entry : (count size : ℕ) → 0 < count → size ≤ count * size
one_entry zero size some = absurd (omega arith)
one_entry (suc n) size some = let product : suc n * size ≡ n * size + size = grind arith in omega arith
