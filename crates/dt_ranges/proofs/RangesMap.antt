-- Steps through the ranges of a bus.
use Rattle.std.proofs.Common.{◌≡◌, ℕ, suc, zero, ◌+◌, ◌-◌, ◌*◌, ◌^◌, ◌<◌, ◌≤◌, Bool, true, false, ◌&&◌, List, [], ◌∷◌, take, drop, refl, ap, ◌∙◌, arith}
use Rattle.std.specs.Prelude.{if◌then◌else◌, nat_le, nat_lt}
use Rattle.std.proofs.lemmas.Bool.Decides.{Decides-ltb}
use Rattle.std.proofs.lemmas.Bool.{le-leb, leb-true}
use Rattle.dt_names.specs.declared.fault.FaultKind.TheVariants.{Overflow}
use Rattle.dt_resolve_model.specs.declared.regions.BusAddress.{BusAddress}
use Rattle.dt_resolve_model.specs.declared.regions.RangeCells.{RangeCells}
use Rattle.dt_resolve_model.specs.Answers.{Answer, refuse, answer, ◌>>=◌}
use Rattle.dt_resolve_model.specs.World.{Quad}
use Rattle.dt_resolve_model.specs.Regions.{joined, cells_at, entries, mapped_by, fitting}

not_below : (x n : ℕ) → n ≤ x → nat_lt x n ≡ false
not_below x n h = step (nat_lt x n) refl
  where
    step : (b : Bool) → nat_lt x n ≡ b → b ≡ false
    step true e = absurd (let lt = (Decides-ltb x n).0 e in omega arith)
    step false e = refl

pub is_held : (begin a len : ℕ) → begin ≤ a → a - begin < len → (nat_le begin a && nat_lt (a - begin) len) ≡ true
is_held begin a len le lt = rw (le-leb begin a le, (Decides-ltb (a - begin) len).1 lt) refl

pub is_past : (begin a len : ℕ) → len ≤ a - begin → (nat_le begin a && nat_lt (a - begin) len) ≡ false
is_past begin a len le = rw (not_below (a - begin) len le) (none (nat_le begin a))
  where
    none : (b : Bool) → b && false ≡ false
    none true = refl
    none false = refl

pub is_before : (begin a len : ℕ) → a < begin → (nat_le begin a && nat_lt (a - begin) len) ≡ false
is_before begin a len lt = step (nat_le begin a) refl
  where
    step : (b : Bool) → nat_le begin a ≡ b → (b && nat_lt (a - begin) len) ≡ false
    step true e = absurd (let le = leb-true begin a e in omega arith)
    step false e = refl

-- one entry less is left
pub entry_left : (count done width bytes bytes' : ℕ) → done < count → bytes ≡ (count - done) * width → bytes' ≡ bytes - width → bytes' ≡ (count - (done + 1)) * width
entry_left count done width bytes bytes' lt h h' =
    let k = count - (done + 1) in
    let is : count - done ≡ k + 1 = omega arith in
    let product : (k + 1) * width ≡ k * width + width = grind arith in
    let all : bytes ≡ k * width + width = h ∙ ap (λ (n : ℕ). n * width) is ∙ product in
    omega arith

-- an address past all that cells can hold
pub too_far : (cells x : ℕ) (whole : Bool) → cells ≤ 4 → 2 ^ 128 ≤ x → fitting cells (record { address = x; whole = whole }) ≡ refuse Overflow
too_far cells x whole le far = rw (not_below x (2 ^ (32 * cells)) (low cells le)) refl
  where
    low : (cells : ℕ) → cells ≤ 4 → 2 ^ (32 * cells) ≤ x
    low zero le = omega arith
    low (suc zero) le = omega arith
    low (suc (suc zero)) le = omega arith
    low (suc (suc (suc zero))) le = omega arith
    low (suc (suc (suc (suc zero)))) le = omega arith
    low (suc (suc (suc (suc (suc n))))) le = absurd (omega arith)

-- a cells_at of an entry_at, as a cells_at of the cells that it begins
pub part_of : (w from n : ℕ) (cells : List Quad) → from + n ≤ w → cells_at from n (take w cells) ≡ cells_at from n cells
part_of w zero n cells h = shorter w n cells (omega arith)
  where
    shorter : (w n : ℕ) (cells : List Quad) → n ≤ w → take n (take w cells) ≡ take n cells
    shorter w zero cells h = refl
    shorter zero (suc n) cells h = absurd (omega arith)
    shorter (suc w) (suc n) [] h = refl
    shorter (suc w) (suc n) (c ∷ cells) h = ap (λ (x : List Quad). c ∷ x) (shorter w n cells (omega arith))
part_of zero (suc from) n cells h = absurd (omega arith)
part_of (suc w) (suc from) n [] h = refl
part_of (suc w) (suc from) n (c ∷ cells) h = part_of w from n cells (omega arith)

-- a range that does not hold the address is passed over
pub mapped_later : (widths : RangeCells) (size : ℕ) (at : BusAddress) (w left : ℕ) (cells : List Quad) (begin len : ℕ) → w ≡ widths.child + widths.above + widths.length → joined (cells_at 0 widths.child cells) ≡ answer begin → joined (cells_at (widths.child + widths.above) widths.length cells) ≡ answer len → (nat_le begin at.address && nat_lt (at.address - begin) len) ≡ false
    → mapped_by widths size at (entries (suc left) w cells) ≡ mapped_by widths size at (entries left w (drop w cells))
mapped_later widths size at w left cells begin len is h k e =
    let h' : joined (cells_at 0 widths.child (take w cells)) ≡ answer begin = ap joined (part_of w 0 widths.child cells (omega arith)) ∙ h in
    let k' : joined (cells_at (widths.child + widths.above) widths.length (take w cells)) ≡ answer len = ap joined (part_of w (widths.child + widths.above) widths.length cells (omega arith)) ∙ k in
    ap (λ (x : Answer ℕ). x >>= λ (child : ℕ). joined (cells_at (widths.child + widths.above) widths.length (take w cells)) >>= λ (l : ℕ). if nat_le child at.address && nat_lt (at.address - child) l then (joined (cells_at widths.child widths.above (take w cells)) >>= λ (above : ℕ). answer (record { address = above + (at.address - child); whole = at.whole && nat_le size (l - (at.address - child)) })) else mapped_by widths size at (entries left w (drop w cells))) h'
    ∙ ap (λ (x : Answer ℕ). x >>= λ (l : ℕ). if nat_le begin at.address && nat_lt (at.address - begin) l then (joined (cells_at widths.child widths.above (take w cells)) >>= λ (above : ℕ). answer (record { address = above + (at.address - begin); whole = at.whole && nat_le size (l - (at.address - begin)) })) else mapped_by widths size at (entries left w (drop w cells))) k'
    ∙ ap (λ (b : Bool). if b then (joined (cells_at widths.child widths.above (take w cells)) >>= λ (above : ℕ). answer (record { address = above + (at.address - begin); whole = at.whole && nat_le size (len - (at.address - begin)) })) else mapped_by widths size at (entries left w (drop w cells))) e

pub mapped_here : (widths : RangeCells) (size : ℕ) (at : BusAddress) (w left : ℕ) (cells : List Quad) (begin len target : ℕ) → w ≡ widths.child + widths.above + widths.length → joined (cells_at 0 widths.child cells) ≡ answer begin → joined (cells_at (widths.child + widths.above) widths.length cells) ≡ answer len → (nat_le begin at.address && nat_lt (at.address - begin) len) ≡ true → joined (cells_at widths.child widths.above cells) ≡ answer target
    → mapped_by widths size at (entries (suc left) w cells) ≡ answer (record { address = target + (at.address - begin); whole = at.whole && nat_le size (len - (at.address - begin)) })
mapped_here widths size at w left cells begin len target is h k e l =
    let h' : joined (cells_at 0 widths.child (take w cells)) ≡ answer begin = ap joined (part_of w 0 widths.child cells (omega arith)) ∙ h in
    let k' : joined (cells_at (widths.child + widths.above) widths.length (take w cells)) ≡ answer len = ap joined (part_of w (widths.child + widths.above) widths.length cells (omega arith)) ∙ k in
    let l' : joined (cells_at widths.child widths.above (take w cells)) ≡ answer target = ap joined (part_of w widths.child widths.above cells (omega arith)) ∙ l in
    ap (λ (x : Answer ℕ). x >>= λ (child : ℕ). joined (cells_at (widths.child + widths.above) widths.length (take w cells)) >>= λ (l : ℕ). if nat_le child at.address && nat_lt (at.address - child) l then (joined (cells_at widths.child widths.above (take w cells)) >>= λ (above : ℕ). answer (record { address = above + (at.address - child); whole = at.whole && nat_le size (l - (at.address - child)) })) else mapped_by widths size at (entries left w (drop w cells))) h'
    ∙ ap (λ (x : Answer ℕ). x >>= λ (l : ℕ). if nat_le begin at.address && nat_lt (at.address - begin) l then (joined (cells_at widths.child widths.above (take w cells)) >>= λ (above : ℕ). answer (record { address = above + (at.address - begin); whole = at.whole && nat_le size (l - (at.address - begin)) })) else mapped_by widths size at (entries left w (drop w cells))) k'
    ∙ ap (λ (b : Bool). if b then (joined (cells_at widths.child widths.above (take w cells)) >>= λ (above : ℕ). answer (record { address = above + (at.address - begin); whole = at.whole && nat_le size (len - (at.address - begin)) })) else mapped_by widths size at (entries left w (drop w cells))) e
    ∙ ap (λ (x : Answer ℕ). x >>= λ (above : ℕ). answer (record { address = above + (at.address - begin); whole = at.whole && nat_le size (len - (at.address - begin)) })) l'

-- one cell more after a number of at most three
pub more_low : (i n c : ℕ) → i ≤ 3 → n < 2 ^ (32 * i) → c < 2 ^ 32 → (n * 2 ^ 32 + c < 2 ^ (32 * (i + 1))) × (n * 2 ^ 32 + c < 2 ^ 128)
more_low zero n c le low h = (omega arith, omega arith)
more_low (suc zero) n c le low h = (omega arith, omega arith)
more_low (suc (suc zero)) n c le low h = (omega arith, omega arith)
more_low (suc (suc (suc zero))) n c le low h = (omega arith, omega arith)
more_low (suc (suc (suc (suc i)))) n c le low h = absurd (omega arith)
