-- The cells of bytes: of some of them, and how many there are.
use Rattle.std.proofs.Common.{◌≡◌, ℕ, suc, zero, ◌+◌, ◌*◌, ◌/◌, ◌≤◌, List, [], ◌∷◌, take, drop, length, refl, ap, ◌∙◌, arith}
use Rattle.std.specs.Int.{w32, from_be_bytes}
use Rattle.std.proofs.lemmas.List.{drop-drop, length-drop}
use Rattle.dt_resolve_model.specs.World.{Quad, figure, quads_of}

pub four_cell : (bytes : List ℕ) → 4 ≤ length bytes → quads_of bytes ≡ figure (from_be_bytes w32 (take 4 bytes)) ∷ quads_of (drop 4 bytes)
four_cell (a ∷ b ∷ c ∷ d ∷ bytes) h = refl
four_cell (a ∷ b ∷ c ∷ []) h = absurd (omega arith)
four_cell (a ∷ b ∷ []) h = absurd (omega arith)
four_cell (a ∷ []) h = absurd (omega arith)
four_cell [] h = absurd (omega arith)

-- the cell at an offset, and those after it
pub next_cell : (at : ℕ) (bytes : List ℕ) → at + 4 ≤ length bytes → quads_of (drop at bytes) ≡ figure (from_be_bytes w32 (take 4 (drop at bytes))) ∷ quads_of (drop (at + 4) bytes)
next_cell at bytes h =
    let long : 4 ≤ length (drop at bytes) = omega (arith, length-drop at bytes) in
    four_cell (drop at bytes) long ∙ ap (λ (x : (List ℕ)). figure (from_be_bytes w32 (take 4 (drop at bytes))) ∷ quads_of x) (drop-drop 4 at bytes)

pub quads_drop : (n : ℕ) (bytes : List ℕ) → quads_of (drop (4 * n) bytes) ≡ drop n (quads_of bytes)
quads_drop zero bytes = refl
quads_drop (suc n) bytes = ap (λ (i : ℕ). quads_of (drop i bytes)) (let e : 4 * suc n ≡ suc (suc (suc (suc (4 * n)))) = omega arith in e) ∙ step bytes (quads_drop n)
  where
    step : (bytes : List ℕ) → ((bs : (List ℕ)) → quads_of (drop (4 * n) bs) ≡ drop n (quads_of bs)) → quads_of (drop (suc (suc (suc (suc (4 * n))))) bytes) ≡ drop (suc n) (quads_of bytes)
    step [] more = refl
    step (a ∷ []) more = refl
    step (a ∷ b ∷ []) more = refl
    step (a ∷ b ∷ c ∷ []) more = refl
    step (a ∷ b ∷ c ∷ d ∷ bytes) more = more bytes

pub quads_take : (n : ℕ) (bytes : List ℕ) → quads_of (take (4 * n) bytes) ≡ take n (quads_of bytes)
quads_take zero bytes = refl
quads_take (suc n) bytes = ap (λ (i : ℕ). quads_of (take i bytes)) (let e : 4 * suc n ≡ suc (suc (suc (suc (4 * n)))) = omega arith in e) ∙ step bytes (quads_take n)
  where
    step : (bytes : List ℕ) → ((bs : (List ℕ)) → quads_of (take (4 * n) bs) ≡ take n (quads_of bs)) → quads_of (take (suc (suc (suc (suc (4 * n))))) bytes) ≡ take (suc n) (quads_of bytes)
    step [] more = refl
    step (a ∷ []) more = refl
    step (a ∷ b ∷ []) more = refl
    step (a ∷ b ∷ c ∷ []) more = refl
    step (a ∷ b ∷ c ∷ d ∷ bytes) more = ap (λ (x : List Quad). figure (from_be_bytes w32 (a ∷ b ∷ c ∷ d ∷ [])) ∷ x) (more bytes)

pub quad_count : (bytes : List ℕ) → length (quads_of bytes) ≡ length bytes / 4
quad_count (a ∷ b ∷ c ∷ d ∷ bytes) = let more = quad_count bytes in omega arith
quad_count (a ∷ b ∷ c ∷ []) = refl
quad_count (a ∷ b ∷ []) = refl
quad_count (a ∷ []) = refl
quad_count [] = refl
