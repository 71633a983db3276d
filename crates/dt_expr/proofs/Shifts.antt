-- Shifts by 64 and more.
use Rattle.std.proofs.Common.{◌≡◌, ℕ, ◌+◌, ◌-◌, ◌*◌, ◌/◌, ◌%◌, ◌^◌, ◌<◌, ◌≤◌, ap, ◌∙◌, arith}
use Rattle.std.proofs.Math.Nat.{div-eq_of_lt, pow-le-pow_right}
use Rattle.std.proofs.lemmas.Nat.{pow-add, mod-mul-add}

pub left_out : (n b : ℕ) → 64 ≤ b → n * 2 ^ b % 2 ^ 64 ≡ 0
left_out n b h =
    let split : b ≡ (b - 64) + 64 = omega arith in
    let power : 2 ^ b ≡ 2 ^ (b - 64) * 2 ^ 64 = ap (λ (k : ℕ). 2 ^ k) split ∙ pow-add 2 (b - 64) 64 in
    let whole : n * (2 ^ (b - 64) * 2 ^ 64) ≡ n * 2 ^ (b - 64) * 2 ^ 64 + 0 = omega arith in
    ap (λ (m : ℕ). n * m % 2 ^ 64) power ∙ (ap (λ (m : ℕ). m % 2 ^ 64) whole ∙ mod-mul-add (n * 2 ^ (b - 64)) (2 ^ 64) 0 (omega arith))

pub right_out : (n b : ℕ) → n < 2 ^ 64 → 64 ≤ b → n / 2 ^ b ≡ 0
right_out n b below h =
    let wide : 2 ^ 64 ≤ 2 ^ b = pow-le-pow_right (omega arith) h in
    let less : n < 2 ^ b = omega arith in
    div-eq_of_lt less
