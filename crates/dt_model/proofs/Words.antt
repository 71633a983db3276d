-- Words and padding.
use Rattle.std.proofs.Common.{◌≡◌, ℕ, ◌+◌, ◌^◌, ◌<◌, ◌≤◌, List, ◌++◌, length, take, drop, Some, ap, ◌∙◌, arith}
use Rattle.std.specs.Int.{w32, from_be_bytes}
use Rattle.std.proofs.lemmas.Bool.{le-leb}
use Rattle.std.proofs.lemmas.List.{take_at, drop_at, length-append}
use Rattle.std.proofs.lemmas.Nat.{from_be_bytes-to_be_bytes_4}
use Rattle.dt_model.specs.Format.{Token, word, word_at, IsPadded}
use Rattle.dt_model.specs.Lexing.{padded, padded_token}

pub word_value : (n : ℕ) → n < 2 ^ 32 → from_be_bytes w32 (word n) ≡ n
word_value n lt = from_be_bytes-to_be_bytes_4 n lt

-- a word that stands there is read
pub word_again : (at n : ℕ) (front w more bytes : List ℕ) → bytes ≡ front ++ (w ++ more) → length front ≡ at → length w ≡ 4 → from_be_bytes w32 w ≡ n → word_at bytes at ≡ Some n
word_again at n front w more bytes whole at-is four value =
    let long : at + 4 ≤ length bytes = omega (arith, ap length whole, length-append front (w ++ more), length-append w more) in
    let here : take 4 (drop at bytes) ≡ w = ap (λ (x : List ℕ). take 4 (drop at x)) whole ∙ ap (take 4) (drop_at front (w ++ more) at at-is) ∙ take_at w more 4 four in
    rw (le-leb _ _ long) (ap (λ (x : List ℕ). Some (from_be_bytes w32 x)) here ∙ ap (λ (x : ℕ). Some x) value)

-- a token whose padding reaches within the bytes
pub padded_again : (size : ℕ) (bytes : List ℕ) (token : Token) (n : ℕ) → padded size ≡ n → n ≤ length bytes → padded_token size bytes token ≡ Some (token, n)
padded_again size bytes token n same le =
    let long : padded size ≤ length bytes = rw same le in
    rw (le-leb _ _ long) (ap (λ (x : ℕ). Some (token, x)) same)

-- the length of a content with its padding
pub length-padded : (content own : List ℕ) → IsPadded content own → length own ≡ padded (length content)
length-padded content own p =
    let len : length own ≡ length content + length p.padding = ap length p.whole ∙ length-append content p.padding in
    let a = p.aligned in
    let b = p.short in
    omega arith
