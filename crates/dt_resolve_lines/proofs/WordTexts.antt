-- The words of a line, from the digits of their numbers.
use Rattle.std.proofs.Common.{◌≡◌, ◌++◌, ℕ, List, [], codes, decimal, sym, ap, ◌∙◌, append-nil}
use Rattle.std.specs.Prelude.{if◌then◌else◌}
use Rattle.std.specs.Int.{w128, w32, to_be_bytes}
use Rattle.dt_model.specs.Printed.{hexadecimal, significant}
use Rattle.dt_resolve_model.specs.declared.regions.Region.{Region}
use Rattle.dt_resolve_lines.specs.Lines.{number_words, region_words}

pub region_text : (r : Region) (address size whole : List ℕ) → address ≡ significant (hexadecimal (to_be_bytes w128 r.address)) → size ≡ significant (hexadecimal (to_be_bytes w128 r.size))
    → whole ≡ (codes "0x" ++ address) ++ ((codes " 0x" ++ size) ++ (if r.whole then codes " whole\n" else codes " cut\n")) → whole ≡ region_words r
region_text r address size whole a b e = e ∙ (λ j. (codes "0x" ++ a j) ++ ((codes " 0x" ++ b j) ++ (if r.whole then codes " whole\n" else codes " cut\n")))

-- a number's digits between other words
pub around_text : (n : ℕ) (digits before behind whole : List ℕ) → digits ≡ decimal n → whole ≡ before ++ (digits ++ behind) → before ++ (decimal n ++ behind) ≡ whole
around_text n digits before behind whole a e = ap (λ l. before ++ (l ++ behind)) (sym a) ∙ sym e

-- a cell's digits
pub cell_text : (cell : ℕ) (digits short : List ℕ) → digits ≡ hexadecimal (to_be_bytes w32 cell) → short ≡ significant digits → number_words (to_be_bytes w32 cell) ≡ codes " 0x" ++ (short ++ [])
cell_text cell digits short a b = ap (λ l. codes " 0x" ++ l) (ap significant (sym a) ∙ sym b ∙ sym (append-nil short))
