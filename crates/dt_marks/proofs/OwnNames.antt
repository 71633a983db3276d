-- The names of the two nodes are names.
use Rattle.std.proofs.Common.{◌≡◌, ℕ, ◌||◌, ◌&&◌, Bool, true, false, IsTrue, List, [], ◌∷◌, codes, refl, arith}
use Rattle.std.specs.Prelude.{◌==◌}
use Rattle.std.specs.List.{AllByRecursion, list_all}
use Rattle.std.proofs.lemmas.List.Elements.{All-from_recursion}
use Rattle.dt_model.specs.Names.{IsNodeName, is_name_byte}

all_pass : (test : ℕ → Bool) (xs : List ℕ) → list_all test xs ≡ true → AllByRecursion (λ b. IsTrue (test b)) xs
all_pass test [] h = tt
all_pass test (x ∷ xs) h = let both = parts (test x) (list_all test xs) h in (both.0, all_pass test xs both.1)
  where
    parts : (a b : Bool) → (a && b) ≡ true → (a ≡ true) × (b ≡ true)
    parts true b h = (refl, h)
    parts false b h = absurd cc

pub fixups_named : IsNodeName (codes "__fixups__")
fixups_named = record {
  not_empty = omega arith;
  short = omega arith;
  allowed = All-from_recursion (λ b. IsTrue (is_name_byte b || (b == 64))) (codes "__fixups__") (all_pass (λ b. is_name_byte b || (b == 64)) (codes "__fixups__") refl);
  one_at = omega arith;
  not_first = λ e. cc;
}

pub local_fixups_named : IsNodeName (codes "__local_fixups__")
local_fixups_named = record {
  not_empty = omega arith;
  short = omega arith;
  allowed = All-from_recursion (λ b. IsTrue (is_name_byte b || (b == 64))) (codes "__local_fixups__") (all_pass (λ b. is_name_byte b || (b == 64)) (codes "__local_fixups__") refl);
  one_at = omega arith;
  not_first = λ e. cc;
}
