-- Two tests of one fact are the same.
use Rattle.std.proofs.Common.{◌≡◌, Bool, true, false, refl}
use Rattle.std.specs.Prelude.{◌↔◌, IsTrue}
use Rattle.std.proofs.lemmas.Bool.{false≢true}

pub same_test : {P : Type 0} (a b : Bool) → IsTrue a ↔ P → (b ≡ true) ↔ P → a ≡ b
same_test true true f g = refl
same_test false false f g = refl
same_test true false f g = absurd (false≢true (g.1 (f.0 refl)))
same_test false true f g = absurd (false≢true (f.1 (g.0 refl)))
