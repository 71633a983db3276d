-- Sets of words, and the longest front of a text that is in one.
use Rattle.std.specs.Prelude.{◌≡◌, ℕ, ◌≤◌, Bool, true, false, List, [], ◌∷◌, ◌++◌, length, Option, Some, None, ◌⊎◌}
use Rattle.std.specs.Borrow.{Bor}

-- all bytes pass the test
abbrev pub Each : (ℕ → Bool) → List ℕ → Type 0
Each p [] = Unit {0}
Each p (b ∷ w) = (p b ≡ true) × Each p w

-- this word
abbrev pub Word : List ℕ → List ℕ → Type 0
Word k w = w ≡ k

-- one byte that passes the test
abbrev pub One : (ℕ → Bool) → List ℕ → Type 0
One p w = (b : ℕ) × (w ≡ b ∷ []) × (p b ≡ true)

-- a word of either set
abbrev pub Either : (P Q : List ℕ → Type 0) → List ℕ → Type 0
Either P Q w = P w ⊎ Q w

-- this word is nowhere in it
abbrev pub Without : List ℕ → List ℕ → Type 0
Without k w = (u v : List ℕ) → w ≡ u ++ (k ++ v) → ⊥

-- the first byte passes the test
abbrev pub Begins : (ℕ → Bool) → List ℕ → Type 0
Begins p [] = ⊥
Begins p (b ∷ w) = p b ≡ true

-- a word whose first byte passes the test
abbrev pub Starting : (ℕ → Bool) → (List ℕ → Type 0) → List ℕ → Type 0
Starting p P w = Begins p w × P w

-- a word of the first set, and one of the second
abbrev pub Then : (List ℕ → Type 0) → (List ℕ → Type 0) → List ℕ → Type 0
Then P Q w = (u v : List ℕ) × (w ≡ u ++ v) × P u × Q v

-- one of these words
abbrev pub AnyOf : List (List ℕ) → List ℕ → Type 0
AnyOf [] w = ⊥
AnyOf (k ∷ ks) w = (w ≡ k) ⊎ AnyOf ks w

-- the first byte, if there is one, fails the test
abbrev pub Stops : (ℕ → Bool) → List ℕ → Type 0
Stops p [] = Unit {0}
Stops p (b ∷ w) = p b ≡ false

-- rest is what is left after all bytes at the front that pass the test
abbrev pub RunsTo : (ℕ → Bool) → List ℕ → List ℕ → Type 0
RunsTo p text rest = (w : List ℕ) × (text ≡ w ++ rest) × Each p w × Stops p rest

-- w is the longest front of the text that is in the set, and rest what is after it
pub record IsLongestWord (P : List ℕ → Type 0) (text w rest : List ℕ) : Type 0 where
  pub split : text ≡ w ++ rest
  pub fits : P w
  pub longest : (v more : List ℕ) → text ≡ v ++ more → P v → length v ≤ length w

-- no front of the text is in the set
abbrev pub NoneFits : (List ℕ → Type 0) → List ℕ → Type 0
NoneFits P text = (v more : List ℕ) → text ≡ v ++ more → P v → ⊥

-- what is left after the longest front that is in the set, if there is one
abbrev pub Skips : (List ℕ → Type 0) → List ℕ → Option (Bor (List ℕ)) → Type 0
Skips P text None = NoneFits P text
Skips P text (Some rest) = (w : List ℕ) × IsLongestWord P text w rest.now
