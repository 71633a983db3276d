-- The hashes of keys, and keys that differ from those before them.
use Rattle.std.specs.Prelude.{◌≢◌, ℕ, List, [], ◌∷◌, ◌++◌, take, fold, bit_xor}
use Rattle.std.specs.List.{AllByRecursion}
use Rattle.std.specs.Hash as fed
use Rattle.std.specs.Hash.FoldHasher as folding
use Rattle.dt_read.specs.Keys.{Key, number_of}

-- the tables' hash of the key, behind a seed
unfoldable pub hash_of : ℕ → Key → ℕ
hash_of seed k = folding.finish (fold folding.write folding.initial (fed.u64 (bit_xor seed k.owner) ++ (fed.usize (number_of k.sort) ++ k.bytes ∷ [])))

-- the keys before that place differ from the key
abbrev pub IsNewIn : List Key → ℕ → Key → Type 0
IsNewIn keys i k = AllByRecursion (λ other. other ≢ k) (take i keys)
