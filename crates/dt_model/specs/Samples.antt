-- Some blobs by which the definition of the format can be tried.
use Rattle.std.specs.Prelude.{ℕ, ◌+◌, List, [], ◌∷◌, ◌++◌, length, codes}
use Rattle.std.specs.List.{flat_map}
use Rattle.dt_model.specs.Tree.{no_nodes, Reading}
use Rattle.dt_model.specs.Format.{word, reservation_block}

abbrev pub words : List ℕ → List ℕ
words numbers = flat_map word numbers

-- a header of 40 bytes, no reservations (16 bytes), a structure block and a strings block
abbrev pub blob_of : (structure strings : List ℕ) → List ℕ
blob_of structure strings =
    words (0xd00dfeed ∷ (56 + length structure + length strings) ∷ 56 ∷ (56 + length structure) ∷ 40 ∷ 17 ∷ 16 ∷ 0 ∷ length strings ∷ length structure ∷ [])
    ++ (reservation_block [] ++ (structure ++ strings))

-- a root with one property, a = <1>
abbrev pub one_cell : Reading
one_cell = record {
  boot_cpu = 0;
  reservations = [];
  properties = record { name = codes "a"; value = word 1 } ∷ [];
  children = no_nodes;
}

-- the same with a NOP before each token
abbrev pub blob_with_nops : List ℕ
blob_with_nops = blob_of (words (4 ∷ 1 ∷ 0 ∷ 4 ∷ 3 ∷ 4 ∷ 0 ∷ 1 ∷ 4 ∷ 2 ∷ 4 ∷ 9 ∷ [])) (codes "a" ++ 0 ∷ [])

-- the same with the name as the end of a longer one
abbrev pub blob_with_suffix : List ℕ
blob_with_suffix = blob_of (words (1 ∷ 0 ∷ 3 ∷ 4 ∷ 1 ∷ 1 ∷ 2 ∷ 9 ∷ [])) (codes "ba" ++ 0 ∷ [])

-- a root with a child n, and behind it an empty property a
abbrev pub blob_with_late_property : List ℕ
blob_with_late_property =
    blob_of (words (1 ∷ 0 ∷ 1 ∷ []) ++ (codes "n" ++ (0 ∷ 0 ∷ 0 ∷ words (2 ∷ 3 ∷ 0 ∷ 0 ∷ 2 ∷ 9 ∷ [])))) (codes "a" ++ 0 ∷ [])
