-- Things that belong to owners. The rank of a thing is one more than its place, so that 0 is the rank of none.
use Rattle.std.specs.Prelude.{◌≡◌, ℕ, zero, suc, ◌==◌, if◌then◌else◌, List, [], ◌∷◌, drop, slice_index}
use Rattle.std.specs.List.{slice_index_or}
use Rattle.dt_flat.specs.declared.chain.Link.{Link}
use Rattle.dt_flat.specs.declared.chain.Ends.{Ends}

-- the ranks of those that belong to p, where the first of these things has rank i
abbrev pub ranks : ℕ → List ℕ → ℕ → List ℕ
ranks i [] p = []
ranks i (o ∷ os) p = if o == p then i ∷ ranks (suc i) os p else ranks (suc i) os p

-- the rank of the first of them
abbrev pub first_rank : ℕ → List ℕ → ℕ → ℕ
first_rank i [] p = 0
first_rank i (o ∷ os) p = if o == p then i else first_rank (suc i) os p

-- a rank, or another in the place of none
abbrev pub rank_or : ℕ → ℕ → ℕ
rank_or zero other = other
rank_or (suc k) other = suc k

-- the rank of the last of them
abbrev pub last_rank : ℕ → List ℕ → ℕ → ℕ
last_rank i [] p = 0
last_rank i (o ∷ os) p = rank_or (last_rank (suc i) os p) (if o == p then i else 0)

-- those from the thing of a rank on that have its owner
abbrev pub ranks_left : List ℕ → ℕ → List ℕ
ranks_left owners zero = []
ranks_left owners (suc k) = suc k ∷ ranks (suc (suc k)) (drop (suc k) owners) (slice_index owners k)

-- ---- what is kept

abbrev pub owners_kept : List Link → List ℕ
owners_kept [] = []
owners_kept (l ∷ ls) = l.owner ∷ owners_kept ls

-- the links of things with these owners
abbrev pub linked : ℕ → List ℕ → List Link
linked i [] = []
linked i (o ∷ os) = record { owner = o; next = first_rank (suc i) os o } ∷ linked (suc i) os

abbrev pub ends_at : List Ends → ℕ → Ends
ends_at es p = slice_index_or es p (record { first = 0; last = 0 })

-- the thing of rank k has the next one of rank r
abbrev pub mark : ℕ → List Link → ℕ → ℕ → List Link
mark i [] k r = []
mark i (l ∷ ls) k r = if k == i then record l { next = r } ∷ ls else l ∷ mark (suc i) ls k r

-- the ends of an owner after one more thing, of rank r
abbrev pub ends_with : Ends → ℕ → Ends
ends_with e r = record { first = rank_or e.first r; last = r }

-- each thing knows the next one of its owner, and each owner its first and its last
pub record IsLinked (ls : List Link) (es : List Ends) : Type 0 where
  pub links : ls ≡ linked 1 (owners_kept ls)
  pub first : (p : ℕ) → (ends_at es p).first ≡ first_rank 1 (owners_kept ls) p
  pub last : (p : ℕ) → (ends_at es p).last ≡ last_rank 1 (owners_kept ls) p
