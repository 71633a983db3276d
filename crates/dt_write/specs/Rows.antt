-- Names with their numbers, in falling order of their bytes from the end.
use Rattle.std.specs.Prelude.{◌≡◌, ℕ, zero, suc, ◌+◌, ◌*◌, ◌<◌, ◌≤◌, nat_lt, List, [], ◌∷◌, length, reverse, take, Option, Some, None, if◌then◌else◌, slice_index_or}
use Rattle.std.specs.Borrow.{Bor}
use Rattle.std.specs.Cmp.Lexicographic.{slice_cmp}
use Rattle.std.specs.List.{flat_map, AllByRecursion}
use Rattle.std.specs.List.Sorted.{IsPermutation, IsSortedBy}
use Rattle.std.specs.Ordering.{nat_cmp, is_lt}
use Rattle.dt_model.specs.Format.{IsText}
use Rattle.dt_model.specs.Limits.{most_bytes}
use Rattle.dt_model.specs.Names.{Name}
use Rattle.dt_model_format.specs.Strings.{terminated}
use Rattle.dt_write.specs.declared.sharing.Row.{Row}
use Rattle.dt_write.specs.Written.{kept_of, strings_block}
use Rattle.dt_write.specs.Sharing.{ends, IsHolder}

-- so many bytes from the front on as a number, zeros where there are fewer
abbrev pub leading : List ℕ → ℕ → ℕ
leading bytes zero = 0
leading bytes (suc count) = leading bytes count * 256 + slice_index_or bytes count 0

abbrev pub tail_of : Name → ℕ
tail_of name = leading (reverse name) 8

-- names with their numbers; the first is given
abbrev pub rows_from : ℕ → List (Bor (List ℕ)) → List Row
rows_from number [] = []
rows_from number (name ∷ names) = record { name = name; number = number; tail = tail_of name.now } ∷ rows_from (suc number) names

-- the rows are the names with their numbers, and the name of each is no later than those before it, by their bytes from the end
pub record AreRows (names : List (Bor (List ℕ))) (rows : List Row) : Type 0 where
  pub numbered : IsPermutation (rows_from 0 names) rows
  pub fall : IsSortedBy (λ (a b : Row). is_lt (slice_cmp nat_cmp (reverse b.name.now) (reverse a.name.now))) rows

-- the lesser of two numbers; one may be missing
abbrev pub lesser : Option ℕ → ℕ → ℕ
lesser None n = n
lesser (Some a) n = if nat_lt a n then a else n

-- the least number of the rows at the front that end with the name, and one that may be there
abbrev pub gathered : Name → Option ℕ → List Row → Option ℕ
gathered name least [] = least
gathered name least (row ∷ stack) = if ends name row.name.now then gathered name (Some (lesser least row.number)) stack else least

-- the rows from the first on that doesn't end with the name
abbrev pub left : Name → List Row → List Row
left name [] = []
left name (row ∷ stack) = if ends name row.name.now then left name stack else row ∷ stack

-- each name has the number of the first one that is stored and ends with it
pub record AreHolders (names : List Name) (holders : List ℕ) : Type 0 where
  pub count : length holders ≡ length names
  pub each : (i : ℕ) → i < length names → IsHolder names (slice_index_or names i []) (slice_index_or holders i 0)

-- how many bytes the stored names before each name take
pub record AreStarts (names : List Name) (starts : List ℕ) : Type 0 where
  pub count : length starts ≡ length names
  pub each : (i : ℕ) → i < length names → slice_index_or starts i 0 ≡ length (flat_map terminated (kept_of names (take i names)))

-- the strings block of the names, which fits a blob
pub record AreStrings (names : List Name) (owners begins : List ℕ) (bytes : ℕ) : Type 0 where
  pub texts : AllByRecursion IsText names
  pub holders : AreHolders names owners
  pub starts : AreStarts names begins
  pub size : bytes ≡ length (strings_block names)
  pub short : bytes ≤ most_bytes
