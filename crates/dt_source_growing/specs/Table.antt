-- Tables from an index and a name, or from a name alone.
use Rattle.std.specs.Prelude.{◌≡◌, ℕ, ◌+◌, ◌<◌, ◌≤◌, ◌==◌, ◌⊎◌, Bool, true, false, List, length, slice_get, Option, Some, None, ◌&&◌, nat_eq, cond, if◌then◌else◌}
use Rattle.std.specs.List.{slice_index_or}
use Rattle.std.specs.Map.{lookup}
use Rattle.std.specs.Str.{bytes_eq}
use Rattle.dt_model.specs.Names.{Name}
use Rattle.dt_names.specs.declared.key.NameKey.{NameKey}
use Rattle.dt_source_growing.specs.declared.table.Last.{Last}
use Rattle.dt_source_growing.specs.declared.table.Span.{Span}

-- a key is an index and the bytes of a name
abbrev pub Key : Type 0
Key = ℕ × NameKey

-- whether it is the key of the index i and the name x
abbrev pub is_key : ℕ → Name → Key → Bool
is_key i x k = nat_eq i k.0 && bytes_eq x k.1.bytes.now

-- the entry of the index i and the name x
abbrev pub entry : List (Key × Last) → ℕ → Name → Option Last
entry entries i x = lookup (is_key i x) entries

-- the new entries are the old ones with w at the index i and the name x
abbrev pub Puts : List (Key × Last) → List (Key × Last) → ℕ → Name → Last → Type 0
Puts old new i x w = (j : ℕ) (y : Name) → entry new j y ≡ cond (nat_eq i j && bytes_eq x y) (Some w) (entry old j y)

-- where the entries of the index i lie
abbrev pub span_at : List Span → ℕ → Span
span_at spans i = slice_index_or spans i (record { first = 0; behind = 0; spills = false })

-- the rows of the index i lie in the span
abbrev pub LieIn : List (Key × Last) → ℕ → Span → Type 0
LieIn rows i span = (j : ℕ) (e : Key × Last) → slice_get rows j ≡ Some e → e.0.0 ≡ i → (span.first ≤ j) × (j < span.behind)

-- the first row of the index i and the name x has this place
abbrev pub IsFirstOf : List (Key × Last) → ℕ → Name → ℕ → Type 0
IsFirstOf rows i x place = (e : Key × Last) × (slice_get rows place ≡ Some e) × (is_key i x e.0 ≡ true)
    × ((j : ℕ) (f : Key × Last) → j < place → slice_get rows j ≡ Some f → is_key i x f.0 ≡ false)

-- one more row may come behind so many rows
pub record HasRoom (span : Span) (rows : ℕ) : Type 0 where
  pub alone : span.spills ≡ false
  pub last : (span.first ≡ span.behind) ⊎ (span.behind ≡ rows)

-- where the rows of an index lie with one more row behind so many rows
abbrev pub longer : Span → ℕ → Span
longer span rows = record { first = if span.first == span.behind then rows else span.first; behind = rows + 1; spills = false }

-- the rows of each index lie in its span, and where that doesn't spill, all its entries do
pub record AreSpans (rows : List (Key × Last)) (spans : List Span) (hashed : List (Key × Last)) : Type 0 where
  pub within : (i : ℕ) → LieIn rows i (span_at spans i)
  pub ordered : (i : ℕ) → (span_at spans i).first ≤ (span_at spans i).behind
  pub ends : (i : ℕ) → (span_at spans i).behind ≤ length rows
  pub alone : (i : ℕ) (x : Name) → (span_at spans i).spills ≡ false → entry hashed i x ≡ None

-- the entry of the name alone
abbrev pub name_entry : List (NameKey × ℕ) → Name → Option ℕ
name_entry entries x = lookup (λ (k : NameKey). bytes_eq x k.bytes.now) entries

-- the new entries are the old ones with w at the name x
abbrev pub PutsName : List (NameKey × ℕ) → List (NameKey × ℕ) → Name → ℕ → Type 0
PutsName old new x w = (y : Name) → name_entry new y ≡ cond (bytes_eq x y) (Some w) (name_entry old y)
