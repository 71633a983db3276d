-- The names of nodes, properties and labels (Devicetree Specification v0.4, 2.2.1, 2.2.4.1 and 6.2; one set of bytes for
-- nodes and properties, and up to 255 bytes, are this project's choice).
use Rattle.std.specs.Prelude.{◌≢◌, ℕ, ◌<◌, ◌≤◌, ◌==◌, ◌||◌, ◌&&◌, Bool, not, nat_le, nat_lt, List, length, slice_index, IsTrue, All, count_by, codes}
use Rattle.std.specs.List.{list_all}
use Rattle.dt_model.specs.Limits.{most_name_bytes}

-- the bytes of a node's, a property's or a label's name
abbrev pub Name : Type 0
Name = List ℕ

-- a letter
abbrev pub is_letter : ℕ → Bool
is_letter b = (nat_le 97 b && nat_le b 122) || (nat_le 65 b && nat_le b 90)

abbrev pub is_digit : ℕ → Bool
is_digit b = nat_le 48 b && nat_le b 57

-- a letter, a digit, or one of , . _ + - * # ?
abbrev pub is_name_byte : ℕ → Bool
is_name_byte b =
    is_letter b || is_digit b || (b == 44) || (b == 46) || (b == 95) || (b == 43) || (b == 45) || (b == 42) || (b == 35) || (b == 63)

-- what a property may be called
pub record IsPropertyName (name : Name) : Type 0 where
  pub not_empty : 0 < length name
  pub short : length name ≤ most_name_bytes
  pub allowed : All (λ b. IsTrue (is_name_byte b)) name

-- what a node other than the root may be called: a name, and perhaps an @ and a unit address
pub record IsNodeName (name : Name) : Type 0 where
  pub not_empty : 0 < length name
  pub short : length name ≤ most_name_bytes
  pub allowed : All (λ b. IsTrue (is_name_byte b || (b == 64))) name
  pub one_at : count_by (λ b. b == 64) name ≤ 1
  pub not_first : slice_index name 0 ≢ 64

-- what a label may be: letters, digits and _, no digit first, and not the text phandle
pub record IsLabel (label : Name) : Type 0 where
  pub not_empty : 0 < length label
  pub short : length label ≤ most_name_bytes
  pub allowed : All (λ b. IsTrue (is_letter b || is_digit b || (b == 95))) label
  pub no_digit_first : ¬ IsTrue (is_digit (slice_index label 0))
  pub not_phandle : label ≢ codes "phandle"

-- ---- tests, for the definitions that compute

abbrev pub is_property_name : Name → Bool
is_property_name name = nat_lt 0 (length name) && nat_le (length name) most_name_bytes && list_all is_name_byte name

abbrev pub is_node_name : Name → Bool
is_node_name name =
    nat_lt 0 (length name) && nat_le (length name) most_name_bytes && list_all (λ b. is_name_byte b || (b == 64)) name
    && nat_le (count_by (λ b. b == 64) name) 1 && not (slice_index name 0 == 64)
