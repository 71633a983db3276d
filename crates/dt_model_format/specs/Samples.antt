-- Blobs with one damage each.
use Rattle.std.specs.Prelude.{ℕ, ◌+◌, List, [], ◌∷◌, ◌++◌, take, drop, Some, None, codes}
use Rattle.dt_model.specs.Format.{word}
use Rattle.dt_model.specs.Samples.{words, blob_of, blob_with_late_property}
use Rattle.dt_model.specs.Checks.{short_header, bad_magic, bad_total, bad_version, misaligned, block_outside, no_reservation_end, bad_tag, structure_cut, bad_name, bad_name_offset, bad_nesting, late_property, bad_end, duplicate, bad_phandle, IsFirstFault}

-- the blob of / { a = <1>; };
abbrev pub one_cell_blob : List ℕ
one_cell_blob = blob_of (words (1 ∷ 0 ∷ 3 ∷ 4 ∷ 0 ∷ 1 ∷ 2 ∷ 9 ∷ [])) (codes "a" ++ 0 ∷ [])

-- the bytes with the word at an offset replaced
abbrev pub with_word : ℕ → ℕ → List ℕ → List ℕ
with_word at n bytes = take at bytes ++ (word n ++ drop (at + 4) bytes)

pub record DamagedBlobs : Type 0 where
  pub short : IsFirstFault (take 39 one_cell_blob) short_header None
  pub magic : IsFirstFault (0 ∷ drop 1 one_cell_blob) bad_magic None
  pub total : IsFirstFault (take 89 one_cell_blob) bad_total None
  pub version : IsFirstFault (with_word 20 16 one_cell_blob) bad_version None
  pub last_compatible : IsFirstFault (with_word 24 0x12 one_cell_blob) bad_version None
  pub aligned : IsFirstFault (with_word 8 0x39 one_cell_blob) misaligned None
  pub outside : IsFirstFault (with_word 32 3 one_cell_blob) block_outside None
  pub reservations : IsFirstFault (with_word 16 0x38 one_cell_blob) no_reservation_end None
  pub tag : IsFirstFault (with_word 56 5 one_cell_blob) bad_tag (Some 56)
  pub cut : IsFirstFault (with_word 68 0x100 one_cell_blob) structure_cut (Some 64)
  pub root_name : IsFirstFault (take 60 one_cell_blob ++ (0x41 ∷ drop 61 one_cell_blob)) bad_name (Some 56)
  pub property_name : IsFirstFault (with_word 72 1 one_cell_blob) bad_name (Some 64)
  pub name_offset : IsFirstFault (with_word 72 2 one_cell_blob) bad_name_offset (Some 64)
  pub nesting : IsFirstFault (with_word 80 9 one_cell_blob) bad_nesting (Some 80)
  pub no_end : IsFirstFault (with_word 84 4 one_cell_blob) structure_cut (Some 88)
  pub late : IsFirstFault blob_with_late_property late_property (Some 76)
  -- two properties of one name
  pub twice : IsFirstFault (blob_of (words (1 ∷ 0 ∷ 3 ∷ 0 ∷ 0 ∷ 3 ∷ 0 ∷ 0 ∷ 2 ∷ 9 ∷ [])) (codes "a" ++ 0 ∷ [])) duplicate None
  -- a word behind END, a second root, and no root
  pub behind : IsFirstFault (blob_of (words (1 ∷ 0 ∷ 2 ∷ 9 ∷ 4 ∷ [])) []) bad_end (Some 68)
  pub second_root : IsFirstFault (blob_of (words (1 ∷ 0 ∷ 2 ∷ 1 ∷ 0 ∷ 2 ∷ 9 ∷ [])) []) bad_nesting (Some 68)
  pub no_root : IsFirstFault (blob_of (words (3 ∷ 0 ∷ 0 ∷ 9 ∷ [])) (codes "a" ++ 0 ∷ [])) bad_nesting (Some 56)
  -- a property `phandle` with the number 0
  pub phandle : IsFirstFault (blob_of (words (1 ∷ 0 ∷ 3 ∷ 4 ∷ 0 ∷ 0 ∷ 2 ∷ 9 ∷ [])) (codes "phandle" ++ 0 ∷ [])) bad_phandle None
