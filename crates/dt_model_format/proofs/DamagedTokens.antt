-- Blobs with a damage in one token.
use Rattle.std.proofs.Common.{◌≡◌, ◌≢◌, ℕ, ◌+◌, true, false, List, [], ◌∷◌, ◌++◌, drop, take, codes, Some, None, refl, arith}
use Rattle.dt_model.specs.Format.{begin_node, end_node, word, Spells, reservation_block}
use Rattle.dt_model.specs.Samples.{words, blob_of}
use Rattle.dt_model.specs.Checks.{BlobFault, over_limit, bad_tag, structure_cut, bad_name, bad_name_offset, bad_nesting, bad_end, number, counted, header_fault, strings_of, structure_of, front, token_fault, StopsAt, IsFirstFault, at_a_token}
use Rattle.dt_model_format.specs.Samples.{one_cell_blob, with_word}
use Rattle.dt_model_format.proofs.Leads.{at}

-- a blob with no reservations, in which a token is wrong
pub stopped : (bytes behind : List ℕ) (fault : BlobFault) (offset : ℕ) → header_fault bytes ≡ None → drop (number bytes 16) (counted bytes) ≡ reservation_block [] ++ behind → fault ≢ over_limit → StopsAt (strings_of bytes) (structure_of bytes) offset fault → IsFirstFault bytes fault (Some (number bytes 8 + offset))
stopped bytes behind fault offset passes reservations other stops = at_a_token passes ([], behind, tt, reservations) fault offset other stops

-- the first token is wrong
at_front : (strings block : List ℕ) (fault : BlobFault) → token_fault strings front block ≡ Some fault → StopsAt strings block 0 fault
at_front strings block fault wrong = record { tokens = []; before = []; rest = block; position = front; whole = refl; place = refl; spelled = refl; led = refl; wrong = wrong }

pub root_spelled : (strings : List ℕ) → Spells strings (begin_node []) (words (1 ∷ 0 ∷ []))
root_spelled strings = record { text = tt; bytes = record { padding = 0 ∷ 0 ∷ 0 ∷ []; whole = refl; short = omega arith; aligned = refl } }

-- the token behind the beginning of the root is wrong
behind_begin : (strings block rest : List ℕ) (fault : BlobFault) → block ≡ words (1 ∷ 0 ∷ []) ++ rest → token_fault strings (at 1 false 1) rest ≡ Some fault → StopsAt strings block 8 fault
behind_begin strings block rest fault whole wrong = record {
  tokens = begin_node [] ∷ [];
  before = words (1 ∷ 0 ∷ []);
  rest = rest;
  position = at 1 false 1;
  whole = whole;
  place = refl;
  spelled = (words (1 ∷ 0 ∷ []), [], refl, root_spelled strings, refl);
  led = refl;
  wrong = wrong;
}

-- the token behind an empty root is wrong
behind_root : (strings block rest : List ℕ) (fault : BlobFault) → block ≡ words (1 ∷ 0 ∷ 2 ∷ []) ++ rest → token_fault strings (at 0 true 1) rest ≡ Some fault → StopsAt strings block 12 fault
behind_root strings block rest fault whole wrong = record {
  tokens = begin_node [] ∷ end_node ∷ [];
  before = words (1 ∷ 0 ∷ 2 ∷ []);
  rest = rest;
  position = at 0 true 1;
  whole = whole;
  place = refl;
  spelled = (words (1 ∷ 0 ∷ []), words (2 ∷ []), refl, root_spelled strings, (word 2, [], refl, refl, refl));
  led = refl;
  wrong = wrong;
}

pub tag_faulted : IsFirstFault (with_word 56 5 one_cell_blob) bad_tag (Some 56)
tag_faulted = stopped _ (drop 56 (with_word 56 5 one_cell_blob)) bad_tag 0 refl refl (λ e. cc) (at_front _ _ bad_tag refl)

pub cut_faulted : IsFirstFault (with_word 68 0x100 one_cell_blob) structure_cut (Some 64)
cut_faulted = stopped _ (drop 56 (with_word 68 0x100 one_cell_blob)) structure_cut 8 refl refl (λ e. cc) (behind_begin _ _ (words (3 ∷ 0x100 ∷ 0 ∷ 1 ∷ 2 ∷ 9 ∷ [])) structure_cut refl refl)

pub root_name_faulted : IsFirstFault (take 60 one_cell_blob ++ (0x41 ∷ drop 61 one_cell_blob)) bad_name (Some 56)
root_name_faulted = stopped _ (words (1 ∷ []) ++ (0x41 ∷ drop 61 one_cell_blob)) bad_name 0 refl refl (λ e. cc) (at_front _ _ bad_name refl)

pub property_name_faulted : IsFirstFault (with_word 72 1 one_cell_blob) bad_name (Some 64)
property_name_faulted = stopped _ (drop 56 (with_word 72 1 one_cell_blob)) bad_name 8 refl refl (λ e. cc) (behind_begin _ _ (words (3 ∷ 4 ∷ 1 ∷ 1 ∷ 2 ∷ 9 ∷ [])) bad_name refl refl)

pub name_offset_faulted : IsFirstFault (with_word 72 2 one_cell_blob) bad_name_offset (Some 64)
name_offset_faulted = stopped _ (drop 56 (with_word 72 2 one_cell_blob)) bad_name_offset 8 refl refl (λ e. cc) (behind_begin _ _ (words (3 ∷ 4 ∷ 2 ∷ 1 ∷ 2 ∷ 9 ∷ [])) bad_name_offset refl refl)

pub behind_faulted : IsFirstFault (blob_of (words (1 ∷ 0 ∷ 2 ∷ 9 ∷ 4 ∷ [])) []) bad_end (Some 68)
behind_faulted = stopped _ (words (1 ∷ 0 ∷ 2 ∷ 9 ∷ 4 ∷ [])) bad_end 12 refl refl (λ e. cc) (behind_root _ _ (words (9 ∷ 4 ∷ [])) bad_end refl refl)

pub second_root_faulted : IsFirstFault (blob_of (words (1 ∷ 0 ∷ 2 ∷ 1 ∷ 0 ∷ 2 ∷ 9 ∷ [])) []) bad_nesting (Some 68)
second_root_faulted = stopped _ (words (1 ∷ 0 ∷ 2 ∷ 1 ∷ 0 ∷ 2 ∷ 9 ∷ [])) bad_nesting 12 refl refl (λ e. cc) (behind_root _ _ (words (1 ∷ 0 ∷ 2 ∷ 9 ∷ [])) bad_nesting refl refl)

pub no_root_faulted : IsFirstFault (blob_of (words (3 ∷ 0 ∷ 0 ∷ 9 ∷ [])) (codes "a" ++ 0 ∷ [])) bad_nesting (Some 56)
no_root_faulted = stopped _ (words (3 ∷ 0 ∷ 0 ∷ 9 ∷ []) ++ (codes "a" ++ 0 ∷ [])) bad_nesting 0 refl refl (λ e. cc) (at_front _ _ bad_nesting refl)
